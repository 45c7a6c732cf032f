-- Windows, premixes and links one after another, to what `seed`, `reseed` and `seed_cpp` make. Assumes nothing.
use Rattle.std.proofs.Common.{◌≡◌, ℕ, ◌<◌, ◌≤◌, true, [], ◌∷◌, get_or, refl, le-leb}
use borrow.Author.Tests.{lt-leb}
use Rattle.secrets.specs.Choice.{all_are}
use Rattle.secrets.specs.Mix.{low, high, mum, mix}
use Rattle.secrets.specs.Numbers.{done, past_end}
use Rattle.secrets.specs.Secrets.{defaults, mend, repair, stirred, premix, chain, seed_of, reseed_of, seed_cpp, secret_of}
use Rattle.secrets.specs.declared.v3.seed.RapidSecrets.{RapidSecrets}

-- the three windows in turn, each with its bit
pub three_mended : (x : ℕ) {u v w : ℕ} → u ≡ mend 48 63 x → v ≡ mend 24 31 u → w ≡ mend 0 0 v → w ≡ repair x
unfolding repair
three_mended x eu ev ew = rw (← eu, ← ev) ew

-- stirred, then repaired
pub premixed : (i x : ℕ) {y z : ℕ} → y ≡ stirred i x → z ≡ repair y → z ≡ premix i x
unfolding premix
premixed i x ey ez = rw (← ey) ez

-- the seed and the seven links after it
pub chain_of_seven : (x : ℕ) {q s₀ s₁ s₂ s₃ s₄ s₅ s₆ : ℕ} → q ≡ premix 0 x → s₀ ≡ premix 0 q → s₁ ≡ premix 1 s₀ → s₂ ≡ premix 2 s₁
    → s₃ ≡ premix 3 s₂ → s₄ ≡ premix 4 s₃ → s₅ ≡ premix 5 s₄ → s₆ ≡ premix 6 s₅
    → record { seed = q; secrets = s₀ ∷ s₁ ∷ s₂ ∷ s₃ ∷ s₄ ∷ s₅ ∷ s₆ ∷ [] } ≡ seed_of x
unfolding seed_of chain
chain_of_seven x e e₀ e₁ e₂ e₃ e₄ e₅ e₆ = rw (← e, ← e₀, ← e₁, ← e₂, ← e₃, ← e₄, ← e₅, ← e₆)

-- the seed premixed with 6, and the secrets kept
pub seed_again : (x : RapidSecrets) {y : ℕ} → y ≡ premix 6 x.seed → record { seed = y; secrets = x.secrets } ≡ reseed_of x
unfolding reseed_of
seed_again x e = rw e

-- the seed stirred with secret 1, and the default secrets
pub seed_plain : (x : ℕ) {y : ℕ} → y ≡ stirred 1 x → record { seed = y; secrets = defaults } ≡ seed_cpp x
unfolding seed_cpp
seed_plain x e = rw e

module _ (x : RapidSecrets) (i : ℕ) where
  -- a secret up to index 6
  pub secret_found : i ≤ 6 → done (get_or x.secrets i 0) ≡ secret_of x i
  secret_found h = rw (le-leb i 6 h)

  -- none over it
  pub secret_past : 6 < i → past_end ≡ secret_of x i
  secret_past h = rw (lt-leb i 6 h)

-- secrets that `seed` makes need not differ from each other: of this number all seven are the number itself
pub secrets_alike : all_are 0x4b33a62ed433d4a3 (seed_of 0x4b33a62ed433d4a3).secrets ≡ true
unfolding all_are seed_of chain premix stirred repair mend defaults mix mum low high
secrets_alike = refl
