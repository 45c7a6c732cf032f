-- Demand 1, for the folded multiply and the secrets: no contract leaves a choice. Two answers that one contract allows for the same
-- input are equal, whatever the arguments hold at each exit. (That every call takes any input and ends is what the verdict says of a function
-- without a `requires`.) Assumes nothing.
use Rattle.std.proofs.Common.{◌≡◌, ℕ, eqb, Option, Some, None, sym, refl, ap, ◌∙◌}
use Rattle.secrets.specs.Choice.{pick}
use Rattle.secrets.specs.Numbers.{Returned, returned}
use Rattle.secrets.proofs.util.mix.rapid_mum.Reads as rapid-mum
use Rattle.secrets.proofs.util.mix.rapid_mix.Reads as rapid-mix
use Rattle.secrets.proofs.v3.seed.RapidSecrets.seed.Reads as seed
use Rattle.secrets.proofs.v3.seed.RapidSecrets.reseed.Reads as reseed
use Rattle.secrets.proofs.v3.seed.RapidSecrets.seed_cpp.Reads as seed-cpp
use Rattle.secrets.proofs.v3.seed.RapidSecrets.default_secrets.Reads as default-secrets
use Rattle.secrets.proofs.v3.seed.RapidSecrets.secret.Reads as secret

-- a contract P of arguments a, an answer r and what the arguments hold at exit s allows one answer, also where two come with two exits
abbrev pub OneAnswer : {K : Type 0} {A R S : K → Type 0} → ((κ : K) → A κ → R κ → S κ → Type 0) → Type 0
OneAnswer {K} {A} {R} {S} P = (κ : K) (a : A κ) (r₁ r₂ : R κ) (s₁ s₂ : S κ) → P κ a r₁ s₁ → P κ a r₂ s₂ → r₁ ≡ r₂

-- the law for every contract that is an equation of the answer
pub one : {A : Type 0} {x y z : A} → x ≡ z → y ≡ z → x ≡ y
one p q = p ∙ sym q

-- the law for every contract that is an equation of what the answer tells: what can be told back from it is one answer
pub told_back : {A B : Type 0} (told : A → B) (back : B → A) → ((x : A) → back (told x) ≡ x) → (x y : A) → told x ≡ told y → x ≡ y
told_back told back is x y e = sym (is x) ∙ ap back e ∙ is y

-- a look-up is told back from its number and value
found : Returned → Option ℕ
found r = pick (eqb r.number 0) (Some r.value) None

found_back : (x : Option ℕ) → found (returned x) ≡ x
unfolding found
found_back (Some v) = refl
found_back None = refl

pub found_apart : (x y : Option ℕ) → returned x ≡ returned y → x ≡ y
found_apart = told_back returned found found_back

pub rapid_mum_one : OneAnswer rapid-mum.Post
rapid_mum_one κ a r₁ r₂ s₁ s₂ p q = one p q

pub rapid_mix_one : OneAnswer rapid-mix.Post
rapid_mix_one κ a r₁ r₂ s₁ s₂ p q = one p q

pub seed_one : OneAnswer seed.Post
seed_one κ a r₁ r₂ s₁ s₂ p q = one p q

pub reseed_one : OneAnswer reseed.Post
reseed_one κ a r₁ r₂ s₁ s₂ p q = one p q

pub seed_cpp_one : OneAnswer seed-cpp.Post
seed_cpp_one κ a r₁ r₂ s₁ s₂ p q = one p q

pub default_secrets_one : OneAnswer default-secrets.Post
default_secrets_one κ a r₁ r₂ s₁ s₂ p q = one p q

pub secret_one : OneAnswer secret.Post
secret_one κ a r₁ r₂ s₁ s₂ p q = found_apart r₁ r₂ (one p q)
