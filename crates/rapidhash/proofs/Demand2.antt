-- Demand 2: what the three hashes have in common. Each public hash is `hash_of` at 7, 5 or 3 by its contract. Assumes nothing.
use Rattle.std.proofs.Common.{◌≡◌, ℕ, ◌*◌, ◌≤◌, Bool, List, length, sym, ◌∙◌, arith, Bor}
use contract.Lifetimes.{Lfts}
use Rattle.rapidhash.specs.Hash.{long_ends, ends_of, hash_of}
use Rattle.secrets.specs.declared.v3.seed.RapidSecrets.{RapidSecrets}
use Rattle.rapidhash.proofs.Classes.{reached_none}
use Rattle.rapidhash.proofs.v3.rapid_const.rapidhash_v3_inline.Reads as inline

-- COMPACT changes no answer: whatever the contract allows with one value of the flag and with the other is equal
pub compact_changes_nothing : (κ : Lfts 1) (d : Bor (List ℕ)) (x : RapidSecrets) (av p c₁ c₂ : Bool) (r₁ r₂ : ℕ) (s₁ s₂ : _)
    → inline.Post κ (d, (x, (av, (c₁, (p, tt))))) r₁ s₁ → inline.Post κ (d, (x, (av, (c₂, (p, tt))))) r₂ s₂ → r₁ ≡ r₂
compact_changes_nothing κ d x av p c₁ c₂ r₁ r₂ s₁ s₂ h k = h ∙ sym k

module _ (L M : ℕ) (p : Bool) (x : RapidSecrets) (s : List ℕ) (l : length s ≤ 16 * L) (m : length s ≤ 16 * M) where
  same_ends : ends_of L p x s ≡ ends_of M p x s
  unfolding ends_of long_ends
  same_ends = rw (← reached_none L p x s l, ← reached_none M p x s m)

  -- two sizes agree on every message that is not longer than the smaller chunk
  pub sizes_agree : (av : Bool) → hash_of L av p x s ≡ hash_of M av p x s
  unfolding hash_of
  sizes_agree av = rw same_ends

module _ (av p : Bool) (x : RapidSecrets) (s : List ℕ) where
  -- full and micro agree up to 80 bytes
  pub full_is_micro : length s ≤ 80 → hash_of 7 av p x s ≡ hash_of 5 av p x s
  full_is_micro h = sizes_agree 7 5 p x s (omega arith) h av

  -- full and nano agree up to 48 bytes
  pub full_is_nano : length s ≤ 48 → hash_of 7 av p x s ≡ hash_of 3 av p x s
  full_is_nano h = sizes_agree 7 3 p x s (omega arith) h av

  -- micro and nano agree up to 48 bytes
  pub micro_is_nano : length s ≤ 48 → hash_of 5 av p x s ≡ hash_of 3 av p x s
  micro_is_nano h = sizes_agree 5 3 p x s (omega arith) h av
