-- A word that is known to be there, out of the answer of a public read. Assumes nothing.
use Rattle.std.proofs.Common.{◌≡◌, ℕ, ◌+◌, ◌≤◌, List, length, Option, Some, None, sym, ap, ◌∙◌, arith, le-leb}
use Rattle.secrets.specs.Numbers.{Returned, returned, done}
use Rattle.rapidhash.specs.Words.{word, word_of}

module _ (n : ℕ) (s : List ℕ) (i : ℕ) (r : Option ℕ) (e : returned r ≡ word_of n s i) (h : i + n ≤ length s) where
  there : returned r ≡ done (word n s i)
  there = e ∙ rw (le-leb (i + n) (length s) h)

  -- the value is the word
  pub read_value : {w : ℕ} → r ≡ Some w → w ≡ word n s i
  read_value k = ap (λ (x : Returned). x.value) (sym (ap returned k) ∙ there)

  -- and no other answer comes
  pub read_never : {x : ℕ} → r ≡ None → x ≡ word n s i
  read_never k = let z : ◌≡◌ {A = ℕ} 3 0 = ap (λ (x : Returned). x.number) (sym (ap returned k) ∙ there) in absurd (omega arith)
