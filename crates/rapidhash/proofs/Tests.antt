-- A test of the code and a test of a definition that say the same. Assumes nothing.
use Rattle.std.proofs.Common.{◌≡◌, ℕ, ◌≤◌, Bool, true, false, leb, sym, ◌∙◌, lt_of_not-le, arith, le-leb}
use native.Mathlib.Decide.{dec_le}
use Rattle.secrets.specs.Choice.{pick}
use borrow.Author.Tests.{lt-leb}

-- two orders that follow from each other are one test
pub same_leb : (a b c d : ℕ) → (a ≤ b → c ≤ d) → (c ≤ d → a ≤ b) → leb a b ≡ leb c d
same_leb a b c d to from = go (dec_le a b)
  where
    go : Dec (a ≤ b) → leb a b ≡ leb c d
    go (yes h) = le-leb a b h ∙ sym (le-leb c d (to h))
    go (no n) = lt-leb a b (omega arith) ∙ sym (lt-leb c d (lt_of_not-le (λ k. n (from k))))

-- what both answers of a choice have, the choice has
pub either : {A : Type 0} (P : A → Type 0) (t : Bool) {x y : A} → P x → P y → P (pick t x y)
either P true h k = h
either P false h k = k
