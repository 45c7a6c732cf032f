-- A good record whose end never arrives (docs/RULES.md, section 7.2): what its first bytes are read as, wherever they end. Assumes nothing.
use Rattle.std.specs.Prelude.{ℕ, ◌+◌, ◌<◌, ◌≡◌, List, [], ◌∷◌, ◌++◌, length, take, drop, Result, Ok}
use Rattle.label.specs.Label.{refused_at}
use Rattle.label.specs.Good.{Plain, written, laid_out, Present}
use Rattle.label.specs.declared.field.Why.TheVariants.{Cut, Missing}
use Rattle.label.specs.declared.field.Refusal.{Refusal}

-- what the first n bytes of the fields ps are read as. 6 at the field's start: they end inside a field, past its start and before its end.
-- 10 at n: they are the earlier fields (none, or all of them, included), and tag 1 or tag 2 is not among these. Else they are the earlier
-- fields, and good
pub data Arrives (ps : List Plain) (n : ℕ) : Result Unit Refusal → Type 0 where
  inside : (earlier : List Plain) (p : Plain) (later : List Plain) → ps ≡ earlier ++ (p ∷ later) → length (laid_out earlier) < n
      → n < length (laid_out earlier) + length (written p) → Arrives ps n (refused_at Cut (length (laid_out earlier)))
  lacking : (earlier later : List Plain) → ps ≡ earlier ++ later → n ≡ length (laid_out earlier) → (Present 1 earlier × Present 2 earlier → ⊥)
      → Arrives ps n (refused_at Missing n)
  whole : (earlier later : List Plain) → ps ≡ earlier ++ later → n ≡ length (laid_out earlier) → Present 1 earlier → Present 2 earlier
      → Arrives ps n (Ok tt)

-- only a missing end is seen so. A record, of which a byte is lost in the middle: the accession number 41, the title 54 68, the note 00 80 00 00
abbrev pub sent : List ℕ
sent =
    0x01 ∷ 0x01 ∷ 0x00 ∷ 0x41 ∷ 0x02 ∷ 0x02 ∷ 0x00 ∷ 0x54 ∷ 0x68 ∷ 0x04 ∷ 0x04 ∷ 0x00 ∷ 0x00 ∷ 0x80 ∷ 0x00 ∷ 0x00 ∷ []

-- the same without its byte 68
abbrev pub sent_less : List ℕ
sent_less = take 8 sent ++ drop 9 sent
