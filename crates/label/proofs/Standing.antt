-- The header reading and the rows of the table say the same of a place. Assumes nothing.
use Rattle.std.proofs.Common.{◌≡◌, ℕ, ◌+◌, ◌<◌, ◌≤◌, List, length, get_or, refl, subst, lt_of_not-le, Option, Some, None, Result, Ok}
use Rattle.std.proofs.Math.Decide.{dec_le}
use Rattle.rapidhash.specs.Words.{word}
use Rattle.label.specs.Label.{table, header_of}
use Rattle.label.specs.Rows.{Stands, header_cut, no_such_tag, not_above, length_short, length_long, value_cut, field}
use Rattle.label.specs.declared.field.Field.{Field}
use Rattle.label.specs.declared.field.Lengths.{Lengths}
use Rattle.label.specs.declared.field.Refusal.{Refusal}
use Rattle.label.proofs.HeaderLaws.{header_cut_lem, header_no_field, header_not_above, header_too_short, header_too_long, value_cut_lem, header_field}

module _ (s : List ℕ) (at before : ℕ) where
  -- what the rows say is what is read
  pub stands_read : {l : Result Field Refusal} → Stands s at before l → header_of s at before ≡ l
  stands_read (header_cut h) = header_cut_lem s at before h
  stands_read (no_such_tag w n) = header_no_field s at before w n
  stands_read (not_above w k n) = header_not_above s at before w k n
  stands_read (length_short w k a n) = header_too_short s at before w k a n
  stands_read (length_long w k a e n) = header_too_long s at before w k a e n
  stands_read (value_cut w k a e f n) = value_cut_lem s at before w k a e f n
  stands_read (field w k a e f h) = header_field s at before w k a e f h

  stands : {l : Result Field Refusal} → header_of s at before ≡ l → Stands s at before l → Stands s at before (header_of s at before)
  stands e h = rw e h

  -- what stands where the table has a row, by the tests in their order
  module _ {row : Lengths} (w : at + 3 ≤ length s) (k : table (get_or s at 0) ≡ Some row) where
    value : before < get_or s at 0 → row.least ≤ word 2 s (at + 1) → word 2 s (at + 1) ≤ row.most
        → Dec (at + 3 + word 2 s (at + 1) ≤ length s) → Stands s at before (header_of s at before)
    value a e f (yes h) = stands (header_field s at before w k a e f h) (field w k a e f h)
    value a e f (no n) = stands (value_cut_lem s at before w k a e f (lt_of_not-le n)) (value_cut w k a e f (lt_of_not-le n))

    most_of : before < get_or s at 0 → row.least ≤ word 2 s (at + 1) → Dec (word 2 s (at + 1) ≤ row.most)
        → Stands s at before (header_of s at before)
    most_of a e (yes f) = value a e f (dec_le (at + 3 + word 2 s (at + 1)) (length s))
    most_of a e (no n) = stands (header_too_long s at before w k a e (lt_of_not-le n)) (length_long w k a e (lt_of_not-le n))

    least_of : before < get_or s at 0 → Dec (row.least ≤ word 2 s (at + 1)) → Stands s at before (header_of s at before)
    least_of a (yes e) = most_of a e (dec_le (word 2 s (at + 1)) row.most)
    least_of a (no n) = stands (header_too_short s at before w k a (lt_of_not-le n)) (length_short w k a (lt_of_not-le n))

    above : Dec (get_or s at 0 ≤ before) → Stands s at before (header_of s at before)
    above (yes n) = stands (header_not_above s at before w k n) (not_above w k n)
    above (no n) = least_of (lt_of_not-le n) (dec_le row.least (word 2 s (at + 1)))

  -- and what is read is in a row
  pub read_stands : Stands s at before (header_of s at before)
  read_stands = whole (dec_le (at + 3) (length s))
    where
      known : at + 3 ≤ length s → (o : Option Lengths) → table (get_or s at 0) ≡ o → Stands s at before (header_of s at before)
      known w None k = stands (header_no_field s at before w k) (no_such_tag w k)
      known w (Some row) k = above w k (dec_le (get_or s at 0) before)

      whole : Dec (at + 3 ≤ length s) → Stands s at before (header_of s at before)
      whole (yes w) = known w (table (get_or s at 0)) refl
      whole (no n) = stands (header_cut_lem s at before (lt_of_not-le n)) (header_cut (lt_of_not-le n))

  -- so a field is just what a row says
  pub field_stands : {f : Field} → header_of s at before ≡ Ok f → Stands s at before (Ok f)
  field_stands e = subst (λ (l : Result Field Refusal). Stands s at before l) e read_stands

-- what is known of a field that stands at a place
pub record Standing (s : List ℕ) (at before : ℕ) (f : Field) : Type 0 where
  pub tag : f.tag ≡ get_or s at 0
  pub place : f.place ≡ at
  pub start : f.start ≡ at + 3
  pub size : f.length ≡ word 2 s (at + 1)
  pub above : before < f.tag
  pub within : f.start + f.length ≤ length s
  pub row : Lengths
  pub known : table f.tag ≡ Some row
  pub enough : row.least ≤ f.length
  pub fits : f.length ≤ row.most

pub standing : (s : List ℕ) (at before : ℕ) {f : Field} → Stands s at before (Ok f) → Standing s at before f
standing s at before (field {row} w k a e f h) =
    record {
      tag = refl;
      place = refl;
      start = refl;
      size = refl;
      above = a;
      within = h;
      row = row;
      known = k;
      enough = e;
      fits = f;
    }
