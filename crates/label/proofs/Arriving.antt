-- The first bytes of a record: which of its fields they hold, where they end, and what they leave as it was. Assumes nothing.
use Rattle.std.proofs.Common.{◌≡◌, ℕ, ◌+◌, ◌-◌, ◌<◌, ◌≤◌, List, [], ◌∷◌, ◌++◌, length, get_or, take, sym, refl, ap, ◌∙◌, append_assoc, arith, length-append, length-take-le, get_or-take, Ok}
use Rattle.std.proofs.Math.Decide.{dec_le, dec_lt}
use Rattle.rapidhash.specs.Words.{word}
use Rattle.rapidhash.proofs.Words.{word-take}
use Rattle.label.specs.Label.{refused_at}
use Rattle.label.specs.Rows.{Stands, header_cut, value_cut, LedTo, start, next}
use Rattle.label.specs.Good.{Plain, written, laid_out, Ascending, above, InTable, sized}
use Rattle.label.specs.Good.Ascending.{none as no-tags}
use Rattle.label.specs.Good.InTable.{none as no_lengths}
use Rattle.label.specs.declared.field.Why.TheVariants.{Cut}
use Rattle.label.specs.declared.field.Field.{Field}
use Rattle.label.proofs.Standing.{standing}

module _ (s : List ℕ) (n : ℕ) (h : n ≤ length s) where
  -- the bytes that arrived are as they were
  pub size : length (take n s) ≡ n
  size = length-take-le n s h

  same_tag : (at : ℕ) → at < n → get_or (take n s) at 0 ≡ get_or s at 0
  same_tag at k = get_or-take n s at 0 k

  same_length : (at : ℕ) → at + 3 ≤ n → word 2 (take n s) (at + 1) ≡ word 2 s (at + 1)
  same_length at k = word-take 2 s n (at + 1) (omega arith)

  -- a field that ends within them stands as before
  still : {at before : ℕ} {f : Field} → Stands s at before (Ok f) → f.start + f.length ≤ n → Stands (take n s) at before (Ok f)
  still {at} {before} (Stands.field {row} w k a e f g) m =
      let t = same_tag at (omega arith) in
      let z = same_length at (omega arith) in
      rw (← t, ← z) (Stands.field {row = row} (rw size (omega arith)) (rw t k) (rw t a) (rw z e) (rw z f) (rw (z, size) m))

  -- so the fields that lead to a place within them still do
  pub still_led : {at before : ℕ} {fs : List Field} → LedTo s at before fs → at ≤ n → LedTo (take n s) at before fs
  still_led start m = start
  still_led (next {at} {before} {fs} {f} r st) m = next (still_led r (let k = standing s at before st in omega arith)) (still st m)

  -- and a field that ends past them is cut
  pub part_cut : {at before : ℕ} {f : Field} → Stands s at before (Ok f) → n < f.start + f.length → Stands (take n s) at before (refused_at Cut at)
  part_cut {at} {before} {f} st m = go (dec_le (at + 3) n)
    where
      go : Dec (at + 3 ≤ n) → Stands (take n s) at before (refused_at Cut at)
      go (no k) = header_cut (rw size (omega arith))
      go (yes w) =
          let q = standing s at before st in
          let t = same_tag at (omega arith) ∙ sym q.tag in
          let z = same_length at w ∙ sym q.size in
          value_cut {row = q.row} (rw size w) (rw t q.known) (rw t q.above) (rw z q.enough) (rw z q.fits) (rw (z, size) (rw q.start at m))

-- the first bytes of fields end inside a field, or where some of the fields end
pub data Falls (ps : List Plain) (n : ℕ) : Type 0 where
  in_field : (earlier : List Plain) (p : Plain) (later : List Plain) → ps ≡ earlier ++ (p ∷ later) → length (laid_out earlier) < n
      → n < length (laid_out earlier) + length (written p) → Falls ps n
  at_end : (earlier later : List Plain) → ps ≡ earlier ++ later → n ≡ length (laid_out earlier) → Falls ps n

one_more : (p : Plain) {ps : List Plain} {n : ℕ} → length (written p) ≤ n → Falls ps (n - length (written p)) → Falls (p ∷ ps) n
unfolding laid_out
one_more p {ps} {n} m (in_field earlier q later e a b) =
    let k : length (laid_out (p ∷ earlier)) ≡ length (written p) + length (laid_out earlier) = length-append (written p) (laid_out earlier) in
    in_field (p ∷ earlier) q later (ap (λ (l : List Plain). p ∷ l) e) (omega arith) (omega arith)
one_more p {ps} {n} m (at_end earlier later e a) =
    let k : length (laid_out (p ∷ earlier)) ≡ length (written p) + length (laid_out earlier) = length-append (written p) (laid_out earlier) in
    at_end (p ∷ earlier) later (ap (λ (l : List Plain). p ∷ l) e) (omega arith)

pub falls : (ps : List Plain) (n : ℕ) → n ≤ length (laid_out ps) → Falls ps n
unfolding laid_out
falls [] n m = at_end [] [] refl (omega arith)
falls (p ∷ ps) n m = go (dec_le n 0) (dec_lt n (length (written p))) (falls ps (n - length (written p)))
  where
    total : length (laid_out (p ∷ ps)) ≡ length (written p) + length (laid_out ps)
    total = length-append (written p) (laid_out ps)

    go : Dec (n ≤ 0) → Dec (n < length (written p)) → (n - length (written p) ≤ length (laid_out ps) → Falls ps (n - length (written p))) → Falls (p ∷ ps) n
    go (yes z) b further = at_end [] (p ∷ ps) refl (omega arith)
    go (no z) (yes b) further = in_field [] p ps refl (omega arith) (omega arith)
    go (no z) (no b) further = one_more p (omega arith) (further (omega (arith, total)))

-- the first of some fields are laid out first, ascend and are in the table as all of them do
pub laid_first : (earlier later : List Plain) → laid_out (earlier ++ later) ≡ laid_out earlier ++ laid_out later
unfolding laid_out
laid_first [] later = refl
laid_first (p ∷ earlier) later = rw (laid_first earlier later, append_assoc)

pub first_ascend : {before : ℕ} (earlier later : List Plain) → Ascending before (earlier ++ later) → Ascending before earlier
first_ascend [] later a = no-tags
first_ascend (p ∷ earlier) later (above b a) = above b (first_ascend earlier later a)

pub first_in_table : (earlier later : List Plain) → InTable (earlier ++ later) → InTable earlier
first_in_table [] later t = no_lengths
first_in_table (p ∷ earlier) later (sized k l m t) = sized k l m (first_in_table earlier later t)
