-- The rows of the table by their numbers: a number comes back, with a place, exactly when its row says. Assumes nothing.
use Rattle.std.proofs.Common.{◌≡◌, ℕ, ◌≤◌, Bool, true, false, List, [], length, sym, refl, ap, ◌∙◌, subst, arith, Bor, Result, Ok, Err, is_some}
use contract.Lifetimes.{Lfts}
use Rattle.secrets.specs.declared.v3.seed.RapidSecrets.{RapidSecrets}
use Rattle.rapidhash.specs.Hash.{hash_of}
use Rattle.std.specs.Option.{ok_or}
use Rattle.std.specs.Result.{result_and, result_ok}
use Rattle.label.specs.Label.{refusal, refused_at, header_of, walk_of, not_listed, with_tag, complete, read_of, first_listed, find_of, value_of, hashed_of, fingerprint_of}
use Rattle.label.specs.Numbers.{number_of, told_reading, told_lookup, told_printed}
use Rattle.label.specs.Rows.{Stands, header_cut, no_such_tag, not_above, length_short, length_long, value_cut, field}
use Rattle.label.specs.Rows.{Reads, overlong, unreadable, missing_first, missing_second, good, Faulty, Through}
use Rattle.label.specs.Rows.{Row, row0, row5, row6, row7, row8, row9, row10, Exactly, NoneListed, Finds, bad_record, none_there, found}
use Rattle.label.specs.declared.field.Why.{Why}
use Rattle.label.specs.declared.field.Why.TheVariants.{Cut, NoSuchTag, NotAbove, BadLength, Missing, NotListed}
use Rattle.label.specs.declared.field.Refusal.{Refusal}
use Rattle.label.specs.declared.field.Field.{Field}
use Rattle.label.proofs.Lookups.{reading_apart}
use Rattle.label.proofs.ReadingLaws.{lacks_first, as_second}
use Rattle.label.proofs.Standing.{stands_read, read_stands}
use Rattle.label.proofs.Refusals.{exactly, read_rows}
use Rattle.label.proofs.Finds.{exactly_found}
use Rattle.label.proofs.reading.read.Reads as read

-- a number is that of one refusal only
same_why : (a b : Why) → number_of a ≡ number_of b → a ≡ b
same_why a b e =
    let k = reading_apart (refused_at a 0) (refused_at b 0) (rw e) in
    let r : ◌≡◌ {A = Refusal} (record { why = a; place = 0 }) (record { why = b; place = 0 }) = cc in
    ap (λ (q : Refusal). q.why) r

-- and 0 is that of none
never_zero : (why : Why) → number_of why ≡ 0 → ⊥
never_zero why e = let k = reading_apart (refused_at why 0) (Ok tt) (rw e) in let z : ◌≡◌ {A = ℕ} 0 1 = cc in omega arith

-- a reading of number 0 is good
pub good_by_zero : (r : Result Unit Refusal) → (told_reading r).number ≡ 0 → r ≡ Ok tt
good_by_zero (Ok tt) e = refl
good_by_zero (Err r) e = absurd (never_zero r.why e)

module _ (s : List ℕ) where
  -- a refusal at a place, as reading gives it
  faulty_read : {why : Why} {at : ℕ} → Faulty s why at → read_of s ≡ refused_at why at
  faulty_read {why} {at} f = (exactly s (refused_at why at)).0 (unreadable f.short f.led f.more f.stands)

  -- and where a required tag is missing
  lacking_read : (fs : List Field) → Through s fs → complete fs ≡ false → read_of s ≡ refused_at Missing (length s)
  lacking_read fs t e = (exactly s (refused_at Missing (length s))).0 (go (is_some (with_tag 1 fs)) refl)
    where
      go : (b : Bool) → is_some (with_tag 1 fs) ≡ b → Reads s (refused_at Missing (length s))
      go false o = missing_first t.short t.led o
      go true o = missing_second t.short t.led (sym (as_second fs o refl) ∙ e)

  -- what a row says comes back
  row_told : {number place : ℕ} → Row s number place → ((told_reading (read_of s)).number ≡ number) × ((told_reading (read_of s)).place ≡ place)
  row_told (row0 fs t o p) = let e = (exactly s (Ok tt)).0 (good t.short t.led o p) in (rw e, rw e)
  row_told (row5 h) = let e = (exactly s _).0 (overlong h) in (rw e, rw e)
  row_told (row6 f) = let e = faulty_read f in (rw e, rw e)
  row_told (row7 f) = let e = faulty_read f in (rw e, rw e)
  row_told (row8 f) = let e = faulty_read f in (rw e, rw e)
  row_told (row9 f) = let e = faulty_read f in (rw e, rw e)
  row_told (row10 fs t n) = let e = lacking_read fs t n in (rw e, rw e)

  -- and what comes back is in a row
  in_row : {r : Result Unit Refusal} → Reads s r → Row s (told_reading r).number (told_reading r).place
  in_row (overlong h) = row5 h
  in_row (unreadable {at} {before} {fs} h l m st) = go st
    where
      fault : {why : Why} → Stands s at before (refused_at why at) → Faulty s why at
      fault k = record { before = before; fields = fs; short = h; led = l; more = m; stands = k }

      go : {r : Refusal} → Stands s at before (Err r) → Row s (number_of r.why) r.place
      go (header_cut a) = row6 (fault (header_cut a))
      go (no_such_tag a b) = row7 (fault (no_such_tag a b))
      go (not_above a b c) = row8 (fault (not_above a b c))
      go (length_short a b c d) = row9 (fault (length_short a b c d))
      go (length_long a b c d e) = row9 (fault (length_long a b c d e))
      go (value_cut a b c d e f) = row6 (fault (value_cut a b c d e f))
  in_row (missing_first {before} {fs} h l e) = row10 fs (record { before = before; short = h; led = l }) (lacks_first fs e)
  in_row (missing_second {before} {fs} h l e) = row10 fs (record { before = before; short = h; led = l }) (go (is_some (with_tag 1 fs)) refl)
    where
      go : (b : Bool) → is_some (with_tag 1 fs) ≡ b → complete fs ≡ false
      go false o = lacks_first fs o
      go true o = as_second fs o e
  in_row (good {before} {fs} h l o t) = row0 fs (record { before = before; short = h; led = l }) o t

  -- so what comes back from any record is
  told_row : Row s (told_reading (read_of s)).number (told_reading (read_of s)).place
  told_row = in_row (read_rows s)

  -- reading gives a number and a place exactly when the row of that number says
  pub number_exactly : (number place : ℕ)
      → Exactly (((told_reading (read_of s)).number ≡ number) × ((told_reading (read_of s)).place ≡ place)) (Row s number place)
  number_exactly number place = (λ e. rw (← e.0, ← e.1) told_row, λ r. row_told r)

  -- so a number comes back exactly when its row holds of the place beside it
  pub by_number : (number : ℕ) → Exactly ((told_reading (read_of s)).number ≡ number) (Row s number (told_reading (read_of s)).place)
  by_number number = (λ e. rw (← e) told_row, λ r. (row_told r).0)

  -- 0: done
  pub zero_exactly : Exactly ((told_reading (read_of s)).number ≡ 0) (Row s 0 (told_reading (read_of s)).place)
  zero_exactly = by_number 0

  -- 5: over 8,192 bytes
  pub five_exactly : Exactly ((told_reading (read_of s)).number ≡ 5) (Row s 5 (told_reading (read_of s)).place)
  five_exactly = by_number 5

  -- 6: a field is cut
  pub six_exactly : Exactly ((told_reading (read_of s)).number ≡ 6) (Row s 6 (told_reading (read_of s)).place)
  six_exactly = by_number 6

  -- 7: the table has no such tag
  pub seven_exactly : Exactly ((told_reading (read_of s)).number ≡ 7) (Row s 7 (told_reading (read_of s)).place)
  seven_exactly = by_number 7

  -- 8: a tag is not above the one before
  pub eight_exactly : Exactly ((told_reading (read_of s)).number ≡ 8) (Row s 8 (told_reading (read_of s)).place)
  eight_exactly = by_number 8

  -- 9: a length is outside the table
  pub nine_exactly : Exactly ((told_reading (read_of s)).number ≡ 9) (Row s 9 (told_reading (read_of s)).place)
  nine_exactly = by_number 9

  -- 10: tag 1 is missing, or tag 2, or both
  pub ten_exactly : Exactly ((told_reading (read_of s)).number ≡ 10) (Row s 10 (told_reading (read_of s)).place)
  ten_exactly = by_number 10

  -- reading gives no number past 10
  up_to_ten : {number place : ℕ} → Row s number place → number ≤ 10
  up_to_ten (row0 fs t o p) = omega arith
  up_to_ten (row5 h) = omega arith
  up_to_ten (row6 f) = omega arith
  up_to_ten (row7 f) = omega arith
  up_to_ten (row8 f) = omega arith
  up_to_ten (row9 f) = omega arith
  up_to_ten (row10 fs t n) = omega arith

-- the same of the code: of any answer that the contract of `read` allows
pub read_by_number : (κ : Lfts 1) (d : Bor (List ℕ)) (r : Result Unit Refusal) (x : _) → read.Post κ (d, tt) r x
    → (number : ℕ) → Exactly ((told_reading r).number ≡ number) (Row d.now number (told_reading r).place)
read_by_number κ d r x p number = rw p (by_number d.now number)

-- a record that is refused is refused alike by reading, finding and the fingerprint: one number and place, tag 0, fingerprint 0 and no bytes
pub refused_alike : (x : RapidSecrets) (s tags : List ℕ) → ((told_reading (read_of s)).number ≡ 0 → ⊥)
    → (told_lookup (find_of s tags) ≡ told_reading (read_of s)) × (told_printed (fingerprint_of x s) ≡ told_reading (read_of s))
    × (value_of s (result_ok (find_of s tags)) ≡ [])
unfolding find_of fingerprint_of value_of
refused_alike x s tags = go (read_of s)
  where
    go : (r : Result Unit Refusal) → ((told_reading r).number ≡ 0 → ⊥)
        → (told_lookup (result_and r (ok_or (first_listed (walk_of s).fields tags) (refusal NotListed 0))) ≡ told_reading r)
        × (told_printed (result_and r (Ok (hash_of 7 true false x (hashed_of s)))) ≡ told_reading r)
        × (value_of s (result_ok (result_and r (ok_or (first_listed (walk_of s).fields tags) (refusal NotListed 0)))) ≡ [])
    go (Ok u) k = absurd (k refl)
    go (Err r) k = (refl, refl, refl)

module _ (s tags : List ℕ) where
  -- what finding answers where a good record has no listed tag
  none_listed : (told_reading (read_of s)).number ≡ 0 → NoneListed (walk_of s).fields tags → find_of s tags ≡ not_listed
  none_listed e n = (exactly_found s tags not_listed).0 (none_there ((exactly s (Ok tt)).1 (good_by_zero (read_of s) e)) n)

  -- finding gives 11 exactly when the record is good and no listed tag is there
  pub eleven_exactly : Exactly ((told_lookup (find_of s tags)).number ≡ 11) (((told_reading (read_of s)).number ≡ 0) × NoneListed (walk_of s).fields tags)
  eleven_exactly = (λ e. go ((exactly_found s tags (find_of s tags)).1 refl) e, λ k. rw (none_listed k.0 k.1))
    where
      go : {l : Result Field Refusal} → Finds s tags l → (told_lookup l).number ≡ 11 → ((told_reading (read_of s)).number ≡ 0) × NoneListed (walk_of s).fields tags
      go (bad_record h) e = let n = up_to_ten s (in_row s h) in absurd (omega arith)
      go (none_there h n) e = (rw ((exactly s (Ok tt)).0 h), n)
      go (found earlier t later h d n w) e = absurd (omega arith)

  -- and with it tag 0 and place 0
  pub eleven_told : (told_lookup (find_of s tags)).number ≡ 11 → told_lookup (find_of s tags) ≡ told_lookup not_listed
  eleven_told e = let k = eleven_exactly.0 e in rw (none_listed k.0 k.1)

module _ (s : List ℕ) (at before : ℕ) where
  -- what stands at a place is refused with the number of a refusal exactly when its row says
  pub header_by_number : (why : Why) → Exactly ((told_lookup (header_of s at before)).number ≡ number_of why) (Stands s at before (refused_at why at))
  header_by_number why = (λ e. go (read_stands s at before) e, λ st. rw (stands_read s at before st))
    where
      is : {w : Why} → Stands s at before (refused_at w at) → number_of w ≡ number_of why → Stands s at before (refused_at why at)
      is {w} st e = subst (λ (v : Why). Stands s at before (refused_at v at)) (same_why w why e) st

      go : {l : Result Field Refusal} → Stands s at before l → (told_lookup l).number ≡ number_of why → Stands s at before (refused_at why at)
      go (header_cut a) e = is (header_cut a) e
      go (no_such_tag a b) e = is (no_such_tag a b) e
      go (not_above a b c) e = is (not_above a b c) e
      go (length_short a b c d) e = is (length_short a b c d) e
      go (length_long a b c d f) e = is (length_long a b c d f) e
      go (value_cut a b c d f g) e = is (value_cut a b c d f g) e
      go (field a b c d f g) e = absurd (never_zero why (sym e))

  -- 6 there: cut
  pub header_six : Exactly ((told_lookup (header_of s at before)).number ≡ 6) (Stands s at before (refused_at Cut at))
  header_six = header_by_number Cut

  -- 7 there: no such tag
  pub header_seven : Exactly ((told_lookup (header_of s at before)).number ≡ 7) (Stands s at before (refused_at NoSuchTag at))
  header_seven = header_by_number NoSuchTag

  -- 8 there: not above the one before
  pub header_eight : Exactly ((told_lookup (header_of s at before)).number ≡ 8) (Stands s at before (refused_at NotAbove at))
  header_eight = header_by_number NotAbove

  -- 9 there: a length outside the table
  pub header_nine : Exactly ((told_lookup (header_of s at before)).number ≡ 9) (Stands s at before (refused_at BadLength at))
  header_nine = header_by_number BadLength
