-- Reading a record and the rows of the table say the same: each refusal is given exactly when its row and the order say. Assumes nothing.
use Rattle.std.proofs.Common.{◌≡◌, ℕ, zero, suc, ◌+◌, ◌<◌, ◌≤◌, Bool, true, false, List, ◌++◌, length, refl, ap, ◌∙◌, subst, append_assoc, append-nil, arith, Result, Ok, Err, is_some}
use Rattle.std.proofs.Math.Decide.{dec_le, dec_lt}
use Rattle.label.specs.Label.{refused_at, header_of, Walked, walk_of, with_tag, complete, read_of}
use Rattle.label.specs.Rows.{Stands, LedTo, start, next, Reads, overlong, unreadable, missing_first, missing_second, good}
use Rattle.label.specs.declared.field.Why.TheVariants.{Missing}
use Rattle.label.specs.declared.field.Refusal.{Refusal}
use Rattle.label.specs.declared.field.Field.{Field}
use Rattle.label.proofs.Standing.{stands_read, read_stands, standing}
use Rattle.label.proofs.Walking.{rest, walk_is_rest, rest_done, rest_field, rest_refused}
use Rattle.label.proofs.ReadingLaws.{read_too_long, read_bad, read_missing, read_good, lacks_first, as_second}

module _ (s : List ℕ) where
  -- fields lead to places in the record
  reached_within : {at before : ℕ} {fs : List Field} → LedTo s at before fs → at ≤ length s
  reached_within start = omega arith
  reached_within (next r st) = (standing s _ _ st).within

  -- the fields that lead to a place are the record's first, and the rest follows from there
  reached_walk : {at before : ℕ} {fs : List Field} → LedTo s at before fs
      → walk_of s ≡ record { fields = fs ++ (rest s at before).fields; ends = (rest s at before).ends }
  reached_walk start = walk_is_rest s
  reached_walk (next {at} {before} {fs} {f} r st) =
      let h = standing s at before st in
      reached_walk r
      ∙ rw (rest_field s at before f (omega arith) (stands_read s at before st), append_assoc)

  -- where they lead to the end they are all
  module _ {before : ℕ} {fs : List Field} (r : LedTo s (length s) before fs) where
    pub all_walked : walk_of s ≡ record { fields = fs; ends = Ok tt }
    all_walked = reached_walk r ∙ rw (rest_done s (length s) before (omega arith), append-nil)

    all_complete : {b : Bool} → complete fs ≡ b → complete (walk_of s).fields ≡ b
    all_complete e = rw all_walked e

    all_good : (walk_of s).ends ≡ Ok tt
    all_good = ap (λ (w : Walked). w.ends) all_walked

  -- what the rows say is what reading answers
  pub rows_read : {r : Result Unit Refusal} → Reads s r → read_of s ≡ r
  rows_read (overlong h) = read_too_long s h
  rows_read (unreadable {at} {before} {fs} {r} h l m st) =
      let e = rest_refused s at before r m (stands_read s at before st) in
      read_bad s h (ap (λ (w : Walked). w.ends) (reached_walk l) ∙ ap (λ (w : Walked). w.ends) e)
  rows_read (missing_first {before} {fs} h l e) = read_missing s h (all_good l) (all_complete l (lacks_first fs e))
  rows_read (missing_second {before} {fs} h l e) = go (is_some (with_tag 1 fs)) refl
    where
      go : (b : Bool) → is_some (with_tag 1 fs) ≡ b → read_of s ≡ refused_at Missing (length s)
      go true o = read_missing s h (all_good l) (all_complete l (as_second fs o e))
      go false o = read_missing s h (all_good l) (all_complete l (lacks_first fs o))
  rows_read (good {before} {fs} h l o t) = read_good s h (all_good l) (all_complete l (as_second fs o t))

  -- from any place that fields lead to, they lead to the end, or to a place where no field stands
  data Ends : Type 0 where
    whole : {before : ℕ} {fs : List Field} → LedTo s (length s) before fs → Ends
    fault : {at before : ℕ} {fs : List Field} {r : Refusal} → LedTo s at before fs → at < length s → Stands s at before (Err r) → Ends

  at_end : {at before : ℕ} {fs : List Field} → LedTo s at before fs → length s ≤ at → Ends
  at_end {at} {before} {fs} r h =
      let w = reached_within r in
      let e : at ≡ length s = omega arith in
      whole (subst (λ (k : ℕ). LedTo s k before fs) e r)

  ends : (n : ℕ) {at before : ℕ} {fs : List Field} → length s ≤ at + n → LedTo s at before fs → Ends
  ends zero h r = at_end r (omega arith)
  ends (suc n) {at} {before} {fs} h r = go (dec_lt at (length s)) (header_of s at before) (read_stands s at before) (λ f st. ends n (let k = standing s at before st in omega arith) (next r st))
    where
      go : Dec (at < length s) → (l : Result Field Refusal) → Stands s at before l → ((f : Field) → Stands s at before (Ok f) → Ends) → Ends
      go (no m) l st later = at_end r (omega arith)
      go (yes m) (Ok f) st later = later f st
      go (yes m) (Err q) st later = fault r m st

  -- so what reading answers is in a row
  pub read_rows : Reads s (read_of s)
  read_rows = go (dec_le (length s) 8192) (ends (length s) (omega arith) start)
    where
      is : {r : Result Unit Refusal} → Reads s r → Reads s (read_of s)
      is h = rw (rows_read h) h

      required : {before : ℕ} {fs : List Field} → length s ≤ 8192 → LedTo s (length s) before fs → (a b : Bool) → is_some (with_tag 1 fs) ≡ a
          → is_some (with_tag 2 fs) ≡ b → Reads s (read_of s)
      required h l false b o t = is (missing_first h l o)
      required h l true false o t = is (missing_second h l t)
      required h l true true o t = is (good h l o t)

      go : Dec (length s ≤ 8192) → Ends → Reads s (read_of s)
      go (no n) e = is (overlong (omega arith))
      go (yes h) (whole l) = required h l _ _ refl refl
      go (yes h) (fault l m st) = is (unreadable h l m st)

  -- each answer of reading is given exactly when its row says
  pub exactly : (r : Result Unit Refusal) → (Reads s r → read_of s ≡ r) × (read_of s ≡ r → Reads s r)
  exactly r = (λ h. rows_read h, λ e. subst (λ (q : Result Unit Refusal). Reads s q) e read_rows)
