-- Finding and the rows of the table say the same: refusal 11 exactly when no listed tag is there, else the first that is. Assumes nothing.
use Rattle.std.proofs.Common.{◌≡◌, ℕ, false, List, [], ◌∷◌, ◌++◌, refl, ap, subst, Option, Some, None, is_some, Result, Ok, Err}
use Rattle.label.specs.Label.{walk_of, with_tag, read_of, first_listed, find_of}
use Rattle.label.specs.Rows.{NoneListed, empty, absent, Finds, bad_record, none_there, found}
use Rattle.label.specs.declared.field.Field.{Field}
use Rattle.label.specs.declared.field.Refusal.{Refusal}
use Rattle.label.proofs.Refusals.{exactly}

module _ (fs : List Field) where
  -- tags that are not there are passed over
  passed : {earlier : List ℕ} (later : List ℕ) → NoneListed fs earlier → first_listed fs (earlier ++ later) ≡ first_listed fs later
  unfolding first_listed
  passed later empty = refl
  passed later (absent e n) = rw e (passed later n)

  none_first : {tags : List ℕ} → NoneListed fs tags → first_listed fs tags ≡ None
  unfolding first_listed
  none_first empty = refl
  none_first (absent e n) = rw e (none_first n)

  here_first : (t : ℕ) (later : List ℕ) {f : Field} → with_tag t fs ≡ Some f → first_listed fs (t ∷ later) ≡ Some f
  unfolding first_listed
  here_first t later e = rw e

  -- a list has no tag that is there, or a first one
  data First (tags : List ℕ) : Type 0 where
    none : NoneListed fs tags → First tags
    one : (earlier : List ℕ) (t : ℕ) (later : List ℕ) {f : Field} → tags ≡ earlier ++ (t ∷ later) → NoneListed fs earlier → with_tag t fs ≡ Some f → First tags

  one_more : (t : ℕ) {ts : List ℕ} → is_some (with_tag t fs) ≡ false → First ts → First (t ∷ ts)
  one_more t e (none n) = none (absent e n)
  one_more t e (one earlier u later s n w) = one (t ∷ earlier) u later (ap (λ (l : List ℕ). t ∷ l) s) (absent e n) w

  first : (tags : List ℕ) → First tags
  first [] = none empty
  first (t ∷ ts) = go (with_tag t fs) refl (first ts)
    where
      go : (l : Option Field) → with_tag t fs ≡ l → First ts → First (t ∷ ts)
      go (Some f) e r = one [] t ts refl empty e
      go None e r = one_more t (ap is_some e) r

module _ (s tags : List ℕ) where
  -- what the rows say is what finding answers
  rows_find : {l : Result Field Refusal} → Finds s tags l → find_of s tags ≡ l
  unfolding find_of
  rows_find (bad_record {r} h) = rw ((exactly s (Err r)).0 h)
  rows_find (none_there h n) = rw ((exactly s (Ok tt)).0 h, none_first (walk_of s).fields n)
  rows_find (found earlier t later h e n w) =
      rw ((exactly s (Ok tt)).0 h, e, passed (walk_of s).fields (t ∷ later) n, here_first (walk_of s).fields t later w)

  find_rows : Finds s tags (find_of s tags)
  find_rows = go (read_of s) refl (first (walk_of s).fields tags)
    where
      is : {l : Result Field Refusal} → Finds s tags l → Finds s tags (find_of s tags)
      is h = rw (rows_find h) h

      go : (r : Result Unit Refusal) → read_of s ≡ r → First (walk_of s).fields tags → Finds s tags (find_of s tags)
      go (Err r) e f = is (bad_record ((exactly s (Err r)).1 e))
      go (Ok tt) e (none n) = is (none_there ((exactly s (Ok tt)).1 e) n)
      go (Ok tt) e (one a t b d n w) = is (found a t b ((exactly s (Ok tt)).1 e) d n w)

  -- each answer of finding is given exactly when its row says
  pub exactly_found : (l : Result Field Refusal) → (Finds s tags l → find_of s tags ≡ l) × (find_of s tags ≡ l → Finds s tags l)
  exactly_found l = (λ h. rows_find h, λ e. subst (λ (k : Result Field Refusal). Finds s tags k) e find_rows)
