-- From field to field: the number of fields looked for does not matter once it is enough, so a walk goes on from its place alone.
-- Assumes nothing.
use Rattle.std.proofs.Common.{◌≡◌, ℕ, zero, suc, ◌+◌, ◌<◌, ◌≤◌, false, ltb, List, [], ◌∷◌, length, sym, refl, ◌∙◌, arith, le-ltb, lt-ltb, eq-eqb, ne_eqb, Some, None, Result, Ok, Err, is_some, Option}
use Rattle.std.specs.Option.{option_flatten}
use Rattle.std.specs.Result.{result_and, result_ok}
use Rattle.std.proofs.Math.Decide.{dec_lt}
use Rattle.rapidhash.proofs.Tests.{either}
use Rattle.label.specs.Label.{header_of, Walked, no_more, onward, walk_from, walk_of, with_tag, sought, sought_of}
use Rattle.label.specs.declared.field.Refusal.{Refusal}
use Rattle.label.specs.declared.field.Field.{Field}
use Rattle.label.proofs.Standing.{field_stands, standing}

-- two ways on that agree on the field at hand
same_onward : (go on : Field → Walked) (l : Result Field Refusal) → ((f : Field) → l ≡ Ok f → go f ≡ on f) → onward go l ≡ onward on l
unfolding onward
same_onward go on (Ok f) h = rw (h f refl)
same_onward go on (Err r) h = refl

module _ (s : List ℕ) where
  -- at the end there is nothing more
  no_more_lem : (n at before : ℕ) → length s ≤ at → walk_from n s at before ≡ no_more
  unfolding walk_from
  no_more_lem zero at before h = refl
  no_more_lem (suc n) at before h = rw (le-ltb at (length s) h)

  one_more : (n at before : ℕ) → at < length s
      → walk_from (suc n) s at before ≡ onward (λ f. walk_from n s (f.start + f.length) f.tag) (header_of s at before)
  unfolding walk_from
  one_more n at before h = rw (lt-ltb at (length s) h)

  -- if they agree from the field's end on, two walks agree
  alike : (n m at before : ℕ)
      → ((f : Field) → header_of s at before ≡ Ok f → walk_from n s (f.start + f.length) f.tag ≡ walk_from m s (f.start + f.length) f.tag)
      → walk_from (suc n) s at before ≡ walk_from (suc m) s at before
  alike n m at before later = go (dec_lt at (length s))
    where
      go : Dec (at < length s) → walk_from (suc n) s at before ≡ walk_from (suc m) s at before
      go (yes l) = one_more n at before l ∙ same_onward _ _ (header_of s at before) later ∙ sym (one_more m at before l)
      go (no l) = no_more_lem (suc n) at before (omega arith) ∙ sym (no_more_lem (suc m) at before (omega arith))

  -- as many as there can be are as good as more
  enough : (n m at before : ℕ) → length s ≤ at + n → length s ≤ at + m → walk_from n s at before ≡ walk_from m s at before
  enough zero m at before h k = no_more_lem zero at before (omega arith) ∙ sym (no_more_lem m at before (omega arith))
  enough (suc n) zero at before h k = no_more_lem (suc n) at before (omega arith) ∙ sym (no_more_lem zero at before (omega arith))
  enough (suc n) (suc m) at before h k =
      alike n m at before
      (λ f e.
      let st = standing s at before (field_stands s at before e) in
      enough n m (f.start + f.length) f.tag (omega arith) (omega arith))

  -- the fields from a place on
  pub rest : ℕ → ℕ → Walked
  rest at before = walk_from (length s) s at before

  pub walk_is_rest : walk_of s ≡ rest 0 0
  unfolding walk_of rest
  walk_is_rest = refl

  pub rest_done : (at before : ℕ) → length s ≤ at → rest at before ≡ no_more
  unfolding rest
  rest_done at before h = no_more_lem (length s) at before h

  pub rest_next : (at before : ℕ) → at < length s → rest at before ≡ onward (λ f. rest (f.start + f.length) f.tag) (header_of s at before)
  unfolding rest
  rest_next at before h =
      enough (length s) (suc (length s)) at before (omega arith) (omega arith) ∙ one_more (length s) at before h

  -- a field, and the rest from its end on
  pub rest_field : (at before : ℕ) (f : Field) → at < length s → header_of s at before ≡ Ok f
      → rest at before ≡ record { fields = f ∷ (rest (f.start + f.length) f.tag).fields; ends = (rest (f.start + f.length) f.tag).ends }
  unfolding onward
  rest_field at before f h e = rest_next at before h ∙ rw e

  -- or a refusal
  pub rest_refused : (at before : ℕ) (r : Refusal) → at < length s → header_of s at before ≡ Err r → rest at before ≡ record { fields = []; ends = Err r }
  unfolding onward
  rest_refused at before r h e = rest_next at before h ∙ rw e

-- looking for a tag, from the first byte on
pub sought_first : (t : ℕ) (s : List ℕ) → sought_of t (walk_of s) ≡ sought_of t (rest s 0 0)
sought_first t s = rw (walk_is_rest s)

-- from a place on: where the fields end
pub sought_done : (t : ℕ) (s : List ℕ) (at before : ℕ) → length s ≤ at → sought_of t (rest s at before) ≡ Ok None
unfolding sought_of with_tag
sought_done t s at before h = rw (rest_done s at before h)

-- where a field is refused
module _ (t : ℕ) (s : List ℕ) (at before : ℕ) (more : at < length s) where
  pub sought_refused : {r : Refusal} → header_of s at before ≡ Err r → sought_of t (rest s at before) ≡ Err r
  unfolding sought_of with_tag
  sought_refused {r} e = rw (rest_refused s at before r more e)

  -- where a field stands: with the tag, or another one
  module _ {f : Field} (e : header_of s at before ≡ Ok f) where
    pub sought_here : f.tag ≡ t → sought_of t (rest s at before) ≡ Ok (Some f)
    unfolding sought_of with_tag
    sought_here h = rw (rest_field s at before f more e, eq-eqb f.tag t h)

    pub sought_after : (f.tag ≡ t → ⊥) → sought_of t (rest s at before) ≡ sought_of t (rest s (f.start + f.length) f.tag)
    unfolding sought_of with_tag
    sought_after h = rw (rest_field s at before f more e, ne_eqb f.tag t h)

-- a field that stands at a place starts past its header, and ends within the record
module _ (s : List ℕ) (at before : ℕ) {f : Field} (e : header_of s at before ≡ Ok f) where
  pub starts_past : f.start ≡ at + 3
  starts_past = (standing s at before (field_stands s at before e)).start

  pub ends_within : f.start + f.length ≤ length s
  ends_within = (standing s at before (field_stands s at before e)).within

-- no field has tag 0, so looking for it goes through all of them
module _ (s : List ℕ) where
  none_onward : (at before : ℕ) (next : Field → Walked) → ((f : Field) → is_some (with_tag 0 (next f).fields) ≡ false) → (l : Result Field Refusal)
      → header_of s at before ≡ l → is_some (with_tag 0 (onward next l).fields) ≡ false
  unfolding onward with_tag
  none_onward at before next later (Ok f) e =
      let a = (standing s at before (field_stands s at before e)).above in
      rw (ne_eqb f.tag 0 (λ z. omega arith)) (later f)
  none_onward at before next later (Err r) e = refl

  none_zero : (n at before : ℕ) → is_some (with_tag 0 (walk_from n s at before).fields) ≡ false
  unfolding walk_from with_tag
  none_zero zero at before = refl
  none_zero (suc n) at before =
      either (λ (w : Walked). is_some (with_tag 0 w.fields) ≡ false) (ltb at (length s))
      (none_onward at before _ (λ f. none_zero n (f.start + f.length) f.tag) (header_of s at before) refl)
      refl

  -- a field that is not there leaves how the fields end
  unfound : (l : Option Field) (ends : Result Unit Refusal) → is_some l ≡ false → sought l ends ≡ result_and ends (Ok None)
  unfound (Some f) ends e = cc
  unfound None ends e = refl

  pub all_passed : sought_of 0 (walk_of s) ≡ result_and (walk_of s).ends (Ok None)
  unfolding sought_of walk_of
  all_passed = unfound (with_tag 0 (walk_from (length s) s 0 0).fields) _ (none_zero (length s) 0 0)

-- what looking for a tag finds is the field with it
pub field_of_look : (t : ℕ) (w : Walked) → option_flatten (result_ok (sought_of t w)) ≡ with_tag t w.fields
unfolding sought_of
field_of_look t w = go (with_tag t w.fields) w.ends
  where
    go : (l : Option Field) (ends : Result Unit Refusal) → option_flatten (result_ok (sought l ends)) ≡ l
    go (Some f) ends = refl
    go None (Ok u) = refl
    go None (Err r) = refl

-- the steps from field to field, for `look_for`
pub ruleset look_laws = (sought_first, sought_done, sought_refused, sought_here, sought_after, starts_past, ends_within)
