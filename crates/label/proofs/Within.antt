-- A field that is found lies in the record. Assumes nothing.
use Rattle.std.proofs.Common.{◌≡◌, ℕ, zero, suc, ◌+◌, ◌≤◌, eqb, ltb, List, length, refl, arith, Option, Result, Ok, Err}
use Rattle.rapidhash.proofs.Tests.{either}
use Rattle.label.specs.Label.{header_of, Walked, onward, walk_from, walk_of, with_tag, start_of, length_of}
use Rattle.label.specs.declared.field.Field.{Field}
use Rattle.label.specs.declared.field.Refusal.{Refusal}
use Rattle.label.proofs.Standing.{field_stands, standing}

module _ (s : List ℕ) (t : ℕ) where
  Within : Option Field → Type 0
  Within l = start_of l + length_of l ≤ length s

  onward_within : (at before : ℕ) (next : Field → Walked) → ((f : Field) → Within (with_tag t (next f).fields)) → (l : Result Field Refusal)
      → header_of s at before ≡ l → Within (with_tag t (onward next l).fields)
  unfolding onward with_tag Within
  onward_within at before next later (Ok f) e =
      either Within (eqb f.tag t) (standing s at before (field_stands s at before e)).within (later f)
  onward_within at before next later (Err r) e = omega arith

  walk_within : (n at before : ℕ) → Within (with_tag t (walk_from n s at before).fields)
  unfolding walk_from with_tag Within
  walk_within zero at before = omega arith
  walk_within (suc n) at before =
      either (λ (w : Walked). Within (with_tag t w.fields)) (ltb at (length s))
      (onward_within at before _ (λ f. walk_within n (f.start + f.length) f.tag) (header_of s at before) refl)
      (omega arith)

  pub found_within : {l : Option Field} → l ≡ with_tag t (walk_of s).fields → start_of l + length_of l ≤ length s
  unfolding walk_of Within
  found_within e = rw e (walk_within (length s) 0 0)
