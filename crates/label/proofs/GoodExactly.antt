-- Reading is good exactly for good records, and gives just their fields. Assumes nothing.
use Rattle.std.proofs.Common.{◌≡◌, ℕ, ◌+◌, Bool, true, false, eqb, List, [], ◌∷◌, ◌++◌, map, length, get_or, drop, refl, ap, ◌∙◌, append_assoc, append-nil, arith, length-append, eq-eqb, eqb-true, Some, Ok, is_some}
use mathlib.Core.List.{map-append}
use Rattle.std.proofs.Math.Seq.{drop-length}
use Rattle.secrets.specs.Choice.{pick}
use Rattle.rapidhash.specs.Words.{word}
use Rattle.label.specs.Label.{table, walk_of, with_tag, read_of, value_of}
use Rattle.label.specs.Rows.{Stands, LedTo, start, next, Reads, good}
use Rattle.label.specs.Good.{Plain, written, laid_out, Ascending, none, above, InTable, none as no_fields, sized, Present, here, later, GoodRecord, plain}
use Rattle.label.specs.declared.field.Field.{Field}
use Rattle.label.proofs.Standing.{standing}
use Rattle.label.proofs.Refusals.{exactly, all_walked}
use Rattle.label.proofs.Written.{Bytes, value-length, stands_written, written_within, written_tag, written-length, written_value, written_rest}

-- a field is found exactly if it is there
module _ (s : List ℕ) (t : ℕ) where
  pub present_found : (fs : List Field) → Present t (map (plain s) fs) → is_some (with_tag t fs) ≡ true
  unfolding with_tag
  present_found [] h = elim h [ ]
  present_found (f ∷ fs) (here e) = rw (eq-eqb f.tag t e)
  present_found (f ∷ fs) (later h) = go (eqb f.tag t) (present_found fs h)
    where
      go : (b : Bool) → is_some (with_tag t fs) ≡ true → is_some (pick b (Some f) (with_tag t fs)) ≡ true
      go true k = refl
      go false k = k

  pub found_present : (fs : List Field) → is_some (with_tag t fs) ≡ true → Present t (map (plain s) fs)
  unfolding with_tag
  found_present (f ∷ fs) k = go (eqb f.tag t) refl k (λ h. found_present fs h)
    where
      go : (b : Bool) → eqb f.tag t ≡ b → is_some (pick b (Some f) (with_tag t fs)) ≡ true → (is_some (with_tag t fs) ≡ true → Present t (map (plain s) fs))
          → Present t (map (plain s) (f ∷ fs))
      go true e k r = here (eqb-true f.tag t e)
      go false e k r = later (r k)
  found_present [] k = let z : ◌≡◌ {A = ℕ} 0 1 = cc in absurd (omega arith)

-- what is described from a place on, after a tag
pub record Described (s : List ℕ) (at before : ℕ) (ps : List Plain) : Type 0 where
  pub joins : drop at s ≡ laid_out ps
  pub ascends : Ascending before ps
  pub lengths : InTable ps

-- a field that stands at a place and is p, with ps described from its end on
pub record Stood (s : List ℕ) (at before : ℕ) (p : Plain) (ps : List Plain) : Type 0 where
  pub field : Field
  pub stands : Stands s at before (Ok field)
  pub is : plain s field ≡ p
  pub end : field.start + field.length ≡ at + length (written p)
  pub onward : Described s (field.start + field.length) field.tag ps

-- fields that are ps and lead to a place, with what is described from there on
pub record Passed (s : List ℕ) (at : ℕ) (ps later : List Plain) : Type 0 where
  pub before : ℕ
  pub fields : List Field
  pub led : LedTo s at before fields
  pub are : map (plain s) fields ≡ ps
  pub onward : Described s at before later

module _ (s : List ℕ) where
  -- a field that stands before what is described is described with it
  one_before : Bytes s → {at before : ℕ} {f : Field} {ps : List Plain} → Stands s at before (Ok f) → Described s (f.start + f.length) f.tag ps
      → Described s at before (plain s f ∷ ps)
  unfolding laid_out
  one_before bytes {at} {before} {f} {ps} st d =
      let h = standing s at before st in
      let n = value-length s at before bytes h in
      record {
        joins = stands_written s at before bytes h ∙ rw d.joins;
        ascends = above h.above d.ascends;
        lengths = sized {p = plain s f} h.known (rw n h.enough) (rw n h.fits) d.lengths;
      }

  -- and so are all that lead to a place
  described : Bytes s → {at before : ℕ} {fs : List Field} {ps : List Plain} → LedTo s at before fs → Described s at before ps
      → Described s 0 0 (map (plain s) fs ++ ps)
  described bytes start d = d
  described bytes {ps = ps} (next {at} {before} {fs} {f} r st) d =
      rw (map-append, append_assoc) (described bytes r (one_before bytes st d))

  -- the first field that is described stands there, and the rest is described from its end on
  pub first_stands : {at before : ℕ} (p : Plain) (ps : List Plain) → Described s at before (p ∷ ps) → Stood s at before p ps
  unfolding laid_out value_of
  first_stands {at} {before} p ps d = go d.ascends d.lengths
    where
      go : Ascending before (p ∷ ps) → InTable (p ∷ ps) → Stood s at before p ps
      go (above a later-tags) (sized {row = row} known-tag enough fits later-lengths) =
          let e : drop at s ≡ written p ++ laid_out ps = d.joins in
          let tag = written_tag s at p (laid_out ps) e in
          let n = written-length s at p (laid_out ps) e in
          let w = written_within s at p (laid_out ps) e in
          let known : table (get_or s at 0) ≡ Some row = rw tag known-tag in
          let f : Field = record { tag = get_or s at 0; place = at; start = at + 3; length = word 2 s (at + 1) } in
          record {
            field = f;
            stands = Stands.field (omega arith) known (rw tag a) (rw n enough) (rw n fits) (rw n w);
            is = rw (tag, n, written_value s at p (laid_out ps) e);
            end = rw n (omega arith);
            onward = record { joins = rw n (written_rest s at p (laid_out ps) e); ascends = rw tag later-tags; lengths = later-lengths };
          }

  -- so fields that are described are passed one after another
  pub pass : (ps more : List Plain) {at before : ℕ} {fs : List Field} → LedTo s at before fs → Described s at before (ps ++ more)
      → Passed s (at + length (laid_out ps)) (map (plain s) fs ++ ps) more
  unfolding laid_out
  pass [] more {at} {before} {fs} r d =
      let n : at + 0 ≡ at = omega arith in
      rw (n, append-nil) (record { before = before; fields = fs; led = r; are = refl; onward = d })
  pass (p ∷ ps) more {at} {before} {fs} r d =
      let f = first_stands p (ps ++ more) d in
      let n : f.field.start + f.field.length + length (laid_out ps) ≡ at + length (written p ++ laid_out ps) =
      rw (f.end, length-append) (omega arith) in
      let fields : map (plain s) (fs ++ (f.field ∷ [])) ++ ps ≡ map (plain s) fs ++ (p ∷ ps) = rw (map-append, f.is, append_assoc) in
      rw (n, fields) at (pass ps more (next r f.stands) f.onward)

  module _ (bytes : Bytes s) where
    -- a record that is read as good is a good record of the fields that were read
    pub read_is_good : read_of s ≡ Ok tt → GoodRecord s (map (plain s) (walk_of s).fields)
    unfolding laid_out
    read_is_good e = go ((exactly s (Ok tt)).1 e)
      where
        go : Reads s (Ok tt) → GoodRecord s (map (plain s) (walk_of s).fields)
        go (good {before} {fs} short r one two) =
            let none_left : Described s (length s) before [] = record { joins = drop-length s; ascends = none; lengths = no_fields } in
            let d = described bytes r none_left in
            rw (all_walked s r)
            (record {
              short = short;
              joins = rw append-nil at d.joins;
              ascends = rw append-nil at d.ascends;
              lengths = rw append-nil at d.lengths;
              first = found_present s 1 fs one;
              second = found_present s 2 fs two;
            })

  -- so are the first fields of a good record
  pub pass_good : (ps more : List Plain) → GoodRecord s (ps ++ more) → Passed s (length (laid_out ps)) ps more
  pass_good ps more g =
      let n : 0 + length (laid_out ps) ≡ length (laid_out ps) = omega arith in
      rw n at (pass ps more start (record { joins = g.joins; ascends = g.ascends; lengths = g.lengths }))

  -- and a good record is read as good, and gives just its fields
  pub good_is_read : (ps : List Plain) → GoodRecord s ps → (read_of s ≡ Ok tt) × (map (plain s) (walk_of s).fields ≡ ps)
  good_is_read ps g =
      let size : length s ≡ length (laid_out ps) = ap length g.joins in
      let all : Passed s (length s) ps [] = rw size (pass_good ps [] (rw append-nil g)) in
      let are = all.are in
      let one = present_found s 1 all.fields (rw are g.first) in
      let two = present_found s 2 all.fields (rw are g.second) in
      ((exactly s (Ok tt)).0 (good g.short all.led one two), rw (all_walked s all.led) are)
