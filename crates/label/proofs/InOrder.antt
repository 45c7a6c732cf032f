-- The fingerprint is of the values of tags 1 to 4 in the record's order, as the record is written. Since tags ascend, each lookup adds its
-- value at the end of those with smaller tags. Assumes nothing.
use Rattle.std.proofs.Common.{◌≡◌, ℕ, suc, ◌≤◌, true, false, List, [], ◌∷◌, ◌++◌, map, refl, append_assoc, append-nil, arith, eq-eqb, ne_eqb, le-leb, Ok}
use Rattle.std.proofs.Math.Decide.{dec_le, ℕ_discrete}
use Rattle.std.proofs.lemmas.Bool.{lt-leb}
use Rattle.rapidhash.specs.Hash.{hash_of}
use Rattle.secrets.specs.declared.v3.seed.RapidSecrets.{RapidSecrets}
use Rattle.label.specs.Label.{walk_of, with_tag, value_of, hashed_of, fingerprint_of}
use Rattle.label.specs.Good.{Plain, Ascending, none, above, GoodRecord, plain, values_to}
use Rattle.label.specs.declared.field.Field.{Field}
use Rattle.label.proofs.GoodExactly.{good_is_read}

-- fields after a tag have no values up to it
none_left : (n : ℕ) {before : ℕ} {ps : List Plain} → Ascending before ps → n ≤ before → values_to n ps ≡ []
unfolding values_to
none_left n none h = refl
none_left n (above {p = p} a later) h = rw (lt-leb p.tag n (omega arith)) (none_left n later (omega arith))

-- the values up to the next tag are those up to this one, and then the value looked up under the next
one_more : (s : List ℕ) (fs : List Field) {before : ℕ} → Ascending before (map (plain s) fs) → (n : ℕ)
    → values_to (suc n) (map (plain s) fs) ≡ values_to n (map (plain s) fs) ++ value_of s (with_tag (suc n) fs)
unfolding values_to with_tag value_of
one_more s [] none n = refl
one_more s (f ∷ fs) (above a later) n = go (dec_le f.tag n) (ℕ_discrete f.tag (suc n)) (one_more s fs later n)
  where
    go : Dec (f.tag ≤ n) → Dec (f.tag ≡ suc n)
        → values_to (suc n) (map (plain s) fs) ≡ values_to n (map (plain s) fs) ++ value_of s (with_tag (suc n) fs)
        → values_to (suc n) (map (plain s) (f ∷ fs)) ≡ values_to n (map (plain s) (f ∷ fs)) ++ value_of s (with_tag (suc n) (f ∷ fs))
    go (yes l) e r =
        rw (le-leb f.tag n l, le-leb f.tag (suc n) (omega arith), ne_eqb f.tag (suc n) (λ e. omega arith), r, append_assoc)
    go (no g) (yes e) r =
        let here = none_left (suc n) later (omega arith) in
        let below = none_left n later (omega arith) in
        rw (le-leb f.tag (suc n) (omega arith), lt-leb f.tag n (omega arith), eq-eqb f.tag (suc n) e, here, below, append-nil)
    go (no g) (no e) r = rw (lt-leb f.tag (suc n) (omega arith), lt-leb f.tag n (omega arith), ne_eqb f.tag (suc n) e, r)

-- a good record's hashed bytes are the values of its tags up to 4
pub hashed_in_order : (s : List ℕ) (ps : List Plain) → GoodRecord s ps → hashed_of s ≡ values_to 4 ps
unfolding hashed_of
hashed_in_order s ps g =
    let fs = (walk_of s).fields in
    let fields = (good_is_read s ps g).1 in
    let ordered : Ascending 0 (map (plain s) fs) = rw fields g.ascends in
    let more = one_more s fs ordered in
    rw (← fields, more 3, more 2, more 1, more 0, none_left 0 ordered (omega arith))

-- and its fingerprint is their hash
pub print_in_order : (x : RapidSecrets) (s : List ℕ) (ps : List Plain) → GoodRecord s ps
    → fingerprint_of x s ≡ Ok (hash_of 7 true false x (values_to 4 ps))
unfolding fingerprint_of
print_in_order x s ps g = rw ((good_is_read s ps g).0, hashed_in_order s ps g)
