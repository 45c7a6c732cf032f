-- The label record (docs/RULES.md, section 7): what stands at a place, the fields of a record, reading, finding and the fingerprint.
-- Assumes nothing.
use Rattle.std.specs.Prelude.{ℕ, zero, suc, ◌+◌, Bool, true, false, List, [], ◌∷◌, ◌++◌, ◌≡◌, eqb, leb, ltb, length, get_or, take, drop, Option, Some, None, is_some, Result, Ok, Err}
use Rattle.std.specs.Option.{ok_or}
use Rattle.std.specs.Result.{result_and}
use Rattle.std.specs.Borrow.{Bor}
use Rattle.secrets.specs.Choice.{pick, every}
use Rattle.rapidhash.specs.Words.{word}
use Rattle.rapidhash.specs.Hash.{hash_of}
use Rattle.secrets.specs.declared.v3.seed.RapidSecrets.{RapidSecrets}
use Rattle.label.specs.declared.field.Why.{Why}
use Rattle.label.specs.declared.field.Why.TheVariants.{TooLong, Cut, NoSuchTag, NotAbove, BadLength, Missing, NotListed}
use Rattle.label.specs.declared.field.Refusal.{Refusal}
use Rattle.label.specs.declared.field.Field.{Field}
use Rattle.label.specs.declared.field.Lengths.{Lengths}

-- a field whose value has from least to most bytes
abbrev pub lengths : ℕ → ℕ → Option Lengths
lengths least most = Some (record { least = least; most = most })

-- the table: how long a value may be under each tag; there is no field with tag 0 or 5 to 127
unfoldable pub table : ℕ → Option Lengths
table t =
    pick (eqb t 1) (lengths 1 32)
    (pick (eqb t 2) (lengths 0 1024)
    (pick (eqb t 3) (lengths 1 64)
    (pick (eqb t 4) (lengths 0 4096)
    (pick (leb 128 t) (lengths 0 65535) None))))

-- the refusal for a reason, about a place
abbrev pub refusal : Why → ℕ → Refusal
refusal why place = record { why = why; place = place }

-- what is refused for it
abbrev pub refused_at : {A : Type 0} → Why → ℕ → Result A Refusal
refused_at why place = Err (refusal why place)

-- the tag of a header at a place
abbrev pub tag_at : List ℕ → ℕ → ℕ
tag_at s at = get_or s at 0

-- its length, in two bytes
abbrev pub size_at : List ℕ → ℕ → ℕ
size_at s at = word 2 s (at + 1)

-- and the table's row for its tag
abbrev pub row_at : List ℕ → ℕ → Option Lengths
row_at s at = table (tag_at s at)

-- whether a row of the table has a length
abbrev pub allows : Lengths → ℕ → Bool
allows row n = every (leb row.least n ∷ leb n row.most ∷ [])

-- of a header at a place, by its row of the table: the tag must be above the one before, the length be within the limits, and the value end
-- within the record
unfoldable pub within_row : List ℕ → ℕ → ℕ → Lengths → Result Field Refusal
within_row s at before row =
    pick (ltb before (tag_at s at))
    (pick (allows row (size_at s at))
    (pick (leb (at + 3 + size_at s at) (length s))
    (Ok (record { tag = tag_at s at; place = at; start = at + 3; length = size_at s at }))
    (refused_at Cut at))
    (refused_at BadLength at))
    (refused_at NotAbove at)

-- what comes of a row of the table; and where there is none, that the table does not have the tag
abbrev pub by_row : ℕ → (Lengths → Result Field Refusal) → Option Lengths → Result Field Refusal
by_row at within None = refused_at NoSuchTag at
by_row at within (Some row) = within row

-- of a header at a place: the table must have the tag, and then as its row says
unfoldable pub field_of : List ℕ → ℕ → ℕ → Result Field Refusal
field_of s at before = by_row at (within_row s at before) (row_at s at)

-- what stands at a place, where the tag before is given (0 where there is none): three bytes at least, and then a field
unfoldable pub header_of : List ℕ → ℕ → ℕ → Result Field Refusal
header_of s at before = pick (leb (at + 3) (length s)) (field_of s at before) (refused_at Cut at)

-- the fields of a record as far as they can be read, and how they end: at the record's end, or by a refusal
pub record Walked : Type 0 where
  pub fields : List Field
  pub ends : Result Unit Refusal

-- the record's end
abbrev pub no_more : Walked
no_more = record { fields = []; ends = Ok tt }

-- a field before others, which come from its end on; or a refusal, and nothing more
unfoldable pub onward : (Field → Walked) → Result Field Refusal → Walked
onward next (Ok f) = record { fields = f ∷ (next f).fields; ends = (next f).ends }
onward next (Err r) = record { fields = []; ends = Err r }

-- the fields from a place on, after a tag, at most n of them
unfoldable pub walk_from : ℕ → List ℕ → ℕ → ℕ → Walked
walk_from zero s at before = no_more
walk_from (suc n) s at before =
    pick (ltb at (length s)) (onward (λ f. walk_from n s (f.start + f.length) f.tag) (header_of s at before)) no_more

-- the fields of a record: it has fewer than bytes
unfoldable pub walk_of : List ℕ → Walked
walk_of s = walk_from (length s) s 0 0

-- the field with a tag, if it is there
unfoldable pub with_tag : ℕ → List Field → Option Field
with_tag t [] = None
with_tag t (f ∷ fs) = pick (eqb f.tag t) (Some f) (with_tag t fs)

-- what comes of looking for a tag, where the field with it and how all fields end are given: the field; else how the fields end
abbrev pub sought : Option Field → Result Unit Refusal → Result (Option Field) Refusal
sought (Some f) ends = Ok (Some f)
sought None ends = result_and ends (Ok None)

-- the same among the fields of a record
unfoldable pub sought_of : ℕ → Walked → Result (Option Field) Refusal
sought_of t w = sought (with_tag t w.fields) w.ends

-- whether the required fields are there
abbrev pub complete : List Field → Bool
complete fs = every (is_some (with_tag 1 fs) ∷ is_some (with_tag 2 fs) ∷ [])

-- reading: not too long, then each field in turn, then the required ones
unfoldable pub read_of : List ℕ → Result Unit Refusal
read_of s =
    let w = walk_of s in
    pick (leb (length s) 8192) (result_and w.ends (pick (complete w.fields) (Ok tt) (refused_at Missing (length s)))) (refused_at TooLong 0)

-- the field of the first tag of a list that a record has
unfoldable pub first_listed : List Field → List ℕ → Option Field
first_listed fs [] = None
first_listed fs (t ∷ ts) = pick (is_some (with_tag t fs)) (with_tag t fs) (first_listed fs ts)

-- none of the tags is there
abbrev pub not_listed : Result Field Refusal
not_listed = refused_at NotListed 0

-- finding: the record's own refusal first, then the list's order
unfoldable pub find_of : List ℕ → List ℕ → Result Field Refusal
find_of s tags = result_and (read_of s) (ok_or (first_listed (walk_of s).fields tags) (refusal NotListed 0))

-- where the value of a field stands: at the front where there is none
abbrev pub start_of : Option Field → ℕ
start_of (Some f) = f.start
start_of None = 0

-- and how long it is: nothing where there is none
abbrev pub length_of : Option Field → ℕ
length_of (Some f) = f.length
length_of None = 0

-- the value's bytes
unfoldable pub value_of : List ℕ → Option Field → List ℕ
value_of s l = take (length_of l) (drop (start_of l) s)

-- a part of a lent record that is a field's value: its bytes, and the record's own memory at that place
pub record Part (s : Bor (List ℕ)) (l : Option Field) (r : Bor (List ℕ)) : Type 0 where
  pub bytes : r.now ≡ value_of s.now l
  pub memory : r.ref_ptr ≡ (s.ref_ptr.0, s.ref_ptr.1 + start_of l)

-- the bytes that a record's fingerprint is of: the values of tags 1 to 4 that are there, one after another
unfoldable pub hashed_of : List ℕ → List ℕ
hashed_of s =
    let fs = (walk_of s).fields in
    value_of s (with_tag 1 fs) ++ value_of s (with_tag 2 fs) ++ value_of s (with_tag 3 fs) ++ value_of s (with_tag 4 fs)

-- the fingerprint of a record: their full hash, avalanche on, protected off; or the reading's refusal
unfoldable pub fingerprint_of : RapidSecrets → List ℕ → Result ℕ Refusal
fingerprint_of x s = result_and (read_of s) (Ok (hash_of 7 true false x (hashed_of s)))
