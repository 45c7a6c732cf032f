-- The table of numbers, row by row (docs/RULES.md, section 8), with its order: what stands at a place, and what reading a record
-- comes to. Beside the definitions that compute; that both say the same is proved. Assumes nothing.
use Rattle.std.specs.Prelude.{ℕ, ◌+◌, ◌≤◌, ◌<◌, ◌≡◌, true, false, List, [], ◌∷◌, ◌++◌, length, Some, None, Result, Ok, Err, is_some}
use Rattle.label.specs.Label.{tag_at, size_at, row_at, refused_at, walk_of, not_listed, with_tag, complete}
use Rattle.label.specs.declared.field.Why.{Why}
use Rattle.label.specs.declared.field.Why.TheVariants.{TooLong, Cut, NoSuchTag, NotAbove, BadLength, Missing}
use Rattle.label.specs.declared.field.Refusal.{Refusal}
use Rattle.label.specs.declared.field.Field.{Field}
use Rattle.label.specs.declared.field.Lengths.{Lengths}

-- what stands at a place of s, after a tag. 6: fewer than 3 bytes are left. 7: else the table has no such tag. 8: else the tag is not above the
-- one before. 9: else the length is outside the limits. 6: else the value ends past the record. Else it is a field
pub data Stands (s : List ℕ) (at before : ℕ) : Result Field Refusal → Type 0 where
  header_cut : length s < at + 3 → Stands s at before (refused_at Cut at)
  no_such_tag : at + 3 ≤ length s → row_at s at ≡ None → Stands s at before (refused_at NoSuchTag at)
  not_above : {row : Lengths} → at + 3 ≤ length s → row_at s at ≡ Some row → tag_at s at ≤ before
      → Stands s at before (refused_at NotAbove at)
  length_short : {row : Lengths} → at + 3 ≤ length s → row_at s at ≡ Some row → before < tag_at s at
      → size_at s at < row.least → Stands s at before (refused_at BadLength at)
  length_long : {row : Lengths} → at + 3 ≤ length s → row_at s at ≡ Some row → before < tag_at s at
      → row.least ≤ size_at s at → row.most < size_at s at → Stands s at before (refused_at BadLength at)
  value_cut : {row : Lengths} → at + 3 ≤ length s → row_at s at ≡ Some row → before < tag_at s at
      → row.least ≤ size_at s at → size_at s at ≤ row.most → length s < at + 3 + size_at s at → Stands s at before (refused_at Cut at)
  field : {row : Lengths} → at + 3 ≤ length s → row_at s at ≡ Some row → before < tag_at s at
      → row.least ≤ size_at s at → size_at s at ≤ row.most → at + 3 + size_at s at ≤ length s
      → Stands s at before (Ok (record { tag = tag_at s at; place = at; start = at + 3; length = size_at s at }))

-- a place that fields lead to from the record's first byte, one after another, with the last one's tag and all of them
pub data LedTo (s : List ℕ) : ℕ → ℕ → List Field → Type 0 where
  start : LedTo s 0 0 []
  next : {at before : ℕ} {fs : List Field} {f : Field} → LedTo s at before fs → Stands s at before (Ok f)
      → LedTo s (f.start + f.length) f.tag (fs ++ (f ∷ []))

-- what reading comes to. 5: over 8,192 bytes. 6 to 9: else at the first place, before the end, where no field stands. 10: else a required tag is
-- missing. Else the record is good
pub data Reads (s : List ℕ) : Result Unit Refusal → Type 0 where
  overlong : 8192 < length s → Reads s (refused_at TooLong 0)
  unreadable : {at before : ℕ} {fs : List Field} {r : Refusal} → length s ≤ 8192 → LedTo s at before fs → at < length s
      → Stands s at before (Err r) → Reads s (Err r)
  missing_first : {before : ℕ} {fs : List Field} → length s ≤ 8192 → LedTo s (length s) before fs → is_some (with_tag 1 fs) ≡ false
      → Reads s (refused_at Missing (length s))
  missing_second : {before : ℕ} {fs : List Field} → length s ≤ 8192 → LedTo s (length s) before fs → is_some (with_tag 2 fs) ≡ false
      → Reads s (refused_at Missing (length s))
  good : {before : ℕ} {fs : List Field} → length s ≤ 8192 → LedTo s (length s) before fs → is_some (with_tag 1 fs) ≡ true
      → is_some (with_tag 2 fs) ≡ true → Reads s (Ok tt)

-- a place before the end of a record that is not too long: fields lead to it, and what stands there is refused
pub record Faulty (s : List ℕ) (why : Why) (at : ℕ) : Type 0 where
  pub before : ℕ
  pub fields : List Field
  pub short : length s ≤ 8192
  pub led : LedTo s at before fields
  pub more : at < length s
  pub stands : Stands s at before (refused_at why at)

-- a record that is not too long and has fields up to its end
pub record Through (s : List ℕ) (fs : List Field) : Type 0 where
  pub before : ℕ
  pub short : length s ≤ 8192
  pub led : LedTo s (length s) before fs

-- the rows by their numbers, with the place. 0: fields up to the end, and tags 1 and 2 are there. 5: over 8,192 bytes. 6 to 9: at the first place
-- where no field stands, by what is wrong there. 10: fields up to the end, and tag 1 is missing, or tag 2, or both
pub data Row (s : List ℕ) : ℕ → ℕ → Type 0 where
  row0 : (fs : List Field) → Through s fs → is_some (with_tag 1 fs) ≡ true → is_some (with_tag 2 fs) ≡ true → Row s 0 0
  row5 : 8192 < length s → Row s 5 0
  row6 : {at : ℕ} → Faulty s Cut at → Row s 6 at
  row7 : {at : ℕ} → Faulty s NoSuchTag at → Row s 7 at
  row8 : {at : ℕ} → Faulty s NotAbove at → Row s 8 at
  row9 : {at : ℕ} → Faulty s BadLength at → Row s 9 at
  row10 : (fs : List Field) → Through s fs → complete fs ≡ false → Row s 10 (length s)

-- the one exactly when the other
abbrev pub Exactly : Type 0 → Type 0 → Type 0
Exactly A B = (A → B) × (B → A)

-- no tag of a list is among the fields
pub data NoneListed (fs : List Field) : List ℕ → Type 0 where
  empty : NoneListed fs []
  absent : {t : ℕ} {ts : List ℕ} → is_some (with_tag t fs) ≡ false → NoneListed fs ts → NoneListed fs (t ∷ ts)

-- what finding comes to. 5 to 10: as reading refuses. 11: else no tag of the list is there. Else the field of the first tag that is there
pub data Finds (s tags : List ℕ) : Result Field Refusal → Type 0 where
  bad_record : {r : Refusal} → Reads s (Err r) → Finds s tags (Err r)
  none_there : Reads s (Ok tt) → NoneListed (walk_of s).fields tags → Finds s tags not_listed
  found : (earlier : List ℕ) (t : ℕ) (later : List ℕ) {f : Field} → Reads s (Ok tt) → tags ≡ earlier ++ (t ∷ later) → NoneListed (walk_of s).fields earlier
      → with_tag t (walk_of s).fields ≡ Some f → Finds s tags (Ok f)
