-- A good record in plain words (docs/RULES.md, section 7.2): what it is, not how it is read. Assumes nothing.
use Rattle.std.specs.Prelude.{ℕ, ◌/◌, ◌%◌, ◌≤◌, ◌<◌, ◌≡◌, List, [], ◌∷◌, ◌++◌, leb, length, Some}
use Rattle.secrets.specs.Choice.{pick}
use Rattle.label.specs.Label.{table, value_of}
use Rattle.label.specs.declared.field.Field.{Field}
use Rattle.label.specs.declared.field.Lengths.{Lengths}

-- a field as it is meant: a tag and a value
pub record Plain : Type 0 where
  pub tag : ℕ
  pub value : List ℕ

-- as it is written: the tag, the value's length in two bytes, least significant first, and the value
abbrev pub written : Plain → List ℕ
written p = p.tag ∷ length p.value % 256 ∷ length p.value / 256 ∷ p.value

-- fields written one after another
unfoldable pub laid_out : List Plain → List ℕ
laid_out [] = []
laid_out (p ∷ ps) = written p ++ laid_out ps

-- each tag is above the one before
pub data Ascending : ℕ → List Plain → Type 0 where
  none : {before : ℕ} → Ascending before []
  above : {before : ℕ} {p : Plain} {ps : List Plain} → before < p.tag → Ascending p.tag ps → Ascending before (p ∷ ps)

-- each length is one that the table has for its tag
pub data InTable : List Plain → Type 0 where
  none : InTable []
  sized : {p : Plain} {ps : List Plain} {row : Lengths} → table p.tag ≡ Some row → row.least ≤ length p.value
      → length p.value ≤ row.most → InTable ps → InTable (p ∷ ps)

-- a field with a tag is there
pub data Present (t : ℕ) : List Plain → Type 0 where
  here : {p : Plain} {ps : List Plain} → p.tag ≡ t → Present t (p ∷ ps)
  later : {p : Plain} {ps : List Plain} → Present t ps → Present t (p ∷ ps)

-- a good record of given fields
pub record GoodRecord (s : List ℕ) (ps : List Plain) : Type 0 where
  pub short : length s ≤ 8192
  pub joins : s ≡ laid_out ps
  pub ascends : Ascending 0 ps
  pub lengths : InTable ps
  pub first : Present 1 ps
  pub second : Present 2 ps

-- a field that was read, as it is meant
abbrev pub plain : List ℕ → Field → Plain
plain s f = record { tag = f.tag; value = value_of s (Some f) }

-- the values of the fields with tags up to n, in the record's order
unfoldable pub values_to : ℕ → List Plain → List ℕ
values_to n [] = []
values_to n (p ∷ ps) = pick (leb p.tag n) p.value [] ++ values_to n ps
