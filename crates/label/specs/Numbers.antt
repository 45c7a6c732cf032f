-- The numbers that come back from a record, with what is returned beside each (docs/RULES.md, section 8). Assumes nothing.
use Rattle.std.specs.Prelude.{ℕ, Result, Ok, Err}
use Rattle.label.specs.declared.field.Why.{Why}
use Rattle.label.specs.declared.field.Why.TheVariants.{TooLong, Cut, NoSuchTag, NotAbove, BadLength, Missing, NotListed}
use Rattle.label.specs.declared.field.Refusal.{Refusal}
use Rattle.label.specs.declared.field.Field.{Field}

-- a number of the table, and what is returned with it
pub record Told : Type 0 where
  pub number : ℕ
  pub place : ℕ
  pub tag : ℕ
  pub start : ℕ
  pub length : ℕ
  pub fingerprint : ℕ

-- the table's number of each refusal
abbrev pub number_of : Why → ℕ
number_of TooLong = 5
number_of Cut = 6
number_of NoSuchTag = 7
number_of NotAbove = 8
number_of BadLength = 9
number_of Missing = 10
number_of NotListed = 11

-- a refusal: its number and its place, and nothing else
abbrev pub told_refusal : Refusal → Told
told_refusal r = record { number = number_of r.why; place = r.place; tag = 0; start = 0; length = 0; fingerprint = 0 }

-- a field: 0, its place and tag, and where its value stands
abbrev pub told_lookup : Result Field Refusal → Told
told_lookup (Ok f) = record { number = 0; place = f.place; tag = f.tag; start = f.start; length = f.length; fingerprint = 0 }
told_lookup (Err r) = told_refusal r

-- a good record: 0, and nothing else
abbrev pub told_reading : Result Unit Refusal → Told
told_reading (Ok u) = record { number = 0; place = 0; tag = 0; start = 0; length = 0; fingerprint = 0 }
told_reading (Err r) = told_refusal r

-- a fingerprint: 0 and the fingerprint
abbrev pub told_printed : Result ℕ Refusal → Told
told_printed (Ok v) = record { number = 0; place = 0; tag = 0; start = 0; length = 0; fingerprint = v }
told_printed (Err r) = told_refusal r
