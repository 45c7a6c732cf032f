-- The number and the values tell answers apart: each answer can be told back from them. Assumes nothing.
use Rattle.std.proofs.Common.{◌≡◌, ℕ, eqb, refl, Result, Ok, Err}
use Rattle.secrets.specs.Choice.{pick}
use Rattle.secrets.proofs.Demand1.{told_back}
use Rattle.label.specs.Numbers.{Told, told_refusal, told_lookup, told_reading, told_printed}
use Rattle.label.specs.declared.field.Why.{Why}
use Rattle.label.specs.declared.field.Why.TheVariants.{TooLong, Cut, NoSuchTag, NotAbove, BadLength, Missing, NotListed}
use Rattle.label.specs.declared.field.Refusal.{Refusal}
use Rattle.label.specs.declared.field.Field.{Field}

-- the refusal of a number
why_of : ℕ → Why
why_of n =
    pick (eqb n 5) TooLong
    (pick (eqb n 6) Cut
    (pick (eqb n 7) NoSuchTag (pick (eqb n 8) NotAbove (pick (eqb n 9) BadLength (pick (eqb n 10) Missing NotListed)))))

-- an answer that is told by 0, or else a refusal
pub unless_refused : {A : Type 0} → (Told → A) → (Refusal → A) → Told → A
unless_refused good refused t = pick (eqb t.number 0) (good t) (refused (record { why = why_of t.number; place = t.place }))

pub refusal_back : {A : Type 0} (good : Told → A) (refused : Refusal → A) (w : Why) (p : ℕ)
    → unless_refused good refused (told_refusal (record { why = w; place = p })) ≡ refused (record { why = w; place = p })
unfolding unless_refused why_of
refusal_back good refused TooLong p = refl
refusal_back good refused Cut p = refl
refusal_back good refused NoSuchTag p = refl
refusal_back good refused NotAbove p = refl
refusal_back good refused BadLength p = refl
refusal_back good refused Missing p = refl
refusal_back good refused NotListed p = refl

-- the field that is told
field_of : Told → Result Field Refusal
field_of t = Ok (record { tag = t.tag; place = t.place; start = t.start; length = t.length })

lookup_back : (x : Result Field Refusal) → unless_refused field_of Err (told_lookup x) ≡ x
unfolding unless_refused field_of
lookup_back (Ok f) = refl
lookup_back (Err r) = refusal_back field_of Err r.why r.place

pub lookup_apart : (x y : Result Field Refusal) → told_lookup x ≡ told_lookup y → x ≡ y
lookup_apart = told_back told_lookup (unless_refused field_of Err) lookup_back

-- the same of a reading and of a fingerprint
reading_back : (x : Result Unit Refusal) → unless_refused (λ t. (Ok tt)) Err (told_reading x) ≡ x
unfolding unless_refused
reading_back (Ok tt) = refl
reading_back (Err r) = refusal_back (λ t. (Ok tt)) Err r.why r.place

pub reading_apart : (x y : Result Unit Refusal) → told_reading x ≡ told_reading y → x ≡ y
reading_apart = told_back told_reading (unless_refused (λ t. (Ok tt)) Err) reading_back

printed_back : (x : Result ℕ Refusal) → unless_refused (λ t. Ok t.fingerprint) Err (told_printed x) ≡ x
unfolding unless_refused
printed_back (Ok v) = refl
printed_back (Err r) = refusal_back (λ t. Ok t.fingerprint) Err r.why r.place

pub printed_apart : (x y : Result ℕ Refusal) → told_printed x ≡ told_printed y → x ≡ y
printed_apart = told_back told_printed (unless_refused (λ t. Ok t.fingerprint) Err) printed_back
