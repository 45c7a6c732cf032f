-- A value as a part of the record that is lent. Assumes nothing.
use Rattle.std.proofs.Common.{◌≡◌, ℕ, ◌+◌, ◌-◌, List, add_comm, arith, Bor, Option, Some, None}
use borrow.Rule.Slice.PartAt.{sl_partˢ}
use Rattle.label.specs.Label.{start_of, length_of, value_of, Part}
use Rattle.label.specs.declared.field.Field.{Field}

-- from the value's start to its end, or nothing
pub part_of : (s : Bor (List ℕ)) (l : Option Field) → Part s l (sl_partˢ s (start_of l + s.ref_ptr.1) (start_of l) (start_of l + length_of l))
unfolding value_of
part_of s l =
    let n : start_of l + length_of l - start_of l ≡ length_of l = omega arith in
    record { bytes = rw n; memory = rw (add_comm (start_of l) s.ref_ptr.1) }

pub part_field : (s : Bor (List ℕ)) {l : Option Field} {f : Field} → l ≡ Some f
    → Part s l (sl_partˢ s (f.start + s.ref_ptr.1) f.start (f.start + f.length))
part_field s {l} {f} e = rw e (part_of s (Some f))

pub part_none : (s : Bor (List ℕ)) {l : Option Field} → l ≡ None → Part s l (sl_partˢ s (0 + s.ref_ptr.1) 0 0)
part_none s {l} e = rw e (part_of s None)

-- both, for `value_of`
pub ruleset part_laws = (part_field, part_none)
