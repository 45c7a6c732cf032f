-- One law for each arm of the `match`. Assumes nothing.
use Rattle.std.proofs.Common.{◌-◌, ◌/◌, length, ◌∙◌, arith}
use Rattle.rapidhash.proofs.Classes.{class_none, class_bytes, class_four, class_eight, class_long}
use Rattle.rapidhash.proofs.v3.rapid_const.Hasher.ends_by_length.Goals as goal

pub returns-in-0 : goal.returns-in-0
returns-in-0 g c = class_none _ _ _ _ (omega arith)

pub returns-in-1-to-3 : goal.returns-in-1-to-3
returns-in-1-to-3 g c =
    let a = c.args in
    let s = a.«data».now in
    let fits = c.type_inv.«data» in
    class_bytes g.row.L a.self.protected a.self.secrets s (omega arith) (omega arith)
    (c.from.ensures, omega (arith, fits 0)) (c.from-in-1-to-3.ensures, omega (arith, fits (length s - 1))) (c.from-b.ensures, omega (arith, fits (length s / 2)))

pub returns-in-4-to-7 : goal.returns-in-4-to-7
returns-in-4-to-7 g c = class_four _ _ _ _ (omega arith) (omega arith) c.word4-a.ensures.0 c.word4-b.ensures.0

pub returns-in-8-to-16 : goal.returns-in-8-to-16
returns-in-8-to-16 g c = class_eight _ _ _ _ (omega arith) (omega arith) c.word8-a.ensures c.word8-b.ensures

pub returns-in_default : goal.returns-in_default
returns-in_default g c = c.rapidhash_core_cold.ensures ∙ class_long _ _ _ _ (omega arith)
