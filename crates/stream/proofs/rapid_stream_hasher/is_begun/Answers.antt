-- Before the first chunk each lane is asked. Assumes nothing.
use Rattle.std.proofs.Common.{arith, eq-eqb}
use Rattle.stream.proofs.Clauses.{each_is}
use Rattle.stream.proofs.rapid_stream_hasher.is_begun.Goals as goal

pub returns-then-lanes_are : goal.returns-then-lanes_are
returns-then-lanes_are c =
    let h = c.args.h.now in
    rw (eq-eqb h.count 0 (omega arith), ← each_is h.settings.secrets.seed h.lanes, ← c.lanes_are.ensures, c.if-lanes_are.true)
    c.is_clear_before.ensures

pub returns-else-lanes_are : goal.returns-else-lanes_are
returns-else-lanes_are c =
    let h = c.args.h.now in
    rw (eq-eqb h.count 0 (omega arith), ← each_is h.settings.secrets.seed h.lanes, ← c.lanes_are.ensures, c.if-lanes_are.false)
