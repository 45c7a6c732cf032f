-- One lane more, and at the end all of the first L: `joined_more`, `joined_front`. Assumes nothing.
use Rattle.std.proofs.Common.{◌∙◌, rules, arith, length-take-le}
use Rattle.rapidhash.specs.Hash.{joined}
use Rattle.rapidhash.proofs.Lanes.{joined_more, joined_all, joined_front}
use Rattle.rapidhash.proofs.v3.lanes.joined_lanes.Goals as goal

pub loop-lane-init : goal.loop-lane-init
unfolding joined
loop-lane-init g c = search rules

pub loop-lane-preserved : goal.loop-lane-preserved
loop-lane-preserved g c = joined_more _ _ c.loop-lane.invariant

pub returns : goal.returns
returns g c =
    let size = length-take-le g.row.L c.args.lanes (omega arith) in
    joined_all _ (omega (arith, size)) (omega (arith, size)) c.loop-lane.invariant ∙ joined_front g.row.L g.row.L c.args.lanes (omega arith)
