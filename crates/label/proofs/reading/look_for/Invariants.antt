-- What comes of looking for the tag is what comes of it from the loop's place on. Assumes nothing.
use Rattle.std.proofs.Common.{◌≡◌, ◌-◌, ◌≤◌, length}
use Rattle.label.specs.Label.{walk_of, sought_of}
use Rattle.label.proofs.Walking.{rest}
use Rattle.label.proofs.reading.look_for.Given as goal

abbrev pub invariant-loop-at : goal.invariant-loop-at
invariant-loop-at l = (l.at ≤ length l.record) × (sought_of l.tag (walk_of l.record) ≡ sought_of l.tag (rest l.record l.at l.before))

abbrev pub decreases-loop-at : goal.decreases-loop-at
decreases-loop-at l = length l.record - l.at
