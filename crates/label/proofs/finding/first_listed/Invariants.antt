-- What the list gives is what it gives from the loop's place on. Assumes nothing.
use Rattle.std.proofs.Common.{◌≡◌, drop}
use Rattle.label.specs.Label.{walk_of, first_listed}
use Rattle.label.proofs.finding.first_listed.Given as goal

abbrev pub invariant-loop-tag : goal.invariant-loop-tag
invariant-loop-tag l = first_listed (walk_of l.record).fields l.tags ≡ first_listed (walk_of l.record).fields (drop l.tag-index l.tags)
