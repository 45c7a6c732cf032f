-- Each read that goes on brings at least a byte, and the part has what the reads so far brought. Assumes nothing.
use Rattle.std.proofs.Common.{◌-◌}
use Rattle.std.specs.Io.KnownBytes.{Consumes}
use Rattle.rapid_file.specs.Parts.{part_bytes}
use Rattle.rapid_file.proofs.part.Part.fill.Given as goal

abbrev pub invariant-loop-self : goal.invariant-loop-self
invariant-loop-self g l = Consumes (g.R.Read.remaining l.fn.input) (g.R.Read.remaining l.input) (part_bytes l.self)

abbrev pub decreases-loop-self : goal.decreases-loop-self
decreases-loop-self g l = 8192 - l.self.count
