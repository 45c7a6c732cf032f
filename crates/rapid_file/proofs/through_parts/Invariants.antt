-- The stream is what the full parts so far come to. Assumes nothing.
use Rattle.std.proofs.Common.{Ok, ◌*◌}
use Rattle.std.specs.Prelude.{⊤}
use Rattle.rapid_file.proofs.PartLaws.{Gave}
use Rattle.rapid_file.proofs.through_parts.Given as goal

abbrev pub invariant-loop-parts : goal.invariant-loop-parts
invariant-loop-parts g l =
    Gave l.fn.opened (Ok l.stream) (g.R.Read.remaining l.fn.input) (g.R.Read.remaining l.input) (8192 * l.parts) ⊤
