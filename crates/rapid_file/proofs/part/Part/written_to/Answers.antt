-- One law for each way that a write ends. Assumes nothing.
use Rattle.rapid_file.proofs.PartLaws.{part_took, part_refused}
use Rattle.rapid_file.proofs.part.Part.written_to.Goals as goal

pub returns-in_err-written : goal.returns-in_err-written
returns-in_err-written c = let w = c.write-written in part_refused _ _ w.result w.ensures _ c.from_residual.ensures.0 c.in_err-written.was

pub returns : goal.returns
returns c = let w = c.write-written in part_took _ _ w.result w.ensures c.in_ok-written.was
