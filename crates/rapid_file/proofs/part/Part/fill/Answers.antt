-- Each read puts what it consumed behind what came before. Assumes nothing.
use Rattle.rapid_file.proofs.part.Part.fill.Goals as goal

pub loop-self-preserved : goal.loop-self-preserved
loop-self-preserved g c = c.more.ensures.bytes _ c.loop-self.invariant
