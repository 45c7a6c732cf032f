-- One `mend` after the other: `three_mended`. Assumes nothing.
use Rattle.secrets.proofs.Chain.{three_mended}
use Rattle.secrets.proofs.v3.seed.repaired.Goals as goal

pub returns : goal.returns
returns c = three_mended _ c.mended.ensures c.mended-2.ensures c.mended-3.ensures
