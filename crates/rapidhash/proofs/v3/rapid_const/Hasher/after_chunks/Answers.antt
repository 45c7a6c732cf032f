-- The test of the code is the test of the rule. Assumes nothing.
use Rattle.std.proofs.Common.{arith}
use Rattle.rapidhash.proofs.Classes.{reached_none, reached_some}
use Rattle.rapidhash.proofs.v3.rapid_const.Hasher.after_chunks.Goals as goal

pub returns-then-data : goal.returns-then-data
returns-then-data g c = reached_none _ _ _ _ (omega arith)

pub returns : goal.returns
returns g c = reached_some _ _ _ _ (omega arith) c.all_chunks-m.ensures c.joined_lanes.ensures
