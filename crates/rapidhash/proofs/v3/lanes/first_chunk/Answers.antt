-- The test of the code is the test of the rule. Assumes nothing.
use Rattle.std.proofs.Common.{◌*◌, refl, arith, rules}
use Rattle.rapidhash.proofs.Lanes.{first_none, first_some}
use Rattle.rapidhash.proofs.v3.lanes.first_chunk.Goals as goal

pub returns-in-None : goal.returns-in-None
returns-in-None g c = let l = c.in-None.ensures.lookup in first_none _ _ _ _ _ (omega arith)

pub returns-in-Some : goal.returns-in-Some
returns-in-Some g c = let l = c.in-Some.ensures.lookup in first_some _ _ _ _ _ (16 * g.row.L) refl (omega arith) (search (c.chunk_step.ensures, rules))

pub returns-in-Some-2 : goal.returns-in-Some-2
returns-in-Some-2 g c = let l = c.in-Some-2.ensures.lookup in first_some _ _ _ _ _ (16 * g.row.L) refl (omega arith) (search (c.chunk_step-in-Some-2.ensures, rules))
