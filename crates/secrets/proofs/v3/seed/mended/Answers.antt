-- The code's test is the test of `mend`, and a shifted 1 is a power of 2. Assumes nothing.
use Rattle.std.proofs.Common.{one-mul, arith, shl_exact, eq-eqb, ne_eqb}
use Rattle.secrets.specs.Secrets.{mend}
use Rattle.secrets.proofs.v3.seed.mended.Goals as goal

pub returns-then-seed-from-eq0 : goal.returns-then-seed-from-eq0
unfolding mend
returns-then-seed-from-eq0 c = rw (eq-eqb _ 0 c.if-seed-from-eq0.true, shl_exact {a = 1} 1 c.args.b 64 (omega arith) (omega arith), one-mul)

pub returns-else-seed-from-eq0 : goal.returns-else-seed-from-eq0
unfolding mend
returns-else-seed-from-eq0 c = rw (ne_eqb _ 0 c.if-seed-from-eq0.false)
