-- The flag picks the answer in the code as in the rule. Assumes nothing.
use Rattle.rapidhash.proofs.Steps.{last_avalanche, last_plain}
use Rattle.rapidhash.proofs.v3.rapid_const.last_step.Goals as goal

pub returns-then-avalanche : goal.returns-then-avalanche
returns-then-avalanche c = last_avalanche _ _ _ _ c.rapid_mum-m.ensures c.if-avalanche.true c.rapidhash_finish.ensures

pub returns-else-avalanche : goal.returns-else-avalanche
returns-else-avalanche c =
    let a = c.args in
    last_plain a.avalanche a.protected a.secrets a.ends c.rapid_mum-m.ensures c.if-avalanche.false
