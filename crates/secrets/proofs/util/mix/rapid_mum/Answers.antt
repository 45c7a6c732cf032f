-- The flag picks the words in the code as in the rule. Assumes nothing.
use Rattle.secrets.proofs.Folded.{mum_protected, mum_plain}
use Rattle.secrets.proofs.util.mix.rapid_mum.Goals as goal

pub returns-then-protected : goal.returns-then-protected
returns-then-protected c = mum_protected _ _ _ c.low_word-l.ensures c.high_word-h.ensures c.if-protected.true

pub returns-else-protected : goal.returns-else-protected
returns-else-protected c = mum_plain _ _ _ c.low_word-l.ensures c.high_word-h.ensures c.if-protected.false
