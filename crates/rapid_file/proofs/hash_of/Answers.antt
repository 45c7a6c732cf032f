-- The hash is that which finish answers. Assumes nothing.
use Rattle.rapid_file.proofs.LineLaws.{answer_failed, answer_unsound, answer_hash}
use Rattle.rapid_file.proofs.hash_of.Goals as goal

pub returns-in_err-ended : goal.returns-in_err-ended
returns-in_err-ended c = answer_failed _ _ c.from_residual.ensures.0 c.in_err-ended.was

pub returns-in_err-finish : goal.returns-in_err-finish
returns-in_err-finish c =
    answer_unsound _ _ c.in_ok-ended.was _ c.finish.ensures _ c.from_residual-in_err-finish.ensures.0 c.in_err-finish.was

pub returns : goal.returns
returns c = answer_hash _ _ c.in_ok-ended.was _ c.finish.ensures _ c.in_ok-finish.was
