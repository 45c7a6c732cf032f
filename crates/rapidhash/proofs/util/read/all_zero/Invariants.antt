-- The loop's invariant: what is asked of all bytes is asked of those left. Assumes nothing.
use Rattle.std.proofs.Common.{◌≡◌, length}
use Rattle.secrets.specs.Choice.{all_are}
use Rattle.rapidhash.proofs.util.read.all_zero.Given as goal

abbrev pub invariant-loop-word : goal.invariant-loop-word
invariant-loop-word l = all_are 0 l.fn.bytes ≡ all_are 0 l.left

abbrev pub decreases-loop-word : goal.decreases-loop-word
decreases-loop-word l = length l.left
