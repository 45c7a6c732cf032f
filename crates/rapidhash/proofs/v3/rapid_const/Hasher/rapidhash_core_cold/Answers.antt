-- The place that the chunks reach is within the message. Assumes nothing.
use Rattle.rapidhash.proofs.Classes.{reached_within, long_ends_lem}
use Rattle.std.proofs.Common.{rules}
use Rattle.rapidhash.proofs.v3.rapid_const.Hasher.rapidhash_core_cold.Goals as goal

pub slice_bounds-tail_steps-count : goal.slice_bounds-tail_steps-count
slice_bounds-tail_steps-count g c = search reached_within

pub slice_bounds-tail_steps-start : goal.slice_bounds-tail_steps-start
slice_bounds-tail_steps-start g c = let h = reached_within _ _ _ _ c.after_chunks-q.ensures in search rules

pub overflow_sub-r : goal.overflow_sub-r
overflow_sub-r g c = search (reached_within, rules)

pub returns : goal.returns
returns g c =
    long_ends_lem _ _ _ _ c.after_chunks-q.ensures c.tail_steps-x.ensures c.word8.ensures c.word8-2.ensures
