-- The data's own chunks, and what is left in a buffer of its own: `chunk_end`. Assumes nothing.
use Rattle.std.proofs.Common.{rules}
use Rattle.stream.proofs.ChunkEnd.{at_within, at_steps, last_fits, left_fits, chunk_end}
use Rattle.stream.proofs.rapid_stream_hasher.from_chunk_end.Goals as goal

pub last_sixteen-requires : goal.last_sixteen-requires
last_sixteen-requires c =
    let e = c.mix_chunks-x.ensures in
    (c.requires.0, at_within _ _ _ _ e, at_steps _ _ _ _ e)

pub put-ended-requires : goal.put-ended-requires
put-ended-requires c =
    let mixed = c in
    let start = mixed in
    last_fits _ _ _ _ mixed.mix_chunks-x.ensures start.args.prev.now _ start.requires.0 c.last_sixteen.ensures

pub overflow_sub-result : goal.overflow_sub-result
overflow_sub-result c = at_within _ _ _ _ c.mix_chunks-x.ensures

pub slice_bounds-put-count : goal.slice_bounds-put-count
slice_bounds-put-count c = at_within _ _ _ _ c.mix_chunks-x.ensures

pub slice_bounds-put-start : goal.slice_bounds-put-start
slice_bounds-put-start c = let h = at_within _ _ _ _ c.mix_chunks-x.ensures in search rules

pub put-requires : goal.put-requires
put-requires c = left_fits _ _ _ _ c.mix_chunks-x.ensures

pub returns : goal.returns
returns c =
    let last = c in
    let empty = last in
    let mixed = empty in
    let start = mixed in
    chunk_end _ _ _ _ mixed.mix_chunks-x.ensures start.args.settings start.args.prev.now start.args.count empty.blank.result
    start.requires.0 empty.blank.ensures last.last_sixteen.ensures c.put-ended.ensures c.put.ensures
