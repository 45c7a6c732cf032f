-- The loop's invariant: what is left of the bytes begins at the place, and what the whole message is to give is what is ahead of it, into the lanes
-- so far. Assumes nothing.
use Rattle.std.proofs.Common.{◌≡◌, not, eqb, ◌-◌, ◌*◌, ◌≤◌, length, take, drop}
use Rattle.std.specs.Slice.Iter.{chunks_exact_rest, chunks_exact_size}
use Rattle.rapidhash.specs.Hash.{mixed_of}
use Rattle.rapidhash.proofs.Chunks.{ahead}
use Rattle.rapidhash.proofs.v3.lanes.chunk_by_chunk.Given as goal

abbrev pub invariant-loop-chunk : goal.invariant-loop-chunk
invariant-loop-chunk g l = record {
  can : (goal.iterator-loop-chunk g).can_next l.chunk-iterator;
  finite : (goal.iterator-loop-chunk g).is_finite l.chunk-iterator;
  size : chunks_exact_size l.chunk-iterator ≡ 16 * g.row.L;
  left : chunks_exact_rest l.chunk-iterator ≡ drop l.at (take (length l.fn.data - 1) l.fn.data);
  within : l.at ≤ length l.fn.data - 1;
  ahead : mixed_of g.row.L (not (eqb g.row.PROTECTED 0)) l.secrets l.fn.start l.fn.data ≡ ahead g.row.L (not (eqb g.row.PROTECTED 0)) l.secrets l.fn.data l.at l.lanes;
}
