-- Each chunk that comes is the one at the place, and a byte follows it: `off_chunk`, `off_followed`. Assumes nothing.
use Rattle.std.proofs.Common.{◌*◌, sym, ◌∙◌, arith, rules}
use Rattle.rapidhash.proofs.Chunks.{ahead_start, ahead_chunk, ahead_done, off_followed, off_chunk, off_left, off_none}
use Rattle.rapidhash.proofs.v3.lanes.chunk_by_chunk.Goals as goal

pub loop-chunk-init : goal.loop-chunk-init
loop-chunk-init g c = record {
  can = search rules;
  finite = tt;
  size = search rules;
  left = search rules;
  within = search rules;
  ahead = search ahead_start;
}

pub loop-chunk-preserved : goal.loop-chunk-preserved
loop-chunk-preserved g c =
    let at = c.loop-chunk.at in
    let i = c.loop-chunk.invariant in
    let step = c.in-Some.ensures.steps in
    let e = sym i.left ∙ step.1.0 in
    let h = step.1.1 ∙ i.size in
    let followed = off_followed (16 * g.row.L) at _ _ _ (omega arith) e h in
    record {
      can = omega arith;
      finite = tt;
      size = step.0 ∙ i.size;
      left = off_left (16 * g.row.L) at _ _ _ (omega arith) e h;
      within = omega arith;
      ahead = ahead_chunk g.row.L _ _ _ (omega arith) at _ i.ahead (off_chunk (16 * g.row.L) at _ _ _ (omega arith) e h) followed c.chunk_step-next.ensures;
    }

pub returns : goal.returns
returns g c =
    let i = c.loop-chunk.invariant in
    let none = off_none (16 * g.row.L) c.loop-chunk.at _ i.left (omega (arith, c.in-None.ensures.steps.1.0, i.size)) in
    ahead_done g.row.L _ _ _ (omega arith) _ _ i.ahead none
