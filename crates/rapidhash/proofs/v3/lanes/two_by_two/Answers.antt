-- As the loop that goes chunk by chunk, two turns at a time. Assumes nothing.
use Rattle.std.proofs.Common.{◌≡◌, ◌-◌, ◌*◌, length, take, drop, ap, sym, ◌∙◌, arith, rules, length-drop, length-take}
use Rattle.rapidhash.proofs.Chunks.{ahead_start, ahead_chunk, ahead_pair, ahead_done, off_followed, off_chunk, off_left, off_none, off_first}
use Rattle.rapidhash.proofs.v3.lanes.two_by_two.Goals as goal

pub loop-pair-init : goal.loop-pair-init
loop-pair-init g c = record {
  can = search rules;
  finite = tt;
  size = search rules;
  left = search rules;
  within = search rules;
  ahead = search ahead_start;
}

pub slice_bounds-get-count : goal.slice_bounds-get-count
slice_bounds-get-count g c = omega (arith, c.loop-pair.invariant.within, simp length-take at (ap length c.front-front.ensures))

pub loop-pair-preserved : goal.loop-pair-preserved
loop-pair-preserved g c =
    let at = c.loop-pair.at in
    let i = c.loop-pair.invariant in
    let step = c.in-Some.ensures.steps in
    let e = sym i.left ∙ step.1.0 in
    let h = step.1.1 ∙ i.size in
    let followed = off_followed (32 * g.row.L) at _ _ _ (omega arith) e h in
    record {
      can = omega arith;
      finite = tt;
      size = step.0 ∙ i.size;
      left = off_left (32 * g.row.L) at _ _ _ (omega arith) e h;
      within = omega arith;
      ahead = ahead_pair g.row.L _ _ _ (omega arith) at _ i.ahead (off_chunk (32 * g.row.L) at _ _ _ (omega arith) e h) followed c.split_at.ensures.front c.split_at.ensures.back c.chunk_step-half.ensures c.chunk_step-next.ensures;
    }

pub returns-in-Some-get : goal.returns-in-Some-get
returns-in-Some-get g c =
    let L = g.row.L in
    let at = c.loop-pair.at in
    let i = c.loop-pair.invariant in
    let f = c.front-front.result.now in
    let is = c.front-front.ensures in
    let l = c.in-Some-get.ensures.lookup in
    let most = off_none (32 * L) at _ i.left (omega (arith, c.in-None.ensures.steps.1.0, i.size)) in
    let some = simp (length-take, length-drop) at l.0.1 in
    let part : c.in-Some-get.chunk.now ≡ take (16 * L) (take (length f - at) (drop at f)) = search (l, rules) in
    let o = off_first (16 * L) at c.args.data.now f (omega arith) is (omega (arith, some)) part in
    ahead_done L _ _ _ (omega arith) _ _ (ahead_chunk L _ _ _ (omega arith) at _ i.ahead o.0 o.1 c.chunk_step-next-in-Some-get.ensures) (omega (arith, most))

pub returns : goal.returns
returns g c =
    let i = c.loop-pair.invariant in
    let none = simp (length-take, length-drop) at c.in_default.ensures.lookup.0 in
    let size = simp length-take at (ap length c.front-front.ensures) in
    ahead_done g.row.L _ _ _ (omega arith) _ _ i.ahead (omega (arith, none, size))
