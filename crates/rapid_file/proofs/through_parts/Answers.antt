-- One part more, and on from there while more may follow. Assumes nothing.
use Rattle.std.proofs.Common.{◌≡◌, ◌<◌, sym, ◌∙◌, arith}
use Rattle.std.proofs.lemmas.Bool.{true≢false}
use Rattle.rapid_file.proofs.PartLaws.{none_given, failed_read, failed_write, last_part, full_part}
use Rattle.rapid_file.proofs.through_parts.Goals as goal

pub loop-parts-init : goal.loop-parts-init
loop-parts-init g c = none_given _ _

pub returns-in_err-fill : goal.returns-in_err-fill
returns-in_err-fill g c = failed_read c.fill.new.self _ _ _ _ c.loop-parts.invariant c.fill.ensures.bytes _ c.from_residual.ensures.0

pub returns-in_err-next : goal.returns-in_err-next
returns-in_err-next g c =
    failed_write c.fill.new.self _ _ _ _ c.loop-parts.invariant c.fill.ensures.bytes _ _ c.from_residual-in_err-next.ensures.0 c.in_err-next.was c.written_to.ensures

pub returns-then-not-is_full : goal.returns-then-not-is_full
returns-then-not-is_full g c =
    let p = c.fill.new.self in
    let ne : p.count ≡ 8192 → ⊥ = λ e. true≢false (sym (c.is_full.ensures.1 e) ∙ c.if-not-is_full.true) in
    let lt : p.count < 8192 = omega (arith, p.within) in
    last_part p _ _ _ _ c.loop-parts.invariant c.fill.ensures.bytes _ c.in_ok-next.ensures (λ y. lt) c.in_ok-fill.ensures.end

pub loop-parts-preserved : goal.loop-parts-preserved
loop-parts-preserved g c =
    full_part c.fill.new.self _ _ _ _ c.loop-parts.invariant c.fill.ensures.bytes _ (c.is_full.ensures.0 c.if-not-is_full.false) (omega arith) c.in_ok-next.ensures

pub returns-in_err-fill-2 : goal.returns-in_err-fill-2
returns-in_err-fill-2 g c = failed_read c.fill-2.new.self _ _ _ _ c.loop-parts.invariant c.fill-2.ensures.bytes _ c.from_residual-in_err-fill-2.ensures.0

pub returns : goal.returns
returns g c =
    last_part c.fill-2.new.self _ _ _ _ c.loop-parts.invariant c.fill-2.ensures.bytes _ c.written_to-2.ensures (λ y. omega arith) c.in_ok-fill-2.ensures.end
