-- The carry is what the wrapped sum of the cross products lacks, so the whole sum is the high word. Assumes nothing.
use Rattle.std.proofs.Common.{◌≡◌, ◌+◌, ◌*◌, ◌%◌, ◌^◌, refl, arith}
use Rattle.secrets.proofs.Product.{high_sum, carried, uncarried}
use Rattle.secrets.proofs.util.mix.high_word.Goals as goal
use Rattle.secrets.proofs.util.mix.high_word.Goals.{then-cross-hl, else-cross-hl}

pub returns : goal.returns
returns c =
    let crossed : (c.times-hl.result + c.times-lh.result) % 2 ^ 64 + 2 ^ 32 * c.if-cross-hl.carry ≡ c.times-hl.result + c.times-lh.result =
    elim c.if-cross-hl.branch [
      | then-cross-hl w ↦ carried (omega arith) (omega arith) refl w.if-cross-hl.true w.carry-is
      | else-cross-hl w ↦ uncarried (omega arith) (omega arith) refl w.if-cross-hl.false w.carry-is
    ] in
    search high_sum
