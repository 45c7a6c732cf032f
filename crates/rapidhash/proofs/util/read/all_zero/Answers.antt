-- A first word that is zero leaves the question to the rest, and another answers it: `word_next`, `word_not`. Assumes nothing.
use Rattle.std.proofs.Common.{◌∙◌, sym, arith}
use Rattle.rapidhash.proofs.Words.{word8_read}
use Rattle.rapidhash.proofs.Zeros.{word_next, word_not, all_by_test}
use Rattle.rapidhash.proofs.util.read.all_zero.Goals as goal

pub loop-word-preserved : goal.loop-word-preserved
loop-word-preserved c =
    let cut = c.in-Some.ensures.cases in
    let s = c.loop-word.left.now in
    word_next s 0 c.loop-word.invariant (omega (arith, cut.2)) (word8_read s 0 cut.0 c.from_le_bytes.ensures) c.if-from_le_bytes-ne0.false cut.1

pub returns-then-from_le_bytes-ne0 : goal.returns-then-from_le_bytes-ne0
returns-then-from_le_bytes-ne0 c =
    let cut = c.in-Some.ensures.cases in
    let s = c.loop-word.left.now in
    word_not s 0 c.loop-word.invariant (omega (arith, cut.2)) (word8_read s 0 cut.0 c.from_le_bytes.ensures) c.if-from_le_bytes-ne0.true

pub returns : goal.returns
returns c = all_by_test _ c.zero_bytes.ensures ∙ sym c.loop-word.invariant
