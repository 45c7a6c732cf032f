-- Before turn i the first i bytes are the rule's. Assumes nothing.
use Rattle.std.proofs.Common.{◌≡◌, take}
use Rattle.samples.specs.Sample.{bytes_of}
use Rattle.samples.proofs.message.Given as goal

abbrev pub invariant-loop-i : goal.invariant-loop-i
invariant-loop-i l = take l.i l.byte-items ≡ bytes_of l.n l.i
