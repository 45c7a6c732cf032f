-- What the library reads of the 4 bytes is the word: `word4_read`. Assumes nothing.
use Rattle.std.proofs.Common.{arith}
use Rattle.rapidhash.proofs.Words.{word4_read}
use Rattle.rapidhash.proofs.util.read.word4.Goals as goal

pub returns : goal.returns
returns c = (search (c.from.ensures, word4_read), omega arith)
