-- What the library reads of the 8 bytes is the word: `word8_read`. Assumes nothing.
use Rattle.rapidhash.proofs.Words.{word8_read}
use Rattle.rapidhash.proofs.util.read.word8.Goals as goal

pub returns : goal.returns
returns c = search word8_read
