-- What the library reads of the 8 bytes is the word: `word8_found`. Assumes nothing.
use Rattle.std.proofs.Common.{rules}
use Rattle.rapidhash.proofs.ReadLaws.{word8_found}
use Rattle.rapidhash.proofs.util.read.read_u64.Goals as goal

pub returns : goal.returns
returns c = search (rules, word8_found)
