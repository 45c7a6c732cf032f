-- What the library reads of the 4 bytes is the word: `word4_found`. Assumes nothing.
use Rattle.std.proofs.Common.{rules}
use Rattle.rapidhash.proofs.ReadLaws.{word4_found}
use Rattle.rapidhash.proofs.util.read.read_u32.Goals as goal

pub returns : goal.returns
returns c = search (rules, word4_found)
