-- Bytes as numbers, and reads by offset (docs/RULES.md, section 3). A byte past the end of a list counts as 0. Assumes nothing.
use Rattle.std.specs.Prelude.{ℕ, zero, suc, ◌+◌, ◌*◌, ◌^◌, List, leb, length, get_or}
use Rattle.secrets.specs.Choice.{pick}
use Rattle.secrets.specs.Numbers.{Returned, done, past_end}

-- the n bytes of s from place i on, least significant first
unfoldable pub word : ℕ → List ℕ → ℕ → ℕ
word zero s i = 0
word (suc n) s i = word n s i + get_or s (i + n) 0 * 256 ^ n

-- a read of n bytes at an offset: the word, unless it reaches past the end
abbrev pub word_of : ℕ → List ℕ → ℕ → Returned
word_of n s i = pick (leb (i + n) (length s)) (done (word n s i)) past_end
