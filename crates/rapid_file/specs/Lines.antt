-- The line that the file program writes (docs/RULES.md, section 6). Assumes nothing.
use Rattle.std.specs.Prelude.{ℕ, ◌^◌, ◌-◌, ◌≤◌, true, false, List, [], ◌∷◌, ◌++◌, codes, eqb, length, Result, Ok, Err}
use Rattle.std.specs.Fmt.{digits, padded_integral, format_spec}
use Rattle.secrets.specs.Choice.{pick}
use Rattle.secrets.specs.Secrets.{seed_cpp}
use Rattle.rapidhash.specs.Hash.{hash_of}
use Rattle.stream.specs.State.{most, finish_of}
use Rattle.stream.specs.declared.rapid_stream_hasher.RapidStreamHasher.{RapidStreamHasher}
use Rattle.rapid_file.specs.declared.part.ReadFailed.{ReadFailed}

-- 16 lowercase hexadecimal digits, as `{:016x}` writes them
abbrev pub hash_line : ℕ → List ℕ
hash_line hash = padded_integral (format_spec 32 0 4 16 (2 ^ 64 - 1)) false [] (digits 16 false hash) ++ (10 ∷ [])

-- the fixed line
abbrev pub failed_line : List ℕ
failed_line = codes "read failed\n"

-- the hash that finish answers, unless something failed
unfoldable pub answer_of : Result RapidStreamHasher ReadFailed → Result ℕ ReadFailed
answer_of (Err e) = Err e
answer_of (Ok s) = let e = finish_of 7 s in pick (eqb e.number 0) (Ok e.hash) (Err (record {}))

-- the line of an answer: of the hash, or the fixed one
abbrev pub line_for : Result ℕ ReadFailed → List ℕ
line_for (Ok hash) = hash_line hash
line_for (Err e) = failed_line

-- the line at the end: of the hash that finish answers, or the fixed one where something failed
abbrev pub line_of : Result RapidStreamHasher ReadFailed → List ℕ
line_of g = line_for (answer_of g)

-- a line for an input: of the hash of all its bytes, avalanche on, protected off, default secrets; or the fixed one, as where a read failed
pub data IsLineOf (bytes : List ℕ) : List ℕ → Type 0 where
  hashed : length bytes ≤ most → IsLineOf bytes (hash_line (hash_of 7 true false (seed_cpp 0) bytes))
  failed : IsLineOf bytes failed_line
