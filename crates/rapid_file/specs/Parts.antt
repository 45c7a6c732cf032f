-- The input, part by part (docs/RULES.md, section 6): what one part comes to, and what parts come to that were read one after
-- another. Assumes nothing.
use Rattle.std.specs.Prelude.{ℕ, ◌≡◌, ◌≤◌, ⊤, List, [], ◌++◌, eqb, length, take, Option, Result, Ok, Err}
use Rattle.std.specs.Io.KnownBytes.{Consumes, IsAtEnd}
use Rattle.secrets.specs.Choice.{pick}
use Rattle.stream.specs.State.{most, write_of}
use Rattle.stream.specs.declared.rapid_stream_hasher.RapidStreamHasher.{RapidStreamHasher}
use Rattle.rapid_file.specs.declared.part.Part.{Part}
use Rattle.rapid_file.specs.declared.part.ReadFailed.{ReadFailed}

-- the bytes of a part: as many as were read
abbrev pub part_bytes : Part → List ℕ
part_bytes p = take p.count p.bytes

-- the end by a failure
abbrev pub failed_with : Result RapidStreamHasher ReadFailed
failed_with = Err (record {})

-- one part to a stream: a failed read, and a part that the stream does not take, end in a failure; else all its bytes are written
unfoldable pub progress_of : RapidStreamHasher → Part → Result (Unit {0}) ReadFailed → Result RapidStreamHasher ReadFailed
progress_of h p (Err e) = Err e
progress_of h p (Ok u) = let w = write_of 7 h (part_bytes p) in pick (eqb w.says.number 0) (Ok w.state) failed_with

-- what parts come to, from a stream on, read one after another while nothing fails
pub data Came (h : RapidStreamHasher) : Result RapidStreamHasher ReadFailed → Type 0 where
  none : Came h (Ok h)
  part : {s : RapidStreamHasher} (p : Part) (r : Result (Unit {0}) ReadFailed) → Came h (Ok s) → Came h (progress_of s p r)

-- the bytes of all those parts, joined
unfoldable pub bytes_in : {h : RapidStreamHasher} {g : Result RapidStreamHasher ReadFailed} → Came h g → List ℕ
bytes_in none = []
bytes_in (part p r c) = bytes_in c ++ part_bytes p

-- each of those parts is full
unfoldable pub AllFull : {h : RapidStreamHasher} {g : Result RapidStreamHasher ReadFailed} → Came h g → Type 0
AllFull none = ⊤
AllFull (part p r c) = (p.count ≡ 8192) × AllFull c

-- and each but the last
unfoldable pub FullBeforeLast : {h : RapidStreamHasher} {g : Result RapidStreamHasher ReadFailed} → Came h g → Type 0
FullBeforeLast none = ⊤
FullBeforeLast (part p r c) = AllFull c

-- what parts come to that a reader gave, by the bytes that it had before and has after, where they are known: each part but the last is full,
-- and they have the bytes that it lost; and where nothing failed it has none left, unless they are more than a stream may have
pub record CameFrom (h : RapidStreamHasher) (g : Result RapidStreamHasher ReadFailed) (before after : Option (List ℕ)) : Type 0 where
  pub parts : Came h g
  pub full : FullBeforeLast parts
  pub bytes : Consumes before after (bytes_in parts)
  pub ended : (s : RapidStreamHasher) → g ≡ Ok s → length (bytes_in parts) ≤ most → IsAtEnd after
