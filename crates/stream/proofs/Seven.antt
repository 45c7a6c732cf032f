-- The size that the code is for: seven lanes, as the full hash has. The laws below it are over L; those beside it join them to the code.
-- Assumes nothing.
use Rattle.std.proofs.Common.{ℕ, ◌*◌, ◌/◌, ◌<◌, ◌≤◌, arith}
use Rattle.stream.specs.State.{most}

-- its lanes
abbrev pub lanes : ℕ
lanes = 7

-- its chunk
abbrev pub width : ℕ
width = 16 * lanes

-- the most chunks that the bytes of a stream have: the code's `MOST_CHUNKS`
abbrev pub most_chunks : ℕ
most_chunks = most / width

-- there are some lanes, and not too many
pub some_lanes : 0 < lanes
some_lanes = omega arith

pub few_lanes : lanes ≤ 7
few_lanes = omega arith
