-- The examples worked by hand, closed by computation. Assumes nothing.
use Rattle.std.proofs.Common.{◌≡◌, true, refl}
use Rattle.secrets.specs.Choice.{every, all_are}
use Rattle.rapidhash.specs.Words.{word}
use Rattle.secrets.specs.Mix.{low, high, mum, mix}
use Rattle.secrets.specs.Secrets.{defaults, mend, repair, stirred, premix, chain, seed_of}
use Rattle.rapidhash.specs.Hash.{
  chunks,
  mix_pair,
  chunk_step,
  lanes_after,
  mixed_of,
  joined,
  tail,
  tail_ends,
  reached_of,
  long_ends,
  ends_of,
  avalanched,
  last_of,
  hash_of,
}
use Rattle.stream.specs.Stream.{opened, slide, mixed_in, with_byte, push, feed}
use Rattle.stream.specs.State.{view, hold, opening_of, sound, taken, write_of, finish_of}
use Rattle.label.specs.Label.{table, within_row, field_of, header_of, onward, walk_from, walk_of, with_tag, read_of, value_of, hashed_of}
use Rattle.label.specs.Worked.{worked, W1, W2, W3, W4, W5, W6, W7, W8, W9, W10, W11, W12}

-- every example of the table is what the rules compute
pub worked_by_hand : every worked ≡ true
unfolding worked W1 W2 W3 W4 W5 W6 W7 W8 W9 W10 W11 W12
    all_are low high mum mix defaults mend repair stirred premix chain seed_of
    word chunks mix_pair chunk_step lanes_after mixed_of joined tail tail_ends reached_of long_ends ends_of avalanched last_of hash_of
    opened slide mixed_in with_byte push feed view hold opening_of sound taken write_of finish_of
    table within_row field_of header_of onward walk_from walk_of with_tag read_of value_of hashed_of
worked_by_hand = refl
