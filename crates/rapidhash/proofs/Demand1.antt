-- Demand 1, for the words and the hashes: no contract leaves a choice, as in the crate below. Assumes nothing.
use Rattle.secrets.proofs.Demand1.{OneAnswer, one, found_apart}
use Rattle.rapidhash.proofs.util.read.read_u64.Reads as read_u64
use Rattle.rapidhash.proofs.util.read.read_u32.Reads as read_u32
use Rattle.rapidhash.proofs.util.read.all_zero.Reads as all-zero
use Rattle.rapidhash.proofs.v3.rapid_const.rapidhash_v3.Reads as rapidhash-v3
use Rattle.rapidhash.proofs.v3.rapid_const.rapidhash_v3_seeded.Reads as rapidhash-v3-seeded
use Rattle.rapidhash.proofs.v3.rapid_const.rapidhash_v3_inline.Reads as rapidhash-v3-inline
use Rattle.rapidhash.proofs.v3.rapid_const.rapidhash_v3_micro_inline.Reads as rapidhash-v3-micro-inline
use Rattle.rapidhash.proofs.v3.rapid_const.rapidhash_v3_nano_inline.Reads as rapidhash-v3-nano-inline
use Rattle.rapidhash.proofs.v3.lanes.mix_chunks.Reads as mix-chunks
use Rattle.rapidhash.proofs.v3.lanes.join.Reads as join
use Rattle.rapidhash.proofs.v3.lanes.mix_first.Reads as mix_first
use Rattle.rapidhash.proofs.v3.rapid_const.tail_steps.Reads as tail-steps
use Rattle.rapidhash.proofs.v3.rapid_const.last_step.Reads as last_step

pub read_u64_one : OneAnswer read_u64.Post
read_u64_one κ a r₁ r₂ s₁ s₂ p q = found_apart r₁ r₂ (one p q)

pub read_u32_one : OneAnswer read_u32.Post
read_u32_one κ a r₁ r₂ s₁ s₂ p q = found_apart r₁ r₂ (one p q)

pub rapidhash_v3_one : OneAnswer rapidhash-v3.Post
rapidhash_v3_one κ a r₁ r₂ s₁ s₂ p q = one p q

pub rapidhash_v3_seeded_one : OneAnswer rapidhash-v3-seeded.Post
rapidhash_v3_seeded_one κ a r₁ r₂ s₁ s₂ p q = one p q

pub rapidhash_v3_inline_one : OneAnswer rapidhash-v3-inline.Post
rapidhash_v3_inline_one κ a r₁ r₂ s₁ s₂ p q = one p q

pub rapidhash_v3_micro_inline_one : OneAnswer rapidhash-v3-micro-inline.Post
rapidhash_v3_micro_inline_one κ a r₁ r₂ s₁ s₂ p q = one p q

pub rapidhash_v3_nano_inline_one : OneAnswer rapidhash-v3-nano-inline.Post
rapidhash_v3_nano_inline_one κ a r₁ r₂ s₁ s₂ p q = one p q

pub mix_chunks_one : OneAnswer mix-chunks.Post
mix_chunks_one κ a r₁ r₂ s₁ s₂ p q = one p q

pub join_one : OneAnswer join.Post
join_one κ a r₁ r₂ s₁ s₂ p q = one p q

pub tail_steps_one : OneAnswer tail-steps.Post
tail_steps_one κ a r₁ r₂ s₁ s₂ p q = one p q

pub last_step_one : OneAnswer last_step.Post
last_step_one κ a r₁ r₂ s₁ s₂ p q = one p q

pub all_zero_one : OneAnswer all-zero.Post
all_zero_one κ a r₁ r₂ s₁ s₂ p q = one p q

pub mix_first_one : OneAnswer mix_first.Post
mix_first_one κ a r₁ r₂ s₁ s₂ p q = one p q
