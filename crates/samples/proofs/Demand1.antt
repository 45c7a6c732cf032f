-- Demand 1 for the samples: the contract leaves no choice. Assumes nothing.
use Rattle.secrets.proofs.Demand1.{OneAnswer, one}
use Rattle.samples.proofs.message.Reads as message

pub message_one : OneAnswer message.Post
message_one κ a r₁ r₂ s₁ s₂ p q = one p q
