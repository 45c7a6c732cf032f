-- Demand 1 for label records: no contract leaves a choice. Two answers that one contract allows for the same input are equal. Assumes nothing.
use Rattle.std.proofs.Common.{◌≡◌, ℕ, List, Bor}
use Rattle.secrets.proofs.Demand1.{OneAnswer, one}
use Rattle.label.proofs.field.header.Reads as header
use Rattle.label.proofs.field.lengths_of.Reads as lengths-of
use Rattle.label.proofs.field.U64FromWhy.from.Reads as number
use Rattle.label.proofs.reading.read.Reads as read
use Rattle.label.proofs.finding.find.Reads as find
use Rattle.label.proofs.finding.part.Reads as part
use Rattle.label.proofs.fingerprint.fingerprint.Reads as fingerprint

pub header_one : OneAnswer header.Post
header_one κ a r₁ r₂ s₁ s₂ p q = one p q

pub lengths_of_one : OneAnswer lengths-of.Post
lengths_of_one κ a r₁ r₂ s₁ s₂ p q = one p q

pub number_one : OneAnswer number.Post
number_one κ a r₁ r₂ s₁ s₂ p q = one p q

pub read_one : OneAnswer read.Post
read_one κ a r₁ r₂ s₁ s₂ p q = one p q

pub find_one : OneAnswer find.Post
find_one κ a r₁ r₂ s₁ s₂ p q = one p q

pub fingerprint_one : OneAnswer fingerprint.Post
fingerprint_one κ a r₁ r₂ s₁ s₂ p q = one p q

-- what is seen of the answers that a contract allows is one, also where two come with two exits
abbrev Seen : {K : Type 0} {A S : K → Type 0} {X : Type 0} → (Bor (List ℕ) → X) → ((κ : K) → A κ → Bor (List ℕ) → S κ → Type 0) → Type 0
Seen {K} {A} {S} see P = (κ : K) (a : A κ) (r₁ r₂ : Bor (List ℕ)) (s₁ s₂ : S κ) → P κ a r₁ s₁ → P κ a r₂ s₂ → see r₁ ≡ see r₂

-- a part that is handed back: the same bytes, and the same place. A reference has besides a name by which a proof follows it, and which no
-- program sees; the contract leaves it open
pub part_bytes_one : Seen (λ x. x.now) part.Post
part_bytes_one κ a r₁ r₂ s₁ s₂ p q = one p.bytes q.bytes

pub part_place_one : Seen (λ x. x.ref_ptr) part.Post
part_place_one κ a r₁ r₂ s₁ s₂ p q = one p.memory q.memory
