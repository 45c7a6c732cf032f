-- Demand 1 for the lent hasher: no contract leaves a choice. Of two answers that one contract allows, and of the states after them, both are
-- equal. Assumes nothing.
use seplogic.Ra.Ura.{Ura}
use base.Logic.{SProp, ent, sep, id⊢, via, fst∗, snd∗}
use prog.Memory.{Memory}
use prog.Routine.{Routine}
use types.Logic.{Logic}
use contract.Lifetimes.{Lfts}
use contract.Monad.{Fun, fact, fact_i, fact_use}
use Rattle.std.proofs.Common.{◌≡◌}
use denote.Triple.Clauses.{Ended as Exits, AtExit, Clauses}
use denote.Triple.Entry.{Args, Res}
use Rattle.lent.specs.contracts.write as lent-write
use Rattle.lent.specs.contracts.finish as lent-finish
use Rattle.lent.specs.contracts.reset as lent-reset
use Rattle.lent.specs.contracts.hash_of_two as hash-of-two
use Rattle.secrets.proofs.Demand1.{one}
use Rattle.stream.proofs.Demand1.{written, written_apart, ended_apart}

-- Of a lent hasher the answer and the state after it are fixed. Its contracts are clauses of the logic: in every model, of two answers r that
-- a contract allows, each with an e that the arguments hold at exit, f is the same
module _ {M : Type 1} (𝓤 : Ura M) (T : Exits) (c : Clauses 𝓤 T) {X : Type 0} where
  abbrev pub OneAfter : ((κs : Lfts T.signature.lifetimes) → Res T.signature κs → AtExit T κs → X) → Type 1
  OneAfter f = (κs : Lfts T.signature.lifetimes) (a : Args T.signature κs) (g : (c κs a).ghost)
      (r₁ r₂ : Res T.signature κs) (e₁ e₂ : AtExit T κs)
      → ent 𝓤 (sep 𝓤 ((c κs a).ensures g r₁ e₁) ((c κs a).ensures g r₂ e₂)) (fact 𝓤 (f κs r₁ e₁ ≡ f κs r₂ e₂))

-- from what two assertions tell to a third fact
pub from_both : {M : Type 1} (𝓤 : Ura M) {P Q : SProp 𝓤} {φ ψ χ : Type 0} → ent 𝓤 P (fact 𝓤 φ) → ent 𝓤 Q (fact 𝓤 ψ) → (φ → ψ → χ)
    → ent 𝓤 (sep 𝓤 P Q) (fact 𝓤 χ)
from_both 𝓤 {P} {Q} {φ} {ψ} {χ} f g k =
    fact_use 𝓤 φ (via 𝓤 P (fst∗ 𝓤 P Q) f) (λ p. fact_use 𝓤 ψ (via 𝓤 Q (snd∗ 𝓤 P Q) g) (λ q. fact_i 𝓤 χ _ (k p q)))

module _ {M : Type 1} {𝓤 : Ura M} (𝓛 : Logic 𝓤) (mem : Memory → SProp 𝓤) (run : Routine → Fun 𝓤) where
  -- from two facts to a third
  pub both : (φ ψ : Type 0) {χ : Type 0} → (φ → ψ → χ) → ent 𝓤 (sep 𝓤 (fact 𝓤 φ) (fact 𝓤 ψ)) (fact 𝓤 χ)
  both φ ψ k = from_both 𝓤 (id⊢ 𝓤 (fact 𝓤 φ)) (id⊢ 𝓤 (fact 𝓤 ψ)) k

  pub lent_write_one : OneAfter 𝓤 lent-write.ended (lent-write.clauses 𝓛 mem run) (λ κs r e. written e.0.now r)
  lent_write_one κs a g r₁ r₂ e₁ e₂ =
      both _ _ (λ p q. written_apart (written e₁.0.now r₁) (written e₂.0.now r₂) (one p q))

  pub lent_finish_one : OneAfter 𝓤 lent-finish.ended (lent-finish.clauses 𝓛 mem run) (λ κs r e. r)
  lent_finish_one κs a g r₁ r₂ e₁ e₂ = both _ _ (λ p q. ended_apart r₁ r₂ (one p q))

  pub lent_reset_one : OneAfter 𝓤 lent-reset.ended (lent-reset.clauses 𝓛 mem run) (λ κs r e. e.0.now)
  lent_reset_one κs a g r₁ r₂ e₁ e₂ = both _ _ (λ p q. one p q)

  pub hash_of_two_one : OneAfter 𝓤 hash-of-two.ended (hash-of-two.clauses 𝓛 mem run) (λ κs r e. r)
  hash_of_two_one κs a g r₁ r₂ e₁ e₂ = both _ _ (λ p q. ended_apart r₁ r₂ (one p q))
