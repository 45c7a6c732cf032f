-- Runs of calls on a lent hasher, whatever functions it is lent to. Their contracts are clauses of the logic: in every model, what the steps of a
-- run ensure, all together, entails that the run goes by the rules, and so as on a plain list of the accepted bytes. Assumes nothing.
use Rattle.std.proofs.Common.{◌≡◌, ℕ, List}
use seplogic.Ra.Ura.{Ura}
use base.Logic.{SProp, ent, sep, emp, via}
use contract.Lifetimes.{Lfts}
use contract.Monad.{fact, fact_i, fact_mono}
use denote.Triple.Clauses.{Ended as Exits, AtExit, Clauses}
use denote.Triple.Entry.{Args, Res}
use Rattle.stream.specs.State.{AfterWrite, Ended, opening_of, write_of, finish_of, reset_of}
use Rattle.stream.specs.Calls.{Call, Ran}
use Rattle.stream.specs.declared.rapid_stream_hasher.Settings.{Settings}
use Rattle.stream.specs.declared.rapid_stream_hasher.RapidStreamHasher.{RapidStreamHasher}
use Rattle.stream.proofs.Seven.{lanes, some_lanes, few_lanes}
use Rattle.stream.proofs.Runs.{Way, Runs, stop, by_write, by_finish, by_reset, rules, AsAList, ruled_as_a_list}
use Rattle.lent.proofs.Demand1.{from_both}

-- a function that a hasher is lent to: its contract, what is given to it, read off the arguments, and what it tells, read off the result and what
-- the arguments hold at exit
pub record Lent {M : Type 1} (𝓤 : Ura M) (I O : Type 0) : Type 2 where
  pub exits : Exits
  pub clauses : Clauses 𝓤 exits
  pub given : (κs : Lfts exits.signature.lifetimes) → Args exits.signature κs → I
  pub told : (κs : Lfts exits.signature.lifetimes) → Res exits.signature κs → AtExit exits κs → O

module _ {M : Type 1} {𝓤 : Ura M} {I O : Type 0} (f : Lent 𝓤 I O) where
  -- a step: a call with any arguments, any result r, and any e that the arguments hold at exit
  pub data Step : I → O → Type 0 where
    call : (κs : Lfts f.exits.signature.lifetimes) (a : Args f.exits.signature κs) (g : (f.clauses κs a).ghost)
        (r : Res f.exits.signature κs) (e : AtExit f.exits κs) → Step (f.given κs a) (f.told κs r e)

  -- what the contract ensures of it
  unfoldable pub ensures : {i : I} {o : O} → Step i o → SProp 𝓤
  ensures (call κs a g r e) = (f.clauses κs a).ensures g r e

  -- the contract says that what is told is by a rule
  abbrev pub Ruled : (I → O) → Type 1
  Ruled rule = (κs : Lfts f.exits.signature.lifetimes) (a : Args f.exits.signature κs) (g : (f.clauses κs a).ghost)
      (r : Res f.exits.signature κs) (e : AtExit f.exits κs)
      → ent 𝓤 ((f.clauses κs a).ensures g r e) (fact 𝓤 (f.told κs r e ≡ rule (f.given κs a)))

  -- so each step tells that it is
  ruled : {i : I} {o : O} (rule : I → O) → Ruled rule → (s : Step i o) → ent 𝓤 (ensures s) (fact 𝓤 (o ≡ rule i))
  unfolding ensures
  ruled rule k (call κs a g r e) = k κs a g r e

-- the rule of write, of a state and bytes
abbrev writes : RapidStreamHasher × List ℕ → AfterWrite
writes i = write_of lanes i.0 i.1

-- the functions that write, finish and reset a lent hasher, by the rules
pub record Calls {M : Type 1} (𝓤 : Ura M) : Type 2 where
  pub write : Lent 𝓤 (RapidStreamHasher × List ℕ) AfterWrite
  pub finish : Lent 𝓤 RapidStreamHasher Ended
  pub reset : Lent 𝓤 RapidStreamHasher RapidStreamHasher
  pub write_ruled : Ruled write writes
  pub finish_ruled : Ruled finish (finish_of lanes)
  pub reset_ruled : Ruled reset reset_of

module _ {M : Type 1} {𝓤 : Ura M} (c : Calls 𝓤) where
  -- they are a way to call: each is given the state that the one before it left behind the reference
  abbrev pub way : Way
  way = record { writes = λ h s a. Step c.write (h, s) a; finishes = Step c.finish; resets = Step c.reset }

  -- what the steps of a run ensure, all together
  unfoldable pub ensured : {h : RapidStreamHasher} {cs : List Call} {l : Ran RapidStreamHasher} → Runs way h cs l → SProp 𝓤
  ensured stop = emp 𝓤
  ensured (by_write s r) = sep 𝓤 (ensures c.write s) (ensured r)
  ensured (by_finish s r) = sep 𝓤 (ensures c.finish s) (ensured r)
  ensured (by_reset s r) = sep 𝓤 (ensures c.reset s) (ensured r)

  -- it entails that the run goes by the rules
  pub lent_ruled : {h : RapidStreamHasher} {cs : List Call} {l : Ran RapidStreamHasher} (r : Runs way h cs l)
      → ent 𝓤 (ensured r) (fact 𝓤 (Runs (rules lanes) h cs l))
  unfolding ensured
  lent_ruled stop = fact_i 𝓤 _ (emp 𝓤) stop
  lent_ruled (by_write s r) = from_both 𝓤 (ruled c.write writes c.write_ruled s) (lent_ruled r) by_write
  lent_ruled (by_finish s r) = from_both 𝓤 (ruled c.finish (finish_of lanes) c.finish_ruled s) (lent_ruled r) by_finish
  lent_ruled (by_reset s r) = from_both 𝓤 (ruled c.reset reset_of c.reset_ruled s) (lent_ruled r) by_reset

  -- so, from an opening, as on a plain list, and that its last state is sound
  pub lent_as_a_list : (o : Settings) {h : RapidStreamHasher} → h ≡ opening_of o → {cs : List Call} {l : Ran RapidStreamHasher} (r : Runs way h cs l)
      → ent 𝓤 (ensured r) (fact 𝓤 (AsAList lanes o cs l))
  lent_as_a_list o opens r = via 𝓤 _ (lent_ruled r) (fact_mono 𝓤 _ _ (λ k. ruled_as_a_list lanes some_lanes few_lanes o opens k))
