-- The answer by what finish answers. Assumes nothing.
use Rattle.std.proofs.Common.{ℕ, ◌≡◌, Result, Ok, Err}
use Rattle.std.proofs.lemmas.Bool.{false≢true}
use Rattle.std.specs.Result.{IsErr}
use Rattle.stream.specs.State.{ended, finish_of}
use Rattle.stream.specs.declared.rapid_stream_hasher.RapidStreamHasher.{RapidStreamHasher}
use Rattle.stream.specs.declared.rapid_stream_hasher.Finished.{Finished}
use Rattle.stream.specs.declared.rapid_stream_hasher.NotSound.{NotSound}
use Rattle.rapid_file.specs.Lines.{answer_of}
use Rattle.rapid_file.specs.declared.part.ReadFailed.{ReadFailed}

module _ (g : Result RapidStreamHasher ReadFailed) where
  -- where something failed
  pub answer_failed : (r : Result ℕ ReadFailed) {e : ReadFailed} → IsErr r → g ≡ Err e → r ≡ answer_of g
  unfolding answer_of
  answer_failed (Err x) i u = rw u
  answer_failed (Ok v) i u = absurd (false≢true i)

  module _ (s : RapidStreamHasher) (u : g ≡ Ok s) (f : Result Finished NotSound) (e : ended f ≡ finish_of 7 s) where
    -- where finish has no hash
    pub answer_unsound : (r : Result ℕ ReadFailed) {x : NotSound} → IsErr r → f ≡ Err x → r ≡ answer_of g
    unfolding answer_of
    answer_unsound (Err y) i n = rw (u, ← e, n)
    answer_unsound (Ok v) i n = absurd (false≢true i)

    -- and where it has
    pub answer_hash : (d : Finished) → f ≡ Ok d → Ok d.hash ≡ answer_of g
    unfolding answer_of
    answer_hash d n = rw (u, ← e, n)
