-- Runs of calls, whatever makes the calls: by value, lent or exported. One law carries demand 3 over to each: a run whose every step goes by the
-- rules goes as on a plain list of the accepted bytes. Assumes nothing.
use Rattle.std.proofs.Common.{◌≡◌, ℕ, ◌<◌, ◌≤◌, true, List, [], ◌∷◌, refl, ◌∙◌}
use Rattle.stream.specs.State.{sound, AfterWrite, Ended, taken, opening_of, write_of, finish_of, reset_of}
use Rattle.stream.specs.Calls.{Call, write, finish, reset, wrote, finished, did_reset, Ran, first, on_states, on_list}
use Rattle.stream.specs.declared.rapid_stream_hasher.Settings.{Settings}
use Rattle.stream.specs.declared.rapid_stream_hasher.RapidStreamHasher.{RapidStreamHasher}
use Rattle.stream.proofs.Demand3.{as_a_list, reached_sound}

-- a way to call: the steps that there are from a state, and bytes, to an answer
pub record Way : Type 1 where
  pub writes : RapidStreamHasher → List ℕ → AfterWrite → Type 0
  pub finishes : RapidStreamHasher → Ended → Type 0
  pub resets : RapidStreamHasher → RapidStreamHasher → Type 0

-- a run: each call is a step of the way from the state that the one before led to; what the run comes to is what its steps answer
pub data Runs (way : Way) : RapidStreamHasher → List Call → Ran RapidStreamHasher → Type 0 where
  stop : {h : RapidStreamHasher} → Runs way h [] (record { replies = []; last = h })
  by_write : {h : RapidStreamHasher} {s : List ℕ} {a : AfterWrite} {cs : List Call} {l : Ran RapidStreamHasher}
      → way.writes h s a → Runs way a.state cs l → Runs way h (write s ∷ cs) (first (wrote a.says) l)
  by_finish : {h : RapidStreamHasher} {a : Ended} {cs : List Call} {l : Ran RapidStreamHasher}
      → way.finishes h a → Runs way h cs l → Runs way h (finish ∷ cs) (first (finished a) l)
  by_reset : {h a : RapidStreamHasher} {cs : List Call} {l : Ran RapidStreamHasher}
      → way.resets h a → Runs way a cs l → Runs way h (reset ∷ cs) (first did_reset l)

-- what a run from the opening of o comes to if it goes as on a plain list: the same replies, and the last state is the opening with the accepted
-- bytes written at once, and sound
pub record AsAList (L : ℕ) (o : Settings) (cs : List Call) (l : Ran RapidStreamHasher) : Type 0 where
  pub alike : l ≡ record { replies = (on_list L o [] cs).replies; last = taken L (opening_of o) (on_list L o [] cs).last }
  pub last_sound : sound L l.last ≡ true

module _ (L : ℕ) where
  -- the rules as a way to call
  abbrev pub rules : Way
  rules = record { writes = λ h s a. a ≡ write_of L h s; finishes = λ h a. a ≡ finish_of L h; resets = λ h a. a ≡ reset_of h }

  -- what comes from a write on
  from_write : (h : RapidStreamHasher) (s : List ℕ) (a : AfterWrite) (cs : List Call) (l : Ran RapidStreamHasher)
      → a ≡ write_of L h s → l ≡ on_states L a.state cs
      → first (wrote a.says) l ≡ first (wrote (write_of L h s).says) (on_states L (write_of L h s).state cs)
  from_write h s a cs l e k = rw (k, ← e)

  -- a run by the rules is the run on states
  pub ruled_states : {h : RapidStreamHasher} {cs : List Call} {l : Ran RapidStreamHasher} → Runs rules h cs l → l ≡ on_states L h cs
  unfolding on_states
  ruled_states stop = refl
  ruled_states (by_write {h} {s} {a} {cs} {l} e r) = from_write h s a cs l e (ruled_states r)
  ruled_states (by_finish e r) = rw (e, ruled_states r)
  ruled_states (by_reset e r) = rw (ruled_states r, e)

  -- the law: from an opening it goes as on a plain list
  pub ruled_as_a_list : 0 < L → L ≤ 7 → (o : Settings) {h : RapidStreamHasher} → h ≡ opening_of o
      → {cs : List Call} {l : Ran RapidStreamHasher} → Runs rules h cs l → AsAList L o cs l
  ruled_as_a_list pos few o {h} opens {cs} {l} r =
      let e : l ≡ on_states L (opening_of o) cs = ruled_states r ∙ rw opens in
      record { alike = e ∙ as_a_list L pos few o cs; last_sound = rw e (reached_sound L pos few o cs) }
