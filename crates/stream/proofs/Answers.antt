-- What the code answers is what the rules of write and finish say. Assumes nothing.
use Rattle.std.proofs.Common.{◌≡◌, ℕ, ◌+◌, ◌-◌, ◌*◌, ◌<◌, ◌≤◌, true, false, List, length, Ok, Err, sym, arith}
use Rattle.stream.specs.Stream.{stream_hash}
use Rattle.stream.specs.State.{most, sofar, view, sound, taken, answered, refused, write_of, ended, finish_of}
use Rattle.stream.specs.declared.rapid_stream_hasher.RapidStreamHasher.{RapidStreamHasher}
use Rattle.stream.specs.declared.rapid_stream_hasher.WriteError.TheVariants.{NotSound, TooLong}
use Rattle.stream.proofs.Demand3.{refused_not_sound, refused_too_long, taken_when}
use Rattle.stream.proofs.Sound.{sound_facts}
use Rattle.stream.proofs.Seven.{lanes, width, few_lanes, some_lanes}

module _ (h : RapidStreamHasher) (s : List ℕ) where
  -- a state that is not sound comes back as it was
  pub write_unsound : sound lanes h ≡ false → refused h NotSound ≡ write_of lanes h s
  write_unsound e = sym (refused_not_sound lanes some_lanes few_lanes h s e)

  module _ {t : RapidStreamHasher} (e : t ≡ h) (ok : sound lanes t ≡ true) where
    -- bytes for which there is no room: the state as it was, and the room
    pub write_long : {r : ℕ} → r ≡ most - sofar lanes t → r < length s → refused h (TooLong r) ≡ write_of lanes h s
    write_long er l =
        let short : width * t.count + t.waiting ≤ most = (sound_facts lanes t ok).short in
        rw (er, ← e) (sym (refused_too_long lanes some_lanes few_lanes t s ok (omega (arith, short))))

    -- else all are taken
    pub write_took : sofar lanes h + length s ≤ most → {n : RapidStreamHasher} → n ≡ taken lanes t s
        → answered (record { state = n; outcome = Ok tt }) ≡ write_of lanes h s
    write_took l en = rw (en, e) (sym (taken_when lanes some_lanes few_lanes h s (rw e at ok) l))

module _ (h : RapidStreamHasher) where
  -- finish on a sound state
  pub finish_done : {t : RapidStreamHasher} → t ≡ h → sound lanes t ≡ true
      → {v : ℕ} → v ≡ stream_hash lanes t.settings.avalanche t.settings.protected t.settings.secrets (view t)
      → ended (Ok (record { hash = v; count = h.count })) ≡ finish_of lanes h
  unfolding finish_of
  finish_done e ok ev = rw (ev, ← e, ok)

  -- and on any other
  pub finish_unsound : sound lanes h ≡ false → ended (Err (record {})) ≡ finish_of lanes h
  unfolding finish_of
  finish_unsound e = rw e
