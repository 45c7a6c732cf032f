-- What a reader of the stream looks for (demand 3): cuts do not matter, finish is the whole-message hash, sound states stay sound,
-- a refusal changes nothing, any sequence of calls answers as on a plain list of the accepted bytes and leads to a sound state, and how many
-- chunks there are at most. Of the definitions; `OfTheCode` carries it to the code. Assumes nothing.
use Rattle.std.proofs.Common.{◌≡◌, ℕ, ◌+◌, ◌-◌, ◌*◌, ◌<◌, ◌≤◌, true, false, List, [], ◌∷◌, ◌++◌, length, Ok, Err, sym, refl, ap, ◌∙◌, arith, length-append, le-leb}
use native.Mathlib.Decide.{dec_le}
use borrow.Author.Tests.{lt-leb}
use Rattle.rapidhash.specs.Hash.{chunks, hash_of}
use Rattle.stream.specs.Stream.{opened, feed}
use Rattle.stream.specs.State.{most, sofar, view, hold, sound, opening_of, said, ended, AfterWrite, taken, write_of, finish_of, reset_of}
use Rattle.stream.specs.Calls.{Call, write, finish, reset, wrote, Ran, first, on_states, on_list}
use Rattle.stream.specs.declared.rapid_stream_hasher.Settings.{Settings}
use Rattle.stream.specs.declared.rapid_stream_hasher.RapidStreamHasher.{RapidStreamHasher}
use Rattle.stream.specs.declared.rapid_stream_hasher.WriteError.TheVariants.{NotSound, TooLong}
use Rattle.stream.proofs.Seven.{lanes, some_lanes}
use Rattle.stream.proofs.Sound.{most_chunks_lem}
use Rattle.stream.proofs.Whole.{stream_count, stream_is_message}
use Rattle.stream.proofs.Good.{total}
use Rattle.stream.proofs.Hold.{view-hold, sound-hold, good-view, total-view, hold-view}
use Rattle.stream.proofs.After.{fed, stream_of, after, fed-append, good-fed, total-fed, taken-hold, good_after, after_none, sofar_after, sound_after, reset_after}

module _ (L : ℕ) (pos : 0 < L) (few : L ≤ 7) where
  -- (a) Where the bytes are cut does not matter: a sound state takes xs and then ys as it takes both at once. So the state depends only on the
  -- bytes, the seed, the secrets and the flags.
  pub cuts : (h : RapidStreamHasher) (xs ys : List ℕ) → length h.buffer ≡ 128 → sound L h ≡ true → taken L (taken L h xs) ys ≡ taken L h (xs ++ ys)
  unfolding taken
  cuts h xs ys size ok =
      let o = h.settings in
      let g = good-fed L o pos (view h) xs (good-view L few h size ok) in
      taken-hold L o (fed L o (view h) xs) ys g.sixteen ∙ ap (hold o) (sym (fed-append L o (view h) xs ys))

  -- From an opening this needs nothing.
  pub taken_after : (o : Settings) (xs ys : List ℕ) → taken L (after L o xs) ys ≡ after L o (xs ++ ys)
  unfolding after
  taken_after o xs ys =
      taken-hold L o (stream_of L o xs) ys (good_after L o pos xs).sixteen ∙ ap (hold o) (sym (fed-append L o (opened o.secrets.seed) xs ys))

  -- No bytes leave a sound state as it is.
  pub taken_none : (h : RapidStreamHasher) → length h.buffer ≡ 128 → sound L h ≡ true → taken L h [] ≡ h
  unfolding taken feed
  taken_none = hold-view L few

  -- (b) Finish after any bytes that are not too many answers the hash of them as one message, and the number of chunks that this mixes.
  pub finish_is_whole : (o : Settings) (bytes : List ℕ) → length bytes ≤ most
      → finish_of L (after L o bytes)
      ≡ ended (Ok (record { hash = hash_of L o.avalanche o.protected o.secrets bytes; count = chunks (16 * L) (length bytes) }))
  unfolding finish_of after hold
  finish_is_whole o bytes l =
      rw (
        sound_after L o pos bytes l,
        view-hold o (stream_of L o bytes) (good_after L o pos bytes).sixteen,
        stream_is_message L o.avalanche o.protected o.secrets bytes pos,
        stream_count L o.protected o.secrets bytes pos,
      )

  module _ (h : RapidStreamHasher) (s : List ℕ) where
    -- (d) A write to a state that is not sound says so and gives the state back.
    pub refused_not_sound : sound L h ≡ false → write_of L h s ≡ record { state = h; says = said (Err NotSound) }
    unfolding write_of
    refused_not_sound e = rw e

    -- A write that would make the stream too long says how many bytes there is room for, and gives the state back.
    pub refused_too_long : sound L h ≡ true → most < sofar L h + length s
        → write_of L h s ≡ record { state = h; says = said (Err (TooLong (most - sofar L h))) }
    unfolding write_of
    refused_too_long e l = rw (e, lt-leb (sofar L h + length s) most l)

    -- Any other write takes all of the bytes.
    pub taken_when : sound L h ≡ true → sofar L h + length s ≤ most → write_of L h s ≡ record { state = taken L h s; says = said (Ok tt) }
    unfolding write_of
    taken_when e l = rw (e, le-leb (sofar L h + length s) most l)

  -- (c) An opening is sound.
  pub opening_sound : (o : Settings) → sound L (opening_of o) ≡ true
  opening_sound o = rw (after_none L o) at (sound_after L o pos [] (omega arith))

  -- So is a state after reset, whatever it was before.
  pub reset_sound : (h : RapidStreamHasher) → sound L (reset_of h) ≡ true
  unfolding reset_of
  reset_sound h = opening_sound h.settings

  -- And a sound state stays so by a write, whether this takes the bytes or refuses them.
  pub written_sound : (h : RapidStreamHasher) (s : List ℕ) → length h.buffer ≡ 128 → sound L h ≡ true → sound L (write_of L h s).state ≡ true
  unfolding taken
  written_sound h s size ok = go (dec_le (sofar L h + length s) most)
    where
      go : Dec (sofar L h + length s ≤ most) → sound L (write_of L h s).state ≡ true
      go (yes l) =
          let o = h.settings in
          let g = good-view L few h size ok in
          let n : total L (fed L o (view h) s) ≡ sofar L h + length s = total-fed L o pos (view h) s g ∙ rw (total-view L few h size ok) in
          rw (taken_when h s ok l) (sound-hold o (fed L o (view h) s) L (good-fed L o pos (view h) s g) (omega arith))
      go (no n) = rw (refused_too_long h s ok (omega arith)) ok

  -- what comes from a write on is what it says, and what comes from its state on
  after_write : (h : RapidStreamHasher) (s : List ℕ) (cs : List Call) {a : AfterWrite} → write_of L h s ≡ a
      → on_states L h (write s ∷ cs) ≡ first (wrote a.says) (on_states L a.state cs)
  unfolding on_states
  after_write h s cs e = rw e

  -- the run on states that a run on the list stands for: the same replies, and the state of the bytes
  abbrev pub stated : Settings → Ran (List ℕ) → Ran RapidStreamHasher
  stated o l = record { replies = l.replies; last = after L o l.last }

  -- if the later calls go alike, so do a write and the later calls
  alike_write : (o : Settings) (bytes s : List ℕ) (cs : List Call) → length bytes ≤ most
      → ((b : List ℕ) → length b ≤ most → on_states L (after L o b) cs ≡ stated o (on_list L o b cs))
      → on_states L (after L o bytes) (write s ∷ cs) ≡ stated o (on_list L o bytes (write s ∷ cs))
  unfolding on_list
  alike_write o bytes s cs m later = go (dec_le (length bytes + length s) most)
    where
      h : RapidStreamHasher
      h = after L o bytes

      go : Dec (length bytes + length s ≤ most) → on_states L h (write s ∷ cs) ≡ stated o (on_list L o bytes (write s ∷ cs))
      go (yes l) =
          after_write h s cs (taken_when h s (sound_after L o pos bytes m) (rw (sofar_after L o pos bytes) l))
          ∙ rw (taken_after o bytes s, later (bytes ++ s) (rw length-append l), le-leb (length bytes + length s) most l)
      go (no n) =
          let l : most < length bytes + length s = omega arith in
          after_write h s cs (refused_too_long h s (sound_after L o pos bytes m) (rw (sofar_after L o pos bytes) l))
          ∙ rw (sofar_after L o pos bytes, later bytes m, lt-leb (length bytes + length s) most l)

  -- the general statement: from the state after any bytes, as from those bytes as a list
  pub from_after : (o : Settings) (bytes : List ℕ) (cs : List Call) → length bytes ≤ most → on_states L (after L o bytes) cs ≡ stated o (on_list L o bytes cs)
  unfolding on_states on_list
  from_after o bytes [] m = refl
  from_after o bytes (write s ∷ cs) m = alike_write o bytes s cs m (λ b l. from_after o b cs l)
  from_after o bytes (finish ∷ cs) m = rw (finish_is_whole o bytes m, from_after o bytes cs m)
  from_after o bytes (reset ∷ cs) m = rw (reset_after L o bytes, from_after o [] cs (omega arith))

  -- (e) For every sequence of writes, finishes and resets from any opening, the states answer at each step as a plain list of the accepted bytes
  -- does, refused writes included, and the last state is the opening with those bytes written at once. A finish changes nothing: the calls after
  -- it go as if it had not been.
  pub as_a_list : (o : Settings) (cs : List Call)
      → on_states L (opening_of o) cs ≡ record { replies = (on_list L o [] cs).replies; last = taken L (opening_of o) (on_list L o [] cs).last }
  as_a_list o cs =
      let last : taken L (after L o []) (on_list L o [] cs).last ≡ after L o (on_list L o [] cs).last = taken_after o [] (on_list L o [] cs).last in
      rw (← after_none L o) (from_after o [] cs (omega arith) ∙ rw last)

  module _ (o : Settings) where
    -- the accepted bytes are never too many
    pub list_short : (bytes : List ℕ) (cs : List Call) → length bytes ≤ most → length (on_list L o bytes cs).last ≤ most
    unfolding on_list
    list_short bytes [] m = m
    list_short bytes (write s ∷ cs) m = go (dec_le (length bytes + length s) most) (λ b l. list_short b cs l)
      where
        go : Dec (length bytes + length s ≤ most) → ((b : List ℕ) → length b ≤ most → length (on_list L o b cs).last ≤ most)
            → length (on_list L o bytes (write s ∷ cs)).last ≤ most
        go (yes l) later = rw (le-leb (length bytes + length s) most l) (later (bytes ++ s) (rw length-append l))
        go (no n) later = rw (lt-leb (length bytes + length s) most (omega arith)) (later bytes m)
    list_short bytes (finish ∷ cs) m = list_short bytes cs m
    list_short bytes (reset ∷ cs) m = list_short [] cs (omega arith)

    -- (f) So every state that calls lead to from an opening is sound.
    pub reached_sound : (cs : List Call) → sound L (on_states L (opening_of o) cs).last ≡ true
    reached_sound cs =
        let l = (on_list L o [] cs).last in
        rw (← after_none L o, from_after o [] cs (omega arith)) (sound_after L o pos l (list_short [] cs (omega arith)))

-- (g) A sound state of the code's size has mixed at most 164703072086692425 chunks, and at most 15 bytes wait where it has mixed as many.
pub most_chunks_seven : (h : RapidStreamHasher) → sound lanes h ≡ true
    → (h.count ≤ 164703072086692425) × (h.count ≡ 164703072086692425 → h.waiting ≤ 15)
most_chunks_seven h = most_chunks_lem lanes h some_lanes
