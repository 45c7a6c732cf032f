-- A state and its stream: a sound state holds exactly a stream such as from an opening that is not too long. Assumes nothing.
use Rattle.std.proofs.Common.{◌≡◌, ℕ, zero, suc, ◌+◌, ◌-◌, ◌≤◌, true, eqb, List, [], ◌∷◌, ◌++◌, length, take, drop, replicate, refl, ap, ◌∙◌, append_assoc, arith, length-append, length-drop, take-append-drop, length-take-le, take_at, take-add, drop_at, eq-eqb, eqb-true}
use lib.Seq.{take-append_seam}
use Rattle.secrets.specs.Choice.{all_are}
use Rattle.stream.specs.Stream.{Stream, opened}
use Rattle.stream.specs.State.{most, sofar, view, hold, opening_of, sound}
use Rattle.stream.specs.declared.rapid_stream_hasher.Settings.{Settings}
use Rattle.stream.specs.declared.rapid_stream_hasher.RapidStreamHasher.{RapidStreamHasher}
use Rattle.stream.proofs.Good.{Good, total}
use Rattle.stream.proofs.Sound.{also, both, facts_sound, sound_facts}

-- copies of a number are all that number
copies_are : (v n : ℕ) → all_are v (replicate n v) ≡ true
unfolding all_are
copies_are v zero = refl
copies_are v (suc n) = also (eq-eqb v v refl) (copies_are v n)

-- and what are all a number are copies of it
are_copies : (v : ℕ) (s : List ℕ) → all_are v s ≡ true → s ≡ replicate (length s) v
unfolding all_are
are_copies v [] e = refl
are_copies v (x ∷ xs) e =
    let a = both (eqb x v) (all_are v xs) e in
    rw (eqb-true x v a.0) (ap (λ (l : List ℕ). v ∷ l) (are_copies v xs a.1))

-- the stream of no bytes is held in a buffer of zeros
pub opening_held : (o : Settings) {b : List ℕ} → b ≡ replicate 128 0
    → record { settings = o; lanes = replicate 7 o.secrets.seed; count = 0; waiting = 0; buffer = b } ≡ opening_of o
unfolding opening_of hold opened
opening_held o e = rw e

module _ (o : Settings) (t : Stream) where
  -- the zeros behind the bytes that wait
  abbrev zeros : List ℕ
  zeros = replicate (112 - length t.rest) 0

  -- the buffer begins with the previous bytes
  hold_first : length t.prev ≡ 16 → take 16 (t.prev ++ t.rest ++ zeros) ≡ t.prev
  hold_first e = rw (append_assoc t.prev t.rest zeros) (take_at t.prev (t.rest ++ zeros) 16 e)

  -- the stream that a state was made to hold is the stream that it holds
  pub view-hold : length t.prev ≡ 16 → view (hold o t) ≡ t
  unfolding view hold
  view-hold e =
      rw (hold_first e, append_assoc t.prev t.rest zeros, drop_at t.prev (t.rest ++ zeros) 16 e, take-append_seam t.rest zeros)

  -- a stream such as from an opening that is not too long is held by a sound state
  pub sound-hold : (L : ℕ) → Good L o.secrets.seed t → total L t ≤ most → sound L (hold o t) ≡ true
  unfolding hold
  sound-hold L g m =
      let last : drop (16 + length t.rest) (t.prev ++ t.rest ++ zeros) ≡ zeros =
      drop_at (t.prev ++ t.rest) zeros (16 + length t.rest) (rw (length-append, g.sixteen)) in
      facts_sound L (hold o t)
      (record {
        within = g.within;
        fresh = g.fresh;
        blank = λ e. rw (hold_first g.sixteen) (g.blank e);
        follows = g.follows;
        unused = rw last (copies_are 0 (112 - length t.rest));
        short = m;
      })

-- in a whole buffer as many bytes wait as the state says, if they are not too many
pub waits_within : (h : RapidStreamHasher) → length h.buffer ≡ 128 → h.waiting ≤ 112 → length (view h).rest ≡ h.waiting
unfolding view
waits_within h size wide = length-take-le h.waiting (drop 16 h.buffer) (rw (length-drop, size) (omega arith))

module _ (L : ℕ) (few : L ≤ 7) (h : RapidStreamHasher) (size : length h.buffer ≡ 128) (ok : sound L h ≡ true) where
  -- as many bytes wait as the state says
  pub waits : length (view h).rest ≡ h.waiting
  waits = waits_within h size (omega (arith, (sound_facts L h ok).within))

  -- a sound state holds a stream such as from an opening
  pub good-view : Good L h.settings.secrets.seed (view h)
  unfolding view
  good-view =
      let f = sound_facts L h ok in
      record {
        sixteen = length-take-le 16 h.buffer (omega arith);
        within = rw waits f.within;
        fresh = f.fresh;
        blank = f.blank;
        follows = λ p. rw waits (f.follows p);
      }

  -- of as many bytes as the state has gone by
  pub total-view : total L (view h) ≡ sofar L h
  unfolding view
  total-view = rw waits

  -- and it is the state that was made to hold it
  pub hold-view : hold h.settings (view h) ≡ h
  unfolding hold view
  hold-view =
      let left : length h.buffer - (16 + h.waiting) ≡ 112 - h.waiting = omega (arith, (sound_facts L h ok).within) in
      let last : drop (16 + h.waiting) h.buffer ≡ replicate (112 - h.waiting) 0 =
      are_copies 0 (drop (16 + h.waiting) h.buffer) (sound_facts L h ok).unused ∙ rw (length-drop, left) in
      rw (waits, ← take-add 16 h.waiting h.buffer, ← last, take-append-drop)
