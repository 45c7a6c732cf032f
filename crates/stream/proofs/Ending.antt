-- The hash of a state in the parts that the code reads: the bytes that wait, and the last 16 that have gone by. Assumes nothing.
use Rattle.std.proofs.Common.{◌≡◌, ℕ, ◌+◌, ◌-◌, ◌≤◌, ◌++◌, length, take, drop, bit_xor, sym, refl, ◌∙◌, arith, take-add, eq-eqb, ne_eqb}
use Rattle.rapidhash.specs.Words.{word}
use Rattle.rapidhash.specs.Hash.{joined, turns, tail, tail_ends, last_of, hash_of}
use Rattle.rapidhash.proofs.Words.{word-drop, word-take}
use Rattle.stream.specs.Stream.{slide, stream_ends, stream_hash}
use Rattle.stream.specs.State.{view}
use Rattle.stream.specs.declared.rapid_stream_hasher.RapidStreamHasher.{RapidStreamHasher}
use Rattle.stream.proofs.Hold.{waits_within}
use Rattle.stream.proofs.Seven.{lanes, width}

module _ (h : RapidStreamHasher) (size : length h.buffer ≡ 128) (wide : h.waiting ≤ width) where
  -- the bytes that wait, as the code lends them
  lent : take (16 + h.waiting - 16) (drop 16 h.buffer) ≡ (view h).rest
  unfolding view
  lent = let e : 16 + h.waiting - 16 ≡ h.waiting = omega arith in rw e

  counted : (view h).count ≡ h.count
  unfolding view
  counted = refl

  laned : (view h).lanes ≡ h.lanes
  unfolding view
  laned = refl

  together : (view h).prev ++ (view h).rest ≡ take (16 + h.waiting) h.buffer
  unfolding view
  together = sym (take-add 16 h.waiting h.buffer)

  -- the last 16 bytes that have gone by stand in the buffer from the number of waiting bytes on
  last_words : (i : ℕ) → i + 8 ≤ 16 → word 8 (slide (view h).prev (view h).rest) i ≡ word 8 h.buffer (h.waiting + i)
  unfolding slide
  last_words i k =
      rw (waits_within h size wide, together)
      (word-drop 8 (take (16 + h.waiting) h.buffer) h.waiting i ∙ word-take 8 h.buffer (16 + h.waiting) (h.waiting + i) (omega arith))

  module _ {v : ℕ} where
    -- while no chunk is mixed the bytes that wait are the message
    pub hash_first : h.count ≡ 0
        → v ≡ hash_of lanes h.settings.avalanche h.settings.protected h.settings.secrets (take (16 + h.waiting - 16) (drop 16 h.buffer))
        → v ≡ stream_hash lanes h.settings.avalanche h.settings.protected h.settings.secrets (view h)
    unfolding stream_hash stream_ends hash_of
    hash_first z e = e ∙ rw (lent, counted, eq-eqb h.count 0 z)

    -- else the tail runs over them from the XOR of the lanes
    pub hash_later : {a b x y : ℕ} → (h.count ≡ 0 → ⊥) → a ≡ word 8 h.buffer h.waiting → b ≡ word 8 h.buffer (h.waiting + 8) → y ≡ joined lanes h.lanes
        → x ≡ tail h.settings.protected (take (16 + h.waiting - 16) (drop 16 h.buffer)) 0 (turns h.settings.secrets.secrets) y
        → v ≡ last_of h.settings.avalanche h.settings.protected h.settings.secrets.secrets (record { a = bit_xor a h.waiting; b = b; seed = x; r = h.waiting })
        → v ≡ stream_hash lanes h.settings.avalanche h.settings.protected h.settings.secrets (view h)
    unfolding stream_hash stream_ends tail_ends
    hash_later z ea eb ey ex ev =
        let none : h.waiting + 0 ≡ h.waiting = omega arith in
        let first : word 8 (slide (view h).prev (view h).rest) 0 ≡ word 8 h.buffer h.waiting = last_words 0 (omega arith) ∙ rw none in
        let second : word 8 (slide (view h).prev (view h).rest) 8 ≡ word 8 h.buffer (h.waiting + 8) = last_words 8 (omega arith) in
        ev ∙ rw (counted, ne_eqb h.count 0 z, first, second, waits_within h size wide, laned, ea, eb, ex, ey, lent)
