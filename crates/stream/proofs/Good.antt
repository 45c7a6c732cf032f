-- What every stream from an opening has, and how many bytes it has gone by; each byte keeps the first and adds one to the second. Assumes nothing.
use Rattle.std.proofs.Common.{◌≡◌, ℕ, ◌+◌, ◌*◌, ◌<◌, ◌≤◌, Bool, true, List, [], ◌∷◌, length, refl, ◌∙◌, mul-suc, arith, length-append, eq-eqb, ne_eqb}
use native.Mathlib.Decide.{dec_le}
use Rattle.secrets.specs.Choice.{all_are}
use Rattle.stream.specs.Stream.{Stream, opened, mixed_in, with_byte, push, feed}
use Rattle.stream.proofs.Slide.{slide-length}

-- 16 bytes end the previous chunk; at most a chunk waits; before the first chunk the lanes are the seed and the 16 bytes zero; after it at
-- least one byte waits
pub record Good (L seed : ℕ) (t : Stream) : Type 0 where
  pub sixteen : length t.prev ≡ 16
  pub within : length t.rest ≤ 16 * L
  pub fresh : t.count ≡ 0 → all_are seed t.lanes ≡ true
  pub blank : t.count ≡ 0 → all_are 0 t.prev ≡ true
  pub follows : 0 < t.count → 0 < length t.rest

-- the bytes that a stream has gone by
abbrev pub total : ℕ → Stream → ℕ
total L t = 16 * L * t.count + length t.rest

-- the opening is such a stream
pub good_opened : (L seed : ℕ) → Good L seed (opened seed)
unfolding opened all_are
good_opened L seed =
    record { sixteen = refl; within = omega arith; fresh = λ e. rw (eq-eqb seed seed refl); blank = λ e. refl; follows = λ h. absurd (omega arith) }

-- of no bytes
pub total_opened : (L seed : ℕ) → total L (opened seed) ≡ 0
unfolding opened
total_opened L seed = omega arith

module _ (L : ℕ) (p : Bool) (sec : List ℕ) (pos : 0 < L) (seed : ℕ) where
  -- a byte keeps it
  pub good-push : (t : Stream) (b : ℕ) → Good L seed t → Good L seed (push L p sec t b)
  unfolding push mixed_in with_byte
  good-push t b g = go (dec_le (16 * L) (length t.rest))
    where
      go : Dec (16 * L ≤ length t.rest) → Good L seed (push L p sec t b)
      go (yes h) =
          rw (eq-eqb (length t.rest) (16 * L) (omega arith))
          (record {
            sixteen = slide-length t.prev t.rest ∙ g.sixteen;
            within = omega arith;
            fresh = λ e. absurd (omega arith);
            blank = λ e. absurd (omega arith);
            follows = λ h. omega arith;
          })
      go (no n) =
          rw (ne_eqb (length t.rest) (16 * L) (λ e. omega arith))
          (record {
            sixteen = g.sixteen;
            within = rw length-append (omega arith);
            fresh = g.fresh;
            blank = g.blank;
            follows = λ h. rw length-append (omega arith);
          })

  -- and is one more
  total-push : (t : Stream) (b : ℕ) → Good L seed t → total L (push L p sec t b) ≡ total L t + 1
  unfolding push mixed_in with_byte
  total-push t b g = go (dec_le (16 * L) (length t.rest))
    where
      go : Dec (16 * L ≤ length t.rest) → total L (push L p sec t b) ≡ total L t + 1
      go (yes h) = rw (eq-eqb (length t.rest) (16 * L) (omega arith)) (omega (arith, mul-suc (16 * L) t.count))
      go (no n) = rw (ne_eqb (length t.rest) (16 * L) (λ e. omega arith), length-append) (omega arith)

  -- bytes keep it
  pub good-feed : (t : Stream) (s : List ℕ) → Good L seed t → Good L seed (feed L p sec t s)
  unfolding feed
  good-feed t [] g = g
  good-feed t (b ∷ bs) g = good-feed (push L p sec t b) bs (good-push t b g)

  -- and are as many more as they are
  pub total-feed : (t : Stream) (s : List ℕ) → Good L seed t → total L (feed L p sec t s) ≡ total L t + length s
  unfolding feed
  total-feed t [] g = omega arith
  total-feed t (b ∷ bs) g = total-feed (push L p sec t b) bs (good-push t b g) ∙ rw (total-push t b g) (omega arith)
