-- A stream that has taken a message gives the hash of the message. Assumes nothing.
use Rattle.std.proofs.Common.{◌≡◌, ℕ, suc, ◌+◌, ◌-◌, ◌*◌, ◌<◌, ◌≤◌, Bool, List, length, take, drop, replicate, refl, ap, ◌∙◌, arith, take-append-drop, lt-ltb, ne_eqb}
use native.Mathlib.Decide.{dec_le}
use Rattle.rapidhash.specs.Hash.{chunks, mixed_of, reached_of, long_ends, ends_of, last_of, hash_of}
use Rattle.secrets.specs.declared.v3.seed.RapidSecrets.{RapidSecrets}
use Rattle.rapidhash.proofs.Chunks.{chunks_more}
use Rattle.rapidhash.proofs.Classes.{class_long}
use Rattle.rapidhash.proofs.Words.{word-drop}
use Rattle.stream.specs.Stream.{Stream, slide, opened, feed, stream_ends, stream_hash}
use Rattle.stream.proofs.Slide.{slide-slide, slide_long}
use Rattle.stream.proofs.Feed.{feed_short, feed_chunks}

-- what has gone by in two parts ends with the last 16 bytes
last_bytes : (n : ℕ) (s : List ℕ) → 16 ≤ length s → slide (slide (replicate 16 0) (take n s)) (drop n s) ≡ drop (length s - 16) s
last_bytes n s h = rw (slide-slide, take-append-drop) (slide_long (replicate 16 0) s h)

module _ (L : ℕ) (p : Bool) (x : RapidSecrets) (s : List ℕ) (pos : 0 < L) where
  -- as many chunks as the message mixes
  pub stream_count : (feed L p x.secrets (opened x.seed) s).count ≡ chunks (16 * L) (length s)
  unfolding opened
  stream_count = ap (λ (t : Stream). t.count) (feed_chunks L p x.secrets pos (opened x.seed) s refl) ∙ omega arith

  -- up to one chunk the bytes that wait are the message
  ends_short : length s ≤ 16 * L → stream_ends L p x (feed L p x.secrets (opened x.seed) s) ≡ ends_of L p x s
  unfolding opened stream_ends
  ends_short h = rw (feed_short L p x.secrets (opened x.seed) s (omega arith))

  -- over one chunk the tail goes on from the lanes
  ends_long : 16 * L < length s → stream_ends L p x (feed L p x.secrets (opened x.seed) s) ≡ ends_of L p x s
  unfolding opened stream_ends long_ends reached_of mixed_of
  ends_long h =
      let k = chunks (16 * L) (length s) in
      let some : k ≡ suc (chunks (16 * L) (length s - 16 * L)) = chunks_more (16 * L) (length s) (omega arith) h in
      let a : length s - 16 + 0 ≡ length s - 16 = omega arith in
      let b : length s - 16 + 8 ≡ length s - 8 = omega arith in
      rw (
        feed_chunks L p x.secrets pos (opened x.seed) s refl,
        ne_eqb (0 + k) 0 (λ e. omega arith),
        last_bytes (16 * L * k) s (omega arith),
        word-drop 8 s (length s - 16) 0,
        word-drop 8 s (length s - 16) 8,
        a,
        b,
        ← class_long L p x s (omega arith),
        lt-ltb (16 * L) (length s) h,
      )

-- the hash of the stream is the hash of the message
pub stream_is_message : (L : ℕ) (av p : Bool) (x : RapidSecrets) (s : List ℕ) → 0 < L
    → stream_hash L av p x (feed L p x.secrets (opened x.seed) s) ≡ hash_of L av p x s
unfolding stream_hash hash_of
stream_is_message L av p x s pos = ap (last_of av p x.secrets) (go (dec_le (length s) (16 * L)))
  where
    go : Dec (length s ≤ 16 * L) → stream_ends L p x (feed L p x.secrets (opened x.seed) s) ≡ ends_of L p x s
    go (yes h) = ends_short L p x s pos h
    go (no n) = ends_long L p x s pos (omega arith)
