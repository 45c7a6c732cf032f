-- The state after bytes from an opening: what it holds, how many bytes it has gone by, and that it is sound. Assumes nothing.
use Rattle.std.proofs.Common.{◌≡◌, ℕ, ◌+◌, ◌<◌, ◌≤◌, true, List, [], ◌++◌, length, sym, refl, ◌∙◌, arith}
use Rattle.stream.specs.Stream.{Stream, opened, feed}
use Rattle.stream.specs.State.{most, sofar, hold, sound, opening_of, taken, reset_of}
use Rattle.stream.specs.declared.rapid_stream_hasher.Settings.{Settings}
use Rattle.stream.specs.declared.rapid_stream_hasher.RapidStreamHasher.{RapidStreamHasher}
use Rattle.stream.proofs.Feed.{feed-append}
use Rattle.stream.proofs.Good.{Good, total, good_opened, total_opened, good-feed, total-feed}
use Rattle.stream.proofs.Hold.{view-hold, sound-hold}

module _ (L : ℕ) (o : Settings) where
  -- bytes come to a stream under an opening's settings
  abbrev pub fed : Stream → List ℕ → Stream
  fed t s = feed L o.protected o.secrets.secrets t s

  -- a stream under them
  abbrev pub GoodFor : Stream → Type 0
  GoodFor t = Good L o.secrets.seed t

  -- the stream after bytes from the opening
  abbrev pub stream_of : List ℕ → Stream
  stream_of bytes = fed (opened o.secrets.seed) bytes

  -- the state after bytes from the opening
  unfoldable pub after : List ℕ → RapidStreamHasher
  after bytes = hold o (stream_of bytes)

  -- where the bytes are cut does not matter
  pub fed-append : (t : Stream) (xs ys : List ℕ) → fed t (xs ++ ys) ≡ fed (fed t xs) ys
  fed-append = feed-append L o.protected o.secrets.secrets

  -- bytes that a state takes come to the stream that it was made to hold
  pub taken-hold : (t : Stream) (s : List ℕ) → length t.prev ≡ 16 → taken L (hold o t) s ≡ hold o (fed t s)
  unfolding taken hold
  taken-hold t s e = rw (view-hold o t e)

  -- after no bytes the state is the opening
  pub after_none : after [] ≡ opening_of o
  unfolding after opening_of feed
  after_none = refl

  -- reset leads back to no bytes
  pub reset_after : (bytes : List ℕ) → reset_of (after bytes) ≡ after []
  unfolding reset_of after hold
  reset_after bytes = sym after_none

  module _ (pos : 0 < L) where
    -- bytes keep what every stream from an opening has
    pub good-fed : (t : Stream) (s : List ℕ) → GoodFor t → GoodFor (fed t s)
    good-fed = good-feed L o.protected o.secrets.secrets pos o.secrets.seed

    -- and are as many more as they are
    pub total-fed : (t : Stream) (s : List ℕ) → GoodFor t → total L (fed t s) ≡ total L t + length s
    total-fed = total-feed L o.protected o.secrets.secrets pos o.secrets.seed

    -- the stream after bytes is such as every one from an opening
    pub good_after : (bytes : List ℕ) → GoodFor (stream_of bytes)
    good_after bytes = good-fed (opened o.secrets.seed) bytes (good_opened L o.secrets.seed)

    -- it has gone by as many bytes as there were
    pub sofar_after : (bytes : List ℕ) → sofar L (after bytes) ≡ length bytes
    unfolding after hold
    sofar_after bytes =
        total-fed (opened o.secrets.seed) bytes (good_opened L o.secrets.seed)
        ∙ rw (total_opened L o.secrets.seed) (omega arith)

    -- it is sound while it is not too long
    pub sound_after : (bytes : List ℕ) → length bytes ≤ most → sound L (after bytes) ≡ true
    unfolding after hold
    sound_after bytes l = sound-hold o (stream_of bytes) L (good_after bytes) (rw (sofar_after bytes) l)
