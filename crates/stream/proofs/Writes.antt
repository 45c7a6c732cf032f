-- What the code of a write makes is what the rule feeds: bytes that wait, a chunk that is filled, and chunks straight from the data.
-- Assumes nothing.
use Rattle.std.proofs.Common.{◌≡◌, ℕ, ◌+◌, ◌-◌, ◌<◌, ◌≤◌, Bool, true, List, [], ◌++◌, length, take, drop, replicate, sym, refl, ap, ◌∙◌, append_assoc, append-nil, le_refl, arith, length-append, length-drop, take-append-drop, length-take-le, take_all, take_at, drop_at, le-leb}
use lib.Seq.{drop-append-add}
use Rattle.rapidhash.specs.Hash.{chunk_step, first_of}
use Rattle.stream.specs.Stream.{Stream, slide, mixed_in, feed}
use Rattle.stream.specs.State.{view, hold, sound, taken}
use Rattle.stream.specs.declared.rapid_stream_hasher.RapidStreamHasher.{RapidStreamHasher}
use Rattle.stream.proofs.Buffer.{drop-zeros}
use Rattle.stream.proofs.Clauses.{to_end}
use Rattle.stream.proofs.Feed.{feed-append, feed_short, feed_next}
use Rattle.stream.proofs.Hold.{waits, good-view, hold-view}
use Rattle.stream.proofs.Sound.{sound_facts}
use Rattle.stream.proofs.Seven.{lanes, width, few_lanes}

-- the state that bytes s lead to, under the settings of h, from a stream in which none wait: its lanes l, its count k, and the bytes before
abbrev went_on : RapidStreamHasher → List ℕ → ℕ → List ℕ → List ℕ → RapidStreamHasher
went_on h l k prev s =
    let o = h.settings in
    hold o (feed lanes o.protected o.secrets.secrets (record { lanes = l; count = k; prev = prev; rest = [] }) s)

module _ (h : RapidStreamHasher) (size : length h.buffer ≡ 128) (ok : sound lanes h ≡ true) where
  -- the bytes before and those that wait
  abbrev used : List ℕ
  used = (view h).prev ++ (view h).rest

  used_length : length used ≡ 16 + h.waiting
  used_length = length-append (view h).prev (view h).rest ∙ rw ((good-view lanes few_lanes h size ok).sixteen, waits lanes few_lanes h size ok)

  -- stand in the buffer, and then zeros
  buffer_is : h.buffer ≡ used ++ replicate (width - h.waiting) 0
  unfolding hold
  buffer_is = sym (ap (λ (x : RapidStreamHasher). x.buffer) (hold-view lanes few_lanes h size ok)) ∙ rw (waits lanes few_lanes h size ok)

  -- up to a place
  front : take (16 + h.waiting) h.buffer ≡ used
  front = ap (λ (x : List ℕ). take (16 + h.waiting) x) buffer_is ∙ take_at used (replicate (width - h.waiting) 0) (16 + h.waiting) used_length

  -- and from a place on
  back : (n : ℕ) → drop (16 + h.waiting + n) h.buffer ≡ replicate (width - (h.waiting + n)) 0
  back n =
      let less : width - h.waiting - n ≡ width - (h.waiting + n) = omega arith in
      ap (λ (x : List ℕ). drop (16 + h.waiting + n) x) buffer_is
      ∙ rw (← used_length) (drop-append-add used (replicate (width - h.waiting) 0) n ∙ rw (drop-zeros, less))

  module _ (s b : List ℕ) (room : h.waiting + length s ≤ width) where
    -- bytes for which there is room only wait
    pub waited_is : b ≡ take (16 + h.waiting) h.buffer ++ s ++ drop (16 + h.waiting + length s) h.buffer
        → record { settings = h.settings; lanes = h.lanes; count = h.count; waiting = h.waiting + length s; buffer = b } ≡ taken lanes h s
    unfolding taken hold view
    waited_is e =
        let o = h.settings in
        let fed = feed_short lanes o.protected o.secrets.secrets (view h) s (rw (waits lanes few_lanes h size ok) room) in
        let len : length ((view h).rest ++ s) ≡ h.waiting + length s = length-append (view h).rest s ∙ rw (waits lanes few_lanes h size ok) in
        let buf : (view h).prev ++ ((view h).rest ++ s) ++ replicate (width - length ((view h).rest ++ s)) 0 ≡ b =
        rw (len, e, front, back (length s), append_assoc (view h).prev (view h).rest s) in
        sym (ap (λ (x : Stream). hold o x) fed ∙ held len buf)
      where
        held : length ((view h).rest ++ s) ≡ h.waiting + length s
            → (view h).prev ++ ((view h).rest ++ s) ++ replicate (width - length ((view h).rest ++ s)) 0 ≡ b
            → hold h.settings (record { lanes = (view h).lanes; count = (view h).count; prev = (view h).prev; rest = (view h).rest ++ s })
            ≡ record { settings = h.settings; lanes = (view h).lanes; count = (view h).count; waiting = h.waiting + length s; buffer = b }
        held l k = rw (k, l)

  -- where none waits the stream has just mixed a chunk, or none
  pub none_waits : (s : List ℕ) {r : RapidStreamHasher} → h.waiting ≡ 0
      → r ≡ went_on h h.lanes h.count (take 16 h.buffer) s → r ≡ taken lanes h s
  unfolding taken view
  none_waits s z e = rw z e

  module _ (s full : List ℕ) (over : width < h.waiting + length s)
      (e : full ≡ take (16 + h.waiting) h.buffer ++ take (width - h.waiting) s ++ drop (16 + h.waiting + length (take (width - h.waiting) s)) h.buffer) where
    -- the chunk that the first bytes fill up
    abbrev chunk : List ℕ
    chunk = (view h).rest ++ take (width - h.waiting) s

    filled : length (take (width - h.waiting) s) ≡ width - h.waiting
    filled = length-take-le (width - h.waiting) s (omega arith)

    chunk_length : length chunk ≡ width
    chunk_length = length-append (view h).rest (take (width - h.waiting) s) ∙ rw (waits lanes few_lanes h size ok, filled) (omega (arith, (sound_facts lanes h ok).within))

    -- stands in the full buffer after the bytes before it
    full_is : full ≡ (view h).prev ++ chunk
    full_is =
        let none : width - (h.waiting + (width - h.waiting)) ≡ 0 = omega arith in
        e ∙ rw (filled, front, back (width - h.waiting), none, append-nil, append_assoc)

    full_chunk : drop 16 full ≡ chunk
    full_chunk = rw full_is (drop_at (view h).prev chunk 16 (good-view lanes few_lanes h size ok).sixteen)

    full_last : drop width full ≡ slide (view h).prev chunk
    unfolding slide
    full_last = rw (full_is, chunk_length)

    first_is : (p : Bool) (sec l : List ℕ) → first_of lanes p sec l (drop 16 full) ≡ chunk_step lanes p sec chunk l
    unfolding first_of
    first_is p sec l =
        let whole : take width chunk ≡ chunk = take_all width chunk (rw chunk_length (le_refl _)) in
        rw (full_chunk, le-leb width (length chunk) (rw chunk_length (le_refl _)), whole)

    -- it is mixed, and the other bytes go on from there
    pub chunk_filled : {l : List ℕ} {r : RapidStreamHasher} → l ≡ first_of lanes h.settings.protected h.settings.secrets.secrets h.lanes (drop 16 full)
        → r ≡ went_on h l (h.count + 1) (drop width full) (drop (width - h.waiting) s) → r ≡ taken lanes h s
    unfolding taken mixed_in view
    chunk_filled {l} el er =
        let o = h.settings in
        let first = feed_short lanes o.protected o.secrets.secrets (view h) (take (width - h.waiting) s) (rw (← length-append, chunk_length) (le_refl _)) in
        let more : 0 < length (drop (width - h.waiting) s) = rw length-drop (omega (arith, (sound_facts lanes h ok).within)) in
        let next = feed_next lanes o.protected o.secrets.secrets (omega arith) waiting (drop (width - h.waiting) s) chunk_length more in
        let parts : feed lanes o.protected o.secrets.secrets (view h) s
        ≡ feed lanes o.protected o.secrets.secrets (mixed_in lanes o.protected o.secrets.secrets waiting) (drop (width - h.waiting) s) =
        ap (λ (x : List ℕ). feed lanes o.protected o.secrets.secrets (view h) x) (sym (take-append-drop (width - h.waiting) s))
        ∙ feed-append lanes o.protected o.secrets.secrets (view h) (take (width - h.waiting) s) (drop (width - h.waiting) s)
        ∙ ap (λ (x : Stream). feed lanes o.protected o.secrets.secrets x (drop (width - h.waiting) s)) first
        ∙ next in
        er ∙ ap (λ (x : Stream). hold o (feed lanes o.protected o.secrets.secrets x (drop (width - h.waiting) s))) (mixed el) ∙ ap (λ (x : Stream). hold o x) (sym parts)
      where
        waiting : Stream
        waiting = record { lanes = (view h).lanes; count = (view h).count; prev = (view h).prev; rest = chunk }

        mixed : {l : List ℕ} → l ≡ first_of lanes h.settings.protected h.settings.secrets.secrets h.lanes (drop 16 full)
            → record { lanes = l; count = h.count + 1; prev = drop width full; rest = [] } ≡ mixed_in lanes h.settings.protected h.settings.secrets.secrets waiting
        mixed k = rw (k, first_is, full_last)

  -- the same in the parts that the code lends
  pub inner_filled : (s full : List ℕ) {l : List ℕ} {r : RapidStreamHasher} → width < h.waiting + length s
      → full ≡ take (16 + h.waiting) h.buffer ++ take (112 - h.waiting) s ++ drop (16 + h.waiting + length (take (112 - h.waiting) s)) h.buffer
      → length full ≡ 128
      → l ≡ first_of lanes h.settings.protected h.settings.secrets.secrets h.lanes (take (128 - 16) (drop 16 full))
      → r ≡ went_on h l (h.count + 1) (take (128 - 112) (drop 112 full)) (take (length s - (112 - h.waiting)) (drop (112 - h.waiting) s))
      → r ≡ taken lanes h s
  inner_filled s full over e n el er =
      chunk_filled s full over e (el ∙ rw (to_end full 16 128 (sym n))) (er ∙ rw (to_end full 112 128 (sym n), to_end s (112 - h.waiting) (length s) refl))
