-- Byte after byte is chunk after chunk: what fits only waits, what waits in full is mixed by the next byte. Assumes nothing.
use Rattle.std.proofs.Common.{◌≡◌, ℕ, zero, suc, ◌+◌, ◌-◌, ◌*◌, ◌<◌, ◌≤◌, Bool, List, [], ◌∷◌, ◌++◌, length, take, drop, sym, refl, ap, ◌∙◌, append-nil, mul-suc, arith, length-append, length-drop, take-append-drop, length-take-le, drop-drop, take-add, eq-eqb, ne_eqb}
use lib.Seq.{append_snoc}
use Rattle.rapidhash.specs.Hash.{chunks, lanes_after}
use Rattle.rapidhash.proofs.Chunks.{chunks_before, chunks_left}
use Rattle.stream.specs.Stream.{Stream, slide, mixed_in, with_byte, push, feed}
use Rattle.stream.proofs.Slide.{slide_none, slide-slide}

-- one time more
times_more : (w k : ℕ) → w * suc k ≡ w + w * k
times_more w k = omega (arith, mul-suc w k)

module _ (L : ℕ) (p : Bool) (sec : List ℕ) where
  -- where the bytes are cut does not matter
  pub feed-append : (t : Stream) (xs ys : List ℕ) → feed L p sec t (xs ++ ys) ≡ feed L p sec (feed L p sec t xs) ys
  unfolding feed
  feed-append t [] ys = refl
  feed-append t (b ∷ bs) ys = feed-append (push L p sec t b) bs ys

  -- while there is room a byte only waits
  push_room : (t : Stream) (b : ℕ) → length t.rest < 16 * L → push L p sec t b ≡ with_byte t b
  unfolding push
  push_room t b h = rw (ne_eqb (length t.rest) (16 * L) (λ e. omega arith))

  -- bytes that fit only wait
  pub feed_short : (t : Stream) (xs : List ℕ) → length t.rest + length xs ≤ 16 * L
      → feed L p sec t xs ≡ record { lanes = t.lanes; count = t.count; prev = t.prev; rest = t.rest ++ xs }
  unfolding feed with_byte
  feed_short t [] h = rw append-nil
  feed_short t (b ∷ bs) h =
      ap (λ (u : Stream). feed L p sec u bs) (push_room t b (omega arith))
      ∙ feed_short (with_byte t b) bs (rw length-append (omega arith))
      ∙ rw append_snoc

  -- the stream after k chunks of s, with nothing waiting
  abbrev mixed : ℕ → Stream → List ℕ → Stream
  mixed k t s = record { lanes = lanes_after L p sec k t.lanes s; count = t.count + k; prev = slide t.prev (take (16 * L * k) s); rest = [] }

  -- no chunk changes nothing
  mixed_none : (t : Stream) (s : List ℕ) → t.rest ≡ [] → mixed 0 t s ≡ t
  unfolding lanes_after
  mixed_none t s e =
      let none : 16 * L * 0 ≡ 0 = omega arith in
      let same : t.count + 0 ≡ t.count = omega arith in
      rw (none, same, slide_none, ← e)

  -- one chunk and then k more
  mixed_more : (k : ℕ) (t : Stream) (s : List ℕ) → mixed k (mixed 1 t s) (drop (16 * L) s) ≡ mixed (suc k) t s
  unfolding lanes_after
  mixed_more k t s =
      let one : 16 * L * 1 ≡ 16 * L = omega arith in
      let count : t.count + 1 + k ≡ t.count + suc k = omega arith in
      rw (one, times_more, count, slide-slide, ← take-add)

  module _ (pos : 0 < L) where
    -- a full chunk is mixed by the byte after it
    pub feed_full : (t : Stream) (b : ℕ) (bs : List ℕ) → length t.rest ≡ 16 * L
        → feed L p sec t (b ∷ bs) ≡ feed L p sec (mixed_in L p sec t) (b ∷ bs)
    unfolding feed push mixed_in
    feed_full t b bs h = rw (eq-eqb (length t.rest) (16 * L) h, ne_eqb 0 (16 * L) (λ e. omega arith))

    -- by the first of any that follow
    pub feed_next : (t : Stream) (xs : List ℕ) → length t.rest ≡ 16 * L → 0 < length xs
        → feed L p sec t xs ≡ feed L p sec (mixed_in L p sec t) xs
    feed_next t [] h n = absurd (omega arith)
    feed_next t (b ∷ bs) h n = feed_full t b bs h

    -- a chunk that at least one byte follows is mixed
    feed_chunk : (t : Stream) (s : List ℕ) → t.rest ≡ [] → 16 * L < length s → feed L p sec t s ≡ feed L p sec (mixed 1 t s) (drop (16 * L) s)
    unfolding mixed_in lanes_after
    feed_chunk t s e h =
        let c = take (16 * L) s in
        let one : 16 * L * 1 ≡ 16 * L = omega arith in
        let full : length c ≡ 16 * L = length-take-le (16 * L) s (omega arith) in
        let more : 0 < length (drop (16 * L) s) = rw length-drop (omega arith) in
        let waits : feed L p sec t c ≡ record { lanes = t.lanes; count = t.count; prev = t.prev; rest = c } =
        feed_short t c (rw e (omega arith)) ∙ rw e in
        ap (λ (l : List ℕ). feed L p sec t l) (sym (take-append-drop (16 * L) s))
        ∙ feed-append t c (drop (16 * L) s)
        ∙ ap (λ (u : Stream). feed L p sec u (drop (16 * L) s)) waits
        ∙ feed_next (record { lanes = t.lanes; count = t.count; prev = t.prev; rest = c }) (drop (16 * L) s) full more
        ∙ rw one

    -- and k chunks are
    feed_some : (k : ℕ) (t : Stream) (s : List ℕ) → t.rest ≡ [] → 16 * L * k ≤ length s - 1
        → feed L p sec t s ≡ feed L p sec (mixed k t s) (drop (16 * L * k) s)
    feed_some zero t s e h =
        let none : 16 * L * 0 ≡ 0 = omega arith in
        rw (mixed_none t s e, none)
    feed_some (suc k) t s e h =
        feed_chunk t s e (omega (arith, times_more (16 * L) k))
        ∙ feed_some k (mixed 1 t s) (drop (16 * L) s) refl (rw length-drop (omega (arith, times_more (16 * L) k)))
        ∙ rw (mixed_more k t s, drop-drop, times_more)

    -- all the chunks that s mixes, and the rest of it waits
    pub feed_chunks : (t : Stream) (s : List ℕ) → t.rest ≡ []
        → feed L p sec t s ≡ record {
          lanes = lanes_after L p sec (chunks (16 * L) (length s)) t.lanes s;
          count = t.count + chunks (16 * L) (length s);
          prev = slide t.prev (take (16 * L * chunks (16 * L) (length s)) s);
          rest = drop (16 * L * chunks (16 * L) (length s)) s;
        }
    feed_chunks t s e =
        let k = chunks (16 * L) (length s) in
        feed_some k t s e (chunks_before (16 * L) (length s))
        ∙ feed_short (mixed k t s) (drop (16 * L * k) s) (rw length-drop (omega (arith, chunks_left (16 * L) (length s) (omega arith))))
