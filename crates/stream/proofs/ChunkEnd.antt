-- Whole chunks straight from the data, and what is left of it in a buffer of its own. Assumes nothing.
use Rattle.std.proofs.Common.{◌≡◌, ℕ, ◌+◌, ◌-◌, ◌*◌, ◌/◌, ◌<◌, ◌≤◌, Bool, List, [], ◌++◌, length, take, drop, replicate, sym, refl, ap, ◌∙◌, arith, length-drop, take_at}
use lib.Seq.{drop-append-add}
use Rattle.rapidhash.specs.Hash.{chunks, lanes_after, mixed_of}
use Rattle.rapidhash.specs.declared.v3.lanes.Mixed.{Mixed}
use Rattle.rapidhash.proofs.Chunks.{chunks_within, chunks_left}
use Rattle.stream.specs.Stream.{Stream, slide, feed}
use Rattle.stream.specs.State.{hold}
use Rattle.stream.specs.declared.rapid_stream_hasher.Settings.{Settings}
use Rattle.stream.proofs.Buffer.{drop-zeros}
use Rattle.stream.proofs.Clauses.{to_end}
use Rattle.stream.proofs.Feed.{feed_chunks}
use Rattle.stream.proofs.Slide.{slide-length}
use Rattle.stream.proofs.Seven.{lanes, width}

-- a buffer of zeros with 16 bytes and then some more
two_parts : (a c e b z : List ℕ) → length a ≡ 16 → z ≡ replicate 128 0 → e ≡ take 0 z ++ a ++ drop (0 + length a) z
    → b ≡ take 16 e ++ c ++ drop (16 + length c) e → b ≡ a ++ c ++ replicate (width - length c) 0
two_parts a c e b z la hz he hb =
    let e' : e ≡ a ++ replicate width 0 = he ∙ rw (hz, la) in
    let behind : drop (16 + length c) (a ++ replicate width 0) ≡ replicate (width - length c) 0 =
    rw (← la) (drop-append-add a (replicate width 0) (length c)) ∙ drop-zeros (length c) width in
    hb ∙ rw (e', take_at a (replicate width 0) 16 la, behind)

module _ {x : Mixed} (p : Bool) (sec l s : List ℕ) (e : x ≡ mixed_of lanes p sec l s) where
  -- the chunks of the data reach a whole number of them
  at_is : x.at ≡ width * chunks width (length s)
  unfolding mixed_of
  at_is = ap (λ (y : Mixed). y.at) e

  -- within the data
  pub at_within : x.at ≤ length s
  at_within = rw at_is (chunks_within width (length s))

  -- and are none or at least one
  pub at_steps : x.at < 16 → x.at ≡ 0
  at_steps h = omega (arith, at_is)

  -- what is left is no more than one
  pub at_left : length s - x.at ≤ width
  at_left = rw at_is (chunks_left width (length s) (omega arith))

  -- that many are counted
  pub at_count : (k m : ℕ) → width * k + length s ≤ m → width * (k + x.at / width) ≤ m
  at_count k m h = omega (arith, at_is, at_within)

  -- the state is that which holds the stream fed with the data
  pub chunk_end : (o : Settings) (prev : List ℕ) (k : ℕ) (z : List ℕ) {a f b : List ℕ} → length prev ≡ 16
      → z ≡ replicate 128 0 → a ≡ slide prev (take x.at s) → f ≡ take 0 z ++ a ++ drop (0 + length a) z
      → b ≡ take 16 f ++ take (length s - x.at) (drop x.at s) ++ drop (16 + length (take (length s - x.at) (drop x.at s))) f
      → record { settings = o; lanes = x.lanes; count = k + x.at / width; waiting = length s - x.at; buffer = b }
      ≡ hold o (feed lanes p sec (record { lanes = l; count = k; prev = prev; rest = [] }) s)
  unfolding hold mixed_of
  chunk_end o prev k z {a} {f} {b} hp hz ha hf hb =
      let c = chunks width (length s) in
      let left : take (length s - x.at) (drop x.at s) ≡ drop x.at s = to_end s x.at (length s) refl in
      let la : length a ≡ 16 = ap length ha ∙ slide-length prev (take x.at s) ∙ hp in
      let buf : b ≡ a ++ drop x.at s ++ replicate (width - length (drop x.at s)) 0 = two_parts a (drop x.at s) f b z la hz hf (hb ∙ rw left) in
      let mixed : x.lanes ≡ lanes_after lanes p sec c l s = ap (λ (y : Mixed). y.lanes) e in
      let many : k + x.at / width ≡ k + c = omega (arith, at_is) in
      let waits : length s - x.at ≡ length (drop x.at s) = sym (length-drop x.at s) in
      sym (ap (λ (y : Stream). hold o y) (feed_chunks lanes p sec (omega arith) (record { lanes = l; count = k; prev = prev; rest = [] }) s refl)
      ∙ held mixed many waits buf ha)
    where
      held : x.lanes ≡ lanes_after lanes p sec (chunks width (length s)) l s → k + x.at / width ≡ k + chunks width (length s)
          → length s - x.at ≡ length (drop x.at s) → b ≡ a ++ drop x.at s ++ replicate (width - length (drop x.at s)) 0 → a ≡ slide prev (take x.at s)
          → hold o (record {
            lanes = lanes_after lanes p sec (chunks width (length s)) l s;
            count = k + chunks width (length s);
            prev = slide prev (take (width * chunks width (length s)) s);
            rest = drop (width * chunks width (length s)) s;
          })
          ≡ record { settings = o; lanes = x.lanes; count = k + x.at / width; waiting = length s - x.at; buffer = b }
      held h₁ h₂ h₃ h₄ h₅ = rw (← at_is, ← h₁, ← h₂, ← h₅, ← h₄, ← h₃)

  -- the 16 bytes fit
  pub last_fits : (prev a : List ℕ) → length prev ≡ 16 → a ≡ slide prev (take x.at s) → 0 + length a ≤ 128
  last_fits prev a hp ha = rw (ha, slide-length, hp) (omega arith)

  -- and so do those that are left
  pub left_fits : 16 + length (take (length s - x.at) (drop x.at s)) ≤ 128
  left_fits = rw (to_end s x.at (length s) refl, length-drop) (omega (arith, at_left))
