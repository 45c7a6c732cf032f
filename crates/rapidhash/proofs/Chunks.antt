-- Whole chunks, once over L: what is left to do at a place, and how it changes by a chunk. Assumes nothing.
use Rattle.std.proofs.Common.{◌≡◌, ℕ, suc, ◌+◌, ◌-◌, ◌*◌, ◌/◌, ◌<◌, ◌≤◌, Bool, List, length, take, drop, sym, refl, ap, ◌∙◌, mul-suc, add-one, arith, length-drop, length-take, length-append, length-take-le, take-append-drop, subst, take-take, drop-drop, ◌++◌}
use Rattle.std.proofs.lemmas.List.{drop-take, take_rest}
use Rattle.std.proofs.Math.Seq.{take-append_seam, drop-append_seam}
use native.Mathlib.Nat.{div-eq_of_lt, div-eq-sub-div, lt-div-mul-add, mul-div-le}
use Rattle.rapidhash.specs.Hash.{chunks, chunk_step, lanes_after, mixed_of}
use Rattle.rapidhash.specs.declared.v3.lanes.Mixed.{Mixed}

-- while no more than w bytes are left no chunk is mixed
pub chunks_none : (w n : ℕ) → 0 < w → n ≤ w → chunks w n ≡ 0
unfolding chunks
chunks_none w n hw h = div-eq_of_lt (omega arith)

-- while more are left, one is, and then those of the rest
pub chunks_more : (w n : ℕ) → 0 < w → w < n → chunks w n ≡ suc (chunks w (n - w))
unfolding chunks
chunks_more w n hw h =
    div-eq-sub-div {m = w} {n = n - 1} hw (omega arith)
    ∙ add-one _
    ∙ ap (λ (k : ℕ). suc (k / w)) (omega arith)

-- a byte follows the chunks, if there is any
pub chunks_before : (w n : ℕ) → w * chunks w n ≤ n - 1
unfolding chunks
chunks_before w n = mul-div-le (n - 1) w

-- and they leave no more than one of them has
pub chunks_left : (w n : ℕ) → 0 < w → n - w * chunks w n ≤ w
unfolding chunks
chunks_left w n h = omega (arith, lt-div-mul-add {a = n - 1} {b = w} h)

-- the chunks end within the message
pub chunks_within : (w n : ℕ) → w * chunks w n ≤ n
chunks_within w n = omega (arith, chunks_before w n)

-- a pair of chunks at a place is two chunks
module _ (w at : ℕ) (s c : List ℕ) (e : c ≡ take (w + w) (drop at s)) where
  pub pair_first : take w c ≡ take w (drop at s)
  pair_first = rw e (take-take w (w + w) (drop at s) (omega arith))

  pub pair_second : drop w c ≡ take w (drop (at + w) s)
  pair_second = rw e (drop-take w w (drop at s) ∙ rw drop-drop)

module _ (L : ℕ) (p : Bool) (sec s : List ℕ) where
  -- a chunk more
  pub lanes_more : (k : ℕ) (l t : List ℕ)
      → lanes_after L p sec (suc k) l t ≡ lanes_after L p sec k (chunk_step L p sec (take (16 * L) t) l) (drop (16 * L) t)
  unfolding lanes_after
  lanes_more k l t = refl

  -- the chunks from a place on, into the lanes that have come there
  unfoldable pub ahead : ℕ → List ℕ → Mixed
  ahead at l =
      record {
        lanes = lanes_after L p sec (chunks (16 * L) (length s - at)) l (drop at s);
        at = at + 16 * L * chunks (16 * L) (length s - at);
      }

  -- at the start all is ahead
  pub ahead_start : (l : List ℕ) → mixed_of L p sec l s ≡ ahead 0 l
  unfolding mixed_of ahead
  ahead_start l =
      let e : length s - 0 ≡ length s = omega arith in
      rw e (ap (λ (k : ℕ). record { lanes = lanes_after L p sec (chunks (16 * L) (length s)) l s; at = k }) (omega arith))

  module _ (pos : 0 < L) (at : ℕ) (l : List ℕ) {g : Mixed} (before : g ≡ ahead at l) where
    -- a chunk is mixed while more than its length is left
    pub ahead_turn : (e : ℕ) {m : List ℕ} → e ≡ at + 16 * L → 16 * L < length s - at → m ≡ chunk_step L p sec (take (e - at) (drop at s)) l
        → g ≡ ahead e m
    unfolding ahead
    ahead_turn e {m} he h hm =
        let k = chunks (16 * L) (length s - e) in
        let less : length s - at - 16 * L ≡ length s - e = omega arith in
        let size : e - at ≡ 16 * L = omega arith in
        let one : chunks (16 * L) (length s - at) ≡ suc k = chunks_more (16 * L) (length s - at) (omega arith) h ∙ rw less in
        let rest : drop (16 * L) (drop at s) ≡ drop e s = drop-drop (16 * L) at s ∙ rw he in
        let lanes : lanes_after L p sec (chunks (16 * L) (length s - at)) l (drop at s) ≡ lanes_after L p sec k m (drop e s) =
        ap (λ (i : ℕ). lanes_after L p sec i l (drop at s)) one ∙ lanes_more k l (drop at s) ∙ rw (rest, hm, size) in
        let place : at + 16 * L * chunks (16 * L) (length s - at) ≡ e + 16 * L * k = rw one (omega (arith, mul-suc (16 * L) k)) in
        before ∙ rw (lanes, place)

    -- as it does with a chunk that is the one at the place
    pub ahead_chunk : {c m : List ℕ} → c ≡ take (16 * L) (drop at s) → at + 16 * L < length s → m ≡ chunk_step L p sec c l → g ≡ ahead (at + 16 * L) m
    ahead_chunk ec f hm =
        let size : at + 16 * L - at ≡ 16 * L = omega arith in
        ahead_turn (at + 16 * L) refl (omega arith) (rw (size, ← ec) hm)

    -- and the rest is left as it is
    pub ahead_done : length s - at ≤ 16 * L → record { lanes = l; at = at } ≡ g
    unfolding ahead lanes_after
    ahead_done h =
        let none : chunks (16 * L) (length s - at) ≡ 0 = chunks_none (16 * L) (length s - at) (omega arith) h in
        let place : at + 16 * L * 0 ≡ at = omega arith in
        sym (before ∙ rw (none, place))

-- two chunks, the halves of a pair
pub ahead_pair : (L : ℕ) (p : Bool) (sec s : List ℕ) → 0 < L → (at : ℕ) (l : List ℕ) {g : Mixed} → g ≡ ahead L p sec s at l
    → {c one two half m : List ℕ} → c ≡ take (32 * L) (drop at s) → at + 32 * L < length s → one ≡ take (16 * L) c → two ≡ drop (16 * L) c
    → half ≡ chunk_step L p sec one l → m ≡ chunk_step L p sec two half → g ≡ ahead L p sec s (at + 32 * L) m
ahead_pair L p sec s pos at l {g} before {c} {one} {two} {half} {m} ec f e1 e2 h1 h2 =
    let both : 16 * L + 16 * L ≡ 32 * L = omega arith in
    let whole : c ≡ take (16 * L + 16 * L) (drop at s) = rw both ec in
    let end : at + 16 * L + 16 * L ≡ at + 32 * L = omega arith in
    let first : g ≡ ahead L p sec s (at + 16 * L) half =
    ahead_chunk L p sec s pos at l before (e1 ∙ pair_first (16 * L) at s c whole) (omega arith) h1 in
    rw (← end) (ahead_chunk L p sec s pos (at + 16 * L) half first (e2 ∙ pair_second (16 * L) at s c whole) (omega arith) h2)

-- a chunk that comes off the front of all bytes but the last, from a place on
module _ (w at : ℕ) (s c r : List ℕ) (pos : 0 < w) (e : drop at (take (length s - 1) s) ≡ c ++ r) (h : length c ≡ w) where
  off_fits : at + w ≤ length s - 1
  off_fits = omega (arith, simp (length-drop, length-take, length-append) at (ap length e), h)

  -- a byte follows it
  pub off_followed : at + w < length s
  off_followed = omega (arith, off_fits)

  -- it is the chunk at the place
  pub off_chunk : c ≡ take w (drop at s)
  off_chunk =
      let rest : at + (length s - 1 - at) ≡ length s - 1 = omega (arith, off_fits) in
      let part : drop at (take (length s - 1) s) ≡ take (length s - 1 - at) (drop at s) =
      subst (λ (k : ℕ). drop at (take k s) ≡ take (length s - 1 - at) (drop at s)) rest (drop-take at (length s - 1 - at) s) in
      sym (take-append_seam c r) ∙ rw (h, ← e, part) (take-take w (length s - 1 - at) (drop at s) (omega (arith, off_fits)))

  -- and leaves what comes after it
  pub off_left : r ≡ drop (at + w) (take (length s - 1) s)
  off_left = sym (drop-append_seam c r) ∙ rw (h, ← e) (drop-drop w at (take (length s - 1) s))

-- nothing comes off where no more than a chunk is left
pub off_none : (w at : ℕ) (s : List ℕ) {r : List ℕ} → r ≡ drop at (take (length s - 1) s) → length r < w → length s - at ≤ w
off_none w at s e h = omega (arith, simp (length-drop, length-take) at (ap length e), h)

-- the first chunk of what is left of all bytes but the last
pub off_first : (w at : ℕ) (s f : List ℕ) {c : List ℕ} → 0 < w → f ≡ take (length s - 1) s → w ≤ length f - at → c ≡ take w (take (length f - at) (drop at f))
    → (c ≡ take w (drop at s)) × (at + w < length s)
off_first w at s f pos ef fit ec =
    let e : drop at (take (length s - 1) s) ≡ take w (drop at f) ++ drop w (drop at f) = rw (← ef) (sym (take-append-drop w (drop at f))) in
    let h : length (take w (drop at f)) ≡ w = length-take-le w (drop at f) (rw length-drop fit) in
    (ec ∙ rw take_rest (off_chunk w at s _ _ pos e h), off_followed w at s _ _ pos e h)
