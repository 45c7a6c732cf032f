-- Which way the length leads: one law for each class, and for each way through a long message. Assumes nothing.
use Rattle.std.proofs.Common.{◌≡◌, ℕ, ◌-◌, ◌*◌, ◌/◌, ◌%◌, ◌^◌, ◌<◌, ◌≤◌, Bool, ltb, List, length, get_or, take, drop, replicate, bit_or, bit_xor, le_refl, arith, length-drop, take_all, le-ltb, lt-ltb, ne_eqb, le-leb}
use borrow.Author.Tests.{lt-leb}
use Rattle.rapidhash.specs.Words.{word}
use Rattle.rapidhash.specs.Hash.{mixed_of, joined, turns, tail, tail_ends, reached_of, long_ends, ends_of}
use Rattle.secrets.specs.declared.v3.seed.RapidSecrets.{RapidSecrets}
use Rattle.rapidhash.specs.declared.v3.lanes.Mixed.{Mixed}
use Rattle.rapidhash.specs.declared.v3.rapid_const.Reached.{Reached}
use Rattle.rapidhash.proofs.Chunks.{chunks_within}
use Rattle.rapidhash.proofs.Tests.{either}

module _ (L : ℕ) (p : Bool) (x : RapidSecrets) (s : List ℕ) where
  -- no byte
  pub class_none : length s ≡ 0 → record { a = 0; b = 0; seed = x.seed; r = length s } ≡ ends_of L p x s
  unfolding ends_of
  class_none h = rw h

  -- 1 to 3 bytes
  pub class_bytes : {u v w : ℕ} → 1 ≤ length s → length s ≤ 3 → (u ≡ get_or s 0 0) × (u < 256) → (v ≡ get_or s (length s - 1) 0) × (v < 256)
      → (w ≡ get_or s (length s / 2) 0) × (w < 256) → record { a = bit_or (u * 2 ^ 45 % 2 ^ 64) v; b = w; seed = x.seed; r = length s } ≡ ends_of L p x s
  unfolding ends_of
  class_bytes {u} {v} {w} h k hu hv hw =
      let exact : u * 2 ^ 45 % 2 ^ 64 ≡ u * 2 ^ 45 = omega arith in
      rw (exact, hu.0, hv.0, hw.0, ne_eqb (length s) 0 (omega arith), le-leb (length s) 3 k)

  -- 4 to 7 bytes
  pub class_four : {u v : ℕ} → 4 ≤ length s → length s ≤ 7 → u ≡ word 4 s 0 → v ≡ word 4 s (length s - 4)
      → record { a = u; b = v; seed = bit_xor x.seed (length s); r = length s } ≡ ends_of L p x s
  unfolding ends_of
  class_four h k hu hv = rw (hu, hv, ne_eqb (length s) 0 (omega arith), lt-leb (length s) 3 h, le-leb (length s) 7 k)

  -- 8 to 16 bytes
  pub class_eight : {u v : ℕ} → 8 ≤ length s → length s ≤ 16 → u ≡ word 8 s 0 → v ≡ word 8 s (length s - 8)
      → record { a = u; b = v; seed = bit_xor x.seed (length s); r = length s } ≡ ends_of L p x s
  unfolding ends_of
  class_eight h k hu hv = rw (hu, hv, ne_eqb (length s) 0 (omega arith), lt-leb (length s) 3 (omega arith), lt-leb (length s) 7 h, le-leb (length s) 16 k)

  -- more
  pub class_long : 16 < length s → long_ends L p x s ≡ ends_of L p x s
  unfolding ends_of
  class_long h = rw (ne_eqb (length s) 0 (omega arith), lt-leb (length s) 3 (omega arith), lt-leb (length s) 7 (omega arith), lt-leb (length s) 16 h)

  -- up to one chunk nothing is mixed
  pub reached_none : length s ≤ 16 * L → record { seed = x.seed; at = 0 } ≡ reached_of L p x s
  unfolding reached_of
  reached_none h = rw (le-ltb (16 * L) (length s) h)

  -- over one chunk the lanes start at the seed and are joined
  pub reached_some : {m : Mixed} {y : ℕ} → 16 * L < length s → m ≡ mixed_of L p x.secrets (replicate 7 x.seed) s → y ≡ joined L m.lanes
      → record { seed = y; at = m.at } ≡ reached_of L p x s
  unfolding reached_of
  reached_some h hm hy = rw (hy, hm, lt-ltb (16 * L) (length s) h)

  -- either way the place is within the message
  pub reached_within : {q : Reached} → q ≡ reached_of L p x s → q.at ≤ length s
  unfolding reached_of mixed_of
  reached_within e = rw e (either (λ (q : Reached). q.at ≤ length s) (ltb (16 * L) (length s)) (chunks_within (16 * L) (length s)) (omega arith))

  -- the bytes left and the last two words
  pub long_ends_lem : {q : Reached} {t u v : ℕ} → q ≡ reached_of L p x s → t ≡ tail p (take (length s - q.at) (drop q.at s)) 0 (turns x.secrets) q.seed
      → u ≡ word 8 s (length s - 16) → v ≡ word 8 s (length s - 8)
      → record { a = bit_xor u (length s - q.at); b = v; seed = t; r = length s - q.at } ≡ long_ends L p x s
  unfolding long_ends tail_ends
  long_ends_lem {q} hq ht hu hv =
      let whole : take (length s - q.at) (drop q.at s) ≡ drop q.at s = take_all (length s - q.at) (drop q.at s) (rw length-drop (le_refl _)) in
      rw (← hq, length-drop, hu, hv, ht, whole)
