-- The tests of a sound state, each as the fact that it tells, and the most chunks that they leave room for. Assumes nothing.
use Rattle.std.proofs.Common.{◌≡◌, ℕ, ◌+◌, ◌*◌, ◌/◌, ◌%◌, ◌<◌, ◌≤◌, Bool, true, false, eqb, leb, take, drop, refl, le-div_iff_mul-le, arith, eq-eqb, ne_eqb, eqb-true, le-leb, leb-true}
use native.Mathlib.Nat.{div-add-mod}
use borrow.Author.Tests.{eqb-false}
use Rattle.secrets.specs.Choice.{pick, all_are}
use Rattle.stream.specs.State.{most, sofar, sound}
use Rattle.stream.specs.declared.rapid_stream_hasher.RapidStreamHasher.{RapidStreamHasher}

-- a list of tests holds if the first does and the rest do
pub also : {t a : Bool} → t ≡ true → a ≡ true → pick t a false ≡ true
also e f = rw (e, f)

-- and the other way
pub both : (t a : Bool) → pick t a false ≡ true → (t ≡ true) × (a ≡ true)
both true a e = (refl, e)
both false a e = (e, (cc))

module _ (n : ℕ) (a : Bool) where
  -- a test that is asked only at zero
  at_zero : (n ≡ 0 → a ≡ true) → pick (eqb n 0) a true ≡ true
  at_zero h = go (eqb n 0) (λ e. h (eqb-true n 0 e))
    where
      go : (t : Bool) → (t ≡ true → a ≡ true) → pick t a true ≡ true
      go true k = k refl
      go false k = refl

  zero_asks : pick (eqb n 0) a true ≡ true → n ≡ 0 → a ≡ true
  zero_asks h e = rw (eq-eqb n 0 e) at h

  -- and only above it
  above_zero : (0 < n → a ≡ true) → pick (eqb n 0) true a ≡ true
  above_zero h = go (eqb n 0) (λ e. h (omega (arith, eqb-false n 0 e)))
    where
      go : (t : Bool) → (t ≡ false → a ≡ true) → pick t true a ≡ true
      go true k = refl
      go false k = k refl

  some_asks : pick (eqb n 0) true a ≡ true → 0 < n → a ≡ true
  some_asks h p = rw (ne_eqb n 0 (λ e. omega arith)) at h

-- k chunks of w bytes and m bytes, n at most: k is at most n / w, and there m is at most n % w
pub chunks_within : (w k m n : ℕ) → 0 < w → w * k + m ≤ n → (k ≤ n / w) × (k ≡ n / w → m ≤ n % w)
chunks_within w k m n pos l = ((le-div_iff_mul-le pos).1 (omega arith), λ e. rest (rw e at l))
  where
    rest : w * (n / w) + m ≤ n → m ≤ n % w
    rest q = omega (arith, div-add-mod n w)

-- at most a chunk waits; before the first chunk the lanes are the seed and the first 16 bytes zero; after it at least one byte waits; unused
-- bytes are zero; it is not too long
pub record Facts (L : ℕ) (h : RapidStreamHasher) : Type 0 where
  pub within : h.waiting ≤ 16 * L
  pub fresh : h.count ≡ 0 → all_are h.settings.secrets.seed h.lanes ≡ true
  pub blank : h.count ≡ 0 → all_are 0 (take 16 h.buffer) ≡ true
  pub follows : 0 < h.count → 0 < h.waiting
  pub unused : all_are 0 (drop (16 + h.waiting) h.buffer) ≡ true
  pub short : sofar L h ≤ most

module _ (L : ℕ) (h : RapidStreamHasher) where
  -- the facts make a state sound
  pub facts_sound : Facts L h → sound L h ≡ true
  unfolding sound
  facts_sound f =
      also (le-leb h.waiting (16 * L) f.within)
      (also (at_zero h.count (all_are h.settings.secrets.seed h.lanes) f.fresh)
      (also (at_zero h.count (all_are 0 (take 16 h.buffer)) f.blank)
      (also (above_zero h.count (leb 1 h.waiting) (λ p. le-leb 1 h.waiting (f.follows p)))
      (also f.unused (also (le-leb (sofar L h) most f.short) refl)))))

  -- and a sound state has them
  pub sound_facts : sound L h ≡ true → Facts L h
  unfolding sound
  sound_facts ok =
      let a = both (leb h.waiting (16 * L)) _ ok in
      let b = both _ _ a.1 in
      let c = both _ _ b.1 in
      let d = both _ _ c.1 in
      let e = both _ _ d.1 in
      let f = both _ _ e.1 in
      record {
        within = leb-true h.waiting (16 * L) a.0;
        fresh = zero_asks h.count _ b.0;
        blank = zero_asks h.count _ c.0;
        follows = λ p. leb-true 1 h.waiting (some_asks h.count _ d.0 p);
        unused = e.0;
        short = leb-true (sofar L h) most f.0;
      }

  -- A sound state has mixed at most as many chunks as the most bytes have; where it has mixed as many, at most the rest of those bytes waits.
  pub most_chunks_lem : 0 < L → sound L h ≡ true
      → (h.count ≤ most / (16 * L)) × (h.count ≡ most / (16 * L) → h.waiting ≤ most % (16 * L))
  most_chunks_lem pos ok = chunks_within (16 * L) h.count h.waiting most (omega arith) (sound_facts ok).short
