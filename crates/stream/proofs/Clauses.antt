-- The clauses of soundness, each as the code comes to it. Assumes nothing.
use Rattle.std.proofs.Common.{◌≡◌, ℕ, ◌+◌, ◌-◌, ◌*◌, ◌<◌, ◌≤◌, Bool, true, false, eqb, leb, List, [], ◌∷◌, length, take, drop, sym, refl, le_refl, arith, length-drop, take_all, le-leb}
use borrow.Author.Tests.{lt-leb}
use Rattle.std.specs.Prelude.{◌==◌, ◌&&◌}
use Rattle.std.specs.List.{list_all}
use Rattle.secrets.specs.Choice.{pick, every, all_are}
use Rattle.rapidhash.proofs.Tests.{same_leb}
use Rattle.stream.specs.State.{sofar, most, sound, begun}
use Rattle.stream.specs.declared.rapid_stream_hasher.RapidStreamHasher.{RapidStreamHasher}
use Rattle.stream.proofs.Seven.{lanes, width, most_chunks}

-- nothing is chosen between false and false
no_choice : (t : Bool) → pick t false false ≡ false
no_choice true = refl
no_choice false = refl

-- all are one number where each of them is
pub each_is : (v : ℕ) (s : List ℕ) → list_all (λ x. x == v) s ≡ all_are v s
unfolding all_are
each_is v [] = refl
each_is v (x ∷ xs) = rw (each_is v xs) (both_hold (x == v) (all_are v xs))
  where
    both_hold : (a b : Bool) → (a && b) ≡ pick a b false
    both_hold true b = refl
    both_hold false b = refl

-- a part to the end is the rest
pub to_end : (s : List ℕ) (i n : ℕ) → n ≡ length s → take (n - i) (drop i s) ≡ drop i s
to_end s i n e = take_all (n - i) (drop i s) (rw (length-drop, ← e) (le_refl _))

-- the clauses in the order in which the code tests them: the sizes a and b, no bytes behind those that wait t, and before the first chunk f the
-- lanes l and the bytes before p, after it the byte that follows w
reordered : (a b f l p w t : Bool)
    → every (a ∷ pick f l true ∷ pick f p true ∷ pick f true w ∷ t ∷ b ∷ []) ≡ pick (pick a b false) (pick t (pick f (pick l p false) w) false) false
reordered false b f l p w t = refl
reordered true false true false p w t = refl
reordered true false true true false w t = refl
reordered true false true true true w true = refl
reordered true false true true true w false = refl
reordered true false false l p false t = refl
reordered true false false l p true true = refl
reordered true false false l p true false = refl
reordered true true true false p w true = refl
reordered true true true false p w false = refl
reordered true true true true false w true = refl
reordered true true true true false w false = refl
reordered true true true true true w true = refl
reordered true true true true true w false = refl
reordered true true false l p true true = refl
reordered true true false l p true false = refl
reordered true true false l p false true = refl
reordered true true false l p false false = refl

-- a state is sound where it is sized, nothing stands behind the bytes that wait, and it is begun as it must be
pub sound_in_order : (h : RapidStreamHasher)
    → sound lanes h
    ≡ pick (pick (leb h.waiting width) (leb (sofar lanes h) most) false) (pick (all_are 0 (drop (16 + h.waiting) h.buffer)) (begun h) false) false
unfolding sound
sound_in_order h =
    reordered (leb h.waiting width) (leb (sofar lanes h) most) (eqb h.count 0) (all_are h.settings.secrets.seed h.lanes) (all_are 0 (take 16 h.buffer))
    (leb 1 h.waiting) (all_are 0 (drop (16 + h.waiting) h.buffer))

module _ (k m : ℕ) where
  -- more chunks than the most bytes have
  pub sized_many : most_chunks < k → false ≡ pick (leb m width) (leb (width * k + m) most) false
  sized_many h = rw (lt-leb (width * k + m) most (omega arith)) (sym (no_choice (leb m width)))

  -- else the length decides, by a difference as by a sum
  pub sized_sum : m ≤ width → k ≤ most_chunks → leb m (most - width * k) ≡ pick (leb m width) (leb (width * k + m) most) false
  sized_sum h l = rw (le-leb m width h) (same_leb m (most - width * k) (width * k + m) most (λ a. omega arith) (λ a. omega arith))
