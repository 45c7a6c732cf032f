-- The buffer of 128 bytes: a part put into it, and what a state's buffer is as a stream. Assumes nothing.
use Rattle.std.proofs.Common.{◌≡◌, ℕ, zero, suc, ◌+◌, ◌-◌, ◌≤◌, List, [], ◌++◌, length, take, drop, replicate, sym, append_assoc, append-nil, le_refl, arith, length-drop, drop_of_length-le, drop-drop}
use lib.Seq.{take-length}
use Rattle.stream.proofs.Clauses.{to_end}

-- a part copied to a place of a buffer of n bytes, where it fits
pub put_part : (b part y : List ℕ) (at n : ℕ) → length b ≡ n → at + length part ≤ n
    → y ≡ take (length part) part ++ drop (length part) (take (n - at) (drop at b))
    → take at b ++ (y ++ drop (n - at) (drop at b)) ≡ take at b ++ part ++ drop (at + length part) b
put_part b part y at n e h k =
    let none : drop (n - at) (drop at b) ≡ [] = drop_of_length-le (drop at b) {i = n - at} (rw (length-drop, e) (le_refl _)) in
    let rest : take (n - at) (drop at b) ≡ drop at b = to_end b at n (sym e) in
    rw (none, append-nil, k, rest, take-length, drop-drop, append_assoc)

-- a run of zeros from a place on is a shorter one
pub drop-zeros : (n m : ℕ) → drop {A = ℕ} n (replicate m 0) ≡ replicate (m - n) 0
drop-zeros zero m = let e : m - 0 ≡ m = omega arith in rw e
drop-zeros (suc n) zero = let e : 0 - suc n ≡ 0 = omega arith in rw e
drop-zeros (suc n) (suc m) =
    let e : suc m - suc n ≡ m - n = omega arith in
    rw e (drop-zeros n m)
