-- The last bytes of what has gone by: in parts as at once, and of what is long enough its own end. Assumes nothing.
use Rattle.std.proofs.Common.{◌≡◌, ℕ, ◌+◌, ◌-◌, ◌<◌, ◌≤◌, List, [], ◌++◌, length, take, drop, sym, ap, ◌∙◌, append_assoc, append-nil, arith, length-append, length-drop, length-take-le, drop-drop, take-add, drop_at}
use lib.Seq.{drop-append-le, drop-append-add}
use Rattle.stream.specs.Stream.{slide}

-- as many bytes as before
pub slide-length : (p s : List ℕ) → length (slide p s) ≡ length p
unfolding slide
slide-length p s = simp (length-drop, length-append) (omega arith)

-- where nothing goes by, nothing changes
pub slide_none : (p : List ℕ) → slide p [] ≡ p
unfolding slide
slide_none p = append-nil p

-- s and then t go by as both at once
pub slide-slide : (p s t : List ℕ) → slide (slide p s) t ≡ slide p (s ++ t)
unfolding slide
slide-slide p s t =
    let h : length s ≤ length (p ++ s) = rw length-append (omega arith) in
    rw (← drop-append-le (length s) (p ++ s) t h, drop-drop, length-append, append_assoc)

-- bytes that are no fewer leave their own last ones
pub slide_long : (p s : List ℕ) → length p ≤ length s → slide p s ≡ drop (length s - length p) s
unfolding slide
slide_long p s h =
    let e : length s ≡ length p + (length s - length p) = omega arith in
    ap (λ (n : ℕ). drop n (p ++ s)) e ∙ drop-append-add p s (length s - length p)

-- the last bytes of the first n of s, where these are enough
pub slide_part : (p s : List ℕ) (n : ℕ) → length p ≤ n → n ≤ length s → take (n - (n - length p)) (drop (n - length p) s) ≡ slide p (take n s)
slide_part p s n h k =
    let a = n - length p in
    let cut : take n s ≡ take a s ++ take (n - a) (drop a s) = rw (← take-add, whole) in
    let long : length (take n s) ≡ n = length-take-le n s k in
    sym
    (slide_long p (take n s) (rw long h)
    ∙ rw (long, cut) (drop_at (take a s) (take (n - a) (drop a s)) a (length-take-le a s (omega arith))))
  where
    whole : n - length p + (n - (n - length p)) ≡ n
    whole = omega arith

-- the same where p has 16
pub slide_sixteen : (p s : List ℕ) (n : ℕ) → length p ≡ 16 → 16 ≤ n → n ≤ length s → take (n - (n - 16)) (drop (n - 16) s) ≡ slide p (take n s)
slide_sixteen p s n e h k = rw (← e) (slide_part p s n (rw e h) k)

-- of no bytes, p itself
pub slide_zero : (p s : List ℕ) (n : ℕ) → (n < 16 → n ≡ 0) → n < 16 → p ≡ slide p (take n s)
slide_zero p s n e h = rw (e h) (sym (slide_none p))
