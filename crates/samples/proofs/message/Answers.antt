-- The sums are small, since only n % 256 counts. Assumes nothing.
use Rattle.std.proofs.Common.{ℕ, ◌≡◌, refl, ◌∙◌, sym, ◌+◌, ◌*◌, ◌/◌, ◌%◌, ◌<◌, List, length, take, set, add-one, arith, take-suc-set, take_all}
use Rattle.std.proofs.Math.Nat.{add-mul-mod_self_left}
use Rattle.samples.specs.Sample.{byte_at, bytes_of, message_of}
use Rattle.samples.proofs.message.Goals as goal

-- the byte by the code: a whole multiple of 256 in n counts for nothing
byte-at : (n i : ℕ) → (i * 197 + i / 3 * 59 + i / 7 * 113 + n % 256 * 101 + 7) % 256 ≡ byte_at n i
unfolding byte_at
byte-at n i =
    let s = i * 197 + i / 3 * 59 + i / 7 * 113 in
    let e : s + n * 101 + 7 ≡ s + n % 256 * 101 + 7 + 256 * (n / 256 * 101) = omega arith in
    rw (e, add-mul-mod_self_left)

-- a store of the next byte
next-byte : (n i v : ℕ) (s : List ℕ) → i < length s → take i s ≡ bytes_of n i → v ≡ byte_at n i → take (i + 1) (set s i v) ≡ bytes_of n (i + 1)
unfolding bytes_of
next-byte n i v s h e b = rw (add-one, take-suc-set s i v h, e, b)

-- and after the last
all-bytes : (n i : ℕ) (s : List ℕ) → i ≡ 1000 → length s ≡ 1000 → take i s ≡ bytes_of n i → s ≡ message_of n
unfolding message_of
all-bytes n i s h k e = sym (take_all i s (omega arith)) ∙ rw (← h) e

pub loop-i-init : goal.loop-i-init
unfolding bytes_of
loop-i-init c = refl

pub loop-i-preserved : goal.loop-i-preserved
loop-i-preserved c =
    let n = c.args.n in
    let i = c.loop-i.i in
    next-byte n i _ c.loop-i.byte-items (omega arith) c.loop-i.invariant (byte-at n i)

pub returns : goal.returns
returns c = all-bytes _ c.loop-i.i _ (omega arith) c.loop-i-test.array_long c.loop-i.invariant
