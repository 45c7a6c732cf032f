-- The folded multiply put together from its words. Assumes nothing.
use Rattle.std.proofs.Common.{◌≡◌, ℕ, Bool, true, false, bit_xor}
use Rattle.secrets.specs.Mix.{low, high, mum, mix}
use Rattle.secrets.specs.declared.util.mix.Mum.{Mum}

module _ (p : Bool) (a b : ℕ) where
  -- the two words, XORed with the factors where protected
  pub mum_protected : {l h : ℕ} → l ≡ low a b → h ≡ high a b → p ≡ true → record { low = bit_xor l a; high = bit_xor h b } ≡ mum p a b
  unfolding mum
  mum_protected el eh e = rw (el, eh, e)

  -- and as they are where not
  pub mum_plain : {l h : ℕ} → l ≡ low a b → h ≡ high a b → p ≡ false → record { low = l; high = h } ≡ mum p a b
  unfolding mum
  mum_plain el eh e = rw (el, eh, e)

  -- their XOR
  pub mix_words : {m : Mum} → m ≡ mum p a b → bit_xor m.low m.high ≡ mix p a b
  unfolding mix
  mix_words e = rw e
