-- The chain of seven, one link for each call. Assumes nothing.
use Rattle.secrets.proofs.Chain.{chain_of_seven}
use Rattle.secrets.proofs.v3.seed.RapidSecrets.seed.Goals as goal

pub returns : goal.returns
returns c =
    chain_of_seven _
    c.premix_seed-start.ensures c.premix_seed-s0.ensures
    c.premix_seed-s1.ensures c.premix_seed-s2.ensures c.premix_seed-s3.ensures
    c.premix_seed-s4.ensures c.premix_seed-s5.ensures c.premix_seed-s6.ensures
