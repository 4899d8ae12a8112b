-- The definition of SHA-256, computed: it gives NIST's examples. Assumes nothing.
use mathlib.Core.Path.{refl}
use Rattle.base.specs.Bytes.{big_endian, in_bytes, tabulate}
use Rattle.base.specs.Logic.{Every}
use Rattle.sha256_block.specs.Block.{◌⊞◌, SHR, SHL, ROTR, complement, Ch, Maj, Σ₀, Σ₁, σ₀, σ₁, K, word, words, W, schedule, T₁, T₂, round, rounds, sums, compress}
use Rattle.hash.specs.Sha256.{zero_bytes, padding, padded, block, H₀, hash_value, digest, sha256}
use Rattle.test_sha256.specs.Examples.{examples, Holds}

pub examples_hold : Every Holds examples
unfolding Holds examples sha256 digest hash_value compress sums rounds round T₁ T₂ schedule W H₀ words word block padded padding zero_bytes K Σ₀ Σ₁ σ₀ σ₁ Ch Maj ROTR complement SHR SHL ◌⊞◌ big_endian in_bytes tabulate
examples_hold = Every.more refl (Every.more refl (Every.more refl Every.none))
