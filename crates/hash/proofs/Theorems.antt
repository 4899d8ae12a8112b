-- The public theorems of `hash`: what the promises of its functions say of a message. Assumes nothing.
use Rattle.std.proofs.Common.{◌≡◌, ℕ, ◌+◌, ◌*◌, ◌/◌, ◌%◌, List, [], ◌++◌, length, take, sym, ap, ◌∙◌, arith, length-append}
use Rattle.hash.specs.Sha256.{H₀, hash_value, ZeroBits, zero_bytes, padding, padded, digest, sha256}
use Rattle.hash.specs.State.{waiting, blocks, remainder, Begins, Takes, StateOf}
use Rattle.hash.specs.declared.Sha256.{Sha256}
use Rattle.hash.proofs.StateLaws.{value_on, remainder_on}
use Rattle.hash.proofs.PaddingLaws.{padding_modulo}
use Rattle.hash.proofs.DigestLaws.{length_value, length_digest}

-- `begin` is the state of the empty message
pub begun : (s : Sha256) → Begins s → StateOf [] s
unfolding waiting blocks remainder hash_value
begun s b = record { words = b.words; waits = ap (λ (n : ℕ). take (n % 64) s.block) b.len; len = b.len }

-- `take` carries the state of m to that of m followed by the bytes
pub taken : (m x : List ℕ) (s r : Sha256) → StateOf m s → Takes s x r → StateOf (m ++ x) r
taken m x s r o t =
    record {
      words =
          t.words ∙ (λ i. hash_value (o.words i) (o.waits i ++ x) (blocks (o.waits i ++ x)))
          ∙ sym (value_on m x H₀);
      waits = t.waits ∙ ap (λ (w : List ℕ). remainder (w ++ x)) o.waits ∙ sym (remainder_on m x);
      len = omega (arith, o.len, t.len, length-append m x);
    }

-- `finish`, whose words `digest` then gives as bytes, ends in SHA-256 of m
pub finished : (m : List ℕ) (s r : Sha256) → StateOf m s → Takes s (padding s.len) r → digest r.words ≡ sha256 m
unfolding sha256 padded blocks
finished m s r o t =
    let p : padding s.len ≡ padding (length m) = ap padding o.len ∙ padding_modulo (length m) in
    ap digest ((taken m (padding s.len) s r o t).words ∙ ap (λ (l : List ℕ). hash_value H₀ (m ++ l) (blocks (m ++ l))) p)

-- the padding's zero bits are as many as FIPS 180-4, 5.1.1 asks for: seven in the byte 0x80, and the zero bytes'
pub zero_bits : (n : ℕ) → ZeroBits n (7 + 8 * zero_bytes n)
unfolding zero_bytes
zero_bits n = record { solves = omega arith; least = λ j h. omega arith }

-- a digest has 32 bytes
pub digest_size : (m : List ℕ) → length (sha256 m) ≡ 32
unfolding sha256
digest_size m = length_digest (hash_value H₀ (padded m) (length (padded m) / 64)) ∙ ap (λ (n : ℕ). 4 * n) (length_value (padded m) (length (padded m) / 64))
