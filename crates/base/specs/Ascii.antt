-- A set of bytes below 128, as the bits of two numbers of 64 bits: those of low are the bytes from 0 on, those of high the bytes from 64 on.
use Rattle.std.specs.Prelude.{ℕ, ◌/◌, ◌%◌, ◌^◌, Bool, cond, ◌&&◌, ltb, eqb}

unfoldable pub is_in : ℕ → ℕ → ℕ → Bool
is_in low high b = ltb b 128 && eqb (cond (ltb 63 b) high low / 2 ^ (b % 64) % 2) 1
