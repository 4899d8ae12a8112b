-- Lists of bytes: what a copy leaves, and a number as bytes.
use Rattle.std.specs.Prelude.{ℕ, zero, suc, ◌+◌, ◌-◌, ◌*◌, ◌/◌, ◌%◌, ◌^◌, Bool, true, false, ◌&&◌, List, [], ◌∷◌, ◌++◌, eqb, length, take, drop, replicate}
use Prim.Native.Char.{code}
use Prim.Native.String.{String, [] as empty, ◌∷◌ as ◌then◌}

-- `to`, with the bytes from index `at` on replaced by `from`: what a lent slice holds once `from` has been written there
unfoldable pub overlay : List ℕ → ℕ → List ℕ → List ℕ
overlay to at from = take at to ++ from ++ drop (at + length from) to

-- the bytes of a row of slots, each of that size, with the slot at an offset taken out and an unused one at the end
unfoldable pub closed_up : ℕ → List ℕ → ℕ → List ℕ
closed_up size b at = take at b ++ drop (at + size) b ++ replicate size 0

-- the lowest n bytes of x, the highest of them first
unfoldable pub big_endian : ℕ → ℕ → List ℕ
big_endian zero x = []
big_endian (suc n) x = (x / 2 ^ (8 * n) % 2 ^ 8) ∷ big_endian n x

-- numbers in n bytes each, one after the other
unfoldable pub in_bytes : ℕ → List ℕ → List ℕ
in_bytes n [] = []
in_bytes n (x ∷ xs) = big_endian n x ++ in_bytes n xs

-- the 255 bytes that hold a name in a record and in a slot of the table: the name, and zeros after it
unfoldable pub padded : List ℕ → List ℕ
padded n = n ++ replicate (255 - length n) 0

-- the 35 bytes that hold a record's data: the data, and zeros after them; while they are read, those that were read so far
unfoldable pub zero_filled : List ℕ → List ℕ
zero_filled bs = bs ++ replicate (35 - length bs) 0

-- f 0, f 1, and so on, n of them
unfoldable pub tabulate : (ℕ → ℕ) → ℕ → List ℕ
tabulate f zero = []
tabulate f (suc n) = tabulate f n ++ (f n ∷ [])

-- the bytes of a text that is written out, each the code of its character; for ASCII
unfoldable pub ascii : String → List ℕ
ascii empty = []
ascii (c then s) = code c ∷ ascii s

-- two lists of bytes are the same
unfoldable pub eq_bytes : List ℕ → List ℕ → Bool
eq_bytes [] [] = true
eq_bytes [] (y ∷ b) = false
eq_bytes (x ∷ a) [] = false
eq_bytes (x ∷ a) (y ∷ b) = eqb x y && eq_bytes a b
