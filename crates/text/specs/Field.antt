-- Numbers with a separator between them: what A and AAAA records have in common, so that one function reads both.
use Rattle.std.specs.Prelude.{ℕ, ◌+◌, ◌-◌, ◌*◌, ◌≤◌, ◌<◌, false, ◌≡◌, List, ◌++◌, length, get_or, replicate, Option, Some, None}
use Prim.Native.Char.{code}
use Rattle.base.specs.Logic.{Pairwise}
use Rattle.text.specs.Digits.{digit_value, Number, separated}
use Rattle.text.specs.declared.field.Form.{Form}

-- p is a number n of the form f: in its base, of at most so many digits, no greater than it allows, and with no leading zero where it has none
pub record Field (f : Form) (p : List ℕ) (n : ℕ) : Type 0 where
  pub number : Number f.base p n
  pub short : length p ≤ f.most
  pub shortest : f.leading_zeros ≡ false → get_or p 0 0 ≡ code "0" → length p ≡ 1
  pub small : n ≤ f.greatest

-- the word w is as many numbers of the form f as it wants, with its separator between them: ns
pub record Fields (f : Form) (w ns : List ℕ) : Type 0 where
  pub parts : List (List ℕ)
  pub word : w ≡ separated f.separator parts
  pub fields : Pairwise (Field f) parts ns
  pub count : length ns ≡ f.count

-- a form that the reader can work with: a base of at most ten digits and six letters, numbers of 16 bits, up to eight of them, a separator that is no digit
pub record Usable (f : Form) : Type 0 where
  pub base : f.base ≤ 16
  pub positive : 1 ≤ f.base
  pub greatest : f.greatest ≤ 65535
  pub most : f.most ≤ 4
  pub some : 1 ≤ f.count
  pub few : f.count ≤ 8
  pub separates : digit_value f.separator ≡ 16

-- a field with the number v and n digits so far may have a digit of value d more
pub record Allowed (f : Form) (v n d : ℕ) : Type 0 where
  pub digit : d < f.base
  pub room : n < f.most
  pub leading : f.leading_zeros ≡ false → 1 ≤ n → 1 ≤ v
  pub small : v * f.base + d ≤ f.greatest

-- the number with that digit; or none, where it may not have it
pub data Extended (f : Form) (v n d : ℕ) : Option ℕ → Type 0 where
  may : Allowed f v n d → Extended f v n d (Some (v * f.base + d))
  may_not : (Allowed f v n d → ⊥) → Extended f v n d None

-- what the reader answers: the numbers, and zeros after them; or that there are none
pub record Numbered (f : Form) (w : List ℕ) (r : Option (List ℕ)) : Type 0 where
  pub numbers : List ℕ
  pub fields : Fields f w numbers
  pub found : r ≡ Some (numbers ++ replicate (8 - length numbers) 0)

pub record NotNumbered (f : Form) (w : List ℕ) (r : Option (List ℕ)) : Type 0 where
  pub none : (ns : List ℕ) → Fields f w ns → ⊥
  pub found : r ≡ None
