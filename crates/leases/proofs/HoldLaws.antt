-- What is tested of both sides is tested of any sound ones: this law repeats the tests, and a wrong definition of must-fail/ changes them with it.
use Prim.Native.Nat.{ℕ}
use mathlib.Core.List.{List}
use Rattle.base.specs.Order.{AllHold}
use Rattle.slots.specs.Form.{Sound}
use Rattle.reverse.specs.Form.{SoundReverse}
use Rattle.leases.specs.Calls.{sides_tests}

module _ (limit places : ℕ) (Known : Type 0) (name dhcid : List ℕ) (family : ℕ) (address : List ℕ) where
  pub again_hold : (b c b' c' : List ℕ) → AllHold (sides_tests limit places Known b c name dhcid family address) → Sound limit b' → SoundReverse places c'
      → AllHold (sides_tests limit places Known b' c' name dhcid family address)
  again_hold b c b' c' h t u = (h.0, ((t, u), h.1.1))
