-- The public theorems of `ptr` (document 02, K7): the name of an address is a proper name in canonical form and no other address's, and how long it is; the
-- call's promise determines the answer and what is left, and a refused call leaves the output as it was. Each is proved by citation. Assumes nothing.
use Prim.Native.Nat.{ℕ, ◌≤◌, ◌<◌}
use mathlib.Core.Path.{◌≡◌}
use mathlib.Core.List.{List}
use lib.ListN.{length}
use Rattle.base.specs.Logic.{Every}
use Rattle.base.specs.declared.Answer.{Answer}
use Rattle.base.specs.declared.Answer.TheVariants.{Refused}
use Rattle.name.specs.Name.{Proper, canonical}
use Rattle.slots.specs.Entry.{address_size}
use Rattle.slots.specs.declared.Family.{Family}
use Rattle.slots.specs.declared.Family.TheVariants.{V4, V6}
use Rattle.ptr.specs.Ptr.{ptr_name, PtrWritten}
use Rattle.ptr.proofs.LabelLaws.{length_6, most_4}
use Rattle.ptr.proofs.NameLaws.{proper, in_canonical_form, least_4, one_name}
use Rattle.ptr.proofs.CallLaws.{one_written, unwritten}

-- ---- the name of an address, which has its family's size and consists of bytes

module _ (f : Family) (x : List ℕ) (size : length x ≡ address_size f) (bytes : Every (λ b. b < 256) x) where
  pub ptr_proper : Proper (ptr_name f x)
  ptr_proper = proper f x size bytes

  pub ptr_canonical : canonical (ptr_name f x) ≡ ptr_name f x
  ptr_canonical = in_canonical_form f x bytes

-- no two addresses have one name
pub one_address : (f g : Family) (x y : List ℕ) → length x ≡ address_size f → Every (λ b. b < 256) x → length y ≡ address_size g → Every (λ b. b < 256) y
    → ptr_name f x ≡ ptr_name g y → (f ≡ g) × (x ≡ y)
one_address f g x y sx hx sy hy e = one_name f g x y sx hx sy hy e

pub ptr_length_4 : (x : List ℕ) → length x ≡ address_size V4 → Every (λ b. b < 256) x → (22 ≤ length (ptr_name V4 x)) × (length (ptr_name V4 x) ≤ 30)
ptr_length_4 x size bytes = (least_4 x size bytes, most_4 x size)

pub ptr_length_6 : (x : List ℕ) → length x ≡ address_size V6 → length (ptr_name V6 x) ≡ 74
ptr_length_6 x size = length_6 x size

-- ---- the call

module _ (family : ℕ) (x out : List ℕ) where
  pub one_ptr : (r q : Answer) (left also : List ℕ) → PtrWritten family x out r left → PtrWritten family x out q also → (r ≡ q) × (left ≡ also)
  one_ptr r q left also h k = one_written family x out r q left also h k

  pub refused_ptr : (r : Answer) (left : List ℕ) → PtrWritten family x out r left → (n at : ℕ) → r ≡ Refused n at → left ≡ out
  refused_ptr r left h n at e = unwritten family x out r left h n at e
