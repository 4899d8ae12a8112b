-- A slot of the reverse side, part by part: which bytes are one, and that they determine its entry. Assumes nothing.
use Prim.Native.Nat.{ℕ, suc, ◌+◌, ◌-◌, ◌≤◌}
use mathlib.Core.Bool.{Bool, true, false, cond, ◌&&◌}
use mathlib.Core.Path.{◌≡◌, refl, sym, ap, ap₂, subst, ◌∙◌}
use mathlib.Core.List.{List, [], ◌∷◌, ◌++◌, append-nil, head-eq_of_cons-eq, tail-eq_of_cons-eq}
use native.Mathlib.Omega.{arith}
use lib.ListN.{length, take, drop, get_or, replicate, length-append, length-drop, length-replicate, take-append-drop}
use lib.Seq.{take_at, drop_at, take_all, drop-cons, drop-drop, length-take-le}
use Rattle.base.specs.Bytes.{eq_bytes, padded}
use Rattle.base.proofs.Lists.{append_split}
use Rattle.base.proofs.Tests.{eq_bytes_true, eq_eq_bytes, ne_eq_bytes}
use Rattle.name.proofs.WireLaws.{proper_short}
use Rattle.slots.specs.Entry.{address_size}
use Rattle.slots.specs.SlotTests.{HeldName, NameField}
use Rattle.slots.specs.declared.Family.{Family}
use Rattle.slots.specs.declared.Family.TheVariants.{V4, V6}
use Rattle.slots.proofs.LaidLaws.{length_padded}
use Rattle.reverse.specs.Entry.{ReverseEntry, same_family, is_at, entry_at}
use Rattle.reverse.specs.Form.{family_number, key_bytes, slot_bytes, WellFormed}
use Rattle.reverse.specs.Promise.{IsKey, IsReverseSlot}
use Rattle.reverse.specs.Sizes.{key_size, name_size, reverse_slot_size}
use Rattle.reverse.proofs.EntryLaws.{at_family, at_address}

-- ---- family and address

pub size_short : (f : Family) → address_size f ≤ 16
size_short V4 = omega arith
size_short V6 = omega arith

pub length_key : (f : Family) (x : List ℕ) → length x ≡ address_size f → length (key_bytes f x) ≡ key_size
unfolding key_bytes
length_key f x size = ap suc (length-append x (replicate (16 - length x) 0)) ∙ omega (arith, length-replicate {A = ℕ} (16 - length x) 0, size, size_short f)

one_number : (f g : Family) → family_number f ≡ family_number g → f ≡ g
one_number V4 V4 e = refl
one_number V4 V6 e = absurd (omega arith)
one_number V6 V4 e = absurd (omega arith)
one_number V6 V6 e = refl

-- they are determined by the key
module _ (f g : Family) (x y : List ℕ) (size : length x ≡ address_size f) (size' : length y ≡ address_size g) where
  pub key_family : key_bytes f x ≡ key_bytes g y → f ≡ g
  unfolding key_bytes
  key_family e = one_number f g (head-eq_of_cons-eq e)

  pub key_address : key_bytes f x ≡ key_bytes g y → x ≡ y
  unfolding key_bytes
  key_address e =
      let long : length x ≡ length y = size ∙ ap address_size (one_number f g (head-eq_of_cons-eq e)) ∙ sym size' in
      (append_split {a = x} {b = y} long (tail-eq_of_cons-eq e)).0

-- an entry is an address's exactly if its key is
pub at_key : (f : Family) (x : List ℕ) (r : ReverseEntry) → length x ≡ address_size f → WellFormed r → key_bytes r.family r.address ≡ key_bytes f x → is_at f x r ≡ true
unfolding is_at
at_key f x r size w same =
    let one : r.family ≡ f = key_family r.family f r.address x w.sized size same in
    ap₂ (λ (g : Family) (b : Bool). same_family g f && b) one (eq_eq_bytes r.address x (key_address r.family f r.address x w.sized size same)) ∙ own f
  where
    own : (g : Family) → (same_family g g && true) ≡ true
    own V4 = refl
    own V6 = refl

pub key_at_lem : (f : Family) (x : List ℕ) (r : ReverseEntry) → is_at f x r ≡ true → key_bytes r.family r.address ≡ key_bytes f x
key_at_lem f x r e = ap₂ key_bytes (at_family f x r e) (at_address f x r e)

-- ---- what 17 bytes are

module _ (k : List ℕ) (size : length k ≡ key_size) where
  whole : k ≡ get_or k 0 0 ∷ drop 1 k
  whole = drop-cons k 0 0 (omega arith)

  rest_long : length (drop 1 k) ≡ 16
  rest_long = length-drop 1 k ∙ omega arith

  pub key_4 : get_or k 0 0 ≡ 4 → take 12 (drop 5 k) ≡ replicate (length (take 12 (drop 5 k))) 0 → IsKey k
  unfolding IsKey key_bytes
  key_4 four zeros =
      let x = take 4 (drop 1 k) in
      let long : length x ≡ 4 = length-take-le 4 (drop 1 k) (omega (arith, rest_long)) in
      let last : drop 4 (drop 1 k) ≡ replicate 12 0 =
      drop-drop 4 1 k ∙ sym (take_all 12 (drop 5 k) (omega (arith, length-drop 5 k))) ∙ zeros ∙ ap (λ (n : ℕ). replicate n 0) (length-take-le 12 (drop 5 k) (omega (arith, length-drop 5 k))) in
      (V4, x, long, whole ∙ ap₂ ◌∷◌ four (sym (take-append-drop 4 (drop 1 k)) ∙ ap (λ (b : List ℕ). x ++ b) (last ∙ ap (λ (n : ℕ). replicate (16 - n) 0) (sym long))))

  pub key_6 : get_or k 0 0 ≡ 6 → IsKey k
  unfolding IsKey key_bytes
  key_6 six =
      let none_left : 16 - length (drop 1 k) ≡ 0 = omega (arith, rest_long) in
      (V6, drop 1 k, rest_long, whole ∙ ap₂ ◌∷◌ six (sym (append-nil (drop 1 k)) ∙ ap (λ (n : ℕ). drop 1 k ++ replicate n 0) (sym none_left)))

-- and the other way
key_first_by : (f : Family) (x : List ℕ) → length x ≡ address_size f → (get_or (key_bytes f x) 0 0 ≡ 4 → ⊥) → get_or (key_bytes f x) 0 0 ≡ 6
unfolding key_bytes
key_first_by V4 x size other = absurd (other refl)
key_first_by V6 x size other = refl

pub key_first : (k : List ℕ) → IsKey k → (get_or k 0 0 ≡ 4 → ⊥) → get_or k 0 0 ≡ 6
unfolding IsKey
key_first k (f, x, size, form) other = ap (λ (t : List ℕ). get_or t 0 0) form ∙ key_first_by f x size (λ four. other (ap (λ (t : List ℕ). get_or t 0 0) form ∙ four))

key_rest_by : (f : Family) (x : List ℕ) → length x ≡ address_size f → get_or (key_bytes f x) 0 0 ≡ 4 → take 12 (drop 5 (key_bytes f x)) ≡ replicate (length (take 12 (drop 5 (key_bytes f x)))) 0
unfolding key_bytes
key_rest_by V4 x size four =
    let left : 16 - length x ≡ 12 = omega (arith, size) in
    let zeros : take 12 (drop 5 (4 ∷ x ++ replicate (16 - length x) 0)) ≡ replicate 12 0 =
    ap (take 12) (drop_at (4 ∷ x) (replicate (16 - length x) 0) 5 (ap suc size) ∙ ap (λ (n : ℕ). replicate n 0) left) in
    zeros ∙ ap (λ (n : ℕ). replicate n 0) (sym (ap length zeros))
key_rest_by V6 x size four = absurd (omega arith)

pub key_rest : (k : List ℕ) → IsKey k → get_or k 0 0 ≡ 4 → take 12 (drop 5 k) ≡ replicate (length (take 12 (drop 5 k))) 0
unfolding IsKey
key_rest k (f, x, size, form) four =
    subst (λ (t : List ℕ). take 12 (drop 5 t) ≡ replicate (length (take 12 (drop 5 t))) 0) (sym form) (key_rest_by f x size (ap (λ (t : List ℕ). get_or t 0 0) (sym form) ∙ four))

-- ---- the slot: the key, and the name

module _ (r : ReverseEntry) (w : WellFormed r) where
  held : HeldName r.name
  held = record { proper = w.proper; lower = w.lower }

  pub slot_key : take key_size (slot_bytes r) ≡ key_bytes r.family r.address
  unfolding slot_bytes
  slot_key = take_at (key_bytes r.family r.address) (length r.name ∷ padded r.name) key_size (length_key r.family r.address w.sized)

  pub slot_name : drop key_size (slot_bytes r) ≡ length r.name ∷ padded r.name
  unfolding slot_bytes
  slot_name = drop_at (key_bytes r.family r.address) (length r.name ∷ padded r.name) key_size (length_key r.family r.address w.sized)

  pub length_slot : length (slot_bytes r) ≡ reverse_slot_size
  unfolding slot_bytes
  length_slot =
      length-append (key_bytes r.family r.address) (length r.name ∷ padded r.name)
      ∙ omega (arith, length_key r.family r.address w.sized, length_padded r.name (proper_short r.name w.proper))

-- an unused slot begins with 0, and this one does not
marked_by : (f : Family) → family_number f ≡ 0 → ⊥
marked_by V4 e = omega arith
marked_by V6 e = omega arith

pub slot_marked : (r : ReverseEntry) → WellFormed r → get_or (slot_bytes r) 0 0 ≡ 0 → ⊥
unfolding slot_bytes key_bytes
slot_marked r w e = marked_by r.family e

same_name : (n m : List ℕ) → ◌≡◌ {A = List ℕ} (length n ∷ padded n) (length m ∷ padded m) → n ≡ m
unfolding padded
same_name n m e = (append_split {a = n} {b = m} (head-eq_of_cons-eq e) (tail-eq_of_cons-eq e)).0

pub one_slot : (e f : ReverseEntry) → WellFormed e → WellFormed f → slot_bytes e ≡ slot_bytes f → e ≡ f
one_slot e f w v s =
    let key = sym (slot_key e w) ∙ ap (take key_size) s ∙ slot_key f v in
    let family = key_family e.family f.family e.address f.address w.sized v.sized key in
    let address = key_address e.family f.family e.address f.address w.sized v.sized key in
    let name = same_name e.name f.name (sym (slot_name e w) ∙ ap (drop key_size) s ∙ slot_name f v) in
    λ i. record { family = family i; address = address i; name = name i }

-- ---- which bytes are a slot

module _ (s : List ℕ) where
  pub slot_is_key : IsReverseSlot s → IsKey (take key_size s)
  unfolding IsReverseSlot IsKey
  slot_is_key (r, w, form) = (r.family, r.address, w.sized, ap (take key_size) form ∙ slot_key r w)

  pub slot_name_field : IsReverseSlot s → NameField (drop key_size s)
  unfolding IsReverseSlot NameField
  slot_name_field (r, w, form) = (r.name, held r w, ap (drop key_size) form ∙ slot_name r w)

  pub is_slot : IsKey (take key_size s) → NameField (drop key_size s) → IsReverseSlot s
  unfolding IsReverseSlot IsKey NameField slot_bytes
  is_slot (f, x, size, key) (n, h, name) =
      (entry_at f x n, record { sized = size; proper = h.proper; lower = h.lower }, sym (take-append-drop key_size s) ∙ ap₂ (λ (a b : List ℕ). a ++ b) key name)
