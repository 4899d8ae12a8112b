-- The bytes of a block: its size, what stands where, and that they determine the note. Assumes nothing.
use Prim.Native.Nat.{ℕ, suc, ◌+◌, ◌-◌}
use mathlib.Core.Path.{◌≡◌, refl, sym, ap, ap₂, subst, ◌∙◌}
use mathlib.Core.List.{List, ◌∷◌, ◌++◌, head-eq_of_cons-eq, tail-eq_of_cons-eq}
use native.Mathlib.Nat.{suc-ne-zero}
use lib.ListN.{length, take, drop, get_or, replicate, length-append, length-replicate}
use lib.Seq.{take_at, drop_at}
use Rattle.base.specs.Bytes.{big_endian}
use Rattle.base.proofs.Lists.{append_split}
use Rattle.base.proofs.Bytes.{length_big_endian}
use Rattle.block.specs.Sealed.{IsSealed}
use Rattle.block.proofs.SealedLaws.{length_sealed, one_sealed, sealed_is_sealed, sealed_body}
use Rattle.base.specs.Bytes.{padded}
use Rattle.name.proofs.WireLaws.{proper_short}
use Rattle.slots.specs.Fields.{bare}
use Rattle.slots.specs.Form.{TableEntry, slot_bytes, flags}
use Rattle.slots.specs.SlotTests.{HeldName}
use Rattle.slots.proofs.LaidLaws.{Sizes, length_padded, slot_laid, length_laid, laid_name, length_slot}
use Rattle.slots.proofs.OneLaws.{one_slot}
use Rattle.book.specs.Notes.{Note}
use Rattle.book.specs.Blocks.{kind, slot, body, block_bytes, Fit, Says}

-- ---- the slot of a name with nothing under it

bare_sizes : (n : List ℕ) → HeldName n → Sizes (padded n) (replicate 4 0) (replicate 16 0) (replicate 35 0)
bare_sizes n h =
    record { name = length_padded n (proper_short n h.proper); a = length-replicate {A = ℕ} 4 0; aaaa = length-replicate {A = ℕ} 16 0; dhcid = length-replicate {A = ℕ} 35 0 }

length_bare : (n : List ℕ) → HeldName n → length (slot_bytes (bare n)) ≡ 312
length_bare n h = ap length (slot_laid (bare n)) ∙ length_laid (length n) (padded n) (flags (bare n)) (replicate 4 0) (replicate 16 0) (replicate 35 0) (bare_sizes n h)

pub one_padded : (n m : List ℕ) → length n ≡ length m → padded n ≡ padded m → n ≡ m
unfolding padded
one_padded n m long e = (append_split long e).0

pub bare_padded : (n : List ℕ) → HeldName n → take 255 (drop 1 (slot_bytes (bare n))) ≡ padded n
bare_padded n h = ap (λ (s : List ℕ). take 255 (drop 1 s)) (slot_laid (bare n)) ∙ laid_name (length n) (padded n) (flags (bare n)) (replicate 4 0) (replicate 16 0) (replicate 35 0) (bare_sizes n h)

pub bare_length : (n : List ℕ) → get_or (slot_bytes (bare n)) 0 0 ≡ length n
unfolding slot_bytes
bare_length n = refl

-- the bytes of it determine the name
one_bare : (n m : List ℕ) → HeldName n → HeldName m → slot_bytes (bare n) ≡ slot_bytes (bare m) → n ≡ m
one_bare n m h k e =
    one_padded n m (sym (bare_length n) ∙ ap (λ (s : List ℕ). get_or s 0 0) e ∙ bare_length m) (sym (bare_padded n h) ∙ ap (λ (s : List ℕ). take 255 (drop 1 s)) e ∙ bare_padded m k)

-- ---- the block

pub length_held : (c : Note) → Fit c → length (slot c) ≡ 312
length_held (Note.gone n) h = length_bare n h
length_held (Note.stands e) w = length_slot e w

pub length_body : (i : ℕ) (c : Note) → Fit c → length (body i c) ≡ 480
unfolding body
length_body i c f =
    let four = length_big_endian 4 i in
    let held = length_held c f in
    let rest : length (slot c ++ replicate 163 0) ≡ 475 = length-append (slot c) (replicate 163 0) ∙ ap₂ ◌+◌ held (length-replicate {A = ℕ} 163 0) in
    length-append (big_endian 4 i) (kind c ∷ slot c ++ replicate 163 0) ∙ ap₂ (λ (a b : ℕ). a + suc b) four rest

pub length_block : (i : ℕ) (c : Note) → Fit c → length (block_bytes i c) ≡ 512
unfolding block_bytes
length_block i c f = length_sealed (body i c) (length_body i c f)

pub block_sealed : (i : ℕ) (c : Note) → Fit c → IsSealed (block_bytes i c)
unfolding block_bytes
block_sealed i c f = sealed_is_sealed (body i c) (length_body i c f)

-- what stands where
pub block_body : (i : ℕ) (c : Note) → Fit c → take 480 (block_bytes i c) ≡ body i c
unfolding block_bytes
block_body i c f = sealed_body (body i c) (length_body i c f)

pub body_number : (i : ℕ) (c : Note) → take 4 (body i c) ≡ big_endian 4 i
unfolding body
body_number i c = take_at (big_endian 4 i) (kind c ∷ slot c ++ replicate 163 0) 4 (length_big_endian 4 i)

pub body_rest : (i : ℕ) (c : Note) → drop 4 (body i c) ≡ kind c ∷ slot c ++ replicate 163 0
unfolding body
body_rest i c = drop_at (big_endian 4 i) (kind c ∷ slot c ++ replicate 163 0) 4 (length_big_endian 4 i)

-- ---- the bytes determine the note

same_kind : (c d : Note) → Fit c → Fit d → kind c ≡ kind d → slot c ≡ slot d → c ≡ d
same_kind (Note.gone n) (Note.gone m) h k e s = ap Note.gone (one_bare n m h k s)
same_kind (Note.gone n) (Note.stands e) h w z s = absurd (suc-ne-zero 0 (sym z))
same_kind (Note.stands e) (Note.gone m) w k z s = absurd (suc-ne-zero 0 z)
same_kind (Note.stands e) (Note.stands g) w v z s = ap Note.stands (one_slot e g w v s)

pub one_body : (i : ℕ) (c d : Note) → Fit c → Fit d → body i c ≡ body i d → c ≡ d
one_body i c d f g e =
    let rest : kind c ∷ slot c ++ replicate 163 0 ≡ kind d ∷ slot d ++ replicate 163 0 = sym (body_rest i c) ∙ ap (drop 4) e ∙ body_rest i d in
    same_kind c d f g (head-eq_of_cons-eq rest) (append_split (length_held c f ∙ sym (length_held d g)) (tail-eq_of_cons-eq rest)).0

pub one_note : (i : ℕ) (c d : Note) → Fit c → Fit d → block_bytes i c ≡ block_bytes i d → c ≡ d
unfolding block_bytes
one_note i c d f g e = one_body i c d f g (one_sealed (body i c) (body i d) (length_body i c f) (length_body i d g) e)

pub says_length : (i : ℕ) (t : List TableEntry) (x : List ℕ) (c : Note) → Says i t x c → length x ≡ 512
says_length i t x c s = ap length s.bytes ∙ length_block i c s.fit

pub says_sealed : (i : ℕ) (t : List TableEntry) (x : List ℕ) (c : Note) → Says i t x c → IsSealed x
says_sealed i t x c s = subst IsSealed (sym s.bytes) (block_sealed i c s.fit)

pub says_one : (i : ℕ) (t : List TableEntry) (x : List ℕ) (c d : Note) → Says i t x c → Says i t x d → c ≡ d
says_one i t x c d s r = one_note i c d s.fit r.fit (sym s.bytes ∙ r.bytes)
