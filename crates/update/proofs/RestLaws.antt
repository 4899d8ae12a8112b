-- Bytes written one part after the other, each into the rest of a slice that is lent. Assumes nothing.
use Prim.Native.Nat.{ℕ, ◌+◌, ◌-◌, ◌/◌, ◌%◌, ◌≤◌, ◌<◌}
use mathlib.Core.Path.{◌≡◌, sym, ap, ap₂, ◌∙◌}
use mathlib.Core.List.{List, [], ◌∷◌, ◌++◌, append_assoc, append-nil}
use native.Mathlib.Nat.{zero-add, div-one}
use native.Mathlib.Omega.{arith}
use lib.ListN.{length, take, drop, length-append, length-drop, drop_of_length-le}
use lib.Seq.{drop-drop, take_all}
use Rattle.base.specs.Bytes.{overlay, big_endian}
use Rattle.base.proofs.Bytes.{length_overlay, overlay_append, taken_back}
use Rattle.name.specs.Name.{canonical}
use Rattle.name.proofs.NameLaws.{length_canonical}
use Rattle.update.specs.Message.{ResourceRecord, header_bytes, zone_entry_bytes, zone_bytes, rr_bytes, section_bytes, message_bytes}
use Rattle.update.specs.Updates.{the_zone, update}

-- the rest of a slice came back with y at its beginning: y was written from there on
pub lent_rest : (b : List ℕ) (at : ℕ) (last y : List ℕ) → at ≤ length b → last ≡ overlay (take (length b - at) (drop at b)) 0 y
    → take at b ++ (last ++ drop (length b - at) (drop at b)) ≡ overlay b at y
unfolding overlay
lent_rest b at last y within e =
    let size : length (drop at b) ≡ length b - at = length-drop at b in
    let whole : take (length b - at) (drop at b) ≡ drop at b = take_all (length b - at) (drop at b) (omega arith) in
    let none : drop (length b - at) (drop at b) ≡ [] = drop_of_length-le (drop at b) {i = length b - at} (omega arith) in
    ap₂ (λ (l r : List ℕ). take at b ++ (l ++ r)) (e ∙ ap (λ (l : List ℕ). overlay l 0 y) whole) none
    ∙ ap (λ (l : List ℕ). take at b ++ l) (append-nil (overlay (drop at b) 0 y))
    ∙ ap (λ (l : List ℕ). take at b ++ (y ++ l)) (ap (λ (k : ℕ). drop k (drop at b)) (zero-add (length y)) ∙ drop-drop (length y) at b)
    ∙ sym (append_assoc (take at b) y (drop (at + length y) b))

-- the bytes y into the rest behind the bytes x
pub two : (to x y b last : List ℕ) (i : ℕ) → i ≡ length x → i ≤ length to → b ≡ overlay to 0 x → last ≡ overlay (take (length b - i) (drop i b)) 0 y
    → take i b ++ (last ++ drop (length b - i) (drop i b)) ≡ overlay to 0 (x ++ y)
two to x y b last i size fits eb e =
    let long : length b ≡ length to = ap length eb ∙ length_overlay to 0 x (omega (arith, size)) in
    lent_rest b i last y (omega (arith, long)) e ∙ ap₂ (λ (l : List ℕ) (k : ℕ). overlay l k y) eb (omega (arith, size)) ∙ overlay_append to 0 x y (omega arith)

-- and then z
pub three : (to x y z b last next : List ℕ) (i j : ℕ) → i ≡ length x → j ≡ length y → i + j ≤ length to → b ≡ overlay to 0 x → last ≡ overlay (take (length b - i) (drop i b)) 0 y
    → let c = take i b ++ (last ++ drop (length b - i) (drop i b)) in next ≡ overlay (take (length c - (i + j)) (drop (i + j) c)) 0 z
    → take (i + j) c ++ (next ++ drop (length c - (i + j)) (drop (i + j) c)) ≡ overlay to 0 (x ++ y ++ z)
three to x y z b last next i j si sj fits eb e f =
    two to (x ++ y) z (take i b ++ (last ++ drop (length b - i) (drop i b))) next (i + j) (omega (arith, si, sj, length-append x y)) fits (two to x y b last i si (omega arith) eb e) f

-- three parts, each from the index at which the last one ended
pub parts : (to x y z b c d : List ℕ) (i j : ℕ) → i ≡ length x → j ≡ i + length y → b ≡ overlay to 0 x → c ≡ overlay b i y → d ≡ overlay c j z → d ≡ overlay to 0 (x ++ y ++ z)
parts to x y z b c d i j si sj eb ec ed =
    let two : c ≡ overlay to 0 (x ++ y) = ec ∙ ap₂ (λ (l : List ℕ) (k : ℕ). overlay l k y) eb (omega (arith, si)) ∙ overlay_append to 0 x y (omega arith) in
    ed ∙ ap₂ (λ (l : List ℕ) (k : ℕ). overlay l k z) two (omega (arith, si, sj, length-append x y)) ∙ overlay_append to 0 (x ++ y) z (omega arith)

-- ---- sections as their records' bytes

pub section_one : (r : ResourceRecord) → rr_bytes r ≡ section_bytes (r ∷ [])
unfolding section_bytes
section_one r = sym (append-nil (rr_bytes r))

pub section_two : (r s : ResourceRecord) → rr_bytes r ++ rr_bytes s ≡ section_bytes (r ∷ s ∷ [])
unfolding section_bytes
section_two r s = ap (λ (l : List ℕ). rr_bytes r ++ l) (section_one s)

pub section_three : (r s t : ResourceRecord) → rr_bytes r ++ rr_bytes s ++ rr_bytes t ≡ section_bytes (r ∷ s ∷ t ∷ [])
unfolding section_bytes
section_three r s t = append_assoc (rr_bytes r) (rr_bytes s) (rr_bytes t) ∙ ap (λ (l : List ℕ). rr_bytes r ++ l) (section_two s t)

-- ---- a message as its header and its sections, one of which has one record

pub one_prerequisite : (id : ℕ) (z : List ℕ) (r : ResourceRecord) (us : List ResourceRecord)
    → header_bytes id 1 1 (length us) 0 ++ zone_bytes (the_zone z ∷ []) ++ rr_bytes r ++ section_bytes us ≡ message_bytes (update id z (r ∷ []) us)
unfolding message_bytes section_bytes
one_prerequisite id z r us =
    let h = header_bytes id 1 1 (length us) 0 ++ zone_bytes (the_zone z ∷ []) in
    ap (λ (l : List ℕ). h ++ l ++ section_bytes us) (section_one r) ∙ sym (append-nil (h ++ section_bytes (r ∷ []) ++ section_bytes us))

pub one_update : (id : ℕ) (z : List ℕ) (ps : List ResourceRecord) (r : ResourceRecord)
    → header_bytes id 1 (length ps) 1 0 ++ zone_bytes (the_zone z ∷ []) ++ section_bytes ps ++ rr_bytes r ≡ message_bytes (update id z ps (r ∷ []))
unfolding message_bytes section_bytes
one_update id z ps r =
    let h = header_bytes id 1 (length ps) 1 0 ++ zone_bytes (the_zone z ∷ []) in
    ap (λ (l : List ℕ). h ++ section_bytes ps ++ l) (section_one r) ∙ sym (append-nil (h ++ section_bytes ps ++ section_bytes (r ∷ [])))

-- ---- what stands before the records

-- the zone section: SOA is 6, IN is 1
pub zone_is : (h n : List ℕ) → h ++ n ++ (0 ∷ 6 ∷ 0 ∷ 1 ∷ []) ≡ h ++ zone_bytes (the_zone n ∷ [])
unfolding zone_bytes zone_entry_bytes big_endian
zone_is h n =
    append_assoc h n (0 ∷ 6 ∷ 0 ∷ 1 ∷ []) ∙ ap (λ (l : List ℕ). h ++ l) (sym (append-nil (n ++ (0 ∷ 6 ∷ []) ++ (0 ∷ 1 ∷ [])) ∙ append_assoc n (0 ∷ 6 ∷ []) (0 ∷ 1 ∷ [])))

-- a number below 256 in two bytes
low_byte : (x : ℕ) → x < 256 → big_endian 2 x ≡ 0 ∷ x ∷ []
unfolding big_endian
low_byte x small = ap₂ (λ (h l : ℕ). h ∷ l ∷ []) (omega arith) (ap (λ (l : ℕ). l % 256) (div-one x) ∙ omega arith)

pub header_is : (id pr up : ℕ) → pr < 256 → up < 256 → (id / 256 % 256) ∷ (id % 256) ∷ 40 ∷ 0 ∷ 0 ∷ 1 ∷ 0 ∷ pr ∷ 0 ∷ up ∷ 0 ∷ 0 ∷ [] ≡ header_bytes id 1 pr up 0
unfolding header_bytes big_endian
header_is id pr up lp lu =
    sym
    (ap₂ (λ (x y : List ℕ). big_endian 2 id ++ (0x28 ∷ 0 ∷ []) ++ big_endian 2 1 ++ x ++ y ++ big_endian 2 0) (low_byte pr lp) (low_byte up lu)
    ∙ ap (λ (l : ℕ). (id / 256 % 256) ∷ (l % 256) ∷ 40 ∷ 0 ∷ 0 ∷ 1 ∷ 0 ∷ pr ∷ 0 ∷ up ∷ 0 ∷ 0 ∷ []) (div-one id))

-- ---- the owner of the records

-- the canonical form of a name, taken back from the room into which it was written
pub owner_is : (room last n : List ℕ) → last ≡ overlay room 0 (canonical n) → take (length n) last ≡ canonical n
owner_is room last n e = ap₂ take (sym (length_canonical n)) e ∙ taken_back room (canonical n)
