-- The bytes of a message are read in one way: each of its parts says where it ends. Assumes nothing.
use Prim.Native.Nat.{ℕ, ◌/◌, ◌%◌, ◌<◌}
use mathlib.Core.Path.{◌≡◌, refl, sym, ap, ap₂, ◌∙◌}
use mathlib.Core.List.{List, [], ◌∷◌, ◌++◌, append_assoc, append-nil, head-eq_of_cons-eq, tail-eq_of_cons-eq}
use native.Mathlib.Omega.{arith}
use lib.ListN.{length}
use Rattle.base.specs.Bytes.{big_endian}
use Rattle.base.specs.Logic.{Every}
use Rattle.base.proofs.Bytes.{length_big_endian}
use Rattle.base.proofs.Lists.{append_split}
use Rattle.name.specs.Name.{wire}
use Rattle.update.specs.Message.{ZoneEntry, ResourceRecord, Message, header_bytes, zone_entry_bytes, zone_bytes, fixed_bytes, rr_bytes, section_bytes, message_bytes}
use Rattle.update.specs.Reading.{AnyLabel, Uncompressed, ZoneFits, RecordFits, Fits, Reads}

-- ---- a name

wire_ends : {ls ms : List (List ℕ)} → Every AnyLabel ls → Every AnyLabel ms → (a b : List ℕ) → wire ls ++ a ≡ wire ms ++ b → (wire ls ≡ wire ms) × (a ≡ b)
unfolding wire
wire_ends Every.none Every.none a b e = (refl, tail-eq_of_cons-eq e)
wire_ends Every.none (Every.more {a = m} km k) a b e = absurd (let z : 0 ≡ length m = head-eq_of_cons-eq e in omega (arith, km.0))
wire_ends (Every.more {a = l} hl h) Every.none a b e = absurd (let z : length l ≡ 0 = head-eq_of_cons-eq e in omega (arith, hl.0))
wire_ends (Every.more {a = l} {l = ls} hl h) (Every.more {a = m} {l = ms} km k) a b e =
    let parts = append_split {a = l} {b = m} (head-eq_of_cons-eq e) (sym (append_assoc l (wire ls) a) ∙ tail-eq_of_cons-eq e ∙ append_assoc m (wire ms) b) in
    let rest = wire_ends h k a b parts.1 in
    (ap₂ ◌∷◌ (head-eq_of_cons-eq e) (ap₂ ◌++◌ parts.0 rest.0), rest.1)

name_ends : (n m a b : List ℕ) → Uncompressed n → Uncompressed m → n ++ a ≡ m ++ b → (n ≡ m) × (a ≡ b)
name_ends n m a b p q e =
    let r = wire_ends p.each q.each a b (ap (λ (l : List ℕ). l ++ a) (sym p.form) ∙ e ∙ ap (λ (l : List ℕ). l ++ b) q.form) in
    (p.form ∙ r.0 ∙ sym q.form, r.1)

-- ---- numbers: from the highest byte down, the part above is known, and one byte more

third : (x y : ℕ) → x / 16777216 ≡ y / 16777216 → x / 65536 % 256 ≡ y / 65536 % 256 → x / 65536 ≡ y / 65536
third x y h e = omega arith

second : (x y : ℕ) → x / 65536 ≡ y / 65536 → x / 256 % 256 ≡ y / 256 % 256 → x / 256 ≡ y / 256
second x y h e = omega arith

lowest : (x y : ℕ) → x / 256 ≡ y / 256 → x / 1 % 256 ≡ y / 1 % 256 → x ≡ y
lowest x y h e = omega arith

two_bytes : (x y : ℕ) → x < 65536 → y < 65536 → big_endian 2 x ≡ big_endian 2 y → x ≡ y
unfolding big_endian
two_bytes x y hx hy e =
    let none_above : x / 65536 ≡ y / 65536 = omega arith in
    lowest x y (second x y none_above (head-eq_of_cons-eq e)) (head-eq_of_cons-eq (tail-eq_of_cons-eq e))

four_bytes : (x y : ℕ) → x < 4294967296 → y < 4294967296 → big_endian 4 x ≡ big_endian 4 y → x ≡ y
unfolding big_endian
four_bytes x y hx hy e =
    let first : x / 16777216 % 256 ≡ y / 16777216 % 256 = head-eq_of_cons-eq e in
    let highest : x / 16777216 ≡ y / 16777216 = omega arith in
    let t = tail-eq_of_cons-eq e in
    let u = tail-eq_of_cons-eq t in
    lowest x y (second x y (third x y highest (head-eq_of_cons-eq t)) (head-eq_of_cons-eq u)) (head-eq_of_cons-eq (tail-eq_of_cons-eq u))

two_end : (x y : ℕ) (a b : List ℕ) → x < 65536 → y < 65536 → big_endian 2 x ++ a ≡ big_endian 2 y ++ b → (x ≡ y) × (a ≡ b)
two_end x y a b hx hy e =
    let parts = append_split {a = big_endian 2 x} {b = big_endian 2 y} (length_big_endian 2 x ∙ sym (length_big_endian 2 y)) e in
    (two_bytes x y hx hy parts.0, parts.1)

four_end : (x y : ℕ) (a b : List ℕ) → x < 4294967296 → y < 4294967296 → big_endian 4 x ++ a ≡ big_endian 4 y ++ b → (x ≡ y) × (a ≡ b)
four_end x y a b hx hy e =
    let parts = append_split {a = big_endian 4 x} {b = big_endian 4 y} (length_big_endian 4 x ∙ sym (length_big_endian 4 y)) e in
    (four_bytes x y hx hy parts.0, parts.1)

-- ---- one record, and one zone. `++` groups to the left; from the front it is read to the right

zone_ends : (p q : ZoneEntry) → ZoneFits p → ZoneFits q → (a b : List ℕ) → zone_entry_bytes p ++ a ≡ zone_entry_bytes q ++ b → (p ≡ q) × (a ≡ b)
zone_ends p q f g a b h =
    let name = name_ends p.name q.name _ _ f.name g.name (sym (front p a) ∙ h ∙ front q b) in
    let ztype = two_end p.ztype q.ztype _ _ f.ztype g.ztype name.1 in
    let class = two_end p.class q.class _ _ f.class g.class ztype.1 in
    (λ i. record { name = name.0 i; ztype = ztype.0 i; class = class.0 i }, class.1)
  where
    front : (z : ZoneEntry) (r : List ℕ) → zone_entry_bytes z ++ r ≡ z.name ++ (big_endian 2 z.ztype ++ (big_endian 2 z.class ++ r))
    front z r = unfold zone_entry_bytes in simp append_assoc

record_front : (r : ResourceRecord) (a : List ℕ)
    → rr_bytes r ++ a ≡ r.owner ++ (big_endian 2 r.rtype ++ (big_endian 2 r.class ++ (big_endian 4 r.ttl ++ (big_endian 2 (length r.rdata) ++ (r.rdata ++ a)))))
unfolding rr_bytes fixed_bytes
record_front r a = simp append_assoc

record_ends : (r s : ResourceRecord) → RecordFits r → RecordFits s → (a b : List ℕ) → rr_bytes r ++ a ≡ rr_bytes s ++ b → (r ≡ s) × (a ≡ b)
record_ends r s f g a b h =
    let owner = name_ends r.owner s.owner _ _ f.owner g.owner (sym (record_front r a) ∙ h ∙ record_front s b) in
    let rtype = two_end r.rtype s.rtype _ _ f.rtype g.rtype owner.1 in
    let class = two_end r.class s.class _ _ f.class g.class rtype.1 in
    let ttl = four_end r.ttl s.ttl _ _ f.ttl g.ttl class.1 in
    let long = two_end (length r.rdata) (length s.rdata) _ _ f.rdata g.rdata ttl.1 in
    let rdata = append_split {a = r.rdata} {b = s.rdata} long.0 long.1 in
    (λ i. record { owner = owner.0 i; rtype = rtype.0 i; class = class.0 i; ttl = ttl.0 i; rdata = rdata.0 i }, rdata.1)

-- ---- a section, of so many

module _ {A : Type 0} (P : A → Type 0) (one : A → List ℕ) (all : List A → List ℕ) (ends : (a b : A) → P a → P b → (x y : List ℕ) → one a ++ x ≡ one b ++ y → (a ≡ b) × (x ≡ y))
    (none : all [] ≡ []) (more : (a : A) (l : List A) → all (a ∷ l) ≡ one a ++ all l) where
  many_end : {l m : List A} → Every P l → Every P m → length l ≡ length m → (x y : List ℕ) → all l ++ x ≡ all m ++ y → (l ≡ m) × (x ≡ y)
  many_end Every.none Every.none n x y h = (refl, sym (ap (λ (c : List ℕ). c ++ x) none) ∙ h ∙ ap (λ (c : List ℕ). c ++ y) none)
  many_end Every.none (Every.more q qs) n x y h = absurd (omega arith)
  many_end (Every.more p ps) Every.none n x y h = absurd (omega arith)
  many_end (Every.more {a} {l} p ps) (Every.more {a = b} {l = m} q qs) n x y h =
      let first = ends a b p q (all l ++ x) (all m ++ y)
      (sym (append_assoc (one a) (all l) x) ∙ sym (ap (λ (c : List ℕ). c ++ x) (more a l)) ∙ h ∙ ap (λ (c : List ℕ). c ++ y) (more b m) ∙ append_assoc (one b) (all m) y) in
      let rest = many_end ps qs (omega arith) x y first.1 in
      (ap₂ ◌∷◌ first.0 rest.0, rest.1)

zones_end : {l m : List ZoneEntry} → Every ZoneFits l → Every ZoneFits m → length l ≡ length m → (x y : List ℕ) → zone_bytes l ++ x ≡ zone_bytes m ++ y
    → (l ≡ m) × (x ≡ y)
unfolding zone_bytes
zones_end = many_end ZoneFits zone_entry_bytes zone_bytes zone_ends refl (λ a l. refl)

section_ends : {l m : List ResourceRecord} → Every RecordFits l → Every RecordFits m → length l ≡ length m → (x y : List ℕ)
    → section_bytes l ++ x ≡ section_bytes m ++ y → (l ≡ m) × (x ≡ y)
unfolding section_bytes
section_ends = many_end RecordFits rr_bytes section_bytes record_ends refl (λ a l. refl)

-- ---- the message

message_front : (m : Message)
    → message_bytes m
    ≡ big_endian 2 m.id ++ ((0x28 ∷ 0 ∷ []) ++ (big_endian 2 (length m.zones) ++ (big_endian 2 (length m.prerequisites) ++ (big_endian 2 (length m.updates) ++ (big_endian 2 (length m.additional)
    ++ (zone_bytes m.zones ++ (section_bytes m.prerequisites ++ (section_bytes m.updates ++ section_bytes m.additional))))))))
unfolding message_bytes header_bytes
message_front m = simp append_assoc

same_message : (m k : Message) → Fits m → Fits k → message_bytes m ≡ message_bytes k → m ≡ k
same_message m k f g h =
    let id = two_end m.id k.id _ _ f.id g.id (sym (message_front m) ∙ h ∙ message_front k) in
    let flags = append_split {a = 0x28 ∷ 0 ∷ []} {b = 0x28 ∷ 0 ∷ []} refl id.1 in
    let zo = two_end (length m.zones) (length k.zones) _ _ f.zone_count g.zone_count flags.1 in
    let pr = two_end (length m.prerequisites) (length k.prerequisites) _ _ f.prerequisite_count g.prerequisite_count zo.1 in
    let up = two_end (length m.updates) (length k.updates) _ _ f.update_count g.update_count pr.1 in
    let ad = two_end (length m.additional) (length k.additional) _ _ f.additional_count g.additional_count up.1 in
    let zones = zones_end f.zones g.zones zo.0 _ _ ad.1 in
    let prerequisites = section_ends f.prerequisites g.prerequisites pr.0 _ _ zones.1 in
    let updates = section_ends f.updates g.updates up.0 _ _ prerequisites.1 in
    let additional = section_ends f.additional g.additional ad.0 [] [] (append-nil _ ∙ updates.1 ∙ sym (append-nil _)) in
    λ i. record { id = id.0 i; zones = zones.0 i; prerequisites = prerequisites.0 i; updates = updates.0 i; additional = additional.0 i }

pub one_reading : (b : List ℕ) (m k : Message) → Reads b m → Reads b k → m ≡ k
one_reading b m k p q = same_message m k p.fits q.fits (sym p.bytes ∙ q.bytes)
