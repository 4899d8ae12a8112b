-- How many bytes a message and its parts have. Assumes nothing.
use Prim.Native.Nat.{ℕ, ◌+◌, ◌*◌, ◌≤◌}
use mathlib.Core.Path.{◌≡◌, refl, ap₂, ◌∙◌}
use mathlib.Core.List.{List, [], ◌∷◌, ◌++◌}
use native.Mathlib.Omega.{arith}
use lib.ListN.{length, length-append}
use Rattle.base.specs.Bytes.{big_endian}
use Rattle.name.specs.Name.{canonical}
use Rattle.name.proofs.NameLaws.{length_canonical}
use Rattle.slots.specs.Entry.{address_size}
use Rattle.slots.specs.declared.Family.{Family}
use Rattle.slots.specs.declared.Family.TheVariants.{V4, V6}
use Rattle.update.specs.Message.{ZoneEntry, ResourceRecord, header_bytes, zone_entry_bytes, zone_bytes, fixed_bytes, rr_bytes, section_bytes, message_bytes, type_a, type_aaaa, type_dhcid}
use Rattle.update.specs.Promise.{length_of, last_length}
use Rattle.update.specs.Updates.{the_zone, update, set_is, no_set, add_first, add_second, remove_first, remove_second, of_kind}
use Rattle.update.specs.declared.Kind.{Kind}
use Rattle.update.specs.declared.Kind.TheVariants.{AddFirst, AddSecond, RemoveFirst}

-- ---- the parts

pub length_header : (id zo pr up ad : ℕ) → length (header_bytes id zo pr up ad) ≡ 12
unfolding header_bytes big_endian
length_header id zo pr up ad = refl

length_zone : (z : ZoneEntry) → length (zone_bytes (z ∷ [])) ≡ length z.name + 4
unfolding zone_bytes zone_entry_bytes big_endian
length_zone z = simp length-append (omega arith)

pub length_fixed : (t c l n : ℕ) → length (fixed_bytes t c l n) ≡ 10
unfolding fixed_bytes big_endian
length_fixed t c l n = refl

pub length_rr : (r : ResourceRecord) → length (rr_bytes r) ≡ length r.owner + 10 + length r.rdata
unfolding rr_bytes
length_rr r =
    let f = fixed_bytes r.rtype r.class r.ttl (length r.rdata) in
    omega (arith, length-append (r.owner ++ f) r.rdata, length-append r.owner f, length_fixed r.rtype r.class r.ttl (length r.rdata))

length_none : length (section_bytes []) ≡ 0
unfolding section_bytes
length_none = refl

length_more : (r : ResourceRecord) (rs : List ResourceRecord) → length (section_bytes (r ∷ rs)) ≡ length r.owner + 10 + length r.rdata + length (section_bytes rs)
unfolding section_bytes
length_more r rs = omega (arith, length-append (rr_bytes r) (section_bytes rs), length_rr r)

-- ---- what is written before the last section

length_head : (id pr up : ℕ) (z : List ℕ) → length (header_bytes id 1 pr up 0 ++ zone_bytes (the_zone z ∷ [])) ≡ length z + 16
length_head id pr up z =
    let h = header_bytes id 1 pr up 0 in
    omega (arith, length-append h (zone_bytes (the_zone z ∷ [])), length_header id 1 pr up 0, length_zone (the_zone z))

pub head_long : (id pr up : ℕ) (z : List ℕ) → length (header_bytes id 1 pr up 0 ++ zone_bytes (the_zone (canonical z) ∷ [])) ≡ length z + 16
head_long id pr up z = omega (arith, length_head id pr up (canonical z), length_canonical z)

pub has_long : (n d : List ℕ) (t : ℕ) (x : List ℕ) → length d ≡ 35 → length (section_bytes (set_is n type_dhcid d ∷ set_is n t x ∷ [])) ≡ 2 * length n + 55 + length x
has_long n d t x size = simp (length_more, length_none) (omega (arith, size))

pub bare_long : (n d : List ℕ) → length d ≡ 35 → length (section_bytes (set_is n type_dhcid d ∷ no_set n type_a ∷ no_set n type_aaaa ∷ [])) ≡ 3 * length n + 65
bare_long n d size = simp (length_more, length_none) (omega (arith, size))

-- ---- the messages

length_message : (id : ℕ) (z : List ℕ) (ps us : List ResourceRecord) → length (message_bytes (update id z ps us)) ≡ 16 + length z + length (section_bytes ps) + length (section_bytes us)
unfolding message_bytes
length_message id z ps us =
    let h = header_bytes id 1 (length ps) (length us) 0 ++ zone_bytes (the_zone z ∷ []) in
    omega (
      arith,
      length-append (h ++ section_bytes ps ++ section_bytes us) (section_bytes []),
      length-append (h ++ section_bytes ps) (section_bytes us),
      length-append h (section_bytes ps),
      length_head id (length ps) (length us) z,
      length_none,
    )

module _ (id : ℕ) (z n d : List ℕ) (long : length d ≡ 35) where
  pub length_kind : (k : Kind) (t : ℕ) (x : List ℕ) → length (message_bytes (of_kind k id z n d t x)) ≡ length_of k (length z) (length n) (length x)
  unfolding add_first add_second remove_first
  length_kind AddFirst t x = length_message _ _ _ _ ∙ simp (length_more, length_none) (omega arith)
  length_kind AddSecond t x = length_message _ _ _ _ ∙ simp (length_more, length_none) (omega arith)
  length_kind RemoveFirst t x = length_message _ _ _ _ ∙ simp (length_more, length_none) (omega arith)

  pub length_last : length (message_bytes (remove_second id z n d)) ≡ last_length (length z) (length n)
  unfolding remove_second
  length_last = length_message _ _ _ _ ∙ simp (length_more, length_none) (omega arith)

-- and of the messages of a call, whose name and zone are in canonical form
module _ (id : ℕ) (z n d : List ℕ) (long : length d ≡ 35) where
  pub called_long : (k : Kind) (t : ℕ) (x : List ℕ) → length (message_bytes (of_kind k id (canonical z) (canonical n) d t x)) ≡ length_of k (length z) (length n) (length x)
  called_long k t x =
      length_kind id (canonical z) (canonical n) d long k t x
      ∙ ap₂ (λ (i j : ℕ). length_of k i j (length x)) (length_canonical z) (length_canonical n)

  pub last_long : length (message_bytes (remove_second id (canonical z) (canonical n) d)) ≡ last_length (length z) (length n)
  last_long = length_last id (canonical z) (canonical n) d long ∙ ap₂ last_length (length_canonical z) (length_canonical n)

-- none has more bytes than fit into 32 bits
pub some_length : (k : Kind) (z n x : ℕ) → z ≤ 255 → n ≤ 255 → x ≤ 16 → length_of k z n x ≤ 1401
some_length AddFirst z n x hz hn hx = omega arith
some_length AddSecond z n x hz hn hx = omega arith
some_length RemoveFirst z n x hz hn hx = omega arith

-- an address is at most 16 bytes
pub address_short : (f : Family) → address_size f ≤ 16
address_short V4 = omega arith
address_short V6 = omega arith
