-- What the single options say, by the part of the message that their data are. Assumes nothing.
use Prim.Native.Nat.{ℕ, ◌+◌, ◌-◌, ◌/◌, ◌%◌, ◌≤◌, ◌<◌}
use mathlib.Core.Bool.{Bool, true, false, ◌&&◌, and-true, and-false}
use mathlib.Core.Path.{◌≡◌, sym, ap, ◌∙◌}
use mathlib.Core.List.{List}
use mathlib.Core.Option.{none}
use native.Mathlib.Nat.{add-zero}
use native.Mathlib.Omega.{arith}
use lib.Dec.{leb, eqb}
use lib.ListN.{get_or, drop}
use lib.Seq.{get_or-take, get_or-drop}
use borrow.Author.Tests.{le-leb, lt-leb, leb-true, eq-eqb, ne_eqb}
use Rattle.base.proofs.Tests.{and_left, and_right}
use Rattle.base.specs.Refusal.{no_identifier}
use Rattle.message.specs.Request.{bytes_of, Inside, no_part, refused_request}
use Rattle.message.specs.declared.Part.{Part}
use Rattle.message.specs.declared.seen.Seen.{Seen}
use Rattle.message.proofs.PartLaws.{part_length}
use Rattle.message4.specs.Message4.{hlen, is_request, has_duid, identifier4, has_wire_name, name4}
use Rattle.message4.specs.Judging4.{data_at, data_of, as_name, accepted_as, identified_as}
use Rattle.message4.specs.declared.Name.{Name}

-- ---- the data

module _ (m : List ℕ) (p : Part) where
  pub part_first : 1 ≤ p.len → get_or m p.start 0 ≡ get_or (bytes_of m p) 0 0
  unfolding bytes_of
  part_first h = sym (get_or-take p.len (drop p.start m) 0 0 h ∙ get_or-drop p.start m 0 0 ∙ ap (λ (i : ℕ). get_or m i 0) (add-zero p.start))

-- ---- option 53

module _ (m : List ℕ) (s : Seen) where
  pub request_absent : s.found ≡ false → false ≡ is_request (data_of m 53 s)
  request_absent f = rw f

  module _ (f : s.found ≡ true) (fits : Inside m s.part) where
    request_by : is_request (data_of m 53 s) ≡ (eqb s.part.len 1 && eqb (get_or (bytes_of m s.part) 0 0) 3)
    request_by = rw (f, part_length m s.part fits)

    pub request_long : (s.part.len ≡ 1 → ⊥) → false ≡ is_request (data_of m 53 s)
    request_long h = sym (request_by ∙ ap (λ (t : Bool). t && eqb (get_or (bytes_of m s.part) 0 0) 3) (ne_eqb s.part.len 1 h))

    pub request_first : s.part.len ≡ 1 → (b : ℕ) → b ≡ get_or (bytes_of m s.part) 0 0 → eqb b 3 ≡ is_request (data_of m 53 s)
    request_first h b e = rw e (sym (request_by ∙ ap (λ (t : Bool). t && eqb (get_or (bytes_of m s.part) 0 0) 3) (eq-eqb s.part.len 1 h)))

-- ---- option 61

module _ (m : List ℕ) (p : Part) (fits : Inside m p) where
  duid_by : has_duid (data_at m 61 p) ≡ (eqb (get_or (bytes_of m p) 0 0) 255 && leb 8 p.len && leb p.len 135)
  unfolding has_duid
  duid_by = rw (part_length m p fits)

  pub duid_short : p.len < 8 → false ≡ has_duid (data_at m 61 p)
  duid_short h =
      sym (duid_by ∙ ap (λ (t : Bool). eqb (get_or (bytes_of m p) 0 0) 255 && t && leb p.len 135) (lt-leb 8 p.len h)
      ∙ ap (λ (t : Bool). t && leb p.len 135) (and-false (eqb (get_or (bytes_of m p) 0 0) 255)))

  pub duid_long : 135 < p.len → false ≡ has_duid (data_at m 61 p)
  duid_long h =
      let t = eqb (get_or (bytes_of m p) 0 0) 255 && leb 8 p.len in
      sym (duid_by ∙ ap (λ (u : Bool). t && u) (lt-leb p.len 135 h) ∙ and-false t)

  pub duid_first : 8 ≤ p.len → p.len ≤ 135 → (b : ℕ) → b ≡ get_or (bytes_of m p) 0 0 → eqb b 255 ≡ has_duid (data_at m 61 p)
  duid_first low high b e =
      let t = eqb (get_or (bytes_of m p) 0 0) 255 in
      rw e (sym (duid_by ∙ (λ i. t && le-leb 8 p.len low i && le-leb p.len 135 high i) ∙ and-true (t && true) ∙ and-true t))

  -- so it has the five bytes before a DUID
  pub duid_least : has_duid (data_at m 61 p) ≡ true → 5 ≤ p.len
  duid_least h =
      let t = eqb (get_or (bytes_of m p) 0 0) 255 in
      let least = leb-true 8 p.len (and_right t (leb 8 p.len) (and_left (t && leb 8 p.len) (leb p.len 135) (sym duid_by ∙ h))) in
      omega arith

  -- ---- option 81

  wire_by : has_wire_name (data_at m 81 p) ≡ (leb 3 p.len && eqb (get_or (bytes_of m p) 0 0 / 4 % 2) 1)
  unfolding has_wire_name
  wire_by = rw (part_length m p fits)

  pub wire_short : p.len < 3 → false ≡ has_wire_name (data_at m 81 p)
  wire_short h = sym (wire_by ∙ ap (λ (t : Bool). t && eqb (get_or (bytes_of m p) 0 0 / 4 % 2) 1) (lt-leb 3 p.len h))

  pub wire_first : 3 ≤ p.len → (b : ℕ) → b ≡ get_or (bytes_of m p) 0 0 → eqb (b / 4 % 2) 1 ≡ has_wire_name (data_at m 81 p)
  wire_first h b e = rw e (sym (wire_by ∙ ap (λ (t : Bool). t && eqb (get_or (bytes_of m p) 0 0 / 4 % 2) 1) (le-leb 3 p.len h)))

  pub wire_least : has_wire_name (data_at m 81 p) ≡ true → 3 ≤ p.len
  wire_least h = leb-true 3 p.len (and_left (leb 3 p.len) (eqb (get_or (bytes_of m p) 0 0 / 4 % 2) 1) (sym wire_by ∙ h))

-- ---- the name

module _ (m : List ℕ) (s : Seen) where
  pub name_absent : s.found ≡ false → as_name none ≡ as_name (name4 (data_of m 81 s))
  name_absent f = rw f

  module _ (f : s.found ≡ true) where
    pub name_other : has_wire_name (data_at m 81 s.part) ≡ false → as_name none ≡ as_name (name4 (data_of m 81 s))
    name_other w = rw (f, w)

    pub name_wire : Inside m s.part → has_wire_name (data_at m 81 s.part) ≡ true
        → record { given = true; part = record { start = s.part.start + 3; len = s.part.len - 3 } } ≡ as_name (name4 (data_of m 81 s))
    name_wire fits w = rw (f, w, part_length m s.part fits)

-- ---- the identifier

module _ (m : List ℕ) (s : Seen) (n : Name) where
  module _ (f : s.found ≡ false) where
    pub no_hardware : hlen m ≡ 0 → refused_request no_identifier ≡ identified_as (identifier4 m (data_of m 61 s)) n
    no_hardware h = rw (f, eq-eqb (hlen m) 0 h)

    pub by_hardware : (hlen m ≡ 0 → ⊥)
        → accepted_as (record { type = 0; head = record { start = 1; len = 1 }; rest = record { start = 28; len = hlen m } }) n ≡ identified_as (identifier4 m (data_of m 61 s)) n
    by_hardware h = rw (f, ne_eqb (hlen m) 0 h)

  module _ (f : s.found ≡ true) (fits : Inside m s.part) where
    pub by_duid : has_duid (data_at m 61 s.part) ≡ true
        → accepted_as (record { type = 2; head = no_part; rest = record { start = s.part.start + 5; len = s.part.len - 5 } }) n ≡ identified_as (identifier4 m (data_of m 61 s)) n
    by_duid d = rw (f, d, part_length m s.part fits)

    module _ (d : has_duid (data_at m 61 s.part) ≡ false) where
      pub too_short : s.part.len < 2 → refused_request no_identifier ≡ identified_as (identifier4 m (data_of m 61 s)) n
      too_short h = rw (f, d, part_length m s.part fits, lt-leb 2 s.part.len h)

      pub by_all : 2 ≤ s.part.len → accepted_as (record { type = 1; head = no_part; rest = s.part }) n ≡ identified_as (identifier4 m (data_of m 61 s)) n
      by_all h = rw (f, d, part_length m s.part fits, le-leb 2 s.part.len h)
