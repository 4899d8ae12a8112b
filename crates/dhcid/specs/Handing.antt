-- A name that is handed on as a part of a slice, uncopied. Document 01, "Names" and "Language forms and where they go" (docs/RULES.md, 3.4 and 10).
-- A slice is told by the place in memory where it begins, a block and an offset, and by its bytes.
use Rattle.std.specs.Prelude.{ℕ, ◌+◌, Bool, true, false, ◌≡◌, List}
use Rattle.std.specs.Borrow.{Bor}
use Rattle.message.specs.Request.{bytes_of}
use Rattle.message.specs.declared.Part.{Part}
use Rattle.dhcid.specs.Chosen.{name_bytes}
use Rattle.dhcid.specs.declared.Chosen.{Chosen}

-- the place in memory n bytes into the slice s
abbrev pub place_in : Bor (List ℕ) → ℕ → ℕ × ℕ
place_in s n = (s.ref_ptr.0, n + s.ref_ptr.1)

-- the slice r is the part p of the slice s, where it stands
pub record PartOf (s : Bor (List ℕ)) (p : Part) (r : Bor (List ℕ)) : Type 0 where
  pub bytes : r.now ≡ bytes_of s.now p
  pub uncopied : r.ref_ptr ≡ place_in s p.start

-- the slice of which the chosen name is a part
abbrev pub source : Bool → Bor (List ℕ) → Bor (List ℕ) → Bor (List ℕ)
source true message site = site
source false message site = message

-- the slice r is the chosen name, where it stands; no bytes where none is chosen
pub record HandsOn (message site : Bor (List ℕ)) (c : Chosen) (r : Bor (List ℕ)) : Type 0 where
  pub bytes : r.now ≡ name_bytes message.now site.now c
  pub uncopied : r.ref_ptr ≡ place_in (source c.from_site message site) c.part.start
