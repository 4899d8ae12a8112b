-- The messages that the calls write fit, so that they are read as what they are: what the calls test is enough. Assumes nothing.
use Prim.Native.Nat.{ℕ, ◌<◌}
use mathlib.Core.Bool.{true}
use mathlib.Core.Path.{◌≡◌}
use mathlib.Core.List.{List}
use native.Mathlib.Omega.{arith}
use lib.ListN.{length}
use Rattle.base.specs.Dhcid.{well_formed}
use Rattle.base.specs.Logic.{Every}
use Rattle.base.proofs.DhcidLaws.{dhcid_length}
use Rattle.base.proofs.Lists.{every_by}
use Rattle.name.specs.Name.{Proper, canonical}
use Rattle.name.proofs.Theorems.{canonical_form}
use Rattle.name.proofs.WireLaws.{proper_short}
use Rattle.slots.specs.Entry.{family_of, address_size}
use Rattle.slots.specs.declared.Family.{Family}
use Rattle.slots.specs.declared.Family.TheVariants.{V4, V6}
use Rattle.update.specs.Calls.{InZone, called, called_last}
use Rattle.update.specs.Message.{ResourceRecord}
use Rattle.update.specs.Reading.{Uncompressed, ZoneFits, RecordFits, Fits}
use Rattle.update.specs.Updates.{address_record, the_zone, update, add_first, add_second, remove_first, remove_second, of_kind}
use Rattle.update.specs.declared.Kind.{Kind}
use Rattle.update.specs.declared.Kind.TheVariants.{AddFirst, AddSecond, RemoveFirst}

uncompressed : (n : List ℕ) → Proper n → Uncompressed n
uncompressed n p = record { labels = p.labels; each = every_by (λ l h. (h.some, h.short)) p.name.labels; form = p.form; short = proper_short n p }

small_address : (f : Family) (x : List ℕ) → length x ≡ address_size f → length x < 65536
small_address V4 x e = omega arith
small_address V6 x e = omega arith

small_type : (f : Family) → address_record f < 65536
small_type V4 = omega arith
small_type V6 = omega arith

module _ (id : ℕ) (z n d : List ℕ) (small : id < 65536) (zone : Uncompressed z) (owner : Uncompressed n) (short : length d < 65536) where
  fit : (t c l : ℕ) (y : List ℕ) → t < 65536 → c < 65536 → l < 4294967296 → length y < 65536
      → RecordFits (record { owner = n; rtype = t; class = c; ttl = l; rdata = y })
  fit t c l y ht hc hl hy = record { owner = owner; rtype = ht; class = hc; ttl = hl; rdata = hy }

  zone_fits : ZoneFits (the_zone z)
  zone_fits = record { name = zone; ztype = omega arith; class = omega arith }

  fits : (ps us : List ResourceRecord) → Every RecordFits ps → Every RecordFits us → length ps < 65536 → length us < 65536 → Fits (update id z ps us)
  fits ps us hp hu np nu = record {
    id = small;
    zones = Every.more zone_fits Every.none;
    prerequisites = hp;
    updates = hu;
    additional = Every.none;
    zone_count = omega arith;
    prerequisite_count = np;
    update_count = nu;
    additional_count = omega arith;
  }

  pub kind_fits : (k : Kind) (t : ℕ) (x : List ℕ) → t < 65536 → length x < 65536 → Fits (of_kind k id z n d t x)
  unfolding add_first add_second remove_first
  kind_fits AddFirst t x ht hx =
      fits _ _ (Every.more (fit _ _ _ _ (omega arith) (omega arith) (omega arith) (omega arith)) Every.none)
      (Every.more (fit _ _ _ _ ht (omega arith) (omega arith) hx) (Every.more (fit _ _ _ _ (omega arith) (omega arith) (omega arith) short) Every.none)) (omega arith) (omega arith)
  kind_fits AddSecond t x ht hx =
      fits _ _ (Every.more (fit _ _ _ _ (omega arith) (omega arith) (omega arith) short) Every.none)
      (Every.more (fit _ _ _ _ ht (omega arith) (omega arith) (omega arith)) (Every.more (fit _ _ _ _ ht (omega arith) (omega arith) hx) Every.none)) (omega arith) (omega arith)
  kind_fits RemoveFirst t x ht hx =
      fits _ _ (Every.more (fit _ _ _ _ (omega arith) (omega arith) (omega arith) short) (Every.more (fit _ _ _ _ ht (omega arith) (omega arith) hx) Every.none))
      (Every.more (fit _ _ _ _ ht (omega arith) (omega arith) hx) Every.none) (omega arith) (omega arith)

  pub second_fits : Fits (remove_second id z n d)
  unfolding remove_second
  second_fits =
      fits _ _
      (Every.more (fit _ _ _ _ (omega arith) (omega arith) (omega arith) short)
      (Every.more (fit _ _ _ _ (omega arith) (omega arith) (omega arith) (omega arith)) (Every.more (fit _ _ _ _ (omega arith) (omega arith) (omega arith) (omega arith)) Every.none)))
      (Every.more (fit _ _ _ _ (omega arith) (omega arith) (omega arith) short) Every.none) (omega arith) (omega arith)

-- ---- from what the calls test

module _ (id : ℕ) (z n d : List ℕ) (small : id < 65536) (inside : InZone n z) (good : well_formed d ≡ true) where
  in_canonical : (m : List ℕ) → Proper m → Uncompressed (canonical m)
  in_canonical m p = uncompressed (canonical m) (canonical_form m p).proper

  short_dhcid : length d < 65536
  short_dhcid = omega (arith, dhcid_length d good)

  pub called_fits : (k : Kind) (family : ℕ) (x : List ℕ) → length x ≡ address_size (family_of family) → Fits (called k id z n d family x)
  called_fits k family x size =
      kind_fits id (canonical z) (canonical n) d small (in_canonical z inside.zone) (in_canonical n inside.name) short_dhcid k (address_record (family_of family)) x
      (small_type (family_of family)) (small_address (family_of family) x size)

  pub last_fits : Fits (called_last id z n d)
  last_fits = second_fits id (canonical z) (canonical n) d small (in_canonical z inside.zone) (in_canonical n inside.name) short_dhcid
