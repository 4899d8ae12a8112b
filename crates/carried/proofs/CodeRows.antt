-- Rows, computed: each form and each code of RFC 2136's rules. Assumes nothing.
use Prim.Native.Nat.{ℕ}
use mathlib.Core.Bool.{true, false}
use mathlib.Core.Path.{◌≡◌, refl}
use mathlib.Core.List.{List, [], ◌∷◌, ◌++◌}
use lib.ListN.{replicate}
use Rattle.base.specs.Bytes.{ascii, eq_bytes}
use Rattle.name.specs.Label.{lower, is_upper}
use Rattle.name.specs.Name.{wire, canonical}
use Rattle.update.specs.Message.{ZoneEntry, ResourceRecord, type_a, type_soa, type_aaaa, type_dhcid, type_any, class_in, class_none, class_any}
use Rattle.update.specs.Reply.{done, name_in_use, set_stands, no_such_set}
use Rattle.update.specs.Updates.{name_not_in_use, set_is, no_set, added, set_deleted, record_deleted, the_zone, add_first, add_second, remove_first, remove_second}
use Rattle.carried.specs.Rules.{
  form_err,
  nx_domain,
  not_auth,
  not_zone,
  first_code,
  any_code,
  none_code,
  prerequisite_code,
  set_in,
  is_among,
  all_among,
  sets_match,
  prerequisites_code,
  update_code,
  with_added,
  without_set,
  without_one,
  updated,
  all_updated,
  Outcome,
  message_code,
  carried_out,
}
use Rattle.carried.specs.Zone.{Datum, Zone, records_at, of_type, in_use, set_at, with_record, less_those, without_those, ends_in, in_zone}
use Rattle.carried.proofs.RecordLaws.{datum}
use Rattle.carried.proofs.ZoneLaws.{node}
use Rattle.carried.proofs.RuleLaws.{out}

-- ---- the zone, and what is asked of it

abbrev zone : List ℕ
zone = wire (ascii "zone" ∷ [])

-- two names that are in use, the first in either case, one that is not, and one that is not in the zone
abbrev a : List ℕ
a = wire (ascii "a" ∷ ascii "zone" ∷ [])

abbrev upper_a : List ℕ
upper_a = wire (ascii "A" ∷ ascii "Zone" ∷ [])

abbrev b : List ℕ
b = wire (ascii "b" ∷ ascii "zone" ∷ [])

abbrev new : List ℕ
new = wire (ascii "new" ∷ ascii "zone" ∷ [])

abbrev outside : List ℕ
outside = wire (ascii "a" ∷ ascii "zones" ∷ [])

-- a has two A and a DHCID, b an AAAA
abbrev held : Zone
held = node a (datum type_a (5 ∷ []) ∷ datum type_dhcid (9 ∷ []) ∷ datum type_a (6 ∷ []) ∷ []) ∷ node b (datum type_aaaa (7 ∷ []) ∷ []) ∷ []

abbrev rr : List ℕ → ℕ → ℕ → ℕ → List ℕ → ResourceRecord
rr n t c l d = record { owner = n; rtype = t; class = c; ttl = l; rdata = d }

abbrev done_with : List ZoneEntry → List ResourceRecord → List ResourceRecord → Outcome
done_with zs ps us = carried_out zone (record { id = 7; zones = zs; prerequisites = ps; updates = us; additional = [] }) held

abbrev named : List ZoneEntry → ℕ
named zs = (done_with zs [] []).code

abbrev asked : List ResourceRecord → ℕ
asked ps = (done_with (the_zone zone ∷ []) ps []).code

abbrev told : List ResourceRecord → ℕ
told us = (done_with (the_zone zone ∷ []) [] us).code

abbrev left : List ResourceRecord → Zone
left us = (done_with (the_zone zone ∷ []) [] us).zone

-- 2.4.1 and 2.4.4: a set of that type stands, the name is in use
abbrev some_set : List ℕ → ℕ → ResourceRecord
some_set n t = rr n t class_any 0 []

abbrev name_is_in_use : List ℕ → ResourceRecord
name_is_in_use n = rr n type_any class_any 0 []

-- 2.5.3: all sets of the name are deleted
abbrev all_deleted : List ℕ → ResourceRecord
all_deleted n = rr n type_any class_any 0 []

-- ---- 3.1

-- no zone, two, one not of type SOA; another zone, not of type SOA either; another zone, another class; the zone in either case
pub zone_rows : named [] ∷ named (the_zone zone ∷ the_zone zone ∷ []) ∷ named (record { name = zone; ztype = type_a; class = class_in } ∷ [])
    ∷ named (record { name = a; ztype = type_a; class = class_in } ∷ []) ∷ named (the_zone a ∷ [])
    ∷ named (record { name = zone; ztype = type_soa; class = 3 } ∷ []) ∷ named (the_zone zone ∷ []) ∷ named (the_zone (wire (ascii "ZONE" ∷ [])) ∷ [])
    ∷ []
    ≡ form_err ∷ form_err ∷ form_err ∷ form_err ∷ not_auth ∷ not_auth ∷ done ∷ done ∷ []
unfolding ascii wire canonical lower is_upper eq_bytes carried_out message_code prerequisites_code first_code sets_match all_updated
zone_rows = refl

-- ---- 3.2

-- a lifetime that is not 0, of each class; a name outside the zone; both; another class, and that with a name outside
pub first_rows : asked (rr a type_a class_in 1 (5 ∷ []) ∷ []) ∷ asked (rr a type_a class_any 1 [] ∷ []) ∷ asked (rr a type_aaaa class_none 1 [] ∷ [])
    ∷ asked (set_is outside type_a (5 ∷ []) ∷ []) ∷ asked (name_not_in_use outside ∷ []) ∷ asked (rr outside type_any class_none 1 [] ∷ [])
    ∷ asked (rr a type_a 3 0 [] ∷ []) ∷ asked (rr outside type_a 3 0 [] ∷ []) ∷ []
    ≡ form_err ∷ form_err ∷ form_err ∷ not_zone ∷ not_zone ∷ form_err ∷ form_err ∷ not_zone ∷ []
unfolding ascii wire canonical lower is_upper eq_bytes ends_in in_zone records_at of_type in_use set_at carried_out message_code prerequisites_code first_code prerequisite_code any_code none_code set_in is_among all_among sets_match all_updated
first_rows = refl

-- class ANY: with data; a name in use, in either case, and one that is not; a set that stands, one that does not, and one of a name that is not in use
pub any_rows : asked (rr a type_any class_any 0 (5 ∷ []) ∷ []) ∷ asked (rr a type_a class_any 0 (5 ∷ []) ∷ []) ∷ asked (name_is_in_use a ∷ [])
    ∷ asked (name_is_in_use upper_a ∷ []) ∷ asked (name_is_in_use new ∷ []) ∷ asked (some_set a type_a ∷ []) ∷ asked (some_set a type_aaaa ∷ [])
    ∷ asked (some_set new type_a ∷ []) ∷ []
    ≡ form_err ∷ form_err ∷ done ∷ done ∷ nx_domain ∷ done ∷ no_such_set ∷ no_such_set ∷ []
unfolding ascii wire canonical lower is_upper eq_bytes ends_in in_zone records_at of_type in_use set_at carried_out message_code prerequisites_code first_code prerequisite_code any_code sets_match all_updated
any_rows = refl

-- class NONE: the same
pub none_rows : asked (rr new type_any class_none 0 (5 ∷ []) ∷ []) ∷ asked (rr new type_a class_none 0 (5 ∷ []) ∷ []) ∷ asked (name_not_in_use a ∷ [])
    ∷ asked (name_not_in_use upper_a ∷ []) ∷ asked (name_not_in_use new ∷ []) ∷ asked (no_set a type_a ∷ []) ∷ asked (no_set a type_aaaa ∷ [])
    ∷ asked (no_set new type_a ∷ []) ∷ []
    ≡ form_err ∷ form_err ∷ name_in_use ∷ name_in_use ∷ done ∷ set_stands ∷ done ∷ done ∷ []
unfolding ascii wire canonical lower is_upper eq_bytes ends_in in_zone records_at of_type in_use set_at carried_out message_code prerequisites_code first_code prerequisite_code none_code sets_match all_updated
none_rows = refl

-- class IN, as sets: just these; in another order, one of them twice, and one owner in upper case; one too few, one too many, another value; a set that does
-- not stand, at a name in use and at one that is not; two sets, and one of two that is another
pub set_rows : asked (set_is a type_a (5 ∷ []) ∷ set_is a type_a (6 ∷ []) ∷ [])
    ∷ asked (set_is upper_a type_a (6 ∷ []) ∷ set_is a type_a (5 ∷ []) ∷ set_is a type_a (6 ∷ []) ∷ []) ∷ asked (set_is a type_a (5 ∷ []) ∷ [])
    ∷ asked (set_is b type_aaaa (7 ∷ []) ∷ set_is b type_aaaa (8 ∷ []) ∷ []) ∷ asked (set_is b type_aaaa (8 ∷ []) ∷ [])
    ∷ asked (set_is b type_a (7 ∷ []) ∷ []) ∷ asked (set_is new type_a (7 ∷ []) ∷ [])
    ∷ asked (set_is a type_dhcid (9 ∷ []) ∷ set_is b type_aaaa (7 ∷ []) ∷ []) ∷ asked (set_is a type_dhcid (9 ∷ []) ∷ set_is b type_aaaa (9 ∷ []) ∷ []) ∷ []
    ≡ done ∷ done ∷ no_such_set ∷ no_such_set ∷ no_such_set ∷ no_such_set ∷ no_such_set ∷ done ∷ no_such_set ∷ []
unfolding ascii wire canonical lower is_upper eq_bytes ends_in in_zone records_at of_type set_at carried_out message_code prerequisites_code first_code prerequisite_code set_in is_among all_among sets_match all_updated
set_rows = refl

-- in section order, and those of class IN last: of a second remove where the DHCID is another's and an A stands
pub order_rows : asked (name_not_in_use a ∷ no_set a type_a ∷ []) ∷ asked (no_set a type_a ∷ name_not_in_use a ∷ [])
    ∷ asked (set_is outside type_a [] ∷ rr a type_a class_in 1 [] ∷ []) ∷ asked (rr a type_a class_in 1 [] ∷ set_is outside type_a [] ∷ [])
    ∷ asked (set_is a type_dhcid (8 ∷ []) ∷ no_set a type_a ∷ no_set a type_aaaa ∷ []) ∷ asked (set_is a type_dhcid (8 ∷ []) ∷ rr a type_a 3 0 [] ∷ []) ∷ []
    ≡ name_in_use ∷ set_stands ∷ not_zone ∷ form_err ∷ set_stands ∷ form_err ∷ []
unfolding ascii wire canonical lower is_upper eq_bytes ends_in in_zone records_at of_type in_use set_at carried_out message_code prerequisites_code first_code prerequisite_code none_code set_in is_among all_among sets_match all_updated
order_rows = refl

-- ---- 3.4.1

-- a name outside the zone; class IN of type ANY, AXFR, MAILB and MAILA; class ANY with a lifetime, with data, of type AXFR; class NONE with a lifetime, of
-- type ANY and MAILA; another class, and that with a name outside
pub scan_rows : told (added outside type_a (5 ∷ []) ∷ []) ∷ told (added a type_any [] ∷ []) ∷ told (added a 252 [] ∷ []) ∷ told (added a 253 [] ∷ [])
    ∷ told (added a 254 [] ∷ []) ∷ told (rr a type_a class_any 1 [] ∷ []) ∷ told (rr a type_a class_any 0 (5 ∷ []) ∷ []) ∷ told (set_deleted a 252 ∷ [])
    ∷ told (rr a type_a class_none 1 (5 ∷ []) ∷ []) ∷ told (record_deleted a type_any [] ∷ []) ∷ told (record_deleted a 254 [] ∷ [])
    ∷ told (rr a type_a 3 0 [] ∷ []) ∷ told (rr outside type_a 3 0 [] ∷ []) ∷ []
    ≡ not_zone ∷ form_err ∷ form_err ∷ form_err ∷ form_err ∷ form_err ∷ form_err ∷ form_err ∷ form_err ∷ form_err ∷ form_err ∷ form_err ∷ not_zone ∷ []
unfolding ascii wire canonical lower is_upper eq_bytes ends_in in_zone carried_out message_code prerequisites_code first_code update_code sets_match
scan_rows = refl

-- the four forms pass; and with one that does not, in section order, nothing is changed
pub prescan_rows : told (added a type_a (5 ∷ []) ∷ set_deleted a type_a ∷ all_deleted a ∷ record_deleted a type_a (5 ∷ []) ∷ [])
    ∷ told (added a type_a (4 ∷ []) ∷ added outside type_a [] ∷ added a type_any [] ∷ [])
    ∷ told (all_deleted a ∷ added a type_any [] ∷ added outside type_a [] ∷ []) ∷ []
    ≡ done ∷ not_zone ∷ form_err ∷ []
unfolding ascii wire canonical lower is_upper eq_bytes ends_in in_zone carried_out message_code prerequisites_code first_code update_code sets_match
prescan_rows = refl

pub unchanged_rows : left (added a type_a (4 ∷ []) ∷ added outside type_a [] ∷ []) ∷ left (all_deleted a ∷ added a type_any [] ∷ []) ∷ []
    ≡ held ∷ held ∷ []
unfolding ascii wire canonical lower is_upper eq_bytes ends_in in_zone carried_out message_code prerequisites_code first_code update_code sets_match
unchanged_rows = refl

-- the zone section before the prerequisites, and these before the prescan
pub section_rows : (done_with [] (name_not_in_use a ∷ []) (added outside type_a [] ∷ [])).code ∷ (done_with (the_zone a ∷ []) (name_not_in_use a ∷ []) []).code
    ∷ (done_with (the_zone zone ∷ []) (name_not_in_use a ∷ []) (added outside type_a [] ∷ [])).code
    ∷ (done_with (the_zone zone ∷ []) (set_is a type_a (5 ∷ []) ∷ []) (added a type_any [] ∷ [])).code ∷ []
    ≡ form_err ∷ not_auth ∷ name_in_use ∷ no_such_set ∷ []
unfolding ascii wire canonical lower is_upper eq_bytes ends_in in_zone records_at of_type in_use set_at carried_out message_code prerequisites_code first_code prerequisite_code none_code set_in is_among all_among sets_match update_code
section_rows = refl

-- ---- 3.4.2

-- added: one that stands; one more, at the first of two names, which keeps its place, also in upper case, and at the last; one of another type with the same
-- data; a new name, which stands last
pub add_rows : left (added a type_a (5 ∷ []) ∷ []) ∷ left (added a type_a (4 ∷ []) ∷ []) ∷ left (added upper_a type_a (4 ∷ []) ∷ [])
    ∷ left (added b type_aaaa (8 ∷ []) ∷ []) ∷ left (added b type_a (7 ∷ []) ∷ []) ∷ left (added new type_a (5 ∷ []) ∷ []) ∷ []
    ≡ held
    ∷ (node a (datum type_a (5 ∷ []) ∷ datum type_dhcid (9 ∷ []) ∷ datum type_a (6 ∷ []) ∷ datum type_a (4 ∷ []) ∷ []) ∷ node b (datum type_aaaa (7 ∷ []) ∷ []) ∷ [])
    ∷ (node a (datum type_a (5 ∷ []) ∷ datum type_dhcid (9 ∷ []) ∷ datum type_a (6 ∷ []) ∷ datum type_a (4 ∷ []) ∷ []) ∷ node b (datum type_aaaa (7 ∷ []) ∷ []) ∷ [])
    ∷ (node a (datum type_a (5 ∷ []) ∷ datum type_dhcid (9 ∷ []) ∷ datum type_a (6 ∷ []) ∷ []) ∷ node b (datum type_aaaa (7 ∷ []) ∷ datum type_aaaa (8 ∷ []) ∷ []) ∷ [])
    ∷ (node a (datum type_a (5 ∷ []) ∷ datum type_dhcid (9 ∷ []) ∷ datum type_a (6 ∷ []) ∷ []) ∷ node b (datum type_aaaa (7 ∷ []) ∷ datum type_a (7 ∷ []) ∷ []) ∷ [])
    ∷ (held ++ node new (datum type_a (5 ∷ []) ∷ []) ∷ []) ∷ []
unfolding ascii wire canonical lower is_upper eq_bytes ends_in in_zone records_at of_type set_at with_record carried_out message_code prerequisites_code first_code update_code sets_match is_among with_added updated all_updated
add_rows = refl

-- deleted: a set, one of a type that does not stand, all of a name, in upper case too; the only set of a name, which is then not in use; a name that is not in use
pub delete_rows : left (set_deleted a type_a ∷ []) ∷ left (set_deleted a type_aaaa ∷ []) ∷ left (all_deleted a ∷ []) ∷ left (all_deleted upper_a ∷ [])
    ∷ left (set_deleted b type_aaaa ∷ []) ∷ left (all_deleted new ∷ []) ∷ []
    ≡ (node a (datum type_dhcid (9 ∷ []) ∷ []) ∷ node b (datum type_aaaa (7 ∷ []) ∷ []) ∷ []) ∷ held ∷ (node b (datum type_aaaa (7 ∷ []) ∷ []) ∷ [])
    ∷ (node b (datum type_aaaa (7 ∷ []) ∷ []) ∷ []) ∷ (node a (datum type_a (5 ∷ []) ∷ datum type_dhcid (9 ∷ []) ∷ datum type_a (6 ∷ []) ∷ []) ∷ [])
    ∷ held ∷ []
unfolding ascii wire canonical lower is_upper eq_bytes ends_in in_zone less_those without_those carried_out message_code prerequisites_code first_code update_code sets_match without_set updated all_updated
delete_rows = refl

-- one record, and the other of its set stays; one whose data are another type's; one that does not stand; the last of a name, which is then not in use
pub one_rows : left (record_deleted a type_a (5 ∷ []) ∷ []) ∷ left (record_deleted a type_a (9 ∷ []) ∷ []) ∷ left (record_deleted a type_a (4 ∷ []) ∷ [])
    ∷ left (record_deleted b type_aaaa (7 ∷ []) ∷ []) ∷ []
    ≡ (node a (datum type_dhcid (9 ∷ []) ∷ datum type_a (6 ∷ []) ∷ []) ∷ node b (datum type_aaaa (7 ∷ []) ∷ []) ∷ []) ∷ held ∷ held
    ∷ (node a (datum type_a (5 ∷ []) ∷ datum type_dhcid (9 ∷ []) ∷ datum type_a (6 ∷ []) ∷ []) ∷ []) ∷ []
unfolding ascii wire canonical lower is_upper eq_bytes ends_in in_zone less_those without_those carried_out message_code prerequisites_code first_code update_code sets_match without_one updated all_updated
one_rows = refl

-- in section order: a record added and then its set deleted, and the other way round; a name that goes and comes again stands last
pub sequence_rows : left (added b type_aaaa (8 ∷ []) ∷ set_deleted b type_aaaa ∷ []) ∷ left (set_deleted b type_aaaa ∷ added b type_aaaa (8 ∷ []) ∷ [])
    ∷ left (all_deleted a ∷ added a type_a (5 ∷ []) ∷ []) ∷ []
    ≡ (node a (datum type_a (5 ∷ []) ∷ datum type_dhcid (9 ∷ []) ∷ datum type_a (6 ∷ []) ∷ []) ∷ [])
    ∷ (node a (datum type_a (5 ∷ []) ∷ datum type_dhcid (9 ∷ []) ∷ datum type_a (6 ∷ []) ∷ []) ∷ node b (datum type_aaaa (8 ∷ []) ∷ []) ∷ [])
    ∷ (node b (datum type_aaaa (7 ∷ []) ∷ []) ∷ node a (datum type_a (5 ∷ []) ∷ []) ∷ []) ∷ []
unfolding ascii wire canonical lower is_upper eq_bytes ends_in in_zone records_at of_type set_at with_record less_those without_those carried_out message_code prerequisites_code first_code update_code sets_match is_among with_added without_set updated all_updated
sequence_rows = refl

-- ---- 1.2

-- the zone's own name, a name below it, one beside it, one above it; every name is below the root; last labels, not last bytes: a label of 50 bytes, `a0` and
-- 48 times `x`, ends in the bytes of one of 48, whose length is the code of `0`
pub name_rows : in_zone zone zone ∷ in_zone zone upper_a ∷ in_zone zone outside ∷ in_zone a zone ∷ in_zone (0 ∷ []) a
    ∷ in_zone (48 ∷ replicate 48 120 ++ zone) (50 ∷ 97 ∷ 48 ∷ replicate 48 120 ++ zone) ∷ in_zone zone (50 ∷ 97 ∷ 48 ∷ replicate 48 120 ++ zone) ∷ []
    ≡ true ∷ true ∷ false ∷ false ∷ true ∷ false ∷ true ∷ []
unfolding ascii wire canonical lower is_upper eq_bytes ends_in in_zone
name_rows = refl

-- ---- the four messages, for the address 5 of the client 9

abbrev one_name : List Datum → Zone
one_name ds = node a ds ∷ []

-- the first add where the name is not in use, and where it is; the second by this client, by another, and where the name is kept by hand
pub message_rows : carried_out zone (add_first 7 zone a (9 ∷ []) type_a (5 ∷ [])) []
    ∷ carried_out zone (add_first 7 zone a (9 ∷ []) type_a (5 ∷ [])) (one_name (datum type_aaaa (6 ∷ []) ∷ []))
    ∷ carried_out zone (add_second 7 zone a (9 ∷ []) type_a (5 ∷ [])) (one_name (datum type_a (4 ∷ []) ∷ datum type_dhcid (9 ∷ []) ∷ datum type_aaaa (6 ∷ []) ∷ []))
    ∷ carried_out zone (add_second 7 zone a (9 ∷ []) type_a (5 ∷ [])) (one_name (datum type_dhcid (8 ∷ []) ∷ []))
    ∷ carried_out zone (add_second 7 zone a (9 ∷ []) type_a (5 ∷ [])) (one_name (datum type_a (5 ∷ []) ∷ [])) ∷ []
    ≡ out done (one_name (datum type_a (5 ∷ []) ∷ datum type_dhcid (9 ∷ []) ∷ [])) ∷ out name_in_use (one_name (datum type_aaaa (6 ∷ []) ∷ []))
    ∷ out done (one_name (datum type_dhcid (9 ∷ []) ∷ datum type_aaaa (6 ∷ []) ∷ datum type_a (5 ∷ []) ∷ []))
    ∷ out no_such_set (one_name (datum type_dhcid (8 ∷ []) ∷ [])) ∷ out no_such_set (one_name (datum type_a (5 ∷ []) ∷ [])) ∷ []
unfolding ascii wire canonical lower is_upper eq_bytes ends_in in_zone records_at of_type in_use set_at with_record less_those without_those carried_out message_code prerequisites_code first_code prerequisite_code none_code set_in is_among all_among sets_match update_code with_added without_set updated all_updated add_first add_second
message_rows = refl

-- the first remove where that address stands, and where another does; the second where nothing else is left, where an AAAA stands, where a TXT does, and again
pub remove_rows : carried_out zone (remove_first 7 zone a (9 ∷ []) type_a (5 ∷ [])) (one_name (datum type_a (5 ∷ []) ∷ datum type_dhcid (9 ∷ []) ∷ []))
    ∷ carried_out zone (remove_first 7 zone a (9 ∷ []) type_a (5 ∷ [])) (one_name (datum type_a (4 ∷ []) ∷ datum type_dhcid (9 ∷ []) ∷ []))
    ∷ carried_out zone (remove_second 7 zone a (9 ∷ [])) (one_name (datum type_dhcid (9 ∷ []) ∷ []))
    ∷ carried_out zone (remove_second 7 zone a (9 ∷ [])) (one_name (datum type_dhcid (9 ∷ []) ∷ datum type_aaaa (6 ∷ []) ∷ []))
    ∷ carried_out zone (remove_second 7 zone a (9 ∷ [])) (one_name (datum type_dhcid (9 ∷ []) ∷ datum 16 (3 ∷ []) ∷ []))
    ∷ carried_out zone (remove_second 7 zone a (9 ∷ [])) [] ∷ []
    ≡ out done (one_name (datum type_dhcid (9 ∷ []) ∷ [])) ∷ out no_such_set (one_name (datum type_a (4 ∷ []) ∷ datum type_dhcid (9 ∷ []) ∷ []))
    ∷ out done [] ∷ out set_stands (one_name (datum type_dhcid (9 ∷ []) ∷ datum type_aaaa (6 ∷ []) ∷ [])) ∷ out done (one_name (datum 16 (3 ∷ []) ∷ []))
    ∷ out no_such_set [] ∷ []
unfolding ascii wire canonical lower is_upper eq_bytes ends_in in_zone records_at of_type in_use set_at less_those without_those carried_out message_code prerequisites_code first_code prerequisite_code none_code set_in is_among all_among sets_match update_code without_one updated all_updated remove_first remove_second
remove_rows = refl
