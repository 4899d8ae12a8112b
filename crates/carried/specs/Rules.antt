-- RFC 2136, section 3: what a server that serves one zone, of class IN, answers to an UPDATE message, and what is then left of the zone. The rules are whole
-- but for this: what the RFC says of CNAME, SOA, NS and WKS records (3.4.2.2 to 3.4.2.4) is left out, and so are permission (3.3), forwarding (3.1.2), and of
-- the types that 3.4.1.2 refuses those that are in no list of the RFC: later metatypes, and types that a server does not know. Data are compared byte by byte (1.1.1), names without regard to the case of letters (1.1.2). `served` is the zone's
-- name in canonical form. The additional section is not looked at.
use Rattle.std.specs.Prelude.{ℕ, Bool, true, false, cond, not, ◌&&◌, ◌||◌, ◌≡◌, List, [], ◌∷◌, eqb, leb}
use Rattle.base.specs.Bytes.{eq_bytes}
use Rattle.name.specs.Name.{canonical}
use Rattle.update.specs.Message.{ZoneEntry, ResourceRecord, Message, type_soa, type_any, class_in, class_none, class_any}
use Rattle.update.specs.Reading.{Reads}
use Rattle.update.specs.Reply.{done, name_in_use, set_stands, no_such_set}
use Rattle.carried.specs.Zone.{Zone, is_empty, in_use, set_at, with_record, without_those, in_zone}

-- ---- 2.2: the codes that none of our messages gets; the others are those of `update`

-- FORMERR
abbrev pub form_err : ℕ
form_err = 1

-- NXDOMAIN
abbrev pub nx_domain : ℕ
nx_domain = 3

-- NOTAUTH
abbrev pub not_auth : ℕ
not_auth = 9

-- NOTZONE
abbrev pub not_zone : ℕ
not_zone = 10

-- a code, and where it is NOERROR the next
abbrev pub then_code : ℕ → ℕ → ℕ
then_code c next = cond (eqb c done) next c

-- in section order: the first that is not NOERROR
unfoldable pub first_code : (ResourceRecord → ℕ) → List ResourceRecord → ℕ
first_code code [] = done
first_code code (r ∷ rs) = then_code (code r) (first_code code rs)

-- the owner of a record, as the zone has names
abbrev pub owner_of : ResourceRecord → List ℕ
owner_of r = canonical r.owner

-- ---- 3.1: the zone section

-- 3.1.1: one zone, of type SOA, else FORMERR. 3.1.2: the one that is served, with class IN, else NOTAUTH
abbrev pub zone_code : List ℕ → List ZoneEntry → ℕ
zone_code served [] = form_err
zone_code served (q ∷ []) = cond (eqb q.ztype type_soa) (cond (eq_bytes (canonical q.name) served && eqb q.class class_in) done not_auth) form_err
zone_code served (q ∷ r ∷ qs) = form_err

-- ---- 3.2: the prerequisites

-- 3.2.1: of class ANY. No data, else FORMERR; of type ANY (2.4.4) the name is in use, else NXDOMAIN; of another (2.4.1) it has such a record, else NXRRSET
unfoldable pub any_code : Zone → ResourceRecord → ℕ
any_code z r =
    cond (not (is_empty r.rdata)) form_err
    (cond (eqb r.rtype type_any) (cond (in_use (owner_of r) z) done nx_domain)
    (cond (is_empty (set_at (owner_of r) r.rtype z)) no_such_set done))

-- 3.2.2: of class NONE. No data, else FORMERR; of type ANY (2.4.5) the name is not in use, else YXDOMAIN; of another (2.4.3) it has no such record, else
-- YXRRSET
unfoldable pub none_code : Zone → ResourceRecord → ℕ
none_code z r =
    cond (not (is_empty r.rdata)) form_err
    (cond (eqb r.rtype type_any) (cond (in_use (owner_of r) z) name_in_use done)
    (cond (is_empty (set_at (owner_of r) r.rtype z)) done set_stands))

-- 3.2.5: one of them. Lifetime 0, else FORMERR; a name in the zone, else NOTZONE; then by its class. Those of class IN are compared when all have been gone
-- through (3.2.3); another class is FORMERR
unfoldable pub prerequisite_code : List ℕ → Zone → ResourceRecord → ℕ
prerequisite_code served z r =
    cond (not (eqb r.ttl 0)) form_err
    (cond (not (in_zone served r.owner)) not_zone
    (cond (eqb r.class class_any) (any_code z r)
    (cond (eqb r.class class_none) (none_code z r)
    (cond (eqb r.class class_in) done
    form_err))))

-- 3.2.5's temp<n, t>: the record set that those of class IN with that name and type make (2.4.2)
unfoldable pub set_in : List ℕ → ℕ → List ResourceRecord → List (List ℕ)
set_in n t [] = []
set_in n t (r ∷ rs) = cond (eqb r.class class_in && eq_bytes (owner_of r) n && eqb r.rtype t) (r.rdata ∷ set_in n t rs) (set_in n t rs)

unfoldable pub is_among : List ℕ → List (List ℕ) → Bool
is_among x [] = false
is_among x (y ∷ ys) = eq_bytes y x || is_among x ys

unfoldable pub all_among : List (List ℕ) → List (List ℕ) → Bool
all_among [] ys = true
all_among (x ∷ xs) ys = is_among x ys && all_among xs ys

-- 3.2.3: "same members, no more, no less"
abbrev pub same_set : List (List ℕ) → List (List ℕ) → Bool
same_set xs ys = all_among xs ys && all_among ys xs

-- 3.2.3: each set that the prerequisites ps of class IN make is the zone's; rs are those still to be looked at
unfoldable pub sets_match : Zone → List ResourceRecord → List ResourceRecord → Bool
sets_match z ps [] = true
sets_match z ps (r ∷ rs) =
    cond (eqb r.class class_in) (same_set (set_in (owner_of r) r.rtype ps) (set_at (owner_of r) r.rtype z) && sets_match z ps rs) (sets_match z ps rs)

-- 3.2.5: all of them, one by one, and then the sets, else NXRRSET
unfoldable pub prerequisites_code : List ℕ → Zone → List ResourceRecord → ℕ
prerequisites_code served z ps = then_code (first_code (prerequisite_code served z) ps) (cond (sets_match z ps ps) done no_such_set)

-- ---- 3.4.1: the prescan of the updates

-- AXFR, MAILB and MAILA are 252 to 254 (RFC 1035, 3.2.3)
abbrev pub is_meta : ℕ → Bool
is_meta t = leb 252 t && leb t 254

-- 3.4.1.3: one of them. A name in the zone, else NOTZONE. FORMERR is: of class IN a type that is ANY or one of those; of class ANY a lifetime, data, or one of
-- those types; of class NONE a lifetime, or a type that is ANY or one of those; another class
unfoldable pub update_code : List ℕ → ResourceRecord → ℕ
update_code served r =
    cond (not (in_zone served r.owner)) not_zone
    (cond (eqb r.class class_in) (cond (is_meta r.rtype || eqb r.rtype type_any) form_err done)
    (cond (eqb r.class class_any) (cond (not (eqb r.ttl 0) || not (is_empty r.rdata) || is_meta r.rtype) form_err done)
    (cond (eqb r.class class_none) (cond (not (eqb r.ttl 0) || is_meta r.rtype || eqb r.rtype type_any) form_err done)
    form_err)))

-- ---- 3.4.2: the updates

-- 3.4.2.2: of class IN (2.5.1) the record is added; where it stands already, it is replaced by itself
unfoldable pub with_added : ResourceRecord → Zone → Zone
with_added r z = cond (is_among r.rdata (set_at (owner_of r) r.rtype z)) z (with_record (owner_of r) (record { rtype = r.rtype; rdata = r.rdata }) z)

-- 3.4.2.3: of class ANY the records of that name and type are deleted (2.5.2), or of type ANY all of that name (2.5.3)
unfoldable pub without_set : ResourceRecord → Zone → Zone
without_set r z = without_those (owner_of r) (λ d. eqb r.rtype type_any || eqb d.rtype r.rtype) z

-- 3.4.2.4: of class NONE (2.5.4) the record of that name, type and data is deleted
unfoldable pub without_one : ResourceRecord → Zone → Zone
without_one r z = without_those (owner_of r) (λ d. eqb d.rtype r.rtype && eq_bytes d.rdata r.rdata) z

-- 3.4.2.7: one of them, by its class; the prescan has left no other
unfoldable pub updated : ResourceRecord → Zone → Zone
updated r z =
    cond (eqb r.class class_in) (with_added r z)
    (cond (eqb r.class class_any) (without_set r z)
    (cond (eqb r.class class_none) (without_one r z) z))

-- all of them, in section order
unfoldable pub all_updated : List ResourceRecord → Zone → Zone
all_updated [] z = z
all_updated (r ∷ rs) z = all_updated rs (updated r z)

-- ---- a message

-- the code, and the zone that is left
pub record Outcome : Type 0 where
  pub code : ℕ
  pub zone : Zone

-- the zone section, the prerequisites, the prescan: one after the other
unfoldable pub message_code : List ℕ → Message → Zone → ℕ
message_code served m z =
    then_code (zone_code served m.zones)
    (then_code (prerequisites_code served z m.prerequisites)
    (first_code (update_code served) m.updates))

-- and then, if the code is NOERROR, the updates; if not, the zone is left as it was
unfoldable pub carried_out : List ℕ → Message → Zone → Outcome
carried_out served m z = record { code = message_code served m z; zone = cond (eqb (message_code served m z) done) (all_updated m.updates z) z }

-- the bytes b came to o on the zone z: they are read as a message, and that was carried out
pub record Answers (served b : List ℕ) (z : Zone) (o : Outcome) : Type 0 where
  pub message : Message
  pub reads : Reads b message
  pub outcome : o ≡ carried_out served message z
