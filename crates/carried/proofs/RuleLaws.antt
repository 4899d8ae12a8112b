-- The rules on the records of our messages: what each prerequisite comes to by what stands at the name, and each update. Assumes nothing.
use Prim.Native.Nat.{ℕ}
use mathlib.Core.Bool.{Bool, true, false, cond, ◌&&◌, ◌||◌}
use mathlib.Core.Path.{◌≡◌, refl, sym, ap, ◌∙◌}
use mathlib.Core.List.{List, [], ◌∷◌}
use mathlib.Core.Option.{Option, none, some}
use lib.Dec.{eqb}
use borrow.Author.Tests.{eqb-true}
use Rattle.base.specs.Bytes.{eq_bytes}
use Rattle.base.proofs.Tests.{eq_bytes_true, eq_eq_bytes}
use Rattle.name.specs.Name.{canonical}
use Rattle.slots.specs.Promise.{is_address}
use Rattle.slots.specs.declared.Family.{Family}
use Rattle.slots.specs.declared.Family.TheVariants.{V4, V6}
use Rattle.update.specs.Message.{ResourceRecord, type_a, type_aaaa, type_dhcid, type_any}
use Rattle.update.specs.Reply.{done, name_in_use, set_stands, no_such_set}
use Rattle.update.specs.Updates.{address_record, name_not_in_use, set_is, no_set, added, set_deleted, record_deleted, update}
use Rattle.carried.specs.Holds.{listed}
use Rattle.carried.specs.Rules.{
  then_code,
  first_code,
  none_code,
  prerequisite_code,
  set_in,
  is_among,
  all_among,
  same_set,
  sets_match,
  prerequisites_code,
  is_meta,
  update_code,
  with_added,
  without_set,
  without_one,
  updated,
  Outcome,
  all_updated,
  message_code,
  carried_out,
}
use Rattle.carried.specs.Zone.{Datum, Zone, is_empty, in_use, set_at, with_record, without_those, in_zone}
use Rattle.carried.proofs.RecordLaws.{datum}

-- ---- codes one after the other

module _ (code : ResourceRecord → ℕ) where
  no_code : first_code code [] ≡ done
  unfolding first_code
  no_code = refl

  first_done : (r : ResourceRecord) (rs : List ResourceRecord) → code r ≡ done → first_code code (r ∷ rs) ≡ first_code code rs
  unfolding first_code
  first_done r rs h = rw h

  first_ends : (r : ResourceRecord) (rs : List ResourceRecord) (c : ℕ) → code r ≡ c → eqb c done ≡ false → first_code code (r ∷ rs) ≡ c
  unfolding first_code
  first_ends r rs c h s = rw (h, s)

-- ---- a set of just this value

one_value : (k d : List ℕ) (b : Bool) → eq_bytes k d ≡ b → same_set (d ∷ []) (k ∷ []) ≡ b
unfolding all_among is_among
one_value k d true s = let back : eq_bytes d k ≡ true = eq_eq_bytes d k (sym (eq_bytes_true k d s)) in rw (s, back)
one_value k d false s = rw s

just_this : (o : Option (List ℕ)) (d : List ℕ) → same_set (d ∷ []) (listed o) ≡ is_address o d
unfolding all_among is_among
just_this none d = refl
just_this (some k) d = one_value k d (eq_bytes k d) refl

and_true : (b : Bool) → (b && true) ≡ b
and_true true = refl
and_true false = refl

-- ---- the prerequisites of our messages, at a canonical name in the zone

module _ (served : List ℕ) (z : Zone) where
  refused_by : (ps : List ResourceRecord) (c : ℕ) → first_code (prerequisite_code served z) ps ≡ c → eqb c done ≡ false → prerequisites_code served z ps ≡ c
  unfolding prerequisites_code
  refused_by ps c h s = rw (h, s)

  decided_by : (ps : List ResourceRecord) (b : Bool) → first_code (prerequisite_code served z) ps ≡ done → sets_match z ps ps ≡ b
      → prerequisites_code served z ps ≡ cond b done no_such_set
  unfolding prerequisites_code
  decided_by ps b h s = rw (h, s)

  all_compared : (ps : List ResourceRecord) → sets_match z ps [] ≡ true
  unfolding sets_match
  all_compared ps = refl

  module _ (n : List ℕ) (inside : in_zone served n ≡ true) (lower : canonical n ≡ n) where
    -- 2.4.5
    not_in_use : prerequisite_code served z (name_not_in_use n) ≡ cond (in_use n z) name_in_use done
    unfolding prerequisite_code none_code
    not_in_use = rw (inside, lower)

    -- 2.4.3
    no_set_lem : (f : Family) → prerequisite_code served z (no_set n (address_record f)) ≡ cond (is_empty (set_at n (address_record f) z)) done set_stands
    unfolding prerequisite_code none_code
    no_set_lem V4 = rw (inside, lower)
    no_set_lem V6 = rw (inside, lower)

    -- 2.4.2: gone through, and compared
    gone_through : (k : ℕ) (d : List ℕ) → prerequisite_code served z (set_is n k d) ≡ done
    unfolding prerequisite_code
    gone_through k d = rw inside

    compared : (ps rs : List ResourceRecord) (k : ℕ) (d : List ℕ) (o : Option (List ℕ)) → set_in n k ps ≡ d ∷ [] → set_at n k z ≡ listed o
        → sets_match z ps (set_is n k d ∷ rs) ≡ (is_address o d && sets_match z ps rs)
    unfolding sets_match
    compared ps rs k d o want set = rw (lower, want, set, just_this o d)

    passed_over : (ps rs : List ResourceRecord) (k : ℕ) → sets_match z ps (no_set n k ∷ rs) ≡ sets_match z ps rs
    unfolding sets_match
    passed_over ps rs k = refl

    own : eq_bytes (canonical n) n ≡ true
    own = eq_eq_bytes (canonical n) n lower

    -- ---- the four

    pub add_first_code : (u : Bool) → in_use n z ≡ u → prerequisites_code served z (name_not_in_use n ∷ []) ≡ cond u name_in_use done
    add_first_code true s = refused_by _ name_in_use (first_ends _ _ [] name_in_use (not_in_use ∙ ap (λ (b : Bool). cond b name_in_use done) s) refl) refl
    add_first_code false s =
        decided_by (name_not_in_use n ∷ []) true (first_done _ (name_not_in_use n) [] (not_in_use ∙ ap (λ (b : Bool). cond b name_in_use done) s) ∙ no_code _)
        (passed_over (name_not_in_use n ∷ []) [] type_any ∙ all_compared (name_not_in_use n ∷ []))

    -- what a second remove asks besides the DHCID
    abbrev freed : List ResourceRecord
    freed = no_set n type_a ∷ no_set n type_aaaa ∷ []

    module _ (d : List ℕ) where
      -- an address stands: 7, whoever holds the name
      pub remove_second_a : is_empty (set_at n type_a z) ≡ false → prerequisites_code served z (set_is n type_dhcid d ∷ freed) ≡ set_stands
      remove_second_a s =
          refused_by (set_is n type_dhcid d ∷ freed) set_stands
          (first_done _ (set_is n type_dhcid d) freed (gone_through type_dhcid d)
          ∙ first_ends _ (no_set n type_a) (no_set n type_aaaa ∷ []) set_stands (no_set_lem V4 ∙ ap (λ (b : Bool). cond b done set_stands) s) refl) refl

      pub remove_second_aaaa : is_empty (set_at n type_a z) ≡ true → is_empty (set_at n type_aaaa z) ≡ false
          → prerequisites_code served z (set_is n type_dhcid d ∷ freed) ≡ set_stands
      remove_second_aaaa s u =
          refused_by (set_is n type_dhcid d ∷ freed) set_stands
          (first_done _ (set_is n type_dhcid d) freed (gone_through type_dhcid d)
          ∙ first_done _ (no_set n type_a) (no_set n type_aaaa ∷ []) (no_set_lem V4 ∙ ap (λ (b : Bool). cond b done set_stands) s)
          ∙ first_ends _ (no_set n type_aaaa) [] set_stands (no_set_lem V6 ∙ ap (λ (b : Bool). cond b done set_stands) u) refl) refl

    module _ (d : List ℕ) (h : Option (List ℕ)) (held : set_at n type_dhcid z ≡ listed h) where
      second_wants : set_in n type_dhcid (set_is n type_dhcid d ∷ []) ≡ d ∷ []
      unfolding set_in
      second_wants = rw own

      pub add_second_code : prerequisites_code served z (set_is n type_dhcid d ∷ []) ≡ cond (is_address h d) done no_such_set
      add_second_code =
          let ps : List ResourceRecord = set_is n type_dhcid d ∷ [] in
          decided_by ps (is_address h d) (first_done _ (set_is n type_dhcid d) [] (gone_through type_dhcid d) ∙ no_code _)
          (compared ps [] type_dhcid d h second_wants held ∙ ap (λ (b : Bool). is_address h d && b) (all_compared ps) ∙ and_true (is_address h d))

      wants_dhcid : (f : Family) (x : List ℕ) → set_in n type_dhcid (set_is n type_dhcid d ∷ set_is n (address_record f) x ∷ []) ≡ d ∷ []
      unfolding set_in
      wants_dhcid V4 x = rw own
      wants_dhcid V6 x = rw own

      wants_address : (f : Family) (x : List ℕ) → set_in n (address_record f) (set_is n type_dhcid d ∷ set_is n (address_record f) x ∷ []) ≡ x ∷ []
      unfolding set_in
      wants_address V4 x = rw own
      wants_address V6 x = rw own

      pub remove_first_code : (f : Family) (x : List ℕ) (o : Option (List ℕ)) → set_at n (address_record f) z ≡ listed o
          → prerequisites_code served z (set_is n type_dhcid d ∷ set_is n (address_record f) x ∷ []) ≡ cond (is_address h d && is_address o x) done no_such_set
      remove_first_code f x o set =
          let its : ResourceRecord = set_is n (address_record f) x in
          let ps : List ResourceRecord = set_is n type_dhcid d ∷ its ∷ [] in
          decided_by ps (is_address h d && is_address o x)
          (first_done _ (set_is n type_dhcid d) (its ∷ []) (gone_through type_dhcid d) ∙ first_done _ its [] (gone_through (address_record f) x) ∙ no_code _)
          (compared ps (its ∷ []) type_dhcid d h (wants_dhcid f x) held
          ∙ ap (λ (b : Bool). is_address h d && b)
          (compared ps [] (address_record f) x o (wants_address f x) set ∙ ap (λ (b : Bool). is_address o x && b) (all_compared ps) ∙ and_true (is_address o x)))

      last_wants : set_in n type_dhcid (set_is n type_dhcid d ∷ freed) ≡ d ∷ []
      unfolding set_in
      last_wants = rw own

      pub remove_second_free : is_empty (set_at n type_a z) ≡ true → is_empty (set_at n type_aaaa z) ≡ true
          → prerequisites_code served z (set_is n type_dhcid d ∷ freed) ≡ cond (is_address h d) done no_such_set
      remove_second_free s u =
          let ps : List ResourceRecord = set_is n type_dhcid d ∷ freed in
          decided_by ps (is_address h d)
          (first_done _ (set_is n type_dhcid d) freed (gone_through type_dhcid d)
          ∙ first_done _ (no_set n type_a) (no_set n type_aaaa ∷ []) (no_set_lem V4 ∙ ap (λ (b : Bool). cond b done set_stands) s)
          ∙ first_done _ (no_set n type_aaaa) [] (no_set_lem V6 ∙ ap (λ (b : Bool). cond b done set_stands) u) ∙ no_code _)
          (compared ps freed type_dhcid d h last_wants held
          ∙ ap (λ (b : Bool). is_address h d && b) (passed_over ps (no_set n type_aaaa ∷ []) type_a ∙ passed_over ps [] type_aaaa ∙ all_compared ps) ∙ and_true (is_address h d))

-- ---- the updates of our messages pass the prescan

-- a type that is neither ANY nor one of those that are no record's
abbrev pub Plain : ℕ → Type 0
Plain t = (is_meta t ≡ false) × (eqb t type_any ≡ false)

pub plain_address : (f : Family) → Plain (address_record f)
plain_address V4 = (refl, refl)
plain_address V6 = (refl, refl)

module _ (served n : List ℕ) (inside : in_zone served n ≡ true) (t : ℕ) (plain : Plain t) where
  pub add_scanned : (x : List ℕ) → update_code served (added n t x) ≡ done
  unfolding update_code
  add_scanned x = rw (inside, plain.0, plain.1)

  pub set_scanned : update_code served (set_deleted n t) ≡ done
  unfolding update_code
  set_scanned = rw (inside, plain.0)

  pub one_scanned : (x : List ℕ) → update_code served (record_deleted n t x) ≡ done
  unfolding update_code
  one_scanned x = rw (inside, plain.0, plain.1)

pub scanned_one : (served : List ℕ) (r : ResourceRecord) → update_code served r ≡ done → first_code (update_code served) (r ∷ []) ≡ done
scanned_one served r h = first_done _ r [] h ∙ no_code _

pub scanned_two : (served : List ℕ) (r s : ResourceRecord) → update_code served r ≡ done → update_code served s ≡ done
    → first_code (update_code served) (r ∷ s ∷ []) ≡ done
scanned_two served r s h k = first_done _ r (s ∷ []) h ∙ scanned_one served s k

-- ---- and do this

-- those that are picked out where a whole set goes, and where one record does
abbrev pub whole_set : ℕ → Datum → Bool
whole_set k d = eqb k type_any || eqb d.rtype k

abbrev pub this_one : ℕ → List ℕ → Datum → Bool
this_one k x d = eqb d.rtype k && eq_bytes d.rdata x

module _ (n : List ℕ) (lower : canonical n ≡ n) (z : Zone) (k : ℕ) where
  pub update_add : (x : List ℕ) → is_among x (set_at n k z) ≡ false → updated (added n k x) z ≡ with_record n (datum k x) z
  unfolding updated with_added
  update_add x free = rw (lower, free)

  pub update_set : updated (set_deleted n k) z ≡ without_those n (whole_set k) z
  unfolding updated without_set
  update_set = rw lower

  pub update_one : (x : List ℕ) → updated (record_deleted n k x) z ≡ without_those n (this_one k x) z
  unfolding updated without_one
  update_one x = rw lower

pub one_updated : (r : ResourceRecord) (z y : Zone) → updated r z ≡ y → all_updated (r ∷ []) z ≡ y
unfolding all_updated
one_updated r z y h = h

pub both_updated : (r s : ResourceRecord) (z y w : Zone) → updated r z ≡ y → updated s y ≡ w → all_updated (r ∷ s ∷ []) z ≡ w
unfolding all_updated
both_updated r s z y w h k = rw h k

pub none_among : (x : List ℕ) (l : List (List ℕ)) → l ≡ [] → is_among x l ≡ false
unfolding is_among
none_among x l e = rw e

-- ---- a message with the zone that is served, whose updates pass

abbrev pub out : ℕ → Zone → Outcome
out c z = record { code = c; zone = z }

then_done : (c : ℕ) → then_code c done ≡ c
then_done c = by (eqb c done) refl
  where
    by : (b : Bool) → eqb c done ≡ b → cond b done c ≡ c
    by true s = sym (eqb-true c done s)
    by false s = refl

module _ (served zone : List ℕ) (its : canonical zone ≡ served) (z : Zone) (i : ℕ) (ps us : List ResourceRecord)
    (scan : first_code (update_code served) us ≡ done) where
  code_is : (c : ℕ) → prerequisites_code served z ps ≡ c → message_code served (update i zone ps us) z ≡ c
  unfolding message_code
  code_is c h = rw (eq_eq_bytes (canonical zone) served its, h, scan) (then_done c)

  pub is_done : prerequisites_code served z ps ≡ done → carried_out served (update i zone ps us) z ≡ out done (all_updated us z)
  unfolding carried_out
  is_done h = rw (code_is done h)

  pub not_done : (c : ℕ) → prerequisites_code served z ps ≡ c → eqb c done ≡ false → carried_out served (update i zone ps us) z ≡ out c z
  unfolding carried_out
  not_done c h s = rw (code_is c h, s)
