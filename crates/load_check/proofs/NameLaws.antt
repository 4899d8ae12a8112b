-- How many names records have: one more where the owner of one more record is new. Assumes nothing.
use Prim.Native.Nat.{ℕ, ◌+◌, ◌≤◌, ◌<◌}
use mathlib.Core.Bool.{true, false}
use mathlib.Core.Path.{◌≡◌, refl, sym, ap, subst, ◌∙◌}
use mathlib.Core.Logic.{inl}
use mathlib.Core.List.{List, [], ◌∷◌, ◌++◌}
use native.Mathlib.Omega.{arith}
use lib.ListN.{length, take}
use Rattle.base.specs.Logic.{Every}
use Rattle.grammar.specs.Listing.{ResourceRecord}
use Rattle.entry.specs.Held.{empty_record}
use Rattle.entry.specs.declared.Entry.{Entry}
use Rattle.entry.specs.declared.Record.{Record}
use Rattle.name.proofs.WireLaws.{proper_some}
use Rattle.writer.specs.Line.{Holds}
use Rattle.writer.proofs.PlaceLaws.{name_in, name_held}
use Rattle.listing.specs.Giving.{end, Gives}
use Rattle.records.specs.Gathered.{owners}
use Rattle.records.proofs.OwnerLaws.{by_name, among, among_none, owners_none, owner_first, owner_later, owners_known, length_owners_new}
use Rattle.load_check.specs.Loading.{Entered, records}
use Rattle.load_check.specs.Walking.{Walked, Like, FirstLike, AddsNames}
use Rattle.load_check.proofs.ReachedLaws.{records_more, Reached, reached_none, reached_all, Turn, nothing, one}

-- ---- the owners, as far as records are of one

-- the owner of one of them is among them
known_name : (n : List ℕ) (a b : List Entered) (x : Entered) → x.«record».owner ≡ n → among n (owners (records (a ++ x ∷ b))) ≡ true
unfolding records
known_name n [] b x e = owner_first n x.«record» (records b) e
known_name n (y ∷ a) b x e =
    by_name y.«record».owner n (λ same. owner_first n y.«record» (records (a ++ x ∷ b)) same)
    (λ other. owner_later n y.«record» (records (a ++ x ∷ b)) other ∙ known_name n a b x e)

-- and that of none of them is not
new_name : (n : List ℕ) (es : List Entered) → Every (λ y. Like n 0 y → ⊥) es → among n (owners (records es)) ≡ false
unfolding records Like
new_name n [] Every.none = ap (among n) owners_none ∙ among_none n
new_name n (y ∷ es) (Every.more d h) = owner_later n y.«record» (records es) (λ same. d (same, inl refl)) ∙ new_name n es h

-- ---- one entry

-- no record has no owner
pub no_owner : (p : Record) → p ≡ empty_record → p.owner_len ≡ 0
unfolding empty_record
no_owner p h = ap (λ (q : Record). q.owner_len) h

pub has_owner : (p : Record) (q : ResourceRecord) → Holds p q → 1 ≤ length (name_in p)
has_owner p q h = omega (arith, ap length (name_held p q h.form), proper_some q.owner h.well_formed.proper)

module _ (t : List ℕ) (at : ℕ) (p : Record) where
  -- an owner of no bytes
  pub adds_nothing : p.owner_len ≡ 0 → AddsNames t at p 0
  adds_nothing empty =
      record {
        most = omega arith;
        nothing = λ h. refl;
        names = λ es q w h. absurd (omega (arith, has_owner p q h, ap (λ (n : ℕ). length (take n p.owner)) empty));
      }

  module _ (first : ℕ) (sought : (es : List Entered) → Walked t at 0 es → 1 ≤ length (name_in p) → FirstLike (name_in p) 0 at es first) where
    -- a record of that owner was found
    pub adds_none : first < at → AddsNames t at p 0
    unfolding Like
    adds_none before =
        record {
          most = omega arith;
          nothing = λ h. refl;
          names = λ es q w h. go es q h (sought es w (has_owner p q h));
        }
      where
        found_before : (es : List Entered) (q : ResourceRecord) → Holds p q → (r : ℕ) → r < at → FirstLike (name_in p) 0 at es r
            → length (owners (records es ++ q ∷ [])) ≡ length (owners (records es)) + 0
        found_before es q h r lt (FirstLike.found a b x cut other like low) =
            let known : among q.owner (owners (records es)) ≡ true =
            subst (λ (l : List Entered). among q.owner (owners (records l)) ≡ true) (sym cut) (known_name q.owner a b x (like.0 ∙ name_held p q h.form)) in
            omega (arith, ap length (owners_known (records es) q known))
        found_before es q h r lt (FirstLike.none other) = absurd (omega arith)

        go : (es : List Entered) (q : ResourceRecord) → Holds p q → FirstLike (name_in p) 0 at es first → length (owners (records es ++ q ∷ [])) ≡ length (owners (records es)) + 0
        go es q h f = found_before es q h first before f

    -- none was found
    pub adds_one : at ≤ first → (p.owner_len ≡ 0 → ⊥) → AddsNames t at p 1
    adds_one from some =
        record {
          most = omega arith;
          nothing = λ h. absurd (some (no_owner p h));
          names = λ es q w h. new es q h first from (sought es w (has_owner p q h));
        }
      where
        new : (es : List Entered) (q : ResourceRecord) → Holds p q → (r : ℕ) → at ≤ r → FirstLike (name_in p) 0 at es r
            → length (owners (records es ++ q ∷ [])) ≡ length (owners (records es)) + 1
        new es q h r le (FirstLike.found a b x cut other like low) = absurd (omega arith)
        new es q h r le (FirstLike.none other) =
            length_owners_new (records es) q (subst (λ (n : List ℕ). among n (owners (records es)) ≡ false) (name_held p q h.form) (new_name (name_in p) es other))

-- ---- all entries

-- count is how many names the records of the entries before the offset at have
pub record Counted (t : List ℕ) (rs : List ResourceRecord) (at count : ℕ) : Type 0 where
  pub seen : List Entered
  pub reached : Reached t rs seen at
  pub names : count ≡ length (owners (records seen))

pub counted_none : (t : List ℕ) (rs : List ResourceRecord) → Gives t 0 rs end → Counted t rs 0 0
unfolding records
counted_none t rs g = record { seen = []; reached = reached_none t rs g; names = sym (ap length owners_none) }

pub counted_more : (t : List ℕ) (rs : List ResourceRecord) (at count : ℕ) (d : Counted t rs at count) (e : Entry) → Turn t rs d.seen at e → (n : ℕ) → AddsNames t at e.«record» n
    → Counted t rs e.next (count + n)
counted_more t rs at count d e (nothing h next) n a = record { seen = d.seen; reached = next; names = omega (arith, d.names, a.nothing h) }
counted_more t rs at count d e (one r h next) n a =
    record {
      seen = d.seen ++ record { offset = at; «record» = r } ∷ [];
      reached = next;
      names =
          omega (arith, d.names, a.names d.seen r d.reached.walked h, ap (λ (l : List ResourceRecord). length (owners l)) (records_more d.seen (record { offset = at; «record» = r })));
    }

pub counted_all : (t : List ℕ) (rs : List ResourceRecord) (at count : ℕ) → Counted t rs at count → length t ≤ at → count ≡ length (owners rs)
counted_all t rs at count d done = d.names ∙ ap (λ (l : List ResourceRecord). length (owners l)) (sym (reached_all t rs d.seen at d.reached done))
