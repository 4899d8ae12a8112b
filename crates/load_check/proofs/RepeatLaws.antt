-- Two records alike: one more record is like an earlier one, or no two are alike still. Assumes nothing.
use Prim.Native.Nat.{ℕ, ◌+◌, ◌≤◌, ◌<◌}
use mathlib.Core.Bool.{Bool, true, false}
use mathlib.Core.Path.{◌≡◌, refl, sym, ap, subst, subst₂, ◌∙◌}
use mathlib.Core.Logic.{◌⊎◌, inl, inr}
use mathlib.Core.List.{List, [], ◌∷◌, ◌++◌}
use native.Mathlib.Omega.{arith}
use lib.ListN.{length, take}
use Rattle.base.specs.Logic.{Every}
use Rattle.grammar.specs.Listing.{RecordType, ResourceRecord}
use Rattle.entry.specs.Held.{type_number, held}
use Rattle.entry.specs.declared.Entry.{Entry}
use Rattle.entry.specs.declared.Record.{Record}
use Rattle.entry.proofs.HeldLaws.{one_type}
use Rattle.writer.specs.Line.{Holds}
use Rattle.writer.proofs.PlaceLaws.{name_in, name_held}
use Rattle.listing.specs.Giving.{end, Gives}
use Rattle.records.specs.Gathered.{is_of, data_of, Single}
use Rattle.records.proofs.DataLaws.{is_of_lem, other_owner, other_type, data_none, data_other, data_one, data_not_one, length_data_append}
use Rattle.records.proofs.OwnerLaws.{by_name}
use Rattle.load_check.specs.Loading.{Entered, records, EntriesUpTo, FirstRepeat}
use Rattle.load_check.specs.Walking.{Walked, Like, FirstLike, FirstAlike}
use Rattle.load_check.specs.declared.Repeat.{Repeat}
use Rattle.load_check.proofs.NameLaws.{no_owner, has_owner}
use Rattle.load_check.proofs.ReachedLaws.{records_more, Reached, reached_none, reached_all, Turn, nothing, one}
use Rattle.load_check.proofs.WalkLaws.{walked_entries}

-- no type has the number 0
some_number : (k : RecordType) → type_number k ≡ 0 → ⊥
some_number RecordType.A e = omega arith
some_number RecordType.AAAA e = omega arith
some_number RecordType.DHCID e = omega arith

-- ---- no two alike

-- none of them has that owner and that type
not_alike : (n : List ℕ) (k : RecordType) (es : List Entered) → Every (λ y. Like n (type_number k) y → ⊥) es → data_of n k (records es) ≡ []
unfolding records Like
not_alike n k [] Every.none = data_none n k
not_alike n k (y ∷ es) (Every.more d h) = data_other n k y.«record» (records es) other ∙ not_alike n k es h
  where
    other : is_of n k y.«record» ≡ false
    other = by_name y.«record».owner n (λ same. other_type n k y.«record» (λ type. d (same, inr (ap type_number type)))) (λ differs. other_owner n k y.«record» differs)

pub single_none : Single (records [])
unfolding Single records
single_none n k = omega (arith, ap length (data_none n k))

single_more : (es : List Entered) (r : ResourceRecord) → Single (records es) → Every (λ y. Like r.owner (type_number r.rtype) y → ⊥) es → Single (records es ++ r ∷ [])
unfolding Single
single_more es r single other n k = go (is_of n k r) refl
  where
    go : (b : Bool) → is_of n k r ≡ b → length (data_of n k (records es ++ r ∷ [])) ≤ 1
    go true q =
        let of = is_of_lem n k r q in
        let none : data_of n k (records es) ≡ [] = (λ i. data_of (sym of.0 i) (sym of.1 i) (records es)) ∙ not_alike r.owner r.rtype es other in
        omega (arith, length_data_append n k (records es) (r ∷ []), ap length none, ap length (data_one n k r q))
    go false q = omega (arith, length_data_append n k (records es) (r ∷ []), ap length (data_not_one n k r q), single n k)

-- ---- one entry

module _ (t : List ℕ) (at : ℕ) (p : Record) where
  -- an owner of no bytes
  pub alike_nothing : p.owner_len ≡ 0 → FirstAlike t at p at
  alike_nothing empty = record { nothing = λ h. refl; alike = λ es q w h. absurd (no_length empty (has_owner p q h)) }
    where
      no_length : p.owner_len ≡ 0 → 1 ≤ length (name_in p) → ⊥
      no_length e some = omega (arith, ap (λ (n : ℕ). length (take n p.owner)) e)

  pub alike_sought : (first : ℕ) → (p.owner_len ≡ 0 → ⊥)
      → ((es : List Entered) → Walked t at 0 es → 1 ≤ length (name_in p) → FirstLike (name_in p) p.rtype at es first) → FirstAlike t at p first
  unfolding held
  alike_sought first some sought =
      record {
        nothing = λ h. absurd (some (no_owner p h));
        alike = λ es q w h. subst₂ (λ (n : List ℕ) (k : ℕ). FirstLike n k at es first) (name_held p q h.form) (type_held p q h) (sought es w (has_owner p q h));
      }
    where
      type_held : (p : Record) (q : ResourceRecord) → Holds p q → p.rtype ≡ type_number q.rtype
      type_held p q h = ap (λ (x : Record). x.rtype) h.form

-- ---- all entries

-- of the records of the entries before the offset at no two are alike
pub record Unrepeated (t : List ℕ) (rs : List ResourceRecord) (at : ℕ) : Type 0 where
  pub seen : List Entered
  pub reached : Reached t rs seen at
  pub single : Single (records seen)

pub unrepeated_none : (t : List ℕ) (rs : List ResourceRecord) → Gives t 0 rs end → Unrepeated t rs 0
unrepeated_none t rs g = record { seen = []; reached = reached_none t rs g; single = single_none }

module _ (t : List ℕ) (rs : List ResourceRecord) (at : ℕ) (d : Unrepeated t rs at) where
  -- an entry that is like an earlier one
  pub repeat_found : (e : Entry) → Turn t rs d.seen at e → (first : ℕ) → FirstAlike t at e.«record» first → first < at
      → FirstRepeat t (record { first = first; second = at; «record» = e.«record» })
  unfolding Like
  repeat_found e (nothing h next) first a before = absurd (omega (arith, a.nothing h))
  repeat_found e (one r h next) first a before = go first before (a.alike d.seen r d.reached.walked h)
    where
      go : (i : ℕ) → i < at → FirstLike r.owner (type_number r.rtype) at d.seen i → FirstRepeat t (record { first = i; second = at; «record» = e.«record» })
      go i lt (FirstLike.none other) = absurd (omega arith)
      go i lt (FirstLike.found a b x cut other like low) =
          record {
            before = a;
            earlier = x;
            between = b;
            later = record { offset = at; «record» = r };
            next = e.next;
            entries = subst (λ (l : List Entered). EntriesUpTo t e.next 0 (l ++ record { offset = at; «record» = r } ∷ [])) cut (walked_entries next.walked);
            single = subst (λ (l : List Entered). Single (records l)) cut d.single;
            owner = like.0;
            type = same_type like.1;
            first = refl;
            second = refl;
            held = h;
          }
        where
          same_type : (type_number r.rtype ≡ 0) ⊎ (type_number x.«record».rtype ≡ type_number r.rtype) → x.«record».rtype ≡ r.rtype
          same_type (inl none) = absurd (some_number r.rtype none)
          same_type (inr e) = one_type x.«record».rtype r.rtype e

  -- one that is not
  pub unrepeated_more : (e : Entry) → Turn t rs d.seen at e → (first : ℕ) → FirstAlike t at e.«record» first → at ≤ first → Unrepeated t rs e.next
  unrepeated_more e (nothing h next) first a from = record { seen = d.seen; reached = next; single = d.single }
  unrepeated_more e (one r h next) first a from = go first from (a.alike d.seen r d.reached.walked h)
    where
      go : (i : ℕ) → at ≤ i → FirstLike r.owner (type_number r.rtype) at d.seen i → Unrepeated t rs e.next
      go i le (FirstLike.found a b x cut other like low) = absurd (omega arith)
      go i le (FirstLike.none other) =
          record {
            seen = d.seen ++ record { offset = at; «record» = r } ∷ [];
            reached = next;
            single = subst Single (sym (records_more d.seen (record { offset = at; «record» = r }))) (single_more d.seen r d.single other);
          }

  -- at the end all records are single
  pub unrepeated_all : length t ≤ at → Single rs
  unrepeated_all done = subst Single (sym (reached_all t rs d.seen at d.reached done)) d.single
