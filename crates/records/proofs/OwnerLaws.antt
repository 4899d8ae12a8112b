-- The owners of records, each once, in the order of their first records. Assumes nothing.
use Prim.Native.Nat.{ℕ, ◌+◌, ◌≤◌, ◌<◌}
use mathlib.Core.Bool.{Bool, true, false, cond, true≢false}
use mathlib.Core.Path.{◌≡◌, refl, sym, ap, subst, ◌∙◌}
use mathlib.Core.List.{List, [], ◌∷◌, ◌++◌, append-nil}
use native.Mathlib.Omega.{arith}
use lib.ListN.{length, length-append}
use lib.Seq.{append_snoc}
use Rattle.base.specs.Bytes.{eq_bytes}
use Rattle.base.specs.Logic.{Every}
use Rattle.base.proofs.Tests.{eq_bytes_true, eq_eq_bytes, ne_eq_bytes}
use Rattle.grammar.specs.Listing.{RecordType, ResourceRecord}
use Rattle.slots.specs.Entry.{Distinct}
use Rattle.records.specs.Gathered.{data_of, except, owners}
use Rattle.records.proofs.DataLaws.{of_is, other_owner, data_none, data_same, data_other}

-- ---- a name among names

-- by whether two names are the same
pub by_name : {P : Type 0} (m n : List ℕ) → (m ≡ n → P) → ((m ≡ n → ⊥) → P) → P
by_name {P} m n f g = go (eq_bytes m n) refl
  where
    go : (t : Bool) → eq_bytes m n ≡ t → P
    go true e = f (eq_bytes_true m n e)
    go false e = g (λ same. true≢false (sym (eq_eq_bytes m n same) ∙ e))

unfoldable pub among : List ℕ → List (List ℕ) → Bool
among n [] = false
among n (m ∷ ns) = cond (eq_bytes m n) true (among n ns)

-- by whether a name is among names
pub by_among : {P : Type 0} (n : List ℕ) (ns : List (List ℕ)) → (among n ns ≡ true → P) → (among n ns ≡ false → P) → P
by_among {P} n ns f g = go (among n ns) refl
  where
    go : (t : Bool) → among n ns ≡ t → P
    go true e = f e
    go false e = g e

pub among_none : (n : List ℕ) → among n [] ≡ false
unfolding among
among_none n = refl

module _ (n m : List ℕ) (ns : List (List ℕ)) where
  pub among_same : m ≡ n → among n (m ∷ ns) ≡ true
  unfolding among
  among_same e = ap (λ (b : Bool). cond b true (among n ns)) (eq_eq_bytes m n e)

  pub among_other : (m ≡ n → ⊥) → among n (m ∷ ns) ≡ among n ns
  unfolding among
  among_other d = ap (λ (b : Bool). cond b true (among n ns)) (ne_eq_bytes m n d)

  -- a name that is not among them is not the first, nor among the rest
  pub not_first : among n (m ∷ ns) ≡ false → m ≡ n → ⊥
  not_first h e = true≢false (sym (among_same e) ∙ h)

  pub not_later : among n (m ∷ ns) ≡ false → among n ns ≡ false
  not_later h = sym (among_other (not_first h)) ∙ h

-- a name is not among names that all differ from it; and the other way round
pub apart_among : (n : List ℕ) (ns : List (List ℕ)) → Every (λ m. m ≡ n → ⊥) ns → among n ns ≡ false
apart_among n [] h = among_none n
apart_among n (m ∷ ns) (Every.more d h) = among_other n m ns d ∙ apart_among n ns h

pub among_apart : (n : List ℕ) (ns : List (List ℕ)) → among n ns ≡ false → Every (λ m. m ≡ n → ⊥) ns
among_apart n [] h = Every.none
among_apart n (m ∷ ns) h = Every.more (not_first n m ns h) (among_apart n ns (not_later n m ns h))

-- ---- names but for one

module _ (n : List ℕ) where
  pub except_none : except n [] ≡ []
  unfolding except
  except_none = refl

  module _ (m : List ℕ) (ns : List (List ℕ)) where
    pub except_same : m ≡ n → except n (m ∷ ns) ≡ except n ns
    unfolding except
    except_same e = ap (λ (b : Bool). cond b (except n ns) (m ∷ except n ns)) (eq_eq_bytes m n e)

    pub except_other : (m ≡ n → ⊥) → except n (m ∷ ns) ≡ m ∷ except n ns
    unfolding except
    except_other d = ap (λ (b : Bool). cond b (except n ns) (m ∷ except n ns)) (ne_eq_bytes m n d)

  pub except_append : (a b : List (List ℕ)) → except n (a ++ b) ≡ except n a ++ except n b
  unfolding except
  except_append [] b = refl
  except_append (m ∷ a) b =
      let ih = except_append a b in
      by_name m n
      (λ e. except_same m (a ++ b) e ∙ ih ∙ ap (λ (l : List (List ℕ)). l ++ except n b) (sym (except_same m a e)))
      (λ d. except_other m (a ++ b) d ∙ ap (◌∷◌ m) ih ∙ ap (λ (l : List (List ℕ)). l ++ except n b) (sym (except_other m a d)))

  -- what holds of each name holds of each that is left
  pub every_except : {P : List ℕ → Type 0} (ns : List (List ℕ)) → Every P ns → Every P (except n ns)
  every_except {P} [] h = subst (Every P) (sym except_none) Every.none
  every_except {P} (m ∷ ns) (Every.more p h) =
      let ih = every_except ns h in
      by_name m n (λ e. subst (Every P) (sym (except_same m ns e)) ih) (λ d. subst (Every P) (sym (except_other m ns d)) (Every.more p ih))

  -- the name itself is not left
  pub except_apart : (ns : List (List ℕ)) → Every (λ m. m ≡ n → ⊥) (except n ns)
  except_apart [] = subst (Every (λ m. m ≡ n → ⊥)) (sym except_none) Every.none
  except_apart (m ∷ ns) =
      let ih = except_apart ns in
      by_name m n (λ e. subst (Every (λ k. k ≡ n → ⊥)) (sym (except_same m ns e)) ih) (λ d. subst (Every (λ k. k ≡ n → ⊥)) (sym (except_other m ns d)) (Every.more d ih))

  -- another name is left if it was there
  pub except_among : (k : List ℕ) → (n ≡ k → ⊥) → (ns : List (List ℕ)) → among k (except n ns) ≡ among k ns
  except_among k apart [] = ap (among k) except_none
  except_among k apart (m ∷ ns) =
      let ih = except_among k apart ns in
      by_name m n
      (λ e. ap (among k) (except_same m ns e) ∙ ih ∙ sym (among_other k m ns (λ same. apart (sym e ∙ same))))
      (λ d. ap (among k) (except_other m ns d)
      ∙ by_name m k (λ same. among_same k m (except n ns) same ∙ sym (among_same k m ns same)) (λ differs. among_other k m (except n ns) differs ∙ ih ∙ sym (among_other k m ns differs)))

  -- where the name is not there, all are left
  pub except_all : (ns : List (List ℕ)) → Every (λ m. m ≡ n → ⊥) ns → except n ns ≡ ns
  except_all [] h = except_none
  except_all (m ∷ ns) (Every.more d h) = except_other m ns d ∙ ap (◌∷◌ m) (except_all ns h)

  pub except_twice : (ns : List (List ℕ)) → except n (except n ns) ≡ except n ns
  except_twice ns = except_all (except n ns) (except_apart ns)

  pub distinct_except : (ns : List (List ℕ)) → Distinct ns → Distinct (except n ns)
  distinct_except [] h = subst Distinct (sym except_none) Distinct.none
  distinct_except (m ∷ ns) (Distinct.more d h) =
      let ih = distinct_except ns h in
      by_name m n (λ e. subst Distinct (sym (except_same m ns e)) ih) (λ differs. subst Distinct (sym (except_other m ns differs)) (Distinct.more (every_except ns d) ih))

-- ---- the owners

pub owners_none : owners [] ≡ []
unfolding owners
owners_none = refl

pub owners_more : (r : ResourceRecord) (rs : List ResourceRecord) → owners (r ∷ rs) ≡ r.owner ∷ except r.owner (owners rs)
unfolding owners
owners_more r rs = refl

-- none stands twice
pub owners_distinct : (rs : List ResourceRecord) → Distinct (owners rs)
owners_distinct [] = subst Distinct (sym owners_none) Distinct.none
owners_distinct (r ∷ rs) =
    subst Distinct (sym (owners_more r rs)) (Distinct.more (except_apart r.owner (owners rs)) (distinct_except r.owner (owners rs) (owners_distinct rs)))

module _ (n : List ℕ) (r : ResourceRecord) (rs : List ResourceRecord) where
  pub owner_first : r.owner ≡ n → among n (owners (r ∷ rs)) ≡ true
  owner_first e = ap (among n) (owners_more r rs) ∙ among_same n r.owner (except r.owner (owners rs)) e

  pub owner_later : (r.owner ≡ n → ⊥) → among n (owners (r ∷ rs)) ≡ among n (owners rs)
  owner_later d = ap (among n) (owners_more r rs) ∙ among_other n r.owner (except r.owner (owners rs)) d ∙ except_among r.owner n d (owners rs)

  -- no owner of them all: not of the first, nor of the rest
  pub not_owner : among n (owners (r ∷ rs)) ≡ false → r.owner ≡ n → ⊥
  not_owner h e = true≢false (sym (owner_first e) ∙ h)

  pub not_owner_later : among n (owners (r ∷ rs)) ≡ false → among n (owners rs) ≡ false
  not_owner_later h = sym (owner_later (not_owner h)) ∙ h

-- ---- one record more, at the end

-- the names `before` and then the name n: it is known, and they stay as they are; or it is new, and stands last
pub data Joined (n : List ℕ) (before after : List (List ℕ)) : Type 0 where
  known : among n before ≡ true → after ≡ before → Joined n before after
  new : among n before ≡ false → after ≡ before ++ n ∷ [] → Joined n before after

module _ (s r : ResourceRecord) (a : List ResourceRecord) where
  -- where the first record has that owner, all of the rest but for that owner are as before
  still_except : s.owner ≡ r.owner → Joined r.owner (owners a) (owners (a ++ r ∷ [])) → except s.owner (owners (a ++ r ∷ [])) ≡ except s.owner (owners a)
  still_except e (Joined.known h k) = ap (except s.owner) k
  still_except e (Joined.new h k) =
      ap (except s.owner) k ∙ except_append s.owner (owners a) (r.owner ∷ [])
      ∙ ap (λ (l : List (List ℕ)). except s.owner (owners a) ++ l) (except_same s.owner r.owner [] (sym e) ∙ except_none s.owner) ∙ append-nil (except s.owner (owners a))

  joined_same : s.owner ≡ r.owner → Joined r.owner (owners a) (owners (a ++ r ∷ [])) → Joined r.owner (owners (s ∷ a)) (owners (s ∷ a ++ r ∷ []))
  joined_same e j =
      Joined.known (owner_first r.owner s a e) (owners_more s (a ++ r ∷ []) ∙ ap (◌∷◌ s.owner) (still_except e j) ∙ sym (owners_more s a))

  joined_other : (s.owner ≡ r.owner → ⊥) → Joined r.owner (owners a) (owners (a ++ r ∷ [])) → Joined r.owner (owners (s ∷ a)) (owners (s ∷ a ++ r ∷ []))
  joined_other d (Joined.known h k) =
      Joined.known (owner_later r.owner s a d ∙ h) (owners_more s (a ++ r ∷ []) ∙ ap (λ (l : List (List ℕ)). s.owner ∷ except s.owner l) k ∙ sym (owners_more s a))
  joined_other d (Joined.new h k) =
      Joined.new (owner_later r.owner s a d ∙ h)
      (owners_more s (a ++ r ∷ []) ∙ ap (λ (l : List (List ℕ)). s.owner ∷ except s.owner l) k
      ∙ ap (◌∷◌ s.owner) (except_append s.owner (owners a) (r.owner ∷ [])
      ∙ ap (λ (l : List (List ℕ)). except s.owner (owners a) ++ l) (except_other s.owner r.owner [] (λ e. d (sym e)) ∙ ap (◌∷◌ r.owner) (except_none s.owner)))
      ∙ ap (λ (l : List (List ℕ)). l ++ r.owner ∷ []) (sym (owners_more s a)))

pub one_owner : (r : ResourceRecord) → owners (r ∷ []) ≡ r.owner ∷ []
one_owner r = owners_more r [] ∙ ap (λ (l : List (List ℕ)). r.owner ∷ except r.owner l) owners_none ∙ ap (◌∷◌ r.owner) (except_none r.owner)

pub joined : (a : List ResourceRecord) (r : ResourceRecord) → Joined r.owner (owners a) (owners (a ++ r ∷ []))
joined [] r = Joined.new (ap (among r.owner) owners_none ∙ among_none r.owner) (one_owner r ∙ ap (λ (l : List (List ℕ)). l ++ r.owner ∷ []) (sym owners_none))
joined (s ∷ a) r = let ih = joined a r in by_name s.owner r.owner (λ e. joined_same s r a e ih) (λ d. joined_other s r a d ih)

module _ (a : List ResourceRecord) (r : ResourceRecord) where
  pub owners_known : among r.owner (owners a) ≡ true → owners (a ++ r ∷ []) ≡ owners a
  owners_known h = go (joined a r)
    where
      go : Joined r.owner (owners a) (owners (a ++ r ∷ [])) → owners (a ++ r ∷ []) ≡ owners a
      go (Joined.known k e) = e
      go (Joined.new k e) = absurd (true≢false (sym h ∙ k))

  pub owners_new : among r.owner (owners a) ≡ false → owners (a ++ r ∷ []) ≡ owners a ++ r.owner ∷ []
  owners_new h = go (joined a r)
    where
      go : Joined r.owner (owners a) (owners (a ++ r ∷ [])) → owners (a ++ r ∷ []) ≡ owners a ++ r.owner ∷ []
      go (Joined.known k e) = absurd (true≢false (sym k ∙ h))
      go (Joined.new k e) = e

  -- one more, if it is new
  pub length_owners_new : among r.owner (owners a) ≡ false → length (owners (a ++ r ∷ [])) ≡ length (owners a) + 1
  length_owners_new h = ap length (owners_new h) ∙ length-append (owners a) (r.owner ∷ [])

  one_no_fewer : length (owners a) ≤ length (owners (a ++ r ∷ []))
  one_no_fewer = by_among r.owner (owners a) (λ h. omega (arith, ap length (owners_known h))) (λ h. omega (arith, length_owners_new h))

-- more records have no fewer owners
pub owners_no_fewer : (a b : List ResourceRecord) → length (owners a) ≤ length (owners (a ++ b))
owners_no_fewer a [] = omega (arith, ap (λ (l : List ResourceRecord). length (owners l)) (append-nil a))
owners_no_fewer a (r ∷ b) =
    let on : length (owners (a ++ r ∷ [])) ≤ length (owners (a ++ r ∷ [] ++ b)) = owners_no_fewer (a ++ r ∷ []) b in
    omega (arith, one_no_fewer a r, ap (λ (l : List ResourceRecord). length (owners l)) (append_snoc a r b))

-- and more of them, if one is new
pub owners_more_by_new : (a : List ResourceRecord) (r : ResourceRecord) (b : List ResourceRecord) → among r.owner (owners a) ≡ false → length (owners a) < length (owners (a ++ r ∷ b))
owners_more_by_new a r b h =
    omega (arith, length_owners_new a r h, owners_no_fewer (a ++ r ∷ []) b, ap (λ (l : List ResourceRecord). length (owners l)) (append_snoc a r b))

-- ---- owners and data

-- a name that is no owner has no data
pub no_data : (n : List ℕ) (k : RecordType) (rs : List ResourceRecord) → among n (owners rs) ≡ false → data_of n k rs ≡ []
no_data n k [] h = data_none n k
no_data n k (r ∷ rs) h = data_other n k r rs (other_owner n k r (not_owner n r rs h)) ∙ no_data n k rs (not_owner_later n r rs h)

-- an owner has data of some type
unfoldable pub Owns : List ℕ → List ResourceRecord → Type 0
Owns n rs = (k : RecordType) × (1 ≤ length (data_of n k rs))

pub owns_first : (n : List ℕ) (r : ResourceRecord) (rs : List ResourceRecord) → r.owner ≡ n → Owns n (r ∷ rs)
unfolding Owns
owns_first n r rs e = (r.rtype, omega (arith, ap length (data_same n r.rtype r rs (of_is n r.rtype r e refl))))

owns_later : (n : List ℕ) (r : ResourceRecord) (rs : List ResourceRecord) → (r.owner ≡ n → ⊥) → Owns n rs → Owns n (r ∷ rs)
unfolding Owns
owns_later n r rs d (k, h) = (k, omega (arith, ap length (data_other n k r rs (other_owner n k r d))))

pub owns : (n : List ℕ) (rs : List ResourceRecord) → among n (owners rs) ≡ true → Owns n rs
owns n [] h = absurd (true≢false (sym h ∙ ap (among n) owners_none ∙ among_none n))
owns n (r ∷ rs) h =
    by_name r.owner n (λ e. owns_first n r rs e) (λ d. owns_later n r rs d (owns n rs (sym (owner_later n r rs d) ∙ h)))
