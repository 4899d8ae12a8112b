-- Whether 512 bytes say something is decided: a guess that the encoder tests. Assumes nothing.
use Prim.Native.Nat.{ℕ, zero, suc, ◌+◌, ◌-◌, ◌<◌, ◌^◌}
use mathlib.Core.Bool.{Bool, true, false, true≢false}
use mathlib.Core.Path.{◌≡◌, refl, sym, ap, ap₂, subst, ◌∙◌}
use mathlib.Core.List.{List, ◌∷◌, ◌++◌}
use mathlib.Core.Option.{Option, none, some, none-ne-some}
use native.Mathlib.Omega.{arith}
use lib.Dec.{eqb}
use lib.ListN.{length, take, drop, get_or, replicate}
use lib.Seq.{take_at, take-take, drop-drop, get_or-drop, get_or-take}
use borrow.Author.Tests.{eqb-true, eqb-false}
use Rattle.base.specs.Bytes.{eq_bytes, padded}
use Rattle.base.specs.Dhcid.{well_formed}
use Rattle.base.specs.Logic.{IfSome}
use Rattle.base.proofs.Lists.{drop_take}
use Rattle.base.proofs.Tests.{eq_bytes_true, eq_eq_bytes, by_ltb}
use Rattle.block.specs.Sealed.{sealed, IsSealed}
use Rattle.name.specs.Name.{Proper, canonical}
use Rattle.name.specs.ProperTest.{is_proper}
use Rattle.name.proofs.WireLaws.{passes_proper, fails_proper, proper_short}
use Rattle.slots.specs.Fields.{bare, there}
use Rattle.slots.specs.Form.{TableEntry, WellFormed, slot_bytes, flags, field}
use Rattle.slots.specs.Promise.{is_set}
use Rattle.slots.specs.SlotTests.{HeldName}
use Rattle.slots.proofs.FlagLaws.{flag_a, flag_aaaa, flag_dhcid}
use Rattle.slots.proofs.LaidLaws.{slot_sizes, slot_length, slot_name, flags_of, a_of, aaaa_of, dhcid_of}
use Rattle.table.specs.Steps.{find}
use Rattle.book.specs.Notes.{Note}
use Rattle.book.specs.Blocks.{kind, slot, block_bytes, Fit, Follows, Says}
use Rattle.book.proofs.BlockLaws.{length_held, block_body, body_rest, bare_padded, bare_length}

pub data Decided (P : Type 0) : Type 0 where
  holds : P → Decided P
  fails : (P → ⊥) → Decided P

-- ---- small decisions

same_bytes : (a b : List ℕ) → Decided (a ≡ b)
same_bytes a b = go (eq_bytes a b) refl
  where
    go : (t : Bool) → eq_bytes a b ≡ t → Decided (a ≡ b)
    go true e = Decided.holds (eq_bytes_true a b e)
    go false e = Decided.fails (λ h. true≢false (sym (eq_eq_bytes a b h) ∙ e))

same_number : (a b : ℕ) → Decided (a ≡ b)
same_number a b = go (eqb a b) refl
  where
    go : (t : Bool) → eqb a b ≡ t → Decided (a ≡ b)
    go true e = Decided.holds (eqb-true a b e)
    go false e = Decided.fails (λ h. eqb-false a b e h)

is_true : (b : Bool) → Decided (b ≡ true)
is_true true = Decided.holds refl
is_true false = Decided.fails (λ e. true≢false (sym e))

less : (a b : ℕ) → Decided (a < b)
less a b = by_ltb a b (λ l. Decided.holds l) (λ l. Decided.fails (λ m. omega (arith, l, m)))

if_some : {A : Type 0} {P : A → Type 0} → ((a : A) → Decided (P a)) → (o : Option A) → Decided (IfSome P o)
if_some d none = Decided.holds tt
if_some d (some a) = d a

proper : (n : List ℕ) → Decided (Proper n)
proper n = go (is_proper n) refl
  where
    go : (b : Bool) → is_proper n ≡ b → Decided (Proper n)
    go true e = Decided.holds (passes_proper n e)
    go false e = Decided.fails (fails_proper n e)

-- ---- a name, and an entry

held_name : (n : List ℕ) → Decided (HeldName n)
held_name n = go (proper n) (same_bytes (canonical n) n)
  where
    go : Decided (Proper n) → Decided (canonical n ≡ n) → Decided (HeldName n)
    go (Decided.holds p) (Decided.holds l) = Decided.holds (record { proper = p; lower = l })
    go (Decided.holds p) (Decided.fails l) = Decided.fails (λ h. l h.lower)
    go (Decided.fails p) l = Decided.fails (λ h. p h.proper)

well_formed_lem : (e : TableEntry) → Decided (WellFormed e)
well_formed_lem e =
    go (held_name e.name) (if_some (λ x. same_number (length x) 4) e.a) (if_some (λ x. same_number (length x) 16) e.aaaa) (if_some (λ x. is_true (well_formed x)) e.holder) (less 0 (flags e))
  where
    go : Decided (HeldName e.name) → Decided (IfSome (λ x. length x ≡ 4) e.a) → Decided (IfSome (λ x. length x ≡ 16) e.aaaa) → Decided (IfSome (λ x. well_formed x ≡ true) e.holder)
        → Decided (0 < flags e) → Decided (WellFormed e)
    go (Decided.holds n) (Decided.holds a) (Decided.holds b) (Decided.holds d) (Decided.holds s) =
        Decided.holds (record { proper = n.proper; lower = n.lower; a = a; aaaa = b; dhcid = d; some = s })
    go (Decided.fails n) a b d s = Decided.fails (λ w. n (record { proper = w.proper; lower = w.lower }))
    go (Decided.holds n) (Decided.fails a) b d s = Decided.fails (λ w. a w.a)
    go (Decided.holds n) (Decided.holds a) (Decided.fails b) d s = Decided.fails (λ w. b w.aaaa)
    go (Decided.holds n) (Decided.holds a) (Decided.holds b) (Decided.fails d) s = Decided.fails (λ w. d w.dhcid)
    go (Decided.holds n) (Decided.holds a) (Decided.holds b) (Decided.holds d) (Decided.fails s) = Decided.fails (λ w. s w.some)

fit : (c : Note) → Decided (Fit c)
fit (Note.gone n) = held_name n
fit (Note.stands e) = well_formed_lem e

follows : (c : Note) (t : List TableEntry) → Decided (Follows c t)
follows (Note.stands e) t = Decided.holds tt
follows (Note.gone n) t = go (find n t) refl
  where
    go : (o : Option TableEntry) → find n t ≡ o → Decided (Follows (Note.gone n) t)
    go none f = Decided.fails (λ h. none-ne-some h.0 (sym f ∙ h.1))
    go (some e) f = Decided.holds (e, f)

-- ---- the guess

given : Bool → List ℕ → Option (List ℕ)
given true x = some x
given false x = none

given_back : (size : ℕ) (o : Option (List ℕ)) → given (there o) (field size o) ≡ o
unfolding given
given_back size none = refl
given_back size (some x) = refl

guess_name : List ℕ → List ℕ
guess_name s = take (get_or s 0 0) (drop 1 s)

guess_entry : List ℕ → TableEntry
guess_entry s =
    record {
      name = guess_name s;
      a = given (is_set 1 (get_or s 256 0)) (take 4 (drop 257 s));
      aaaa = given (is_set 2 (get_or s 256 0)) (take 16 (drop 261 s));
      holder = given (is_set 4 (get_or s 256 0)) (take 35 (drop 277 s));
    }

entry_back : (e : TableEntry) → WellFormed e → guess_entry (slot_bytes e) ≡ e
unfolding guess_entry guess_name
entry_back e w =
    let s = slot_sizes e w in
    let name : take (get_or (slot_bytes e) 0 0) (drop 1 (slot_bytes e)) ≡ e.name = ap (λ (k : ℕ). take k (drop 1 (slot_bytes e))) (slot_length e w) ∙ slot_name e w in
    let a : given (is_set 1 (get_or (slot_bytes e) 256 0)) (take 4 (drop 257 (slot_bytes e))) ≡ e.a = ap₂ given (ap (is_set 1) (flags_of e s) ∙ flag_a e) (a_of e s) ∙ given_back 4 e.a in
    let aaaa : given (is_set 2 (get_or (slot_bytes e) 256 0)) (take 16 (drop 261 (slot_bytes e))) ≡ e.aaaa = ap₂ given (ap (is_set 2) (flags_of e s) ∙ flag_aaaa e) (aaaa_of e s) ∙ given_back 16 e.aaaa in
    let holder : given (is_set 4 (get_or (slot_bytes e) 256 0)) (take 35 (drop 277 (slot_bytes e))) ≡ e.holder = ap₂ given (ap (is_set 4) (flags_of e s) ∙ flag_dhcid e) (dhcid_of e s) ∙ given_back 35 e.holder in
    λ i. record { name = name i; a = a i; aaaa = aaaa i; holder = holder i }

name_back : (n : List ℕ) → HeldName n → guess_name (slot_bytes (bare n)) ≡ n
unfolding guess_name padded
name_back n h =
    let short = proper_short n h.proper in
    ap (λ (k : ℕ). take k (drop 1 (slot_bytes (bare n)))) (bare_length n)
    ∙ sym (take-take (length n) 255 (drop 1 (slot_bytes (bare n))) short)
    ∙ ap (take (length n)) (bare_padded n h)
    ∙ take_at n (replicate (255 - length n) 0) (length n) refl

-- what the bytes x could say, by the byte for the kind
guess_by : ℕ → List ℕ → Note
guess_by zero s = Note.gone (guess_name s)
guess_by (suc k) s = Note.stands (guess_entry s)

guess : List ℕ → Note
guess x = guess_by (get_or x 4 0) (take 312 (drop 5 x))

note_back : (c : Note) → Fit c → guess_by (kind c) (slot c) ≡ c
unfolding guess_by
note_back (Note.gone n) h = ap Note.gone (name_back n h)
note_back (Note.stands e) w = ap Note.stands (entry_back e w)

-- the kind and the slot stand at 4 and 5
pub block_rest : (i : ℕ) (c : Note) → Fit c → take 476 (drop 4 (block_bytes i c)) ≡ kind c ∷ slot c ++ replicate 163 0
block_rest i c f = sym (drop_take 4 480 (block_bytes i c)) ∙ ap (drop 4) (block_body i c f) ∙ body_rest i c

pub block_kind : (i : ℕ) (c : Note) → Fit c → get_or (block_bytes i c) 4 0 ≡ kind c
block_kind i c f =
    sym (get_or-drop 4 (block_bytes i c) 0 0) ∙ sym (get_or-take 476 (drop 4 (block_bytes i c)) 0 0 (omega arith)) ∙ ap (λ (l : List ℕ). get_or l 0 0) (block_rest i c f)

pub block_slot : (i : ℕ) (c : Note) → Fit c → take 312 (drop 5 (block_bytes i c)) ≡ slot c
block_slot i c f =
    ap (take 312) (sym (drop-drop 1 4 (block_bytes i c)))
    ∙ sym (take-take 312 475 (drop 1 (drop 4 (block_bytes i c))) (omega arith))
    ∙ ap (take 312) (sym (drop_take 1 476 (drop 4 (block_bytes i c))) ∙ ap (drop 1) (block_rest i c f))
    ∙ take_at (slot c) (replicate 163 0) 312 (length_held c f)

guess_back : (i : ℕ) (c : Note) → Fit c → guess (block_bytes i c) ≡ c
unfolding guess
guess_back i c f = ap₂ guess_by (block_kind i c f) (block_slot i c f) ∙ note_back c f

-- ---- whether the bytes x are block i and say something

pub says : (i : ℕ) (t : List TableEntry) (x : List ℕ) → Decided ((c : Note) × Says i t x c)
says i t x = go (less i (2 ^ 32)) (fit (guess x)) (same_bytes x (block_bytes i (guess x))) (follows (guess x) t)
  where
    own : (c : Note) → Says i t x c → guess x ≡ c
    own c s = ap guess s.bytes ∙ guess_back i c s.fit

    as_guess : (c : Note) → Says i t x c → Says i t x (guess x)
    as_guess c s = subst (Says i t x) (sym (own c s)) s

    go : Decided (i < 2 ^ 32) → Decided (Fit (guess x)) → Decided (x ≡ block_bytes i (guess x)) → Decided (Follows (guess x) t) → Decided ((c : Note) × Says i t x c)
    go (Decided.holds n) (Decided.holds f) (Decided.holds b) (Decided.holds s) = Decided.holds (guess x, record { number = n; fit = f; bytes = b; follows = s })
    go (Decided.fails n) f b s = Decided.fails (λ h. n h.1.number)
    go (Decided.holds n) (Decided.fails f) b s = Decided.fails (λ h. f (as_guess h.0 h.1).fit)
    go (Decided.holds n) (Decided.holds f) (Decided.fails b) s = Decided.fails (λ h. b (as_guess h.0 h.1).bytes)
    go (Decided.holds n) (Decided.holds f) (Decided.holds b) (Decided.fails s) = Decided.fails (λ h. s (as_guess h.0 h.1).follows)

pub is_sealed : (x : List ℕ) → Decided (IsSealed x)
unfolding IsSealed
is_sealed x = same_bytes x (sealed (take 480 x))

-- the name that stands in the slot of a name with nothing under it
pub bare_name : (n : List ℕ) → HeldName n → take (get_or (slot_bytes (bare n)) 0 0) (drop 1 (slot_bytes (bare n))) ≡ n
unfolding guess_name
bare_name n h = name_back n h
