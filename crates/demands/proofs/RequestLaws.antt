-- Demand 1, of the calls on a request. Assumes nothing.
use Prim.Native.Nat.{ℕ, ◌+◌}
use mathlib.Core.Bool.{Bool, true, false}
use mathlib.Core.Path.{◌≡◌, refl, sym, ap, ap₂, subst, ◌∙◌}
use mathlib.Core.Logic.{inl, inr}
use mathlib.Core.List.{List}
use native.Mathlib.Omega.{arith}
use lib.Dec.{eqb}
use lib.ListN.{length}
use borrow.Author.Tests.{eqb-true, eqb-false}
use Rattle.base.specs.Order.{Test, AllHold, FirstFault}
use Rattle.base.specs.declared.Answer.{Answer}
use Rattle.base.proofs.Theorems.{one_fault, no_fault}
use Rattle.message.specs.Request.{identifier_bytes}
use Rattle.message.specs.declared.Request.{Request}
use Rattle.message4.proofs.Theorems.{one_reading4}
use Rattle.message6.proofs.Theorems.{one_reading6}
use Rattle.dhcid.specs.Chosen.{Says, Chooses, name_bytes, name_answer, Names, NameApart}
use Rattle.dhcid.specs.Dhcid.{WritesDhcid}
use Rattle.dhcid.specs.declared.Chosen.{Chosen}
use Rattle.dhcid.proofs.Theorems.{one_choice, name_apart}
use Rattle.dhcid.proofs.WritingLaws.{name_refused, name_chosen}
use Rattle.base.proofs.AnswerLaws.{accepted≢refused}
use Rattle.demands.specs.Faults.{NameFault, dhcid_tests, RoomFault, DhcidFault}
use Rattle.demands.specs.Demand1.{Refuses, Unchanged}
use Rattle.demands.proofs.AnswerLaws.{Judged, refuses}

-- a message says one thing
pub one_request : {family : ℕ} {m : List ℕ} {r q : Request} → Says family m r → Says family m q → r ≡ q
one_request {m = m} {r} {q} (Says.v4 h) (Says.v4 k) = one_reading4 m r q h k
one_request {m = m} {r} {q} (Says.v6 h) (Says.v6 k) = one_reading6 m r q h k

module _ (family setting : ℕ) (m site : List ℕ) where
  pub one_name_fault : {n k at p : ℕ} → NameFault family setting m site n at → NameFault family setting m site k p → (n ≡ k) × (at ≡ p)
  unfolding NameFault
  one_name_fault (c, h, n, nz, p) (d, j, k, kz, q) = (sym n ∙ ap (λ (e : Chosen). e.refusal) (one_choice family setting m site c d h j) ∙ k, p ∙ sym q)

  pub name_refuses : (a : Answer) → Names family setting m site a → Refuses (NameFault family setting m site) a
  unfolding NameFault Names
  name_refuses a (c, h, e) = refuses (go (eqb c.refusal 0) refl)
    where
      go : (b : Bool) → eqb c.refusal 0 ≡ b → Judged (NameFault family setting m site) a
      go true q =
          let z = eqb-true c.refusal 0 q in
          Judged.good _ (e ∙ sym (name_chosen c z)) (λ n at f. f.3 (sym f.2 ∙ ap (λ (d : Chosen). d.refusal) (one_choice family setting m site f.0 c f.1 h) ∙ z))
      go false q =
          let nz = eqb-false c.refusal 0 q in
          let f : NameFault family setting m site c.refusal 0 = (c, h, refl, nz, refl) in
          Judged.bad c.refusal 0 (e ∙ sym (name_refused c nz)) f (λ n at g. one_name_fault f g)

  -- and what C takes apart is the choice
  pub name_taken_apart : (a : Answer) → Names family setting m site a → (c : Chosen) → Chooses family setting m site c → NameApart a c
  unfolding Names
  name_taken_apart a (d, k, e) c h = subst (λ (b : Answer). NameApart b c) (sym (e ∙ ap name_answer (one_choice family setting m site d c k h))) (name_apart family setting m site c h)

  module _ (out : List ℕ) where
    tests : Request → Chosen → List Test
    tests r c = dhcid_tests (length (identifier_bytes m r) + length (name_bytes m site c)) (length out)

    -- the same tests, whoever reads the request
    same_tests : {r q : Request} {c d : Chosen} → Says family m r → Says family m q → Chooses family setting m site c → Chooses family setting m site d → tests r c ≡ tests q d
    same_tests {r} {q} {c} {d} s t h j = ap₂ tests (one_request s t) (one_choice family setting m site c d h j)

    one_dhcid_fault : {n k at p : ℕ} → DhcidFault family setting m site out n at → DhcidFault family setting m site out k p → (n ≡ k) × (at ≡ p)
    unfolding DhcidFault NameFault RoomFault tests
    one_dhcid_fault (inl f) (inl g) = one_name_fault f g
    one_dhcid_fault (inl (c, h, n, nz, p)) (inr (r, d, s, j, z, g)) = absurd (nz (sym n ∙ ap (λ (e : Chosen). e.refusal) (one_choice family setting m site c d h j) ∙ z))
    one_dhcid_fault (inr (r, d, s, j, z, g)) (inl (c, h, n, nz, p)) = absurd (nz (sym n ∙ ap (λ (e : Chosen). e.refusal) (one_choice family setting m site c d h j) ∙ z))
    one_dhcid_fault {n} {k} (inr (r, c, s, h, z, f)) (inr (q, d, t, j, w, g)) = (
      one_fault (tests q d) n k (subst (λ (ts : List Test). FirstFault ts n) (same_tests s t h j) f.0) g.0,
      f.1 ∙ sym g.1,
    )

    judged : {a : Answer} {left : List ℕ} → WritesDhcid family setting m site out a left → Judged (DhcidFault family setting m site out) a
    unfolding DhcidFault NameFault RoomFault tests
    judged (WritesDhcid.no_name {c} h nz) =
        let f : DhcidFault family setting m site out c.refusal 0 = inl (c, h, refl, nz, refl) in
        Judged.bad c.refusal 0 refl f (λ n at g. one_dhcid_fault f g)
    judged (WritesDhcid.too_much {r} {c} s h z long) =
        let f : DhcidFault family setting m site out 14 0 = inr (r, c, s, h, z, (inl (λ few. omega arith, refl), refl)) in
        Judged.bad 14 0 refl f (λ n at g. one_dhcid_fault f g)
    judged (WritesDhcid.no_room {r} {c} s h z few short) =
        let f : DhcidFault family setting m site out 13 0 = inr (r, c, s, h, z, (inr (few, inl (λ room. omega arith, refl)), refl)) in
        Judged.bad 13 0 refl f (λ n at g. one_dhcid_fault f g)
    judged (WritesDhcid.written {r} {c} s h z few room) = Judged.good 35 refl none
      where
        none : (n at : ℕ) → DhcidFault family setting m site out n at → ⊥
        none n at (inl (d, j, q, nz, p)) = nz (sym q ∙ ap (λ (e : Chosen). e.refusal) (one_choice family setting m site d c j h) ∙ z)
        none n at (inr (q, d, t, j, w, g)) = no_fault (tests q d) n (subst (λ (ts : List Test). AllHold ts) (same_tests s t h j) (few, (room, tt))) g.0

    pub dhcid_refuses : (a : Answer) (left : List ℕ) → WritesDhcid family setting m site out a left → Refuses (DhcidFault family setting m site out) a
    dhcid_refuses a left w = refuses (judged w)

    pub dhcid_unchanged : (a : Answer) (left : List ℕ) → WritesDhcid family setting m site out a left → Unchanged out left a
    unfolding Unchanged
    dhcid_unchanged a left (WritesDhcid.no_name h nz) n at e = refl
    dhcid_unchanged a left (WritesDhcid.too_much s h z long) n at e = refl
    dhcid_unchanged a left (WritesDhcid.no_room s h z few short) n at e = refl
    dhcid_unchanged a left (WritesDhcid.written s h z few room) n at e = absurd (accepted≢refused e)
