-- The choice of a name: the functions of specs/Choosing.antt against what specs/Chosen.antt says. Assumes nothing.
use Prim.Native.Nat.{ℕ, ◌≤◌}
use mathlib.Core.Bool.{Bool, true, false, ◌&&◌, true≢false}
use mathlib.Core.Path.{◌≡◌, refl, sym, ap, subst, ◌∙◌}
use mathlib.Core.Logic.{inr}
use mathlib.Core.List.{List}
use native.Mathlib.Omega.{arith}
use lib.Dec.{eqb}
use lib.ListN.{length}
use lib.Seq.{take-length}
use borrow.Author.Tests.{eqb-true, eqb-false, eq-eqb, ne_eqb}
use Rattle.base.specs.Family.{KnownFamily}
use Rattle.base.specs.Logic.{Decides}
use Rattle.base.specs.Refusal.{no_proper_name, unknown_setting}
use Rattle.base.proofs.Tests.{and_left, and_right}
use Rattle.name.specs.Name.{Proper}
use Rattle.name.specs.ProperTest.{is_proper}
use Rattle.name.proofs.WireLaws.{proper_short, proper_passes, passes_proper, fails_proper}
use Rattle.message.specs.Request.{bytes_of, Inside, refused_request}
use Rattle.message.specs.declared.Request.{Request}
use Rattle.message.proofs.PartLaws.{part_length}
use Rattle.dhcid.specs.Chosen.{KnownSetting, Says, no_choice, from_message, from_site, UsesClients, Chooses, among, name_bytes}
use Rattle.dhcid.specs.Choosing.{is_known, said, uses_clients, by_site, chosen_for, choose}
use Rattle.dhcid.specs.declared.Chosen.{Chosen}
use Rattle.dhcid.proofs.SaysLaws.{known, is_known_lem, says_said, said_says, said_unknown, placed}

-- ---- the test of a proper name

-- what decides "proper" is this test
pub same_test : (n : List ℕ) (b : Bool) → Decides b (Proper n) → b ≡ is_proper n
same_test n true d = sym (proper_passes n (d.if_true refl))
same_test n false d = go (is_proper n) refl
  where
    go : (t : Bool) → is_proper n ≡ t → false ≡ t
    go true e = absurd (d.if_false refl (passes_proper n e))
    go false e = refl

-- ---- the client's name

module _ (setting : ℕ) (m : List ℕ) (r : Request) where
  pub other_setting : (setting ≡ 1 → ⊥) → false ≡ uses_clients setting m r
  unfolding uses_clients
  other_setting h = sym (ap (λ (t : Bool). t && r.has_name && is_proper (bytes_of m r.name)) (ne_eqb setting 1 h))

  module _ (s : setting ≡ 1) where
    pub no_name : r.has_name ≡ false → false ≡ uses_clients setting m r
    unfolding uses_clients
    no_name h = sym (λ i. eq-eqb setting 1 s i && h i && is_proper (bytes_of m r.name))

    pub with_name : r.has_name ≡ true → is_proper (bytes_of m r.name) ≡ uses_clients setting m r
    unfolding uses_clients
    with_name h = sym (λ i. eq-eqb setting 1 s i && h i && is_proper (bytes_of m r.name))

  pub uses : UsesClients setting m r → uses_clients setting m r ≡ true
  uses u = sym (with_name u.setting_is u.there) ∙ proper_passes (bytes_of m r.name) u.proper

  pub used : uses_clients setting m r ≡ true → UsesClients setting m r
  unfolding uses_clients
  used e =
      let front = and_left (eqb setting 1 && r.has_name) (is_proper (bytes_of m r.name)) e in
      record {
        setting_is = eqb-true setting 1 (and_left (eqb setting 1) r.has_name front);
        there = and_right (eqb setting 1) r.has_name front;
        proper = passes_proper (bytes_of m r.name) (and_right (eqb setting 1 && r.has_name) (is_proper (bytes_of m r.name)) e);
      }

  -- ---- the choice for a request

  module _ (site : List ℕ) where
    pub for_refused : (r.refusal ≡ 0 → ⊥) → no_choice r.refusal ≡ chosen_for setting m site r
    unfolding chosen_for
    for_refused h = rw (ne_eqb r.refusal 0 h)

    module _ (z : r.refusal ≡ 0) where
      pub for_client : uses_clients setting m r ≡ true → from_message r.name ≡ chosen_for setting m site r
      unfolding chosen_for
      for_client u = rw (eq-eqb r.refusal 0 z, u)

      pub for_site : uses_clients setting m r ≡ false → by_site site ≡ chosen_for setting m site r
      unfolding chosen_for
      for_site u = rw (eq-eqb r.refusal 0 z, u)

pub site_proper : (site : List ℕ) → is_proper site ≡ true → from_site site ≡ by_site site
unfolding by_site
site_proper site e = rw e

pub site_improper : (site : List ℕ) → is_proper site ≡ false → no_choice no_proper_name ≡ by_site site
unfolding by_site
site_improper site e = rw e

-- ---- the choice, both ways

unused : (setting : ℕ) (m : List ℕ) (r : Request) → (UsesClients setting m r → ⊥) → uses_clients setting m r ≡ false
unused setting m r h = go (uses_clients setting m r) refl
  where
    go : (t : Bool) → uses_clients setting m r ≡ t → t ≡ false
    go true e = absurd (h (used setting m r e))
    go false e = refl

improper : (n : List ℕ) → (Proper n → ⊥) → is_proper n ≡ false
improper n h = go (is_proper n) refl
  where
    go : (t : Bool) → is_proper n ≡ t → t ≡ false
    go true e = absurd (h (passes_proper n e))
    go false e = refl

refused_number : (n : ℕ) → (refused_request n).refusal ≡ n
unfolding refused_request
refused_number n = refl

module _ (family setting : ℕ) (m site : List ℕ) where
  unknown_chosen : is_known family setting ≡ false → choose family setting m site ≡ no_choice unknown_setting
  unfolding choose
  unknown_chosen e =
      ap (chosen_for setting m site) (said_unknown family setting m e)
      ∙ sym (for_refused setting m (refused_request unknown_setting) site (λ z. omega (arith, sym (refused_number unknown_setting) ∙ z)))
      ∙ ap no_choice (refused_number unknown_setting)

  unknown_is : ((KnownSetting setting × KnownFamily family) → ⊥) → is_known family setting ≡ false
  unknown_is h = go (is_known family setting) refl
    where
      go : (t : Bool) → is_known family setting ≡ t → t ≡ false
      go true e = absurd (h ((is_known_lem family setting e).in_setting, (is_known_lem family setting e).in_family))
      go false e = refl

  client_first : setting ≡ 1 → KnownSetting setting
  unfolding KnownSetting
  client_first e = inr e

  -- the choice by the request
  by_request : {r : Request} → KnownSetting setting → Says family m r → choose family setting m site ≡ chosen_for setting m site r
  unfolding choose
  by_request s h = ap (chosen_for setting m site) (said_says family setting m s h)

  pub chooses_choice : {c : Chosen} → Chooses family setting m site c → choose family setting m site ≡ c
  chooses_choice (Chooses.unknown h) = unknown_chosen (unknown_is h)
  chooses_choice (Chooses.refused {r} s h n) = by_request s h ∙ sym (for_refused setting m r site n)
  chooses_choice (Chooses.client's {r} h z u) = by_request (client_first u.setting_is) h ∙ sym (for_client setting m r site z (uses setting m r u))
  chooses_choice (Chooses.site's {r} s h z u p) =
      by_request s h ∙ sym (for_site setting m r site z (unused setting m r u)) ∙ sym (site_proper site (proper_passes site p))
  chooses_choice (Chooses.neither {r} s h z u p) =
      by_request s h ∙ sym (for_site setting m r site z (unused setting m r u)) ∙ sym (site_improper site (improper site p))

  for_request : (r : Request) → KnownSetting setting → Says family m r → Chooses family setting m site (chosen_for setting m site r)
  for_request r s h = go (eqb r.refusal 0) refl (uses_clients setting m r) refl (is_proper site) refl
    where
      go : (t : Bool) → eqb r.refusal 0 ≡ t → (u : Bool) → uses_clients setting m r ≡ u → (p : Bool) → is_proper site ≡ p
          → Chooses family setting m site (chosen_for setting m site r)
      go false e u f p g = subst (Chooses family setting m site) (for_refused setting m r site (eqb-false r.refusal 0 e)) (Chooses.refused s h (eqb-false r.refusal 0 e))
      go true e true f p g =
          let z = eqb-true r.refusal 0 e in
          subst (Chooses family setting m site) (for_client setting m r site z f) (Chooses.client's h z (used setting m r f))
      go true e false f true g =
          let z = eqb-true r.refusal 0 e in
          subst (Chooses family setting m site) (site_proper site g ∙ for_site setting m r site z f)
          (Chooses.site's s h z (λ u. true≢false (sym (uses setting m r u) ∙ f)) (passes_proper site g))
      go true e false f false g =
          let z = eqb-true r.refusal 0 e in
          subst (Chooses family setting m site) (site_improper site g ∙ for_site setting m r site z f)
          (Chooses.neither s h z (λ u. true≢false (sym (uses setting m r u) ∙ f)) (fails_proper site g))

  pub choice_chooses : Chooses family setting m site (choose family setting m site)
  unfolding choose
  choice_chooses = go (is_known family setting) refl
    where
      go : (t : Bool) → is_known family setting ≡ t → Chooses family setting m site (choose family setting m site)
      go true e = for_request (said family setting m) (is_known_lem family setting e).in_setting (says_said family setting m e)
      go false e =
          subst (Chooses family setting m site) (sym (unknown_chosen e))
          (Chooses.unknown (λ k. true≢false (sym (known family setting k.1 k.0) ∙ e)))

-- ---- where the chosen name lies

-- within its source, near the front of it; a name that is chosen is proper
pub record Lies (m site : List ℕ) (c : Chosen) : Type 0 where
  pub inside : Inside (among c.from_site m site) c.part
  pub near : c.part.start ≤ 2048
  pub short : c.part.len ≤ 255
  pub proper : c.refusal ≡ 0 → Proper (name_bytes m site c)

-- no part of anything
nowhere : (m site : List ℕ) (n : ℕ) → (n ≡ 0 → ⊥) → Lies m site (no_choice n)
unfolding no_choice
nowhere m site n h = record { inside = omega arith; near = omega arith; short = omega arith; proper = λ z. absurd (h z) }

lies_client : (m site : List ℕ) (r : Request) → Inside m r.name → length m ≤ 2048 → Proper (bytes_of m r.name) → Lies m site (from_message r.name)
unfolding from_message name_bytes
lies_client m site r within short p =
    record { inside = within; near = omega arith; short = omega (arith, part_length m r.name within, proper_short (bytes_of m r.name) p); proper = λ z. p }

lies_site : (m site : List ℕ) → Proper site → Lies m site (from_site site)
unfolding from_site name_bytes bytes_of
lies_site m site p =
    record { inside = omega arith; near = omega arith; short = proper_short site p; proper = λ z. subst Proper (sym (take-length site)) p }

pub lies : {family setting : ℕ} {m site : List ℕ} {c : Chosen} → Chooses family setting m site c → Lies m site c
lies {m = m} {site = site} (Chooses.unknown h) = nowhere m site unknown_setting (λ z. omega arith)
lies {m = m} {site = site} (Chooses.refused {r} s h n) = nowhere m site r.refusal n
lies {m = m} {site = site} (Chooses.client's {r} h z u) = lies_client m site r ((placed h z).name u.there) (placed h z).short u.proper
lies {m = m} {site = site} (Chooses.site's s h z u p) = lies_site m site p
lies {m = m} {site = site} (Chooses.neither s h z u p) = nowhere m site no_proper_name (λ z. omega arith)

pub choice_lies : (family setting : ℕ) (m site : List ℕ) → Lies m site (choose family setting m site)
choice_lies family setting m site = lies (choice_chooses family setting m site)

-- a name is chosen only where the request is accepted
pub choice_accepted : (family setting : ℕ) (m site : List ℕ) → (choose family setting m site).refusal ≡ 0 → (said family setting m).refusal ≡ 0
unfolding choose no_choice
choice_accepted family setting m site z = go (eqb (said family setting m).refusal 0) refl
  where
    go : (t : Bool) → eqb (said family setting m).refusal 0 ≡ t → (said family setting m).refusal ≡ 0
    go true e = eqb-true (said family setting m).refusal 0 e
    go false e = ap (λ (c : Chosen). c.refusal) (for_refused setting m (said family setting m) site (eqb-false (said family setting m).refusal 0 e)) ∙ z

pub lies_as : (family setting : ℕ) (m site : List ℕ) (c : Chosen) → c ≡ choose family setting m site → Lies m site c
lies_as family setting m site c e = subst (Lies m site) (sym e) (choice_lies family setting m site)
