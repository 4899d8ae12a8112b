-- Demand 1, of the calls on the table. Assumes nothing.
use Prim.Native.Nat.{ℕ, ◌≤◌, ◌<◌}
use mathlib.Core.Bool.{true, false, true≢false}
use mathlib.Core.Path.{◌≡◌, refl, sym, ap, subst, ◌∙◌}
use mathlib.Core.Logic.{inl, inr}
use mathlib.Core.List.{List, [], ◌∷◌}
use mathlib.Core.Option.{Option, none, some, some-injective, none-ne-some}
use native.Mathlib.Omega.{arith}
use lib.ListN.{length}
use Rattle.base.specs.Bytes.{eq_bytes}
use Rattle.base.specs.Family.{KnownFamily}
use Rattle.base.specs.Order.{Test, AllHold}
use Rattle.base.specs.declared.Answer.{Answer}
use Rattle.base.proofs.OrderLaws.{fault_before_lem}
use Rattle.base.proofs.Tests.{eq_bytes_true, eq_eq_bytes}
use Rattle.name.specs.Name.{canonical}
use Rattle.slots.specs.Entry.{family_of, address_of}
use Rattle.slots.specs.Form.{TableEntry, Sound}
use Rattle.slots.specs.Promise.{is_address}
use Rattle.slots.proofs.Theorems.{one_sound_table}
use Rattle.table.specs.Steps.{StepOutcome, find}
use Rattle.table.specs.Calls.{KnownPolicy, name_tests, argument_tests, Adds, Removes, Clears, Finds, Counts}
use Rattle.table.proofs.CaseLaws.{Adding, add_case, Removing, remove_case, Clearing, clear_case}
use Rattle.table.proofs.DemandLaws.{is_address_lem}
use Rattle.records.specs.Written.{listing_of}
use Rattle.records.specs.Calls.{Writes}
use Rattle.slots.specs.Sizes.{most_names}
use Rattle.demands.specs.Faults.{Of, Stands, ByHand, HeldBy, add_step_tests, add_tests, remove_step_tests, remove_tests, clear_tests, find_tests, count_tests, write_tests}
use Rattle.demands.proofs.AnswerLaws.{InRow, after}

-- ---- what stands under a name

module _ (n : List ℕ) (t : List TableEntry) where
  one_entry : {e d : TableEntry} → find n t ≡ some e → find n t ≡ some d → e ≡ d
  one_entry {e} {d} p q = some-injective e d (sym p ∙ q)

  none_stands : {e : TableEntry} → find n t ≡ none → find n t ≡ some e → ⊥
  none_stands {e} p q = none-ne-some e (sym p ∙ q)

  not_by_hand : {e : TableEntry} {k : List ℕ} → find n t ≡ some e → e.holder ≡ some k → ByHand n t → ⊥
  unfolding ByHand
  not_by_hand {e} {k} found holder (d, also, nobody) = none-ne-some k (sym nobody ∙ ap (λ (y : TableEntry). y.holder) (one_entry also found) ∙ holder)

  one_holder : {e : TableEntry} {k d : List ℕ} → find n t ≡ some e → e.holder ≡ some k → HeldBy d n t → k ≡ d
  unfolding HeldBy
  one_holder {e} {k} {d} found holder (c, also, held) = some-injective k d (sym holder ∙ ap (λ (y : TableEntry). y.holder) (one_entry found also) ∙ held)

differs : {k d : List ℕ} → eq_bytes k d ≡ false → k ≡ d → ⊥
differs {k} {d} other e = true≢false (sym (eq_eq_bytes k d e) ∙ other)

-- the answer of an outcome
answered : {a : Answer} {o p : StepOutcome (List ℕ)} → a ≡ o.answer → o ≡ p → a ≡ p.answer
answered e q = e ∙ ap (λ (r : StepOutcome (List ℕ)). r.answer) q

-- it is not that address
no_address : (o : Option (List ℕ)) (x : List ℕ) → is_address o x ≡ false → o ≡ some x → ⊥
no_address none x e q = none-ne-some x q
no_address (some y) x e q = differs e (some-injective y x q)

-- of the table that b is
module _ (b : List ℕ) (s : Sound most_names b) where
  holds : (P : List TableEntry → Type 0) → P s.table → Of b P
  holds P p k = subst P (one_sound_table most_names b s k) p

  fails : (P : List TableEntry → Type 0) → (P s.table → ⊥) → Of b P → ⊥
  fails P np f = np (f s)

-- ---- the calls

module _ (b name dhcid : List ℕ) (family : ℕ) (address : List ℕ) where
  abbrev n : List ℕ
  n = canonical name

  abbrev Hand : List TableEntry → Type 0
  Hand t = ByHand n t → ⊥

  module _ (policy : ℕ) (a : Answer) (left : List ℕ) where
    -- 32, 31 and 30 of an add
    abbrev Room : List TableEntry → Type 0
    Room t = find n t ≡ none → length t < most_names

    abbrev Other : List TableEntry → Type 0
    Other t = (d : List ℕ) → HeldBy d n t → policy ≡ 0 → d ≡ dhcid

    pub stepped : (s : Sound most_names b) {o : StepOutcome (List ℕ)} → a ≡ o.answer → Adding eq_bytes s.table n dhcid (family_of family) address most_names policy o → InRow a (add_step_tests b name dhcid policy)
    unfolding ByHand HeldBy
    stepped s e (Adding.put_last found room o) =
        InRow.passed 0 (answered e o) (
          holds b s Room (λ q. room),
          (holds b s Hand (λ h. none_stands n s.table found h.1), (holds b s Other (λ d h z. absurd (none_stands n s.table found h.1)), tt)),
        )
    stepped s e (Adding.full found full o) = InRow.failed 32 (answered e o) (inl (fails b s Room (λ f. omega (arith, f found)), refl))
    stepped s e (Adding.by_hand c found holder o) =
        InRow.failed 31 (answered e o) (inr (
          holds b s Room (λ q. absurd (none_stands n s.table q found)),
          inl (fails b s Hand (λ f. f (c, found, holder)), refl),
        ))
    stepped s e (Adding.same_client c k found holder same o) =
        InRow.passed 1 (answered e o) (
          holds b s Room (λ q. absurd (none_stands n s.table q found)),
          (
            holds b s Hand (λ h. not_by_hand n s.table found holder h),
            (holds b s Other (λ d h z. sym (one_holder n s.table found holder h) ∙ eq_bytes_true k dhcid same), tt),
          ),
        )
    stepped s e (Adding.first_wins c k found holder other first o) =
        InRow.failed 30 (answered e o) (inr (
          holds b s Room (λ q. absurd (none_stands n s.table q found)),
          inr (holds b s Hand (λ h. not_by_hand n s.table found holder h), inl (fails b s Other (λ f. differs other (f k (c, found, holder) first)), refl)),
        ))
    stepped s e (Adding.latest_wins c k found holder other latest o) =
        InRow.passed 2 (answered e o) (
          holds b s Room (λ q. absurd (none_stands n s.table q found)),
          (holds b s Hand (λ h. not_by_hand n s.table found holder h), (holds b s Other (λ d h z. absurd (latest z)), tt)),
        )

    pub add_in_row : Adds most_names b name dhcid family address policy a left → InRow a (add_tests b name dhcid family address policy)
    unfolding Adds
    add_in_row (inl f) = InRow.failed f.number f.answer (fault_before_lem (argument_tests most_names (KnownFamily family × KnownPolicy policy) b name dhcid family address) (add_step_tests b name dhcid policy) f.number f.fault)
    add_in_row (inr s) =
        after (argument_tests most_names (KnownFamily family × KnownPolicy policy) b name dhcid family address) (add_step_tests b name dhcid policy) s.all_hold
        (stepped s.sound s.answer (add_case eq_bytes s.sound.table n dhcid (family_of family) address most_names policy))

  module _ (a : Answer) (left : List ℕ) where
    -- 33, 31, 30 and 34 of a remove
    abbrev Same : List TableEntry → Type 0
    Same t = (e : TableEntry) → find n t ≡ some e → address_of (family_of family) e ≡ some address

    -- where the client holds the name with that address, none of them is given
    all_removed : (s : Sound most_names b) (c : TableEntry) (k : List ℕ) → find n s.table ≡ some c → c.holder ≡ some k → eq_bytes k dhcid ≡ true
        → is_address (address_of (family_of family) c) address ≡ true → AllHold (remove_step_tests b name dhcid family address)
    unfolding Stands ByHand HeldBy
    all_removed s c k found holder same there = (
      holds b s (Stands n) (c, found),
      (
        holds b s Hand (λ h. not_by_hand n s.table found holder h),
        (
          holds b s (HeldBy dhcid n) (c, found, holder ∙ ap some (eq_bytes_true k dhcid same)),
          (holds b s Same (λ d also. ap (address_of (family_of family)) (one_entry n s.table also found) ∙ is_address_lem (address_of (family_of family) c) address there), tt),
        ),
      ),
    )

    pub removed : (s : Sound most_names b) {o : StepOutcome (List ℕ)} → a ≡ o.answer → Removing eq_bytes s.table n dhcid (family_of family) address o → InRow a (remove_step_tests b name dhcid family address)
    unfolding Stands ByHand HeldBy
    removed s e (Removing.not_held found o) = InRow.failed 33 (answered e o) (inl (fails b s (Stands n) (λ h. none_stands n s.table found h.1), refl))
    removed s e (Removing.by_hand c found holder o) =
        InRow.failed 31 (answered e o) (inr (holds b s (Stands n) (c, found), inl (fails b s Hand (λ f. f (c, found, holder)), refl)))
    removed s e (Removing.another c k found holder other o) =
        InRow.failed 30 (answered e o) (inr (
          holds b s (Stands n) (c, found),
          inr (holds b s Hand (λ h. not_by_hand n s.table found holder h), inl (fails b s (HeldBy dhcid n) (λ h. differs other (one_holder n s.table found holder h)), refl)),
        ))
    removed s e (Removing.differs c k found holder same elsewhere o) =
        InRow.failed 34 (answered e o) (inr (
          holds b s (Stands n) (c, found),
          inr (
            holds b s Hand (λ h. not_by_hand n s.table found holder h),
            inr (holds b s (HeldBy dhcid n) (c, found, holder ∙ ap some (eq_bytes_true k dhcid same)), inl (fails b s Same (λ f. no_address (address_of (family_of family) c) address elsewhere (f c found)), refl)),
          ),
        ))
    removed s e (Removing.kept c k found holder same there more o) = InRow.passed 0 (answered e o) (all_removed s c k found holder same there)
    removed s e (Removing.gone c k found holder same there more o) = InRow.passed 0 (answered e o) (all_removed s c k found holder same there)

    pub remove_in_row : Removes most_names b name dhcid family address a left → InRow a (remove_tests b name dhcid family address)
    unfolding Removes
    remove_in_row (inl f) = InRow.failed f.number f.answer (fault_before_lem (argument_tests most_names (KnownFamily family) b name dhcid family address) (remove_step_tests b name dhcid family address) f.number f.fault)
    remove_in_row (inr s) =
        after (argument_tests most_names (KnownFamily family) b name dhcid family address) (remove_step_tests b name dhcid family address) s.all_hold
        (removed s.sound s.answer (remove_case eq_bytes s.sound.table n dhcid (family_of family) address))

-- 33 of a clear and of a find
abbrev standing : List ℕ → List ℕ → List Test
standing b name = record { number = 33; holds = Of b (Stands (canonical name)) } ∷ []

module _ (b name : List ℕ) (a : Answer) (left : List ℕ) where
  cleared : (s : Sound most_names b) {o : StepOutcome (List ℕ)} → a ≡ o.answer → Clearing s.table (canonical name) o → InRow a (standing b name)
  unfolding Stands
  cleared s e (Clearing.not_held found o) = InRow.failed 33 (answered e o) (inl (fails b s (Stands (canonical name)) (λ h. none_stands (canonical name) s.table found h.1), refl))
  cleared s e (Clearing.cleared c found o) = InRow.passed 0 (answered e o) (holds b s (Stands (canonical name)) (c, found), tt)

  pub clear_in_row : Clears most_names b name a left → InRow a (clear_tests b name)
  unfolding Clears
  clear_in_row (inl f) = InRow.failed f.number f.answer (fault_before_lem (name_tests most_names b name) (standing b name) f.number f.fault)
  clear_in_row (inr s) = after (name_tests most_names b name) (standing b name) s.all_hold (cleared s.sound s.answer (clear_case s.sound.table (canonical name)))

module _ (b : List ℕ) where
  module _ (name : List ℕ) (a : Answer) where
    pub find_in_row : Finds most_names b name a → InRow a (find_tests b name)
    unfolding Stands
    find_in_row (Finds.faulty {n = n} f e) = InRow.failed n e (fault_before_lem (name_tests most_names b name) (standing b name) n f)
    find_in_row (Finds.not_held s p found e) =
        InRow.failed 33 e (inr (s, inr (p, inl (fails b s (Stands (canonical name)) (λ h. none_stands (canonical name) s.table found h.1), refl))))
    find_in_row (Finds.found s p {e = c} found e) = InRow.passed _ e (s, (p, (holds b s (Stands (canonical name)) (c, found), tt)))

  pub count_in_row : (a : Answer) → Counts most_names b a → InRow a (count_tests b)
  count_in_row a (Counts.not_sound f e) = InRow.failed 40 e (inl (f, refl))
  count_in_row a (Counts.counted s e) = InRow.passed _ e (s, tt)

module _ (b out : List ℕ) (a : Answer) (left : List ℕ) where
  abbrev Short : List TableEntry → Type 0
  Short t = length (listing_of t) ≤ length out

  pub write_in_row : Writes most_names b out a left → InRow a (write_tests b out)
  write_in_row (Writes.not_sound f e l) = InRow.failed 40 e (inl (f, refl))
  write_in_row (Writes.short s room e l) = InRow.failed 13 e (inr (s, inl (fails b s Short (λ f. omega (arith, f)), refl)))
  write_in_row (Writes.written s room e l) = InRow.passed (length (listing_of s.table)) e (s, (holds b s Short room, tt))
