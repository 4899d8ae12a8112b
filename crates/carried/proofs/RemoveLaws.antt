-- A remove by its two messages, case by case. Assumes nothing.
use Prim.Native.Nat.{ℕ}
use mathlib.Core.Bool.{Bool, true, false, cond, ◌&&◌, ◌||◌, true≢false, false≢true}
use mathlib.Core.Path.{◌≡◌, refl, sym, ap, subst, ◌∙◌}
use mathlib.Core.Logic.{inl, inr}
use mathlib.Core.List.{List, [], ◌∷◌, ◌++◌}
use mathlib.Core.Option.{Option, none, some}
use lib.Dec.{eqb}
use borrow.Author.Tests.{eqb-true, eqb-false}
use Rattle.base.specs.Bytes.{eq_bytes}
use Rattle.base.specs.Logic.{Every}
use Rattle.name.specs.Name.{canonical}
use Rattle.slots.specs.Effect.{deleted, has_address}
use Rattle.slots.specs.Entry.{address_of}
use Rattle.slots.specs.Fields.{there}
use Rattle.slots.specs.Form.{TableEntry}
use Rattle.slots.specs.Promise.{is_address}
use Rattle.slots.specs.declared.Family.{Family}
use Rattle.slots.specs.declared.Family.TheVariants.{V4, V6}
use Rattle.table.specs.Steps.{StepOutcome, find, changed, without, remove}
use Rattle.table.proofs.CaseLaws.{Removing, remove_case}
use Rattle.table.proofs.SoundLaws.{keeps_name, deleted_holder}
use Rattle.update.specs.Message.{Message, type_a, type_aaaa, type_dhcid}
use Rattle.update.specs.Reply.{done, set_stands, no_such_set}
use Rattle.update.specs.Updates.{address_record, record_deleted, remove_first, remove_second}
use Rattle.carried.specs.Holds.{listed, Has, Holds}
use Rattle.carried.specs.Rules.{prerequisites_code, without_one, updated, Outcome, carried_out}
use Rattle.carried.specs.Sent.{Exchange, ended, RemoveTold, InStep, LastTakes}
use Rattle.carried.specs.Zone.{Datum, Zone, is_empty, set_at, less_those, node_of, in_zone}
use Rattle.carried.proofs.RecordLaws.{none_of_type, AllPicked, Only, some_left, has_less, none_left}
use Rattle.carried.proofs.ZoneLaws.{node, Away, used_node, at_node, without_node, at_nowhere, set_is, here, nowhere, holds_changed, holds_without}
use Rattle.carried.proofs.RuleLaws.{
  remove_first_code,
  remove_second_a,
  remove_second_aaaa,
  remove_second_free,
  plain_address,
  one_scanned,
  scanned_one,
  this_one,
  update_one,
  one_updated,
  out,
  is_done,
  not_done,
}
use Rattle.carried.proofs.ExchangeLaws.{message_done, message_stays, exchanged, one_sent, two_sent}
use Rattle.carried.proofs.AddLaws.{address_set}

-- ---- one name's records

one_only : (k : ℕ) (x : List ℕ) → Only k (this_one k x)
one_only k x j y s = ap (λ (b : Bool). b && eq_bytes y x) s

one_all : (f : Family) (x : List ℕ) (o : Option (List ℕ)) → is_address o x ≡ true → AllPicked (this_one (address_record f) x) (address_record f) (listed o)
one_all f x none s = Every.none
one_all V4 x (some y) s = Every.more s Every.none
one_all V6 x (some y) s = Every.more s Every.none

dhcid_all : (d : List ℕ) (o : Option (List ℕ)) → is_address o d ≡ true → AllPicked (this_one type_dhcid d) type_dhcid (listed o)
dhcid_all d none s = Every.none
dhcid_all d (some y) s = Every.more s Every.none

module _ (served : List ℕ) (i j : ℕ) (zone n d : List ℕ) (f : Family) (x : List ℕ) (its : canonical zone ≡ served) (inside : in_zone served n ≡ true)
    (lower : canonical n ≡ n) where
  abbrev m₁ : Message
  m₁ = remove_first i zone n d (address_record f) x

  abbrev m₂ : Message
  m₂ = remove_second j zone n d

  abbrev sent : Zone → Exchange
  sent = exchanged served done m₁ m₂

  -- ---- the first message is refused

  first_refused : (z : Zone) (h o : Option (List ℕ)) → set_at n type_dhcid z ≡ listed h → set_at n (address_record f) z ≡ listed o
      → (is_address h d && is_address o x) ≡ false → sent z ≡ ended (no_such_set ∷ []) z
  unfolding remove_first
  first_refused z h o held set s =
      one_sent served done m₁ m₂ z no_such_set z
      (not_done served zone its z i _ _ (scanned_one served _ (one_scanned served n inside _ (plain_address f) x)) no_such_set
      (remove_first_code served z n inside lower d h held f x o set ∙ ap (λ (b : Bool). cond b done no_such_set) s) refl) refl

  not_held : (z : Zone) → Away n z → sent z ≡ ended (no_such_set ∷ []) z
  not_held z away =
      let empty = at_nowhere n z away in
      first_refused z none none (set_is n z [] empty type_dhcid ∙ none_of_type type_dhcid) (set_is n z [] empty (address_record f) ∙ none_of_type (address_record f)) refl

  module _ (p : Zone) (ds : List Datum) (r : Zone) (away : Away n p) (e : TableEntry) (has : Has ds e) where
    abbrev at : List Datum → Zone
    at cs = p ++ node n cs ∷ r

    held : (h : Option (List ℕ)) → e.holder ≡ h → set_at n type_dhcid (at ds) ≡ listed h
    held h holder = set_is n (at ds) ds (at_node n away ds r) type_dhcid ∙ has.dhcid ∙ ap listed holder

    set : set_at n (address_record f) (at ds) ≡ listed (address_of f e)
    set = set_is n (at ds) ds (at_node n away ds r) (address_record f) ∙ address_set f ds e has

    refused_sent : (h : Option (List ℕ)) → e.holder ≡ h → (is_address h d && is_address (address_of f e) x) ≡ false
        → sent (at ds) ≡ ended (no_such_set ∷ []) (at ds)
    refused_sent h holder s = first_refused (at ds) h (address_of f e) (held h holder) set s

    -- ---- it is carried out, and the second

    module _ (k : List ℕ) (holder : e.holder ≡ some k) (own : eq_bytes k d ≡ true) (there_is : is_address (address_of f e) x ≡ true) where
      abbrev less : List Datum
      less = less_those (this_one (address_record f) x) ds

      less_has : Has less (deleted f e)
      less_has = has_less f (this_one (address_record f) x) e ds (one_only (address_record f) x) (one_all f x (address_of f e) there_is) has

      less_used : is_empty less ≡ false
      less_used = some_left type_dhcid k less (less_has.dhcid ∙ ap listed (deleted_holder f e ∙ holder))

      first_done : carried_out served m₁ (at ds) ≡ out done (at less)
      unfolding remove_first
      first_done =
          is_done served zone its (at ds) i _ _ (scanned_one served _ (one_scanned served n inside _ (plain_address f) x))
          (remove_first_code served (at ds) n inside lower d (some k) (held (some k) holder) f x (address_of f e) set
          ∙ ap (λ (b : Bool). cond (b && is_address (address_of f e) x) done no_such_set) own ∙ ap (λ (b : Bool). cond b done no_such_set) there_is)
          ∙ ap (out done) (one_updated _ (at ds) (at less) (update_one n lower (at ds) _ _ ∙ without_node n away _ ds r ∙ ap (◌++◌ p) (used_node n less r less_used)))

      second_sent : (c : ℕ) (w : Zone) → carried_out served m₂ (at less) ≡ out c w → sent (at ds) ≡ ended (done ∷ c ∷ []) w
      second_sent c w h = two_sent served done m₁ m₂ (at ds) done c (at less) w first_done refl h

      held_left : set_at n type_dhcid (at less) ≡ listed (some k)
      held_left = set_is n (at less) less (at_node n away less r) type_dhcid ∙ less_has.dhcid ∙ ap listed (deleted_holder f e ∙ holder)

      a_left : (o : Option (List ℕ)) → (deleted f e).a ≡ o → is_empty (set_at n type_a (at less)) ≡ is_empty (listed o)
      a_left o g = ap is_empty (set_is n (at less) less (at_node n away less r) type_a ∙ less_has.a ∙ ap listed g)

      aaaa_left : (o : Option (List ℕ)) → (deleted f e).aaaa ≡ o → is_empty (set_at n type_aaaa (at less)) ≡ is_empty (listed o)
      aaaa_left o g = ap is_empty (set_is n (at less) less (at_node n away less r) type_aaaa ∙ less_has.aaaa ∙ ap listed g)

      second_refused : prerequisites_code served (at less) m₂.prerequisites ≡ set_stands → sent (at ds) ≡ ended (done ∷ set_stands ∷ []) (at less)
      unfolding remove_second
      second_refused code = second_sent set_stands (at less) (not_done served zone its (at less) j _ _ (scanned_one served _ (one_scanned served n inside _ (refl, refl) d)) set_stands code refl)

      -- the other family's address stands
      kept_by : (o u : Option (List ℕ)) → (deleted f e).a ≡ o → (deleted f e).aaaa ≡ u → (there o || there u) ≡ true
          → sent (at ds) ≡ ended (done ∷ set_stands ∷ []) (at less)
      unfolding remove_second
      kept_by (some y) u g h s = second_refused (remove_second_a served (at less) n inside lower d (a_left (some y) g))
      kept_by none (some y) g h s =
          second_refused (remove_second_aaaa served (at less) n inside lower d (a_left none g) (aaaa_left (some y) h))
      kept_by none none g h s = absurd (false≢true s)

      kept_sent : has_address (deleted f e) ≡ true → sent (at ds) ≡ ended (done ∷ set_stands ∷ []) (at less)
      kept_sent s = kept_by (deleted f e).a (deleted f e).aaaa refl refl s

      -- no address is left
      emptied : (deleted f e).a ≡ none → (deleted f e).aaaa ≡ none → less_those (this_one type_dhcid d) less ≡ []
      emptied g h =
          none_left (this_one type_dhcid d) (deleted f e) less (one_only type_dhcid d) g h
          (subst (λ (o : Option (List ℕ)). AllPicked (this_one type_dhcid d) type_dhcid (listed o)) (sym (deleted_holder f e ∙ holder)) (dhcid_all d (some k) own)) less_has

      gone_by : (o u : Option (List ℕ)) → (deleted f e).a ≡ o → (deleted f e).aaaa ≡ u → (there o || there u) ≡ false
          → sent (at ds) ≡ ended (done ∷ done ∷ []) (p ++ r)
      unfolding remove_second
      gone_by (some y) u g h s = absurd (true≢false s)
      gone_by none (some y) g h s = absurd (true≢false s)
      gone_by none none g h s =
          second_sent done (p ++ r)
          (is_done served zone its (at less) j _ _ (scanned_one served _ (one_scanned served n inside _ (refl, refl) d))
          (remove_second_free served (at less) n inside lower d (some k) held_left (a_left none g) (aaaa_left none h) ∙ ap (λ (b : Bool). cond b done no_such_set) own)
          ∙ ap (out done) (one_updated _ (at less) (p ++ r)
          (update_one n lower (at less) _ _ ∙ without_node n away _ less r ∙ ap (λ (c : List Datum). p ++ node_of n c r) (emptied g h))))

      gone_sent : has_address (deleted f e) ≡ false → sent (at ds) ≡ ended (done ∷ done ∷ []) (p ++ r)
      gone_sent s = gone_by (deleted f e).a (deleted f e).aaaa refl refl s

  -- ---- the second message, on any zone

  emptiness : {A : Type 0} (l : List A) → is_empty l ≡ true → l ≡ []
  emptiness [] e = refl
  emptiness (a ∷ l) e = absurd (false≢true e)

  module _ (z : Zone) where
    abbrev Takes : Type 0
    Takes = LastTakes n d z (carried_out served m₂ z).zone

    stands : prerequisites_code served z m₂.prerequisites ≡ set_stands → Takes
    unfolding remove_second
    stands code = LastTakes.nothing (ap (λ (o : Outcome). o.zone) (not_done served zone its z j _ _ (scanned_one served _ (one_scanned served n inside _ (refl, refl) d)) set_stands code refl))

    last_deleted : (carried_out served m₂ z).code ≡ done → (carried_out served m₂ z).zone ≡ without_one (record_deleted n type_dhcid d) z
    unfolding remove_second updated
    last_deleted code = message_done served z m₂ code ∙ one_updated _ z _ refl

    by_code : set_at n type_a z ≡ [] → set_at n type_aaaa z ≡ [] → (b : Bool) → eqb (carried_out served m₂ z).code done ≡ b → Takes
    by_code a aaaa true s = LastTakes.its_dhcid a aaaa (last_deleted (eqb-true (carried_out served m₂ z).code done s))
    by_code a aaaa false s = LastTakes.nothing (message_stays served z m₂ (λ e. eqb-false (carried_out served m₂ z).code done s e))

    by_sets : (b c : Bool) → is_empty (set_at n type_a z) ≡ b → is_empty (set_at n type_aaaa z) ≡ c → Takes
    unfolding remove_second
    by_sets false c s u = stands (remove_second_a served z n inside lower d s)
    by_sets true false s u = stands (remove_second_aaaa served z n inside lower d s u)
    by_sets true true s u = by_code (emptiness (set_at n type_a z) s) (emptiness (set_at n type_aaaa z) u) (eqb (carried_out served m₂ z).code done) refl

    pub last_takes : Takes
    last_takes = by_sets (is_empty (set_at n type_a z)) (is_empty (set_at n type_aaaa z)) refl refl

  -- ---- by the cases of the table's remove

  module _ (t : List TableEntry) (z : Zone) (hs : Holds z t) where
    abbrev Goes : StepOutcome (List ℕ) → Type 0
    Goes o = InStep (RemoveTold n f t z) o (sent z)

    stays : (e : TableEntry) → find n t ≡ some e → (h : Option (List ℕ)) → e.holder ≡ h → (is_address h d && is_address (address_of f e) x) ≡ false
        → sent z ≡ ended (no_such_set ∷ []) z
    stays e found h holder s =
        let w = here n hs e found in
        subst (λ (y : Zone). sent y ≡ ended (no_such_set ∷ []) y) (sym w.form) (refused_sent w.before w.records w.behind w.away e w.own.has h holder s)

    still : sent z ≡ ended (no_such_set ∷ []) z → Holds (sent z).zone t
    still sent_so = subst (λ (y : Exchange). Holds y.zone t) (sym sent_so) hs

    by_case : (o : StepOutcome (List ℕ)) → Removing eq_bytes t n d f x o → Goes o
    by_case o (Removing.not_held found e) =
        let sent_so = not_held z (nowhere n hs found) in
        subst Goes (sym e) (record { codes = RemoveTold.refused (inl refl) sent_so; holds = still sent_so })
    by_case o (Removing.by_hand c found holder e) =
        let sent_so = stays c found none holder refl in
        subst Goes (sym e) (record { codes = RemoveTold.refused (inr (inl refl)) sent_so; holds = still sent_so })
    by_case o (Removing.another c k found holder other e) =
        let sent_so = stays c found (some k) holder (ap (λ (b : Bool). b && is_address (address_of f c) x) other) in
        subst Goes (sym e) (record { codes = RemoveTold.refused (inr (inr (inl refl))) sent_so; holds = still sent_so })
    by_case o (Removing.differs c k found holder same no_such e) =
        let sent_so = stays c found (some k) holder (ap (λ (b : Bool). b && is_address (address_of f c) x) same ∙ no_such) in
        subst Goes (sym e) (record { codes = RemoveTold.refused (inr (inr (inr refl))) sent_so; holds = still sent_so })
    by_case o (Removing.kept c k found holder same its_own left e) =
        let w = here n hs c found in
        let sent_so : sent z ≡ ended (done ∷ set_stands ∷ []) _ = ap sent w.form ∙ kept_sent w.before w.records w.behind w.away c w.own.has k holder same its_own left in
        subst Goes (sym e) (record {
          codes = RemoveTold.stays found left refl (ap (λ (y : Exchange). y.codes) sent_so);
          holds = subst (λ (y : Exchange). Holds y.zone (changed n (deleted f) t)) (sym sent_so)
              (holds_changed w (deleted f) _ (keeps_name f none c) (less_used w.before w.records w.behind w.away c w.own.has k holder same its_own)
              (less_has w.before w.records w.behind w.away c w.own.has k holder same its_own));
        })
    by_case o (Removing.gone c k found holder same its_own left e) =
        let w = here n hs c found in
        let sent_so : sent z ≡ ended (done ∷ done ∷ []) _ = ap sent w.form ∙ gone_sent w.before w.records w.behind w.away c w.own.has k holder same its_own left in
        subst Goes (sym e) (record {
          codes = RemoveTold.gone found left refl (ap (λ (y : Exchange). y.codes) sent_so);
          holds = subst (λ (y : Exchange). Holds y.zone (without n t)) (sym sent_so) (holds_without w);
        })

    pub remove_goes : Goes (remove eq_bytes t n d f x)
    remove_goes = by_case (remove eq_bytes t n d f x) (remove_case eq_bytes t n d f x)
