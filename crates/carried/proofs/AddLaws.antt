-- An add by its two messages, case by case. Assumes nothing.
use Prim.Native.Nat.{ℕ, ◌<◌}
use mathlib.Core.Bool.{Bool, true, false, cond}
use mathlib.Core.Path.{◌≡◌, refl, sym, ap, subst, ◌∙◌}
use mathlib.Core.Logic.{inl, inr}
use mathlib.Core.List.{List, [], ◌∷◌, ◌++◌}
use mathlib.Core.Option.{Option, none, some}
use native.Mathlib.Omega.{arith}
use lib.ListN.{length}
use Rattle.base.specs.Bytes.{eq_bytes}
use Rattle.base.specs.Logic.{Every, Pairwise}
use Rattle.base.proofs.Lists.{pairwise_append}
use Rattle.name.specs.Name.{canonical}
use Rattle.slots.specs.Effect.{entered, refreshed, deleted}
use Rattle.slots.specs.Entry.{address_of}
use Rattle.slots.specs.Form.{TableEntry}
use Rattle.slots.specs.Promise.{is_address}
use Rattle.slots.specs.declared.Family.{Family}
use Rattle.slots.specs.declared.Family.TheVariants.{V4, V6}
use Rattle.table.specs.Steps.{StepOutcome, find, changed, add}
use Rattle.table.proofs.CaseLaws.{Adding, add_case}
use Rattle.table.proofs.SoundLaws.{keeps_name, entered_name, deleted_address, deleted_holder}
use Rattle.update.specs.Message.{Message, type_dhcid}
use Rattle.update.specs.Reply.{done, name_in_use, no_such_set}
use Rattle.update.specs.Updates.{address_record, add_first, add_second}
use Rattle.carried.specs.Holds.{listed, Has, Holds}
use Rattle.carried.specs.Rules.{prerequisites_code, all_updated, carried_out}
use Rattle.carried.specs.Sent.{Exchange, ended, AddTold, InStep}
use Rattle.carried.specs.Zone.{Datum, Zone, is_empty, of_type, less_those, in_zone}
use Rattle.carried.proofs.RecordLaws.{datum, none_of_type, AllPicked, Only, some_left, some_more, has_put, has_new, has_less}
use Rattle.carried.proofs.ZoneLaws.{node, Away, used_node, at_node, with_node, without_node, at_nowhere, with_nowhere, set_is, use_is, here, nowhere, holds_changed}
use Rattle.carried.proofs.RuleLaws.{
  add_first_code,
  add_second_code,
  plain_address,
  add_scanned,
  set_scanned,
  scanned_two,
  whole_set,
  update_add,
  update_set,
  both_updated,
  none_among,
  out,
  is_done,
  not_done,
}
use Rattle.carried.proofs.ExchangeLaws.{exchanged, one_sent, two_sent}

-- ---- one name's records

put_again : (f : Family) (x : List ℕ) (e : TableEntry) → refreshed f x (deleted f e) ≡ refreshed f x e
put_again V4 x e = refl
put_again V6 x e = refl

pub address_set : (f : Family) (ds : List Datum) (e : TableEntry) → Has ds e → of_type (address_record f) ds ≡ listed (address_of f e)
address_set V4 ds e h = h.a
address_set V6 ds e h = h.aaaa

no_dhcid_lem : (f : Family) (x : List ℕ) → of_type type_dhcid (datum (address_record f) x ∷ []) ≡ []
unfolding of_type
no_dhcid_lem V4 x = refl
no_dhcid_lem V6 x = refl

set_only : (f : Family) → Only (address_record f) (whole_set (address_record f))
set_only V4 j y s = s
set_only V6 j y s = s

set_all : (f : Family) (o : Option (List ℕ)) → AllPicked (whole_set (address_record f)) (address_record f) (listed o)
set_all f none = Every.none
set_all V4 (some y) = Every.more refl Every.none
set_all V6 (some y) = Every.more refl Every.none

module _ (served : List ℕ) (i j : ℕ) (zone n d : List ℕ) (f : Family) (x : List ℕ) (its : canonical zone ≡ served) (inside : in_zone served n ≡ true)
    (lower : canonical n ≡ n) where
  abbrev m₁ : Message
  m₁ = add_first i zone n d (address_record f) x

  abbrev m₂ : Message
  m₂ = add_second j zone n d (address_record f) x

  abbrev sent : Zone → Exchange
  sent = exchanged served name_in_use m₁ m₂

  -- ---- the name is not in use

  module _ (z : Zone) (away : Away n z) where
    abbrev new : Zone
    new = z ++ node n (datum (address_record f) x ∷ datum type_dhcid d ∷ []) ∷ []

    new_zone : all_updated m₁.updates z ≡ new
    unfolding add_first
    new_zone =
        let one : Zone = z ++ node n (datum (address_record f) x ∷ []) ∷ [] in
        both_updated _ _ z one new
        (update_add n lower z _ _ (none_among x _ (set_is n z [] (at_nowhere n z away) _ ∙ none_of_type _)) ∙ with_nowhere n _ z away)
        (update_add n lower one _ _ (none_among d _ (set_is n one (datum (address_record f) x ∷ []) (at_node n away (datum (address_record f) x ∷ []) []) type_dhcid ∙ no_dhcid_lem f x))
        ∙ with_node n away _ (datum (address_record f) x ∷ []) [])

    first_done : carried_out served m₁ z ≡ out done (all_updated m₁.updates z)
    unfolding add_first
    first_done =
        is_done served zone its z i _ _ (scanned_two served _ _ (add_scanned served n inside _ (plain_address f) x) (add_scanned served n inside _ (refl, refl) d))
        (add_first_code served z n inside lower false (use_is n z [] (at_nowhere n z away)))

    new_sent : sent z ≡ ended (done ∷ []) new
    new_sent = one_sent served name_in_use m₁ m₂ z done new (first_done ∙ ap (out done) new_zone) refl

    new_holds : (t : List TableEntry) → Holds z t → Holds new (t ++ entered n d f x ∷ [])
    new_holds t hs = pairwise_append hs (Pairwise.more (record { same = sym (entered_name n d f x); used = refl; has = has_new f n d x }) Pairwise.none)

  -- ---- it is in use, with the records ds

  module _ (p : Zone) (ds : List Datum) (r : Zone) (away : Away n p) (used : is_empty ds ≡ false) where
    abbrev at : List Datum → Zone
    at cs = p ++ node n cs ∷ r

    first_refused : carried_out served m₁ (at ds) ≡ out name_in_use (at ds)
    unfolding add_first
    first_refused =
        not_done served zone its (at ds) i _ _ (scanned_two served _ _ (add_scanned served n inside _ (plain_address f) x) (add_scanned served n inside _ (refl, refl) d)) name_in_use
        (add_first_code served (at ds) n inside lower true (use_is n (at ds) ds (at_node n away ds r) ∙ rw used)) refl

    second_sent : (c : ℕ) (w : Zone) → carried_out served m₂ (at ds) ≡ out c w → sent (at ds) ≡ ended (name_in_use ∷ c ∷ []) w
    second_sent c w h = two_sent served name_in_use m₁ m₂ (at ds) name_in_use c (at ds) w first_refused refl h

    module _ (e : TableEntry) (has : Has ds e) (h : Option (List ℕ)) (holder : e.holder ≡ h) where
      second_code : prerequisites_code served (at ds) m₂.prerequisites ≡ cond (is_address h d) done no_such_set
      unfolding add_second
      second_code = add_second_code served (at ds) n inside lower d h (set_is n (at ds) ds (at_node n away ds r) type_dhcid ∙ has.dhcid ∙ ap listed holder)

      -- held by another, or kept by hand
      another_sent : is_address h d ≡ false → sent (at ds) ≡ ended (name_in_use ∷ no_such_set ∷ []) (at ds)
      unfolding add_second
      another_sent s =
          second_sent no_such_set (at ds)
          (not_done served zone its (at ds) j _ _ (scanned_two served _ _ (set_scanned served n inside _ (plain_address f)) (add_scanned served n inside _ (plain_address f) x)) no_such_set
          (second_code ∙ ap (λ (b : Bool). cond b done no_such_set) s) refl)

    -- held by this client: the address is replaced
    module _ (e : TableEntry) (has : Has ds e) (k : List ℕ) (holder : e.holder ≡ some k) where
      abbrev less : List Datum
      less = less_those (whole_set (address_record f)) ds

      abbrev more : List Datum
      more = less ++ datum (address_record f) x ∷ []

      less_has : Has less (deleted f e)
      less_has = has_less f (whole_set (address_record f)) e ds (set_only f) (set_all f (address_of f e)) has

      more_has : Has more (refreshed f x e)
      more_has = subst (Has more) (put_again f x e) (has_put f x (deleted f e) less (deleted_address f e) less_has)

      more_used : is_empty more ≡ false
      more_used = some_more less (datum (address_record f) x)

      less_used : is_empty less ≡ false
      less_used = some_left type_dhcid k less (less_has.dhcid ∙ ap listed (deleted_holder f e ∙ holder))

      replaced : all_updated m₂.updates (at ds) ≡ at more
      unfolding add_second
      replaced =
          both_updated _ _ (at ds) (at less) (at more)
          (update_set n lower (at ds) _ ∙ without_node n away _ ds r ∙ ap (◌++◌ p) (used_node n less r less_used))
          (update_add n lower (at less) _ _
          (none_among x _ (set_is n (at less) less (at_node n away less r) _ ∙ address_set f less (deleted f e) less_has ∙ ap listed (deleted_address f e)))
          ∙ with_node n away _ less r)

      same_sent : eq_bytes k d ≡ true → sent (at ds) ≡ ended (name_in_use ∷ done ∷ []) (at more)
      unfolding add_second
      same_sent s =
          second_sent done (at more)
          (is_done served zone its (at ds) j _ _ (scanned_two served _ _ (set_scanned served n inside _ (plain_address f)) (add_scanned served n inside _ (plain_address f) x))
          (second_code e has (some k) holder ∙ ap (λ (b : Bool). cond b done no_such_set) s)
          ∙ ap (out done) replaced)

  -- ---- by the cases of the table's add

  module _ (limit : ℕ) (t : List TableEntry) (z : Zone) (hs : Holds z t) (room : find n t ≡ none → length t < limit) where
    abbrev Goes : StepOutcome (List ℕ) → Type 0
    Goes o = InStep (AddTold n t z) o (sent z)

    stays : (e : TableEntry) (found : find n t ≡ some e) → (h : Option (List ℕ)) → e.holder ≡ h → is_address h d ≡ false
        → sent z ≡ ended (name_in_use ∷ no_such_set ∷ []) z
    stays e found h holder s =
        let w = here n hs e found in
        subst (λ (y : Zone). sent y ≡ ended (name_in_use ∷ no_such_set ∷ []) y) (sym w.form) (another_sent w.before w.records w.behind w.away w.own.used e w.own.has h holder s)

    by_case : (o : StepOutcome (List ℕ)) → Adding eq_bytes t n d f x limit 0 o → Goes o
    by_case o (Adding.put_last found free e) =
        let away = nowhere n hs found in
        subst Goes (sym e) (record {
          codes = AddTold.entered found refl (ap (λ (y : Exchange). y.codes) (new_sent z away));
          holds = subst (λ (y : Exchange). Holds y.zone (t ++ entered n d f x ∷ [])) (sym (new_sent z away)) (new_holds z away t hs);
        })
    by_case o (Adding.full found full e) = absurd (omega (arith, room found))
    by_case o (Adding.by_hand c found holder e) =
        let sent_so = stays c found none holder refl in
        subst Goes (sym e) (record { codes = AddTold.refused (inr refl) sent_so; holds = subst (λ (y : Exchange). Holds y.zone t) (sym sent_so) hs })
    by_case o (Adding.same_client c k found holder same e) =
        let w = here n hs c found in
        let sent_so : sent z ≡ ended (name_in_use ∷ done ∷ []) _ =
        ap sent w.form ∙ same_sent w.before w.records w.behind w.away w.own.used c w.own.has k holder same in
        subst Goes (sym e) (record {
          codes = AddTold.refreshed refl (ap (λ (y : Exchange). y.codes) sent_so);
          holds = subst (λ (y : Exchange). Holds y.zone (changed n (refreshed f x) t)) (sym sent_so)
              (holds_changed w (refreshed f x) _ (keeps_name f (some x) c) (more_used w.before w.records w.behind w.away w.own.used c w.own.has k holder)
              (more_has w.before w.records w.behind w.away w.own.used c w.own.has k holder));
        })
    by_case o (Adding.first_wins c k found holder other zero e) =
        let sent_so = stays c found (some k) holder other in
        subst Goes (sym e) (record { codes = AddTold.refused (inl refl) sent_so; holds = subst (λ (y : Exchange). Holds y.zone t) (sym sent_so) hs })
    by_case o (Adding.latest_wins c k found holder other some_policy e) = absurd (some_policy refl)

    pub add_goes : Goes (add limit eq_bytes t n d f x 0)
    add_goes = by_case (add limit eq_bytes t n d f x 0) (add_case eq_bytes t n d f x limit 0)
