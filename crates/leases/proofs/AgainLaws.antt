-- What the second run answers, what stands between the two steps, and that nothing else changes: of the bytes, from the laws on lists. Assumes nothing.
use Prim.Native.Nat.{ℕ, zero, suc}
use mathlib.Core.Bool.{false}
use mathlib.Core.Path.{◌≡◌, refl, sym, ap, subst, ◌∙◌}
use mathlib.Core.Logic.{inl, inr}
use mathlib.Core.List.{List, []}
use mathlib.Core.Option.{some}
use Rattle.base.specs.Bytes.{eq_bytes}
use Rattle.base.specs.Order.{Test}
use Rattle.base.specs.declared.Answer.{Answer}
use Rattle.base.specs.declared.Answer.TheVariants.{Accepted, Refused}
use Rattle.base.proofs.AnswerLaws.{accepted≢refused}
use Rattle.base.proofs.Theorems.{no_fault}
use Rattle.name.specs.Name.{canonical}
use Rattle.slots.specs.Entry.{family_of, address_of}
use Rattle.slots.specs.Form.{TableEntry, table_bytes, Sound}
use Rattle.slots.proofs.Theorems.{one_sound_table}
use Rattle.table.specs.Steps.{find}
use Rattle.reverse.specs.Entry.{behind, others_at, placed}
use Rattle.reverse.specs.Form.{reverse_bytes, IsReverse, SoundReverse}
use Rattle.reverse.proofs.Theorems.{one_reverse, one_sound_reverse}
use Rattle.leases.specs.Plan.{Sides, Plan, written_first, written_all, after, uncut, lease_plan, end_plan}
use Rattle.leases.specs.Calls.{sides_of, lease_tests, end_tests, CalledOn, Leases, Ends}
use Rattle.leases.specs.Cuts.{CutOff, LeaseCut, EndCut, SecondLease, SecondEnd}
use Rattle.leases.proofs.PlanCases.{sides, lease_first, end_first}
use Rattle.leases.proofs.PlanLaws.{Leasing, leasing, lease_mends, lease_all, refused_stays, lease_between, lease_has_address, lease_behind, lease_names, lease_others, second_lease_refused, second_lease_held, Ending, ending, end_all, end_stays, end_stays_whole, end_between, end_mends, end_names, end_leaves, end_not_behind, end_others, second_end_refused, second_end_between, SecondAnswer, second_end_done}
use Rattle.leases.proofs.CutLaws.{Two}
use Rattle.leases.proofs.RunLaws.{table_sound, reverse_names, form_of, all_done, Again, again, was_planned}
use Rattle.leases.proofs.LeaseLaws.{lease_mendable, end_mendable}

-- ---- any run, cut after its two writes or not at all

-- a run that was cut after both writes was not cut
stored_all : (limit places : ℕ) (tests : List ℕ → List ℕ → List Test) (plan : Sides → Plan) (b c : List ℕ) (k : ℕ) → ((t : Sound limit b) (u : SoundReverse places c) → Two (plan (sides_of t u)))
    → (r : Answer) (b' c' : List ℕ) → CalledOn limit places (tests b c) b c plan r b' c' → CutOff limit places tests plan (suc (suc k)) b c b' c'
stored_all limit places tests plan b c k two r b' c' (inl f) = CutOff.faulty f.number f.fault f.table f.reverse
stored_all limit places tests plan b c k two r b' c' (inr g) =
    let same = sym (all_done k (plan (sides_of g.sound g.sound_reverse)) (sides_of g.sound g.sound_reverse) (two g.sound g.sound_reverse)) in
    CutOff.planned g.all_hold g.sound g.sound_reverse (g.table ∙ ap (λ (s : Sides). table_bytes limit s.table) same) (g.reverse ∙ ap (λ (s : Sides). reverse_bytes places s.names) same)

-- the same bytes have the same names
same_names : (places : ℕ) (c c' : List ℕ) → c ≡ c' → (u : SoundReverse places c) (u' : SoundReverse places c') → u.names ≡ u'.names
same_names places c c' e u u' = one_reverse places u.names u'.names c' (subst (IsReverse places u.names) e u.slots) u'.slots

-- an answer is a refusal or it is not
by_answer : {P : Type 0} (r : Answer) → ((m o : ℕ) → r ≡ Refused m o → P) → ((v : ℕ) → r ≡ Accepted v → P) → P
by_answer (Refused m o) no_answer yes_answer = no_answer m o refl
by_answer (Accepted v) no_answer yes_answer = yes_answer v refl

-- ---- a lease

module _ (limit places : ℕ) (b c name dhcid : List ℕ) (family : ℕ) (address : List ℕ) (policy : ℕ) where
  lease_answers : (k : ℕ) (r r₂ : Answer) (b₀ : List ℕ)
      → Again limit places (λ x y. lease_tests limit places x y name dhcid family address policy) (lease_plan limit places (canonical name) dhcid (family_of family) address policy)
      (lease_mendable limit places name dhcid family address policy) b c k r r₂ b₀
      → SecondLease k r r₂
  unfolding written_first
  lease_answers k r r₂ b₀ (Again.faulty n a same) = subst (SecondLease k r) (sym same) (SecondLease.refused a)
  lease_answers k r r₂ b₀ (Again.planned hold t u a second left) = by_answer r refused_then (λ v e. accepted_then v e k refl)
    where
      refused_then : (m o : ℕ) → r ≡ Refused m o → SecondLease k r r₂
      refused_then m o e =
          let same = second ∙ second_lease_refused limit places (canonical name) dhcid (family_of family) address policy (sides_of t u) m o (sym a ∙ e) k ∙ sym e in
          subst (SecondLease k r) (sym same) (SecondLease.refused e)

      accepted_then : (v : ℕ) → r ≡ Accepted v → (j : ℕ) → k ≡ j → SecondLease k r r₂
      accepted_then v e zero is =
          let same = second ∙ ap (λ (n : ℕ). (lease_plan limit places (canonical name) dhcid (family_of family) address policy (after n (lease_plan limit places (canonical name) dhcid (family_of family) address policy (sides_of t u)) (sides_of t u))).answer) is ∙ sym a in
          subst (SecondLease k r) (sym same) (SecondLease.nothing_done is)
      accepted_then v e (suc j) is =
          let same =
          second
          ∙ ap (λ (n : ℕ). (lease_plan limit places (canonical name) dhcid (family_of family) address policy (after n (lease_plan limit places (canonical name) dhcid (family_of family) address policy (sides_of t u)) (sides_of t u))).answer) is
          ∙ second_lease_held limit places (canonical name) dhcid (family_of family) address policy (sides_of t u) v (sym a ∙ e) j in
          subst (SecondLease k r) (sym same) (SecondLease.held e is)

  pub lease_again : (k : ℕ) (b₁ c₁ : List ℕ) (r r₂ : Answer) (b₀ c₀ b₂ c₂ : List ℕ) → Leases limit places b c name dhcid family address policy r b₀ c₀
      → LeaseCut limit places name dhcid family address policy k b c b₁ c₁ → Leases limit places b₁ c₁ name dhcid family address policy r₂ b₂ c₂
      → (b₂ ≡ b₀) × (c₂ ≡ c₀) × SecondLease k r r₂
  unfolding Leases LeaseCut
  lease_again k b₁ c₁ r r₂ b₀ c₀ b₂ c₂ whole cut second =
      let a =
      again limit places (λ x y. lease_tests limit places x y name dhcid family address policy) (lease_plan limit places (canonical name) dhcid (family_of family) address policy)
      (lease_mendable limit places name dhcid family address policy) b c k b₁ c₁ r r₂ b₀ c₀ b₂ c₂ whole second cut in
      (a.0, a.1, lease_answers k r r₂ b₀ a.2)

  -- one step of an accepted lease: the new table, the old reverse side
  pub lease_one_step : (b₁ c₁ : List ℕ) (r : Answer) (v : ℕ) (b₀ c₀ : List ℕ) → Leases limit places b c name dhcid family address policy r b₀ c₀ → r ≡ Accepted v
      → LeaseCut limit places name dhcid family address policy 1 b c b₁ c₁ → (b₁ ≡ b₀) × (c₁ ≡ c)
  unfolding Leases LeaseCut
  lease_one_step b₁ c₁ r v b₀ c₀ (inl f) a cut = absurd (accepted≢refused (sym a ∙ f.answer))
  lease_one_step b₁ c₁ r v b₀ c₀ (inr g) a (CutOff.faulty n fault e e') = absurd (no_fault (lease_tests limit places b c name dhcid family address policy) n g.all_hold fault)
  lease_one_step b₁ c₁ r v b₀ c₀ (inr g) a (CutOff.planned hold t u e e') =
      let w = was_planned limit places (lease_tests limit places b c name dhcid family address policy) b c _ r b₀ c₀ (inr g) hold t u in
      go w (leasing limit places (canonical name) dhcid (family_of family) address policy (sides_of t u))
    where
      go : (r ≡ (lease_plan limit places (canonical name) dhcid (family_of family) address policy (sides_of t u)).answer)
          × (b₀ ≡ table_bytes limit (uncut (lease_plan limit places (canonical name) dhcid (family_of family) address policy (sides_of t u)) (sides_of t u)).table)
          × (c₀ ≡ reverse_bytes places (uncut (lease_plan limit places (canonical name) dhcid (family_of family) address policy (sides_of t u)) (sides_of t u)).names)
          → Leasing limit places (canonical name) dhcid (family_of family) address policy (sides_of t u) → (b₁ ≡ b₀) × (c₁ ≡ c)
      go w (Leasing.refused m p) = absurd (accepted≢refused (sym a ∙ w.0 ∙ ap (λ (q : Plan). q.answer) p))
      go w (Leasing.accepted x y has d h p) =
          let one = lease_between limit places (canonical name) dhcid (family_of family) address policy (sides_of t u) v (sym w.0 ∙ a) in
          let all = lease_all limit places (canonical name) dhcid (family_of family) address policy (sides_of t u) x y p in (
            e ∙ ap (λ (q : Sides). table_bytes limit q.table) (one ∙ ap (λ (o : _). sides o.table u.names) d) ∙ sym (w.1 ∙ ap (λ (q : Sides). table_bytes limit q.table) all),
            e' ∙ ap (λ (q : Sides). reverse_bytes places q.names) one ∙ sym (form_of places c u),
          )

  -- from the first step on the name has the address
  pub lease_gives : (k : ℕ) (b₁ c₁ : List ℕ) (r : Answer) (v : ℕ) (b₀ c₀ : List ℕ) → Leases limit places b c name dhcid family address policy r b₀ c₀ → r ≡ Accepted v
      → LeaseCut limit places name dhcid family address policy (suc k) b c b₁ c₁ → (s : Sound limit b₁)
      → (e : TableEntry) × (find (canonical name) s.table ≡ some e) × (address_of (family_of family) e ≡ some address)
  unfolding Leases LeaseCut
  lease_gives k b₁ c₁ r v b₀ c₀ (inl f) a cut s = absurd (accepted≢refused (sym a ∙ f.answer))
  lease_gives k b₁ c₁ r v b₀ c₀ (inr g) a (CutOff.faulty n fault e e') s = absurd (no_fault (lease_tests limit places b c name dhcid family address policy) n g.all_hold fault)
  lease_gives k b₁ c₁ r v b₀ c₀ (inr g) a (CutOff.planned hold t u e e') s =
      let w = was_planned limit places (lease_tests limit places b c name dhcid family address policy) b c _ r b₀ c₀ (inr g) hold t u in
      let l = lease_has_address limit places (canonical name) dhcid (family_of family) address policy (sides_of t u) v k (sym w.0 ∙ a) in
      let kept = (lease_mendable limit places name dhcid family address policy).stays_sound b c hold t u (suc k) in
      let same = one_sound_table limit b₁ s (table_sound kept e) in
      (l.0, ap (find (canonical name)) same ∙ l.1, l.2)

  -- after both steps the name is behind the address
  pub lease_puts : (k : ℕ) (b₁ c₁ : List ℕ) (r : Answer) (v : ℕ) (b₀ c₀ : List ℕ) → Leases limit places b c name dhcid family address policy r b₀ c₀ → r ≡ Accepted v
      → LeaseCut limit places name dhcid family address policy (suc (suc k)) b c b₁ c₁ → (u₁ : SoundReverse places c₁) → behind (family_of family) address u₁.names ≡ some (canonical name)
  unfolding Leases LeaseCut
  lease_puts k b₁ c₁ r v b₀ c₀ (inl f) a cut u₁ = absurd (accepted≢refused (sym a ∙ f.answer))
  lease_puts k b₁ c₁ r v b₀ c₀ (inr g) a (CutOff.faulty n fault e e') u₁ = absurd (no_fault (lease_tests limit places b c name dhcid family address policy) n g.all_hold fault)
  lease_puts k b₁ c₁ r v b₀ c₀ (inr g) a (CutOff.planned hold t u e e') u₁ =
      let w = was_planned limit places (lease_tests limit places b c name dhcid family address policy) b c _ r b₀ c₀ (inr g) hold t u in
      let kept = (lease_mendable limit places name dhcid family address policy).stays_sound b c hold t u (suc (suc k)) in
      ap (behind (family_of family) address) (reverse_names kept e' u₁) ∙ lease_behind limit places (canonical name) dhcid (family_of family) address policy (sides_of t u) v k (sym w.0 ∙ a)

  -- every other address keeps its entry, and they their order, wherever the run was cut
  pub lease_keeps_others : (k : ℕ) (b₁ c₁ : List ℕ) → LeaseCut limit places name dhcid family address policy k b c b₁ c₁ → (u : SoundReverse places c) (u₁ : SoundReverse places c₁)
      → others_at (family_of family) address u₁.names ≡ others_at (family_of family) address u.names
  unfolding LeaseCut
  lease_keeps_others k b₁ c₁ (CutOff.faulty n fault e e') u u₁ = ap (others_at (family_of family) address) (same_names places c₁ c e' u₁ u)
  lease_keeps_others k b₁ c₁ (CutOff.planned hold t w e e') u u₁ =
      let kept = (lease_mendable limit places name dhcid family address policy).stays_sound b c hold t w k in
      ap (others_at (family_of family) address) (reverse_names kept e' u₁)
      ∙ lease_others (family_of family) address (canonical name) w.names _ (lease_names limit places (canonical name) dhcid (family_of family) address policy (sides_of t w) k)
      ∙ ap (others_at (family_of family) address) (one_sound_reverse places c w u)

  -- the states that a host leaves which stores one side after the other: nothing, the table alone, both
  pub lease_none_stored : (r : Answer) (b₀ c₀ : List ℕ) → Leases limit places b c name dhcid family address policy r b₀ c₀ → LeaseCut limit places name dhcid family address policy 0 b c b c
  unfolding Leases LeaseCut written_first
  lease_none_stored r b₀ c₀ (inl f) = CutOff.faulty f.number f.fault refl refl
  lease_none_stored r b₀ c₀ (inr g) = CutOff.planned g.all_hold g.sound g.sound_reverse g.sound.slots.form (form_of places c g.sound_reverse)

  pub lease_one_stored : (r : Answer) (b₀ c₀ : List ℕ) → Leases limit places b c name dhcid family address policy r b₀ c₀ → LeaseCut limit places name dhcid family address policy 1 b c b₀ c
  unfolding Leases LeaseCut written_all
  lease_one_stored r b₀ c₀ (inl f) = CutOff.faulty f.number f.fault f.table refl
  lease_one_stored r b₀ c₀ (inr g) = go (leasing limit places (canonical name) dhcid (family_of family) address policy (sides_of g.sound g.sound_reverse))
    where
      go : Leasing limit places (canonical name) dhcid (family_of family) address policy (sides_of g.sound g.sound_reverse)
          → CutOff limit places (λ x y. lease_tests limit places x y name dhcid family address policy) (lease_plan limit places (canonical name) dhcid (family_of family) address policy) 1 b c b₀ c
      go (Leasing.refused m p) =
          let stays = refused_stays limit places (canonical name) dhcid (family_of family) address policy (sides_of g.sound g.sound_reverse) m 1 p in
          CutOff.planned g.all_hold g.sound g.sound_reverse
          (g.table ∙ ap (λ (q : Plan). table_bytes limit (uncut q (sides_of g.sound g.sound_reverse)).table) p ∙ sym (ap (λ (q : Sides). table_bytes limit q.table) stays))
          (form_of places c g.sound_reverse ∙ sym (ap (λ (q : Sides). reverse_bytes places q.names) stays))
      go (Leasing.accepted v u has a h p) =
          let one = lease_first limit places (canonical name) dhcid (family_of family) address policy (sides_of g.sound g.sound_reverse) v u p in
          let all = lease_all limit places (canonical name) dhcid (family_of family) address policy (sides_of g.sound g.sound_reverse) v u p in
          CutOff.planned g.all_hold g.sound g.sound_reverse
          (g.table ∙ ap (λ (q : Sides). table_bytes limit q.table) (all ∙ sym (ap (λ (q : Sides). sides q.table (placed (family_of family) address (canonical name) g.sound_reverse.names)) one)))
          (form_of places c g.sound_reverse ∙ sym (ap (λ (q : Sides). reverse_bytes places q.names) one))

  pub lease_both_stored : (r : Answer) (b₀ c₀ : List ℕ) → Leases limit places b c name dhcid family address policy r b₀ c₀ → (k : ℕ) → LeaseCut limit places name dhcid family address policy (suc (suc k)) b c b₀ c₀
  unfolding Leases LeaseCut
  lease_both_stored r b₀ c₀ h k =
      stored_all limit places (λ x y. lease_tests limit places x y name dhcid family address policy) (lease_plan limit places (canonical name) dhcid (family_of family) address policy) b c k
      (λ t u. (lease_mends limit places (canonical name) dhcid (family_of family) address policy (sides_of t u)).size (sides_of t u)) r b₀ c₀ h

-- ---- an ended lease

module _ (limit places : ℕ) (b c name dhcid : List ℕ) (family : ℕ) (address : List ℕ) where
  end_answers : (k : ℕ) (r r₂ : Answer) (b₀ : List ℕ)
      → Again limit places (λ x y. end_tests limit places x y name dhcid family address) (end_plan (canonical name) dhcid (family_of family) address)
      (end_mendable limit places name dhcid family address) b c k r r₂ b₀
      → SecondEnd limit (canonical name) b₀ k r r₂
  unfolding written_first
  end_answers k r r₂ b₀ (Again.faulty n a same) = subst (SecondEnd limit (canonical name) b₀ k r) (sym same) (SecondEnd.refused a)
  end_answers k r r₂ b₀ (Again.planned hold t u a second left) = by_answer r refused_then (λ v e. accepted_then v e k refl)
    where
      step : ℕ → Answer
      step n = (end_plan (canonical name) dhcid (family_of family) address (after n (end_plan (canonical name) dhcid (family_of family) address (sides_of t u)) (sides_of t u))).answer

      both : after 2 (end_plan (canonical name) dhcid (family_of family) address (sides_of t u)) (sides_of t u) ≡ uncut (end_plan (canonical name) dhcid (family_of family) address (sides_of t u)) (sides_of t u)
      both = all_done 0 (end_plan (canonical name) dhcid (family_of family) address (sides_of t u)) (sides_of t u) ((end_mends (canonical name) dhcid (family_of family) address (sides_of t u) (record { table = t.distinct; names = u.single })).size (sides_of t u))

      s₀ : Sound limit b₀
      s₀ = table_sound ((end_mendable limit places name dhcid family address).stays_sound b c hold t u 2) (left ∙ ap (λ (q : Sides). table_bytes limit q.table) (sym both))

      left_table : s₀.table ≡ (uncut (end_plan (canonical name) dhcid (family_of family) address (sides_of t u)) (sides_of t u)).table
      left_table = ap (λ (q : Sides). q.table) both

      refused_then : (m o : ℕ) → r ≡ Refused m o → SecondEnd limit (canonical name) b₀ k r r₂
      refused_then m o e =
          let same = second ∙ second_end_refused (canonical name) dhcid (family_of family) address (sides_of t u) m o (sym a ∙ e) k ∙ sym e in
          subst (SecondEnd limit (canonical name) b₀ k r) (sym same) (SecondEnd.refused e)

      by_name : (v j : ℕ) → r ≡ Accepted v → k ≡ suc (suc j) → SecondAnswer (canonical name) dhcid (family_of family) address (sides_of t u) (step (suc (suc j))) → SecondEnd limit (canonical name) b₀ k r r₂
      by_name v j e is (SecondAnswer.gone absent answer) =
          subst (SecondEnd limit (canonical name) b₀ k r) (sym (second ∙ ap step is ∙ answer)) (SecondEnd.gone e is s₀ (ap (find (canonical name)) left_table ∙ absent))
      by_name v j e is (SecondAnswer.kept d found answer) =
          subst (SecondEnd limit (canonical name) b₀ k r) (sym (second ∙ ap step is ∙ answer)) (SecondEnd.stands e is s₀ (ap (find (canonical name)) left_table ∙ found))

      accepted_then : (v : ℕ) → r ≡ Accepted v → (j : ℕ) → k ≡ j → SecondEnd limit (canonical name) b₀ k r r₂
      accepted_then v e zero is = subst (SecondEnd limit (canonical name) b₀ k r) (sym (second ∙ ap step is ∙ sym a)) (SecondEnd.nothing_done is)
      accepted_then v e (suc zero) is =
          let same = second ∙ ap step is ∙ second_end_between (canonical name) dhcid (family_of family) address (sides_of t u) v (sym a ∙ e) in
          subst (SecondEnd limit (canonical name) b₀ k r) (sym same) (SecondEnd.between e is)
      accepted_then v e (suc (suc j)) is =
          by_name v j e is (second_end_done (canonical name) dhcid (family_of family) address (sides_of t u) (record { table = t.distinct; names = u.single }) v (sym a ∙ e) j)

  pub end_again : (k : ℕ) (b₁ c₁ : List ℕ) (r r₂ : Answer) (b₀ c₀ b₂ c₂ : List ℕ) → Ends limit places b c name dhcid family address r b₀ c₀
      → EndCut limit places name dhcid family address k b c b₁ c₁ → Ends limit places b₁ c₁ name dhcid family address r₂ b₂ c₂
      → (b₂ ≡ b₀) × (c₂ ≡ c₀) × SecondEnd limit (canonical name) b₀ k r r₂
  unfolding Ends EndCut
  end_again k b₁ c₁ r r₂ b₀ c₀ b₂ c₂ whole cut second =
      let a =
      again limit places (λ x y. end_tests limit places x y name dhcid family address) (end_plan (canonical name) dhcid (family_of family) address)
      (end_mendable limit places name dhcid family address) b c k b₁ c₁ r r₂ b₀ c₀ b₂ c₂ whole second cut in
      (a.0, a.1, end_answers k r r₂ b₀ a.2)

  -- one step of an accepted ended lease: the old table, the new reverse side
  pub end_one_step : (b₁ c₁ : List ℕ) (r : Answer) (v : ℕ) (b₀ c₀ : List ℕ) → Ends limit places b c name dhcid family address r b₀ c₀ → r ≡ Accepted v
      → EndCut limit places name dhcid family address 1 b c b₁ c₁ → (b₁ ≡ b) × (c₁ ≡ c₀)
  unfolding Ends EndCut
  end_one_step b₁ c₁ r v b₀ c₀ (inl f) a cut = absurd (accepted≢refused (sym a ∙ f.answer))
  end_one_step b₁ c₁ r v b₀ c₀ (inr g) a (CutOff.faulty n fault e e') = absurd (no_fault (end_tests limit places b c name dhcid family address) n g.all_hold fault)
  end_one_step b₁ c₁ r v b₀ c₀ (inr g) a (CutOff.planned hold t u e e') =
      let w = was_planned limit places (end_tests limit places b c name dhcid family address) b c _ r b₀ c₀ (inr g) hold t u in
      go w (ending (canonical name) dhcid (family_of family) address (sides_of t u))
    where
      go : (r ≡ (end_plan (canonical name) dhcid (family_of family) address (sides_of t u)).answer)
          × (b₀ ≡ table_bytes limit (uncut (end_plan (canonical name) dhcid (family_of family) address (sides_of t u)) (sides_of t u)).table)
          × (c₀ ≡ reverse_bytes places (uncut (end_plan (canonical name) dhcid (family_of family) address (sides_of t u)) (sides_of t u)).names)
          → Ending (canonical name) dhcid (family_of family) address (sides_of t u) → (b₁ ≡ b) × (c₁ ≡ c₀)
      go w (Ending.refused m p) = absurd (accepted≢refused (sym a ∙ w.0 ∙ ap (λ (q : Plan). q.answer) p))
      go w (Ending.accepted y d p after_it) =
          let one = end_between (canonical name) dhcid (family_of family) address (sides_of t u) v (sym w.0 ∙ a) in
          let all = end_all (canonical name) dhcid (family_of family) address (sides_of t u) y p in (
            e ∙ ap (λ (q : Sides). table_bytes limit q.table) one ∙ sym t.slots.form,
            e' ∙ ap (λ (q : Sides). reverse_bytes places q.names) one ∙ sym (w.2 ∙ ap (λ (q : Sides). reverse_bytes places q.names) all),
          )

  -- from the first step on the name is not behind the address
  pub end_takes : (k : ℕ) (b₁ c₁ : List ℕ) (r : Answer) (v : ℕ) (b₀ c₀ : List ℕ) → Ends limit places b c name dhcid family address r b₀ c₀ → r ≡ Accepted v
      → EndCut limit places name dhcid family address (suc k) b c b₁ c₁ → (u₁ : SoundReverse places c₁) → behind (family_of family) address u₁.names ≡ some (canonical name) → ⊥
  unfolding Ends EndCut
  end_takes k b₁ c₁ r v b₀ c₀ (inl f) a cut u₁ there = absurd (accepted≢refused (sym a ∙ f.answer))
  end_takes k b₁ c₁ r v b₀ c₀ (inr g) a (CutOff.faulty n fault e e') u₁ there = absurd (no_fault (end_tests limit places b c name dhcid family address) n g.all_hold fault)
  end_takes k b₁ c₁ r v b₀ c₀ (inr g) a (CutOff.planned hold t u e e') u₁ there =
      let w = was_planned limit places (end_tests limit places b c name dhcid family address) b c _ r b₀ c₀ (inr g) hold t u in
      let kept = (end_mendable limit places name dhcid family address).stays_sound b c hold t u (suc k) in
      end_not_behind (canonical name) dhcid (family_of family) address (sides_of t u) u.single v k (sym w.0 ∙ a)
      (ap (behind (family_of family) address) (sym (reverse_names kept e' u₁)) ∙ there)

  -- where another name is behind the address, or none, the reverse side stays as it is, wherever the run was cut
  pub end_keeps_another : (k : ℕ) (b₁ c₁ : List ℕ) → EndCut limit places name dhcid family address k b c b₁ c₁ → (u : SoundReverse places c)
      → (behind (family_of family) address u.names ≡ some (canonical name) → ⊥) → c₁ ≡ c
  unfolding EndCut
  end_keeps_another k b₁ c₁ (CutOff.faulty n fault e e') u other = e'
  end_keeps_another k b₁ c₁ (CutOff.planned hold t w e e') u other =
      let same = one_sound_reverse places c w u in
      e' ∙ ap (reverse_bytes places) (end_leaves (canonical name) dhcid (family_of family) address (sides_of t w) k (λ there. other (ap (behind (family_of family) address) (sym same) ∙ there)))
      ∙ sym (form_of places c w)

  pub end_keeps_others : (k : ℕ) (b₁ c₁ : List ℕ) → EndCut limit places name dhcid family address k b c b₁ c₁ → (u : SoundReverse places c) (u₁ : SoundReverse places c₁)
      → others_at (family_of family) address u₁.names ≡ others_at (family_of family) address u.names
  unfolding EndCut
  end_keeps_others k b₁ c₁ (CutOff.faulty n fault e e') u u₁ = ap (others_at (family_of family) address) (same_names places c₁ c e' u₁ u)
  end_keeps_others k b₁ c₁ (CutOff.planned hold t w e e') u u₁ =
      let kept = (end_mendable limit places name dhcid family address).stays_sound b c hold t w k in
      ap (others_at (family_of family) address) (reverse_names kept e' u₁)
      ∙ end_others (family_of family) address (canonical name) w.names _ (end_names (canonical name) dhcid (family_of family) address (sides_of t w) k)
      ∙ ap (others_at (family_of family) address) (one_sound_reverse places c w u)

  -- the states that a host leaves which stores one side after the other: nothing, the reverse side alone, both
  pub end_none_stored : (r : Answer) (b₀ c₀ : List ℕ) → Ends limit places b c name dhcid family address r b₀ c₀ → EndCut limit places name dhcid family address 0 b c b c
  unfolding Ends EndCut written_first
  end_none_stored r b₀ c₀ (inl f) = CutOff.faulty f.number f.fault refl refl
  end_none_stored r b₀ c₀ (inr g) = CutOff.planned g.all_hold g.sound g.sound_reverse g.sound.slots.form (form_of places c g.sound_reverse)

  pub end_one_stored : (r : Answer) (b₀ c₀ : List ℕ) → Ends limit places b c name dhcid family address r b₀ c₀ → EndCut limit places name dhcid family address 1 b c b c₀
  unfolding Ends EndCut
  end_one_stored r b₀ c₀ (inl f) = CutOff.faulty f.number f.fault refl f.reverse
  end_one_stored r b₀ c₀ (inr g) = go (ending (canonical name) dhcid (family_of family) address (sides_of g.sound g.sound_reverse))
    where
      go : Ending (canonical name) dhcid (family_of family) address (sides_of g.sound g.sound_reverse)
          → CutOff limit places (λ x y. end_tests limit places x y name dhcid family address) (end_plan (canonical name) dhcid (family_of family) address) 1 b c b c₀
      go (Ending.refused m p) =
          let stays = end_stays (canonical name) dhcid (family_of family) address (sides_of g.sound g.sound_reverse) m 1 p in
          let whole = end_stays_whole (canonical name) dhcid (family_of family) address (sides_of g.sound g.sound_reverse) m p in
          CutOff.planned g.all_hold g.sound g.sound_reverse
          (g.sound.slots.form ∙ sym (ap (λ (q : Sides). table_bytes limit q.table) stays))
          (g.reverse ∙ ap (λ (q : Sides). reverse_bytes places q.names) (whole ∙ sym stays))
      go (Ending.accepted u a p after_it) =
          let one = end_first (canonical name) dhcid (family_of family) address (sides_of g.sound g.sound_reverse) u p in
          let all = end_all (canonical name) dhcid (family_of family) address (sides_of g.sound g.sound_reverse) u p in
          CutOff.planned g.all_hold g.sound g.sound_reverse
          (g.sound.slots.form ∙ sym (ap (λ (q : Sides). table_bytes limit q.table) one))
          (g.reverse ∙ ap (λ (q : Sides). reverse_bytes places q.names) (all ∙ sym (ap (λ (q : Sides). sides u q.names) one)))

  pub end_both_stored : (r : Answer) (b₀ c₀ : List ℕ) → Ends limit places b c name dhcid family address r b₀ c₀ → (k : ℕ) → EndCut limit places name dhcid family address (suc (suc k)) b c b₀ c₀
  unfolding Ends EndCut
  end_both_stored r b₀ c₀ h k =
      stored_all limit places (λ x y. end_tests limit places x y name dhcid family address) (end_plan (canonical name) dhcid (family_of family) address) b c k
      (λ t u. (end_mends (canonical name) dhcid (family_of family) address (sides_of t u) (record { table = t.distinct; names = u.single })).size (sides_of t u)) r b₀ c₀ h
