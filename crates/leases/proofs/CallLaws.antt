-- The two calls' promises: one answer, nothing changed where refused, sound sides after each step, and any number of cuts. Assumes nothing.
use Prim.Native.Nat.{ℕ, ◌≤◌}
use mathlib.Core.Path.{◌≡◌, refl, sym, ap, subst, ◌∙◌}
use mathlib.Core.Logic.{inl, inr}
use mathlib.Core.List.{List}
use Rattle.base.specs.Order.{Test}
use Rattle.base.specs.declared.Answer.{Answer}
use Rattle.base.specs.declared.Answer.TheVariants.{Refused}
use Rattle.base.proofs.AnswerLaws.{accepted≢refused}
use Rattle.name.specs.Name.{canonical}
use Rattle.slots.specs.Entry.{family_of}
use Rattle.slots.specs.Form.{table_bytes, Sound}
use Rattle.reverse.specs.Form.{reverse_bytes, SoundReverse}
use Rattle.leases.specs.Plan.{Sides, Plan, uncut, written_all, lease_plan, end_plan}
use Rattle.leases.specs.Calls.{sides_of, lease_tests, end_tests, Leases, Ends}
use Rattle.leases.specs.Cuts.{CutOff, LeaseCut, LeaseCuts, EndCut, EndCuts}
use Rattle.leases.proofs.PlanLaws.{Leasing, leasing, Ending, ending, end_stays_whole}
use Rattle.leases.proofs.RunLaws.{Mendable, table_sound, reverse_sound, form_of, one_call, often}
use Rattle.leases.proofs.LeaseLaws.{lease_mendable, end_mendable}

-- a cut run of any call leaves sound sides
cut_sound : (limit places : ℕ) (tests : List ℕ → List ℕ → List Test) (plan : Sides → Plan) → Mendable limit places tests plan → (k : ℕ) (b c b₁ c₁ : List ℕ)
    → CutOff limit places tests plan k b c b₁ c₁ → Sound limit b → SoundReverse places c → Sound limit b₁ × SoundReverse places c₁
cut_sound limit places tests plan m k b c b₁ c₁ (CutOff.faulty n fault e e') s u = (subst (Sound limit) (sym e) s, subst (SoundReverse places) (sym e') u)
cut_sound limit places tests plan m k b c b₁ c₁ (CutOff.planned hold t w e e') s u = let kept = m.stays_sound b c hold t w k in (table_sound kept e, reverse_sound kept e')

-- ---- a lease

module _ (limit places : ℕ) (b c name dhcid : List ℕ) (family : ℕ) (address : List ℕ) (policy : ℕ) where
  pub one_leased : (r q : Answer) (b' c' b'' c'' : List ℕ) → Leases limit places b c name dhcid family address policy r b' c' → Leases limit places b c name dhcid family address policy q b'' c''
      → (r ≡ q) × (b' ≡ b'') × (c' ≡ c'')
  unfolding Leases
  one_leased r q b' c' b'' c'' h k =
      one_call limit places (lease_tests limit places b c name dhcid family address policy) b c (lease_plan limit places (canonical name) dhcid (family_of family) address policy) r q b' c' b'' c'' h k

  pub unleased : (r : Answer) (b' c' : List ℕ) → Leases limit places b c name dhcid family address policy r b' c' → (n at : ℕ) → r ≡ Refused n at → (b' ≡ b) × (c' ≡ c)
  unfolding Leases written_all
  unleased r b' c' (inl f) n at e = (f.table, f.reverse)
  unleased r b' c' (inr g) n at e = go (leasing limit places (canonical name) dhcid (family_of family) address policy (sides_of g.sound g.sound_reverse))
    where
      go : Leasing limit places (canonical name) dhcid (family_of family) address policy (sides_of g.sound g.sound_reverse) → (b' ≡ b) × (c' ≡ c)
      go (Leasing.refused m p) = (
        g.table ∙ ap (λ (q : Plan). table_bytes limit (uncut q (sides_of g.sound g.sound_reverse)).table) p ∙ sym g.sound.slots.form,
        g.reverse ∙ ap (λ (q : Plan). reverse_bytes places (uncut q (sides_of g.sound g.sound_reverse)).names) p ∙ sym (form_of places c g.sound_reverse),
      )
      go (Leasing.accepted v u has a h p) = absurd (accepted≢refused (sym (ap (λ (q : Plan). q.answer) p) ∙ sym g.answer ∙ e))

  pub leased_sound : (k : ℕ) (b₁ c₁ : List ℕ) → LeaseCut limit places name dhcid family address policy k b c b₁ c₁ → Sound limit b → SoundReverse places c → Sound limit b₁ × SoundReverse places c₁
  unfolding LeaseCut
  leased_sound k b₁ c₁ cut s u = cut_sound limit places _ _ (lease_mendable limit places name dhcid family address policy) k b c b₁ c₁ cut s u

  pub leases_often : (r : Answer) (b₀ c₀ : List ℕ) → Leases limit places b c name dhcid family address policy r b₀ c₀ → (ks : List ℕ) (b₁ c₁ : List ℕ)
      → LeaseCuts limit places name dhcid family address policy ks b c b₁ c₁ → (k : ℕ) × (k ≤ 2) × LeaseCut limit places name dhcid family address policy k b c b₁ c₁
  unfolding Leases LeaseCut LeaseCuts
  leases_often r b₀ c₀ whole ks b₁ c₁ cuts = often limit places _ _ (lease_mendable limit places name dhcid family address policy) b c ks b₁ c₁ r b₀ c₀ whole cuts

-- ---- an ended lease

module _ (limit places : ℕ) (b c name dhcid : List ℕ) (family : ℕ) (address : List ℕ) where
  pub one_ended : (r q : Answer) (b' c' b'' c'' : List ℕ) → Ends limit places b c name dhcid family address r b' c' → Ends limit places b c name dhcid family address q b'' c''
      → (r ≡ q) × (b' ≡ b'') × (c' ≡ c'')
  unfolding Ends
  one_ended r q b' c' b'' c'' h k =
      one_call limit places (end_tests limit places b c name dhcid family address) b c (end_plan (canonical name) dhcid (family_of family) address) r q b' c' b'' c'' h k

  pub unended : (r : Answer) (b' c' : List ℕ) → Ends limit places b c name dhcid family address r b' c' → (n at : ℕ) → r ≡ Refused n at → (b' ≡ b) × (c' ≡ c)
  unfolding Ends
  unended r b' c' (inl f) n at e = (f.table, f.reverse)
  unended r b' c' (inr g) n at e = go (ending (canonical name) dhcid (family_of family) address (sides_of g.sound g.sound_reverse))
    where
      go : Ending (canonical name) dhcid (family_of family) address (sides_of g.sound g.sound_reverse) → (b' ≡ b) × (c' ≡ c)
      go (Ending.refused m p) =
          let stays = end_stays_whole (canonical name) dhcid (family_of family) address (sides_of g.sound g.sound_reverse) m p in (
            g.table ∙ ap (λ (q : Sides). table_bytes limit q.table) stays ∙ sym g.sound.slots.form,
            g.reverse ∙ ap (λ (q : Sides). reverse_bytes places q.names) stays ∙ sym (form_of places c g.sound_reverse),
          )
      go (Ending.accepted u a p after_it) = absurd (accepted≢refused (sym (ap (λ (q : Plan). q.answer) p) ∙ sym g.answer ∙ e))

  pub ended_sound : (k : ℕ) (b₁ c₁ : List ℕ) → EndCut limit places name dhcid family address k b c b₁ c₁ → Sound limit b → SoundReverse places c → Sound limit b₁ × SoundReverse places c₁
  unfolding EndCut
  ended_sound k b₁ c₁ cut s u = cut_sound limit places _ _ (end_mendable limit places name dhcid family address) k b c b₁ c₁ cut s u

  pub ends_often : (r : Answer) (b₀ c₀ : List ℕ) → Ends limit places b c name dhcid family address r b₀ c₀ → (ks : List ℕ) (b₁ c₁ : List ℕ)
      → EndCuts limit places name dhcid family address ks b c b₁ c₁ → (k : ℕ) × (k ≤ 2) × EndCut limit places name dhcid family address k b c b₁ c₁
  unfolding Ends EndCut EndCuts
  ends_often r b₀ c₀ whole ks b₁ c₁ cuts = often limit places _ _ (end_mendable limit places name dhcid family address) b c ks b₁ c₁ r b₀ c₀ whole cuts
