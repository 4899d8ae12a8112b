-- Runs on the bytes of both sides, of any call that tests and then carries out a plan: what the promise determines, and that the same again mends a cut, any number of
-- them, where the plan does so on lists and each of its writes leaves sound sides. Assumes nothing.
use Prim.Native.Nat.{ℕ, suc, ◌≤◌}
use mathlib.Core.Path.{◌≡◌, refl, sym, ap, ap₂, subst, ◌∙◌}
use mathlib.Core.Logic.{inl, inr}
use mathlib.Core.List.{List, [], ◌∷◌}
use native.Mathlib.Omega.{arith}
use lib.ListN.{length}
use Rattle.base.specs.Logic.{Every}
use Rattle.base.specs.Order.{Test, AllHold, FirstFault}
use Rattle.base.specs.declared.Answer.{Answer}
use Rattle.base.specs.declared.Answer.TheVariants.{Accepted, Refused}
use Rattle.base.proofs.AnswerLaws.{accepted≢refused}
use Rattle.base.proofs.Theorems.{one_fault, no_fault}
use Rattle.slots.specs.Form.{table_bytes, Sound}
use Rattle.slots.proofs.Theorems.{one_sound_table}
use Rattle.table.proofs.SoundLaws.{SoundEntries}
use Rattle.reverse.specs.Entry.{Single}
use Rattle.reverse.specs.Form.{WellFormed, reverse_bytes, IsReverse, SoundReverse}
use Rattle.reverse.proofs.Theorems.{one_reverse, one_sound_reverse}
use Rattle.leases.specs.Plan.{Sides, Plan, Write, written_first, written_all, after, uncut}
use Rattle.leases.specs.Calls.{sides_of, Faulty, Planned, CalledOn}
use Rattle.leases.specs.Cuts.{CutOff, CutsOff}
use Rattle.leases.proofs.CutLaws.{OneOf, Two, one_of, both_done, Mends, mended, cut_again}

-- lists whose bytes are sound sides
pub record SoundSides (limit places : ℕ) (s : Sides) : Type 0 where
  pub table : SoundEntries limit s.table
  pub each : Every WellFormed s.names
  pub room : length s.names ≤ places
  pub single : Single s.names

module _ {limit places : ℕ} {s : Sides} (h : SoundSides limit places s) where
  abbrev pub table_sound : {b : List ℕ} → b ≡ table_bytes limit s.table → Sound limit b
  table_sound e = record { table = s.table; slots = record { each = h.table.each; room = h.table.room; form = e }; distinct = h.table.distinct }

  pub names_in : {c : List ℕ} → c ≡ reverse_bytes places s.names → IsReverse places s.names c
  unfolding reverse_bytes
  names_in e = record { each = h.each; room = h.room; form = e }

  abbrev pub reverse_sound : {c : List ℕ} → c ≡ reverse_bytes places s.names → SoundReverse places c
  reverse_sound e = record { names = s.names; slots = names_in e; single = h.single }

  pub reverse_names : {c : List ℕ} (e : c ≡ reverse_bytes places s.names) (u : SoundReverse places c) → u.names ≡ s.names
  reverse_names {c} e u = one_reverse places u.names s.names c u.slots (names_in e)

-- the bytes of a sound reverse side are those of its names
pub form_of : (places : ℕ) (c : List ℕ) (u : SoundReverse places c) → c ≡ reverse_bytes places u.names
unfolding reverse_bytes
form_of places c u = u.slots.form

module _ {limit places : ℕ} {b c : List ℕ} where
  -- the lists of sound sides are determined
  pub same_sides : (t t' : Sound limit b) (u u' : SoundReverse places c) → sides_of t u ≡ sides_of t' u'
  same_sides t t' u u' = let table = one_sound_table limit b t t' in let names = one_sound_reverse places c u u' in λ i. record { table = table i; names = names i }

-- ---- a whole run

module _ (limit places : ℕ) (ts : List Test) (b c : List ℕ) (plan : Sides → Plan) where
  -- the promise determines the answer and what both sides hold
  pub one_call : (r q : Answer) (b' c' b'' c'' : List ℕ) → CalledOn limit places ts b c plan r b' c' → CalledOn limit places ts b c plan q b'' c'' → (r ≡ q) × (b' ≡ b'') × (c' ≡ c'')
  one_call r q b' c' b'' c'' (inl f) (inl g) = (
    f.answer ∙ ap (λ (n : ℕ). Refused n 0) (one_fault ts f.number g.number f.fault g.fault) ∙ sym g.answer,
    f.table ∙ sym g.table,
    f.reverse ∙ sym g.reverse,
  )
  one_call r q b' c' b'' c'' (inl f) (inr g) = absurd (no_fault ts f.number g.all_hold f.fault)
  one_call r q b' c' b'' c'' (inr f) (inl g) = absurd (no_fault ts g.number f.all_hold g.fault)
  one_call r q b' c' b'' c'' (inr f) (inr g) =
      let same = same_sides f.sound g.sound f.sound_reverse g.sound_reverse in (
        f.answer ∙ ap (λ (s : Sides). (plan s).answer) same ∙ sym g.answer,
        f.table ∙ ap (λ (s : Sides). table_bytes limit (uncut (plan s) s).table) same ∙ sym g.table,
        f.reverse ∙ ap (λ (s : Sides). reverse_bytes places (uncut (plan s) s).names) same ∙ sym g.reverse,
      )

  -- an accepted call has found the reverse side sound
  pub accepted_reverse : (r : Answer) (b' c' : List ℕ) → CalledOn limit places ts b c plan r b' c' → (v : ℕ) → r ≡ Accepted v → SoundReverse places c
  accepted_reverse r b' c' (inl f) v a = absurd (accepted≢refused (sym a ∙ f.answer))
  accepted_reverse r b' c' (inr g) v a = g.sound_reverse

  -- where the tests hold, the plan was carried out, on whatever lists the sides have
  pub was_planned : (r : Answer) (b' c' : List ℕ) → CalledOn limit places ts b c plan r b' c' → AllHold ts → (t : Sound limit b) (u : SoundReverse places c)
      → (r ≡ (plan (sides_of t u)).answer) × (b' ≡ table_bytes limit (uncut (plan (sides_of t u)) (sides_of t u)).table) × (c' ≡ reverse_bytes places (uncut (plan (sides_of t u)) (sides_of t u)).names)
  was_planned r b' c' (inl f) h t u = absurd (no_fault ts f.number h f.fault)
  was_planned r b' c' (inr g) h t u =
      let same = same_sides g.sound t g.sound_reverse u in (
        g.answer ∙ ap (λ (s : Sides). (plan s).answer) same,
        g.table ∙ ap (λ (s : Sides). table_bytes limit (uncut (plan s) s).table) same,
        g.reverse ∙ ap (λ (s : Sides). reverse_bytes places (uncut (plan s) s).names) same,
      )

-- ---- runs that are cut

-- two writes are all
pub all_done : (k : ℕ) (p : Plan) (s : Sides) → Two p → after (suc (suc k)) p s ≡ uncut p s
unfolding written_first written_all
all_done k p s (Two.none e) = ap (λ (ws : List Write). written_first (suc (suc k)) ws s) e ∙ sym (ap (λ (ws : List Write). written_all ws s) e)
all_done k p s (Two.two x y e) = ap (λ (ws : List Write). written_first (suc (suc k)) ws s) e ∙ both_done k x y s ∙ sym (ap (λ (ws : List Write). written_all ws s) e)

-- what a call's tests and plan have to have
pub record Mendable (limit places : ℕ) (tests : List ℕ → List ℕ → List Test) (plan : Sides → Plan) : Type 0 where
  -- the tests are of both sides, and of nothing else that a run changes
  pub sound_table : (b c : List ℕ) → AllHold (tests b c) → Sound limit b
  pub sound_reverse : (b c : List ℕ) → AllHold (tests b c) → SoundReverse places c
  pub hold_again : (b c b' c' : List ℕ) → AllHold (tests b c) → Sound limit b' → SoundReverse places c' → AllHold (tests b' c')
  -- each write leaves sound sides
  pub stays_sound : (b c : List ℕ) → AllHold (tests b c) → (t : Sound limit b) (u : SoundReverse places c) (k : ℕ) → SoundSides limit places (after k (plan (sides_of t u)) (sides_of t u))
  -- and on lists the same again mends a cut
  pub mends : (b c : List ℕ) (t : Sound limit b) (u : SoundReverse places c) → Mends plan (sides_of t u)

module _ (limit places : ℕ) (tests : List ℕ → List ℕ → List Test) (plan : Sides → Plan) (m : Mendable limit places tests plan) where
  -- what the second run comes to: refused by a test as the first is; or the plan's, on the lists that the cut left
  pub data Again (b c : List ℕ) (k : ℕ) (r r₂ : Answer) (b₀ : List ℕ) : Type 0 where
    faulty : (n : ℕ) → r ≡ Refused n 0 → r₂ ≡ r → Again b c k r r₂ b₀
    planned : AllHold (tests b c) → (t : Sound limit b) (u : SoundReverse places c) → r ≡ (plan (sides_of t u)).answer → r₂ ≡ (plan (after k (plan (sides_of t u)) (sides_of t u))).answer
        → b₀ ≡ table_bytes limit (uncut (plan (sides_of t u)) (sides_of t u)).table → Again b c k r r₂ b₀

  module _ (b c : List ℕ) (k : ℕ) (b₁ c₁ : List ℕ) (r r₂ : Answer) (b₀ c₀ b₂ c₂ : List ℕ) (whole : CalledOn limit places (tests b c) b c plan r b₀ c₀)
      (second : CalledOn limit places (tests b₁ c₁) b₁ c₁ plan r₂ b₂ c₂) where
    -- the cut left the lists s₁ of the sides s
    module _ (hold : AllHold (tests b c)) (t : Sound limit b) (u : SoundReverse places c) (e : b₁ ≡ table_bytes limit (after k (plan (sides_of t u)) (sides_of t u)).table)
        (e' : c₁ ≡ reverse_bytes places (after k (plan (sides_of t u)) (sides_of t u)).names) where
      s₁ : Sides
      s₁ = after k (plan (sides_of t u)) (sides_of t u)

      kept : SoundSides limit places s₁
      unfolding s₁
      kept = m.stays_sound b c hold t u k

      t₁ : Sound limit b₁
      unfolding s₁
      t₁ = table_sound kept e

      u₁ : SoundReverse places c₁
      unfolding s₁
      u₁ = reverse_sound kept e'

      sides_are : sides_of t₁ u₁ ≡ s₁
      unfolding s₁ t₁
      sides_are = let names = reverse_names kept e' u₁ in λ i. record { table = s₁.table; names = names i }

      hold₁ : AllHold (tests b₁ c₁)
      hold₁ = m.hold_again b c b₁ c₁ hold t₁ u₁

      ends_alike : uncut (plan s₁) s₁ ≡ uncut (plan (sides_of t u)) (sides_of t u)
      unfolding s₁
      ends_alike =
          let h = m.mends b c t u in
          mended plan (sides_of t u) h (after k (plan (sides_of t u)) (sides_of t u)) (one_of (plan (sides_of t u)) (sides_of t u) (h.size (sides_of t u)) k)

      again_planned : (b₂ ≡ b₀) × (c₂ ≡ c₀) × Again b c k r r₂ b₀
      unfolding s₁
      again_planned =
          let w = was_planned limit places (tests b c) b c plan r b₀ c₀ whole hold t u in
          let v = was_planned limit places (tests b₁ c₁) b₁ c₁ plan r₂ b₂ c₂ second hold₁ t₁ u₁ in (
            v.1 ∙ ap (λ (s : Sides). table_bytes limit (uncut (plan s) s).table) sides_are ∙ ap (λ (s : Sides). table_bytes limit s.table) ends_alike ∙ sym w.1,
            v.2 ∙ ap (λ (s : Sides). reverse_bytes places (uncut (plan s) s).names) sides_are ∙ ap (λ (s : Sides). reverse_bytes places s.names) ends_alike ∙ sym w.2,
            Again.planned hold t u w.0 (v.0 ∙ ap (λ (s : Sides). (plan s).answer) sides_are) w.1,
          )

    again_faulty : (n : ℕ) → FirstFault (tests b c) n → b₁ ≡ b → c₁ ≡ c → (b₂ ≡ b₀) × (c₂ ≡ c₀) × Again b c k r r₂ b₀
    again_faulty n fault e e' =
        let second_there = subst (λ (y : List ℕ). CalledOn limit places (tests b y) b y plan r₂ b₂ c₂) e' (subst (λ (x : List ℕ). CalledOn limit places (tests x c₁) x c₁ plan r₂ b₂ c₂) e second) in
        let same = one_call limit places (tests b c) b c plan r₂ r b₂ c₂ b₀ c₀ second_there whole in
        (same.1, same.2, by_fault whole same.0)
      where
        by_fault : CalledOn limit places (tests b c) b c plan r b₀ c₀ → r₂ ≡ r → Again b c k r r₂ b₀
        by_fault (inl f) same = Again.faulty f.number f.answer same
        by_fault (inr g) same = absurd (no_fault (tests b c) n g.all_hold fault)

    -- the same again after a cut: both sides as the uncut run leaves them
    pub again : CutOff limit places tests plan k b c b₁ c₁ → (b₂ ≡ b₀) × (c₂ ≡ c₀) × Again b c k r r₂ b₀
    again (CutOff.faulty n fault e e') = again_faulty n fault e e'
    again (CutOff.planned hold t u e e') = again_planned hold t u e e'

  -- ---- any number of cuts

  -- a run that is cut behind one that was cut leaves one of the states that one run leaves
  module _ (b c : List ℕ) (hold : AllHold (tests b c)) (t : Sound limit b) (u : SoundReverse places c) where
    s : Sides
    s = sides_of t u

    -- the three, by the number of writes
    three : (w : Sides) → OneOf (plan s) s w → (k : ℕ) × (k ≤ 2) × (after k (plan s) s ≡ w)
    unfolding written_first s
    three w (OneOf.before e) = (0, omega arith, sym e)
    three w (OneOf.between e) = (1, omega arith, sym e)
    three w (OneOf.done e) = (2, omega arith, all_done 0 (plan (sides_of t u)) (sides_of t u) ((m.mends b c t u).size (sides_of t u)) ∙ sym e)

    cut_twice : (k j : ℕ) (b₁ c₁ b₂ c₂ : List ℕ) → b₁ ≡ table_bytes limit (after k (plan s) s).table → c₁ ≡ reverse_bytes places (after k (plan s) s).names → CutOff limit places tests plan j b₁ c₁ b₂ c₂
        → (i : ℕ) × (i ≤ 2) × CutOff limit places tests plan i b c b₂ c₂
    unfolding s
    cut_twice k j b₁ c₁ b₂ c₂ e e' (CutOff.faulty n fault f f') =
        absurd (no_fault (tests b₁ c₁) n (m.hold_again b c b₁ c₁ hold (table_sound (m.stays_sound b c hold t u k) e) (reverse_sound (m.stays_sound b c hold t u k) e')) fault)
    cut_twice k j b₁ c₁ b₂ c₂ e e' (CutOff.planned hold₁ t₁ u₁ f f') =
        let h = m.mends b c t u in
        let kept = m.stays_sound b c hold t u k in
        let table = one_sound_table limit b₁ t₁ (table_sound kept e) in
        let names = reverse_names kept e' u₁ in
        let same : sides_of t₁ u₁ ≡ after k (plan s) s = λ i. record { table = table i; names = names i } in
        let one = cut_again plan s h (after k (plan s) s) (one_of (plan s) s (h.size s) k) j in
        let w = three (after j (plan (after k (plan s) s)) (after k (plan s) s)) one in
        let left : after j (plan (sides_of t₁ u₁)) (sides_of t₁ u₁) ≡ after w.0 (plan s) s = ap (λ (v : Sides). after j (plan v) v) same ∙ sym w.2 in
        (w.0, w.1, CutOff.planned hold t u (f ∙ ap (λ (v : Sides). table_bytes limit v.table) left) (f' ∙ ap (λ (v : Sides). reverse_bytes places v.names) left))

  cut_behind : (b c : List ℕ) (k j : ℕ) (b₁ c₁ b₂ c₂ : List ℕ) → k ≤ 2 → CutOff limit places tests plan k b c b₁ c₁ → CutOff limit places tests plan j b₁ c₁ b₂ c₂ → (i : ℕ) × (i ≤ 2) × CutOff limit places tests plan i b c b₂ c₂
  unfolding s
  cut_behind b c k j b₁ c₁ b₂ c₂ few (CutOff.faulty n fault e e') next =
      let there = subst (λ (y : List ℕ). CutOff limit places tests plan j b y b₂ c₂) e' (subst (λ (x : List ℕ). CutOff limit places tests plan j x c₁ b₂ c₂) e next) in
      (0, omega arith, unchanged there)
    where
      unchanged : CutOff limit places tests plan j b c b₂ c₂ → CutOff limit places tests plan 0 b c b₂ c₂
      unchanged (CutOff.faulty n' fault' f f') = CutOff.faulty n' fault' f f'
      unchanged (CutOff.planned hold t u f f') = absurd (no_fault (tests b c) n hold fault)
  cut_behind b c k j b₁ c₁ b₂ c₂ few (CutOff.planned hold t u e e') next = cut_twice b c hold t u k j b₁ c₁ b₂ c₂ e e' next

  often_from : (b c : List ℕ) (ks : List ℕ) (k : ℕ) (b₁ c₁ b₂ c₂ : List ℕ) → k ≤ 2 → CutOff limit places tests plan k b c b₁ c₁ → CutsOff limit places tests plan ks b₁ c₁ b₂ c₂
      → (i : ℕ) × (i ≤ 2) × CutOff limit places tests plan i b c b₂ c₂
  often_from b c [] k b₁ c₁ b₂ c₂ few cut (CutsOff.over e e') =
      (k, few, subst (λ (y : List ℕ). CutOff limit places tests plan k b c b₂ y) (sym e') (subst (λ (x : List ℕ). CutOff limit places tests plan k b c x c₁) (sym e) cut))
  often_from b c (j ∷ ks) k b₁ c₁ b₂ c₂ few cut (CutsOff.more b₃ c₃ next rest) =
      let one = cut_behind b c k j b₁ c₁ b₃ c₃ few cut next in
      often_from b c ks one.0 b₃ c₃ b₂ c₂ one.1 one.2 rest

  -- the states that any number of cut runs leave are those that one leaves which is cut before, between or after its writes
  pub often : (b c : List ℕ) (ks : List ℕ) (b₂ c₂ : List ℕ) (r : Answer) (b₀ c₀ : List ℕ) → CalledOn limit places (tests b c) b c plan r b₀ c₀ → CutsOff limit places tests plan ks b c b₂ c₂
      → (i : ℕ) × (i ≤ 2) × CutOff limit places tests plan i b c b₂ c₂
  unfolding written_first
  often b c ks b₂ c₂ r b₀ c₀ (inl f) cuts = often_from b c ks 0 b c b₂ c₂ (omega arith) (CutOff.faulty f.number f.fault refl refl) cuts
  often b c ks b₂ c₂ r b₀ c₀ (inr g) cuts =
      often_from b c ks 0 b c b₂ c₂ (omega arith) (CutOff.planned g.all_hold g.sound g.sound_reverse g.sound.slots.form (reverse_form g.sound_reverse)) cuts
    where
      reverse_form : (u : SoundReverse places c) → c ≡ reverse_bytes places u.names
      reverse_form u = form_of places c u
