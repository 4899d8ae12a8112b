-- Demand 2, from the calls' promises. Assumes nothing.
use Prim.Native.Nat.{ℕ, ◌≤◌}
use mathlib.Core.Bool.{true, true≢false, false≢true}
use mathlib.Core.Path.{◌≡◌, refl, sym, ap, subst, ◌∙◌}
use mathlib.Core.Logic.{inl, inr, ⊎_elim}
use mathlib.Core.List.{List, [], ◌∷◌, ◌++◌}
use mathlib.Core.Option.{Option, none, some, some-injective, some-ne-none, none-ne-some}
use native.Mathlib.Omega.{arith}
use lib.ListN.{length}
use borrow.Author.Tests.{lt-ltb}
use Rattle.base.specs.Bytes.{eq_bytes}
use Rattle.base.specs.Dhcid.{well_formed}
use Rattle.base.specs.Order.{Test, AllHold}
use Rattle.base.specs.declared.Answer.{Answer}
use Rattle.base.specs.declared.Answer.TheVariants.{Accepted, Refused}
use Rattle.base.proofs.AnswerLaws.{accepted≢refused}
use Rattle.base.proofs.Lists.{map_append}
use Rattle.base.proofs.Tests.{eq_bytes_true, eq_eq_bytes, ne_eq_bytes}
use Rattle.base.proofs.Theorems.{one_fault, no_fault}
use Rattle.name.specs.Name.{Proper, canonical}
use Rattle.slots.specs.Effect.{entered, refreshed, taken_over, deleted}
use Rattle.slots.specs.Entry.{names, address_of, address_size, other, with_address, with_holder}
use Rattle.slots.specs.Form.{TableEntry, WellFormed, table_bytes, IsTable, Sound}
use Rattle.slots.specs.Promise.{is_address}
use Rattle.slots.specs.declared.Family.{Family}
use Rattle.slots.specs.declared.Family.TheVariants.{V4, V6}
use Rattle.slots.proofs.Theorems.{one_table, one_sound_table}
use Rattle.table.specs.Steps.{StepOutcome, find, changed, without, accepted_with, add, remove, clear}
use Rattle.table.specs.Calls.{Called, KnownPolicy}
use Rattle.table.specs.Demand2.{others, Ordered, MayInstall, Installs, LeftOf, Deleted, Cleared}
use Rattle.table.proofs.CaseLaws.{Adding, add_case, Removing, remove_case, Clearing, clear_case}
use Rattle.table.proofs.OthersLaws.{others_changed, names_changed, find_changed, others_last, find_last, others_without, find_without}
use Rattle.table.proofs.SoundLaws.{SoundEntries, entered_well_formed, taken_well_formed, refreshed_well_formed, deleted_well_formed, keeps_name, entered_name, taken_keeps_name, sound_changed, sound_last, sound_without}

-- ---- a call's answer and what it leaves are determined

module _ (limit : ℕ) (ts : List Test) (b : List ℕ) (step : List TableEntry → StepOutcome (List ℕ)) where
  pub one_call : (r q : Answer) (left also : List ℕ) → Called limit ts b step r left → Called limit ts b step q also → (r ≡ q) × (left ≡ also)
  one_call r q left also (inl f) (inl g) = (
    f.answer ∙ ap (λ (n : ℕ). Refused n 0) (one_fault ts f.number g.number f.fault g.fault) ∙ sym g.answer,
    f.unchanged ∙ sym g.unchanged,
  )
  one_call r q left also (inl f) (inr g) = absurd (no_fault ts f.number g.all_hold f.fault)
  one_call r q left also (inr f) (inl g) = absurd (no_fault ts g.number f.all_hold g.fault)
  one_call r q left also (inr f) (inr g) =
      let same = one_sound_table limit b f.sound g.sound in (
        f.answer ∙ ap (λ (t : List TableEntry). (step t).answer) same ∙ sym g.answer,
        f.table ∙ ap (λ (t : List TableEntry). table_bytes limit (step t).table) same ∙ sym g.table,
      )

  -- where the tests hold, the step was made, on whatever entries b has
  pub was_stepped : (r : Answer) (left : List ℕ) → Called limit ts b step r left → AllHold ts → (t : List TableEntry) → IsTable limit t b
      → (r ≡ (step t).answer) × (left ≡ table_bytes limit (step t).table)
  was_stepped r left (inl f) h t table = absurd (no_fault ts f.number h f.fault)
  was_stepped r left (inr s) h t table =
      let same = one_table limit s.sound.table t b s.sound.slots table in
      (s.answer ∙ ap (λ (u : List TableEntry). (step u).answer) same, s.table ∙ ap (λ (u : List TableEntry). table_bytes limit (step u).table) same)

-- the bytes written from sound entries are sound, and theirs
abbrev pub left_sound : (limit : ℕ) (left : List ℕ) (u : List TableEntry) → SoundEntries limit u → left ≡ table_bytes limit u → Sound limit left
left_sound limit left u s e = record { table = u; slots = record { each = s.each; room = s.room; form = e }; distinct = s.distinct }

same_holder : (k d : List ℕ) → eq_bytes k d ≡ true → some k ≡ some d
same_holder k d e = ap some (eq_bytes_true k d e)

at_address : (f : Family) (x : List ℕ) (e : TableEntry) → address_of f (with_address f (some x) e) ≡ some x
at_address V4 x e = refl
at_address V6 x e = refl

module _ (f : Family) (x : List ℕ) (e : TableEntry) where
  put_holder : (with_address f (some x) e).holder ≡ e.holder
  put_holder = go f
    where
      go : (g : Family) → (with_address g (some x) e).holder ≡ e.holder
      go V4 = refl
      go V6 = refl

taken_holder : (d : List ℕ) (f : Family) (x : List ℕ) (e : TableEntry) → (taken_over d f x e).holder ≡ some d
taken_holder d V4 x e = refl
taken_holder d V6 x e = refl

pub is_address_lem : (o : Option (List ℕ)) (x : List ℕ) → is_address o x ≡ true → o ≡ some x
is_address_lem none x e = absurd (false≢true e)
is_address_lem (some y) x e = ap some (eq_bytes_true y x e)

accepted_value : (v w : ℕ) → Accepted v ≡ Accepted w → v ≡ w
accepted_value v w e = cc

-- what a step on sound entries leaves: sound again, and every other entry as it was
pub record Left (limit : ℕ) (n : List ℕ) (t : List TableEntry) (o : StepOutcome (List ℕ)) : Type 0 where
  pub sound : SoundEntries limit o.table
  pub else_same : others n o.table ≡ others n t

module _ (limit : ℕ) (b : List ℕ) (s : Sound limit b) (n : List ℕ) where
  one_found : (c e : TableEntry) → find n s.table ≡ some c → find n s.table ≡ some e → c ≡ e
  one_found c e p q = some-injective c e (sym p ∙ q)

  held_both : (c e : TableEntry) (k : List ℕ) → find n s.table ≡ some c → find n s.table ≡ some e → c.holder ≡ none → e.holder ≡ some k → ⊥
  held_both c e k p q by_nobody by_k = none-ne-some k (sym by_nobody ∙ ap (λ (y : TableEntry). y.holder) (one_found c e p q) ∙ by_k)

  known_sound : SoundEntries limit s.table
  known_sound = record { each = s.slots.each; room = s.slots.room; distinct = s.distinct }

  -- a refusal
  as_it_was : (r : Answer) → Left limit n s.table (record { answer = r; table = s.table })
  as_it_was r = record { sound = known_sound; else_same = refl }

  -- an entry changed
  with_change : (r : Answer) (f : TableEntry → TableEntry) → ((e : TableEntry) → (f e).name ≡ e.name) → ((e : TableEntry) → find n s.table ≡ some e → WellFormed e → WellFormed (f e))
      → Left limit n s.table (record { answer = r; table = changed n f s.table })
  with_change r f keeps well =
      record {
        sound = sound_changed limit s.table n known_sound f keeps well;
        else_same = others_changed n f keeps s.table;
      }

  -- ---- add

  module _ (d : List ℕ) (f : Family) (x : List ℕ) (policy : ℕ) (proper : Proper n) (lower : canonical n ≡ n) (good : well_formed d ≡ true) (size : length x ≡ address_size f) where
    by_adding : (o : StepOutcome (List ℕ)) → Adding eq_bytes s.table n d f x limit policy o → Left limit n s.table o
    by_adding o (Adding.put_last found room e) =
        subst (Left limit n s.table) (sym e)
        (record {
          sound = sound_last limit s.table n known_sound (entered n d f x) (entered_well_formed d f x good size n proper lower) (entered_name n d f x) found room;
          else_same = others_last n s.table (entered n d f x) (entered_name n d f x);
        })
    by_adding o (Adding.full found room e) = subst (Left limit n s.table) (sym e) (as_it_was (Refused 32 0))
    by_adding o (Adding.by_hand c found holder e) = subst (Left limit n s.table) (sym e) (as_it_was (Refused 31 0))
    by_adding o (Adding.same_client c k found holder same e) =
        subst (Left limit n s.table) (sym e) (with_change (Accepted 1) (refreshed f x) (keeps_name f (some x)) (λ c' g w. refreshed_well_formed d f x good size c' w))
    by_adding o (Adding.first_wins c k found holder differs p e) = subst (Left limit n s.table) (sym e) (as_it_was (Refused 30 0))
    by_adding o (Adding.latest_wins c k found holder differs p e) =
        subst (Left limit n s.table) (sym e) (with_change (Accepted 2) (taken_over d f x) (taken_keeps_name d f x) (λ c' g w. taken_well_formed d f x good size c' w))

    pub add_leaves : Left limit n s.table (add limit eq_bytes s.table n d f x policy)
    add_leaves = by_adding (add limit eq_bytes s.table n d f x policy) (add_case eq_bytes s.table n d f x limit policy)

    -- every name keeps its place, and a new one stands last
    by_order : (o : StepOutcome (List ℕ)) → Adding eq_bytes s.table n d f x limit policy o → Ordered n (names s.table) (names o.table)
    by_order o (Adding.put_last found room e) =
        inr (ap (λ (y : StepOutcome (List ℕ)). names y.table) e ∙ map_append (λ (c : TableEntry). c.name) s.table (entered n d f x ∷ []) ∙ ap (λ (m : List ℕ). names s.table ++ m ∷ []) (entered_name n d f x))
    by_order o (Adding.full found room e) = inl (ap (λ (y : StepOutcome (List ℕ)). names y.table) e)
    by_order o (Adding.by_hand c found holder e) = inl (ap (λ (y : StepOutcome (List ℕ)). names y.table) e)
    by_order o (Adding.same_client c k found holder same e) = inl (ap (λ (y : StepOutcome (List ℕ)). names y.table) e ∙ names_changed n (refreshed f x) (keeps_name f (some x)) s.table)
    by_order o (Adding.first_wins c k found holder differs p e) = inl (ap (λ (y : StepOutcome (List ℕ)). names y.table) e)
    by_order o (Adding.latest_wins c k found holder differs p e) = inl (ap (λ (y : StepOutcome (List ℕ)). names y.table) e ∙ names_changed n (taken_over d f x) (taken_keeps_name d f x) s.table)

    pub add_order : Ordered n (names s.table) (names (add limit eq_bytes s.table n d f x policy).table)
    add_order = by_order (add limit eq_bytes s.table n d f x policy) (add_case eq_bytes s.table n d f x limit policy)

    -- it installs the client exactly if it may
    pub record Stands (o : StepOutcome (List ℕ)) : Type 0 where
      pub entry : TableEntry
      pub stands : find n o.table ≡ some entry
      pub holder : entry.holder ≡ some d
      pub address : address_of f entry ≡ some x
      pub value : ℕ
      pub answer : o.answer ≡ Accepted value

    installed_by : (o : StepOutcome (List ℕ)) → Adding eq_bytes s.table n d f x limit policy o → MayInstall limit s.table n d policy → Stands o
    installed_by o (Adding.put_last found room e) m =
        subst Stands (sym e)
        (record {
          entry = entered n d f x;
          stands = find_last n s.table (entered n d f x) found (entered_name n d f x);
          holder = put_holder f x (record { name = n; a = none; aaaa = none; holder = some d });
          address = at_address f x (record { name = n; a = none; aaaa = none; holder = some d });
          value = 0;
          answer = refl;
        })
    installed_by o (Adding.same_client c k found holder same e) m =
        subst Stands (sym e)
        (record {
          entry = refreshed f x c;
          stands = find_changed n (refreshed f x) (keeps_name f (some x)) s.table c found;
          holder = put_holder f x c ∙ holder ∙ same_holder k d same;
          address = at_address f x c;
          value = 1;
          answer = refl;
        })
    installed_by o (Adding.latest_wins c k found holder differs p e) m =
        subst Stands (sym e)
        (record {
          entry = taken_over d f x c;
          stands = find_changed n (taken_over d f x) (taken_keeps_name d f x) s.table c found;
          holder = taken_holder d f x c;
          address = at_address f x (with_address (other f) none (with_holder d c));
          value = 2;
          answer = refl;
        })
    installed_by o (Adding.full found room e) (MayInstall.unused g more) = absurd (omega arith)
    installed_by o (Adding.full found room e) (MayInstall.same c g h) = absurd (some-ne-none c (sym g ∙ found))
    installed_by o (Adding.full found room e) (MayInstall.latest c k g h differs p) = absurd (some-ne-none c (sym g ∙ found))
    installed_by o (Adding.by_hand c found holder e) (MayInstall.unused g more) = absurd (some-ne-none c (sym found ∙ g))
    installed_by o (Adding.by_hand c found holder e) (MayInstall.same c' g h) = absurd (held_both c c' d found g holder h)
    installed_by o (Adding.by_hand c found holder e) (MayInstall.latest c' k g h differs p) = absurd (held_both c c' k found g holder h)
    installed_by o (Adding.first_wins c k found holder differs p e) (MayInstall.unused g more) = absurd (some-ne-none c (sym found ∙ g))
    installed_by o (Adding.first_wins c k found holder differs p e) (MayInstall.same c' g h) =
        let one : c ≡ c' = one_found c c' found g in
        let same : some k ≡ some d = sym holder ∙ ap (λ (y : TableEntry). y.holder) one ∙ h in
        absurd (true≢false (sym (eq_eq_bytes k d (some-injective k d same)) ∙ differs))
    installed_by o (Adding.first_wins c k found holder differs p e) (MayInstall.latest c' k' g h other_one q) = absurd (omega arith)

    pub may_install : (o : StepOutcome (List ℕ)) → Adding eq_bytes s.table n d f x limit policy o → KnownPolicy policy → (v : ℕ) → o.answer ≡ Accepted v → MayInstall limit s.table n d policy
    may_install o (Adding.put_last found room e) known v a = MayInstall.unused found room
    may_install o (Adding.full found room e) known v a = absurd (accepted≢refused (sym a ∙ ap (λ (y : StepOutcome (List ℕ)). y.answer) e))
    may_install o (Adding.by_hand c found holder e) known v a = absurd (accepted≢refused (sym a ∙ ap (λ (y : StepOutcome (List ℕ)). y.answer) e))
    may_install o (Adding.same_client c k found holder same e) known v a = MayInstall.same c found (holder ∙ same_holder k d same)
    may_install o (Adding.first_wins c k found holder differs p e) known v a = absurd (accepted≢refused (sym a ∙ ap (λ (y : StepOutcome (List ℕ)). y.answer) e))
    may_install o (Adding.latest_wins c k found holder differs p e) known v a =
        MayInstall.latest c k found holder (λ same. true≢false (sym (eq_eq_bytes k d same) ∙ differs)) (⊎_elim (λ z. absurd (p z)) (λ one. one) known)

    pub add_installs : MayInstall limit s.table n d policy → Stands (add limit eq_bytes s.table n d f x policy)
    add_installs m = installed_by (add limit eq_bytes s.table n d f x policy) (add_case eq_bytes s.table n d f x limit policy) m

    -- and answers and leaves under the name what document 01 says (docs/RULES.md, 7.3)
    outcome_is : {r : Answer} {e : TableEntry} (v : ℕ) (u : List TableEntry) → add limit eq_bytes s.table n d f x policy ≡ accepted_with v u → Accepted v ≡ r → find n u ≡ some e
        → ((add limit eq_bytes s.table n d f x policy).answer ≡ r) × (find n (add limit eq_bytes s.table n d f x policy).table ≡ some e)
    outcome_is v u o a found = (ap (λ (y : StepOutcome (List ℕ)). y.answer) o ∙ a, ap (λ (y : StepOutcome (List ℕ)). find n y.table) o ∙ found)

    pub add_gives : (r : Answer) (e : TableEntry) → Installs limit s.table n d f x policy r e
        → ((add limit eq_bytes s.table n d f x policy).answer ≡ r) × (find n (add limit eq_bytes s.table n d f x policy).table ≡ some e)
    unfolding add
    add_gives r e (Installs.unused found room) =
        outcome_is 0 (s.table ++ entered n d f x ∷ []) (rw (found, lt-ltb (length s.table) limit room) refl) refl (find_last n s.table (entered n d f x) found (entered_name n d f x))
    add_gives r e (Installs.same c found holder) =
        outcome_is 1 (changed n (refreshed f x) s.table) (rw (found, holder, eq_eq_bytes d d refl) refl) refl (find_changed n (refreshed f x) (keeps_name f (some x)) s.table c found)
    add_gives r e (Installs.latest c k found holder differs p) =
        outcome_is 2 (changed n (taken_over d f x) s.table) (rw (found, holder, ne_eq_bytes k d differs, p) refl) refl
        (find_changed n (taken_over d f x) (taken_keeps_name d f x) s.table c found)

  -- ---- clear

  by_clearing : (o : StepOutcome (List ℕ)) → Clearing s.table n o → Left limit n s.table o
  by_clearing o (Clearing.not_held found e) = subst (Left limit n s.table) (sym e) (as_it_was (Refused 33 0))
  by_clearing o (Clearing.cleared c found e) =
      subst (Left limit n s.table) (sym e)
      (record { sound = sound_without limit s.table n known_sound; else_same = others_without n s.table })

  pub clear_leaves : Left limit n s.table (clear s.table n)
  clear_leaves = by_clearing (clear s.table n) (clear_case s.table n)

  by_taking : (o : StepOutcome (List ℕ)) → Clearing s.table n o → (v : ℕ) → o.answer ≡ Accepted v → (v ≡ 0) × Cleared s.table o.table n
  by_taking o (Clearing.not_held found e) v a = absurd (accepted≢refused (sym a ∙ ap (λ (y : StepOutcome (List ℕ)). y.answer) e))
  by_taking o (Clearing.cleared c found e) v a =
      let table : o.table ≡ without n s.table = ap (λ (y : StepOutcome (List ℕ)). y.table) e in (
        accepted_value v 0 (sym a ∙ ap (λ (y : StepOutcome (List ℕ)). y.answer) e),
        subst (λ (u : List TableEntry). Cleared s.table u n) (sym table)
            (record { entry = c; stood = found; gone = find_without n s.table s.distinct; else_same = others_without n s.table }),
      )

  pub clear_takes : (v : ℕ) → (clear s.table n).answer ≡ Accepted v → (v ≡ 0) × Cleared s.table (clear s.table n).table n
  clear_takes v a = by_taking (clear s.table n) (clear_case s.table n) v a

  -- ---- remove

  module _ (d : List ℕ) (f : Family) (x : List ℕ) where
    by_removing : (o : StepOutcome (List ℕ)) → Removing eq_bytes s.table n d f x o → Left limit n s.table o
    by_removing o (Removing.not_held found e) = subst (Left limit n s.table) (sym e) (as_it_was (Refused 33 0))
    by_removing o (Removing.by_hand c found holder e) = subst (Left limit n s.table) (sym e) (as_it_was (Refused 31 0))
    by_removing o (Removing.another c k found holder differs e) = subst (Left limit n s.table) (sym e) (as_it_was (Refused 30 0))
    by_removing o (Removing.differs c k found holder same a e) = subst (Left limit n s.table) (sym e) (as_it_was (Refused 34 0))
    by_removing o (Removing.kept c k found holder same a more e) =
        subst (Left limit n s.table) (sym e)
        (with_change (Accepted 0) (deleted f) (keeps_name f none)
        (λ c' g w. deleted_well_formed f c' k (sym (ap (λ (y : TableEntry). y.holder) (one_found c c' found g)) ∙ holder) w))
    -- with the last address the name goes, as by a clear
    by_removing o (Removing.gone c k found holder same a more e) = by_clearing o (Clearing.cleared c found e)

    pub remove_leaves : Left limit n s.table (remove eq_bytes s.table n d f x)
    remove_leaves = by_removing (remove eq_bytes s.table n d f x) (remove_case eq_bytes s.table n d f x)

    by_deleting : (o : StepOutcome (List ℕ)) → Removing eq_bytes s.table n d f x o → (v : ℕ) → o.answer ≡ Accepted v → (v ≡ 0) × Deleted s.table o.table n d f x
    by_deleting o (Removing.not_held found e) v a = absurd (accepted≢refused (sym a ∙ ap (λ (y : StepOutcome (List ℕ)). y.answer) e))
    by_deleting o (Removing.by_hand c found holder e) v a = absurd (accepted≢refused (sym a ∙ ap (λ (y : StepOutcome (List ℕ)). y.answer) e))
    by_deleting o (Removing.another c k found holder differs e) v a = absurd (accepted≢refused (sym a ∙ ap (λ (y : StepOutcome (List ℕ)). y.answer) e))
    by_deleting o (Removing.differs c k found holder same b' e) v a = absurd (accepted≢refused (sym a ∙ ap (λ (y : StepOutcome (List ℕ)). y.answer) e))
    by_deleting o (Removing.kept c k found holder same b' more e) v a =
        let table : o.table ≡ changed n (deleted f) s.table = ap (λ (y : StepOutcome (List ℕ)). y.table) e in (
          accepted_value v 0 (sym a ∙ ap (λ (y : StepOutcome (List ℕ)). y.answer) e),
          subst (λ (u : List TableEntry). Deleted s.table u n d f x) (sym table)
              (record {
                entry = c;
                stood = found;
                holder = holder ∙ same_holder k d same;
                address = is_address_lem (address_of f c) x b';
                left = LeftOf.kept more (find_changed n (deleted f) (keeps_name f none) s.table c found) (names_changed n (deleted f) (keeps_name f none) s.table);
                else_same = others_changed n (deleted f) (keeps_name f none) s.table;
              }),
        )
    by_deleting o (Removing.gone c k found holder same b' more e) v a =
        let taken = by_taking o (Clearing.cleared c found e) v a in (
          taken.0,
          record {
            entry = c;
            stood = found;
            holder = holder ∙ same_holder k d same;
            address = is_address_lem (address_of f c) x b';
            left = LeftOf.gone more taken.1.gone;
            else_same = taken.1.else_same;
          },
        )

    pub remove_deletes : (v : ℕ) → (remove eq_bytes s.table n d f x).answer ≡ Accepted v → (v ≡ 0) × Deleted s.table (remove eq_bytes s.table n d f x).table n d f x
    remove_deletes v a = by_deleting (remove eq_bytes s.table n d f x) (remove_case eq_bytes s.table n d f x) v a

-- ---- refusals change nothing, and acceptance is determined

module _ (t : List TableEntry) (n d : List ℕ) (f : Family) (x : List ℕ) (m at : ℕ) where
  pub add_refused : (limit policy : ℕ) (o : StepOutcome (List ℕ)) → Adding eq_bytes t n d f x limit policy o → o.answer ≡ Refused m at → o.table ≡ t
  add_refused limit policy o (Adding.put_last found room e) a = absurd (accepted≢refused (sym (ap (λ (y : StepOutcome (List ℕ)). y.answer) e) ∙ a))
  add_refused limit policy o (Adding.full found room e) a = ap (λ (y : StepOutcome (List ℕ)). y.table) e
  add_refused limit policy o (Adding.by_hand c found holder e) a = ap (λ (y : StepOutcome (List ℕ)). y.table) e
  add_refused limit policy o (Adding.same_client c k found holder same e) a = absurd (accepted≢refused (sym (ap (λ (y : StepOutcome (List ℕ)). y.answer) e) ∙ a))
  add_refused limit policy o (Adding.first_wins c k found holder differs p e) a = ap (λ (y : StepOutcome (List ℕ)). y.table) e
  add_refused limit policy o (Adding.latest_wins c k found holder differs p e) a = absurd (accepted≢refused (sym (ap (λ (y : StepOutcome (List ℕ)). y.answer) e) ∙ a))

  pub remove_refused : (o : StepOutcome (List ℕ)) → Removing eq_bytes t n d f x o → o.answer ≡ Refused m at → o.table ≡ t
  remove_refused o (Removing.not_held found e) a = ap (λ (y : StepOutcome (List ℕ)). y.table) e
  remove_refused o (Removing.by_hand c found holder e) a = ap (λ (y : StepOutcome (List ℕ)). y.table) e
  remove_refused o (Removing.another c k found holder differs e) a = ap (λ (y : StepOutcome (List ℕ)). y.table) e
  remove_refused o (Removing.differs c k found holder same b' e) a = ap (λ (y : StepOutcome (List ℕ)). y.table) e
  remove_refused o (Removing.kept c k found holder same b' more e) a = absurd (accepted≢refused (sym (ap (λ (y : StepOutcome (List ℕ)). y.answer) e) ∙ a))
  remove_refused o (Removing.gone c k found holder same b' more e) a = absurd (accepted≢refused (sym (ap (λ (y : StepOutcome (List ℕ)). y.answer) e) ∙ a))

pub clear_refused : (t : List TableEntry) (n : List ℕ) (m at : ℕ) (o : StepOutcome (List ℕ)) → Clearing t n o → o.answer ≡ Refused m at → o.table ≡ t
clear_refused t n m at o (Clearing.not_held found e) a = ap (λ (y : StepOutcome (List ℕ)). y.table) e
clear_refused t n m at o (Clearing.cleared c found e) a = absurd (accepted≢refused (sym (ap (λ (y : StepOutcome (List ℕ)). y.answer) e) ∙ a))

-- what stands under the name, with that client and that address, is removed
has_address : (o : Option (List ℕ)) (x : List ℕ) → o ≡ some x → is_address o x ≡ true
has_address none x e = absurd (none-ne-some x e)
has_address (some y) x e = eq_eq_bytes y x (some-injective y x e)

module _ (t : List TableEntry) (n d : List ℕ) (f : Family) (x : List ℕ) (c : TableEntry) (stood : find n t ≡ some c) where
  it_is : (e : TableEntry) → find n t ≡ some e → e ≡ c
  it_is e found = some-injective e c (sym found ∙ stood)

  module _ (holder : c.holder ≡ some d) (address : address_of f c ≡ some x) where
    this_holder : (e : TableEntry) (k : List ℕ) → find n t ≡ some e → e.holder ≡ some k → k ≡ d
    this_holder e k found held = some-injective k d (sym held ∙ ap (λ (y : TableEntry). y.holder) (it_is e found) ∙ holder)

    pub remove_accepted : (o : StepOutcome (List ℕ)) → Removing eq_bytes t n d f x o → o.answer ≡ Accepted 0
    remove_accepted o (Removing.not_held found e) = absurd (some-ne-none c (sym stood ∙ found))
    remove_accepted o (Removing.by_hand c' found none_held e) = absurd (none-ne-some d (sym none_held ∙ ap (λ (y : TableEntry). y.holder) (it_is c' found) ∙ holder))
    remove_accepted o (Removing.another c' k found held differs e) = absurd (true≢false (sym (eq_eq_bytes k d (this_holder c' k found held)) ∙ differs))
    remove_accepted o (Removing.differs c' k found held same no_such e) =
        absurd (true≢false (sym (has_address (address_of f c') x (ap (address_of f) (it_is c' found) ∙ address)) ∙ no_such))
    remove_accepted o (Removing.kept c' k found held same such more e) = ap (λ (y : StepOutcome (List ℕ)). y.answer) e
    remove_accepted o (Removing.gone c' k found held same such more e) = ap (λ (y : StepOutcome (List ℕ)). y.answer) e

pub clear_accepted : (t : List TableEntry) (n : List ℕ) (c : TableEntry) → find n t ≡ some c → (o : StepOutcome (List ℕ)) → Clearing t n o → o.answer ≡ Accepted 0
clear_accepted t n c stood o (Clearing.not_held found e) = absurd (some-ne-none c (sym stood ∙ found))
clear_accepted t n c stood o (Clearing.cleared c' found e) = ap (λ (y : StepOutcome (List ℕ)). y.answer) e
