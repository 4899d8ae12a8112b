-- The public theorems of `table`: what the promises of add, remove and clear say of the customer's second demand, and where the slot is that a find answers. Assumes nothing.
use Prim.Native.Nat.{ℕ, ◌*◌, ◌<◌}
use mathlib.Core.Bool.{false}
use mathlib.Core.Path.{◌≡◌, sym, ap, ap₂, subst, ◌∙◌}
use mathlib.Core.Logic.{◌↔◌, inl, inr}
use mathlib.Core.List.{List, [], ◌∷◌, ◌++◌}
use mathlib.Core.Option.{none, some, none-ne-some}
use native.Mathlib.Omega.{arith}
use lib.ListN.{length, take, drop}
use Rattle.base.specs.Bytes.{eq_bytes}
use Rattle.base.specs.Family.{KnownFamily}
use Rattle.base.specs.Answer.{value, IsAccepted}
use Rattle.base.specs.Order.{Test}
use Rattle.base.specs.declared.Answer.{Answer}
use Rattle.base.specs.declared.Answer.TheVariants.{Accepted, Refused}
use Rattle.base.proofs.AnswerLaws.{accepted≢refused}
use Rattle.base.proofs.Theorems.{one_fault, no_fault}
use Rattle.name.specs.Name.{canonical}
use Rattle.name.proofs.Theorems.{canonical_form}
use Rattle.slots.specs.Effect.{entered, deleted, has_address}
use Rattle.slots.specs.Entry.{family_of, address_of, names, position}
use Rattle.slots.specs.Form.{TableEntry, slot_bytes, table_bytes, Sound}
use Rattle.slots.specs.Sizes.{slot_size}
use Rattle.slots.proofs.Theorems.{one_sound_table}
use Rattle.table.specs.Steps.{StepOutcome, find}
use Rattle.table.specs.Calls.{KnownPolicy, name_tests, argument_tests, Adds, Removes, Clears, Finds, Counts}
use Rattle.table.specs.Demand2.{SoundAdd, SoundRemove, SoundClear, others, Ordered, MayInstall, Installs, Installed, Deleted, Cleared}
use Rattle.table.proofs.CaseLaws.{add_case, remove_case, clear_case}
use Rattle.table.proofs.LookLaws.{slot_found}
use Rattle.table.proofs.ReturnLaws.{had_sound, fewer_others, last_gone, add_unused}
use Rattle.table.proofs.DemandLaws.{
  one_call,
  was_stepped,
  left_sound,
  add_leaves,
  add_order,
  add_installs,
  may_install,
  add_gives,
  remove_leaves,
  remove_deletes,
  clear_leaves,
  clear_takes,
  add_refused,
  remove_refused,
  clear_refused,
  remove_accepted,
  clear_accepted,
}

-- ---- add

module _ (limit : ℕ) (b name dhcid : List ℕ) (family : ℕ) (address : List ℕ) (policy : ℕ) where
  -- the promise determines the answer and what is left
  pub one_add : (r q : Answer) (left also : List ℕ) → Adds limit b name dhcid family address policy r left → Adds limit b name dhcid family address policy q also → (r ≡ q) × (left ≡ also)
  unfolding Adds
  one_add r q left also h k = one_call limit (argument_tests limit (KnownFamily family × KnownPolicy policy) b name dhcid family address) b _ r q left also h k

  module _ (r : Answer) (left : List ℕ) (h : Adds limit b name dhcid family address policy r left) where
    -- a refused add changes nothing
    pub refused_add : (n at : ℕ) → r ≡ Refused n at → left ≡ b
    unfolding Adds
    refused_add n at e = go h
      where
        go : Adds limit b name dhcid family address policy r left → left ≡ b
        go (inl f) = f.unchanged
        go (inr s) =
            s.table
            ∙ ap (table_bytes limit) (add_refused s.sound.table (canonical name) dhcid (family_of family) address n at limit policy _ (add_case eq_bytes s.sound.table (canonical name) dhcid (family_of family) address limit policy) (sym s.answer ∙ e))
            ∙ sym s.sound.slots.form

    -- what it leaves is sound
    pub sound_add : Sound limit b → Sound limit left
    unfolding Adds
    sound_add sound = go h
      where
        go : Adds limit b name dhcid family address policy r left → Sound limit left
        go (inl f) = subst (Sound limit) (sym f.unchanged) sound
        go (inr s) =
            let c = canonical_form name s.all_hold.1.1.0 in
            left_sound limit left _
            (add_leaves limit b s.sound (canonical name) dhcid (family_of family) address policy c.proper c.again s.all_hold.1.1.1.0 s.all_hold.1.1.1.1.0).sound s.table

    module _ (args : SoundAdd limit b name dhcid family address policy) where
      -- no other entry changes, and their order stays
      pub others_add : (s : Sound limit b) (k : Sound limit left) → others (canonical name) k.table ≡ others (canonical name) s.table
      unfolding Adds
      others_add s k =
          let c = canonical_form name args.1.1.0 in
          let w = was_stepped limit (argument_tests limit (KnownFamily family × KnownPolicy policy) b name dhcid family address) b _ r left h args s.table s.slots in
          let l = add_leaves limit b s (canonical name) dhcid (family_of family) address policy c.proper c.again args.1.1.1.0 args.1.1.1.1.0 in
          ap (others (canonical name)) (one_sound_table limit left k (left_sound limit left _ l.sound w.1)) ∙ l.else_same

      pub order_add : (s : Sound limit b) (k : Sound limit left) → Ordered (canonical name) (names s.table) (names k.table)
      unfolding Adds
      order_add s k =
          let c = canonical_form name args.1.1.0 in
          let w = was_stepped limit (argument_tests limit (KnownFamily family × KnownPolicy policy) b name dhcid family address) b _ r left h args s.table s.slots in
          let l = add_leaves limit b s (canonical name) dhcid (family_of family) address policy c.proper c.again args.1.1.1.0 args.1.1.1.1.0 in
          let same = one_sound_table limit left (left_sound limit left _ l.sound w.1) k in
          subst (λ (u : List TableEntry). Ordered (canonical name) (names s.table) (names u)) same
          (add_order limit b s (canonical name) dhcid (family_of family) address policy c.proper c.again args.1.1.1.0 args.1.1.1.1.0)

      -- demand 2: the client is installed in the three cases of MayInstall, and in no other
      pub installs : (s : Sound limit b) (k : Sound limit left) → Installed k.table (canonical name) dhcid (family_of family) address r ↔ MayInstall limit s.table (canonical name) dhcid policy
      unfolding Adds IsAccepted
      installs s k =
          let c = canonical_form name args.1.1.0 in
          let w = was_stepped limit (argument_tests limit (KnownFamily family × KnownPolicy policy) b name dhcid family address) b _ r left h args s.table s.slots in
          let l = add_leaves limit b s (canonical name) dhcid (family_of family) address policy c.proper c.again args.1.1.1.0 args.1.1.1.1.0 in
          let same = one_sound_table limit left (left_sound limit left _ l.sound w.1) k in
          let case = add_case eq_bytes s.table (canonical name) dhcid (family_of family) address limit policy in (
            λ i.
                may_install limit b s (canonical name) dhcid (family_of family) address policy c.proper c.again args.1.1.1.0 args.1.1.1.1.0 _ case args.0.1 i.accepted.0
                (sym w.0 ∙ i.accepted.1),
            λ m.
                let i = add_installs limit b s (canonical name) dhcid (family_of family) address policy c.proper c.again args.1.1.1.0 args.1.1.1.1.0 m in
                record {
                  entry = i.entry;
                  stands = ap (find (canonical name)) (sym same) ∙ i.stands;
                  holder = i.holder;
                  address = i.address;
                  accepted = (i.value, w.0 ∙ i.answer);
                },
          )

      -- and then this is answered, and stands under the name
      pub installs_so : (s : Sound limit b) (k : Sound limit left) (q : Answer) (e : TableEntry) → Installs limit s.table (canonical name) dhcid (family_of family) address policy q e
          → (r ≡ q) × (find (canonical name) k.table ≡ some e)
      unfolding Adds
      installs_so s k q e i =
          let c = canonical_form name args.1.1.0 in
          let w = was_stepped limit (argument_tests limit (KnownFamily family × KnownPolicy policy) b name dhcid family address) b _ r left h args s.table s.slots in
          let l = add_leaves limit b s (canonical name) dhcid (family_of family) address policy c.proper c.again args.1.1.1.0 args.1.1.1.1.0 in
          let g = add_gives limit b s (canonical name) dhcid (family_of family) address policy c.proper c.again args.1.1.1.0 args.1.1.1.1.0 q e i in
          let same = one_sound_table limit left (left_sound limit left _ l.sound w.1) k in
          (w.0 ∙ g.0, ap (find (canonical name)) (sym same) ∙ g.1)

-- ---- remove

module _ (limit : ℕ) (b name dhcid : List ℕ) (family : ℕ) (address : List ℕ) where
  pub one_remove : (r q : Answer) (left also : List ℕ) → Removes limit b name dhcid family address r left → Removes limit b name dhcid family address q also → (r ≡ q) × (left ≡ also)
  unfolding Removes
  one_remove r q left also h k = one_call limit (argument_tests limit (KnownFamily family) b name dhcid family address) b _ r q left also h k

  module _ (r : Answer) (left : List ℕ) (h : Removes limit b name dhcid family address r left) where
    pub refused_remove : (n at : ℕ) → r ≡ Refused n at → left ≡ b
    unfolding Removes
    refused_remove n at e = go h
      where
        go : Removes limit b name dhcid family address r left → left ≡ b
        go (inl f) = f.unchanged
        go (inr s) =
            s.table
            ∙ ap (table_bytes limit) (remove_refused s.sound.table (canonical name) dhcid (family_of family) address n at _ (remove_case eq_bytes s.sound.table (canonical name) dhcid (family_of family) address) (sym s.answer ∙ e))
            ∙ sym s.sound.slots.form

    pub sound_remove : Sound limit b → Sound limit left
    unfolding Removes
    sound_remove sound = go h
      where
        go : Removes limit b name dhcid family address r left → Sound limit left
        go (inl f) = subst (Sound limit) (sym f.unchanged) sound
        go (inr s) = left_sound limit left _ (remove_leaves limit b s.sound (canonical name) dhcid (family_of family) address).sound s.table

    module _ (args : SoundRemove limit b name dhcid family address) (s : Sound limit b) where
      -- demand 2: an accepted remove deletes that address of that client, and nothing else
      pub removes_that : (v : ℕ) → r ≡ Accepted v → (k : Sound limit left) → (v ≡ 0) × Deleted s.table k.table (canonical name) dhcid (family_of family) address
      unfolding Removes
      removes_that v e k =
          let w = was_stepped limit (argument_tests limit (KnownFamily family) b name dhcid family address) b _ r left h args s.table s.slots in
          let d = remove_deletes limit b s (canonical name) dhcid (family_of family) address v (sym w.0 ∙ e) in
          let same = one_sound_table limit left (left_sound limit left _ (remove_leaves limit b s (canonical name) dhcid (family_of family) address).sound w.1) k in
          (d.0, subst (λ (u : List TableEntry). Deleted s.table u (canonical name) dhcid (family_of family) address) same d.1)

      -- and where that client holds the name with that address, it is accepted
      pub removes_if : (c : TableEntry) → find (canonical name) s.table ≡ some c → c.holder ≡ some dhcid → address_of (family_of family) c ≡ some address → r ≡ Accepted 0
      unfolding Removes
      removes_if c stood holder at =
          (was_stepped limit (argument_tests limit (KnownFamily family) b name dhcid family address) b _ r left h args s.table s.slots).0
          ∙ remove_accepted s.table (canonical name) dhcid (family_of family) address c stood holder at _ (remove_case eq_bytes s.table (canonical name) dhcid (family_of family) address)

    -- a returned head (document 02, K1): after an accepted remove of the name's last address an add of that name, in either case of letters, by whatever client and under either
    -- policy, answers 0; the name then stands last, behind all the others
    pub returned_name : (v : ℕ) → r ≡ Accepted v → (s : Sound limit b) (c : TableEntry) → find (canonical name) s.table ≡ some c → has_address (deleted (family_of family) c) ≡ false
        → (again client : List ℕ) (family' : ℕ) (address' : List ℕ) (policy : ℕ) → canonical again ≡ canonical name → SoundAdd limit left again client family' address' policy
        → (q : Answer) (after : List ℕ) → Adds limit left again client family' address' policy q after
        → (q ≡ Accepted 0) × (after ≡ table_bytes limit (others (canonical name) s.table ++ entered (canonical name) client (family_of family') address' ∷ []))
    unfolding Removes Adds
    returned_name v e s c stood last again client family' address' policy same sound q after g =
        let n = canonical name in
        let args = had_sound limit (argument_tests limit (KnownFamily family) b name dhcid family address) b _ r left v h e in
        let k = sound_remove s in
        let d = last_gone c (removes_that args s v e k).1 stood last in
        let room : length k.table < limit = omega (arith, ap length d.1, fewer_others n s.table c stood s.distinct, s.slots.room) in
        let w = was_stepped limit (argument_tests limit (KnownFamily family' × KnownPolicy policy) left again client family' address') left _ q after g sound k.table k.slots in
        let o = add_unused limit k.table (canonical again) client (family_of family') address' policy (ap (λ (m : List ℕ). find m k.table) same ∙ d.0) room in (
          w.0 ∙ ap (λ (y : StepOutcome (List ℕ)). y.answer) o,
          w.1 ∙ ap (λ (y : StepOutcome (List ℕ)). table_bytes limit y.table) o
              ∙ ap₂ (λ (u : List TableEntry) (m : List ℕ). table_bytes limit (u ++ entered m client (family_of family') address' ∷ [])) d.1 same,
        )

-- ---- clear

module _ (limit : ℕ) (b name : List ℕ) where
  pub one_clear : (r q : Answer) (left also : List ℕ) → Clears limit b name r left → Clears limit b name q also → (r ≡ q) × (left ≡ also)
  unfolding Clears
  one_clear r q left also h k = one_call limit (name_tests limit b name) b _ r q left also h k

  module _ (r : Answer) (left : List ℕ) (h : Clears limit b name r left) where
    pub refused_clear : (n at : ℕ) → r ≡ Refused n at → left ≡ b
    unfolding Clears
    refused_clear n at e = go h
      where
        go : Clears limit b name r left → left ≡ b
        go (inl f) = f.unchanged
        go (inr s) = s.table ∙ ap (table_bytes limit) (clear_refused s.sound.table (canonical name) n at _ (clear_case s.sound.table (canonical name)) (sym s.answer ∙ e)) ∙ sym s.sound.slots.form

    pub sound_clear : Sound limit b → Sound limit left
    unfolding Clears
    sound_clear sound = go h
      where
        go : Clears limit b name r left → Sound limit left
        go (inl f) = subst (Sound limit) (sym f.unchanged) sound
        go (inr s) = left_sound limit left _ (clear_leaves limit b s.sound (canonical name)).sound s.table

    module _ (args : SoundClear limit b name) (s : Sound limit b) where
      -- demand 2: an accepted clear takes the name, and nothing else
      pub clears_that : (v : ℕ) → r ≡ Accepted v → (k : Sound limit left) → (v ≡ 0) × Cleared s.table k.table (canonical name)
      unfolding Clears
      clears_that v e k =
          let w = was_stepped limit (name_tests limit b name) b _ r left h args s.table s.slots in
          let d = clear_takes limit b s (canonical name) v (sym w.0 ∙ e) in
          let same = one_sound_table limit left (left_sound limit left _ (clear_leaves limit b s (canonical name)).sound w.1) k in
          (d.0, subst (λ (u : List TableEntry). Cleared s.table u (canonical name)) same d.1)

      -- and a name that stands is cleared
      pub clears_if : (c : TableEntry) → find (canonical name) s.table ≡ some c → r ≡ Accepted 0
      unfolding Clears
      clears_if c stood =
          (was_stepped limit (name_tests limit b name) b _ r left h args s.table s.slots).0 ∙ clear_accepted s.table (canonical name) c stood _ (clear_case s.table (canonical name))

-- ---- find and count

module _ (limit : ℕ) (b : List ℕ) where
  module _ (name : List ℕ) where
    abbrev tests : List Test
    tests = name_tests limit b name

    -- of one table: the name stands there or not
    not_both : (s k : Sound limit b) (e : TableEntry) → find (canonical name) s.table ≡ none → find (canonical name) k.table ≡ some e → ⊥
    not_both s k e f g = none-ne-some e (sym f ∙ ap (find (canonical name)) (one_sound_table limit b s k) ∙ g)

    pub one_find : (r q : Answer) → Finds limit b name r → Finds limit b name q → r ≡ q
    one_find r q (Finds.faulty {n = n} f a) (Finds.faulty {n = m} g d) = a ∙ ap (λ (x : ℕ). Refused x 0) (one_fault tests n m f g) ∙ sym d
    one_find r q (Finds.faulty {n = n} f a) (Finds.not_held k p g d) = absurd (no_fault tests n (k, (p, tt)) f)
    one_find r q (Finds.faulty {n = n} f a) (Finds.found k p g d) = absurd (no_fault tests n (k, (p, tt)) f)
    one_find r q (Finds.not_held s p f a) (Finds.faulty {n = m} g d) = absurd (no_fault tests m (s, (p, tt)) g)
    one_find r q (Finds.not_held s p f a) (Finds.not_held k p' g d) = a ∙ sym d
    one_find r q (Finds.not_held s p f a) (Finds.found k p' {e = e} g d) = absurd (not_both s k e f g)
    one_find r q (Finds.found s p f a) (Finds.faulty {n = m} g d) = absurd (no_fault tests m (s, (p, tt)) g)
    one_find r q (Finds.found s p {e = e} f a) (Finds.not_held k p' g d) = absurd (not_both k s e g f)
    one_find r q (Finds.found s p f a) (Finds.found k p' g d) = a ∙ ap (λ (t : List TableEntry). Accepted (position (canonical name) t)) (one_sound_table limit b s k) ∙ sym d

    -- the slot that begins at so many times the size of a slot has the name's entry
    pub found_slot : (i : ℕ) → Finds limit b name (Accepted i) → (s : Sound limit b) (e : TableEntry) → find (canonical name) s.table ≡ some e
        → take slot_size (drop (slot_size * i) b) ≡ slot_bytes e
    found_slot i h s e stood = go h
      where
        go : Finds limit b name (Accepted i) → take slot_size (drop (slot_size * i) b) ≡ slot_bytes e
        go (Finds.faulty f a) = absurd (accepted≢refused a)
        go (Finds.not_held k p f a) = absurd (accepted≢refused a)
        go (Finds.found k p f a) =
            let at : i ≡ position (canonical name) s.table = ap value a ∙ ap (position (canonical name)) (one_sound_table limit b k s) in
            ap (λ (j : ℕ). take slot_size (drop (slot_size * j) b)) at ∙ slot_found limit (canonical name) s.table b s.slots e stood

  pub one_count : (r q : Answer) → Counts limit b r → Counts limit b q → r ≡ q
  one_count r q (Counts.not_sound f a) (Counts.not_sound g d) = a ∙ sym d
  one_count r q (Counts.not_sound f a) (Counts.counted k d) = absurd (f k)
  one_count r q (Counts.counted s a) (Counts.not_sound g d) = absurd (g s)
  one_count r q (Counts.counted s a) (Counts.counted k d) = a ∙ ap (λ (t : List TableEntry). Accepted (length t)) (one_sound_table limit b s k) ∙ sym d
