-- The writing of a DHCID: what is hashed, what is written, and the functions of specs/Choosing.antt against what specs/Dhcid.antt says. Assumes nothing.
use Prim.Native.Nat.{ℕ, ◌+◌, ◌-◌, ◌*◌, ◌/◌, ◌%◌, ◌^◌, ◌≤◌, ◌<◌}
use mathlib.Core.Bool.{Bool, true, false}
use mathlib.Core.Path.{◌≡◌, refl, sym, ap, ap₂, subst, ◌∙◌}
use mathlib.Core.Logic.{inr}
use mathlib.Core.List.{List, [], ◌∷◌, ◌++◌}
use native.Mathlib.Nat.{div-one}
use native.Mathlib.Omega.{arith}
use lib.Dec.{eqb, ltb}
use lib.ListN.{length, take, replicate, length-append}
use lib.Seq.{take_at}
use borrow.Author.Tests.{eqb-true, eqb-false, ltb-true, ltb-false, eq-eqb, ne_eqb, lt-ltb, le-ltb}
use Rattle.base.specs.Bytes.{big_endian, overlay}
use Rattle.base.specs.Refusal.{output_short, hash_input_long}
use Rattle.base.specs.declared.Answer.{Answer}
use Rattle.base.specs.declared.Answer.TheVariants.{Accepted, Refused}
use Rattle.base.proofs.Bytes.{overlay_zeros, overlay_append}
use Rattle.name.specs.Name.{canonical}
use Rattle.name.proofs.WireLaws.{proper_short}
use Rattle.name.proofs.NameLaws.{length_canonical}
use Rattle.message.specs.Request.{bytes_of, Inside, identifier_bytes}
use Rattle.message.specs.declared.Part.{Part}
use Rattle.message.specs.declared.Request.{Request}
use Rattle.message.proofs.PartLaws.{part_length}
use Rattle.dhcid.specs.Chosen.{KnownSetting, Says, no_choice, from_message, from_site, Chooses, name_bytes, packed_name, name_answer, NameApart}
use Rattle.dhcid.specs.Dhcid.{dhcid, dhcid_of, WritesDhcid}
use Rattle.dhcid.specs.Choosing.{said, chosen_for, choose, Hashable, refusal_under, output_by, PutsUnder, refusal_of, writing_refusal, writing_answer, writing_output, PutsDhcid}
use Rattle.dhcid.specs.declared.Chosen.{Chosen}
use Rattle.dhcid.proofs.SaysLaws.{said_says, accepted_says, read_placed}
use Rattle.dhcid.proofs.ChoiceLaws.{chooses_choice, choice_chooses, choice_accepted, Lies, lies, lies_as}

-- ---- the choice as C gets it

module _ (c : Chosen) where
  pub name_refused : (c.refusal ≡ 0 → ⊥) → Refused c.refusal 0 ≡ name_answer c
  unfolding name_answer
  name_refused h = rw (ne_eqb c.refusal 0 h)

  pub name_chosen : c.refusal ≡ 0 → Accepted (packed_name c.from_site c.part) ≡ name_answer c
  unfolding name_answer
  name_chosen z = rw (eq-eqb c.refusal 0 z)

-- C takes it apart: source, start and length are those that were packed
packed_apart : (b : Bool) (p : Part) → p.start ≤ 2048 → p.len ≤ 255 → NameApart (Accepted (packed_name b p)) (record { refusal = 0; from_site = b; part = p })
unfolding packed_name
packed_apart true p near short = record { source = omega arith; start = omega arith; len = omega arith }
packed_apart false p near short = record { source = omega arith; start = omega arith; len = omega arith }

-- a choice that is none has zeros
none_apart : (n : ℕ) → (n ≡ 0 → ⊥) → NameApart (name_answer (no_choice n)) (no_choice n)
unfolding no_choice
none_apart n nz = subst (λ (a : Answer). NameApart a (no_choice n)) (name_refused (no_choice n) nz) (record { source = refl; start = refl; len = refl })

pub choice_apart : {family setting : ℕ} {m site : List ℕ} {c : Chosen} → Chooses family setting m site c → NameApart (name_answer c) c
unfolding name_answer from_message from_site
choice_apart (Chooses.unknown h) = none_apart 12 (λ z. omega arith)
choice_apart (Chooses.refused {r} s h n) = none_apart r.refusal n
choice_apart {m = m} {site = site} (Chooses.client's {r} h z u) = let l : Lies m site (from_message r.name) = lies (Chooses.client's h z u) in packed_apart false r.name l.near l.short
choice_apart {m = m} {site = site} (Chooses.site's s h z u p) = let l : Lies m site (from_site site) = lies (Chooses.site's s h z u p) in packed_apart true (record { start = 0; len = length site }) l.near l.short
choice_apart (Chooses.neither s h z u p) = none_apart 9 (λ z. omega arith)

-- ---- what is hashed

-- the part of an array of k bytes that the canonical name was written into
pub take_canonical : (k : ℕ) (n : List ℕ) → take (length n) (overlay (replicate k 0) 0 (canonical n)) ≡ canonical n
take_canonical k n =
    ap (take (length n)) (overlay_zeros k (canonical n)) ∙ take_at (canonical n) (replicate (k - length (canonical n)) 0) (length n) (length_canonical n)

pub identifier_length : (m : List ℕ) (r : Request) → Inside m r.id_head → Inside m r.id → length (identifier_bytes m r) ≡ r.id_head.len + r.id.len
unfolding identifier_bytes
identifier_length m r head rest =
    length-append (bytes_of m r.id_head) (bytes_of m r.id) ∙ ap₂ ◌+◌ (part_length m r.id_head head) (part_length m r.id rest)

-- ---- what is written

-- type and digest type, then the digest
pub rdata_written : (out : List ℕ) (type : ℕ) (digest : List ℕ)
    → overlay (overlay out 0 (type / 2 ^ 8 % 2 ^ 8 ∷ type % 2 ^ 8 ∷ 1 ∷ [])) 3 digest ≡ overlay out 0 (big_endian 2 type ++ 1 ∷ digest)
unfolding big_endian
rdata_written out type digest = simp div-one (overlay_append out 0 (type / 2 ^ 8 % 2 ^ 8 ∷ type % 2 ^ 8 ∷ 1 ∷ []) digest (omega arith))

module _ (m : List ℕ) (r : Request) (n out : List ℕ) where
  pub under_long : 4096 < length (identifier_bytes m r) + length n → PutsUnder m r n out (Refused hash_input_long 0) out
  unfolding refusal_under output_by
  under_long h =
      let is = lt-ltb 4096 (length (identifier_bytes m r) + length n) h in
      record { answers = rw is; leaves = rw is }

  module _ (few : length (identifier_bytes m r) + length n ≤ 4096) where
    pub under_no_room : length out < 35 → PutsUnder m r n out (Refused output_short 0) out
    unfolding refusal_under output_by
    under_no_room h =
        let is = le-ltb 4096 (length (identifier_bytes m r) + length n) few in
        let short = lt-ltb (length out) 35 h in
        record { answers = rw (is, short); leaves = rw (is, short) }

    pub under_written : 35 ≤ length out → (left : List ℕ) → left ≡ overlay out 0 (dhcid r.id_type (identifier_bytes m r) n) → PutsUnder m r n out (Accepted 35) left
    unfolding refusal_under output_by
    under_written h left e =
        let is = le-ltb 4096 (length (identifier_bytes m r) + length n) few in
        let room = le-ltb (length out) 35 h in
        record { answers = rw (is, room); leaves = rw (is, room) e }

module _ (family setting : ℕ) (m site out : List ℕ) where
  refused_puts : ((choose family setting m site).refusal ≡ 0 → ⊥) → PutsDhcid family setting m site out (Refused (choose family setting m site).refusal 0) out
  unfolding writing_answer writing_output writing_refusal refusal_of output_by
  refused_puts h =
      let n = ne_eqb (choose family setting m site).refusal 0 h in
      record { answers = rw (n, n); leaves = rw (n, n) }

  under_puts : (choose family setting m site).refusal ≡ 0 → (a : Answer) (left : List ℕ)
      → PutsUnder m (said family setting m) (name_bytes m site (choose family setting m site)) out a left → PutsDhcid family setting m site out a left
  unfolding writing_answer writing_output writing_refusal refusal_of dhcid_of
  under_puts z a left p =
      let is = eq-eqb (choose family setting m site).refusal 0 z in
      record { answers = rw is p.answers; leaves = rw is p.leaves }

  -- with the request r and the choice c for it as they were read
  module _ (r : Request) (c : Chosen) (read : r ≡ said family setting m) (picked : c ≡ chosen_for setting m site r) where
    pub choice_is : c ≡ choose family setting m site
    unfolding choose
    choice_is = picked ∙ ap (chosen_for setting m site) read

    pub puts_refused : (c.refusal ≡ 0 → ⊥) → PutsDhcid family setting m site out (Refused c.refusal 0) out
    puts_refused = subst (λ (d : Chosen). (d.refusal ≡ 0 → ⊥) → PutsDhcid family setting m site out (Refused d.refusal 0) out) (sym choice_is) refused_puts

    module _ (z : c.refusal ≡ 0) (n : List ℕ) (named : n ≡ name_bytes m site c) where
      chosen : (choose family setting m site).refusal ≡ 0
      chosen = sym (ap (λ (d : Chosen). d.refusal) choice_is) ∙ z

      pub hashable : Hashable m r n
      hashable =
          let accepted = ap (λ (q : Request). q.refusal) read ∙ choice_accepted family setting m site chosen in
          let placed = read_placed family setting m r read accepted in
          let short = proper_short (name_bytes m site c) ((lies_as family setting m site c choice_is).proper z) in
          record { head = placed.head; rest = placed.rest; message = placed.short; name = omega (arith, ap length named) }

      pub puts_under : (a : Answer) (left : List ℕ) → PutsUnder m r n out a left → PutsDhcid family setting m site out a left
      puts_under a left p =
          under_puts chosen a left
          (subst (λ (k : List ℕ). PutsUnder m (said family setting m) k out a left) (named ∙ ap (name_bytes m site) choice_is)
          (subst (λ (q : Request). PutsUnder m q n out a left) read p))

-- ---- the writing, both ways

-- a setting under which a name is chosen is known
chosen_setting : {family setting : ℕ} {m site : List ℕ} {c : Chosen} → Chooses family setting m site c → c.refusal ≡ 0 → KnownSetting setting
unfolding KnownSetting no_choice
chosen_setting (Chooses.unknown h) z = absurd (omega (arith, z))
chosen_setting (Chooses.refused s h n) z = s
chosen_setting (Chooses.client's h z u) w = inr u.setting_is
chosen_setting (Chooses.site's s h z u p) w = s
chosen_setting (Chooses.neither s h z u p) w = s

module _ (family setting : ℕ) (m site : List ℕ) where
  -- the choice c for the request r that the message says
  module _ {r : Request} {c : Chosen} (says : Says family m r) (chooses : Chooses family setting m site c) (z : c.refusal ≡ 0) where
    as_read : r ≡ said family setting m
    as_read = sym (said_says family setting m (chosen_setting chooses z) says)

    pub chosen_accepted : r.refusal ≡ 0
    chosen_accepted =
        ap (λ (q : Request). q.refusal) as_read
        ∙ choice_accepted family setting m site (ap (λ (d : Chosen). d.refusal) (chooses_choice family setting m site chooses) ∙ z)

    as_picked : c ≡ chosen_for setting m site r
    unfolding choose
    as_picked = sym (chooses_choice family setting m site chooses) ∙ ap (chosen_for setting m site) (sym as_read)

    as_puts : (out : List ℕ) (a : Answer) (left : List ℕ) → PutsUnder m r (name_bytes m site c) out a left → PutsDhcid family setting m site out a left
    as_puts out a left p = puts_under family setting m site out r c as_read as_picked z (name_bytes m site c) refl a left p

module _ (family setting : ℕ) (m site out : List ℕ) where
  -- what is answered and left is what the functions find
  pub writes_puts : {a : Answer} {left : List ℕ} → WritesDhcid family setting m site out a left → PutsDhcid family setting m site out a left
  unfolding dhcid_of
  writes_puts (WritesDhcid.no_name {c} h n) =
      subst (λ (d : Chosen). (d.refusal ≡ 0 → ⊥) → PutsDhcid family setting m site out (Refused d.refusal 0) out) (chooses_choice family setting m site h)
      (refused_puts family setting m site out) n
  writes_puts (WritesDhcid.too_much {r} {c} s h z long) = as_puts family setting m site s h z out (Refused hash_input_long 0) out (under_long m r (name_bytes m site c) out long)
  writes_puts (WritesDhcid.no_room {r} {c} s h z few short) = as_puts family setting m site s h z out (Refused output_short 0) out (under_no_room m r (name_bytes m site c) out few short)
  writes_puts (WritesDhcid.written {r} {c} s h z few room) =
      let left = overlay out 0 (dhcid_of m site r c) in
      as_puts family setting m site s h z out (Accepted 35) left (under_written m r (name_bytes m site c) out few room left refl)

  puts_same : {a : Answer} {left : List ℕ} → PutsDhcid family setting m site out a left → WritesDhcid family setting m site out a left
      → WritesDhcid family setting m site out (writing_answer family setting m site out) (writing_output family setting m site out)
  puts_same {a} {left} p w =
      subst (λ (b : Answer). WritesDhcid family setting m site out b (writing_output family setting m site out)) p.answers
      (subst (λ (l : List ℕ). WritesDhcid family setting m site out a l) p.leaves w)

  pub writing_writes : WritesDhcid family setting m site out (writing_answer family setting m site out) (writing_output family setting m site out)
  unfolding dhcid_of
  writing_writes = go (eqb c.refusal 0) refl (ltb 4096 n) refl (ltb (length out) 35) refl
    where
      r : Request
      r = said family setting m

      c : Chosen
      c = choose family setting m site

      n : ℕ
      n = length (identifier_bytes m r) + length (name_bytes m site c)

      chooses : Chooses family setting m site c
      chooses = choice_chooses family setting m site

      says : c.refusal ≡ 0 → Says family m r
      says z = accepted_says family setting m (choice_accepted family setting m site z)

      go : (t : Bool) → eqb c.refusal 0 ≡ t → (u : Bool) → ltb 4096 n ≡ u → (v : Bool) → ltb (length out) 35 ≡ v
          → WritesDhcid family setting m site out (writing_answer family setting m site out) (writing_output family setting m site out)
      go false e u f v g =
          let h = eqb-false c.refusal 0 e in
          puts_same (refused_puts family setting m site out h) (WritesDhcid.no_name chooses h)
      go true e true f v g =
          let z = eqb-true c.refusal 0 e in
          let long = ltb-true 4096 n f in
          puts_same (under_puts family setting m site out z (Refused hash_input_long 0) out (under_long m r (name_bytes m site c) out long)) (WritesDhcid.too_much (says z) chooses z long)
      go true e false f true g =
          let z = eqb-true c.refusal 0 e in
          let few = ltb-false 4096 n f in
          let short = ltb-true (length out) 35 g in
          puts_same (under_puts family setting m site out z (Refused output_short 0) out (under_no_room m r (name_bytes m site c) out few short))
          (WritesDhcid.no_room (says z) chooses z few short)
      go true e false f false g =
          let z = eqb-true c.refusal 0 e in
          let few = ltb-false 4096 n f in
          let room = ltb-false (length out) 35 g in
          let left = overlay out 0 (dhcid_of m site r c) in
          puts_same (under_puts family setting m site out z (Accepted 35) left (under_written m r (name_bytes m site c) out few room left refl))
          (WritesDhcid.written (says z) chooses z few room)
