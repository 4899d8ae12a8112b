-- The public theorems of `dhcid`. Assumes nothing.
use Prim.Native.Nat.{ℕ, ◌+◌, ◌≤◌, ◌<◌}
use mathlib.Core.Bool.{true}
use mathlib.Core.Path.{◌≡◌, sym, subst, ◌∙◌}
use mathlib.Core.List.{List}
use lib.ListN.{length, take, drop}
use Rattle.base.specs.Answer.{number}
use Rattle.base.specs.Bytes.{overlay}
use Rattle.base.specs.Dhcid.{well_formed}
use Rattle.base.specs.Logic.{Every}
use Rattle.base.specs.Refusal.{hash_input_long}
use Rattle.base.specs.declared.Answer.{Answer}
use Rattle.name.specs.Name.{Proper, canonical}
use Rattle.message.specs.Request.{Inside, identifier_bytes}
use Rattle.message.specs.declared.Request.{Request}
use Rattle.dhcid.specs.Chosen.{Says, Chooses, among, name_bytes, name_answer, NameApart}
use Rattle.dhcid.specs.Dhcid.{dhcid, WritesDhcid}
use Rattle.dhcid.specs.Choosing.{choose, writing_answer, writing_output, PutsDhcid}
use Rattle.dhcid.specs.declared.Chosen.{Chosen}
use Rattle.dhcid.proofs.SaysLaws.{placed}
use Rattle.dhcid.proofs.ChoiceLaws.{chooses_choice, choice_chooses, lies}
use Rattle.dhcid.proofs.WritingLaws.{choice_apart, writes_puts, writing_writes}
use Rattle.dhcid.proofs.DhcidLaws.{length_dhcid, dhcid_well_formed, output_first, output_rest, few_hashed, never_long}

module _ (family setting : ℕ) (m site : List ℕ) where
  -- ---- the choice

  -- what `choose` promises is a choice, and there is no other
  pub choice : Chooses family setting m site (choose family setting m site)
  choice = choice_chooses family setting m site

  pub only_choice : (c : Chosen) → Chooses family setting m site c → choose family setting m site ≡ c
  only_choice c h = chooses_choice family setting m site h

  -- so for every request there is a choice, and one only
  pub some_choice : (c : Chosen) × Chooses family setting m site c
  some_choice = (choose family setting m site, choice_chooses family setting m site)

  pub one_choice : (c d : Chosen) → Chooses family setting m site c → Chooses family setting m site d → c ≡ d
  one_choice c d h k = sym (chooses_choice family setting m site h) ∙ chooses_choice family setting m site k

  -- what is chosen lies within the message or the site's name; and it is a proper name
  pub choice_inside : (c : Chosen) → Chooses family setting m site c → Inside (among c.from_site m site) c.part
  choice_inside c h = (lies h).inside

  pub choice_proper : (c : Chosen) → Chooses family setting m site c → c.refusal ≡ 0 → Proper (name_bytes m site c)
  choice_proper c h = (lies h).proper

  -- taken apart as the header does it, the value that C gets is that choice: its source, its start and its length
  pub name_apart : (c : Chosen) → Chooses family setting m site c → NameApart (name_answer c) c
  name_apart c h = choice_apart h

  -- ---- the writing

  module _ (out : List ℕ) where
    -- what `put_dhcid` promises is what is to be answered and left in the output, and nothing else is
    pub puts_writes : (a : Answer) (left : List ℕ) → PutsDhcid family setting m site out a left → WritesDhcid family setting m site out a left
    puts_writes a left p =
        subst (λ (b : Answer). WritesDhcid family setting m site out b left) (sym p.answers)
        (subst (WritesDhcid family setting m site out (writing_answer family setting m site out)) (sym p.leaves) (writing_writes family setting m site out))

    pub writing : WritesDhcid family setting m site out (writing_answer family setting m site out) (writing_output family setting m site out)
    writing = writing_writes family setting m site out

    pub only_answer : (a : Answer) (left : List ℕ) → WritesDhcid family setting m site out a left → writing_answer family setting m site out ≡ a
    only_answer a left h = sym (writes_puts family setting m site out h).answers

    pub only_output : (a : Answer) (left : List ℕ) → WritesDhcid family setting m site out a left → writing_output family setting m site out ≡ left
    only_output a left h = sym (writes_puts family setting m site out h).leaves

    -- so for every request and every output there is an answer, and one only
    pub some_writing : (a : Answer) × (left : List ℕ) × WritesDhcid family setting m site out a left
    some_writing = (writing_answer family setting m site out, writing_output family setting m site out, writing_writes family setting m site out)

    pub one_answer : (a b : Answer) (left end : List ℕ) → WritesDhcid family setting m site out a left → WritesDhcid family setting m site out b end → a ≡ b
    one_answer a b left end h k = (writes_puts family setting m site out h).answers ∙ sym (writes_puts family setting m site out k).answers

    pub one_output : (a b : Answer) (left end : List ℕ) → WritesDhcid family setting m site out a left → WritesDhcid family setting m site out b end → left ≡ end
    one_output a b left end h k = (writes_puts family setting m site out h).leaves ∙ sym (writes_puts family setting m site out k).leaves

  -- identifier and name together have 510 bytes at most, so that 14 is never given to a message of bytes
  pub never_too_much : (r : Request) (c : Chosen) → Every (λ b. b < 256) m → Says family m r → Chooses family setting m site c → c.refusal ≡ 0
      → length (identifier_bytes m r) + length (name_bytes m site c) ≤ 510
  never_too_much r c bytes s h z = few_hashed bytes s h z

  pub never_refused_so : (out : List ℕ) (a : Answer) (left : List ℕ) → Every (λ b. b < 256) m → WritesDhcid family setting m site out a left → number a ≡ hash_input_long → ⊥
  never_refused_so out a left bytes h = never_long bytes h

-- ---- the DHCID

-- the DHCID of an accepted request passes refusal 15's test, under every name
pub dhcid_passes : (family : ℕ) (m : List ℕ) (r : Request) (name : List ℕ) → Says family m r → r.refusal ≡ 0
    → well_formed (dhcid r.id_type (identifier_bytes m r) name) ≡ true
dhcid_passes family m r name h z = dhcid_well_formed r.id_type (identifier_bytes m r) name (placed h z).type

module _ (type : ℕ) (identifier : List ℕ) where
  -- it depends on the name only through its canonical form
  pub by_canonical : (n k : List ℕ) → canonical n ≡ canonical k → dhcid type identifier n ≡ dhcid type identifier k
  unfolding dhcid
  by_canonical n k e = rw e

  -- it has 35 bytes: they are the output's first, and the rest of the output stays
  pub dhcid_size : (n : List ℕ) → length (dhcid type identifier n) ≡ 35
  dhcid_size n = length_dhcid type identifier n

  pub first_bytes : (out n : List ℕ) → take 35 (overlay out 0 (dhcid type identifier n)) ≡ dhcid type identifier n
  first_bytes out n = output_first out (dhcid type identifier n) (length_dhcid type identifier n)

  pub rest_unchanged : (out n : List ℕ) → drop 35 (overlay out 0 (dhcid type identifier n)) ≡ drop 35 out
  rest_unchanged out n = output_rest out (dhcid type identifier n) (length_dhcid type identifier n)
