-- The choice of a name and the writing of a DHCID, found by functions, for the promises of `choose` and `put_dhcid`. What they are is defined in Chosen.antt and
-- Dhcid.antt, which cite none of these: proofs/Theorems.antt proves that these find just that, and that every request is answered with something.
use Rattle.std.specs.Prelude.{ℕ, ◌+◌, ◌≤◌, Bool, cond, ◌&&◌, ◌||◌, ◌≡◌, List, eqb, ltb, length}
use Rattle.base.specs.Bytes.{overlay}
use Rattle.base.specs.Refusal.{no_proper_name, unknown_setting, output_short, hash_input_long}
use Rattle.base.specs.declared.Answer.{Answer}
use Rattle.name.specs.ProperTest.{is_proper}
use Rattle.message.specs.Request.{bytes_of, Inside, refused_request, identifier_bytes}
use Rattle.message.specs.declared.Request.{Request}
use Rattle.message4.specs.Reading4.{request4}
use Rattle.message6.specs.Reading6.{request6}
use Rattle.dhcid.specs.Chosen.{no_choice, from_message, from_site, name_bytes, answer_by}
use Rattle.dhcid.specs.Dhcid.{dhcid, dhcid_of}
use Rattle.dhcid.specs.declared.Chosen.{Chosen}

-- ---- the request

unfoldable pub is_known : ℕ → ℕ → Bool
is_known family setting = (eqb family 4 || eqb family 6) && (eqb setting 0 || eqb setting 1)

-- what the message says; 12 before all that
unfoldable pub said : ℕ → ℕ → List ℕ → Request
said family setting m = cond (is_known family setting) (cond (eqb family 4) (request4 m) (request6 m)) (refused_request unknown_setting)

-- ---- the choice

unfoldable pub uses_clients : ℕ → List ℕ → Request → Bool
uses_clients setting m r = eqb setting 1 && r.has_name && is_proper (bytes_of m r.name)

unfoldable pub by_site : List ℕ → Chosen
by_site site = cond (is_proper site) (from_site site) (no_choice no_proper_name)

-- the choice for the request r
unfoldable pub chosen_for : ℕ → List ℕ → List ℕ → Request → Chosen
chosen_for setting m site r = cond (eqb r.refusal 0) (cond (uses_clients setting m r) (from_message r.name) (by_site site)) (no_choice r.refusal)

unfoldable pub choose : ℕ → ℕ → List ℕ → List ℕ → Chosen
choose family setting m site = chosen_for setting m site (said family setting m)

-- ---- the writing

-- what is known of a request r of the message m under the name n before they are hashed: the identifier lies within the message, and neither message nor name is
-- longer than one may be
pub record Hashable (m : List ℕ) (r : Request) (n : List ℕ) : Type 0 where
  pub head : Inside m r.id_head
  pub rest : Inside m r.id
  pub message : length m ≤ 2048
  pub name : length n ≤ 255

-- 14, then 13; 0 where the DHCID of the request r under the name n is written
unfoldable pub refusal_under : List ℕ → Request → List ℕ → List ℕ → ℕ
refusal_under m r n out = cond (ltb 4096 (length (identifier_bytes m r) + length n)) hash_input_long (cond (ltb (length out) 35) output_short 0)

-- what the output then holds
unfoldable pub output_by : ℕ → List ℕ → List ℕ → List ℕ
output_by number bytes out = cond (eqb number 0) (overlay out 0 bytes) out

-- what `put_under` answers, and what it leaves in the output
pub record PutsUnder (m : List ℕ) (r : Request) (n out : List ℕ) (answer : Answer) (left : List ℕ) : Type 0 where
  pub answers : answer ≡ answer_by (refusal_under m r n out) 35
  pub leaves : left ≡ output_by (refusal_under m r n out) (dhcid r.id_type (identifier_bytes m r) n) out

-- the refusals of the choice c for the request r, then those
unfoldable pub refusal_of : List ℕ → List ℕ → List ℕ → Request → Chosen → ℕ
refusal_of m site out r c = cond (eqb c.refusal 0) (refusal_under m r (name_bytes m site c) out) c.refusal

unfoldable pub writing_refusal : ℕ → ℕ → List ℕ → List ℕ → List ℕ → ℕ
writing_refusal family setting m site out = refusal_of m site out (said family setting m) (choose family setting m site)

-- what `put_dhcid` answers, and what it leaves in the output
unfoldable pub writing_answer : ℕ → ℕ → List ℕ → List ℕ → List ℕ → Answer
writing_answer family setting m site out = answer_by (writing_refusal family setting m site out) 35

unfoldable pub writing_output : ℕ → ℕ → List ℕ → List ℕ → List ℕ → List ℕ
writing_output family setting m site out = output_by (writing_refusal family setting m site out) (dhcid_of m site (said family setting m) (choose family setting m site)) out

pub record PutsDhcid (family setting : ℕ) (m site out : List ℕ) (answer : Answer) (left : List ℕ) : Type 0 where
  pub answers : answer ≡ writing_answer family setting m site out
  pub leaves : left ≡ writing_output family setting m site out
