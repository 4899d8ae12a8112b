-- Demand 2, of the call for a DHCID. Assumes nothing.
use Prim.Native.Nat.{ℕ}
use mathlib.Core.Path.{refl, sym}
use mathlib.Core.List.{List}
use Rattle.base.specs.Answer.{IsAccepted}
use Rattle.base.specs.declared.Answer.{Answer}
use Rattle.base.proofs.AnswerLaws.{accepted≢refused}
use Rattle.message.specs.Request.{identifier_bytes}
use Rattle.dhcid.specs.Chosen.{name_bytes}
use Rattle.dhcid.specs.Dhcid.{dhcid_of, WritesDhcid}
use Rattle.dhcid.proofs.Theorems.{first_bytes, rest_unchanged}
use Rattle.demands.specs.Demand2.{IsRfc4701}

pub dhcid_is : (family setting : ℕ) (m site out : List ℕ) (a : Answer) (left : List ℕ) → WritesDhcid family setting m site out a left → IsAccepted a
    → IsRfc4701 family setting m site out a left
unfolding IsAccepted dhcid_of
dhcid_is family setting m site out a left (WritesDhcid.no_name h nz) (v, e) = absurd (accepted≢refused (sym e))
dhcid_is family setting m site out a left (WritesDhcid.too_much s h z long) (v, e) = absurd (accepted≢refused (sym e))
dhcid_is family setting m site out a left (WritesDhcid.no_room s h z few short) (v, e) = absurd (accepted≢refused (sym e))
dhcid_is family setting m site out a left (WritesDhcid.written {r} {c} s h z few room) k =
    record {
      answered = refl;
      asked = r;
      says = s;
      chosen = c;
      chooses = h;
      named = z;
      dhcid = first_bytes r.id_type (identifier_bytes m r) out (name_bytes m site c);
      rest = rest_unchanged r.id_type (identifier_bytes m r) out (name_bytes m site c);
    }
