-- Demand 1, of the calls that write UPDATE messages and of the one that reads the answer. Assumes nothing.
use Prim.Native.Nat.{ℕ, ◌≤◌}
use mathlib.Core.Path.{◌≡◌, subst, sym}
use mathlib.Core.Logic.{inl, inr}
use mathlib.Core.List.{List, [], ◌∷◌, ◌++◌}
use lib.ListN.{length}
use Rattle.base.specs.Order.{Test, AllHold, FirstFault}
use Rattle.base.specs.declared.Answer.{Answer}
use Rattle.base.proofs.DhcidLaws.{dhcid_length}
use Rattle.slots.specs.Entry.{family_of}
use Rattle.update.specs.Calls as update
use Rattle.update.specs.Calls.{Written, called, called_last}
use Rattle.update.specs.Message.{Message, message_bytes}
use Rattle.update.specs.Promise.{length_of}
use Rattle.update.specs.Reply.{rcode_of, ReadsReply}
use Rattle.update.specs.Updates.{address_record}
use Rattle.update.specs.declared.Kind.{Kind}
use Rattle.update.proofs.LengthLaws.{called_long, last_long}
use Rattle.demands.specs.Faults.{room_tests, message_tests, holder_tests, last_message_tests, answer_tests}
use Rattle.demands.proofs.AnswerLaws.{InRow}

-- ---- the last test is of a number: the same number in another form, once the tests before it hold

module _ (out : List ℕ) (m k : ℕ) where
  hold_for : (ts : List Test) → (AllHold ts → m ≡ k) → AllHold (ts ++ room_tests m out) → AllHold (ts ++ room_tests k out)
  hold_for [] e h = (subst (λ (n : ℕ). n ≤ length out) (e tt) h.0, tt)
  hold_for (t ∷ ts) e h = (h.0, hold_for ts (λ g. e (h.0, g)) h.1)

  fault_for : (ts : List Test) → (AllHold ts → m ≡ k) → (n : ℕ) → FirstFault (ts ++ room_tests m out) n → FirstFault (ts ++ room_tests k out) n
  fault_for [] e n (inl f) = inl (λ fits. f.0 (subst (λ (i : ℕ). i ≤ length out) (sym (e tt)) fits), f.1)
  fault_for [] e n (inr f) = absurd f.1
  fault_for (t ∷ ts) e n (inl f) = inl f
  fault_for (t ∷ ts) e n (inr f) = inr (f.0, fault_for ts (λ g. e (f.0, g)) n f.1)

  -- what is written where there is room for m bytes, or refused for the first fault
  written_in_row : (ts : List Test) (message : Message) (a : Answer) (left : List ℕ) → (AllHold ts → m ≡ k) → Written (ts ++ room_tests m out) message out a left → InRow a (ts ++ room_tests k out)
  written_in_row ts message a left e (Written.faulty {k = n} f r l) = InRow.failed n r (fault_for ts e n f)
  written_in_row ts message a left e (Written.written h r l) = InRow.passed (length (message_bytes message)) r (hold_for ts e h)

-- ---- the messages

module _ (id : ℕ) (zone name dhcid : List ℕ) where
  module _ (k : Kind) (family : ℕ) (address out : List ℕ) (a : Answer) (left : List ℕ) where
    pub message_in_row : update.Writes k id zone name dhcid family address out a left
        → InRow a (message_tests family zone name dhcid address ++ room_tests (length_of k (length zone) (length name) (length address)) out)
    message_in_row h =
        written_in_row out _ _ (message_tests family zone name dhcid address) (called k id zone name dhcid family address) a left
        (λ g. called_long id zone name dhcid (dhcid_length dhcid g.1.1.0) k (address_record (family_of family)) address) h

  pub last_in_row : (out : List ℕ) (a : Answer) (left : List ℕ) → update.WritesLast id zone name dhcid out a left → InRow a (last_message_tests zone name dhcid out)
  last_in_row out a left h =
      written_in_row out _ _ (holder_tests zone name dhcid) (called_last id zone name dhcid) a left (λ g. last_long id zone name dhcid (dhcid_length dhcid g.1.0)) h

-- ---- the answer

pub answer_in_row : (id : ℕ) (answer : List ℕ) (a : Answer) → ReadsReply id answer a → InRow a (answer_tests id answer)
answer_in_row id answer a (ReadsReply.faulty {k = n} f e) = InRow.failed n e f
answer_in_row id answer a (ReadsReply.read h e) = InRow.passed (rcode_of answer) e h
