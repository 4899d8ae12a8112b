-- Bytes come to one outcome; and two messages, one after the other, to one exchange. Assumes nothing.
use Prim.Native.Nat.{ℕ}
use mathlib.Core.Bool.{Bool, true, false, cond}
use mathlib.Core.Path.{◌≡◌, refl, sym, ap, ◌∙◌}
use mathlib.Core.List.{List, [], ◌∷◌}
use lib.Dec.{eqb}
use borrow.Author.Tests.{eqb-true, eqb-false, eq-eqb, ne_eqb}
use Rattle.update.specs.Message.{Message, message_bytes}
use Rattle.update.specs.Reading.{Fits}
use Rattle.update.specs.Reply.{done}
use Rattle.update.proofs.Theorems.{one_message}
use Rattle.carried.specs.Rules.{all_updated, Outcome, message_code, carried_out, Answers}
use Rattle.carried.specs.Sent.{Exchange, ended, Exchanges}
use Rattle.carried.specs.Zone.{Zone}
use Rattle.carried.proofs.RuleLaws.{out}

-- ---- one message

module _ (served : List ℕ) (z : Zone) where
  pub one_answer : (b : List ℕ) (o p : Outcome) → Answers served b z o → Answers served b z p → o ≡ p
  one_answer b o p h k = h.outcome ∙ ap (λ (m : Message). carried_out served m z) (one_message b h.message k.message h.reads k.reads) ∙ sym k.outcome

  module _ (m : Message) (fits : Fits m) where
    pub answer_there : Answers served (message_bytes m) z (carried_out served m z)
    answer_there = record { message = m; reads = record { fits = fits; bytes = refl }; outcome = refl }

    pub answer_is : (o : Outcome) → Answers served (message_bytes m) z o → o ≡ carried_out served m z
    answer_is o h = one_answer (message_bytes m) o (carried_out served m z) h answer_there

  -- the updates are made where the code is 0; any other leaves the zone as it was
  pub message_done : (m : Message) → (carried_out served m z).code ≡ done → (carried_out served m z).zone ≡ all_updated m.updates z
  unfolding carried_out
  message_done m h = rw (eq-eqb (message_code served m z) done h)

  pub message_stays : (m : Message) → ((carried_out served m z).code ≡ done → ⊥) → (carried_out served m z).zone ≡ z
  unfolding carried_out
  message_stays m h = rw (ne_eqb (message_code served m z) done h)

  pub refused_stays : (b : List ℕ) (o : Outcome) → Answers served b z o → (o.code ≡ done → ⊥) → o.zone ≡ z
  refused_stays b o h other =
      ap (λ (p : Outcome). p.zone) h.outcome ∙ message_stays h.message (λ e. other (ap (λ (p : Outcome). p.code) h.outcome ∙ e))

-- ---- two messages

unfoldable pub exchanged : List ℕ → ℕ → Message → Message → Zone → Exchange
exchanged served on m₁ m₂ z =
    let o = carried_out served m₁ z in
    let p = carried_out served m₂ o.zone in
    cond (eqb o.code on) (ended (o.code ∷ p.code ∷ []) p.zone) (ended (o.code ∷ []) o.zone)

module _ (served : List ℕ) (on : ℕ) (m₁ m₂ : Message) (z : Zone) where
  pub one_sent : (c : ℕ) (y : Zone) → carried_out served m₁ z ≡ out c y → eqb c on ≡ false → exchanged served on m₁ m₂ z ≡ ended (c ∷ []) y
  unfolding exchanged
  one_sent c y h s = rw (h, s)

  pub two_sent : (c e : ℕ) (y w : Zone) → carried_out served m₁ z ≡ out c y → eqb c on ≡ true → carried_out served m₂ y ≡ out e w
      → exchanged served on m₁ m₂ z ≡ ended (c ∷ e ∷ []) w
  unfolding exchanged
  two_sent c e y w h s k = rw (h, s, k)

  module _ (fits₁ : Fits m₁) (fits₂ : Fits m₂) where
    pub exchange_is : (x : Exchange) → Exchanges served on (message_bytes m₁) (message_bytes m₂) z x → x ≡ exchanged served on m₁ m₂ z
    exchange_is x (Exchanges.one o a off e) =
        e ∙ sym (one_sent o.code o.zone (sym (answer_is served z m₁ fits₁ o a)) (ne_eqb o.code on off))
    exchange_is x (Exchanges.two o p a same b e) =
        e ∙ sym (two_sent o.code p.code o.zone p.zone (sym (answer_is served z m₁ fits₁ o a)) (eq-eqb o.code on same) (sym (answer_is served o.zone m₂ fits₂ p b)))

    there_by : (b : Bool) → eqb (carried_out served m₁ z).code on ≡ b → Exchanges served on (message_bytes m₁) (message_bytes m₂) z (exchanged served on m₁ m₂ z)
    there_by true s =
        let o : Outcome = carried_out served m₁ z in
        let p : Outcome = carried_out served m₂ o.zone in
        Exchanges.two o p (answer_there served z m₁ fits₁) (eqb-true o.code on s) (answer_there served o.zone m₂ fits₂)
        (two_sent o.code p.code o.zone p.zone refl s refl)
    there_by false s =
        let o : Outcome = carried_out served m₁ z in
        Exchanges.one o (answer_there served z m₁ fits₁) (λ e. eqb-false o.code on s e) (one_sent o.code o.zone refl s)

    pub exchange_there : Exchanges served on (message_bytes m₁) (message_bytes m₂) z (exchanged served on m₁ m₂ z)
    exchange_there = there_by (eqb (carried_out served m₁ z).code on) refl
