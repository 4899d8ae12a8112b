use Prim.Native.Nat.{◌<◌}
use mathlib.Core.Path.{◌≡◌, refl, sym, ap, subst, ◌∙◌}
use mathlib.Core.Logic.{inl, inr, ⊎_elim}
use native.Mathlib.Omega.{arith}
use lib.ListN.{length, length-drop}
use Rattle.base.specs.Logic.{Every}
use Rattle.dhcid_text.specs.Base64.{value64}
use Rattle.dhcid_text.proofs.DhcidLaws.{none_passed, group_next, group_passed, group_within, digits_passed, no_quantum, quantum_digits, group_digits, quantum_passed}
use Rattle.dhcid_text.proofs.read_quanta.Goals as goal

pub returns-then-count-ne0 : goal.returns-then-count-ne0
returns-then-count-ne0 c =
    let a = c.args in (
      record {
        whole = refl;
        within = omega arith;
        fits = inl refl;
        digits = Every.none;
        most = λ begins. absurd (c.if-count-ne0.true begins);
      },
      λ f p cs. none_passed a.word.now f a.count p a.bytes.now cs,
    )

pub loop-group-init : goal.loop-group-init
loop-group-init c =
    let a = c.args in
    record {
      size = cc;
      rest = cc;
      whole = refl;
      within = omega arith;
      fits = inl refl;
      digits = Every.none;
      state = λ f p cs. none_passed a.word.now f a.count p a.bytes.now cs;
    }

pub overflow_add-count : goal.overflow_add-count
overflow_add-count c = ⊎_elim (λ e. omega arith) (λ e. omega arith) c.loop-group.invariant.fits

pub returns-then-count-passed-ge44 : goal.returns-then-count-passed-ge44
returns-then-count-passed-ge44 c =
    let i = c.loop-group.invariant in (
      record {
        whole = i.whole;
        within = i.within;
        fits = i.fits;
        digits = i.digits;
        most = λ begins near. absurd (omega arith);
      },
      i.state,
    )

pub returns-then-not-are_digits : goal.returns-then-not-are_digits
returns-then-not-are_digits c =
    let i = c.loop-group.invariant in
    let next = c.in-Some.ensures.steps.1 in
    let group = c.in-Some.group.now in
    let long : length group ≡ 4 = omega arith in
    let here = group_next c.args.word.now c.loop-group.passed group c.next.new.self.rest.now (sym i.rest ∙ next.0) long in (
      record {
        whole = i.whole;
        within = i.within;
        fits = i.fits;
        digits = i.digits;
        most =
            λ begins near fits four.
            no_quantum group long c.value64-a.ensures c.value64-b.ensures c.value64-c.ensures c.value64-d.ensures
            (c.are_digits.ensures.if_false c.if-not-are_digits.true) (subst (Every (λ x. value64 x < 64)) here four);
      },
      i.state,
    )

pub put_quantum-requires : goal.put_quantum-requires
put_quantum-requires c = (c.are_digits.ensures.if_true c.if-not-are_digits.false, omega arith, omega arith, omega arith)

pub loop-group-preserved : goal.loop-group-preserved
loop-group-preserved c =
    let a = c.args in
    let w = a.word.now in
    let l = c.loop-group in
    let i = l.invariant in
    let group = c.in-Some.group.now in
    let rest = c.next.new.self.rest.now in
    let long : length group ≡ 4 = c.in-Some.ensures.steps.1.1 ∙ i.size in
    let next = sym i.rest ∙ c.in-Some.ensures.steps.1.0 in
    let small = c.are_digits.ensures.if_true c.if-not-are_digits.false in
    let digits = quantum_digits group long c.value64-a.ensures c.value64-b.ensures c.value64-c.ensures c.value64-d.ensures small in
    let values = group_digits group long c.value64-a.ensures c.value64-b.ensures c.value64-c.ensures c.value64-d.ensures small in
    record {
      size = omega arith;
      rest = sym (group_passed w l.passed group rest next long);
      whole = omega arith;
      within = group_within w l.passed group rest next long;
      fits = inr (omega arith, omega arith);
      digits = digits_passed w l.passed group rest next long values i.digits;
      state =
          λ f p cs h.
          quantum_passed w a.count l.passed l.bytes c.put_quantum.new.bytes _ (omega arith) (digits ∙ sym (group_next w l.passed group rest next long))
          c.put_quantum.ensures f p cs (i.state f p cs h);
    }

pub returns : goal.returns
returns c =
    let i = c.loop-group.invariant in (
      record {
        whole = i.whole;
        within = i.within;
        fits = i.fits;
        digits = i.digits;
        most = λ begins near fits. absurd (omega (arith, ap length i.rest, length-drop c.loop-group.passed c.args.word.now, c.in-None.ensures.steps.1.0));
      },
      i.state,
    )
