use Prim.Native.Nat.{◌≤◌}
use mathlib.Core.Path.{◌≡◌, refl, sym, ◌∙◌}
use lib.ListN.{length}
use Rattle.update.specs.Reply.{id_of, qr_of, opcode_of, ReadsReply}
use mathlib.Core.Logic.{inl, inr}
use native.Mathlib.Omega.{arith}
use borrow.Author.Tests.{not-true, not-false}
use borrow.Author.Rules.{rules}
use Rattle.update.proofs.reply.read.Goals.{Else-be16-id, Else-reply-ne5}
use Rattle.update.proofs.reply.read.Goals as goal

pub returns-then-reply-lt-HEADER : goal.returns-then-reply-lt-HEADER
returns-then-reply-lt-HEADER c = ReadsReply.faulty (inl (λ whole. omega (arith, whole, c.if-reply-lt-HEADER.true), refl)) c.refused.ensures

pub returns-then-reply-ne1 : goal.returns-then-reply-ne1
returns-then-reply-ne1 c = ReadsReply.faulty (inr (c.if-reply-lt-HEADER.false, inl (λ qr. c.if-reply-ne1.true qr, refl))) c.refused-then-reply-ne1.ensures

pub returns-then-reply-ne5 : goal.returns-then-reply-ne5
returns-then-reply-ne5 c =
    ReadsReply.faulty (inr (c.if-reply-lt-HEADER.false, inr (c.if-reply-ne1.false, inl (λ opcode. c.if-reply-ne5.true opcode, refl)))) c.refused-then-reply-ne5.ensures

-- behind the first three tests, and behind the fourth
header : (c : Else-reply-ne5) → let a = c.args.reply.now in (12 ≤ length a) × (qr_of a ≡ 1) × (opcode_of a ≡ 5)
header c = (c.if-reply-lt-HEADER.false, c.if-reply-ne1.false, c.if-reply-ne5.false)

number : (c : Else-be16-id) → id_of c.args.reply.now ≡ c.args.id
number c = sym c.be16.ensures ∙ c.if-be16-id.false

pub returns-then-be16-id : goal.returns-then-be16-id
returns-then-be16-id c =
    let g = header (goal.at.returns-then-be16-id c).Else-reply-ne5 in
    ReadsReply.faulty (inr (g.0, inr (g.1, inr (g.2, inl (λ id. c.if-be16-id.true (c.be16.ensures ∙ id), refl))))) c.refused-then-be16-id.ensures

pub returns-then-not-is_ours : goal.returns-then-not-is_ours
returns-then-not-is_ours c =
    let g = header (goal.at.returns-then-not-is_ours c).Else-reply-ne5 in
    let id = number (goal.at.returns-then-not-is_ours c).Else-be16-id in
    ReadsReply.faulty (inr (g.0, inr (g.1, inr (g.2, inr (id, inl (c.is_ours.ensures.if_false c.if-not-is_ours.true, refl)))))) c.refused-then-not-is_ours.ensures

pub returns : goal.returns
returns c =
    let g = header (goal.at.returns c).Else-reply-ne5 in
    let id = number (goal.at.returns c).Else-be16-id in
    ReadsReply.read (g.0, (g.1, (g.2, (id, (c.is_ours.ensures.if_true c.if-not-is_ours.false, tt))))) refl
