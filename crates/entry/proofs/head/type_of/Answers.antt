use mathlib.Core.Path.{sym, ap}
use Rattle.grammar.specs.Listing.{RecordType}
use Rattle.entry.specs.Parts.{type_number_if}
use Rattle.entry.proofs.HeadLaws.{type_is, type_none}
use borrow.Author.Rules.{rules}
use Rattle.entry.proofs.head.type_of.Goals as goal

pub returns-then-is_a : goal.returns-then-is_a
returns-then-is_a c = sym (ap type_number_if (type_is c.args.word.now RecordType.A (c.is_a.ensures.if_true c.if-is_a.true)))

pub returns-then-is_aaaa : goal.returns-then-is_aaaa
returns-then-is_aaaa c = sym (ap type_number_if (type_is c.args.word.now RecordType.AAAA (c.is_aaaa.ensures.if_true c.if-is_aaaa.true)))

pub returns-then-is_dhcid : goal.returns-then-is_dhcid
returns-then-is_dhcid c = sym (ap type_number_if (type_is c.args.word.now RecordType.DHCID (c.is_dhcid.ensures.if_true c.if-is_dhcid.true)))

pub returns : goal.returns
returns c =
    sym
    (ap type_number_if
    (type_none c.args.word.now (c.is_a.ensures.if_false c.if-is_a.false) (c.is_aaaa.ensures.if_false c.if-is_aaaa.false)
    (c.is_dhcid.ensures.if_false c.if-is_dhcid.false)))
