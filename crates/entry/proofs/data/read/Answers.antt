use Rattle.entry.specs.Parts.{data_of}
use Rattle.entry.proofs.DataLaws.{by_dhcid, by_address}
use borrow.Author.Rules.{rules}
use Rattle.entry.proofs.data.read.Goals as goal

pub returns-then-rtype-eq-TYPE_DHCID : goal.returns-then-rtype-eq-TYPE_DHCID
returns-then-rtype-eq-TYPE_DHCID c = let a = c.args in by_dhcid a.text.now a.at a.inside a.rtype (data_of c.dhcid.result) c.if-rtype-eq-TYPE_DHCID.true c.dhcid.ensures

pub returns : goal.returns
returns c = let a = c.args in by_address a.text.now a.at a.inside a.rtype (data_of c.address.result) c.if-rtype-eq-TYPE_DHCID.false c.address.ensures
