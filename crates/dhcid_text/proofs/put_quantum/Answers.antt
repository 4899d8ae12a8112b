use native.Mathlib.Omega.{arith}
use lib.ListN.{length-set}
use Rattle.dhcid_text.proofs.DhcidLaws.{whole_quantum}
use Rattle.dhcid_text.proofs.put_quantum.Goals as goal

pub bounds-bytes-at-2 : goal.bounds-bytes-at-2
bounds-bytes-at-2 c = simp length-set (omega arith)

pub bounds-bytes-at-3 : goal.bounds-bytes-at-3
bounds-bytes-at-3 c = simp length-set (omega arith)

pub returns : goal.returns
returns c =
    let a = c.args in
    λ cs p h. whole_quantum a.count p a.a a.b a.c a.d a.bytes.now cs c.requires.0 (omega arith) (omega arith) h
