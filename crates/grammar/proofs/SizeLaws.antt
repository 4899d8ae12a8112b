-- The data of every record that a listing spells are 4, 16 or 35 bytes. Assumes nothing.
use Prim.Native.Nat.{ℕ, ◌*◌}
use mathlib.Core.Path.{◌≡◌, refl, ap}
use mathlib.Core.List.{List, [], ◌∷◌}
use native.Mathlib.Omega.{arith}
use lib.ListN.{length, length-append}
use Rattle.base.specs.Bytes.{big_endian, in_bytes}
use Rattle.base.specs.Logic.{Every}
use Rattle.base.proofs.Bytes.{length_big_endian}
use Rattle.base.proofs.DhcidLaws.{dhcid_length}
use Rattle.grammar.specs.Listing.{RecordType, ResourceRecord, Rdata, Records}
use Rattle.grammar.specs.Whole.{rdata_size, Sized}

two_each : (xs : List ℕ) → length (in_bytes 2 xs) ≡ 2 * length xs
unfolding in_bytes
two_each [] = refl
two_each (x ∷ xs) = omega (arith, length-append (big_endian 2 x) (in_bytes 2 xs), length_big_endian 2 x, two_each xs)

pub rdata_size_lem : {k : RecordType} {ds : List (List ℕ)} {bs : List ℕ} → Rdata k ds bs → length bs ≡ rdata_size k
rdata_size_lem (Rdata.in_a s) = s.four
rdata_size_lem (Rdata.in_aaaa s) = omega (arith, ap length s.bytes, two_each s.numbers, s.eight)
rdata_size_lem (Rdata.in_dhcid {bs = bs} s) = dhcid_length bs s.test

pub records_sized : {es : List (List ℕ)} {rs : List ResourceRecord} → Records es rs → Every Sized rs
unfolding Sized
records_sized Records.none = Every.none
records_sized (Records.no_record w h) = records_sized h
records_sized (Records.a_record e h) = Every.more (rdata_size_lem e.rdata) (records_sized h)
