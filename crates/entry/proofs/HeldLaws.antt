-- A place holds one record: owner, type and data can be read off its bytes. Assumes nothing.
use Prim.Native.Nat.{ℕ, ◌-◌}
use mathlib.Core.Path.{◌≡◌, refl, sym, ap₂, ◌∙◌}
use mathlib.Core.List.{List, [], ◌∷◌, map, nil≢cons, cons≢nil, head-eq_of_cons-eq, tail-eq_of_cons-eq}
use native.Mathlib.Omega.{arith}
use lib.ListN.{length, take, replicate}
use lib.Seq.{take_at}
use Rattle.base.specs.Bytes.{padded, zero_filled}
use Rattle.base.specs.Logic.{Every}
use Rattle.grammar.specs.Listing.{RecordType, ResourceRecord}
use Rattle.grammar.specs.Whole.{rdata_size, Sized}
use Rattle.entry.specs.Held.{type_number, held}

-- ---- the parts, as they are held

pub owner_held : (n : List ℕ) → take (length n) (padded n) ≡ n
unfolding padded
owner_held n = take_at n (replicate (255 - length n) 0) (length n) refl

pub rdata_held : (k : RecordType) (bs : List ℕ) → length bs ≡ rdata_size k → take (rdata_size k) (zero_filled bs) ≡ bs
unfolding zero_filled
rdata_held k bs size = take_at bs (replicate (35 - length bs) 0) (rdata_size k) size

-- two types with one number are the same
pub one_type : (k l : RecordType) → type_number k ≡ type_number l → k ≡ l
one_type RecordType.A RecordType.A e = refl
one_type RecordType.A RecordType.AAAA e = absurd (omega arith)
one_type RecordType.A RecordType.DHCID e = absurd (omega arith)
one_type RecordType.AAAA RecordType.A e = absurd (omega arith)
one_type RecordType.AAAA RecordType.AAAA e = refl
one_type RecordType.AAAA RecordType.DHCID e = absurd (omega arith)
one_type RecordType.DHCID RecordType.A e = absurd (omega arith)
one_type RecordType.DHCID RecordType.AAAA e = absurd (omega arith)
one_type RecordType.DHCID RecordType.DHCID e = refl

-- ---- a record, and records

module _ (r q : ResourceRecord) (size : Sized r) (size' : Sized q) (e : held r ≡ held q) where
  same_owner : r.owner ≡ q.owner
  unfolding held
  same_owner = sym (owner_held r.owner) ∙ (λ i. take (e i).owner_len (e i).owner) ∙ owner_held q.owner

  same_type : r.rtype ≡ q.rtype
  unfolding held
  same_type = one_type r.rtype q.rtype (λ i. (e i).rtype)

  same_data : r.rdata ≡ q.rdata
  unfolding held Sized
  same_data = sym (rdata_held r.rtype r.rdata size) ∙ (λ i. take (rdata_size (same_type i)) (e i).rdata) ∙ rdata_held q.rtype q.rdata size'

  pub same_record : r ≡ q
  same_record = λ i. record { owner = same_owner i; rtype = same_type i; rdata = same_data i }

pub same_records : (rs qs : List ResourceRecord) → Every Sized rs → Every Sized qs → map held rs ≡ map held qs → rs ≡ qs
same_records [] [] Every.none Every.none e = refl
same_records [] (q ∷ qs) h h' e = absurd (nil≢cons e)
same_records (r ∷ rs) [] h h' e = absurd (cons≢nil e)
same_records (r ∷ rs) (q ∷ qs) (Every.more s h) (Every.more s' h') e =
    ap₂ ◌∷◌ (same_record r q s s' (head-eq_of_cons-eq e)) (same_records rs qs h h' (tail-eq_of_cons-eq e))
