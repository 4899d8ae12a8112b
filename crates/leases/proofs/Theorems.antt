-- The public theorems of `leases` (document 02, K7): the promises determine what is answered and what both sides hold; what the two steps are, and what stands between
-- them; and the same call again, after a power cut before, between or after its steps, ends as an uncut run does: of all bytes, sound or not, however often it is
-- cut. Each is proved by citation. Assumes nothing.
use Prim.Native.Nat.{ℕ, suc, ◌*◌, ◌^◌, ◌≤◌, ◌<◌}
use mathlib.Core.Bool.{false}
use mathlib.Core.Path.{◌≡◌}
use mathlib.Core.Logic.{◌⊎◌}
use mathlib.Core.List.{List, ◌++◌}
use mathlib.Core.Option.{some}
use lib.ListN.{length, take}
use Rattle.base.specs.Answer.{number, value}
use Rattle.base.specs.Order.{AllHold}
use Rattle.base.specs.Refusal.{reverse_full}
use Rattle.base.specs.declared.Answer.{Answer}
use Rattle.base.specs.declared.Answer.TheVariants.{Accepted, Refused}
use Rattle.block.specs.Sealed.{block_size}
use Rattle.name.specs.Name.{canonical}
use Rattle.slots.specs.Entry.{family_of, address_of}
use Rattle.slots.specs.Form.{TableEntry, Sound}
use Rattle.table.specs.Steps.{find}
use Rattle.table.specs.Calls.{Adds, Removes}
use Rattle.reverse.specs.Entry.{has_place, behind, others_at}
use Rattle.reverse.specs.Form.{SoundReverse}
use Rattle.book.specs.Books.{SoundBlocks}
use Rattle.book.specs.Calls.{BlockWritten, Replays}
use Rattle.leases.specs.Calls.{lease_tests, Leases, Ends}
use Rattle.leases.specs.Cuts.{LeaseCut, LeaseCuts, SecondLease, EndCut, EndCuts, SecondEnd, Stored}
use Rattle.leases.proofs.RunLaws.{accepted_reverse}
use Rattle.leases.proofs.LeaseLaws.{lease_adds, end_removes}
use Rattle.leases.proofs.CallLaws.{one_leased, unleased, leases_often, leased_sound, one_ended, unended, ends_often, ended_sound}
use Rattle.leases.proofs.AgainLaws.{lease_both_stored, lease_again, lease_one_step, lease_gives, lease_puts, lease_keeps_others, end_both_stored, end_again, end_one_step, end_takes, end_keeps_another, end_keeps_others}
use Rattle.leases.proofs.StoredLaws.{stored_add, stored_remove}

-- ---- a lease

module _ (limit places : ℕ) (b c name dhcid : List ℕ) (family : ℕ) (address : List ℕ) (policy : ℕ) where
  -- the promise determines the answer and every byte of both sides
  pub one_lease : (r q : Answer) (b' c' b'' c'' : List ℕ) → Leases limit places b c name dhcid family address policy r b' c' → Leases limit places b c name dhcid family address policy q b'' c''
      → (r ≡ q) × (b' ≡ b'') × (c' ≡ c'')
  one_lease r q b' c' b'' c'' h k = one_leased limit places b c name dhcid family address policy r q b' c' b'' c'' h k

  -- a refused lease changes nothing
  pub refused_lease : (r : Answer) (b' c' : List ℕ) → Leases limit places b c name dhcid family address policy r b' c' → (n at : ℕ) → r ≡ Refused n at → (b' ≡ b) × (c' ≡ c)
  refused_lease r b' c' h n at e = unleased limit places b c name dhcid family address policy r b' c' h n at e

  -- where the reverse side is sound: it is full and without the address, 46; or answer and table are those of the add
  pub forward_lease : (r : Answer) (b' c' : List ℕ) → Leases limit places b c name dhcid family address policy r b' c' → (u : SoundReverse places c)
      → (AllHold (lease_tests limit places b c name dhcid family address policy) × (has_place places (family_of family) address u.names ≡ false) × (r ≡ Refused reverse_full 0))
      ⊎ Adds limit b name dhcid family address policy r b'
  forward_lease r b' c' h u = lease_adds limit places b c name dhcid family address r b' c' policy h u

  -- an uncut run is one that is cut behind its two steps: so what is said of a cut run after each step holds of a whole one too
  pub whole_lease : (r : Answer) (b' c' : List ℕ) → Leases limit places b c name dhcid family address policy r b' c' → LeaseCut limit places name dhcid family address policy 2 b c b' c'
  whole_lease r b' c' h = lease_both_stored limit places b c name dhcid family address policy r b' c' h 0

  -- after each step both sides are sound
  pub sound_lease : (k : ℕ) (b₁ c₁ : List ℕ) → LeaseCut limit places name dhcid family address policy k b c b₁ c₁ → Sound limit b → SoundReverse places c → Sound limit b₁ × SoundReverse places c₁
  sound_lease k b₁ c₁ cut s u = leased_sound limit places b c name dhcid family address policy k b₁ c₁ cut s u

  -- and every other address has its entry, in the order that was
  pub others_lease : (k : ℕ) (b₁ c₁ : List ℕ) → LeaseCut limit places name dhcid family address policy k b c b₁ c₁ → (u : SoundReverse places c) (u₁ : SoundReverse places c₁)
      → others_at (family_of family) address u₁.names ≡ others_at (family_of family) address u.names
  others_lease k b₁ c₁ cut u u₁ = lease_keeps_others limit places b c name dhcid family address policy k b₁ c₁ cut u u₁

  module _ (r : Answer) (b₀ c₀ : List ℕ) (whole : Leases limit places b c name dhcid family address policy r b₀ c₀) where
    -- the same again, after a cut that left the first k steps done: the uncut run's bytes, both sides, and that answer
    pub again_lease : (k : ℕ) (b₁ c₁ : List ℕ) → LeaseCut limit places name dhcid family address policy k b c b₁ c₁
        → (r₂ : Answer) (b₂ c₂ : List ℕ) → Leases limit places b₁ c₁ name dhcid family address policy r₂ b₂ c₂ → (b₂ ≡ b₀) × (c₂ ≡ c₀) × SecondLease k r r₂
    again_lease k b₁ c₁ cut r₂ b₂ c₂ second = lease_again limit places b c name dhcid family address policy k b₁ c₁ r r₂ b₀ c₀ b₂ c₂ whole cut second

    -- any number of cut runs leave one of the three states, and a whole run from there ends as the uncut one
    pub however_often_lease : (ks : List ℕ) (b₁ c₁ : List ℕ) → LeaseCuts limit places name dhcid family address policy ks b c b₁ c₁
        → ((k : ℕ) × (k ≤ 2) × LeaseCut limit places name dhcid family address policy k b c b₁ c₁)
        × ((r₂ : Answer) (b₂ c₂ : List ℕ) → Leases limit places b₁ c₁ name dhcid family address policy r₂ b₂ c₂ → (b₂ ≡ b₀) × (c₂ ≡ c₀))
    however_often_lease ks b₁ c₁ cuts =
        let one = leases_often limit places b c name dhcid family address policy r b₀ c₀ whole ks b₁ c₁ cuts in
        (one, λ r₂ b₂ c₂ second. let a = again_lease one.0 b₁ c₁ one.2 r₂ b₂ c₂ second in (a.0, a.1))

    module _ (v : ℕ) (accepted : r ≡ Accepted v) where
      -- what stands when one step of an accepted lease is done: the new table and the old reverse side
      pub between_lease : (b₁ c₁ : List ℕ) → LeaseCut limit places name dhcid family address policy 1 b c b₁ c₁ → (b₁ ≡ b₀) × (c₁ ≡ c)
      between_lease b₁ c₁ cut = lease_one_step limit places b c name dhcid family address policy b₁ c₁ r v b₀ c₀ whole accepted cut

      -- from then on the name has the address: no step leaves it behind an address that it lacks
      pub has_address_lease : (k : ℕ) (b₁ c₁ : List ℕ) → LeaseCut limit places name dhcid family address policy (suc k) b c b₁ c₁ → (s : Sound limit b₁)
          → (e : TableEntry) × (find (canonical name) s.table ≡ some e) × (address_of (family_of family) e ≡ some address)
      has_address_lease k b₁ c₁ cut s = lease_gives limit places b c name dhcid family address policy k b₁ c₁ r v b₀ c₀ whole accepted cut s

      -- and after both the name is behind the address
      pub behind_lease : (k : ℕ) (b₁ c₁ : List ℕ) → LeaseCut limit places name dhcid family address policy (suc (suc k)) b c b₁ c₁ → (u₁ : SoundReverse places c₁)
          → behind (family_of family) address u₁.names ≡ some (canonical name)
      behind_lease k b₁ c₁ cut u₁ = lease_puts limit places b c name dhcid family address policy k b₁ c₁ r v b₀ c₀ whole accepted cut u₁

-- ---- an ended lease

module _ (limit places : ℕ) (b c name dhcid : List ℕ) (family : ℕ) (address : List ℕ) where
  pub one_end : (r q : Answer) (b' c' b'' c'' : List ℕ) → Ends limit places b c name dhcid family address r b' c' → Ends limit places b c name dhcid family address q b'' c''
      → (r ≡ q) × (b' ≡ b'') × (c' ≡ c'')
  one_end r q b' c' b'' c'' h k = one_ended limit places b c name dhcid family address r q b' c' b'' c'' h k

  pub refused_end : (r : Answer) (b' c' : List ℕ) → Ends limit places b c name dhcid family address r b' c' → (n at : ℕ) → r ≡ Refused n at → (b' ≡ b) × (c' ≡ c)
  refused_end r b' c' h n at e = unended limit places b c name dhcid family address r b' c' h n at e

  -- where the reverse side is sound, answer and table are those of the remove
  pub forward_end : (r : Answer) (b' c' : List ℕ) → Ends limit places b c name dhcid family address r b' c' → SoundReverse places c → Removes limit b name dhcid family address r b'
  forward_end r b' c' h u = end_removes limit places b c name dhcid family address r b' c' h u

  pub whole_end : (r : Answer) (b' c' : List ℕ) → Ends limit places b c name dhcid family address r b' c' → EndCut limit places name dhcid family address 2 b c b' c'
  whole_end r b' c' h = end_both_stored limit places b c name dhcid family address r b' c' h 0

  pub sound_end : (k : ℕ) (b₁ c₁ : List ℕ) → EndCut limit places name dhcid family address k b c b₁ c₁ → Sound limit b → SoundReverse places c → Sound limit b₁ × SoundReverse places c₁
  sound_end k b₁ c₁ cut s u = ended_sound limit places b c name dhcid family address k b₁ c₁ cut s u

  pub others_end : (k : ℕ) (b₁ c₁ : List ℕ) → EndCut limit places name dhcid family address k b c b₁ c₁ → (u : SoundReverse places c) (u₁ : SoundReverse places c₁)
      → others_at (family_of family) address u₁.names ≡ others_at (family_of family) address u.names
  others_end k b₁ c₁ cut u u₁ = end_keeps_others limit places b c name dhcid family address k b₁ c₁ cut u u₁

  -- a reverse name goes only if it is this client's name: where another is behind the address, or none, every byte of the reverse side stays
  pub kept_end : (k : ℕ) (b₁ c₁ : List ℕ) → EndCut limit places name dhcid family address k b c b₁ c₁ → (u : SoundReverse places c)
      → (behind (family_of family) address u.names ≡ some (canonical name) → ⊥) → c₁ ≡ c
  kept_end k b₁ c₁ cut u other = end_keeps_another limit places b c name dhcid family address k b₁ c₁ cut u other

  module _ (r : Answer) (b₀ c₀ : List ℕ) (whole : Ends limit places b c name dhcid family address r b₀ c₀) where
    -- the same, and the answer by the table that the uncut run leaves
    pub again_end : (k : ℕ) (b₁ c₁ : List ℕ) → EndCut limit places name dhcid family address k b c b₁ c₁
        → (r₂ : Answer) (b₂ c₂ : List ℕ) → Ends limit places b₁ c₁ name dhcid family address r₂ b₂ c₂
        → (b₂ ≡ b₀) × (c₂ ≡ c₀) × SecondEnd limit (canonical name) b₀ k r r₂
    again_end k b₁ c₁ cut r₂ b₂ c₂ second = end_again limit places b c name dhcid family address k b₁ c₁ r r₂ b₀ c₀ b₂ c₂ whole cut second

    pub however_often_end : (ks : List ℕ) (b₁ c₁ : List ℕ) → EndCuts limit places name dhcid family address ks b c b₁ c₁
        → ((k : ℕ) × (k ≤ 2) × EndCut limit places name dhcid family address k b c b₁ c₁)
        × ((r₂ : Answer) (b₂ c₂ : List ℕ) → Ends limit places b₁ c₁ name dhcid family address r₂ b₂ c₂ → (b₂ ≡ b₀) × (c₂ ≡ c₀))
    however_often_end ks b₁ c₁ cuts =
        let one = ends_often limit places b c name dhcid family address r b₀ c₀ whole ks b₁ c₁ cuts in
        (one, λ r₂ b₂ c₂ second. let a = again_end one.0 b₁ c₁ one.2 r₂ b₂ c₂ second in (a.0, a.1))

    module _ (v : ℕ) (accepted : r ≡ Accepted v) where
      -- what stands when one step of an accepted ended lease is done: the old table and the new reverse side
      pub between_end : (b₁ c₁ : List ℕ) → EndCut limit places name dhcid family address 1 b c b₁ c₁ → (b₁ ≡ b) × (c₁ ≡ c₀)
      between_end b₁ c₁ cut = end_one_step limit places b c name dhcid family address b₁ c₁ r v b₀ c₀ whole accepted cut

      -- from then on the name is not behind the address
      pub not_behind_end : (k : ℕ) (b₁ c₁ : List ℕ) → EndCut limit places name dhcid family address (suc k) b c b₁ c₁ → (u₁ : SoundReverse places c₁)
          → behind (family_of family) address u₁.names ≡ some (canonical name) → ⊥
      not_behind_end k b₁ c₁ cut u₁ there = end_takes limit places b c name dhcid family address k b₁ c₁ r v b₀ c₀ whole accepted cut u₁ there

-- ---- what is stored, with K5's book

-- a book of k blocks replays to the table b; the call on b and a reverse side c is accepted and leaves the table b'; the name's block is written from b' under the number k,
-- and j of its bytes are stored, a beginning or all: then the sound part of what is stored replays to the table before the step, or after it
module _ (limit places : ℕ) (book area : List ℕ) (q : Answer) (b : List ℕ) (k : ℕ) (blocks : length book ≡ block_size * k) (below : suc k < 2 ^ 32) (old : Replays limit book area q b)
    (done : number q ≡ 0) (name b' out : List ℕ) (w : Answer) (left : List ℕ) (written : BlockWritten limit b' name k out w left) (stored : number w ≡ 0) (r : Answer) (v : ℕ) (accepted : r ≡ Accepted v)
    (c c' dhcid : List ℕ) (family : ℕ) (address : List ℕ) (j m : ℕ) (sound : SoundBlocks limit (book ++ take j (take (value w) left)) m) where
  pub stored_lease : (policy : ℕ) → Leases limit places b c name dhcid family address policy r b' c' → Stored limit area b b' (take (block_size * m) (book ++ take j (take (value w) left))) j
  unfolding Leases
  stored_lease policy step =
      stored_add limit book area q b k blocks below old done name b' out w left written stored r v accepted dhcid family address j m sound policy
      (lease_adds limit places b c name dhcid family address r b' c' policy step (accepted_reverse limit places _ b c _ r b' c' step v accepted))

  pub stored_end : Ends limit places b c name dhcid family address r b' c' → Stored limit area b b' (take (block_size * m) (book ++ take j (take (value w) left))) j
  unfolding Ends
  stored_end step =
      stored_remove limit book area q b k blocks below old done name b' out w left written stored r v accepted dhcid family address j m sound
      (end_removes limit places b c name dhcid family address r b' c' step (accepted_reverse limit places _ b c _ r b' c' step v accepted))
