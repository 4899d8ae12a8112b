-- The customer's three demands (specs/) hold of what the calls promise; each by citation. The customer's numbers are compared with the code's, not copied: one that asks for less passes here, one that asks
-- for more is refused. Assumes nothing.
use mathlib.Core.List.{[]}
use native.Mathlib.Omega.{arith}
use Rattle.listing.specs.Reading.{limit}
use Rattle.row.proofs.Theorems as row
use Rattle.row.proofs.Theorems.{refused_unchanged}
use Rattle.name_text.proofs.Theorems as text
use Rattle.table.proofs.Theorems.{refused_add, refused_remove, refused_clear}
use Rattle.records.proofs.Theorems.{refused_write, refused_load}
use Rattle.slots.specs.Sizes.{most_names}
use Rattle.book.proofs.Theorems.{refused_block, refused_replay, refused_tidy}
use Rattle.ptr.proofs.Theorems.{refused_ptr}
use Rattle.reverse.specs.Sizes.{most_addresses}
use Rattle.leases.proofs.Theorems.{refused_lease, refused_end}
use Rattle.update.specs.declared.Kind.TheVariants.{AddFirst, AddSecond, RemoveFirst}
use Rattle.update.proofs.Theorems.{refused_message, refused_last}
use Rattle.demands.specs.Demand1.{Demand1, Unchanged}
use Rattle.demands.specs.Demand2.{Demand2}
use Rattle.demands.specs.Demand3.{Demand3}
use Rattle.demands.proofs.AnswerLaws.{by_order}
use Rattle.demands.proofs.RequestLaws.{name_refuses, dhcid_refuses, dhcid_unchanged}
use Rattle.demands.proofs.DhcidLaws.{dhcid_is}
use Rattle.demands.proofs.ChangeLaws.{same_table, enough_always, add_is, remove_is, clear_is}
use Rattle.demands.proofs.ListingLaws.{listing_refuses, row_refuses, step_refuses, load_refuses}
use Rattle.demands.proofs.TableLaws.{add_in_row, remove_in_row, clear_in_row, find_in_row, count_in_row, write_in_row}
use Rattle.demands.proofs.TextLaws.{from_text_in_row, to_text_in_row}
use Rattle.demands.proofs.BookLaws.{block_in_row, replay_in_row, tidy_in_row, sound_in_row}
use Rattle.demands.proofs.LeaseLaws.{ptr_in_row, lease_in_row, end_in_row}
use Rattle.demands.proofs.UpdateLaws.{message_in_row, last_in_row, answer_in_row}

pub demand_1 : Demand1
unfolding Unchanged
demand_1 =
    record {
      name = name_refuses;
      dhcid = λ family setting m site out a left w. (dhcid_refuses family setting m site out a left w, dhcid_unchanged family setting m site out a left w);
      from_text = λ w out a left h. (by_order _ (from_text_in_row w out a left h), text.refused_read w out a left h);
      to_text = λ n out a left h. (by_order _ (to_text_in_row n out a left h), text.refused_write n out a left h);
      listing = listing_refuses;
      row = λ t lent handed a h. (row_refuses t lent handed a h, refused_unchanged t lent handed a h);
      reader = step_refuses;
      add = λ b name dhcid family address policy a left h. (
        by_order _ (add_in_row b name dhcid family address policy a left h),
        refused_add most_names b name dhcid family address policy a left h,
      );
      remove = λ b name dhcid family address a left h. (by_order _ (remove_in_row b name dhcid family address a left h), refused_remove most_names b name dhcid family address a left h);
      clear = λ b name a left h. (by_order _ (clear_in_row b name a left h), refused_clear most_names b name a left h);
      find = λ b name a h. by_order _ (find_in_row b name a h);
      count = λ b a h. by_order _ (count_in_row b a h);
      write = λ b out a left h. (by_order _ (write_in_row b out a left h), refused_write most_names b out a left h);
      load = λ t area a left h. (load_refuses t area a left h, refused_load limit most_names t area a left h);
      block = λ b name i out a left h. (by_order _ (block_in_row b name i out a left h), refused_block most_names b name i out a left h);
      replay = λ book area a left h. (by_order _ (replay_in_row book area a left h), refused_replay most_names book area a left h);
      tidy = λ book out a left h. (by_order _ (tidy_in_row book out a left h), refused_tidy most_names book out a left h);
      sound = λ book a h. by_order [] (sound_in_row book a h);
      ptr = λ family x out a left h. (by_order _ (ptr_in_row family x out a left h), refused_ptr family x out a left h);
      lease = λ b c name dhcid family address policy a b' c' h.
          let stays = refused_lease most_names most_addresses b c name dhcid family address policy a b' c' h in
          (by_order _ (lease_in_row b c name dhcid family address policy a b' c' h), (λ n at e. (stays n at e).0), (λ n at e. (stays n at e).1));
      end = λ b c name dhcid family address a b' c' h.
          let stays = refused_end most_names most_addresses b c name dhcid family address a b' c' h in
          (by_order _ (end_in_row b c name dhcid family address a b' c' h), (λ n at e. (stays n at e).0), (λ n at e. (stays n at e).1));
      add_first = λ id zone name dhcid family address out a left h. (
        by_order _ (message_in_row id zone name dhcid AddFirst family address out a left h),
        refused_message AddFirst id zone name dhcid family address out a left h,
      );
      add_second = λ id zone name dhcid family address out a left h. (
        by_order _ (message_in_row id zone name dhcid AddSecond family address out a left h),
        refused_message AddSecond id zone name dhcid family address out a left h,
      );
      remove_first = λ id zone name dhcid family address out a left h. (
        by_order _ (message_in_row id zone name dhcid RemoveFirst family address out a left h),
        refused_message RemoveFirst id zone name dhcid family address out a left h,
      );
      remove_second = λ id zone name dhcid out a left h. (by_order _ (last_in_row id zone name dhcid out a left h), refused_last id zone name dhcid out a left h);
      answer = λ id answer a h. by_order _ (answer_in_row id answer a h);
    }

pub demand_2 : Demand2
demand_2 =
    record {
      dhcid = dhcid_is;
      same_table = λ b out r left area a after bytes w accepted fits l. same_table b out r left area a after bytes w accepted (omega (arith, fits)) l;
      enough = λ b out r left s fits w. enough_always b out r left s (omega (arith, fits)) w;
      add = add_is;
      remove = remove_is;
      clear = clear_is;
    }

pub demand_3 : Demand3
demand_3 =
    record {
      row = λ t lent handed a h.
          let d = row.demand_3 t lent handed a h in
          record { accepted_exactly = λ short. d.accepted_exactly (omega (arith, short)); one_list = d.one_list; count = d.count; places = d.places };
    }
