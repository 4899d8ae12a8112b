use Rattle.message.specs.Options.{having}
use Rattle.message4.specs.Judging4.{wanted_of}
use Rattle.message4.proofs.Wanted.none.Goals as goal

pub returns : goal.returns
unfolding wanted_of having
returns c =
    λ i.
    record {
      overload = c.none.ensures i;
      message_type = c.none-2.ensures i;
      client_id = c.none-3.ensures i;
      client_fqdn = c.none-4.ensures i;
    }
