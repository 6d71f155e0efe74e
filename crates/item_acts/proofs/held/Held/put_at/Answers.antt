use Rattle.item_acts.proofs.HeldLaws.{local_fits}
use Rattle.vx_base.specs.Bytes.{bytes_of}
use Rattle.item_acts.proofs.held.Held.put_at.Goals as goal

pub put_in_group-requires : goal.put_in_group-requires
put_in_group-requires c =
    let both = local_fits c.args.self.now c.requires.held c.in-Local.group c.in-Local.array c.in-Local.byte (bytes_of c.args.size) (rw c.in-Local.is at c.requires.inside) in
    record { exists = both.0; fits = both.1 }
