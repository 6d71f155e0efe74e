use Rattle.item_acts.proofs.HeldLaws.{local_number_any}
use Rattle.item_acts.proofs.held.Held.number_at.Goals as goal

pub returns-in-Local : goal.returns-in-Local
returns-in-Local c = rw c.in-Local.is (local_number_any c.args.self.now c.requires c.in-Local.group c.in-Local.array c.in-Local.byte c.args.size c.number_in_group.result (rw c.as_slice-in-Local.ensures at c.number_in_group.ensures))
