use Rattle.std.proofs.Common.{refl}
use borrow.Rule.Reborrow.{re_v}
use Rattle.vx_core.proofs.counting_bus.CountingBusBus.store_part.Goals as goal

pub returns-clause-acts : goal.returns-clause-acts
returns-clause-acts g c =
    let me = c.args.self.now in
    let twice = c.store_part.ensures.acts in
    record {
      between = record { bus = re_v twice.between me.bus; banks = me.banks; steps = re_v c.count_entry.new.steps me.steps };
      before_keep = twice.before_keep;
      before_set = twice.before_set;
      keeps = record { made = twice.keeps; counted = c.count_entry.ensures; kept = record { banks = refl; bus = refl; steps = refl } };
      sets = record { made = twice.sets; counted = c.count_entry-2.ensures; kept = record { banks = refl; bus = refl; steps = refl } };
    }
