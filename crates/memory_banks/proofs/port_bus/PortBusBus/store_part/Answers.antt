use Rattle.std.proofs.Common.{ℕ, subst, refl}
use Rattle.memory_banks.specs.Entries.{or_entry}
use Rattle.memory_banks.specs.Ports.{Steps}
use Rattle.memory_banks.proofs.port_bus.PortBusBus.store_part.Goals as goal

pub returns-clause-acts : goal.returns-clause-acts
returns-clause-acts c =
    let me = c.args.self.now in
    let twice = c.store_part.ensures in
    record {
      between = record { banks = me.banks; port = twice.between };
      before_keep = twice.before_keep;
      before_set = twice.before_set;
      keeps = record { banks_are = refl; steps = twice.keeps };
      sets = record {
        banks_are = refl;
        steps = subst (λ (n : ℕ). Steps me.banks.now twice.between (or_entry n c.args.word c.args.value twice.before_set) c.store_part.new.self) twice.keeps.number_is twice.sets;
      };
    }
