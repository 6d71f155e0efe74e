use Rattle.std.proofs.Common.{arith}
use Rattle.memory_banks.specs.declared.entry.BusKind.TheVariants.{Load}
use Rattle.memory_banks.proofs.PortLaws.{may_step}
use Rattle.memory_banks.proofs.port.Port.load.Goals as goal

pub load-requires : goal.load-requires
load-requires c =
    may_step c.args.banks.now c.args.self.now Load c.args.word 0 c.requires.of c.requires.word (omega arith)
