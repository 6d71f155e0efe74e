use Rattle.simt_lowering.proofs.Registers.{registers_within}
use Rattle.simt_lowering.proofs.laws.registers_are_within.Goals as goal

pub returns : goal.returns
returns c = registers_within
