use Rattle.simt_lowering.proofs.WrittenBefore.{written_first}
use Rattle.simt_lowering.proofs.laws.registers_are_written_first.Goals as goal

pub returns : goal.returns
returns c = written_first
