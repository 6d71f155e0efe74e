use Rattle.memory_banks.proofs.ReadBack.{reads_back_law}
use Rattle.memory_banks.proofs.laws.reads_back.Goals as goal

pub returns : goal.returns
returns c = reads_back_law
