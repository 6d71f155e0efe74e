use Rattle.program_laws.proofs.Settling.{measures_settle}
use Rattle.program_laws.proofs.laws.measures_settle.Goals as goal

pub returns : goal.returns
returns c = measures_settle
