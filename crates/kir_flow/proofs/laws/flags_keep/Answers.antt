use Rattle.kir_flow.proofs.FlagsKeep.{flags_keep}
use Rattle.kir_flow.proofs.laws.flags_keep.Goals as goal

pub returns : goal.returns
returns c = flags_keep
