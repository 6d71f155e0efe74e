use Rattle.simt_lowering.proofs.Weighing.{words_within}
use Rattle.simt_lowering.proofs.laws.words_are_within.Goals as goal

pub returns : goal.returns
returns c = words_within
