use Rattle.simt_lowering.proofs.BlockWords.{in_block}
use Rattle.simt_lowering.proofs.laws.words_are_in_block.Goals as goal

pub returns : goal.returns
returns c = in_block
