use Rattle.reg_alloc.proofs.Standing.{words_are_counted}
use Rattle.reg_alloc.proofs.laws.words_are_counted.Goals as goal

pub returns : goal.returns
returns c = words_are_counted
