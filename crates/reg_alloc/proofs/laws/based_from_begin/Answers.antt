use Rattle.reg_alloc.proofs.Basing.{based_from_begin}
use Rattle.reg_alloc.proofs.laws.based_from_begin.Goals as goal

pub returns : goal.returns
returns c = based_from_begin
