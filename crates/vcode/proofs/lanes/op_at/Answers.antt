use Rattle.vcode.proofs.Reading.{some_at}
use Rattle.vcode.proofs.lanes.op_at.Goals as goal

pub returns : goal.returns
returns c = some_at _ _ _ c.requires
