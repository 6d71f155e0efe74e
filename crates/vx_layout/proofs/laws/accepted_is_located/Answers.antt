use Rattle.vx_layout.proofs.Located.{located}
use Rattle.vx_layout.proofs.laws.accepted_is_located.Goals as goal

pub returns : goal.returns
returns c = located
