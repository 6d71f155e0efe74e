use Rattle.ocl_inline.proofs.Ranks.{bodies_expanded}
use Rattle.ocl_inline.proofs.laws.calls_are_expanded.Goals as goal

pub returns : goal.returns
returns c = bodies_expanded
