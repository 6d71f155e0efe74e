use Rattle.ocl_inline.proofs.Rows.{lost_flat}
use Rattle.ocl_inline.proofs.nodes.lost.Goals as goal

pub returns : goal.returns
returns c = lost_flat c.args.args
