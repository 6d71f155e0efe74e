use Rattle.ocl_inline.proofs.Rows.{call_flat}
use Rattle.ocl_inline.proofs.nodes.call.Goals as goal

pub returns : goal.returns
returns c = call_flat c.args.args c.args.body
