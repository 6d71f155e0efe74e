use Rattle.ocl_inline.proofs.Rows.{builtin_flat}
use Rattle.ocl_inline.proofs.nodes.builtin.Goals as goal

pub returns : goal.returns
returns c = builtin_flat c.args.which c.args.unsigned c.args.args
