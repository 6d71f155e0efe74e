use Rattle.ocl_program.proofs.Rows.{call_node}
use Rattle.ocl_program.proofs.nodes.call.Goals as goal

pub returns : goal.returns
returns c = call_node c.args.call c.args.args
