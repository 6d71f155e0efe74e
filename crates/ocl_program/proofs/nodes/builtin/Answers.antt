use Rattle.ocl_program.proofs.Rows.{builtin_node}
use Rattle.ocl_program.proofs.nodes.builtin.Goals as goal

pub returns : goal.returns
returns c = builtin_node c.args.which c.args.unsigned c.args.args
