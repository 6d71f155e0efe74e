use Rattle.ocl_ast.proofs.Rows.{call_tree}
use Rattle.ocl_ast.proofs.nodes.call.Goals as goal

pub returns : goal.returns
returns c = call_tree c.args.name c.args.args
