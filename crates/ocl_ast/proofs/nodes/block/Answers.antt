use Rattle.ocl_ast.proofs.Rows.{block_tree}
use Rattle.ocl_ast.proofs.nodes.block.Goals as goal

pub returns : goal.returns
returns c = block_tree c.args.items
