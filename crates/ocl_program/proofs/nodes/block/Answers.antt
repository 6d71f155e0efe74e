use Rattle.ocl_program.proofs.Rows.{block_node}
use Rattle.ocl_program.proofs.nodes.block.Goals as goal

pub returns : goal.returns
returns c = block_node c.args.items
