use Rattle.ocl_inline.proofs.Rows.{block_flat}
use Rattle.ocl_inline.proofs.nodes.block.Goals as goal

pub returns : goal.returns
returns c = block_flat c.args.items
