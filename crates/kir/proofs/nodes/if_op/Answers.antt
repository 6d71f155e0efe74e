use Rattle.kir.proofs.Rows.{if_node}
use Rattle.kir.proofs.nodes.if_op.Goals as goal

pub returns : goal.returns
returns c = if_node c.args.test c.args.yes c.args.no
