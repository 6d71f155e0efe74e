use Rattle.kir.proofs.Rows.{loop_node}
use Rattle.kir.proofs.nodes.loop_op.Goals as goal

pub returns : goal.returns
returns c = loop_node c.args.head c.args.test c.args.body c.args.step
