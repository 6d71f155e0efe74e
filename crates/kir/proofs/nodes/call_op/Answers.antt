use Rattle.kir.proofs.Rows.{call_node}
use Rattle.kir.proofs.nodes.call_op.Goals as goal

pub returns : goal.returns
returns c = call_node c.args.body
