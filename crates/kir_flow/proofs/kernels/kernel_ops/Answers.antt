use Rattle.std.proofs.Common.{true, false}
use Rattle.kir.specs.Shapes.{ops_of}
use Rattle.kir.specs.Trees.{NumberOf}
use Rattle.kir_flow.specs.declared.scopes.Scope.TheVariants.{InCall}
use Rattle.kir_flow.specs.Flagging.{flagged}
use Rattle.kir.specs.Lists.{set_op}
use Rattle.kir.proofs.Putting.{made_on}
use Rattle.kir_flow.proofs.kernels.kernel_ops.Goals as goal

pub returns : goal.returns
returns c =
    made_on c.new-list.result.items c.put_set.new.ops.items c.push_flagged.new.out.items (set_op c.args.flag (NumberOf 1)) (flagged false (InCall c.args.flag) true (ops_of c.args.ops.now))
    c.new-list.ensures.items c.in_ok-put_set.ensures c.in_ok-push_flagged.ensures
