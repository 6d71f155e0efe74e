use Rattle.std.proofs.Common.{rules}
use Rattle.ocl_sem.proofs.Unfolding.{node_of_call, node_of_builtin}
use Rattle.ocl_sem.proofs.unfold.+unfold.Goals as goal

pub push_value-returns-in-Call : goal.push_value-returns-in-Call
push_value-returns-in-Call t c = rw (node_of_call _ _ _ _ c.in-Call.is c.as_slice.ensures.value) c.push_call.ensures

pub push_value-returns-in_ok-push-in-Builtin : goal.push_value-returns-in_ok-push-in-Builtin
push_value-returns-in_ok-push-in-Builtin t c = rw (node_of_builtin _ _ _ _ _ c.in-Builtin.is c.as_slice-in-Builtin.ensures.value) (search rules)
