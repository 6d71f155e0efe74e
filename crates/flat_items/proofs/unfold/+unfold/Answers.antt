use Rattle.std.proofs.Common.{rules}
use Rattle.flat_items.proofs.Reading.{builtin_is, call_is}
use Rattle.flat_items.proofs.unfold.+unfold.Goals as goal

pub push_value-returns-in_ok-push-in-Call : goal.push_value-returns-in_ok-push-in-Call
push_value-returns-in_ok-push-in-Call t c =
    rw (call_is _ _ _ _ _ c.in-Call.is c.as_slice-in-Call.ensures.value c.as_slice.ensures.value) (search rules)

pub push_value-returns-in_ok-push-in-Builtin : goal.push_value-returns-in_ok-push-in-Builtin
push_value-returns-in_ok-push-in-Builtin t c =
    rw (builtin_is _ _ _ _ _ c.in-Builtin.is c.as_slice-in-Builtin.ensures.value) (search rules)
