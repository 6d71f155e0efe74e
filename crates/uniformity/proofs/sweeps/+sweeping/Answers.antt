use Rattle.std.proofs.Common.{rules}
use Rattle.kir.proofs.Rows.{call_seen, if_seen, loop_seen}
use Rattle.uniformity.proofs.sweeps.+sweeping.Goals as goal

pub sweep_op-returns-in-If : goal.sweep_op-returns-in-If
sweep_op-returns-in-If t c =
    rw (if_seen _ _ _ _ _ _ c.in-If.is c.as_slice.ensures.value c.as_slice-in-If.ensures.value) (search rules)

pub sweep_op-returns-in-Loop : goal.sweep_op-returns-in-Loop
sweep_op-returns-in-Loop t c =
    rw (loop_seen _ _ _ _ _ _ _ _ c.in-Loop.is c.as_slice-in-Loop.ensures.value c.as_slice-in-Loop-2.ensures.value c.as_slice-in-Loop-3.ensures.value) (search rules)

pub sweep_op-returns-in-Call : goal.sweep_op-returns-in-Call
sweep_op-returns-in-Call t c = rw (call_seen _ _ _ c.in-Call.is c.as_slice-in-Call.ensures.value) (search rules)
