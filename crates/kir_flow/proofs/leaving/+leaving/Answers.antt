use Rattle.std.proofs.Common.{rules}
use Rattle.kir.proofs.Rows.{if_seen, loop_seen}
use Rattle.kir_flow.proofs.leaving.+leaving.Goals as goal

pub op_leaves-returns-in-If : goal.op_leaves-returns-in-If
op_leaves-returns-in-If t c = rw (if_seen _ _ _ _ _ _ c.in-If.is c.as_slice.ensures.value c.as_slice-in-If.ensures.value) (search rules)

pub op_leaves-returns-in-Loop : goal.op_leaves-returns-in-Loop
op_leaves-returns-in-Loop t c =
    rw (loop_seen _ _ _ _ _ _ _ _ c.in-Loop.is c.as_slice-in-Loop.ensures.value c.as_slice-in-Loop-2.ensures.value c.as_slice-in-Loop-3.ensures.value) (search rules)
