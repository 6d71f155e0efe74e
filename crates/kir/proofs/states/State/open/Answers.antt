use Rattle.kir.proofs.Rows.{if_seen, loop_seen, call_seen}
use Rattle.kir.proofs.states.State.open.Goals as goal

pub returns-in-If : goal.returns-in-If
returns-in-If c = rw (if_seen _ _ _ _ _ _ c.in-If.is c.as_slice.ensures.value c.as_slice-in-If.ensures.value) c.choose.ensures

pub returns-in-Loop : goal.returns-in-Loop
returns-in-Loop c =
    rw (loop_seen _ _ _ _ _ _ _ _ c.in-Loop.is c.as_slice-in-Loop.ensures.value c.as_slice-in-Loop-2.ensures.value c.as_slice-in-Loop-3.ensures.value) c.enter.ensures

pub returns-in-Call : goal.returns-in-Call
returns-in-Call c = rw (call_seen _ _ _ c.in-Call.is c.as_slice-in-Call.ensures.value) c.invoke.ensures
