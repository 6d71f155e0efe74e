use Rattle.std.proofs.Common.{arith}
use Rattle.std.proofs.lemmas.List.{get_or_default}
use Rattle.first_kernels.proofs.FirstTogether.{step_none, step_more, step_all, not_both}
use Rattle.first_kernels.proofs.warp.step.Goals as goal

pub loop-number-init : goal.loop-number-init
loop-number-init c = step_none c.args.i c.args.lanes.now c.args.memory.now

pub loop-number-preserved : goal.loop-number-preserved
loop-number-preserved c items buffers before after fits stand steps =
    let made = step_more c.args.i c.args.lanes.now c.args.memory.now c.loop-number.number c.loop-number.lanes c.loop-number.memory _ c.step_lane.new.lane c.step_lane.new.memory c.step_lane.result c.loop-number.invariant c.step_lane.ensures (get_or_default c.loop-number.lanes c.loop-number.number _ _ (omega arith)) (omega arith) c.step_lane.auto.memory items buffers before after fits stand steps in
    made.1

pub returns-in_err-step_lane : goal.returns-in_err-step_lane
returns-in_err-step_lane c items buffers before after fits stand steps =
    let made = step_more c.args.i c.args.lanes.now c.args.memory.now c.loop-number.number c.loop-number.lanes c.loop-number.memory _ c.step_lane.new.lane c.step_lane.new.memory c.step_lane.result c.loop-number.invariant c.step_lane.ensures (get_or_default c.loop-number.lanes c.loop-number.number _ _ (omega arith)) (omega arith) c.step_lane.auto.memory items buffers before after fits stand steps in
    absurd (not_both c.step_lane.result _ made.0 c.in_err-step_lane.was)

pub returns : goal.returns
returns c = step_all c.args.i c.args.lanes.now c.args.memory.now c.loop-number.number c.loop-number.lanes c.loop-number.memory c.loop-number.invariant (omega arith)
