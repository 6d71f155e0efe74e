use Rattle.std.proofs.Common.{Err, arith}
use Rattle.first_kernels.proofs.FirstTogether.{run_none, run_more, run_stops, run_falls, not_both}
use Rattle.std.proofs.lemmas.Bool.{both_ways}
use Rattle.std.proofs.lemmas.List.{get_or_default}
use Rattle.first_kernels.specs.declared.warp.WarpFault.TheVariants.{NoEnd}
use Rattle.first_kernels.proofs.warp.run_code.Goals as goal

pub loop-i-init : goal.loop-i-init
loop-i-init c = run_none c.args.code.now c.args.lanes.now c.args.memory.now

pub returns-then-ends_warp : goal.returns-then-ends_warp
returns-then-ends_warp c = run_stops c.args.code.now c.args.lanes.now c.args.memory.now c.loop-i.i-index c.loop-i.lanes c.loop-i.memory _ c.loop-i.invariant (get_or_default c.args.code.now c.loop-i.i-index _ _ c.loop-i-test.true) c.loop-i-test.true (c.ends_warp.ensures.0 c.if-ends_warp.true)

pub returns-in_err-step : goal.returns-in_err-step
returns-in_err-step c items buffers before after fits stand steps =
    let made = run_more c.args.code.now c.args.lanes.now c.args.memory.now c.loop-i.i-index c.loop-i.lanes c.loop-i.memory _ c.step.new.lanes c.step.new.memory c.step.result c.loop-i.invariant c.step.ensures (get_or_default c.args.code.now c.loop-i.i-index _ _ c.loop-i-test.true) c.loop-i-test.true (λ e. both_ways c.ends_warp.result c.if-ends_warp.false (c.ends_warp.ensures.1 e)) c.step.auto.lanes c.step.auto.memory items buffers before after fits stand steps in
    absurd (not_both c.step.result _ made.0 c.in_err-step.was)

pub loop-i-preserved : goal.loop-i-preserved
loop-i-preserved c items buffers before after fits stand steps =
    let made = run_more c.args.code.now c.args.lanes.now c.args.memory.now c.loop-i.i-index c.loop-i.lanes c.loop-i.memory _ c.step.new.lanes c.step.new.memory c.step.result c.loop-i.invariant c.step.ensures (get_or_default c.args.code.now c.loop-i.i-index _ _ c.loop-i-test.true) c.loop-i-test.true (λ e. both_ways c.ends_warp.result c.if-ends_warp.false (c.ends_warp.ensures.1 e)) c.step.auto.lanes c.step.auto.memory items buffers before after fits stand steps in
    made.1

pub returns : goal.returns
returns c = run_falls c.args.code.now c.args.lanes.now c.args.memory.now c.loop-i.i-index c.loop-i.lanes c.loop-i.memory (Err NoEnd) c.loop-i.invariant (omega arith)
