use Rattle.std.proofs.Common.{◌+◌, ◌-◌, ◌≤◌, length, drop, arith, length-drop, length-take}
use Rattle.vx_run.proofs.DeliveryLaws.{Appends-more}
use Rattle.vx_run.proofs.deliver.deliver.Goals as goal

pub loop-at-preserved : goal.loop-at-preserved
loop-at-preserved g c =
    let within = c.in-Ok.ensures.within in
    let more : c.loop-at.at + c.in-Ok.count ≤ length c.args.text.now = omega (arith, length-take (length c.args.text.now - c.loop-at.at) (drop c.loop-at.at c.args.text.now), length-drop c.loop-at.at c.args.text.now) in (
      more,
      Appends-more _ _ _ c.args.text.now c.loop-at.at c.in-Ok.count more c.loop-at.invariant.1 c.in-Ok.ensures.appends,
      omega (arith, c.in-Ok.ensures.faults_never_fall, c.loop-at.invariant.2),
    )
