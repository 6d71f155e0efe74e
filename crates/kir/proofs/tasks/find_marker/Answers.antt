use Rattle.kir.specs.Views.{tasks_of}
use Rattle.kir.proofs.JumpLaws.{skips_more}
use Rattle.kir.proofs.tasks.find_marker.Goals as goal

pub loop-task-preserved : goal.loop-task-preserved
loop-task-preserved c =
    skips_more (tasks_of c.args.tasks.now) c.loop-task.tasks c.in-Some.task c.pop.new.self c.loop-task.invariant c.in-Some.ensures (c.is_marker.ensures.plain c.if-is_marker.false)
