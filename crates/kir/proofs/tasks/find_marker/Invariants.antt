use Rattle.std.proofs.Common.{length}
use Rattle.kir.specs.Views.{SkipsTo, tasks_of}
use Rattle.kir.proofs.tasks.find_marker.Given as goal

abbrev pub invariant-loop-task : goal.invariant-loop-task
invariant-loop-task l = SkipsTo (tasks_of l.initial.tasks) (tasks_of l.tasks)

abbrev pub decreases-loop-task : goal.decreases-loop-task
decreases-loop-task l = length l.tasks
