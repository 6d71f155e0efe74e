use Rattle.std.proofs.Common.{length}
use Rattle.task_machine.specs.Views.{SkipsTo}
use Rattle.task_machine.proofs.jumps.find_marker.Given as goal

abbrev pub invariant-loop-task : goal.invariant-loop-task
invariant-loop-task g l = SkipsTo l.initial.tasks l.tasks

abbrev pub decreases-loop-task : goal.decreases-loop-task
decreases-loop-task g l = length l.tasks
