use Rattle.std.proofs.Common.{length}
use Rattle.task_machine.specs.Views.{ReturnsTo}
use Rattle.task_machine.proofs.jumps.leave_call.Given as goal

abbrev pub invariant-loop-task : goal.invariant-loop-task
invariant-loop-task g l = ReturnsTo l.initial.tasks l.initial.turns l.tasks l.turns

abbrev pub decreases-loop-task : goal.decreases-loop-task
decreases-loop-task g l = length l.tasks
