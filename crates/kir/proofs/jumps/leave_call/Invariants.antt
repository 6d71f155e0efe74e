use Rattle.std.proofs.Common.{length}
use Rattle.kir.specs.Views.{ReturnsTo, tasks_of}
use Rattle.kir.proofs.jumps.leave_call.Given as goal

abbrev pub invariant-loop-task : goal.invariant-loop-task
invariant-loop-task l = ReturnsTo (tasks_of l.initial.tasks) l.initial.turns (tasks_of l.tasks) l.turns

abbrev pub decreases-loop-task : goal.decreases-loop-task
decreases-loop-task l = length l.tasks
