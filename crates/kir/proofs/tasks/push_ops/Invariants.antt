use Rattle.std.proofs.Common.{◌≡◌, drop}
use Rattle.kir.specs.Machine.{ops_tasks}
use Rattle.kir.specs.Shapes.{ops_of}
use Rattle.kir.specs.Views.{tasks_of}
use Rattle.kir.proofs.tasks.push_ops.Given as goal

abbrev pub invariant-loop-k : goal.invariant-loop-k
invariant-loop-k l = tasks_of l.tasks ≡ ops_tasks (ops_of (drop l.k l.ops)) (tasks_of l.initial.tasks)
