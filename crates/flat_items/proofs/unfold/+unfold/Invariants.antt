use Rattle.std.proofs.Common.{◌≡◌, drop}
use Rattle.ocl_inline.specs.FlatTasks.{args_tasks, values_tasks}
use Rattle.ocl_inline.specs.Shapes.{flat_arguments}
use Rattle.flat_items.specs.Views.{flat_tasks}
use Rattle.flat_items.proofs.unfold.+unfold.Given as goal

abbrev pub invariant-push_values-loop-k : goal.invariant-push_values-loop-k
invariant-push_values-loop-k l = flat_tasks l.tasks ≡ values_tasks (flat_arguments (drop l.k l.args)) (flat_tasks l.initial.tasks)

abbrev pub invariant-push_args-loop-k : goal.invariant-push_args-loop-k
invariant-push_args-loop-k l = flat_tasks l.tasks ≡ args_tasks (flat_arguments (drop l.k l.args)) (flat_tasks l.initial.tasks)
