use Rattle.std.proofs.Common.{◌≡◌, map, drop}
use Rattle.ocl_program.specs.Nodes.{arg_nodes}
use Rattle.ocl_program.specs.Shapes.{argument_node, function_node}
use Rattle.ocl_sem.specs.Source.{args_tasks, values_tasks}
use Rattle.ocl_sem.specs.Views.{scope_of, source_tasks}
use Rattle.ocl_sem.proofs.unfold.+unfold.Given as goal

abbrev pub invariant-push_values-loop-k : goal.invariant-push_values-loop-k
invariant-push_values-loop-k l = source_tasks l.tasks ≡ values_tasks (map function_node l.source.program.now) (scope_of l.scope.value) (arg_nodes (map argument_node (drop l.k l.args))) (source_tasks l.initial.tasks)

abbrev pub invariant-push_args-loop-k : goal.invariant-push_args-loop-k
invariant-push_args-loop-k l = source_tasks l.tasks ≡ args_tasks (map function_node l.source.program.now) (scope_of l.scope.value) l.first l.params l.k (arg_nodes (map argument_node (drop l.k l.args))) (source_tasks l.initial.tasks)
