use Rattle.std.proofs.Common.{◌≡◌, map, drop}
use Rattle.ocl_program.specs.Shapes.{function_node, typed_stmts}
use Rattle.ocl_sem.specs.Source.{stmts_tasks}
use Rattle.ocl_sem.specs.Views.{scope_of, source_tasks}
use Rattle.ocl_sem.proofs.statements.+statements.Given as goal

abbrev pub invariant-push_stmts-loop-k : goal.invariant-push_stmts-loop-k
invariant-push_stmts-loop-k l = source_tasks l.tasks ≡ stmts_tasks (map function_node l.source.program.now) (scope_of l.scope.value) (typed_stmts (drop l.k l.stmts)) (source_tasks l.initial.tasks)
