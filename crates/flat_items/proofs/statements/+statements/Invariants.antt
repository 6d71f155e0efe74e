use Rattle.std.proofs.Common.{◌≡◌, drop}
use Rattle.ocl_inline.specs.FlatTasks.{stmts_tasks}
use Rattle.ocl_inline.specs.Shapes.{flat_trees}
use Rattle.flat_items.specs.Views.{flat_tasks}
use Rattle.flat_items.proofs.statements.+statements.Given as goal

abbrev pub invariant-push_stmts-loop-k : goal.invariant-push_stmts-loop-k
invariant-push_stmts-loop-k l = flat_tasks l.tasks ≡ stmts_tasks (flat_trees (drop l.k l.stmts)) (flat_tasks l.initial.tasks)
