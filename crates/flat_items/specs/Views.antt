-- What the code's tasks of a flat kernel stand for.
use Rattle.std.specs.Borrow.{Bor}
use Rattle.std.specs.Prelude.{List, ◌∷◌, Option}
use Rattle.ocl_inline.specs.declared.trees.FlatArgument.{FlatArgument, Array}
use Rattle.ocl_inline.specs.declared.trees.FlatArgument as argument
use Rattle.ocl_inline.specs.declared.trees.FlatExpr.{FlatExpr as HeldExpr}
use Rattle.ocl_inline.specs.FlatTasks.{FlatTask, bound_to, loop_of, value_tasks}
use Rattle.ocl_inline.specs.Shapes.{expr_of, flat_trees, stmt_of}
use Rattle.ocl_inline.specs.Trees.{BlockFlat, FlatExpr, FlatStmt, FlatStmts, FlatValue}
use Rattle.task_machine.specs.declared.states.State.{State as HeldState}
use Rattle.task_machine.specs.declared.tasks.Task.{Task}
use Rattle.task_machine.specs.declared.tasks.Task.TheVariants as task
use Rattle.task_machine.specs.Tasks.{State}
use Rattle.task_machine.specs.Views.{state_of, task_by, tasks_by}
use Rattle.flat_items.specs.declared.forms.FlatPart.{FlatPart}
use Rattle.flat_items.specs.declared.forms.FlatPart.TheVariants.{One, Block}

-- the statement that a part is
abbrev pub part_of : FlatPart → FlatStmt
part_of (One stmt) = stmt_of stmt.now
part_of (Block stmts) = BlockFlat (flat_trees stmts.now)

abbrev pub flat_task : Task (Bor HeldExpr) FlatPart → FlatTask
flat_task t = task_by (λ e. expr_of e.now) part_of t

abbrev pub flat_tasks : List (Task (Bor HeldExpr) FlatPart) → List FlatTask
flat_tasks ts = tasks_by (λ e. expr_of e.now) part_of ts

abbrev pub flat_state : HeldState (Bor HeldExpr) FlatPart → State FlatExpr FlatStmt
flat_state s = state_of (λ e. expr_of e.now) part_of s

-- the value of one argument, where it is one
abbrev pub argument_tasks : FlatArgument → List FlatTask → List FlatTask
argument_tasks (argument.Number value binding) ts = value_tasks (expr_of value) ts
argument_tasks (Array array) ts = ts

-- the same, and then what is done with the value
abbrev pub bound_tasks : FlatArgument → List FlatTask → List FlatTask
bound_tasks (argument.Number value binding) ts = value_tasks (expr_of value) (bound_to binding ∷ ts)
bound_tasks (Array array) ts = ts

-- an `if` from its test on, and a `for` from where it is entered
abbrev pub branch_tasks : FlatExpr → FlatStmt → Option FlatStmt → List FlatTask → List FlatTask
branch_tasks test one other ts = value_tasks test (task.Branch one other ∷ ts)

abbrev pub entered_tasks : FlatValue → FlatStmts → FlatStmt → List FlatTask → List FlatTask
entered_tasks test step body ts = task.Enter (loop_of test (BlockFlat step) body) ∷ ts
