-- Which task of the flat kernel stands for a task of the source, and which state for a state.
use Rattle.std.specs.Prelude.{List}
use Rattle.item_acts.specs.Machine.{Step, Go, Ask, Stop}
use Rattle.ocl_program.specs.Nodes.{FunctionNode}
use Rattle.task_machine.specs.Tasks.{State}
use Rattle.task_machine.specs.Views.{loop_by, state_by, task_by, tasks_by}
use Rattle.ocl_sem.specs.Source.{PlacedExpr, PlacedStmt, SourceTask, SourceLoop}
use Rattle.ocl_sem.specs.Items.{ItemState}
use Rattle.ocl_inline.specs.Trees.{FlatExpr, FlatStmt}
use Rattle.ocl_inline.specs.FlatTasks.{FlatTask, FlatLoop}
use Rattle.ocl_inline.specs.Expansion.{Bodies, flat_expr, flat_stmt}

abbrev pub FlatState : Type 0
FlatState = State FlatExpr FlatStmt

abbrev pub expr_at : Bodies → List FunctionNode → PlacedExpr → FlatExpr
expr_at bodies program v = flat_expr bodies program v.scope v.expr

abbrev pub stmt_at : Bodies → List FunctionNode → PlacedStmt → FlatStmt
stmt_at bodies program t = flat_stmt bodies program t.scope t.stmt

abbrev pub loop_at : Bodies → List FunctionNode → SourceLoop → FlatLoop
loop_at bodies program loop = loop_by (expr_at bodies program) (stmt_at bodies program) loop

abbrev pub task_at : Bodies → List FunctionNode → SourceTask → FlatTask
task_at bodies program t = task_by (expr_at bodies program) (stmt_at bodies program) t

abbrev pub tasks_at : Bodies → List FunctionNode → List SourceTask → List FlatTask
tasks_at bodies program ts = tasks_by (expr_at bodies program) (stmt_at bodies program) ts

abbrev pub state_at : Bodies → List FunctionNode → ItemState → FlatState
state_at bodies program s = state_by (expr_at bodies program) (stmt_at bodies program) s

abbrev pub step_at : Bodies → List FunctionNode → Step ItemState → Step FlatState
step_at bodies program (Go s) = Go (state_at bodies program s)
step_at bodies program (Ask a s) = Ask a (λ answer. state_at bodies program (s answer))
step_at bodies program (Stop a) = Stop a
