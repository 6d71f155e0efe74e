-- What the code's active calls and statements stand for.
use Rattle.std.specs.Prelude.{List, ◌∷◌, option_map, Option, Some}
use Rattle.ocl_program.specs.declared.exprs.ArrayRef.{ArrayRef}
use Rattle.ocl_program.specs.declared.exprs.ArrayRef.TheVariants.{Parameter}
use Rattle.ocl_program.specs.Nodes.{FunctionNode, ExprNode, StmtNode, StmtNodes, BlockNode, NoStmts, ArgNode, ValueNode, ArrayNode}
use Rattle.ocl_program.specs.Shapes.{node_of, stmt_node, typed_stmts, function_node}
use Rattle.task_machine.specs.declared.tasks.Task.{Task}
use Rattle.task_machine.specs.declared.tasks.Task.TheVariants as task
use Rattle.task_machine.specs.Loops.{Loop}
use Rattle.task_machine.specs.Views.{loop_by, task_by, tasks_by}
use Rattle.ocl_sem.specs.declared.placed.SourcePart.{SourcePart}
use Rattle.ocl_sem.specs.declared.placed.SourcePart.TheVariants.{One, Block}
use Rattle.ocl_sem.specs.declared.placed.PlacedExpr.{PlacedExpr as HeldExpr}
use Rattle.ocl_sem.specs.declared.placed.PlacedStmt.{PlacedStmt as HeldStmt}
use Rattle.ocl_sem.specs.declared.scopes.Scope.{Scope as HeldScope}
use Rattle.ocl_sem.specs.Source.{Scope, PlacedExpr, PlacedStmt, SourceLoop, SourceTask, array_in, loop_in, value_tasks}

abbrev pub placed_expr : Scope → ExprNode → PlacedExpr
placed_expr scope expr = record { scope = scope; expr = expr }

abbrev pub placed_stmt : Scope → StmtNode → PlacedStmt
placed_stmt scope stmt = record { scope = scope; stmt = stmt }

-- the active call
abbrev pub scope_of : HeldScope → Scope
scope_of s = record {
  function = function_node s.function.now;
  variables = s.variables;
  sites = s.sites;
  arrays = s.arrays.items;
}

-- the statement that a part is
abbrev pub part_node : SourcePart → StmtNode
part_node (One stmt) = stmt_node stmt.now
part_node (Block stmts) = BlockNode (typed_stmts stmts.now)

-- what waits, and tasks over it
abbrev pub expr_of : HeldExpr → PlacedExpr
expr_of placed = placed_expr (scope_of placed.scope.value) (node_of placed.expr.now)

abbrev pub stmt_of : HeldStmt → PlacedStmt
stmt_of placed = placed_stmt (scope_of placed.scope.value) (part_node placed.part)

abbrev pub source_task : Task HeldExpr HeldStmt → SourceTask
source_task t = task_by expr_of stmt_of t

abbrev pub source_tasks : List (Task HeldExpr HeldStmt) → List SourceTask
source_tasks ts = tasks_by expr_of stmt_of ts

abbrev pub source_loop : Loop HeldExpr HeldStmt → SourceLoop
source_loop turning = loop_by expr_of stmt_of turning

-- what an argument names of the arrays of the kernel
abbrev pub array_named : Scope → ArgNode → ArrayRef
array_named scope (ValueNode e) = Parameter 0
array_named scope (ArrayNode array) = array_in scope array

-- the value of one argument, where it is one
abbrev pub argument_tasks : List FunctionNode → Scope → ArgNode → List SourceTask → List SourceTask
argument_tasks program scope (ValueNode e) ts = value_tasks program scope e ts
argument_tasks program scope (ArrayNode array) ts = ts

-- the same, and then what is done with the value
abbrev pub bound_tasks : List FunctionNode → Scope → SourceTask → ArgNode → List SourceTask → List SourceTask
bound_tasks program scope bound (ValueNode e) ts = value_tasks program scope e (bound ∷ ts)
bound_tasks program scope bound (ArrayNode array) ts = ts

-- an `if` from its test on, and loops from where they are entered
abbrev pub branch_tasks : List FunctionNode → Scope → ExprNode → StmtNode → Option StmtNode → List SourceTask → List SourceTask
branch_tasks program scope test one other ts =
    value_tasks program scope test (task.Branch (placed_stmt scope one) (option_map (placed_stmt scope) other) ∷ ts)

abbrev pub do_tasks : Scope → StmtNode → ExprNode → List SourceTask → List SourceTask
do_tasks scope body test ts = task.EnterTurn (loop_in scope (Some test) (BlockNode NoStmts) body) ∷ ts

abbrev pub entered_tasks : Scope → Option ExprNode → StmtNodes → StmtNode → List SourceTask → List SourceTask
entered_tasks scope test step body ts = task.Enter (loop_in scope test (BlockNode step) body) ∷ ts
