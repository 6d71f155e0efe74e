-- What the code answers for a token, together with the frames that it leaves.
use Rattle.std.specs.Prelude.{ℕ, Bool, List, Option, Some, None}
use Rattle.ocl_ast.specs.Trees.{ExprTree, StmtTree}
use Rattle.ocl_ast.specs.Shapes.{function_tree}
use Rattle.ocl_parser.specs.ExprSteps.{ExprNext, Goes, Ends, Refuses, ExprInFrames, standing, settled, closed_by}
use Rattle.ocl_parser.specs.StmtSteps.{StmtNext, GoesOn, Closes, Stops, Placed, placed, finished, completed}
use Rattle.ocl_parser.specs.UnitSteps.{UnitNext, Reads, Adds, Fails}
use Rattle.ocl_parser.specs.declared.moves.ExprMove.{ExprMove}
use Rattle.ocl_parser.specs.declared.moves.ExprMove.TheVariants.{On as ExprOn, Ended, Refused as ExprRefused}
use Rattle.ocl_parser.specs.declared.moves.StmtMove.{StmtMove}
use Rattle.ocl_parser.specs.declared.moves.StmtMove.TheVariants.{On as StmtOn, Closed, Refused as StmtRefused}
use Rattle.ocl_parser.specs.declared.moves.UnitMove.{UnitMove}
use Rattle.ocl_parser.specs.declared.moves.UnitMove.TheVariants.{On as UnitOn, Added, Refused as UnitRefused}
use Rattle.ocl_parser.specs.declared.states.ExprFrame.{ExprFrame}
use Rattle.ocl_parser.specs.declared.states.StmtFrame.{StmtFrame}

abbrev pub expr_next : ExprMove → List ExprFrame → ExprNext
expr_next (ExprOn focus) K = Goes focus K
expr_next (Ended tree) K = Ends tree
expr_next ExprRefused K = Refuses

abbrev pub stmt_next : StmtMove → List StmtFrame → StmtNext
stmt_next (StmtOn focus) K = GoesOn focus K
stmt_next (Closed body) K = Closes body
stmt_next StmtRefused K = Stops

abbrev pub unit_next : UnitMove → UnitNext
unit_next (UnitOn focus) = Reads focus
unit_next (Added function) = Adds (function_tree function)
unit_next UnitRefused = Fails

-- what is left to close, once a frame has been taken off or not
abbrev pub settled_on : ℕ → Option ExprFrame → ExprTree → List ExprFrame → ExprInFrames
settled_on n None e K = standing e K
settled_on n (Some f) e K = settled n (closed_by f e) K

abbrev pub finished_on : Bool → Option StmtFrame → StmtTree → List StmtFrame → Placed
finished_on before_else None s K = placed s K
finished_on before_else (Some f) s K = finished before_else (completed f s) K
