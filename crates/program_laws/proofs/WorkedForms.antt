-- What stands in a small body, computed.
use Rattle.std.proofs.Common.{◌≡◌, refl, false, [], ◌∷◌, Some}
use Rattle.vx_base.specs.declared.types.Elem.TheVariants.{Int}
use Rattle.ocl_ast.specs.declared.exprs.BinOp.TheVariants.{Add}
use Rattle.ocl_program.specs.Nodes.{NumberNode, VariableNode, BinaryNode, CallNode, NoArgs, ValueArg, StmtNodes, NoStmts, AndStmt, DeclareNode, BarrierNode, WhileNode, BlockNode, CallStmtNode}
use Rattle.program_laws.specs.Formed.{stmts_arrays, stmts_calls, stmts_declared, stmts_sites, stmts_variables}

-- `int x = f(g(y)) + g(1); while (x) { barrier(..); f(x); } barrier(..);`
body : StmtNodes
body =
    AndStmt (DeclareNode 1 Int (Some (BinaryNode Add false
    (CallNode 1 (ValueArg (CallNode 0 (ValueArg (VariableNode 0 Int) NoArgs)) NoArgs))
    (CallNode 2 (ValueArg (NumberNode 1 false) NoArgs)))))
    (AndStmt (WhileNode (VariableNode 1 Int) (BlockNode
    (AndStmt (BarrierNode 0) (AndStmt (CallStmtNode (CallNode 3 (ValueArg (VariableNode 1 Int) NoArgs))) NoStmts))))
    (AndStmt (BarrierNode 1) NoStmts))

-- a call stands behind those in its arguments
calls_in_order : stmts_calls body ≡ 0 ∷ 1 ∷ 2 ∷ 3 ∷ []
unfolding body
calls_in_order = refl

barriers_in_order : stmts_sites body ≡ 0 ∷ 1 ∷ []
unfolding body
barriers_in_order = refl

variables_in_order : stmts_variables body ≡ 1 ∷ 0 ∷ 1 ∷ 1 ∷ []
unfolding body
variables_in_order = refl

no_arrays : stmts_arrays body ≡ []
unfolding body
no_arrays = refl

one_declared : stmts_declared body ≡ 1 ∷ []
unfolding body
one_declared = refl
