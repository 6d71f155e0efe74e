-- The measures at small functions, computed.
use Rattle.std.proofs.Common.{◌≡◌, refl, ℕ, Bool, true, false, List, [], ◌∷◌, Option, None, Some}
use Rattle.std.specs.Prelude.{codes}
use Rattle.vx_base.specs.declared.types.Elem.TheVariants.{Int}
use Rattle.ocl_ast.specs.declared.stmts.AssignOp.TheVariants.{Set, Up}
use Rattle.ocl_ast.specs.declared.units.Gives.TheVariants.{Nothing}
use Rattle.ocl_program.specs.declared.exprs.ArrayRef.TheVariants.{Parameter}
use Rattle.ocl_program.specs.declared.functions.CallSite.{CallSite}
use Rattle.ocl_program.specs.Nodes.{ExprNode, NumberNode, VariableNode, BothNode, CallNode, ParenNode, NoArgs, ValueArg, StmtNode, DeclareNode, SetVariableNode, SetElementNode, CallStmtNode, IfNode, WhileNode, EmptyNode, StmtNodes, NoStmts, AndStmt, FunctionNode}
use Rattle.ocl_program.specs.Measures.{expanded, measures_of}

abbrev function_of : ℕ → List CallSite → StmtNodes → FunctionNode
function_of variables calls body = record {
  kernel = true;
  name = record { text = codes "k"; pos = record { line = 1; col = 1 } };
  gives = Nothing;
  params = [];
  variables = variables;
  sites = 0;
  arrays = [];
  calls = calls;
  body = body;
}

abbrev call_of : ℕ → CallSite
call_of k = record { callee = k; variables = 0; sites = 0 }

-- `int x = 1;`
declaration : measures_of (function_of 1 [] (AndStmt (DeclareNode 0 Int (Some (NumberNode 1 false))) NoStmts) ∷ []) 0 ≡
    record { variables = 1; nodes = 2; depth = 1; control = 0; calls = 0 }
unfolding expanded
declaration = refl

-- `a[0] = 1;`
element : measures_of (function_of 0 [] (AndStmt (SetElementNode (Parameter 0) Int (NumberNode 0 false) Set false (Some (NumberNode 1 false)) (record { line = 1; col = 1 })) NoStmts) ∷ []) 0 ≡
    record { variables = 0; nodes = 4; depth = 2; control = 0; calls = 0 }
unfolding expanded
element = refl

-- `x++;` has no expression
step : measures_of (function_of 1 [] (AndStmt (SetVariableNode 0 Int Up false None) NoStmts) ∷ []) 0 ≡
    record { variables = 1; nodes = 2; depth = 0; control = 0; calls = 0 }
unfolding expanded
step = refl

-- `while (1) ;` and `if (1) ;` count an empty body
empty_body : measures_of (function_of 0 [] (AndStmt (WhileNode (NumberNode 1 false) (IfNode (NumberNode 1 false) EmptyNode)) NoStmts) ∷ []) 0 ≡
    record { variables = 0; nodes = 4; depth = 1; control = 2; calls = 0 }
unfolding expanded
empty_body = refl

-- a kernel that calls function 1 twice, one call in the other's argument, and function 1 calls function 2 behind an `&&`
abbrev chain : List FunctionNode
chain =
    function_of 1 (call_of 1 ∷ call_of 1 ∷ []) (AndStmt (CallStmtNode (CallNode 1 (ValueArg (CallNode 0 (ValueArg (ParenNode (VariableNode 0 Int)) NoArgs)) NoArgs))) NoStmts) ∷
    function_of 2 (call_of 2 ∷ []) (AndStmt (CallStmtNode (BothNode (NumberNode 1 false) (CallNode 0 NoArgs))) NoStmts) ∷
    function_of 3 [] (AndStmt (DeclareNode 0 Int (Some (NumberNode 7 false))) NoStmts) ∷ []

-- function 2 has 2 nodes, function 1 has 1 + (1 + 2) + 1 = 5, the kernel 1 + (1 + 5) + (1 + 5) = 12 or more: its variable, two calls, two bodies
expanded_chain : measures_of chain 0 ≡ record { variables = 11; nodes = 13; depth = 5; control = 1; calls = 2 }
unfolding expanded
expanded_chain = refl
