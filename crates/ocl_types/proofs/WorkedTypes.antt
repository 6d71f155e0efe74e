-- The typing at small files, computed.
use Rattle.std.proofs.Common.{◌≡◌, refl, ℕ, Bool, true, false, List, [], ◌∷◌, Option, None, Some, Result, Ok, Err}
use Rattle.std.specs.Prelude.{codes, map}
use Rattle.vx_base.specs.declared.types.Elem.TheVariants.{Char, Int, Uint}
use Rattle.vx_base.specs.declared.types.ParamKind.TheVariants.{Scalar, Pointer}
use Rattle.vx_base.specs.declared.types.Pos.{Pos}
use Rattle.vx_base.specs.declared.types.Space.TheVariants.{Global, Local}
use Rattle.ocl_ast.specs.Trees.{ExprTree, NumberTree, NameTree, BinaryTree, BothTree, IndexTree, CallTree, ParenTree, ArgTrees, NoArgs, AndArg, NameTarget, IndexTarget, StmtTree, DeclareTree, LocalArrayTree, AssignTree, CallStmtTree, IfTree, WhileTree, ForTree, BreakTree, ReturnTree, BlockTree, StmtTrees, NoStmts, AndStmt, FunctionTree}
use Rattle.ocl_ast.specs.declared.exprs.BinOp.TheVariants.{Add, Lt}
use Rattle.ocl_ast.specs.declared.exprs.Ident.{Ident}
use Rattle.ocl_ast.specs.declared.stmts.AssignOp.TheVariants.{Set, Up}
use Rattle.ocl_ast.specs.declared.units.Gives.{Gives}
use Rattle.ocl_ast.specs.declared.units.Gives.TheVariants.{Nothing, Value}
use Rattle.ocl_ast.specs.declared.units.Param.{Param}
use Rattle.ocl_program.specs.declared.exprs.ArrayRef.TheVariants.{Parameter, Declared}
use Rattle.ocl_program.specs.declared.functions.CallSite.{CallSite}
use Rattle.ocl_program.specs.Nodes.{ExprNode, NumberNode, VariableNode, BinaryNode, LoadNode, CallNode, NoArgs as NoArgNodes, ValueArg, StmtNode, DeclareNode, SetVariableNode, SetElementNode, BlockNode, StmtNodes, NoStmts as NoNodes, AndStmt as AndNode, FunctionNode}
use Rattle.ocl_measures.specs.Recursion.{leads}
use Rattle.ocl_program.specs.Measures.{expanded, measures_of}
use Rattle.ocl_types.specs.declared.faults.TypeFault.{TypeFault}
use Rattle.ocl_types.specs.declared.faults.TypeFault.TheVariants.{Unknown, Twice, Mismatch, Recursive}
use Rattle.ocl_types.specs.Names.{builtin_named}
use Rattle.ocl_types.specs.Functions.{program_of}

at : ℕ → Pos
at col = record { line = 1; col = col }

abbrev named : ℕ → List ℕ → Ident
named col text = record { text = text; pos = record { line = 1; col = col } }

abbrev x_at : ℕ → Ident
x_at col = named col (codes "x")

abbrev a_at : ℕ → Ident
a_at col = named col (codes "a")

abbrev f_at : ℕ → Ident
f_at col = named col (codes "f")

abbrev number : ℕ → ExprTree
number n = NumberTree n false (record { line = 1; col = 0 })

abbrev kernel_of : StmtTrees → FunctionTree
kernel_of body = record {
  kernel = true;
  name = named 15 (codes "k");
  gives = Nothing;
  params = record { name = a_at 17; kind = Pointer Global Int false; constant = false } ∷ [];
  body = body;
}

abbrev helper_of : ExprTree → FunctionTree
helper_of value = record {
  kernel = false;
  name = f_at 5;
  gives = Value Int;
  params = record { name = x_at 7; kind = Scalar Int; constant = false } ∷ [];
  body = AndStmt (ReturnTree (Some value) (record { line = 1; col = 20 })) NoStmts;
}

-- `y = 1;` where nothing is named y
unknown_name : program_of (kernel_of (AndStmt (AssignTree (NameTarget (named 36 (codes "y"))) Set (Some (number 1)) (record { line = 1; col = 38 })) NoStmts) ∷ []) ≡ Err (Unknown (record { line = 1; col = 36 }))
unfolding builtin_named
unknown_name = refl

-- `int x; int x = y;` names x twice before y is looked at
twice_before_value :
    program_of (kernel_of (AndStmt (DeclareTree Int false (x_at 40) None) (AndStmt (DeclareTree Int false (x_at 47) (Some (NameTree (named 51 (codes "y"))))) NoStmts)) ∷ []) ≡
    Err (Twice (record { line = 1; col = 47 }))
unfolding builtin_named
twice_before_value = refl

-- `int f(int x) { return f(x); }` reaches a call of itself
recursive_helper : program_of (helper_of (CallTree (f_at 22) (AndArg (NameTree (x_at 24)) NoArgs)) ∷ []) ≡ Err (Recursive (record { line = 1; col = 5 }))
unfolding builtin_named leads
recursive_helper = refl

-- `int x = x + 1u; { int x; x = 2; } a[x] = f(x);`, with a helper behind the kernel: the right x is the new one, an inner x hides the
-- outer one, a sum with a uint works on uint, and the helper's variable stands behind the kernel's own
abbrev mixed : StmtTrees
mixed =
    AndStmt (DeclareTree Int false (x_at 40) (Some (BinaryTree Add (NameTree (x_at 44)) (NumberTree 1 true (record { line = 1; col = 48 })) (record { line = 1; col = 46 })))) (
    AndStmt (BlockTree (AndStmt (DeclareTree Char false (x_at 60) None) (AndStmt (AssignTree (NameTarget (x_at 63)) Set (Some (number 2)) (record { line = 1; col = 65 })) NoStmts))) (
    AndStmt (AssignTree (IndexTarget (a_at 70) (NameTree (x_at 72)) (record { line = 1; col = 71 })) Set (Some (CallTree (f_at 77) (AndArg (NameTree (x_at 79)) NoArgs))) (record { line = 1; col = 75 })) NoStmts))

abbrev mixed_nodes : StmtNodes
mixed_nodes =
    AndNode (DeclareNode 0 Int (Some (BinaryNode Add true (VariableNode 0 Int) (NumberNode 1 true)))) (
    AndNode (BlockNode (AndNode (DeclareNode 1 Char None) (AndNode (SetVariableNode 1 Char Set false (Some (NumberNode 2 false))) NoNodes))) (
    AndNode (SetElementNode (Parameter 0) Int (VariableNode 0 Int) Set false (Some (CallNode 0 (ValueArg (VariableNode 0 Int) NoArgNodes))) (record { line = 1; col = 71 })) NoNodes))

abbrev bodies : Result (List FunctionNode) TypeFault → List StmtNodes
bodies (Err fault) = []
bodies (Ok program) = map (λ (f : FunctionNode). f.body) program

abbrev tables : Result (List FunctionNode) TypeFault → List (List CallSite)
tables (Err fault) = []
tables (Ok program) = map (λ (f : FunctionNode). f.calls) program

first_body : List StmtNodes → StmtNodes
first_body [] = NoNodes
first_body (body ∷ more) = body

resolved_body : first_body (bodies (program_of (kernel_of mixed ∷ helper_of (NameTree (x_at 30)) ∷ []))) ≡ mixed_nodes
unfolding builtin_named expanded leads first_body
resolved_body = refl

call_table : tables (program_of (kernel_of mixed ∷ helper_of (NameTree (x_at 30)) ∷ [])) ≡ (record { callee = 1; variables = 2; sites = 0 } ∷ []) ∷ [] ∷ []
unfolding builtin_named expanded leads
call_table = refl
