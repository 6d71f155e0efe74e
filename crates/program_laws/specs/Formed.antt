-- What stands in the body of a function, in the order of the text, and what the functions of a program have in common.
use Rattle.std.specs.Prelude.{◌≡◌, ℕ, ◌+◌, ◌<◌, ◌≤◌, List, [], ◌∷◌, ◌++◌, length, count_by, slice_get, Option, None, Some}
use Rattle.std.specs.List.{range_with_len}
use Rattle.ocl_program.specs.declared.functions.CallSite.{CallSite}
use Rattle.ocl_program.specs.Measures.{callees, measured, own_calls, own_control, own_nodes, own_sites, own_variables}
use Rattle.ocl_program.specs.Nodes.{ExprNode, NumberNode, VariableNode, UnaryNode, BinaryNode, BothNode, EitherNode, ChooseNode, CastNode, LoadNode, CallNode, BuiltinNode, ParenNode, ArgNodes, NoArgs, ValueArg, ArrayArg, StmtNode, DeclareNode, LocalArrayNode, SetVariableNode, SetElementNode, CallStmtNode, BarrierNode, IfNode, IfElseNode, WhileNode, DoNode, ForNode, BreakNode, ContinueNode, ReturnNode, BlockNode, EmptyNode, StmtNodes, NoStmts, AndStmt, FunctionNode}
use Rattle.ocl_sem.specs.Source.{is_scalar}
use Rattle.ocl_types.specs.Functions.{sites_from}

-- what stands in an expression, if there is one
abbrev pub where_written : (ExprNode → List ℕ) → Option ExprNode → List ℕ
where_written numbers None = []
where_written numbers (Some e) = numbers e

-- ---- calls

abbrev mutual
  -- the numbers of the calls of functions: a call stands behind those in its arguments
  pub expr_calls : ExprNode → List ℕ
  expr_calls (NumberNode value unsigned) = []
  expr_calls (VariableNode variable elem) = []
  expr_calls (UnaryNode op part) = expr_calls part
  expr_calls (BinaryNode op unsigned left right) = expr_calls left ++ expr_calls right
  expr_calls (BothNode left right) = expr_calls left ++ expr_calls right
  expr_calls (EitherNode left right) = expr_calls left ++ expr_calls right
  expr_calls (ChooseNode unsigned test one other) = expr_calls test ++ (expr_calls one ++ expr_calls other)
  expr_calls (CastNode elem part) = expr_calls part
  expr_calls (LoadNode array elem place pos) = expr_calls place
  expr_calls (CallNode call args) = args_calls args ++ call ∷ []
  expr_calls (BuiltinNode which unsigned args) = args_calls args
  expr_calls (ParenNode part) = expr_calls part

  pub args_calls : ArgNodes → List ℕ
  args_calls NoArgs = []
  args_calls (ValueArg e more) = expr_calls e ++ args_calls more
  args_calls (ArrayArg array more) = args_calls more

abbrev mutual
  pub stmt_calls : StmtNode → List ℕ
  stmt_calls (DeclareNode variable elem value) = where_written expr_calls value
  stmt_calls (LocalArrayNode array count) = expr_calls count
  stmt_calls (SetVariableNode variable elem op unsigned value) = where_written expr_calls value
  stmt_calls (SetElementNode array elem place op unsigned value pos) = expr_calls place ++ where_written expr_calls value
  stmt_calls (CallStmtNode call) = expr_calls call
  stmt_calls (BarrierNode site) = []
  stmt_calls (IfNode test one) = expr_calls test ++ stmt_calls one
  stmt_calls (IfElseNode test one other) = expr_calls test ++ (stmt_calls one ++ stmt_calls other)
  stmt_calls (WhileNode test body) = expr_calls test ++ stmt_calls body
  stmt_calls (DoNode body test) = stmt_calls body ++ expr_calls test
  stmt_calls (ForNode first test step body) = stmts_calls first ++ (where_written expr_calls test ++ (stmts_calls step ++ stmt_calls body))
  stmt_calls BreakNode = []
  stmt_calls ContinueNode = []
  stmt_calls (ReturnNode value) = where_written expr_calls value
  stmt_calls (BlockNode items) = stmts_calls items
  stmt_calls EmptyNode = []

  pub stmts_calls : StmtNodes → List ℕ
  stmts_calls NoStmts = []
  stmts_calls (AndStmt s ss) = stmt_calls s ++ stmts_calls ss

-- ---- barriers

abbrev mutual
  -- the numbers of the barriers
  pub stmt_sites : StmtNode → List ℕ
  stmt_sites (DeclareNode variable elem value) = []
  stmt_sites (LocalArrayNode array count) = []
  stmt_sites (SetVariableNode variable elem op unsigned value) = []
  stmt_sites (SetElementNode array elem place op unsigned value pos) = []
  stmt_sites (CallStmtNode call) = []
  stmt_sites (BarrierNode site) = site ∷ []
  stmt_sites (IfNode test one) = stmt_sites one
  stmt_sites (IfElseNode test one other) = stmt_sites one ++ stmt_sites other
  stmt_sites (WhileNode test body) = stmt_sites body
  stmt_sites (DoNode body test) = stmt_sites body
  stmt_sites (ForNode first test step body) = stmts_sites first ++ (stmts_sites step ++ stmt_sites body)
  stmt_sites BreakNode = []
  stmt_sites ContinueNode = []
  stmt_sites (ReturnNode value) = []
  stmt_sites (BlockNode items) = stmts_sites items
  stmt_sites EmptyNode = []

  pub stmts_sites : StmtNodes → List ℕ
  stmts_sites NoStmts = []
  stmts_sites (AndStmt s ss) = stmt_sites s ++ stmts_sites ss

-- ---- variables

abbrev mutual
  -- the numbers of the variables that are read, declared or assigned
  pub expr_variables : ExprNode → List ℕ
  expr_variables (NumberNode value unsigned) = []
  expr_variables (VariableNode variable elem) = variable ∷ []
  expr_variables (UnaryNode op part) = expr_variables part
  expr_variables (BinaryNode op unsigned left right) = expr_variables left ++ expr_variables right
  expr_variables (BothNode left right) = expr_variables left ++ expr_variables right
  expr_variables (EitherNode left right) = expr_variables left ++ expr_variables right
  expr_variables (ChooseNode unsigned test one other) = expr_variables test ++ (expr_variables one ++ expr_variables other)
  expr_variables (CastNode elem part) = expr_variables part
  expr_variables (LoadNode array elem place pos) = expr_variables place
  expr_variables (CallNode call args) = args_variables args
  expr_variables (BuiltinNode which unsigned args) = args_variables args
  expr_variables (ParenNode part) = expr_variables part

  pub args_variables : ArgNodes → List ℕ
  args_variables NoArgs = []
  args_variables (ValueArg e more) = expr_variables e ++ args_variables more
  args_variables (ArrayArg array more) = args_variables more

abbrev mutual
  pub stmt_variables : StmtNode → List ℕ
  stmt_variables (DeclareNode variable elem value) = variable ∷ where_written expr_variables value
  stmt_variables (LocalArrayNode array count) = expr_variables count
  stmt_variables (SetVariableNode variable elem op unsigned value) = variable ∷ where_written expr_variables value
  stmt_variables (SetElementNode array elem place op unsigned value pos) = expr_variables place ++ where_written expr_variables value
  stmt_variables (CallStmtNode call) = expr_variables call
  stmt_variables (BarrierNode site) = []
  stmt_variables (IfNode test one) = expr_variables test ++ stmt_variables one
  stmt_variables (IfElseNode test one other) = expr_variables test ++ (stmt_variables one ++ stmt_variables other)
  stmt_variables (WhileNode test body) = expr_variables test ++ stmt_variables body
  stmt_variables (DoNode body test) = stmt_variables body ++ expr_variables test
  stmt_variables (ForNode first test step body) =
      stmts_variables first ++ (where_written expr_variables test ++ (stmts_variables step ++ stmt_variables body))
  stmt_variables BreakNode = []
  stmt_variables ContinueNode = []
  stmt_variables (ReturnNode value) = where_written expr_variables value
  stmt_variables (BlockNode items) = stmts_variables items
  stmt_variables EmptyNode = []

  pub stmts_variables : StmtNodes → List ℕ
  stmts_variables NoStmts = []
  stmts_variables (AndStmt s ss) = stmt_variables s ++ stmts_variables ss

-- ---- arrays

abbrev mutual
  -- the numbers of the arrays that are declared
  pub stmt_arrays : StmtNode → List ℕ
  stmt_arrays (DeclareNode variable elem value) = []
  stmt_arrays (LocalArrayNode array count) = array ∷ []
  stmt_arrays (SetVariableNode variable elem op unsigned value) = []
  stmt_arrays (SetElementNode array elem place op unsigned value pos) = []
  stmt_arrays (CallStmtNode call) = []
  stmt_arrays (BarrierNode site) = []
  stmt_arrays (IfNode test one) = stmt_arrays one
  stmt_arrays (IfElseNode test one other) = stmt_arrays one ++ stmt_arrays other
  stmt_arrays (WhileNode test body) = stmt_arrays body
  stmt_arrays (DoNode body test) = stmt_arrays body
  stmt_arrays (ForNode first test step body) = stmts_arrays first ++ (stmts_arrays step ++ stmt_arrays body)
  stmt_arrays BreakNode = []
  stmt_arrays ContinueNode = []
  stmt_arrays (ReturnNode value) = []
  stmt_arrays (BlockNode items) = stmts_arrays items
  stmt_arrays EmptyNode = []

  pub stmts_arrays : StmtNodes → List ℕ
  stmts_arrays NoStmts = []
  stmts_arrays (AndStmt s ss) = stmt_arrays s ++ stmts_arrays ss

-- ---- what is declared

abbrev mutual
  -- the variables and the arrays that are declared, each by its number
  pub stmt_declared : StmtNode → List ℕ
  stmt_declared (DeclareNode variable elem value) = variable ∷ []
  stmt_declared (LocalArrayNode array count) = array ∷ []
  stmt_declared (SetVariableNode variable elem op unsigned value) = []
  stmt_declared (SetElementNode array elem place op unsigned value pos) = []
  stmt_declared (CallStmtNode call) = []
  stmt_declared (BarrierNode site) = []
  stmt_declared (IfNode test one) = stmt_declared one
  stmt_declared (IfElseNode test one other) = stmt_declared one ++ stmt_declared other
  stmt_declared (WhileNode test body) = stmt_declared body
  stmt_declared (DoNode body test) = stmt_declared body
  stmt_declared (ForNode first test step body) = stmts_declared first ++ (stmts_declared step ++ stmt_declared body)
  stmt_declared BreakNode = []
  stmt_declared ContinueNode = []
  stmt_declared (ReturnNode value) = []
  stmt_declared (BlockNode items) = stmts_declared items
  stmt_declared EmptyNode = []

  pub stmts_declared : StmtNodes → List ℕ
  stmts_declared NoStmts = []
  stmts_declared (AndStmt s ss) = stmt_declared s ++ stmts_declared ss

-- ---- functions

-- each of some numbers is less
abbrev pub AreBelow : ℕ → List ℕ → Type 0
AreBelow bound [] = Unit {0}
AreBelow bound (n ∷ ns) = (n < bound) × AreBelow bound ns

-- n numbers from k on
abbrev pub counted_up : ℕ → ℕ → List ℕ
counted_up k n = range_with_len k n

-- that a function with its calls expanded is within the limits of a kernel
abbrev pub IsSmall : List FunctionNode → ℕ → Type 0
IsSmall program k = (measured own_variables program k ≤ 256) × (measured own_nodes program k ≤ 16384)

-- that no more branches, loops and calls stand within one another
abbrev pub IsShallow : List FunctionNode → ℕ → Type 0
IsShallow program k = (measured own_control program k ≤ 30) × (measured own_calls program k ≤ 31)

-- Each variable of the body is one of the function's; its scalar parameters are among them, and there are no more than these and one for
-- each declaration. Calls, barriers and arrays are numbered in the order of the text, and each has its place in the function's tables.
pub record IsFormed (program : List FunctionNode) (f : FunctionNode) : Type 0 where
  pub variables : AreBelow f.variables (stmts_variables f.body)
  pub scalars : count_by is_scalar f.params ≤ f.variables
  pub declared : f.variables ≤ count_by is_scalar f.params + length (stmts_declared f.body)
  pub calls : stmts_calls f.body ≡ counted_up 0 (length f.calls)
  pub sites : stmts_sites f.body ≡ counted_up 0 f.sites
  pub arrays : stmts_arrays f.body ≡ counted_up 0 (length f.arrays)
  pub table : f.calls ≡ sites_from (measured own_variables program) (measured own_sites program) f.variables f.sites (callees f)
  pub callees : (i : ℕ) (site : CallSite) → slice_get f.calls i ≡ Some site → site.callee < length program
