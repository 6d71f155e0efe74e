-- How large a function is once the body of a helper stands at each of its calls.
use Rattle.std.specs.Prelude.{ℕ, zero, suc, ◌+◌, ◌-◌, ◌^◌, max, min, Option, None, Some, List, [], ◌∷◌, map, sum, length, slice_get}
use Rattle.ocl_program.specs.declared.functions.CallSite.{CallSite}
use Rattle.ocl_program.specs.declared.functions.Measures.{Measures}
use Rattle.ocl_program.specs.Nodes.{ExprNode, NumberNode, VariableNode, UnaryNode, BinaryNode, BothNode, EitherNode, ChooseNode, CastNode, LoadNode, CallNode, BuiltinNode, ParenNode, ArgNodes, NoArgs, ValueArg, ArrayArg, StmtNode, DeclareNode, LocalArrayNode, SetVariableNode, SetElementNode, CallStmtNode, BarrierNode, IfNode, IfElseNode, WhileNode, DoNode, ForNode, BreakNode, ContinueNode, ReturnNode, BlockNode, EmptyNode, StmtNodes, NoStmts, AndStmt, FunctionNode}

-- the value, or 0 where there is none
abbrev pub where_some : {A : Type 0} → (A → ℕ) → Option A → ℕ
where_some f None = 0
where_some f (Some x) = f x

-- ---- nodes; `inner k` is what the body has that stands at call k

abbrev mutual
  -- Each number, name, operator, cast, index and call has 1, and a call besides what the helper's body has.
  pub nodes : (ℕ → ℕ) → ExprNode → ℕ
  nodes inner (NumberNode value unsigned) = 1
  nodes inner (VariableNode variable elem) = 1
  nodes inner (UnaryNode op part) = nodes inner part + 1
  nodes inner (BinaryNode op unsigned left right) = nodes inner left + nodes inner right + 1
  nodes inner (BothNode left right) = nodes inner left + nodes inner right + 1
  nodes inner (EitherNode left right) = nodes inner left + nodes inner right + 1
  nodes inner (ChooseNode unsigned test one other) = nodes inner test + nodes inner one + nodes inner other + 1
  nodes inner (CastNode elem part) = nodes inner part + 1
  nodes inner (LoadNode array elem place pos) = nodes inner place + 1
  nodes inner (CallNode call args) = args_nodes inner args + inner call + 1
  nodes inner (BuiltinNode which unsigned args) = args_nodes inner args + 1
  nodes inner (ParenNode part) = nodes inner part

  -- the name of an array has 1
  pub args_nodes : (ℕ → ℕ) → ArgNodes → ℕ
  args_nodes inner NoArgs = 0
  args_nodes inner (ValueArg e more) = nodes inner e + args_nodes inner more
  args_nodes inner (ArrayArg array more) = 1 + args_nodes inner more

abbrev mutual
  -- A statement has 1, a declaration only its name and its expressions, a call only the call; blocks and `;` have none. A target has 1.
  pub stmt_size : (ℕ → ℕ) → StmtNode → ℕ
  stmt_size inner (DeclareNode variable elem value) = where_some (nodes inner) value + 1
  stmt_size inner (LocalArrayNode array count) = nodes inner count + 1
  stmt_size inner (SetVariableNode variable elem op unsigned value) = where_some (nodes inner) value + 2
  stmt_size inner (SetElementNode array elem place op unsigned value pos) = nodes inner place + where_some (nodes inner) value + 2
  stmt_size inner (CallStmtNode call) = nodes inner call
  stmt_size inner (BarrierNode site) = 1
  stmt_size inner (IfNode test one) = nodes inner test + stmt_size inner one + 1
  stmt_size inner (IfElseNode test one other) = nodes inner test + stmt_size inner one + stmt_size inner other + 1
  stmt_size inner (WhileNode test body) = nodes inner test + stmt_size inner body + 1
  stmt_size inner (DoNode body test) = stmt_size inner body + nodes inner test + 1
  stmt_size inner (ForNode first test step body) = stmts_size inner first + where_some (nodes inner) test + stmts_size inner step + stmt_size inner body + 1
  stmt_size inner BreakNode = 1
  stmt_size inner ContinueNode = 1
  stmt_size inner (ReturnNode value) = where_some (nodes inner) value + 1
  stmt_size inner (BlockNode items) = stmts_size inner items
  stmt_size inner EmptyNode = 0

  pub stmts_size : (ℕ → ℕ) → StmtNodes → ℕ
  stmts_size inner NoStmts = 0
  stmts_size inner (AndStmt s ss) = stmt_size inner s + stmts_size inner ss

-- ---- depth of expressions

abbrev mutual
  -- A number or name has 1; a unary operator, cast, index or parentheses 1 and the part's; a binary operator the greater of the
  -- left's and 1 and the right's; a call or `?:` 1 and the greatest of its parts, the expressions of the helper's body among them.
  pub depth : (ℕ → ℕ) → ExprNode → ℕ
  depth inner (NumberNode value unsigned) = 1
  depth inner (VariableNode variable elem) = 1
  depth inner (UnaryNode op part) = depth inner part + 1
  depth inner (BinaryNode op unsigned left right) = max (depth inner left) (depth inner right + 1)
  depth inner (BothNode left right) = max (depth inner left) (depth inner right + 1)
  depth inner (EitherNode left right) = max (depth inner left) (depth inner right + 1)
  depth inner (ChooseNode unsigned test one other) = max (depth inner test) (max (depth inner one) (depth inner other)) + 1
  depth inner (CastNode elem part) = depth inner part + 1
  depth inner (LoadNode array elem place pos) = depth inner place + 1
  depth inner (CallNode call args) = max (args_depth inner args) (inner call) + 1
  depth inner (BuiltinNode which unsigned args) = args_depth inner args + 1
  depth inner (ParenNode part) = depth inner part + 1

  pub args_depth : (ℕ → ℕ) → ArgNodes → ℕ
  args_depth inner NoArgs = 0
  args_depth inner (ValueArg e more) = max (depth inner e) (args_depth inner more)
  args_depth inner (ArrayArg array more) = max 1 (args_depth inner more)

abbrev mutual
  -- the greatest depth of an expression; a target with an index counts as an index, a target without one as none
  pub stmt_depth : (ℕ → ℕ) → StmtNode → ℕ
  stmt_depth inner (DeclareNode variable elem value) = where_some (depth inner) value
  stmt_depth inner (LocalArrayNode array count) = depth inner count
  stmt_depth inner (SetVariableNode variable elem op unsigned value) = where_some (depth inner) value
  stmt_depth inner (SetElementNode array elem place op unsigned value pos) = max (depth inner place + 1) (where_some (depth inner) value)
  stmt_depth inner (CallStmtNode call) = depth inner call
  stmt_depth inner (BarrierNode site) = 0
  stmt_depth inner (IfNode test one) = max (depth inner test) (stmt_depth inner one)
  stmt_depth inner (IfElseNode test one other) = max (depth inner test) (max (stmt_depth inner one) (stmt_depth inner other))
  stmt_depth inner (WhileNode test body) = max (depth inner test) (stmt_depth inner body)
  stmt_depth inner (DoNode body test) = max (stmt_depth inner body) (depth inner test)
  stmt_depth inner (ForNode first test step body) =
      max (stmts_depth inner first) (max (where_some (depth inner) test) (max (stmts_depth inner step) (stmt_depth inner body)))
  stmt_depth inner BreakNode = 0
  stmt_depth inner ContinueNode = 0
  stmt_depth inner (ReturnNode value) = where_some (depth inner) value
  stmt_depth inner (BlockNode items) = stmts_depth inner items
  stmt_depth inner EmptyNode = 0

  pub stmts_depth : (ℕ → ℕ) → StmtNodes → ℕ
  stmts_depth inner NoStmts = 0
  stmts_depth inner (AndStmt s ss) = max (stmt_depth inner s) (stmts_depth inner ss)

-- ---- depth of control

abbrev mutual
  -- How many of these stand round a part at most: the right side of `&&` or `||`, the second or third part of `?:`.
  pub control : (ℕ → ℕ) → ExprNode → ℕ
  control inner (NumberNode value unsigned) = 0
  control inner (VariableNode variable elem) = 0
  control inner (UnaryNode op part) = control inner part
  control inner (BinaryNode op unsigned left right) = max (control inner left) (control inner right)
  control inner (BothNode left right) = max (control inner left) (control inner right + 1)
  control inner (EitherNode left right) = max (control inner left) (control inner right + 1)
  control inner (ChooseNode unsigned test one other) = max (control inner test) (max (control inner one) (control inner other) + 1)
  control inner (CastNode elem part) = control inner part
  control inner (LoadNode array elem place pos) = control inner place
  control inner (CallNode call args) = max (args_control inner args) (inner call)
  control inner (BuiltinNode which unsigned args) = args_control inner args
  control inner (ParenNode part) = control inner part

  pub args_control : (ℕ → ℕ) → ArgNodes → ℕ
  args_control inner NoArgs = 0
  args_control inner (ValueArg e more) = max (control inner e) (args_control inner more)
  args_control inner (ArrayArg array more) = args_control inner more

abbrev mutual
  -- the same with either branch of an `if`, also an empty one, and the test, body and step of a loop
  pub stmt_control : (ℕ → ℕ) → StmtNode → ℕ
  stmt_control inner (DeclareNode variable elem value) = where_some (control inner) value
  stmt_control inner (LocalArrayNode array count) = control inner count
  stmt_control inner (SetVariableNode variable elem op unsigned value) = where_some (control inner) value
  stmt_control inner (SetElementNode array elem place op unsigned value pos) = max (control inner place) (where_some (control inner) value)
  stmt_control inner (CallStmtNode call) = control inner call
  stmt_control inner (BarrierNode site) = 0
  stmt_control inner (IfNode test one) = max (control inner test) (stmt_control inner one + 1)
  stmt_control inner (IfElseNode test one other) = max (control inner test) (max (stmt_control inner one) (stmt_control inner other) + 1)
  stmt_control inner (WhileNode test body) = max (control inner test) (stmt_control inner body) + 1
  stmt_control inner (DoNode body test) = max (stmt_control inner body) (control inner test) + 1
  stmt_control inner (ForNode first test step body) =
      max (stmts_control inner first) (max (where_some (control inner) test) (max (stmts_control inner step) (stmt_control inner body)) + 1)
  stmt_control inner BreakNode = 0
  stmt_control inner ContinueNode = 0
  stmt_control inner (ReturnNode value) = where_some (control inner) value
  stmt_control inner (BlockNode items) = stmts_control inner items
  stmt_control inner EmptyNode = 0

  pub stmts_control : (ℕ → ℕ) → StmtNodes → ℕ
  stmts_control inner NoStmts = 0
  stmts_control inner (AndStmt s ss) = max (stmt_control inner s) (stmts_control inner ss)

-- ---- functions

abbrev pub callees : FunctionNode → List ℕ
callees f = map (λ (c : CallSite). c.callee) f.calls

-- what stands at call k, by the number of the callee
abbrev pub at_call : FunctionNode → (ℕ → ℕ) → ℕ → ℕ
at_call f inner k = where_some inner (slice_get (callees f) k)

-- the greatest number, 0 where there is none
abbrev pub greatest : List ℕ → ℕ
greatest [] = 0
greatest (n ∷ ns) = max n (greatest ns)

-- what a function has, of which `inner` says what its callees have
abbrev pub own_variables : FunctionNode → (ℕ → ℕ) → ℕ
own_variables f inner = f.variables + sum (map inner (callees f))

abbrev pub own_sites : FunctionNode → (ℕ → ℕ) → ℕ
own_sites f inner = f.sites + sum (map inner (callees f))

abbrev pub own_nodes : FunctionNode → (ℕ → ℕ) → ℕ
own_nodes f inner = stmts_size (at_call f inner) f.body

abbrev pub own_depth : FunctionNode → (ℕ → ℕ) → ℕ
own_depth f inner = stmts_depth (at_call f inner) f.body

abbrev pub own_control : FunctionNode → (ℕ → ℕ) → ℕ
own_control f inner = stmts_control (at_call f inner) f.body

abbrev pub own_calls : FunctionNode → (ℕ → ℕ) → ℕ
own_calls f inner = greatest (map (λ callee. inner callee + 1) (callees f))

abbrev pub of_function : (FunctionNode → (ℕ → ℕ) → ℕ) → (ℕ → ℕ) → Option FunctionNode → ℕ
of_function own inner None = 0
of_function own inner (Some f) = own f inner

-- What function k has with its calls expanded, for calls of at most n levels. Where no function reaches a call of itself, no call has
-- as many levels as there are functions.
unfoldable pub expanded : (FunctionNode → (ℕ → ℕ) → ℕ) → List FunctionNode → ℕ → ℕ → ℕ
expanded own program zero k = 0
expanded own program (suc n) k = of_function own (expanded own program n) (slice_get program k)

abbrev pub measured : (FunctionNode → (ℕ → ℕ) → ℕ) → List FunctionNode → ℕ → ℕ
measured own program k = expanded own program (length program) k

-- a number as it is kept
abbrev pub cut : ℕ → ℕ
cut n = min n (2 ^ 32 - 1)

-- the measures of a function
abbrev pub measures_of : List FunctionNode → ℕ → Measures
measures_of program k = record {
  variables = cut (measured own_variables program k);
  nodes = cut (measured own_nodes program k);
  depth = cut (measured own_depth program k);
  control = cut (measured own_control program k);
  calls = cut (measured own_calls program k);
}
