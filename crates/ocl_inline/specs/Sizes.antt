-- How large trees are, which falls where the expansion goes on to a part, and with each level of calls.
use Rattle.std.specs.Prelude.{ℕ, ◌+◌, List, [], ◌∷◌, Option, None, Some}
use Rattle.ocl_program.specs.Nodes.{ExprNode, NumberNode, VariableNode, UnaryNode, BinaryNode, BothNode, EitherNode, ChooseNode, CastNode, LoadNode, CallNode, BuiltinNode, ParenNode, ArgNodes, NoArgs, ValueArg, ArrayArg, ArgNode, ValueNode, ArrayNode, StmtNode, DeclareNode, LocalArrayNode, SetVariableNode, SetElementNode, CallStmtNode, BarrierNode, IfNode, IfElseNode, WhileNode, DoNode, ForNode, BreakNode, ContinueNode, ReturnNode, BlockNode, EmptyNode, StmtNodes, NoStmts, AndStmt, FunctionNode}

abbrev mutual
  pub expr_size : ExprNode → ℕ
  expr_size (NumberNode value unsigned) = 1
  expr_size (VariableNode variable elem) = 1
  expr_size (UnaryNode op part) = expr_size part + 1
  expr_size (BinaryNode op unsigned left right) = expr_size left + expr_size right + 1
  expr_size (BothNode left right) = expr_size left + expr_size right + 1
  expr_size (EitherNode left right) = expr_size left + expr_size right + 1
  expr_size (ChooseNode unsigned test one other) = expr_size test + expr_size one + expr_size other + 1
  expr_size (CastNode elem part) = expr_size part + 1
  expr_size (LoadNode array elem place pos) = expr_size place + 1
  expr_size (CallNode call args) = args_size args + 2
  expr_size (BuiltinNode which unsigned args) = args_size args + 1
  expr_size (ParenNode part) = expr_size part + 1

  pub args_size : ArgNodes → ℕ
  args_size NoArgs = 1
  args_size (ValueArg e more) = expr_size e + 1 + args_size more
  args_size (ArrayArg array more) = 1 + args_size more

abbrev pub arg_size : ArgNode → ℕ
arg_size (ValueNode e) = expr_size e + 1
arg_size (ArrayNode array) = 1

abbrev pub value_size : Option ExprNode → ℕ
value_size None = 1
value_size (Some e) = expr_size e + 1

abbrev mutual
  pub stmt_size : StmtNode → ℕ
  stmt_size (DeclareNode variable elem value) = value_size value + 1
  stmt_size (LocalArrayNode array count) = expr_size count + 1
  stmt_size (SetVariableNode variable elem op unsigned value) = value_size value + 1
  stmt_size (SetElementNode array elem place op unsigned value pos) = expr_size place + value_size value + 1
  stmt_size (CallStmtNode call) = expr_size call + 1
  stmt_size (BarrierNode site) = 1
  stmt_size (IfNode test one) = expr_size test + stmt_size one + 3
  stmt_size (IfElseNode test one other) = expr_size test + stmt_size one + stmt_size other + 3
  stmt_size (WhileNode test body) = expr_size test + stmt_size body + 2
  stmt_size (DoNode body test) = stmt_size body + expr_size test + 2
  stmt_size (ForNode first test step body) = stmts_size first + value_size test + stmts_size step + stmt_size body + 2
  stmt_size BreakNode = 1
  stmt_size ContinueNode = 1
  stmt_size (ReturnNode value) = value_size value + 1
  stmt_size (BlockNode items) = stmts_size items + 1
  stmt_size EmptyNode = 1

  pub stmts_size : StmtNodes → ℕ
  stmts_size NoStmts = 1
  stmts_size (AndStmt s ss) = stmt_size s + 1 + stmts_size ss

abbrev pub else_size : Option StmtNode → ℕ
else_size None = 1
else_size (Some s) = stmt_size s + 1

-- more than the body of any function has
abbrev pub bodies_size : List FunctionNode → ℕ
bodies_size [] = 1
bodies_size (f ∷ fs) = stmts_size f.body + bodies_size fs
