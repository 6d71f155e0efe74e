-- Which plain tree a tree of `src/` is.
use Rattle.std.specs.Prelude.{Option, Some, None, List, [], ◌∷◌, map}
use Rattle.std.specs.Option.{option_map}
use Rattle.ocl_program.specs.Nodes.{ExprNode, NumberNode, VariableNode, UnaryNode, BinaryNode, BothNode, EitherNode, ChooseNode, CastNode, LoadNode, CallNode, BuiltinNode, ParenNode, ArgNodes, NoArgs, ValueArg, ArrayArg, ArgNode, ValueNode, ArrayNode, StmtNode, DeclareNode, LocalArrayNode, SetVariableNode, SetElementNode, CallStmtNode, BarrierNode, IfNode, IfElseNode, WhileNode, DoNode, ForNode, BreakNode, ContinueNode, ReturnNode, BlockNode, EmptyNode, StmtNodes, NoStmts, AndStmt, FunctionNode}
use Rattle.ocl_program.specs.declared.exprs.TypedExpr.{TypedExpr, Number, Variable, Unary', Binary', Both', Either', Choose', Cast', Load', Call', Builtin', Paren', Row_of-Argument, end_of-Argument, more_of-Argument}
use Rattle.ocl_program.specs.declared.exprs.Argument.{Argument, Value, Array}
use Rattle.ocl_program.specs.declared.stmts.TypedStmt.{TypedStmt, Declare, LocalArray, SetVariable, SetElement, Call as CallOf, Barrier, If', While', Do', For', Break, Continue, Return, Block', Empty, Row_of-TypedStmt, end_of-TypedStmt, more_of-TypedStmt, Held-TypedStmt-If-2, None', Some'}
use Rattle.ocl_program.specs.declared.functions.TypedFunction.{TypedFunction}

abbrev mutual
  -- the plain tree of an expression
  pub node_of : TypedExpr → ExprNode
  node_of (Number value unsigned) = NumberNode value unsigned
  node_of (Variable variable elem) = VariableNode variable elem
  node_of (Unary' op p part) = UnaryNode op (node_of part)
  node_of (Binary' op unsigned p left q right) = BinaryNode op unsigned (node_of left) (node_of right)
  node_of (Both' p left q right) = BothNode (node_of left) (node_of right)
  node_of (Either' p left q right) = EitherNode (node_of left) (node_of right)
  node_of (Choose' unsigned p test q one r other) = ChooseNode unsigned (node_of test) (node_of one) (node_of other)
  node_of (Cast' elem p part) = CastNode elem (node_of part)
  node_of (Load' array elem p place pos) = LoadNode array elem (node_of place) pos
  node_of (Call' call shape args) = CallNode call (row_args args)
  node_of (Builtin' which unsigned shape args) = BuiltinNode which unsigned (row_args args)
  node_of (Paren' p part) = ParenNode (node_of part)

  pub row_args : {m : _} → Row_of-Argument m → ArgNodes
  row_args end_of-Argument = NoArgs
  row_args (more_of-Argument arg rest) = with_arg arg (row_args rest)

  pub with_arg : Argument → ArgNodes → ArgNodes
  with_arg (Value e) more = ValueArg (node_of e) more
  with_arg (Array array) more = ArrayArg array more

-- the plain tree of what a parameter is bound to
abbrev pub argument_node : Argument → ArgNode
argument_node (Value e) = ValueNode (node_of e)
argument_node (Array array) = ArrayNode array

-- an `if`, with or without `else`
abbrev pub if_node : ExprNode → StmtNode → Option StmtNode → StmtNode
if_node test one None = IfNode test one
if_node test one (Some other) = IfElseNode test one other

abbrev mutual
  -- the plain tree of a statement
  pub stmt_node : TypedStmt → StmtNode
  stmt_node (Declare variable elem value) = DeclareNode variable elem (option_map node_of value)
  stmt_node (LocalArray array count) = LocalArrayNode array (node_of count)
  stmt_node (SetVariable variable elem op unsigned value) = SetVariableNode variable elem op unsigned (option_map node_of value)
  stmt_node (SetElement array elem place op unsigned value pos) = SetElementNode array elem (node_of place) op unsigned (option_map node_of value) pos
  stmt_node (CallOf call) = CallStmtNode (node_of call)
  stmt_node (Barrier site) = BarrierNode site
  stmt_node (If' test p one other) = if_node (node_of test) (stmt_node one) (else_node other)
  stmt_node (While' test p body) = WhileNode (node_of test) (stmt_node body)
  stmt_node (Do' p body test) = DoNode (stmt_node body) (node_of test)
  stmt_node (For' s first test t step p body) = ForNode (row_stmts first) (option_map node_of test) (row_stmts step) (stmt_node body)
  stmt_node Break = BreakNode
  stmt_node Continue = ContinueNode
  stmt_node (Return value) = ReturnNode (option_map node_of value)
  stmt_node (Block' s items) = BlockNode (row_stmts items)
  stmt_node Empty = EmptyNode

  pub else_node : Held-TypedStmt-If-2 → Option StmtNode
  else_node None' = None
  else_node (Some' p other) = Some (stmt_node other)

  pub row_stmts : {m : _} → Row_of-TypedStmt m → StmtNodes
  row_stmts end_of-TypedStmt = NoStmts
  row_stmts (more_of-TypedStmt s rest) = AndStmt (stmt_node s) (row_stmts rest)

-- the plain trees of statements in order
abbrev pub typed_stmts : List TypedStmt → StmtNodes
typed_stmts [] = NoStmts
typed_stmts (s ∷ ss) = AndStmt (stmt_node s) (typed_stmts ss)

-- the plain tree of a function
abbrev pub function_node : TypedFunction → FunctionNode
function_node f = record {
  kernel = f.kernel;
  name = f.name;
  gives = f.gives;
  params = f.params;
  variables = f.variables;
  sites = f.sites;
  arrays = f.arrays.items;
  calls = f.calls.items;
  body = typed_stmts f.body.items;
}
