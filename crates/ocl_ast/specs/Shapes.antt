-- Which plain tree a tree of `src/` is.
use Rattle.std.specs.Prelude.{Option, Some, None, List, [], ◌∷◌, map}
use Rattle.std.specs.Option.{option_map}
use Rattle.ocl_ast.specs.Trees.{ExprTree, NumberTree, NameTree, UnaryTree, BinaryTree, BothTree, EitherTree, ChooseTree, CastTree, IndexTree, CallTree, ParenTree, ArgTrees, NoArgs, AndArg, TargetTree, NameTarget, IndexTarget, StmtTree, DeclareTree, LocalArrayTree, AssignTree, CallStmtTree, BarrierTree, IfTree, IfElseTree, WhileTree, DoTree, ForTree, BreakTree, ContinueTree, ReturnTree, BlockTree, EmptyTree, StmtTrees, NoStmts, AndStmt, FunctionTree}
use Rattle.ocl_ast.specs.declared.exprs.Expr.{Expr, Number, Name, Unary', Binary', Both', Either', Choose', Cast', Index', Call', Paren', Row_of-Expr, end_of-Expr, more_of-Expr}
use Rattle.ocl_ast.specs.declared.stmts.Target.{Target}
use Rattle.ocl_ast.specs.declared.stmts.Target.TheVariants.{Name as NameOf, Index as IndexOf}
use Rattle.ocl_ast.specs.declared.stmts.Stmt.{Stmt, Declare, LocalArray, Assign, Call as CallOf, Barrier, If', While', Do', For', Break, Continue, Return, Block', Empty, Row_of-Stmt, end_of-Stmt, more_of-Stmt, Held-Stmt-If-2, None', Some'}
use Rattle.ocl_ast.specs.declared.units.Function.{Function}
use Rattle.ocl_ast.specs.declared.units.Unit.{Unit}

abbrev mutual
  -- the plain tree of an expression
  pub tree_of : Expr → ExprTree
  tree_of (Number value unsigned pos) = NumberTree value unsigned pos
  tree_of (Name name) = NameTree name
  tree_of (Unary' op p part pos) = UnaryTree op (tree_of part) pos
  tree_of (Binary' op p left q right pos) = BinaryTree op (tree_of left) (tree_of right) pos
  tree_of (Both' p left q right pos) = BothTree (tree_of left) (tree_of right) pos
  tree_of (Either' p left q right pos) = EitherTree (tree_of left) (tree_of right) pos
  tree_of (Choose' p test q one r other pos) = ChooseTree (tree_of test) (tree_of one) (tree_of other) pos
  tree_of (Cast' elem p part pos) = CastTree elem (tree_of part) pos
  tree_of (Index' array p place pos) = IndexTree array (tree_of place) pos
  tree_of (Call' name shape args) = CallTree name (row_trees args)
  tree_of (Paren' p part pos) = ParenTree (tree_of part) pos

  pub row_trees : {m : _} → Row_of-Expr m → ArgTrees
  row_trees end_of-Expr = NoArgs
  row_trees (more_of-Expr e rest) = AndArg (tree_of e) (row_trees rest)

-- the plain trees of expressions in order
abbrev pub arg_trees : List Expr → ArgTrees
arg_trees [] = NoArgs
arg_trees (e ∷ es) = AndArg (tree_of e) (arg_trees es)

-- the plain tree of what an assignment changes
abbrev pub target_tree : Target → TargetTree
target_tree (NameOf name) = NameTarget name
target_tree (IndexOf array place pos) = IndexTarget array (tree_of place) pos

-- an `if`, with or without `else`
abbrev pub if_tree : ExprTree → StmtTree → Option StmtTree → StmtTree
if_tree test one None = IfTree test one
if_tree test one (Some other) = IfElseTree test one other

abbrev mutual
  -- the plain tree of a statement
  pub stmt_tree : Stmt → StmtTree
  stmt_tree (Declare elem constant name value) = DeclareTree elem constant name (option_map tree_of value)
  stmt_tree (LocalArray elem name count) = LocalArrayTree elem name (tree_of count)
  stmt_tree (Assign target op value pos) = AssignTree (target_tree target) op (option_map tree_of value) pos
  stmt_tree (CallOf name args) = CallStmtTree name (arg_trees args.items)
  stmt_tree (Barrier pos) = BarrierTree pos
  stmt_tree (If' test p one other) = if_tree (tree_of test) (stmt_tree one) (else_tree other)
  stmt_tree (While' test p body) = WhileTree (tree_of test) (stmt_tree body)
  stmt_tree (Do' p body test) = DoTree (stmt_tree body) (tree_of test)
  stmt_tree (For' s first test t step p body) =
      ForTree (row_stmts first) (option_map tree_of test) (row_stmts step) (stmt_tree body)
  stmt_tree (Break pos) = BreakTree pos
  stmt_tree (Continue pos) = ContinueTree pos
  stmt_tree (Return value pos) = ReturnTree (option_map tree_of value) pos
  stmt_tree (Block' s items) = BlockTree (row_stmts items)
  stmt_tree Empty = EmptyTree

  pub else_tree : Held-Stmt-If-2 → Option StmtTree
  else_tree None' = None
  else_tree (Some' p other) = Some (stmt_tree other)

  pub row_stmts : {m : _} → Row_of-Stmt m → StmtTrees
  row_stmts end_of-Stmt = NoStmts
  row_stmts (more_of-Stmt s rest) = AndStmt (stmt_tree s) (row_stmts rest)

-- the plain trees of statements in order
abbrev pub stmt_trees : List Stmt → StmtTrees
stmt_trees [] = NoStmts
stmt_trees (s ∷ ss) = AndStmt (stmt_tree s) (stmt_trees ss)

-- the plain tree of a function
abbrev pub function_tree : Function → FunctionTree
function_tree f = record { kernel = f.kernel; name = f.name; gives = f.gives; params = f.params; body = stmt_trees f.body.items }

-- the plain trees of a file's functions in order
abbrev pub unit_trees : Unit → List FunctionTree
unit_trees u = map function_tree u.functions
