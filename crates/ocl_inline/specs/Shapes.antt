-- Which plain tree a tree of `src/` is.
use Rattle.std.specs.Prelude.{Option, Some, None, List, [], ◌∷◌}
use Rattle.ocl_inline.specs.declared.trees.Flat.{Flat}
use Rattle.ocl_inline.specs.declared.trees.FlatExpr.{FlatExpr, Number, Variable, Unary', Binary', Both', Either', Choose', Cast', Load', Call', Lost', Builtin', Paren', Row_of-FlatArgument, end_of-FlatArgument, more_of-FlatArgument}
use Rattle.ocl_inline.specs.declared.trees.FlatArgument.{FlatArgument, Array}
use Rattle.ocl_inline.specs.declared.trees.FlatArgument as argument
use Rattle.ocl_inline.specs.declared.trees.FlatStmt.{FlatStmt, Declare', LocalArray', SetVariable', SetElement', Barrier, If', While', Do', For', Break, Continue, Return', Block', Empty, Row_of-FlatStmt, end_of-FlatStmt, more_of-FlatStmt, Held-FlatStmt-Declare-2, Held-FlatStmt-If-2, FlatStmt-Declare-2-None', FlatStmt-Declare-2-Some', FlatStmt-If-2-None', FlatStmt-If-2-Some'}
use Rattle.ocl_inline.specs.declared.trees.FlatStmt as statement
use Rattle.ocl_inline.specs.Trees as tree

abbrev mutual
  -- the plain tree of an expression
  pub expr_of : FlatExpr → tree.FlatExpr
  expr_of (Number value unsigned) = tree.NumberFlat value unsigned
  expr_of (Variable variable) = tree.VariableFlat variable
  expr_of (Unary' op p part) = tree.UnaryFlat op (expr_of part)
  expr_of (Binary' op unsigned p left q right) = tree.BinaryFlat op unsigned (expr_of left) (expr_of right)
  expr_of (Both' p left q right) = tree.BothFlat (expr_of left) (expr_of right)
  expr_of (Either' p left q right) = tree.EitherFlat (expr_of left) (expr_of right)
  expr_of (Choose' unsigned p test q one r other) = tree.ChooseFlat unsigned (expr_of test) (expr_of one) (expr_of other)
  expr_of (Cast' elem p part) = tree.CastFlat elem (expr_of part)
  expr_of (Load' array elem p place pos) = tree.LoadFlat array elem (expr_of place) pos
  expr_of (Call' s args t body) = tree.CallFlat (row_args args) (row_stmts body)
  expr_of (Lost' s args) = tree.LostFlat (row_args args)
  expr_of (Builtin' which unsigned s args) = tree.BuiltinFlat which unsigned (row_args args)
  expr_of (Paren' p part) = tree.ParenFlat (expr_of part)

  pub value_of : Held-FlatStmt-Declare-2 → tree.FlatValue
  value_of FlatStmt-Declare-2-None' = tree.NoFlat
  value_of (FlatStmt-Declare-2-Some' p e) = tree.SomeFlat (expr_of e)

  pub row_args : {m : _} → Row_of-FlatArgument m → tree.FlatArgs
  row_args end_of-FlatArgument = tree.NoFlatArgs
  row_args (more_of-FlatArgument arg rest) = with_arg arg (row_args rest)

  pub with_arg : FlatArgument → tree.FlatArgs → tree.FlatArgs
  with_arg (argument.Number value binding) more = tree.NumberArg (expr_of value) binding more
  with_arg (Array array) more = tree.NamedArg array more

  -- the plain tree of a statement
  pub stmt_of : FlatStmt → tree.FlatStmt
  stmt_of (Declare' variable elem value) = tree.DeclareFlat variable elem (value_of value)
  stmt_of (LocalArray' array p count) = tree.LocalArrayFlat array (expr_of count)
  stmt_of (SetVariable' variable elem op unsigned value) = tree.SetVariableFlat variable elem op unsigned (value_of value)
  stmt_of (SetElement' array elem p place op unsigned value pos) = tree.SetElementFlat array elem (expr_of place) op unsigned (value_of value) pos
  stmt_of (statement.Call' p call) = tree.CallStmtFlat (expr_of call)
  stmt_of (Barrier site) = tree.BarrierFlat site
  stmt_of (If' p test q one other) = tree.if_flat (expr_of test) (stmt_of one) (else_of other)
  stmt_of (While' p test q body) = tree.WhileFlat (expr_of test) (stmt_of body)
  stmt_of (Do' p body q test) = tree.DoFlat (stmt_of body) (expr_of test)
  stmt_of (For' s first test t step p body) = tree.ForFlat (row_stmts first) (value_of test) (row_stmts step) (stmt_of body)
  stmt_of Break = tree.BreakFlat
  stmt_of Continue = tree.ContinueFlat
  stmt_of (Return' gives value) = tree.ReturnFlat gives (value_of value)
  stmt_of (Block' s items) = tree.BlockFlat (row_stmts items)
  stmt_of Empty = tree.EmptyFlat

  pub else_of : Held-FlatStmt-If-2 → Option tree.FlatStmt
  else_of FlatStmt-If-2-None' = None
  else_of (FlatStmt-If-2-Some' p other) = Some (stmt_of other)

  pub row_stmts : {m : _} → Row_of-FlatStmt m → tree.FlatStmts
  row_stmts end_of-FlatStmt = tree.NoFlats
  row_stmts (more_of-FlatStmt s rest) = tree.AndFlat (stmt_of s) (row_stmts rest)

-- the plain trees of statements in order
abbrev pub flat_trees : List FlatStmt → tree.FlatStmts
flat_trees [] = tree.NoFlats
flat_trees (s ∷ ss) = tree.AndFlat (stmt_of s) (flat_trees ss)

-- the plain trees of arguments in order
abbrev pub flat_arguments : List FlatArgument → tree.FlatArgs
flat_arguments [] = tree.NoFlatArgs
flat_arguments (arg ∷ more) = with_arg arg (flat_arguments more)

-- the plain kernel
abbrev pub kernel_of : Flat → tree.FlatKernel
kernel_of f = record {
  params = f.params;
  arrays = f.arrays.items;
  variables = f.variables;
  sites = f.sites;
  body = flat_trees f.body.items;
}
