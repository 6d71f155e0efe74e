-- How large trees are, which falls where the code goes on to a part.
use Rattle.std.specs.Prelude.{ℕ, ◌+◌, Option, None, Some}
use Rattle.ocl_inline.specs.declared.trees.FlatArgument.{FlatArgument, Array}
use Rattle.ocl_inline.specs.declared.trees.FlatArgument as argument
use Rattle.ocl_inline.specs.Shapes.{expr_of}
use Rattle.ocl_inline.specs.Trees.{FlatValue, NoFlat, SomeFlat, FlatExpr, UnaryFlat, BinaryFlat, BothFlat, EitherFlat, ChooseFlat, CastFlat, LoadFlat, CallFlat, LostFlat, BuiltinFlat, ParenFlat, FlatArgs, NoFlatArgs, NumberArg, NamedArg, FlatStmt, DeclareFlat, LocalArrayFlat, SetVariableFlat, SetElementFlat, CallStmtFlat, IfFlat, IfElseFlat, WhileFlat, DoFlat, ForFlat, ReturnFlat, BlockFlat, FlatStmts, NoFlats, AndFlat}

abbrev mutual
  pub expr_size : FlatExpr → ℕ
  expr_size (UnaryFlat op part) = expr_size part + 4
  expr_size (BinaryFlat op unsigned left right) = expr_size left + expr_size right + 4
  expr_size (BothFlat left right) = expr_size left + expr_size right + 4
  expr_size (EitherFlat left right) = expr_size left + expr_size right + 4
  expr_size (ChooseFlat unsigned test one other) = expr_size test + expr_size one + expr_size other + 4
  expr_size (CastFlat elem part) = expr_size part + 4
  expr_size (LoadFlat array elem place pos) = expr_size place + 4
  expr_size (CallFlat args body) = args_size args + stmts_size body + 4
  expr_size (LostFlat args) = args_size args + 4
  expr_size (BuiltinFlat which unsigned args) = args_size args + 4
  expr_size (ParenFlat part) = expr_size part + 4
  expr_size other = 1

  pub value_size : FlatValue → ℕ
  value_size NoFlat = 1
  value_size (SomeFlat e) = expr_size e + 1

  pub args_size : FlatArgs → ℕ
  args_size NoFlatArgs = 1
  args_size (NumberArg e binding more) = expr_size e + 2 + args_size more
  args_size (NamedArg array more) = 2 + args_size more

  pub stmt_size : FlatStmt → ℕ
  stmt_size (DeclareFlat variable elem value) = value_size value + 4
  stmt_size (LocalArrayFlat array count) = expr_size count + 4
  stmt_size (SetVariableFlat variable elem op unsigned value) = value_size value + 4
  stmt_size (SetElementFlat array elem place op unsigned value pos) = expr_size place + value_size value + 4
  stmt_size (CallStmtFlat call) = expr_size call + 4
  stmt_size (IfFlat test one) = expr_size test + stmt_size one + 5
  stmt_size (IfElseFlat test one other) = expr_size test + stmt_size one + (stmt_size other + 2) + 4
  stmt_size (WhileFlat test body) = expr_size test + stmt_size body + 4
  stmt_size (DoFlat body test) = stmt_size body + expr_size test + 4
  stmt_size (ForFlat first test step body) = stmts_size first + value_size test + stmts_size step + stmt_size body + 4
  stmt_size (ReturnFlat gives value) = value_size value + 4
  stmt_size (BlockFlat items) = stmts_size items + 4
  stmt_size other = 1

  pub stmts_size : FlatStmts → ℕ
  stmts_size NoFlats = 1
  stmts_size (AndFlat s ss) = stmt_size s + 1 + stmts_size ss

abbrev pub arg_size : FlatArgument → ℕ
arg_size (argument.Number value binding) = expr_size (expr_of value) + 1
arg_size (Array array) = 1

abbrev pub else_size : Option FlatStmt → ℕ
else_size None = 1
else_size (Some other) = stmt_size other + 2
