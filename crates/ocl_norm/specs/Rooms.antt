-- How many variables a part uses, from its first one on.
use Rattle.std.specs.Prelude.{ℕ, suc, max, Bool}
use Rattle.ocl_ast.specs.declared.stmts.AssignOp.{AssignOp}
use Rattle.ocl_ast.specs.declared.stmts.AssignOp.TheVariants as assign
use Rattle.ocl_program.specs.declared.exprs.Builtin.{Builtin}
use Rattle.ocl_program.specs.declared.exprs.Builtin.TheVariants.{Min, Max, Abs}
use Rattle.ocl_inline.specs.Trees.{FlatValue, NoFlat, SomeFlat, FlatExpr, NumberFlat, VariableFlat, UnaryFlat, BinaryFlat, BothFlat, EitherFlat, ChooseFlat, CastFlat, LoadFlat, CallFlat, LostFlat, BuiltinFlat, ParenFlat, FlatArgs, NoFlatArgs, NumberArg, NamedArg, FlatStmt, DeclareFlat, SetVariableFlat, SetElementFlat, CallStmtFlat, IfFlat, IfElseFlat, WhileFlat, DoFlat, ForFlat, ReturnFlat, BlockFlat, FlatStmts, NoFlats, AndFlat}
use Rattle.ocl_norm.specs.Occurrences.{calls, right_calls}
use Rattle.ocl_norm.specs.Standings.{Standing, Named, standing, above}

-- a built-in function of one argument, and of two
abbrev pub one_room : Builtin → ℕ
one_room Abs = 2
one_room which = 1

abbrev pub two_room : Builtin → ℕ
two_room Min = 3
two_room Max = 3
two_room which = 1

-- two parts, the right one behind the variable that holds the value of the left one
abbrev pub pair_room : ℕ → Standing → ℕ → Bool → ℕ
pair_room left s right calls = max left (above calls s right)

-- a variable's new value, where its value before is not used and where it is
abbrev pub assigned_room : AssignOp → ℕ → ℕ → ℕ
assigned_room assign.Set one other = one
assigned_room op one other = other

abbrev mutual
  pub value_room : FlatExpr → ℕ
  value_room (NumberFlat n unsigned) = 0
  value_room (VariableFlat k) = 0
  value_room (UnaryFlat op part) = max 1 (value_room part)
  value_room (BinaryFlat op unsigned left right) = max 1 (pair_room (value_room left) (standing left) (value_room right) (calls right))
  value_room (BothFlat left right) = max (value_room left) (suc (value_room right))
  value_room (EitherFlat left right) = max (value_room left) (suc (value_room right))
  value_room (ChooseFlat unsigned test one other) = max (value_room test) (max 1 (max (value_room one) (value_room other)))
  value_room (CastFlat elem part) = max 1 (value_room part)
  value_room (LoadFlat array elem place pos) = max 1 (value_room place)
  value_room (CallFlat args body) = max (args_room args) (max 1 (stmts_room body))
  value_room (LostFlat args) = 0
  value_room (BuiltinFlat which unsigned args) = builtin_room which args
  value_room (ParenFlat part) = value_room part

  pub builtin_room : Builtin → FlatArgs → ℕ
  builtin_room which (NumberArg x b NoFlatArgs) = max (one_room which) (value_room x)
  builtin_room which (NumberArg x b (NumberArg y b' NoFlatArgs)) = max (two_room which) (pair_room (value_room x) (standing x) (value_room y) (calls y))
  builtin_room which (NumberArg x b (NumberArg y b' (NumberArg z b'' more))) =
      max 3 (max (pair_room (value_room x) (standing x) (value_room y) (calls y)) (suc (value_room z)))
  builtin_room which other = 1

  pub args_room : FlatArgs → ℕ
  args_room NoFlatArgs = 0
  args_room (NumberArg e binding more) = max (value_room e) (args_room more)
  args_room (NamedArg array more) = args_room more

  pub right_room : FlatValue → ℕ
  right_room NoFlat = 0
  right_room (SomeFlat e) = value_room e

  -- a statement, whose call's result is the first variable
  pub stmt_room : FlatStmt → ℕ
  stmt_room (DeclareFlat variable elem value) = suc (right_room value)
  stmt_room (SetVariableFlat variable elem op unsigned value) =
      suc (assigned_room op (right_room value) (max 1 (above (right_calls value) (Named variable) (right_room value))))
  stmt_room (SetElementFlat array elem place op unsigned value pos) =
      suc (assigned_room op (pair_room (value_room place) (standing place) (right_room value) (right_calls value)) (pair_room (value_room place) (standing place) (suc (right_room value)) (right_calls value)))
  stmt_room (CallStmtFlat call) = suc (value_room call)
  stmt_room (IfFlat test one) = max (suc (value_room test)) (stmt_room one)
  stmt_room (IfElseFlat test one other) = max (suc (value_room test)) (max (stmt_room one) (stmt_room other))
  stmt_room (WhileFlat test body) = max (suc (value_room test)) (stmt_room body)
  stmt_room (DoFlat body test) = max (suc (max 1 (value_room test))) (stmt_room body)
  stmt_room (ForFlat first test step body) = max (stmts_room first) (max (suc (right_room test)) (max (stmts_room step) (stmt_room body)))
  stmt_room (ReturnFlat gives value) = suc (right_room value)
  stmt_room (BlockFlat items) = stmts_room items
  stmt_room other = 0

  pub stmts_room : FlatStmts → ℕ
  stmts_room NoFlats = 0
  stmts_room (AndFlat s ss) = max (stmt_room s) (stmts_room ss)
