-- How large a flat kernel is, by the rules of the resolved program's measures: the body at a call counts with the call.
use Rattle.std.specs.Prelude.{ℕ, ◌+◌, max}
use Rattle.ocl_inline.specs.Trees.{FlatValue, NoFlat, SomeFlat, FlatExpr, NumberFlat, VariableFlat, UnaryFlat, BinaryFlat, BothFlat, EitherFlat, ChooseFlat, CastFlat, LoadFlat, CallFlat, LostFlat, BuiltinFlat, ParenFlat, FlatArgs, NoFlatArgs, NumberArg, NamedArg, FlatStmt, DeclareFlat, LocalArrayFlat, SetVariableFlat, SetElementFlat, CallStmtFlat, BarrierFlat, IfFlat, IfElseFlat, WhileFlat, DoFlat, ForFlat, BreakFlat, ContinueFlat, ReturnFlat, BlockFlat, EmptyFlat, FlatStmts, NoFlats, AndFlat}

abbrev mutual
  -- Each number, name, operator, cast, index and call has 1, the name of an array too; a statement has 1, a declaration only its name and
  -- its expressions, a call only the call; blocks and `;` have none. A target has 1.
  pub flat_expr_nodes : FlatExpr → ℕ
  flat_expr_nodes (NumberFlat value unsigned) = 1
  flat_expr_nodes (VariableFlat variable) = 1
  flat_expr_nodes (UnaryFlat op part) = flat_expr_nodes part + 1
  flat_expr_nodes (BinaryFlat op unsigned left right) = flat_expr_nodes left + flat_expr_nodes right + 1
  flat_expr_nodes (BothFlat left right) = flat_expr_nodes left + flat_expr_nodes right + 1
  flat_expr_nodes (EitherFlat left right) = flat_expr_nodes left + flat_expr_nodes right + 1
  flat_expr_nodes (ChooseFlat unsigned test one other) = flat_expr_nodes test + flat_expr_nodes one + flat_expr_nodes other + 1
  flat_expr_nodes (CastFlat elem part) = flat_expr_nodes part + 1
  flat_expr_nodes (LoadFlat array elem place pos) = flat_expr_nodes place + 1
  flat_expr_nodes (CallFlat args body) = flat_args_nodes args + flat_nodes body + 1
  flat_expr_nodes (LostFlat args) = flat_args_nodes args + 1
  flat_expr_nodes (BuiltinFlat which unsigned args) = flat_args_nodes args + 1
  flat_expr_nodes (ParenFlat part) = flat_expr_nodes part

  pub flat_value_nodes : FlatValue → ℕ
  flat_value_nodes NoFlat = 0
  flat_value_nodes (SomeFlat e) = flat_expr_nodes e

  pub flat_args_nodes : FlatArgs → ℕ
  flat_args_nodes NoFlatArgs = 0
  flat_args_nodes (NumberArg e binding more) = flat_expr_nodes e + flat_args_nodes more
  flat_args_nodes (NamedArg array more) = 1 + flat_args_nodes more

  pub flat_stmt_nodes : FlatStmt → ℕ
  flat_stmt_nodes (DeclareFlat variable elem value) = flat_value_nodes value + 1
  flat_stmt_nodes (LocalArrayFlat array count) = flat_expr_nodes count + 1
  flat_stmt_nodes (SetVariableFlat variable elem op unsigned value) = flat_value_nodes value + 2
  flat_stmt_nodes (SetElementFlat array elem place op unsigned value pos) = flat_expr_nodes place + flat_value_nodes value + 2
  flat_stmt_nodes (CallStmtFlat call) = flat_expr_nodes call
  flat_stmt_nodes (BarrierFlat site) = 1
  flat_stmt_nodes (IfFlat test one) = flat_expr_nodes test + flat_stmt_nodes one + 1
  flat_stmt_nodes (IfElseFlat test one other) = flat_expr_nodes test + flat_stmt_nodes one + flat_stmt_nodes other + 1
  flat_stmt_nodes (WhileFlat test body) = flat_expr_nodes test + flat_stmt_nodes body + 1
  flat_stmt_nodes (DoFlat body test) = flat_stmt_nodes body + flat_expr_nodes test + 1
  flat_stmt_nodes (ForFlat first test step body) = flat_nodes first + flat_value_nodes test + flat_nodes step + flat_stmt_nodes body + 1
  flat_stmt_nodes BreakFlat = 1
  flat_stmt_nodes ContinueFlat = 1
  flat_stmt_nodes (ReturnFlat gives value) = flat_value_nodes value + 1
  flat_stmt_nodes (BlockFlat items) = flat_nodes items
  flat_stmt_nodes EmptyFlat = 0

  pub flat_nodes : FlatStmts → ℕ
  flat_nodes NoFlats = 0
  flat_nodes (AndFlat s ss) = flat_stmt_nodes s + flat_nodes ss

abbrev mutual
  -- The greatest depth of an expression. A number or name has 1; a unary operator, cast, index or parentheses 1 and the part's; a binary
  -- operator the greater of the left's and 1 and the right's; a call or `?:` 1 and the greatest of its parts, the body at the call among them.
  pub flat_expr_depth : FlatExpr → ℕ
  flat_expr_depth (NumberFlat value unsigned) = 1
  flat_expr_depth (VariableFlat variable) = 1
  flat_expr_depth (UnaryFlat op part) = flat_expr_depth part + 1
  flat_expr_depth (BinaryFlat op unsigned left right) = max (flat_expr_depth left) (flat_expr_depth right + 1)
  flat_expr_depth (BothFlat left right) = max (flat_expr_depth left) (flat_expr_depth right + 1)
  flat_expr_depth (EitherFlat left right) = max (flat_expr_depth left) (flat_expr_depth right + 1)
  flat_expr_depth (ChooseFlat unsigned test one other) = max (flat_expr_depth test) (max (flat_expr_depth one) (flat_expr_depth other)) + 1
  flat_expr_depth (CastFlat elem part) = flat_expr_depth part + 1
  flat_expr_depth (LoadFlat array elem place pos) = flat_expr_depth place + 1
  flat_expr_depth (CallFlat args body) = max (flat_args_depth args) (flat_depth body) + 1
  flat_expr_depth (LostFlat args) = flat_args_depth args + 1
  flat_expr_depth (BuiltinFlat which unsigned args) = flat_args_depth args + 1
  flat_expr_depth (ParenFlat part) = flat_expr_depth part + 1

  pub flat_value_depth : FlatValue → ℕ
  flat_value_depth NoFlat = 0
  flat_value_depth (SomeFlat e) = flat_expr_depth e

  pub flat_args_depth : FlatArgs → ℕ
  flat_args_depth NoFlatArgs = 0
  flat_args_depth (NumberArg e binding more) = max (flat_expr_depth e) (flat_args_depth more)
  flat_args_depth (NamedArg array more) = max 1 (flat_args_depth more)

  pub flat_stmt_depth : FlatStmt → ℕ
  flat_stmt_depth (DeclareFlat variable elem value) = flat_value_depth value
  flat_stmt_depth (LocalArrayFlat array count) = flat_expr_depth count
  flat_stmt_depth (SetVariableFlat variable elem op unsigned value) = flat_value_depth value
  flat_stmt_depth (SetElementFlat array elem place op unsigned value pos) = max (flat_expr_depth place + 1) (flat_value_depth value)
  flat_stmt_depth (CallStmtFlat call) = flat_expr_depth call
  flat_stmt_depth (BarrierFlat site) = 0
  flat_stmt_depth (IfFlat test one) = max (flat_expr_depth test) (flat_stmt_depth one)
  flat_stmt_depth (IfElseFlat test one other) = max (flat_expr_depth test) (max (flat_stmt_depth one) (flat_stmt_depth other))
  flat_stmt_depth (WhileFlat test body) = max (flat_expr_depth test) (flat_stmt_depth body)
  flat_stmt_depth (DoFlat body test) = max (flat_stmt_depth body) (flat_expr_depth test)
  flat_stmt_depth (ForFlat first test step body) = max (flat_depth first) (max (flat_value_depth test) (max (flat_depth step) (flat_stmt_depth body)))
  flat_stmt_depth BreakFlat = 0
  flat_stmt_depth ContinueFlat = 0
  flat_stmt_depth (ReturnFlat gives value) = flat_value_depth value
  flat_stmt_depth (BlockFlat items) = flat_depth items
  flat_stmt_depth EmptyFlat = 0

  pub flat_depth : FlatStmts → ℕ
  flat_depth NoFlats = 0
  flat_depth (AndFlat s ss) = max (flat_stmt_depth s) (flat_depth ss)

abbrev mutual
  -- How many of these stand round a part at most: the right side of `&&` or `||`, the second or third part of `?:`, either branch of an
  -- `if`, and the test, body and step of a loop.
  pub flat_expr_control : FlatExpr → ℕ
  flat_expr_control (NumberFlat value unsigned) = 0
  flat_expr_control (VariableFlat variable) = 0
  flat_expr_control (UnaryFlat op part) = flat_expr_control part
  flat_expr_control (BinaryFlat op unsigned left right) = max (flat_expr_control left) (flat_expr_control right)
  flat_expr_control (BothFlat left right) = max (flat_expr_control left) (flat_expr_control right + 1)
  flat_expr_control (EitherFlat left right) = max (flat_expr_control left) (flat_expr_control right + 1)
  flat_expr_control (ChooseFlat unsigned test one other) = max (flat_expr_control test) (max (flat_expr_control one) (flat_expr_control other) + 1)
  flat_expr_control (CastFlat elem part) = flat_expr_control part
  flat_expr_control (LoadFlat array elem place pos) = flat_expr_control place
  flat_expr_control (CallFlat args body) = max (flat_args_control args) (flat_control body)
  flat_expr_control (LostFlat args) = flat_args_control args
  flat_expr_control (BuiltinFlat which unsigned args) = flat_args_control args
  flat_expr_control (ParenFlat part) = flat_expr_control part

  pub flat_value_control : FlatValue → ℕ
  flat_value_control NoFlat = 0
  flat_value_control (SomeFlat e) = flat_expr_control e

  pub flat_args_control : FlatArgs → ℕ
  flat_args_control NoFlatArgs = 0
  flat_args_control (NumberArg e binding more) = max (flat_expr_control e) (flat_args_control more)
  flat_args_control (NamedArg array more) = flat_args_control more

  pub flat_stmt_control : FlatStmt → ℕ
  flat_stmt_control (DeclareFlat variable elem value) = flat_value_control value
  flat_stmt_control (LocalArrayFlat array count) = flat_expr_control count
  flat_stmt_control (SetVariableFlat variable elem op unsigned value) = flat_value_control value
  flat_stmt_control (SetElementFlat array elem place op unsigned value pos) = max (flat_expr_control place) (flat_value_control value)
  flat_stmt_control (CallStmtFlat call) = flat_expr_control call
  flat_stmt_control (BarrierFlat site) = 0
  flat_stmt_control (IfFlat test one) = max (flat_expr_control test) (flat_stmt_control one + 1)
  flat_stmt_control (IfElseFlat test one other) = max (flat_expr_control test) (max (flat_stmt_control one) (flat_stmt_control other) + 1)
  flat_stmt_control (WhileFlat test body) = max (flat_expr_control test) (flat_stmt_control body) + 1
  flat_stmt_control (DoFlat body test) = max (flat_stmt_control body) (flat_expr_control test) + 1
  flat_stmt_control (ForFlat first test step body) = max (flat_control first) (max (flat_value_control test) (max (flat_control step) (flat_stmt_control body)) + 1)
  flat_stmt_control BreakFlat = 0
  flat_stmt_control ContinueFlat = 0
  flat_stmt_control (ReturnFlat gives value) = flat_value_control value
  flat_stmt_control (BlockFlat items) = flat_control items
  flat_stmt_control EmptyFlat = 0

  pub flat_control : FlatStmts → ℕ
  flat_control NoFlats = 0
  flat_control (AndFlat s ss) = max (flat_stmt_control s) (flat_control ss)

abbrev mutual
  -- How many calls stand inside one another at most. A call in an argument is not inside the call.
  pub flat_expr_calls : FlatExpr → ℕ
  flat_expr_calls (NumberFlat value unsigned) = 0
  flat_expr_calls (VariableFlat variable) = 0
  flat_expr_calls (UnaryFlat op part) = flat_expr_calls part
  flat_expr_calls (BinaryFlat op unsigned left right) = max (flat_expr_calls left) (flat_expr_calls right)
  flat_expr_calls (BothFlat left right) = max (flat_expr_calls left) (flat_expr_calls right)
  flat_expr_calls (EitherFlat left right) = max (flat_expr_calls left) (flat_expr_calls right)
  flat_expr_calls (ChooseFlat unsigned test one other) = max (flat_expr_calls test) (max (flat_expr_calls one) (flat_expr_calls other))
  flat_expr_calls (CastFlat elem part) = flat_expr_calls part
  flat_expr_calls (LoadFlat array elem place pos) = flat_expr_calls place
  flat_expr_calls (CallFlat args body) = max (flat_args_calls args) (flat_calls body + 1)
  flat_expr_calls (LostFlat args) = flat_args_calls args
  flat_expr_calls (BuiltinFlat which unsigned args) = flat_args_calls args
  flat_expr_calls (ParenFlat part) = flat_expr_calls part

  pub flat_value_calls : FlatValue → ℕ
  flat_value_calls NoFlat = 0
  flat_value_calls (SomeFlat e) = flat_expr_calls e

  pub flat_args_calls : FlatArgs → ℕ
  flat_args_calls NoFlatArgs = 0
  flat_args_calls (NumberArg e binding more) = max (flat_expr_calls e) (flat_args_calls more)
  flat_args_calls (NamedArg array more) = flat_args_calls more

  pub flat_stmt_calls : FlatStmt → ℕ
  flat_stmt_calls (DeclareFlat variable elem value) = flat_value_calls value
  flat_stmt_calls (LocalArrayFlat array count) = flat_expr_calls count
  flat_stmt_calls (SetVariableFlat variable elem op unsigned value) = flat_value_calls value
  flat_stmt_calls (SetElementFlat array elem place op unsigned value pos) = max (flat_expr_calls place) (flat_value_calls value)
  flat_stmt_calls (CallStmtFlat call) = flat_expr_calls call
  flat_stmt_calls (BarrierFlat site) = 0
  flat_stmt_calls (IfFlat test one) = max (flat_expr_calls test) (flat_stmt_calls one)
  flat_stmt_calls (IfElseFlat test one other) = max (flat_expr_calls test) (max (flat_stmt_calls one) (flat_stmt_calls other))
  flat_stmt_calls (WhileFlat test body) = max (flat_expr_calls test) (flat_stmt_calls body)
  flat_stmt_calls (DoFlat body test) = max (flat_stmt_calls body) (flat_expr_calls test)
  flat_stmt_calls (ForFlat first test step body) = max (flat_calls first) (max (flat_value_calls test) (max (flat_calls step) (flat_stmt_calls body)))
  flat_stmt_calls BreakFlat = 0
  flat_stmt_calls ContinueFlat = 0
  flat_stmt_calls (ReturnFlat gives value) = flat_value_calls value
  flat_stmt_calls (BlockFlat items) = flat_calls items
  flat_stmt_calls EmptyFlat = 0

  pub flat_calls : FlatStmts → ℕ
  flat_calls NoFlats = 0
  flat_calls (AndFlat s ss) = max (flat_stmt_calls s) (flat_calls ss)
