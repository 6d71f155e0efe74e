-- Calls, branches and loops that stand within others are no more than there are nodes.
use Rattle.std.proofs.Common.{◌+◌, ◌*◌, ◌≤◌, arith}
use Rattle.ocl_inline.specs.FlatMeasures.{flat_expr_nodes, flat_value_nodes, flat_args_nodes, flat_stmt_nodes, flat_nodes, flat_expr_control, flat_value_control, flat_args_control, flat_stmt_control, flat_control, flat_expr_calls, flat_value_calls, flat_args_calls, flat_stmt_calls, flat_calls}
use Rattle.ocl_inline.specs.Trees.{FlatValue, NoFlat, SomeFlat, FlatExpr, NumberFlat, VariableFlat, UnaryFlat, BinaryFlat, BothFlat, EitherFlat, ChooseFlat, CastFlat, LoadFlat, CallFlat, LostFlat, BuiltinFlat, ParenFlat, FlatArgs, NoFlatArgs, NumberArg, NamedArg, FlatStmt, DeclareFlat, LocalArrayFlat, SetVariableFlat, SetElementFlat, CallStmtFlat, BarrierFlat, IfFlat, IfElseFlat, WhileFlat, DoFlat, ForFlat, BreakFlat, ContinueFlat, ReturnFlat, BlockFlat, EmptyFlat, FlatStmts, NoFlats, AndFlat}

-- one for each call, and four for each branch or loop
mutual
  pub value_few : (e : FlatExpr) → flat_expr_calls e + 4 * flat_expr_control e ≤ 5 * flat_expr_nodes e
  value_few (NumberFlat n unsigned) = omega arith
  value_few (VariableFlat k) = omega arith
  value_few (UnaryFlat op part) = let h : flat_expr_calls part + 4 * flat_expr_control part ≤ 5 * flat_expr_nodes part = value_few part in omega arith
  value_few (BinaryFlat op unsigned left right) =
      let h : flat_expr_calls left + 4 * flat_expr_control left ≤ 5 * flat_expr_nodes left = value_few left in
      let k : flat_expr_calls right + 4 * flat_expr_control right ≤ 5 * flat_expr_nodes right = value_few right in omega arith
  value_few (BothFlat left right) =
      let h : flat_expr_calls left + 4 * flat_expr_control left ≤ 5 * flat_expr_nodes left = value_few left in
      let k : flat_expr_calls right + 4 * flat_expr_control right ≤ 5 * flat_expr_nodes right = value_few right in omega arith
  value_few (EitherFlat left right) =
      let h : flat_expr_calls left + 4 * flat_expr_control left ≤ 5 * flat_expr_nodes left = value_few left in
      let k : flat_expr_calls right + 4 * flat_expr_control right ≤ 5 * flat_expr_nodes right = value_few right in omega arith
  value_few (ChooseFlat unsigned test one other) =
      let h : flat_expr_calls test + 4 * flat_expr_control test ≤ 5 * flat_expr_nodes test = value_few test in
      let k : flat_expr_calls one + 4 * flat_expr_control one ≤ 5 * flat_expr_nodes one = value_few one in
      let j : flat_expr_calls other + 4 * flat_expr_control other ≤ 5 * flat_expr_nodes other = value_few other in omega arith
  value_few (CastFlat elem part) = let h : flat_expr_calls part + 4 * flat_expr_control part ≤ 5 * flat_expr_nodes part = value_few part in omega arith
  value_few (LoadFlat array elem place pos) = let h : flat_expr_calls place + 4 * flat_expr_control place ≤ 5 * flat_expr_nodes place = value_few place in omega arith
  value_few (CallFlat args body) =
      let h : flat_args_calls args + 4 * flat_args_control args ≤ 5 * flat_args_nodes args = args_few args in
      let k : flat_calls body + 4 * flat_control body ≤ 5 * flat_nodes body = stmts_few body in omega arith
  value_few (LostFlat args) = let h : flat_args_calls args + 4 * flat_args_control args ≤ 5 * flat_args_nodes args = args_few args in omega arith
  value_few (BuiltinFlat which unsigned args) = let h : flat_args_calls args + 4 * flat_args_control args ≤ 5 * flat_args_nodes args = args_few args in omega arith
  value_few (ParenFlat part) = let h : flat_expr_calls part + 4 * flat_expr_control part ≤ 5 * flat_expr_nodes part = value_few part in omega arith

  pub args_few : (args : FlatArgs) → flat_args_calls args + 4 * flat_args_control args ≤ 5 * flat_args_nodes args
  args_few NoFlatArgs = omega arith
  args_few (NumberArg e binding more) =
      let h : flat_expr_calls e + 4 * flat_expr_control e ≤ 5 * flat_expr_nodes e = value_few e in
      let k : flat_args_calls more + 4 * flat_args_control more ≤ 5 * flat_args_nodes more = args_few more in omega arith
  args_few (NamedArg array more) = let h : flat_args_calls more + 4 * flat_args_control more ≤ 5 * flat_args_nodes more = args_few more in omega arith

  pub right_few : (value : FlatValue) → flat_value_calls value + 4 * flat_value_control value ≤ 5 * flat_value_nodes value
  right_few NoFlat = omega arith
  right_few (SomeFlat e) = value_few e

  pub stmt_few : (s : FlatStmt) → flat_stmt_calls s + 4 * flat_stmt_control s ≤ 5 * flat_stmt_nodes s
  stmt_few (DeclareFlat variable elem value) =
      let h : flat_value_calls value + 4 * flat_value_control value ≤ 5 * flat_value_nodes value = right_few value in omega arith
  stmt_few (LocalArrayFlat array count) =
      let h : flat_expr_calls count + 4 * flat_expr_control count ≤ 5 * flat_expr_nodes count = value_few count in omega arith
  stmt_few (SetVariableFlat variable elem op unsigned value) =
      let h : flat_value_calls value + 4 * flat_value_control value ≤ 5 * flat_value_nodes value = right_few value in omega arith
  stmt_few (SetElementFlat array elem place op unsigned value pos) =
      let h : flat_expr_calls place + 4 * flat_expr_control place ≤ 5 * flat_expr_nodes place = value_few place in
      let k : flat_value_calls value + 4 * flat_value_control value ≤ 5 * flat_value_nodes value = right_few value in omega arith
  stmt_few (CallStmtFlat call) = value_few call
  stmt_few (BarrierFlat site) = omega arith
  stmt_few (IfFlat test one) =
      let h : flat_expr_calls test + 4 * flat_expr_control test ≤ 5 * flat_expr_nodes test = value_few test in
      let k : flat_stmt_calls one + 4 * flat_stmt_control one ≤ 5 * flat_stmt_nodes one = stmt_few one in omega arith
  stmt_few (IfElseFlat test one other) =
      let h : flat_expr_calls test + 4 * flat_expr_control test ≤ 5 * flat_expr_nodes test = value_few test in
      let k : flat_stmt_calls one + 4 * flat_stmt_control one ≤ 5 * flat_stmt_nodes one = stmt_few one in
      let j : flat_stmt_calls other + 4 * flat_stmt_control other ≤ 5 * flat_stmt_nodes other = stmt_few other in omega arith
  stmt_few (WhileFlat test body) =
      let h : flat_expr_calls test + 4 * flat_expr_control test ≤ 5 * flat_expr_nodes test = value_few test in
      let k : flat_stmt_calls body + 4 * flat_stmt_control body ≤ 5 * flat_stmt_nodes body = stmt_few body in omega arith
  stmt_few (DoFlat body test) =
      let h : flat_expr_calls test + 4 * flat_expr_control test ≤ 5 * flat_expr_nodes test = value_few test in
      let k : flat_stmt_calls body + 4 * flat_stmt_control body ≤ 5 * flat_stmt_nodes body = stmt_few body in omega arith
  stmt_few (ForFlat first test st body) =
      let h : flat_calls first + 4 * flat_control first ≤ 5 * flat_nodes first = stmts_few first in
      let k : flat_value_calls test + 4 * flat_value_control test ≤ 5 * flat_value_nodes test = right_few test in
      let j : flat_calls st + 4 * flat_control st ≤ 5 * flat_nodes st = stmts_few st in
      let i : flat_stmt_calls body + 4 * flat_stmt_control body ≤ 5 * flat_stmt_nodes body = stmt_few body in omega arith
  stmt_few BreakFlat = omega arith
  stmt_few ContinueFlat = omega arith
  stmt_few (ReturnFlat gives value) =
      let h : flat_value_calls value + 4 * flat_value_control value ≤ 5 * flat_value_nodes value = right_few value in omega arith
  stmt_few (BlockFlat items) = stmts_few items
  stmt_few EmptyFlat = omega arith

  pub stmts_few : (ss : FlatStmts) → flat_calls ss + 4 * flat_control ss ≤ 5 * flat_nodes ss
  stmts_few NoFlats = omega arith
  stmts_few (AndFlat s ss) =
      let h : flat_stmt_calls s + 4 * flat_stmt_control s ≤ 5 * flat_stmt_nodes s = stmt_few s in
      let k : flat_calls ss + 4 * flat_control ss ≤ 5 * flat_nodes ss = stmts_few ss in omega arith
