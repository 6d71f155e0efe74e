-- A flat tree whose numbers are words and that is typed, both at once.
use Rattle.std.proofs.Common.{ℕ, ◌<◌, ◌^◌, List}
use Rattle.ocl_ast.specs.declared.units.Param.{Param}
use Rattle.ocl_program.specs.declared.functions.LocalArray.{LocalArray}
use Rattle.ocl_inline.specs.Trees.{FlatValue, NoFlat, SomeFlat, FlatExpr, NumberFlat, VariableFlat, UnaryFlat, BinaryFlat, BothFlat, EitherFlat, ChooseFlat, CastFlat, LoadFlat, CallFlat, LostFlat, BuiltinFlat, ParenFlat, FlatArgs, NoFlatArgs, NumberArg, NamedArg, FlatStmt, DeclareFlat, LocalArrayFlat, SetVariableFlat, SetElementFlat, CallStmtFlat, BarrierFlat, IfFlat, IfElseFlat, WhileFlat, DoFlat, ForFlat, BreakFlat, ContinueFlat, ReturnFlat, BlockFlat, EmptyFlat, FlatStmts, NoFlats, AndFlat, FlatKernel}
use Rattle.ocl_inline.specs.Proper.{AreValues, ArgsWords, ExprWords, HasElem, IsBound, IsProperKernel, IsWritten, StmtWords, StmtsWords, TypedArgs, TypedExpr, TypedStmt, TypedStmts, TypedValue, ValueWords}
use Rattle.ocl_types.specs.Exprs.{arity}

abbrev mutual
  pub ProperExpr : List Param → List LocalArray → ℕ → FlatExpr → Type 0
  ProperExpr params arrays count (NumberFlat n unsigned) = n < 2 ^ 32
  ProperExpr params arrays count (VariableFlat k) = k < count
  ProperExpr params arrays count (UnaryFlat op part) = ProperExpr params arrays count part
  ProperExpr params arrays count (BinaryFlat op unsigned left right) = ProperExpr params arrays count left × ProperExpr params arrays count right
  ProperExpr params arrays count (BothFlat left right) = ProperExpr params arrays count left × ProperExpr params arrays count right
  ProperExpr params arrays count (EitherFlat left right) = ProperExpr params arrays count left × ProperExpr params arrays count right
  ProperExpr params arrays count (ChooseFlat unsigned test one other) =
      ProperExpr params arrays count test × ProperExpr params arrays count one × ProperExpr params arrays count other
  ProperExpr params arrays count (CastFlat elem part) = ProperExpr params arrays count part
  ProperExpr params arrays count (LoadFlat array elem place pos) = HasElem params arrays array elem × ProperExpr params arrays count place
  ProperExpr params arrays count (CallFlat args body) = ProperArgs params arrays count args × ProperStmts params arrays count body
  ProperExpr params arrays count (LostFlat args) = Unit {0}
  ProperExpr params arrays count (BuiltinFlat which unsigned args) = AreValues (arity which) args × ProperArgs params arrays count args
  ProperExpr params arrays count (ParenFlat part) = ProperExpr params arrays count part

  pub ProperValue : List Param → List LocalArray → ℕ → FlatValue → Type 0
  ProperValue params arrays count NoFlat = Unit {0}
  ProperValue params arrays count (SomeFlat e) = ProperExpr params arrays count e

  pub ProperArgs : List Param → List LocalArray → ℕ → FlatArgs → Type 0
  ProperArgs params arrays count NoFlatArgs = Unit {0}
  ProperArgs params arrays count (NumberArg e binding more) = ProperExpr params arrays count e × IsBound count binding × ProperArgs params arrays count more
  ProperArgs params arrays count (NamedArg array more) = ProperArgs params arrays count more

  pub ProperStmt : List Param → List LocalArray → ℕ → FlatStmt → Type 0
  ProperStmt params arrays count (DeclareFlat variable elem value) = (variable < count) × ProperValue params arrays count value
  ProperStmt params arrays count (LocalArrayFlat array size) = Unit {0}
  ProperStmt params arrays count (SetVariableFlat variable elem op unsigned value) = (variable < count) × ProperValue params arrays count value
  ProperStmt params arrays count (SetElementFlat array elem place op unsigned value pos) =
      HasElem params arrays array elem × IsWritten params array × ProperExpr params arrays count place × ProperValue params arrays count value
  ProperStmt params arrays count (CallStmtFlat call) = ProperExpr params arrays count call
  ProperStmt params arrays count (IfFlat test one) = ProperExpr params arrays count test × ProperStmt params arrays count one
  ProperStmt params arrays count (IfElseFlat test one other) =
      ProperExpr params arrays count test × ProperStmt params arrays count one × ProperStmt params arrays count other
  ProperStmt params arrays count (WhileFlat test body) = ProperExpr params arrays count test × ProperStmt params arrays count body
  ProperStmt params arrays count (DoFlat body test) = ProperStmt params arrays count body × ProperExpr params arrays count test
  ProperStmt params arrays count (ForFlat first test step body) =
      ProperStmts params arrays count first × ProperValue params arrays count test × ProperStmts params arrays count step × ProperStmt params arrays count body
  ProperStmt params arrays count (ReturnFlat gives value) = ProperValue params arrays count value
  ProperStmt params arrays count (BlockFlat items) = ProperStmts params arrays count items
  ProperStmt params arrays count other = Unit {0}

  pub ProperStmts : List Param → List LocalArray → ℕ → FlatStmts → Type 0
  ProperStmts params arrays count NoFlats = Unit {0}
  ProperStmts params arrays count (AndFlat s ss) = ProperStmt params arrays count s × ProperStmts params arrays count ss

-- ---- both at once

mutual
  expr_proper : (params : List Param) (arrays : List LocalArray) (count : ℕ) (e : FlatExpr) → ExprWords e → TypedExpr params arrays count e → ProperExpr params arrays count e
  expr_proper params arrays count (NumberFlat n unsigned) words typed = words
  expr_proper params arrays count (VariableFlat k) words typed = typed
  expr_proper params arrays count (UnaryFlat op part) words typed = expr_proper params arrays count part words typed
  expr_proper params arrays count (BinaryFlat op unsigned left right) words typed = (expr_proper params arrays count left words.0 typed.0, expr_proper params arrays count right words.1 typed.1)
  expr_proper params arrays count (BothFlat left right) words typed = (expr_proper params arrays count left words.0 typed.0, expr_proper params arrays count right words.1 typed.1)
  expr_proper params arrays count (EitherFlat left right) words typed = (expr_proper params arrays count left words.0 typed.0, expr_proper params arrays count right words.1 typed.1)
  expr_proper params arrays count (ChooseFlat unsigned test one other) words typed =
      (expr_proper params arrays count test words.0 typed.0, expr_proper params arrays count one words.1 typed.1, expr_proper params arrays count other words.2 typed.2)
  expr_proper params arrays count (CastFlat elem part) words typed = expr_proper params arrays count part words typed
  expr_proper params arrays count (LoadFlat array elem place pos) words typed = (typed.0, expr_proper params arrays count place words typed.1)
  expr_proper params arrays count (CallFlat args body) words typed = (args_proper params arrays count args words.0 typed.0, stmts_proper params arrays count body words.1 typed.1)
  expr_proper params arrays count (LostFlat args) words typed = tt
  expr_proper params arrays count (BuiltinFlat which unsigned args) words typed = (typed.0, args_proper params arrays count args words typed.1)
  expr_proper params arrays count (ParenFlat part) words typed = expr_proper params arrays count part words typed

  value_proper : (params : List Param) (arrays : List LocalArray) (count : ℕ) (value : FlatValue) → ValueWords value → TypedValue params arrays count value → ProperValue params arrays count value
  value_proper params arrays count NoFlat words typed = tt
  value_proper params arrays count (SomeFlat e) words typed = expr_proper params arrays count e words typed

  args_proper : (params : List Param) (arrays : List LocalArray) (count : ℕ) (args : FlatArgs) → ArgsWords args → TypedArgs params arrays count args → ProperArgs params arrays count args
  args_proper params arrays count NoFlatArgs words typed = tt
  args_proper params arrays count (NumberArg e binding more) words typed = (expr_proper params arrays count e words.0 typed.0, typed.1, args_proper params arrays count more words.1 typed.2)
  args_proper params arrays count (NamedArg array more) words typed = args_proper params arrays count more words typed

  stmt_proper : (params : List Param) (arrays : List LocalArray) (count : ℕ) (s : FlatStmt) → StmtWords s → TypedStmt params arrays count s → ProperStmt params arrays count s
  stmt_proper params arrays count (DeclareFlat variable elem value) words typed = (typed.0, value_proper params arrays count value words typed.1)
  stmt_proper params arrays count (LocalArrayFlat array size) words typed = tt
  stmt_proper params arrays count (SetVariableFlat variable elem op unsigned value) words typed = (typed.0, value_proper params arrays count value words typed.1)
  stmt_proper params arrays count (SetElementFlat array elem place op unsigned value pos) words typed =
      (typed.0, typed.1, expr_proper params arrays count place words.0 typed.2, value_proper params arrays count value words.1 typed.3)
  stmt_proper params arrays count (CallStmtFlat call) words typed = expr_proper params arrays count call words typed
  stmt_proper params arrays count (BarrierFlat site) words typed = tt
  stmt_proper params arrays count (IfFlat test one) words typed = (expr_proper params arrays count test words.0 typed.0, stmt_proper params arrays count one words.1 typed.1)
  stmt_proper params arrays count (IfElseFlat test one other) words typed =
      (expr_proper params arrays count test words.0 typed.0, stmt_proper params arrays count one words.1 typed.1, stmt_proper params arrays count other words.2 typed.2)
  stmt_proper params arrays count (WhileFlat test body) words typed = (expr_proper params arrays count test words.0 typed.0, stmt_proper params arrays count body words.1 typed.1)
  stmt_proper params arrays count (DoFlat body test) words typed = (stmt_proper params arrays count body words.0 typed.0, expr_proper params arrays count test words.1 typed.1)
  stmt_proper params arrays count (ForFlat first test step body) words typed = (
    stmts_proper params arrays count first words.0 typed.0,
    value_proper params arrays count test words.1 typed.1,
    stmts_proper params arrays count step words.2 typed.2,
    stmt_proper params arrays count body words.3 typed.3,
  )
  stmt_proper params arrays count BreakFlat words typed = tt
  stmt_proper params arrays count ContinueFlat words typed = tt
  stmt_proper params arrays count (ReturnFlat gives value) words typed = value_proper params arrays count value words typed
  stmt_proper params arrays count (BlockFlat items) words typed = stmts_proper params arrays count items words typed
  stmt_proper params arrays count EmptyFlat words typed = tt

  stmts_proper : (params : List Param) (arrays : List LocalArray) (count : ℕ) (ss : FlatStmts) → StmtsWords ss → TypedStmts params arrays count ss → ProperStmts params arrays count ss
  stmts_proper params arrays count NoFlats words typed = tt
  stmts_proper params arrays count (AndFlat s ss) words typed = (stmt_proper params arrays count s words.0 typed.0, stmts_proper params arrays count ss words.1 typed.1)

pub body_proper : (flat : FlatKernel) → IsProperKernel flat → ProperStmts flat.params flat.arrays flat.variables flat.body
body_proper flat proper = stmts_proper flat.params flat.arrays flat.variables flat.body proper.words proper.typed.body
