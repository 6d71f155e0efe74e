-- What the flat kernel of a program has, and not every tree of its kind: it is typed, and its numbers are words.
use Rattle.std.specs.Prelude.{ℕ, zero, suc, ◌<◌, ◌≤◌, ◌^◌, List, count_by}
use Rattle.vx_base.specs.declared.types.Elem.{Elem}
use Rattle.vx_base.specs.declared.types.ParamKind.{ParamKind}
use Rattle.vx_base.specs.declared.types.ParamKind.TheVariants.{Scalar, Pointer}
use Rattle.ocl_ast.specs.declared.units.Param.{Param}
use Rattle.ocl_program.specs.declared.functions.LocalArray.{LocalArray}
use Rattle.ocl_sem.specs.Source.{is_scalar}
use Rattle.ocl_types.specs.Exprs.{arity}
pub use Rattle.kir.specs.Typing.{KindHas, ParamHas, DeclaredHas, HasElem, KindWritten, ParamWritten, IsWritten}
use Rattle.ocl_inline.specs.declared.trees.Binding.{Binding}
use Rattle.ocl_inline.specs.declared.trees.Binding.TheVariants.{Variable as ToVariable, Dropped}
use Rattle.ocl_inline.specs.Trees.{FlatValue, NoFlat, SomeFlat, FlatExpr, NumberFlat, VariableFlat, UnaryFlat, BinaryFlat, BothFlat, EitherFlat, ChooseFlat, CastFlat, LoadFlat, CallFlat, LostFlat, BuiltinFlat, ParenFlat, FlatArgs, NoFlatArgs, NumberArg, NamedArg, FlatStmt, DeclareFlat, LocalArrayFlat, SetVariableFlat, SetElementFlat, CallStmtFlat, IfFlat, IfElseFlat, WhileFlat, DoFlat, ForFlat, ReturnFlat, BlockFlat, FlatStmts, NoFlats, AndFlat, FlatKernel}

-- ---- arguments

-- so many arguments, all of them values
abbrev pub AreValues : ℕ → FlatArgs → Type 0
AreValues zero NoFlatArgs = Unit {0}
AreValues (suc n) (NumberArg e binding more) = AreValues n more
AreValues n other = ⊥

-- an argument goes into one of so many variables
abbrev pub IsBound : ℕ → Binding → Type 0
IsBound count (ToVariable variable elem) = variable < count
IsBound count Dropped = Unit {0}

-- ---- trees whose numbers are words

abbrev mutual
  pub ExprWords : FlatExpr → Type 0
  ExprWords (NumberFlat n unsigned) = n < 2 ^ 32
  ExprWords (VariableFlat k) = Unit {0}
  ExprWords (UnaryFlat op part) = ExprWords part
  ExprWords (BinaryFlat op unsigned left right) = ExprWords left × ExprWords right
  ExprWords (BothFlat left right) = ExprWords left × ExprWords right
  ExprWords (EitherFlat left right) = ExprWords left × ExprWords right
  ExprWords (ChooseFlat unsigned test one other) = ExprWords test × ExprWords one × ExprWords other
  ExprWords (CastFlat elem part) = ExprWords part
  ExprWords (LoadFlat array elem place pos) = ExprWords place
  ExprWords (CallFlat args body) = ArgsWords args × StmtsWords body
  ExprWords (LostFlat args) = ArgsWords args
  ExprWords (BuiltinFlat which unsigned args) = ArgsWords args
  ExprWords (ParenFlat part) = ExprWords part

  pub ValueWords : FlatValue → Type 0
  ValueWords NoFlat = Unit {0}
  ValueWords (SomeFlat e) = ExprWords e

  pub ArgsWords : FlatArgs → Type 0
  ArgsWords NoFlatArgs = Unit {0}
  ArgsWords (NumberArg e binding more) = ExprWords e × ArgsWords more
  ArgsWords (NamedArg array more) = ArgsWords more

  pub StmtWords : FlatStmt → Type 0
  StmtWords (DeclareFlat variable elem value) = ValueWords value
  StmtWords (LocalArrayFlat array size) = ExprWords size
  StmtWords (SetVariableFlat variable elem op unsigned value) = ValueWords value
  StmtWords (SetElementFlat array elem place op unsigned value pos) = ExprWords place × ValueWords value
  StmtWords (CallStmtFlat call) = ExprWords call
  StmtWords (IfFlat test one) = ExprWords test × StmtWords one
  StmtWords (IfElseFlat test one other) = ExprWords test × StmtWords one × StmtWords other
  StmtWords (WhileFlat test body) = ExprWords test × StmtWords body
  StmtWords (DoFlat body test) = StmtWords body × ExprWords test
  StmtWords (ForFlat first test step body) = StmtsWords first × ValueWords test × StmtsWords step × StmtWords body
  StmtWords (ReturnFlat gives value) = ValueWords value
  StmtWords (BlockFlat items) = StmtsWords items
  StmtWords other = Unit {0}

  pub StmtsWords : FlatStmts → Type 0
  StmtsWords NoFlats = Unit {0}
  StmtsWords (AndFlat s ss) = StmtWords s × StmtsWords ss

-- ---- trees that are typed: variables are numbered below their count, accesses are by the type of the elements, and built-in functions
-- have their arguments

abbrev mutual
  pub TypedExpr : List Param → List LocalArray → ℕ → FlatExpr → Type 0
  TypedExpr params arrays count (NumberFlat n unsigned) = Unit {0}
  TypedExpr params arrays count (VariableFlat k) = k < count
  TypedExpr params arrays count (UnaryFlat op part) = TypedExpr params arrays count part
  TypedExpr params arrays count (BinaryFlat op unsigned left right) = TypedExpr params arrays count left × TypedExpr params arrays count right
  TypedExpr params arrays count (BothFlat left right) = TypedExpr params arrays count left × TypedExpr params arrays count right
  TypedExpr params arrays count (EitherFlat left right) = TypedExpr params arrays count left × TypedExpr params arrays count right
  TypedExpr params arrays count (ChooseFlat unsigned test one other) =
      TypedExpr params arrays count test × TypedExpr params arrays count one × TypedExpr params arrays count other
  TypedExpr params arrays count (CastFlat elem part) = TypedExpr params arrays count part
  TypedExpr params arrays count (LoadFlat array elem place pos) = HasElem params arrays array elem × TypedExpr params arrays count place
  TypedExpr params arrays count (CallFlat args body) = TypedArgs params arrays count args × TypedStmts params arrays count body
  TypedExpr params arrays count (LostFlat args) = Unit {0}
  TypedExpr params arrays count (BuiltinFlat which unsigned args) = AreValues (arity which) args × TypedArgs params arrays count args
  TypedExpr params arrays count (ParenFlat part) = TypedExpr params arrays count part

  pub TypedValue : List Param → List LocalArray → ℕ → FlatValue → Type 0
  TypedValue params arrays count NoFlat = Unit {0}
  TypedValue params arrays count (SomeFlat e) = TypedExpr params arrays count e

  pub TypedArgs : List Param → List LocalArray → ℕ → FlatArgs → Type 0
  TypedArgs params arrays count NoFlatArgs = Unit {0}
  TypedArgs params arrays count (NumberArg e binding more) = TypedExpr params arrays count e × IsBound count binding × TypedArgs params arrays count more
  TypedArgs params arrays count (NamedArg array more) = TypedArgs params arrays count more

  pub TypedStmt : List Param → List LocalArray → ℕ → FlatStmt → Type 0
  TypedStmt params arrays count (DeclareFlat variable elem value) = (variable < count) × TypedValue params arrays count value
  TypedStmt params arrays count (LocalArrayFlat array size) = Unit {0}
  TypedStmt params arrays count (SetVariableFlat variable elem op unsigned value) = (variable < count) × TypedValue params arrays count value
  TypedStmt params arrays count (SetElementFlat array elem place op unsigned value pos) =
      HasElem params arrays array elem × IsWritten params array × TypedExpr params arrays count place × TypedValue params arrays count value
  TypedStmt params arrays count (CallStmtFlat call) = TypedExpr params arrays count call
  TypedStmt params arrays count (IfFlat test one) = TypedExpr params arrays count test × TypedStmt params arrays count one
  TypedStmt params arrays count (IfElseFlat test one other) =
      TypedExpr params arrays count test × TypedStmt params arrays count one × TypedStmt params arrays count other
  TypedStmt params arrays count (WhileFlat test body) = TypedExpr params arrays count test × TypedStmt params arrays count body
  TypedStmt params arrays count (DoFlat body test) = TypedStmt params arrays count body × TypedExpr params arrays count test
  TypedStmt params arrays count (ForFlat first test step body) =
      TypedStmts params arrays count first × TypedValue params arrays count test × TypedStmts params arrays count step × TypedStmt params arrays count body
  TypedStmt params arrays count (ReturnFlat gives value) = TypedValue params arrays count value
  TypedStmt params arrays count (BlockFlat items) = TypedStmts params arrays count items
  TypedStmt params arrays count other = Unit {0}

  pub TypedStmts : List Param → List LocalArray → ℕ → FlatStmts → Type 0
  TypedStmts params arrays count NoFlats = Unit {0}
  TypedStmts params arrays count (AndFlat s ss) = TypedStmt params arrays count s × TypedStmts params arrays count ss

-- ---- the whole

abbrev pub NumbersAreWords : FlatKernel → Type 0
NumbersAreWords flat = StmtsWords flat.body

-- A kernel's scalar parameters are among its variables.
pub record IsTypedKernel (flat : FlatKernel) : Type 0 where
  pub scalars : count_by is_scalar flat.params ≤ flat.variables
  pub body : TypedStmts flat.params flat.arrays flat.variables flat.body

pub record IsProperKernel (flat : FlatKernel) : Type 0 where
  pub words : NumbersAreWords flat
  pub typed : IsTypedKernel flat
