-- That a flat kernel is typed is a proposition, so that it holds of a kernel of which no more is known than that its program is of some file.
use Rattle.std.proofs.Common.{refl, sym, subst, ℕ, zero, suc, List, Option, None, Some, slice_get}
use Rattle.std.proofs.Math.Bool.{Bool-set}
use Rattle.std.proofs.Math.Bridge.{le_prop}
use Rattle.std.proofs.Math.Logic.{∥∥₁_elim}
use base.Stored.{Coded-set}
use mathlib.Core.HLevel.{×_prop}
use Rattle.vx_base.specs.contracts.types.Elem as elem_contract
use Rattle.vx_base.specs.declared.types.Elem.{Elem}
use Rattle.vx_base.specs.declared.types.ParamKind.{ParamKind}
use Rattle.vx_base.specs.declared.types.ParamKind.TheVariants.{Scalar, Pointer}
use Rattle.ocl_ast.specs.declared.units.Param.{Param}
use Rattle.ocl_program.specs.declared.exprs.ArrayRef.{ArrayRef}
use Rattle.ocl_program.specs.declared.exprs.ArrayRef.TheVariants.{Parameter, Declared}
use Rattle.ocl_program.specs.declared.functions.LocalArray.{LocalArray}
use Rattle.ocl_program.specs.Nodes.{FunctionNode}
use Rattle.ocl_types.specs.Exprs.{arity}
use Rattle.ocl_types.specs.Functions.{IsProgram}
use Rattle.ocl_inline.specs.declared.trees.Binding.{Binding}
use Rattle.ocl_inline.specs.declared.trees.Binding.TheVariants.{Variable as ToVariable, Dropped}
use Rattle.ocl_inline.specs.Expansion.{kernel_flat}
use Rattle.ocl_inline.specs.FlatLaws.{WhereKernel}
use Rattle.ocl_inline.specs.Trees.{FlatValue, NoFlat, SomeFlat, FlatExpr, NumberFlat, VariableFlat, UnaryFlat, BinaryFlat, BothFlat, EitherFlat, ChooseFlat, CastFlat, LoadFlat, CallFlat, LostFlat, BuiltinFlat, ParenFlat, FlatArgs, NoFlatArgs, NumberArg, NamedArg, FlatStmt, DeclareFlat, LocalArrayFlat, SetVariableFlat, SetElementFlat, CallStmtFlat, BarrierFlat, IfFlat, IfElseFlat, WhileFlat, DoFlat, ForFlat, BreakFlat, ContinueFlat, ReturnFlat, BlockFlat, EmptyFlat, FlatStmts, NoFlats, AndFlat, FlatKernel}
use Rattle.ocl_inline.proofs.KernelLaws.{IsFlatOf}
use Rattle.ocl_inline.specs.Proper.{AreValues, DeclaredHas, HasElem, IsBound, IsTypedKernel, IsWritten, KindHas, KindWritten, ParamHas, ParamWritten, TypedArgs, TypedExpr, TypedStmt, TypedStmts, TypedValue}
use Rattle.flat_typing.proofs.Kernels.{kernel_typed}

elem_set : IsSet Elem
elem_set = Coded-set elem_contract.the_row.coded

-- ---- products

three : {A B C : Type 0} → IsProp A → IsProp B → IsProp C → IsProp (A × B × C)
three a b c = λ x y i. (a x.0 y.0 i, b x.1 y.1 i, c x.2 y.2 i)

four : {A B C D : Type 0} → IsProp A → IsProp B → IsProp C → IsProp D → IsProp (A × B × C × D)
four a b c d = λ x y i. (a x.0 y.0 i, b x.1 y.1 i, c x.2 y.2 i, d x.3 y.3 i)

truth : IsProp (Unit {0})
truth = λ x y. refl

falsity : IsProp ⊥
falsity = λ x y. absurd x

-- ---- accesses and arguments

kind_has : (kind : ParamKind) (elem : Elem) → IsProp (KindHas kind elem)
kind_has (Scalar elem') elem = truth
kind_has (Pointer space elem' readonly) elem = elem_set elem' elem

param_has : (param : Option Param) (elem : Elem) → IsProp (ParamHas param elem)
param_has None elem = truth
param_has (Some param) elem = kind_has param.kind elem

declared_has : (array : Option LocalArray) (elem : Elem) → IsProp (DeclaredHas array elem)
declared_has None elem = truth
declared_has (Some array) elem = elem_set array.elem elem

has_elem : (params : List Param) (arrays : List LocalArray) (array : ArrayRef) (elem : Elem) → IsProp (HasElem params arrays array elem)
has_elem params arrays (Parameter k) elem = param_has (slice_get params k) elem
has_elem params arrays (Declared k) elem = declared_has (slice_get arrays k) elem

kind_written : (kind : ParamKind) → IsProp (KindWritten kind)
kind_written (Scalar elem) = truth
kind_written (Pointer space elem readonly) = Bool-set _ _

param_written : (param : Option Param) → IsProp (ParamWritten param)
param_written None = truth
param_written (Some param) = kind_written param.kind

written : (params : List Param) (array : ArrayRef) → IsProp (IsWritten params array)
written params (Parameter k) = param_written (slice_get params k)
written params (Declared k) = truth

values : (n : ℕ) (args : FlatArgs) → IsProp (AreValues n args)
values zero NoFlatArgs = truth
values zero (NumberArg e binding more) = falsity
values zero (NamedArg array more) = falsity
values (suc n) NoFlatArgs = falsity
values (suc n) (NumberArg e binding more) = values n more
values (suc n) (NamedArg array more) = falsity

bound : (count : ℕ) (binding : Binding) → IsProp (IsBound count binding)
bound count (ToVariable variable elem) = le_prop
bound count Dropped = truth

-- ---- trees

mutual
  expr_prop : (params : List Param) (arrays : List LocalArray) (count : ℕ) (e : FlatExpr) → IsProp (TypedExpr params arrays count e)
  expr_prop params arrays count (NumberFlat n unsigned) = truth
  expr_prop params arrays count (VariableFlat k) = le_prop
  expr_prop params arrays count (UnaryFlat op part) = expr_prop params arrays count part
  expr_prop params arrays count (BinaryFlat op unsigned left right) = ×_prop (expr_prop params arrays count left) (expr_prop params arrays count right)
  expr_prop params arrays count (BothFlat left right) = ×_prop (expr_prop params arrays count left) (expr_prop params arrays count right)
  expr_prop params arrays count (EitherFlat left right) = ×_prop (expr_prop params arrays count left) (expr_prop params arrays count right)
  expr_prop params arrays count (ChooseFlat unsigned test one other) = three (expr_prop params arrays count test) (expr_prop params arrays count one) (expr_prop params arrays count other)
  expr_prop params arrays count (CastFlat elem part) = expr_prop params arrays count part
  expr_prop params arrays count (LoadFlat array elem place pos) = ×_prop (has_elem params arrays array elem) (expr_prop params arrays count place)
  expr_prop params arrays count (CallFlat args body) = ×_prop (args_prop params arrays count args) (stmts_prop params arrays count body)
  expr_prop params arrays count (LostFlat args) = truth
  expr_prop params arrays count (BuiltinFlat which unsigned args) = ×_prop (values (arity which) args) (args_prop params arrays count args)
  expr_prop params arrays count (ParenFlat part) = expr_prop params arrays count part

  value_prop : (params : List Param) (arrays : List LocalArray) (count : ℕ) (value : FlatValue) → IsProp (TypedValue params arrays count value)
  value_prop params arrays count NoFlat = truth
  value_prop params arrays count (SomeFlat e) = expr_prop params arrays count e

  args_prop : (params : List Param) (arrays : List LocalArray) (count : ℕ) (args : FlatArgs) → IsProp (TypedArgs params arrays count args)
  args_prop params arrays count NoFlatArgs = truth
  args_prop params arrays count (NumberArg e binding more) = three (expr_prop params arrays count e) (bound count binding) (args_prop params arrays count more)
  args_prop params arrays count (NamedArg array more) = args_prop params arrays count more

  stmt_prop : (params : List Param) (arrays : List LocalArray) (count : ℕ) (s : FlatStmt) → IsProp (TypedStmt params arrays count s)
  stmt_prop params arrays count (DeclareFlat variable elem value) = ×_prop le_prop (value_prop params arrays count value)
  stmt_prop params arrays count (LocalArrayFlat array size) = truth
  stmt_prop params arrays count (SetVariableFlat variable elem op unsigned value) = ×_prop le_prop (value_prop params arrays count value)
  stmt_prop params arrays count (SetElementFlat array elem place op unsigned value pos) =
      four (has_elem params arrays array elem) (written params array) (expr_prop params arrays count place) (value_prop params arrays count value)
  stmt_prop params arrays count (CallStmtFlat call) = expr_prop params arrays count call
  stmt_prop params arrays count (BarrierFlat site) = truth
  stmt_prop params arrays count (IfFlat test one) = ×_prop (expr_prop params arrays count test) (stmt_prop params arrays count one)
  stmt_prop params arrays count (IfElseFlat test one other) = three (expr_prop params arrays count test) (stmt_prop params arrays count one) (stmt_prop params arrays count other)
  stmt_prop params arrays count (WhileFlat test body) = ×_prop (expr_prop params arrays count test) (stmt_prop params arrays count body)
  stmt_prop params arrays count (DoFlat body test) = ×_prop (stmt_prop params arrays count body) (expr_prop params arrays count test)
  stmt_prop params arrays count (ForFlat first test step body) =
      four (stmts_prop params arrays count first) (value_prop params arrays count test) (stmts_prop params arrays count step) (stmt_prop params arrays count body)
  stmt_prop params arrays count BreakFlat = truth
  stmt_prop params arrays count ContinueFlat = truth
  stmt_prop params arrays count (ReturnFlat gives value) = value_prop params arrays count value
  stmt_prop params arrays count (BlockFlat items) = stmts_prop params arrays count items
  stmt_prop params arrays count EmptyFlat = truth

  stmts_prop : (params : List Param) (arrays : List LocalArray) (count : ℕ) (ss : FlatStmts) → IsProp (TypedStmts params arrays count ss)
  stmts_prop params arrays count NoFlats = truth
  stmts_prop params arrays count (AndFlat s ss) = ×_prop (stmt_prop params arrays count s) (stmts_prop params arrays count ss)

pub typed_prop : (flat : FlatKernel) → IsProp (IsTypedKernel flat)
typed_prop flat = λ x y i. record {
  scalars = le_prop x.scalars y.scalars i;
  body = stmts_prop flat.params flat.arrays flat.variables flat.body x.body y.body i;
}

-- the flat form of a kernel of a program that is of some file
pub held_typed : (program : List FunctionNode) → ∥ IsProgram program ∥₁ → (number : ℕ) (flat : FlatKernel) → IsFlatOf program number flat → WhereKernel program number (IsTypedKernel flat)
held_typed program typed number flat is kernel here marked =
    subst IsTypedKernel (sym (is kernel here))
    (∥∥₁_elim typed (typed_prop (kernel_flat program number kernel)) (λ of_file. kernel_typed program of_file number kernel here marked))
