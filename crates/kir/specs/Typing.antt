-- Operations whose loads and stores are by the type of their array's elements, with no store to an array that may not be changed. An
-- array that is not there has no elements, so nothing is asked of it.
use Rattle.std.specs.Prelude.{◌≡◌, true, List, slice_get, Option, None, Some}
use Rattle.vx_base.specs.declared.types.Elem.{Elem}
use Rattle.vx_base.specs.declared.types.ParamKind.{ParamKind}
use Rattle.vx_base.specs.declared.types.ParamKind.TheVariants.{Scalar, Pointer}
use Rattle.ocl_ast.specs.declared.units.Param.{Param}
use Rattle.ocl_program.specs.declared.exprs.ArrayRef.{ArrayRef}
use Rattle.ocl_program.specs.declared.exprs.ArrayRef.TheVariants.{Parameter, Declared}
use Rattle.ocl_program.specs.declared.functions.LocalArray.{LocalArray}
use Rattle.item_settings.specs.Settings.{is_writable}
use Rattle.kir.specs.Trees.{Op, Load, Store, If, Loop, Call, Ops, NoOps, AndOp}

-- ---- arrays

-- elements of the array that is named so have this type
abbrev pub KindHas : ParamKind → Elem → Type 0
KindHas (Scalar elem') elem = Unit {0}
KindHas (Pointer space elem' readonly) elem = elem' ≡ elem

abbrev pub ParamHas : Option Param → Elem → Type 0
ParamHas None elem = Unit {0}
ParamHas (Some param) elem = KindHas param.kind elem

abbrev pub DeclaredHas : Option LocalArray → Elem → Type 0
DeclaredHas None elem = Unit {0}
DeclaredHas (Some array) elem = array.elem ≡ elem

abbrev pub HasElem : List Param → List LocalArray → ArrayRef → Elem → Type 0
HasElem params arrays (Parameter k) elem = ParamHas (slice_get params k) elem
HasElem params arrays (Declared k) elem = DeclaredHas (slice_get arrays k) elem

-- and may be changed
abbrev pub KindWritten : ParamKind → Type 0
KindWritten (Scalar elem) = Unit {0}
KindWritten (Pointer space elem readonly) = is_writable space readonly ≡ true

abbrev pub ParamWritten : Option Param → Type 0
ParamWritten None = Unit {0}
ParamWritten (Some param) = KindWritten param.kind

abbrev pub IsWritten : List Param → ArrayRef → Type 0
IsWritten params (Parameter k) = ParamWritten (slice_get params k)
IsWritten params (Declared k) = Unit {0}

-- ---- operations

-- of a kernel with these parameters and declared arrays
abbrev mutual
  pub AreTyped : List Param → List LocalArray → Ops → Type 0
  AreTyped params arrays NoOps = Unit {0}
  AreTyped params arrays (AndOp op ops) = OpTyped params arrays op × AreTyped params arrays ops

  pub OpTyped : List Param → List LocalArray → Op → Type 0
  OpTyped params arrays (Load d array elem a) = HasElem params arrays array elem
  OpTyped params arrays (Store array elem a b) = HasElem params arrays array elem × IsWritten params array
  OpTyped params arrays (If test one other) = AreTyped params arrays one × AreTyped params arrays other
  OpTyped params arrays (Loop head test body step) = AreTyped params arrays head × AreTyped params arrays body × AreTyped params arrays step
  OpTyped params arrays (Call body) = AreTyped params arrays body
  OpTyped params arrays other = Unit {0}
