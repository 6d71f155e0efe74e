-- Which variables of a structured kernel have the same value in all work-items of a group that stand at the same place: the greatest set
-- that is closed under what operations write.
use Rattle.std.specs.Prelude.{◌≡◌, ℕ, ◌<◌, Bool, true, false, ◌&&◌, List, slice_get, slice_index_or, Option, None, Some}
use Rattle.vx_base.specs.declared.types.ParamKind.{ParamKind}
use Rattle.vx_base.specs.declared.types.ParamKind.TheVariants.{Scalar, Pointer}
use Rattle.vx_base.specs.declared.types.Space.{Space}
use Rattle.vx_base.specs.declared.types.Space.TheVariants.{Constant}
use Rattle.ocl_ast.specs.declared.units.Param.{Param}
use Rattle.ocl_program.specs.declared.exprs.ArrayRef.{ArrayRef}
use Rattle.ocl_program.specs.declared.exprs.ArrayRef.TheVariants.{Parameter, Declared}
use Rattle.ocl_program.specs.declared.exprs.Builtin.{Builtin}
use Rattle.ocl_program.specs.declared.exprs.Builtin.TheVariants.{WorkDim, GlobalId, LocalId}
use Rattle.kir.specs.Trees.{Operand, VariableOf, NumberOf, Op, Set, Calculate, Fit, Id, Load, If, Loop, Call, Ops, NoOps, AndOp, KirCode}

-- ---- values

-- whether a value is a number or a marked variable
abbrev pub is_uniform : (ℕ → Bool) → Operand → Bool
is_uniform marks (VariableOf k) = marks k
is_uniform marks (NumberOf n) = true

abbrev pub are_uniform : (ℕ → Bool) → Operand → Operand → Bool
are_uniform marks a b = is_uniform marks a && is_uniform marks b

-- whether an array is a `__constant` one (OpenCL C 1.2, section 6.5.3): nothing stores to it
abbrev pub is_constant_space : Space → Bool
is_constant_space Constant = true
is_constant_space other = false

abbrev pub is_constant_kind : ParamKind → Bool
is_constant_kind (Scalar elem) = false
is_constant_kind (Pointer space elem readonly) = is_constant_space space

abbrev pub is_constant_param : Option Param → Bool
is_constant_param None = false
is_constant_param (Some param) = is_constant_kind param.kind

abbrev pub is_constant : List Param → ArrayRef → Bool
is_constant params (Parameter k) = is_constant_param (slice_get params k)
is_constant params (Declared k) = false

-- Whether a built-in function gives the same to all items of a group, by whether its dimension is the same (OpenCL C 1.2, section
-- 6.12.1). The number of dimensions is of none.
abbrev pub is_of_group : Builtin → Bool → Bool
is_of_group WorkDim same = true
is_of_group GlobalId same = false
is_of_group LocalId same = false
is_of_group other same = same

-- ---- operations

-- Whether what an operation writes is the same for all items of a group that do it: it is made of numbers, marked variables, what the
-- group knows of its launch, and elements of `__constant` arrays.
abbrev pub gives_uniform : List Param → (ℕ → Bool) → Op → Bool
gives_uniform params marks (Set d a) = is_uniform marks a
gives_uniform params marks (Calculate d op a b) = are_uniform marks a b
gives_uniform params marks (Fit d elem a) = is_uniform marks a
gives_uniform params marks (Id d which a) = is_of_group which (is_uniform marks a)
gives_uniform params marks (Load d array elem a) = is_constant params array && is_uniform marks a
gives_uniform params marks other = true

-- the variable that an operation writes
abbrev pub target : Op → Option ℕ
target (Set d a) = Some d
target (Calculate d op a b) = Some d
target (Fit d elem a) = Some d
target (Id d which a) = Some d
target (Load d array elem a) = Some d
target other = None

-- a variable that is marked is written only where this holds
abbrev pub OnlyIf : Bool → (ℕ → Bool) → Option ℕ → Type 0
OnlyIf may marks None = Unit {0}
OnlyIf may marks (Some d) = marks d ≡ true → may ≡ true

-- ---- closed sets

-- Each operation that writes a marked variable gives the same to all items of a group, and stands in no branch and no loop whose test is
-- not marked. `same` says that none stands round these operations.
abbrev mutual
  pub AreClosed : List Param → (ℕ → Bool) → Bool → Ops → Type 0
  AreClosed params marks same NoOps = Unit {0}
  AreClosed params marks same (AndOp op ops) = OpClosed params marks same op × AreClosed params marks same ops

  pub OpClosed : List Param → (ℕ → Bool) → Bool → Op → Type 0
  OpClosed params marks same (If test one other) =
      AreClosed params marks (same && is_uniform marks test) one × AreClosed params marks (same && is_uniform marks test) other
  OpClosed params marks same (Loop head test body step) =
      AreClosed params marks (same && is_uniform marks test) head
      × AreClosed params marks (same && is_uniform marks test) body
      × AreClosed params marks (same && is_uniform marks test) step
  OpClosed params marks same (Call body) = AreClosed params marks same body
  OpClosed params marks same other = OnlyIf (same && gives_uniform params marks other) marks (target other)

-- the same of a kernel's variables
pub record IsClosed (code : KirCode) (marks : ℕ → Bool) : Type 0 where
  pub inside : (k : ℕ) → marks k ≡ true → k < code.variables
  pub closed : AreClosed code.params marks true code.ops

-- each variable that is marked in one way is marked in the other
abbrev pub AreWithin : (ℕ → Bool) → (ℕ → Bool) → Type 0
AreWithin few many = (k : ℕ) → few k ≡ true → many k ≡ true

-- the marks are closed, and every closed set is within them
pub record AreGreatest (code : KirCode) (marks : ℕ → Bool) : Type 0 where
  pub closed : IsClosed code marks
  pub greatest : (others : ℕ → Bool) → IsClosed code others → AreWithin others marks

-- the marks that a list holds; what is behind it is not marked
abbrev pub marked : List Bool → ℕ → Bool
marked marks k = slice_index_or marks k false
