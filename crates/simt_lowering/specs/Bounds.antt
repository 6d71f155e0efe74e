-- How large lowered code is: its words, its registers, its places.
use Rattle.std.specs.Prelude.{◌≡◌, ℕ, suc, ◌+◌, ◌*◌, ◌<◌, ◌≤◌, ◌^◌, Bool, List, [], ◌∷◌, length, slice_get, Some}
use Rattle.vx_base.specs.declared.types.ParamKind.{ParamKind}
use Rattle.vx_base.specs.declared.types.ParamKind.TheVariants.{Scalar, Pointer}
use Rattle.ocl_ast.specs.declared.units.Param.{Param}
use Rattle.ocl_program.specs.declared.functions.LocalArray.{LocalArray}
use Rattle.kir.specs.Loops.{loop_nesting}
use Rattle.kir.specs.Numbered.{AreBelow, IsBelow}
use Rattle.kir.specs.Trees.{KirCode}
use Rattle.kir.specs.Weights.{weight}
use Rattle.vcode.specs.Code.{VOp, Copy, Compute, Cut, Word, WordAt, Learn, Fetch, Write, IfZero, IfNot, Goto, Split, Pred, Tmc, Wspawn, Leaves, Again}
use Rattle.vcode.specs.Words.{words}
use Rattle.simt_lowering.specs.Lowered.{kernel_code, registers_for}

-- words of machine code: of the first operations and the last one, of each register, of each parameter, and of the operations
abbrev pub most_words : KirCode → ℕ
most_words code = 166 + (registers_for code.variables (loop_nesting code.ops) + (2 * length code.params + weight code.ops))

abbrev pub WordsWithin : Type 0
WordsWithin = (code : KirCode) (marks : ℕ → Bool) → words (kernel_code marks code) ≤ most_words code

-- an operation that names registers below a count, numbers that are words, and words of the launch block that it has
abbrev pub OpWithin : ℕ → VOp → Type 0
OpWithin n (Copy d a) = (d < n) × IsBelow n a
OpWithin n (Compute d op a b) = (d < n) × IsBelow n a × IsBelow n b
OpWithin n (Cut d elem a) = (d < n) × IsBelow n a
OpWithin n (Word d k) = (d < n) × (k < 64)
OpWithin n (WordAt d a k) = (d < n) × IsBelow n a × (k < 64)
OpWithin n (Learn d csr) = d < n
OpWithin n (Fetch d elem a) = (d < n) × IsBelow n a
OpWithin n (Write elem a b) = IsBelow n a × IsBelow n b
OpWithin n (IfZero a q) = IsBelow n a
OpWithin n (IfNot a q) = IsBelow n a
OpWithin n (Split a) = IsBelow n a
OpWithin n (Pred a m) = IsBelow n a × (m < n)
OpWithin n (Tmc a) = IsBelow n a
OpWithin n (Wspawn a q) = IsBelow n a
OpWithin n (Leaves a q) = IsBelow n a
OpWithin n other = Unit {0}

abbrev pub AreWithin : ℕ → List VOp → Type 0
AreWithin n [] = Unit {0}
AreWithin n (op ∷ ops) = OpWithin n op × AreWithin n ops

-- how many parameters are scalars
abbrev pub with_scalar : ParamKind → ℕ → ℕ
with_scalar (Scalar elem) n = suc n
with_scalar (Pointer space elem readonly) n = n

abbrev pub scalar_count : List Param → ℕ
scalar_count [] = 0
scalar_count (param ∷ params) = with_scalar param.kind (scalar_count params)

-- What a kernel keeps of the limits of all kernels. Its scalar parameters are its first variables.
pub record IsLimited (code : KirCode) : Type 0 where
  pub params : length code.params ≤ 16
  pub arrays : length code.arrays ≤ 16
  pub scalars : scalar_count code.params ≤ code.variables
  pub counts : (j : ℕ) (array : LocalArray) → slice_get code.arrays j ≡ Some array → array.count < 2 ^ 32
  pub below : AreBelow code.variables code.ops

-- the registers of a kernel are below their count
abbrev pub RegistersWithin : Type 0
RegistersWithin = (code : KirCode) (marks : ℕ → Bool) → IsLimited code → AreWithin (registers_for code.variables (loop_nesting code.ops)) (kernel_code marks code)

-- an operation that leads to places below a count alone
abbrev pub LeadsWithin : ℕ → VOp → Type 0
LeadsWithin n (IfZero a q) = q < n
LeadsWithin n (IfNot a q) = q < n
LeadsWithin n (Goto q) = q < n
LeadsWithin n (Wspawn a q) = q < n
LeadsWithin n (Leaves a q) = q < n
LeadsWithin n (Again q) = q < n
LeadsWithin n other = Unit {0}

abbrev pub LeadWithin : ℕ → List VOp → Type 0
LeadWithin n [] = Unit {0}
LeadWithin n (op ∷ ops) = LeadsWithin n op × LeadWithin n ops

-- each place that an operation of a kernel leads to is one of its places
abbrev pub LeadsToPlaces : Type 0
LeadsToPlaces = (code : KirCode) (marks : ℕ → Bool) → LeadWithin (length (kernel_code marks code)) (kernel_code marks code)
