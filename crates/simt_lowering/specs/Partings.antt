-- What a warp does with its lanes in code, and where it is to: at each test that is not uniform.
use Rattle.std.specs.Prelude.{◌≡◌, ℕ, suc, Bool, true, false, List, [], ◌∷◌}
use Rattle.kir.specs.Trees.{Operand, Op, Check, If, Loop, Ops, NoOps, AndOp, KirCode}
use Rattle.kir.specs.Loops.{loop_nesting}
use Rattle.vcode.specs.declared.ops.Csr.{Csr}
use Rattle.vcode.specs.declared.ops.Csr.TheVariants.{MaskNow}
use Rattle.vcode.specs.Code.{VOp, Learn, Split, Join, Pred}
use Rattle.uniformity.specs.Marks.{is_uniform}
use Rattle.simt_lowering.specs.Lowered.{Known, held, further, past, mask_of, one_place, other_place, meet_place, step_place, head_place, body_place, ops_end, op_end, body_start, registers_for, kernel_code}
use Rattle.simt_lowering.specs.Kept.{known_of_kernel}

-- The warp parts at a place by an operand, and meets again; the lanes that are active are kept in a register, and only some go on.
pub data Parting : Type 0 where
  Parts : ℕ → Operand → Parting
  Meets : ℕ → Parting
  Keeps : ℕ → ℕ → Parting
  Goes : ℕ → Operand → ℕ → Parting

abbrev pub learns : ℕ → ℕ → Csr → List Parting → List Parting
learns p m MaskNow ps = Keeps p m ∷ ps
learns p m other ps = ps

-- what the warp does with its lanes in operations from a place on
abbrev pub partings : ℕ → List VOp → List Parting
partings p [] = []
partings p (Split a ∷ c) = Parts p a ∷ partings (suc p) c
partings p (Join ∷ c) = Meets p ∷ partings (suc p) c
partings p (Learn m csr ∷ c) = learns p m csr (partings (suc p) c)
partings p (Pred a m ∷ c) = Goes p a m ∷ partings (suc p) c
partings p (op ∷ c) = partings (suc p) c

-- one of them, unless a test is uniform
abbrev pub unless : Bool → Parting → List Parting → List Parting
unless true one ps = ps
unless false one ps = one ∷ ps

-- What it is to do in operations from a place on, within so many loops: at each branch and each check whose test is not uniform it parts and
-- meets again, and at each such loop it keeps its lanes, and only some go on.
abbrev mutual
  pub tests : Known → ℕ → Ops → ℕ → List Parting → List Parting
  tests k depth NoOps p ps = ps
  tests k depth (AndOp op ops) p ps = op_tests k depth op p (tests k depth ops (op_end k.marks op p) ps)

  pub op_tests : Known → ℕ → Op → ℕ → List Parting → List Parting
  op_tests k depth (Check array a pos) p ps =
      unless (is_uniform k.marks a) (Parts (further 2 p) (held k 0))
      (unless (is_uniform k.marks a) (Meets (further 2 (past (is_uniform k.marks a) (further 2 p)))) ps)
  op_tests k depth (If t one other) p ps =
      unless (is_uniform k.marks t) (Parts p t)
      (tests k depth one (one_place (is_uniform k.marks t) p)
      (tests k depth other (other_place (is_uniform k.marks t) (record { end = ops_end k.marks one; code = λ q c. c }) p)
      (unless (is_uniform k.marks t) (Meets (meet_place (is_uniform k.marks t) (record { end = ops_end k.marks one; code = λ q c. c }) (record { end = ops_end k.marks other; code = λ q c. c }) p)) ps)))
  op_tests k depth (Loop head t body step) p ps =
      unless (is_uniform k.marks t) (Keeps (suc p) (mask_of k depth))
      (tests k (suc depth) step (step_place (is_uniform k.marks t) p)
      (tests k (suc depth) head (head_place (is_uniform k.marks t) (record { end = ops_end k.marks step; code = λ q c. c }) p)
      (unless (is_uniform k.marks t)
      (Goes (ops_end k.marks head (head_place (is_uniform k.marks t) (record { end = ops_end k.marks step; code = λ q c. c }) p)) t (mask_of k depth))
      (tests k (suc depth) body
      (body_place (is_uniform k.marks t) (record { end = ops_end k.marks step; code = λ q c. c }) (record { end = ops_end k.marks head; code = λ q c. c }) p) ps))))
  op_tests k depth other p ps = ps

-- These operations do so exactly at the tests of a kernel.
abbrev pub PartsAt : KirCode → (ℕ → Bool) → List VOp → Type 0
PartsAt code marks ops =
    partings 0 ops ≡ tests (known_of_kernel marks code) 0 code.ops (body_start code.params (registers_for code.variables (loop_nesting code.ops))) []

-- the law: those of the kernel do
abbrev pub PartsAtTests : Type 0
PartsAtTests = (code : KirCode) (marks : ℕ → Bool) → PartsAt code marks (kernel_code marks code)
