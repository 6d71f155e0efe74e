-- What the code of the pass holds, as plain data, and parts of what it puts.
use Rattle.std.specs.Prelude.{ℕ, ◌+◌, ◌<◌, ◌≤◌, ◌^◌, Bool, List, ◌∷◌, length}
use Rattle.vx_base.specs.declared.types.Alu.TheVariants.{Sltu}
use Rattle.kir.specs.declared.ops.Op.{Op as HeldOp}
use Rattle.kir.specs.declared.ops.Operand.{Operand as HeldOperand}
use Rattle.kir.specs.Shapes.{operand_of, ops_of}
use Rattle.kir.specs.Trees as kir
use Rattle.kir.specs.Trees.{Operand, Ops}
use Rattle.kir.specs.Loops.{loop_nesting}
use Rattle.uniformity.specs.Marks.{is_uniform, marked}
use Rattle.vcode.specs.Code.{VOp, Fresh, Copy, Compute, Cut, Word, Fetch, Write, Wspawn, Bar}
use Rattle.simt_lowering.specs.declared.known.Known.{Known as HeldKnown}
use Rattle.simt_lowering.specs.Lowered.{Known, Part, held, further, address, body_start, counted, checked, id_code, ids_code, item_lanes, ops_end, own, scalars, zeroed}

-- what is known of a kernel
abbrev pub known_in : HeldKnown → Known
known_in k = record { marks = marked k.marks.now; params = k.params.now; arrays = k.arrays.now; variables = k.variables }

-- a register of the lowering's own, and its value
abbrev pub own_in : HeldKnown → ℕ → ℕ
own_in k i = own (known_in k) i

abbrev pub held_in : HeldKnown → ℕ → Operand
held_in k i = held (known_in k) i

-- The numbers of its own registers are words, and those of the words of the launch block are few.
pub record HasRoom (k : Known) : Type 0 where
  pub registers : k.variables + 8 < 2 ^ 32
  pub params : length k.params ≤ 16
  pub arrays : length k.arrays ≤ 16

-- Operations within so many registers, behind the first ones: their registers and places are words.
pub record HasPlaces (k : Known) (registers : ℕ) (ops : Ops) : Type 0 where
  pub room : HasRoom k
  pub masks : k.variables + (8 + (0 + loop_nesting ops)) < 2 ^ 32
  pub starts : registers + length k.params + 44 < 2 ^ 32
  pub fits : ops_end k.marks ops (body_start k.params registers) < 2 ^ 32

-- where operations end
abbrev pub ends : (ℕ → Bool) → Ops → Part
ends marks ops = record { end = ops_end marks ops; code = λ q c. c }

-- the same of the code's operations, by the marks that it holds
abbrev pub part_of : List Bool → List HeldOp → Part
part_of marks ops = ends (marked marks) (ops_of ops)

-- a branch and a loop of the code's operations
abbrev pub branch_of : HeldOperand → List HeldOp → List HeldOp → kir.Op
branch_of test one other = kir.If (operand_of test) (ops_of one) (ops_of other)

abbrev pub loop_of : List HeldOp → HeldOperand → List HeldOp → List HeldOp → kir.Op
loop_of head test body step = kir.Loop (ops_of head) (operand_of test) (ops_of body) (ops_of step)

-- ---- operations by what they do; what is of another kind comes to nothing

abbrev pub computed : Known → kir.Op → List VOp → List VOp
computed k (kir.Set d a) c = Copy d a ∷ c
computed k (kir.Calculate d op a b) c = Compute d op a b ∷ c
computed k (kir.Fit d elem a) c = Cut d elem a ∷ c
computed k (kir.Id d which a) c = id_code k d which a c
computed k other c = c

abbrev pub accessed : Known → kir.Op → ℕ → List VOp → List VOp
accessed k (kir.Load d array elem a) p c = address k array elem a (Fetch d elem (held k 0) ∷ c)
accessed k (kir.Store array elem a b) p c = address k array elem a (Write elem (held k 0) b ∷ c)
accessed k (kir.Check array a pos) p c = counted k array ∷ Compute (own k 0) Sltu a (held k 0) ∷ checked k (is_uniform k.marks a) pos (further 2 p) c
accessed k (kir.Barrier site) p c = Bar site ∷ c
accessed k other p c = c

-- the operations in front of the body
abbrev pub opening : Known → ℕ → List VOp → List VOp
opening k registers c =
    Fresh ∷ Word (own k 0) 0 ∷ Wspawn (held k 0) 3 ∷ Fresh ∷ item_lanes k (Fresh ∷ zeroed 0 registers (scalars 0 0 k.params (ids_code k c)))
