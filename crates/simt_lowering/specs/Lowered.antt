-- The code for lanes that a structured kernel is lowered to. Each operation is put in front of the code that follows it, at a place; how
-- many operations it becomes says where the next one stands.
use Rattle.std.specs.Prelude.{ℕ, zero, suc, ◌+◌, ◌*◌, Bool, true, false, List, [], ◌∷◌, slice_get, Option, None, Some}
use Rattle.vx_base.specs.declared.types.Alu.TheVariants.{Add, Sub, Sll, Srl, Sltu, Mul, Divu, Remu}
use Rattle.vx_base.specs.declared.types.Elem.{Elem}
use Rattle.vx_base.specs.declared.types.Elem.TheVariants.{Char, Uchar, Short, Ushort, Int, Uint}
use Rattle.vx_base.specs.declared.types.ParamKind.{ParamKind}
use Rattle.vx_base.specs.declared.types.Pos.{Pos}
use Rattle.vx_base.specs.declared.types.ParamKind.TheVariants.{Scalar, Pointer}
use Rattle.ocl_ast.specs.declared.units.Param.{Param}
use Rattle.ocl_program.specs.declared.exprs.ArrayRef.{ArrayRef}
use Rattle.ocl_program.specs.declared.exprs.ArrayRef.TheVariants.{Parameter, Declared}
use Rattle.ocl_program.specs.declared.exprs.Builtin.{Builtin}
use Rattle.ocl_program.specs.declared.exprs.Builtin.TheVariants.{WorkDim, GlobalId, LocalId, GroupId, GlobalSize, LocalSize, NumGroups}
use Rattle.ocl_program.specs.declared.functions.LocalArray.{LocalArray}
use Rattle.kir.specs.Loops.{loop_nesting}
use Rattle.kir.specs.Trees as kir
use Rattle.kir.specs.Trees.{Operand, VariableOf, NumberOf, Ops, NoOps, AndOp, KirCode}
use Rattle.uniformity.specs.Marks.{is_uniform}
use Rattle.vcode.specs.declared.ops.Csr.TheVariants.{LaneNumber, WarpNumber, MaskNow}
use Rattle.vcode.specs.Code.{VOp, Fresh, Copy, Compute, Cut, Word, WordAt, Learn, Fetch, Write, IfZero, IfNot, Goto, Split, Join, Pred, Tmc, Wspawn, Bar, Trap, Enter, Leaves, Again, Code}

-- What is known of the kernel: which of its variables are uniform, its parameters, the `__local` arrays that it declares, and how many
-- variables it has.
pub record Known : Type 0 where
  pub marks : ℕ → Bool
  pub params : List Param
  pub arrays : List LocalArray
  pub variables : ℕ

-- ---- registers and places

-- Behind the variables stand two registers for what is computed on the way, three each for the local and for the global ids, and one for the
-- lanes of each loop within others.
abbrev pub own : Known → ℕ → ℕ
own k i = k.variables + i

abbrev pub held : Known → ℕ → Operand
held k i = VariableOf (own k i)

abbrev pub local_ids : ℕ
local_ids = 2

abbrev pub global_ids : ℕ
global_ids = 5

-- the lanes that are in a loop, by how many loops stand round it
abbrev pub mask_of : Known → ℕ → ℕ
mask_of k depth = own k (8 + depth)

abbrev pub registers_for : ℕ → ℕ → ℕ
registers_for variables loops = variables + (8 + loops)

-- so many places further on
abbrev pub further : ℕ → ℕ → ℕ
further zero p = p
further (suc n) p = further n (suc p)

-- the place behind an operation that is left out if the test is uniform
abbrev pub past : Bool → ℕ → ℕ
past true p = p
past false p = suc p

-- ---- what a warp does with its lanes, unless the test is uniform

abbrev pub splits : Bool → Operand → List VOp → List VOp
splits true t c = c
splits false t c = Split t ∷ c

abbrev pub joins : Bool → List VOp → List VOp
joins true c = c
joins false c = Join ∷ c

abbrev pub keeps_mask : Bool → ℕ → List VOp → List VOp
keeps_mask true m c = c
keeps_mask false m c = Learn m MaskNow ∷ c

abbrev pub goes_on : Bool → Operand → ℕ → List VOp → List VOp
goes_on true t m c = c
goes_on false t m c = Pred t m ∷ c

-- ---- ids (OpenCL C 1.2, section 6.12.1)

-- Of an id x three numbers are kept: x 0, x 1 - x 0, and x 2 - 2 * x 1 + x 0. A dimension past the third has the id 0.
abbrev pub kept_id : Known → ℕ → ℕ → Operand → List VOp → List VOp
kept_id k i d (NumberOf zero) c = Copy d (held k i) ∷ c
kept_id k i d (NumberOf (suc zero)) c = Compute d Add (held k i) (held k (i + 1)) ∷ c
kept_id k i d (NumberOf (suc (suc zero))) c =
    Compute (own k 0) Add (held k (i + 1)) (held k (i + 1)) ∷ Compute (own k 0) Add (held k 0) (held k (i + 2)) ∷ Compute d Add (held k 0) (held k i) ∷ c
kept_id k i d (NumberOf (suc (suc (suc n)))) c = Copy d (NumberOf 0) ∷ c
kept_id k i d (VariableOf x) c =
    Compute (own k 0) Mul (VariableOf x) (held k (i + 1)) ∷ Compute (own k 1) Srl (VariableOf x) (NumberOf 1)
    ∷ Compute (own k 1) Mul (held k 1) (held k (i + 2)) ∷ Compute (own k 0) Add (held k 0) (held k 1) ∷ Compute (own k 0) Add (held k 0) (held k i)
    ∷ Compute (own k 1) Sltu (VariableOf x) (NumberOf 3) ∷ Compute d Mul (held k 0) (held k 1) ∷ c

-- words of the launch block from a number on, and 0 for a dimension past the third
abbrev pub group_word : Known → ℕ → ℕ → Operand → List VOp → List VOp
group_word k w d (NumberOf zero) c = Word d w ∷ c
group_word k w d (NumberOf (suc zero)) c = Word d (w + 1) ∷ c
group_word k w d (NumberOf (suc (suc zero))) c = Word d (w + 2) ∷ c
group_word k w d (NumberOf (suc (suc (suc n)))) c = Copy d (NumberOf 0) ∷ c
group_word k w d (VariableOf x) c =
    Compute (own k 0) Sltu (VariableOf x) (NumberOf 3) ∷ Compute (own k 1) Mul (VariableOf x) (held k 0) ∷ WordAt (own k 1) (held k 1) w
    ∷ Compute d Mul (held k 1) (held k 0) ∷ c

-- the same, and 1 for a dimension past the third
abbrev pub size_word : Known → ℕ → ℕ → Operand → List VOp → List VOp
size_word k w d (NumberOf zero) c = Word d w ∷ c
size_word k w d (NumberOf (suc zero)) c = Word d (w + 1) ∷ c
size_word k w d (NumberOf (suc (suc zero))) c = Word d (w + 2) ∷ c
size_word k w d (NumberOf (suc (suc (suc n)))) c = Copy d (NumberOf 1) ∷ c
size_word k w d (VariableOf x) c =
    Compute (own k 0) Sltu (VariableOf x) (NumberOf 3) ∷ Compute (own k 1) Mul (VariableOf x) (held k 0) ∷ WordAt (own k 1) (held k 1) w
    ∷ Compute (own k 1) Sub (held k 1) (NumberOf 1) ∷ Compute (own k 1) Mul (held k 1) (held k 0) ∷ Compute d Add (held k 1) (NumberOf 1) ∷ c

abbrev pub id_code : Known → ℕ → Builtin → Operand → List VOp → List VOp
id_code k d WorkDim a c = Word d 2 ∷ c
id_code k d GlobalId a c = kept_id k global_ids d a c
id_code k d LocalId a c = kept_id k local_ids d a c
id_code k d GroupId a c = group_word k 3 d a c
id_code k d LocalSize a c = size_word k 6 d a c
id_code k d GlobalSize a c = size_word k 9 d a c
id_code k d NumGroups a c = size_word k 12 d a c
id_code k d other a c = Copy d (NumberOf 0) ∷ c

-- how many operations they are, by how many it is for dimension 2 and for one in a register
abbrev pub id_count : ℕ → ℕ → Operand → ℕ
id_count second any (NumberOf zero) = 1
id_count second any (NumberOf (suc zero)) = 1
id_count second any (NumberOf (suc (suc zero))) = second
id_count second any (NumberOf (suc (suc (suc n)))) = 1
id_count second any (VariableOf x) = any

abbrev pub id_end : Builtin → Operand → ℕ → ℕ
id_end WorkDim a p = suc p
id_end GlobalId a p = further (id_count 3 7 a) p
id_end LocalId a p = further (id_count 3 7 a) p
id_end GroupId a p = further (id_count 1 4 a) p
id_end LocalSize a p = further (id_count 1 6 a) p
id_end GlobalSize a p = further (id_count 1 6 a) p
id_end NumGroups a p = further (id_count 1 6 a) p
id_end other a p = suc p

-- ---- arrays

-- by how many bits an index is shifted to be a number of bytes
abbrev pub shift_of : Elem → ℕ
shift_of Char = 0
shift_of Uchar = 0
shift_of Short = 1
shift_of Ushort = 1
shift_of Int = 2
shift_of Uint = 2

-- the word of the launch block that holds the address of an array
abbrev pub start_word : ArrayRef → ℕ
start_word (Parameter j) = 16 + 2 * j
start_word (Declared j) = 48 + j

abbrev pub param_start : ℕ → ℕ → Option Param → VOp
param_start r j None = Copy r (NumberOf 0)
param_start r j (Some param) = Word r (start_word (Parameter j))

abbrev pub declared_start : ℕ → ℕ → Option LocalArray → VOp
declared_start r j None = Copy r (NumberOf 0)
declared_start r j (Some array) = Word r (start_word (Declared j))

-- the address of an array, which is 0 if there is no such array
abbrev pub started : Known → ArrayRef → VOp
started k (Parameter j) = param_start (own k 0) j (slice_get k.params j)
started k (Declared j) = declared_start (own k 0) j (slice_get k.arrays j)

-- the address of an element
abbrev pub address : Known → ArrayRef → Elem → Operand → List VOp → List VOp
address k array elem a c =
    started k array ∷ Compute (own k 1) Sll a (NumberOf (shift_of elem)) ∷ Compute (own k 0) Add (held k 0) (held k 1) ∷ c

abbrev pub declared_count : Option LocalArray → ℕ
declared_count None = 0
declared_count (Some array) = array.count

abbrev pub param_count : ℕ → ℕ → Option Param → VOp
param_count r j None = Copy r (NumberOf 0)
param_count r j (Some param) = Word r (17 + 2 * j)

-- the count of an array, which is 0 if there is no such array
abbrev pub counted : Known → ArrayRef → VOp
counted k (Parameter j) = param_count (own k 0) j (slice_get k.params j)
counted k (Declared j) = Copy (own k 0) (NumberOf (declared_count (slice_get k.arrays j)))

-- a trap, unless the first register of the lowering's own is not 0
abbrev pub checked : Known → Bool → Pos → ℕ → List VOp → List VOp
checked k u pos p c = splits u (held k 0) (IfNot (held k 0) (further 2 (past u p)) ∷ Trap pos ∷ joins u c)

abbrev pub check_end : Bool → ℕ → ℕ
check_end u p = past u (further 2 (past u p))

-- ---- branches and loops

-- operations within others: where they end, and their code
pub record Part : Type 0 where
  pub end : ℕ → ℕ
  pub code : ℕ → List VOp → List VOp

-- a branch: where its parts begin, where it ends, and its code
abbrev pub one_place : Bool → ℕ → ℕ
one_place u p = suc (past u p)

abbrev pub other_place : Bool → Part → ℕ → ℕ
other_place u one p = suc (one.end (one_place u p))

abbrev pub meet_place : Bool → Part → Part → ℕ → ℕ
meet_place u one other p = other.end (other_place u one p)

abbrev pub if_end : Bool → Part → Part → ℕ → ℕ
if_end u one other p = past u (meet_place u one other p)

abbrev pub if_code : Bool → Operand → Part → Part → ℕ → List VOp → List VOp
if_code u t one other p c =
    splits u t (IfZero t (other_place u one p) ∷ one.code (one_place u p) (Goto (meet_place u one other p) ∷ other.code (other_place u one p) (joins u c)))

-- a loop: its step stands first, then its head, the test, and the body
abbrev pub step_place : Bool → ℕ → ℕ
step_place u p = suc (past u (suc p))

abbrev pub head_place : Bool → Part → ℕ → ℕ
head_place u step p = step.end (step_place u p)

abbrev pub test_place : Bool → Part → Part → ℕ → ℕ
test_place u step head p = past u (head.end (head_place u step p))

abbrev pub body_place : Bool → Part → Part → ℕ → ℕ
body_place u step head p = suc (test_place u step head p)

abbrev pub loop_end : Bool → Part → Part → Part → ℕ → ℕ
loop_end u step head body p = suc (body.end (body_place u step head p))

abbrev pub loop_code : Bool → Operand → ℕ → Part → Part → Part → ℕ → List VOp → List VOp
loop_code u t m step head body p c =
    Enter ∷ keeps_mask u m (Goto (head_place u step p) ∷ step.code (step_place u p) (head.code (head_place u step p)
    (goes_on u t m (Leaves t (loop_end u step head body p) ∷ body.code (body_place u step head p) (Again (step_place u p) ∷ c)))))

-- ---- operations

-- the place behind operations that begin at a place
abbrev mutual
  pub ops_end : (ℕ → Bool) → Ops → ℕ → ℕ
  ops_end marks NoOps p = p
  ops_end marks (AndOp op ops) p = ops_end marks ops (op_end marks op p)

  pub op_end : (ℕ → Bool) → kir.Op → ℕ → ℕ
  op_end marks (kir.Set d a) p = suc p
  op_end marks (kir.Calculate d op a b) p = suc p
  op_end marks (kir.Fit d elem a) p = suc p
  op_end marks (kir.Id d which a) p = id_end which a p
  op_end marks (kir.Load d array elem a) p = further 4 p
  op_end marks (kir.Store array elem a b) p = further 4 p
  op_end marks (kir.Check array a pos) p = check_end (is_uniform marks a) (further 2 p)
  op_end marks (kir.Barrier site) p = suc p
  op_end marks (kir.If t one other) p =
      if_end (is_uniform marks t) (record { end = ops_end marks one; code = λ q c. c }) (record { end = ops_end marks other; code = λ q c. c }) p
  op_end marks (kir.Loop head t body step) p =
      loop_end (is_uniform marks t) (record { end = ops_end marks step; code = λ q c. c }) (record { end = ops_end marks head; code = λ q c. c })
      (record { end = ops_end marks body; code = λ q c. c }) p
  op_end marks other p = p

-- operations at a place, within so many loops, in front of what follows; jumps and calls are left out
abbrev mutual
  pub lowered : Known → ℕ → Ops → ℕ → List VOp → List VOp
  lowered k depth NoOps p c = c
  lowered k depth (AndOp op ops) p c = lowered_op k depth op p (lowered k depth ops (op_end k.marks op p) c)

  pub lowered_op : Known → ℕ → kir.Op → ℕ → List VOp → List VOp
  lowered_op k depth (kir.Set d a) p c = Copy d a ∷ c
  lowered_op k depth (kir.Calculate d op a b) p c = Compute d op a b ∷ c
  lowered_op k depth (kir.Fit d elem a) p c = Cut d elem a ∷ c
  lowered_op k depth (kir.Id d which a) p c = id_code k d which a c
  lowered_op k depth (kir.Load d array elem a) p c = address k array elem a (Fetch d elem (held k 0) ∷ c)
  lowered_op k depth (kir.Store array elem a b) p c = address k array elem a (Write elem (held k 0) b ∷ c)
  lowered_op k depth (kir.Check array a pos) p c =
      counted k array ∷ Compute (own k 0) Sltu a (held k 0) ∷ checked k (is_uniform k.marks a) pos (further 2 p) c
  lowered_op k depth (kir.Barrier site) p c = Bar site ∷ c
  lowered_op k depth (kir.If t one other) p c =
      if_code (is_uniform k.marks t) t (record { end = ops_end k.marks one; code = lowered k depth one })
      (record { end = ops_end k.marks other; code = lowered k depth other }) p c
  lowered_op k depth (kir.Loop head t body step) p c =
      loop_code (is_uniform k.marks t) t (mask_of k depth) (record { end = ops_end k.marks step; code = lowered k (suc depth) step })
      (record { end = ops_end k.marks head; code = lowered k (suc depth) head }) (record { end = ops_end k.marks body; code = lowered k (suc depth) body }) p c
  lowered_op k depth other p c = c

-- ---- the whole kernel

-- The lanes of a warp that have an item: as many as are left of the group's items, 32 at most. No shift is by 32.
abbrev pub item_lanes : Known → List VOp → List VOp
item_lanes k c =
    Word (own k 0) 1 ∷ Learn (own k 1) WarpNumber ∷ Word (own k 2) 15 ∷ Compute (own k 1) Mul (held k 1) (held k 2) ∷ Compute (own k 0) Sub (held k 0) (held k 1)
    ∷ Compute (own k 1) Sltu (held k 0) (NumberOf 32) ∷ Compute (own k 0) Sub (NumberOf 32) (held k 0) ∷ Compute (own k 0) Mul (held k 0) (held k 1)
    ∷ Compute (own k 0) Srl (NumberOf 0xffffffff) (held k 0) ∷ Tmc (held k 0) ∷ c

-- so many registers from a number on become 0
abbrev pub zeroed : ℕ → ℕ → List VOp → List VOp
zeroed r zero c = c
zeroed r (suc n) c = Copy r (NumberOf 0) ∷ zeroed (suc r) n c

-- the scalar parameters, where so many parameters and so many scalar ones stand before
abbrev pub scalar : ParamKind → ℕ → ℕ → (ℕ → List VOp) → List VOp
scalar (Scalar elem) j r next = Word r (16 + 2 * j) ∷ next (suc r)
scalar (Pointer space elem readonly) j r next = next r

abbrev pub scalars : ℕ → ℕ → List Param → List VOp → List VOp
scalars j r [] c = c
scalars j r (param ∷ params) c = scalar param.kind j r (λ r'. scalars (suc j) r' params c)

-- the local ids, from the number of the lane's item in its group
abbrev pub local_ids_code : Known → List VOp → List VOp
local_ids_code k c =
    Learn (own k 0) WarpNumber ∷ Word (own k 1) 15 ∷ Compute (own k 0) Mul (held k 0) (held k 1) ∷ Learn (own k 1) LaneNumber ∷ Compute (own k 0) Add (held k 0) (held k 1)
    ∷ Word (own k 1) 6 ∷ Compute (own k 2) Remu (held k 0) (held k 1) ∷ Compute (own k 0) Divu (held k 0) (held k 1)
    ∷ Word (own k 1) 7 ∷ Compute (own k 3) Remu (held k 0) (held k 1) ∷ Compute (own k 4) Divu (held k 0) (held k 1) ∷ c

-- the global id of a dimension: of the word with the group's id, the word with the local size, and the local id
abbrev pub global_id_code : Known → ℕ → List VOp → List VOp
global_id_code k d c =
    Word (own k 0) (3 + d) ∷ Word (own k 1) (6 + d) ∷ Compute (own k 0) Mul (held k 0) (held k 1) ∷ Compute (own k (5 + d)) Add (held k 0) (held k (2 + d)) ∷ c

-- three ids become the three numbers that are kept
abbrev pub differences : Known → ℕ → List VOp → List VOp
differences k i c =
    Compute (own k (i + 2)) Sub (held k (i + 2)) (held k (i + 1)) ∷ Compute (own k (i + 1)) Sub (held k (i + 1)) (held k i)
    ∷ Compute (own k (i + 2)) Sub (held k (i + 2)) (held k (i + 1)) ∷ c

abbrev pub ids_code : Known → List VOp → List VOp
ids_code k c = local_ids_code k (global_id_code k 0 (global_id_code k 1 (global_id_code k 2 (differences k local_ids (differences k global_ids c)))))

-- the place behind the scalar parameters
abbrev pub behind_kind : ParamKind → ℕ → ℕ
behind_kind (Scalar elem) p = suc p
behind_kind (Pointer space elem readonly) p = p

abbrev pub scalars_end : List Param → ℕ → ℕ
scalars_end [] p = p
scalars_end (param ∷ params) p = scalars_end params (behind_kind param.kind p)

-- where the body begins: behind the first operations, the registers, the scalar parameters and the ids
abbrev pub body_start : List Param → ℕ → ℕ
body_start params registers = further 29 (scalars_end params (further registers 15))

-- A kernel. Warp 0 starts the other warps of its group, and each keeps the lanes that have an item.
abbrev pub kernel_code : (ℕ → Bool) → KirCode → List VOp
kernel_code marks code =
    let k : Known = record { marks = marks; params = code.params; arrays = code.arrays; variables = code.variables } in
    let registers : ℕ = registers_for code.variables (loop_nesting code.ops) in
    Fresh ∷ Word (own k 0) 0 ∷ Wspawn (held k 0) 3 ∷ Fresh ∷ item_lanes k (Fresh ∷ zeroed 0 registers (scalars 0 0 code.params (ids_code k
    (lowered k 0 code.ops (body_start code.params registers) (Tmc (NumberOf 0) ∷ [])))))

abbrev pub lowered_kernel : (ℕ → Bool) → KirCode → Code
lowered_kernel marks code = record {
  params = code.params;
  arrays = code.arrays;
  registers = registers_for code.variables (loop_nesting code.ops);
  ops = kernel_code marks code;
}
