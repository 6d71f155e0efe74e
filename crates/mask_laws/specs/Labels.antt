-- The spots of a lowered kernel: each operation with what stands round it, by the recursion of the lowering.
use Rattle.std.specs.Prelude.{ℕ, suc, Bool, true, false, ◌&&◌, List, [], ◌∷◌, drop}
use Rattle.item_acts.specs.Launches.{put_at}
use Rattle.vx_base.specs.declared.types.Alu.TheVariants.{Sltu}
use Rattle.vx_base.specs.declared.types.Pos.{Pos}
use Rattle.kir.specs.Loops.{loop_nesting}
use Rattle.kir.specs.Trees as kir
use Rattle.kir.specs.Trees.{Operand, VariableOf, NumberOf, Ops, NoOps, AndOp, KirCode}
use Rattle.uniformity.specs.Marks.{is_constant, is_uniform}
use Rattle.vcode.specs.declared.ops.Csr.{Csr}
use Rattle.vcode.specs.declared.ops.Csr.TheVariants.{LaneNumber, MaskNow}
use Rattle.vcode.specs.Code.{VOp, Fresh, Copy, Compute, Cut, Word, WordAt, Learn, Fetch, Write, IfZero, IfNot, Goto, Split, Join, Pred, Tmc, Wspawn, Bar, Trap, Enter, Leaves, Again}
use Rattle.simt_lowering.specs.Kept.{known_of_kernel}
use Rattle.simt_lowering.specs.Lowered.{Known, Part, own, held, mask_of, registers_for, further, past, id_code, address, counted, one_place, other_place, meet_place, step_place, head_place, body_place, loop_end, ops_end, op_end, item_lanes, zeroed, scalars, ids_code, body_start}
use Rattle.mask_laws.specs.Spots.{Frame, First, Second, Round, Turning, Shape, Straight, Sides, Test, Meet, Nowhere, Spot}

abbrev pub spot : VOp → Shape → (ℕ → Bool) → Spot
spot op shape agree = record { op = op; shape = shape; agree = agree; shared = false }

-- ---- straight code

-- active lanes agree in an operand
abbrev pub agrees : (ℕ → Bool) → Operand → Bool
agrees = is_uniform

-- whether a control register answers the same to all lanes
abbrev pub alike_in : Csr → Bool
alike_in LaneNumber = false
alike_in other = true

-- the registers in which active lanes agree behind an operation
abbrev pub flows : Bool → (ℕ → Bool) → VOp → ℕ → Bool
flows shared ag (Copy d a) = put_at d (agrees ag a) ag
flows shared ag (Compute d op a b) = put_at d (agrees ag a && agrees ag b) ag
flows shared ag (Cut d elem a) = put_at d (agrees ag a) ag
flows shared ag (Word d k) = put_at d true ag
flows shared ag (WordAt d a k) = put_at d (agrees ag a) ag
flows shared ag (Learn d csr) = put_at d (alike_in csr) ag
flows shared ag (Fetch d elem a) = put_at d (shared && agrees ag a) ag
flows shared ag op = ag

-- operations that stand in these frames, in front of what follows
abbrev pub straight : List Frame → Bool → (ℕ → Bool) → List VOp → List Spot → List Spot
straight fs shared ag [] c = c
straight fs shared ag (op ∷ ops) c = record { op = op; shape = Straight fs; agree = ag; shared = shared } ∷ straight fs shared (flows shared ag op) ops c

-- ---- branches

-- the frames of the two sides, unless the test is uniform
abbrev pub first_frames : Bool → (q e j : ℕ) → Operand → List Frame → List Frame
first_frames true q e j t fs = fs
first_frames false q e j t fs = First q e j t ∷ fs

abbrev pub second_frames : Bool → (q e j : ℕ) → Operand → List Frame → List Frame
second_frames true q e j t fs = fs
second_frames false q e j t fs = Second q e j t ∷ fs

-- the split, the branch behind it, and where the sides meet
abbrev pub split_spots : Bool → Operand → List Frame → (ℕ → Bool) → List Spot → List Spot
split_spots true t fs ag c = c
split_spots false t fs ag c = spot (Split t) (Straight fs) ag ∷ c

abbrev pub branch_spot : Bool → VOp → (q e j : ℕ) → Operand → List Frame → (uni ag : ℕ → Bool) → Spot
branch_spot true op q e j t fs uni ag = spot op (Straight fs) ag
branch_spot false op q e j t fs uni ag = spot op (Sides q e j t fs) uni

abbrev pub join_spots : Bool → (q e j : ℕ) → Operand → List Frame → (ℕ → Bool) → List Spot → List Spot
join_spots true q e j t fs uni c = c
join_spots false q e j t fs uni c = spot Join (Meet q e j t fs) uni ∷ c

-- a check: the trap stands on the second side
abbrev pub check_spots : Known → Bool → Pos → ℕ → List Frame → (uni ag : ℕ → Bool) → List Spot → List Spot
check_spots k u pos p fs uni ag c =
    split_spots u (held k 0) fs ag
    (branch_spot u (IfNot (held k 0) (further 2 (past u p))) p (suc (past u p)) (further 2 (past u p)) (held k 0) fs uni ag
    ∷ spot (Trap pos) (Straight (second_frames u p (suc (past u p)) (further 2 (past u p)) (held k 0) fs)) uni
    ∷ join_spots u p (suc (past u p)) (further 2 (past u p)) (held k 0) fs uni c)

-- ---- operations within others: where they end, and their spots in frames

pub record Labelled : Type 0 where
  pub end : ℕ → ℕ
  pub label : List Frame → ℕ → List Spot → List Spot

-- the part as the lowering has it, without its code
abbrev pub bare : Labelled → Part
bare part = record { end = part.end; code = λ q c. c }

abbrev pub if_spots : Bool → Operand → Labelled → Labelled → List Frame → (ℕ → Bool) → ℕ → List Spot → List Spot
if_spots u t one other fs uni p c =
    let e : ℕ = other_place u (bare one) p in
    let j : ℕ = meet_place u (bare one) (bare other) p in
    split_spots u t fs uni
    (branch_spot u (IfZero t e) p e j t fs uni uni
    ∷ one.label (first_frames u p e j t fs) (one_place u p)
    (spot (Goto j) (Straight (first_frames u p e j t fs)) uni
    ∷ other.label (second_frames u p e j t fs) e (join_spots u p e j t fs uni c)))

-- ---- loops

-- the frame of a loop whose lanes stay together or not, from the place where its lanes are kept on
abbrev pub loop_frame : Bool → (s p x m : ℕ) → Operand → Frame
loop_frame true s p x m t = Round s x
loop_frame false s p x m t = Turning s p x m t

abbrev pub keep_spots : Bool → (s x m : ℕ) → List Frame → (ℕ → Bool) → List Spot → List Spot
keep_spots true s x m fs uni c = c
keep_spots false s x m fs uni c = spot (Learn m MaskNow) (Straight (Round s x ∷ fs)) uni ∷ c

abbrev pub pred_spots : Bool → (s p x m : ℕ) → Operand → List Frame → (ℕ → Bool) → List Spot → List Spot
pred_spots true s p x m t fs uni c = c
pred_spots false s p x m t fs uni c = spot (Pred t m) (Straight (Turning s p x m t ∷ fs)) uni ∷ c

abbrev pub test_spot : Bool → VOp → (s p x m : ℕ) → Operand → List Frame → (ℕ → Bool) → Spot
test_spot true op s p x m t fs uni = spot op (Straight (Round s x ∷ fs)) uni
test_spot false op s p x m t fs uni = spot op (Test s p x m t fs) uni

abbrev pub loop_spots : Bool → Operand → ℕ → Labelled → Labelled → Labelled → List Frame → (ℕ → Bool) → ℕ → List Spot → List Spot
loop_spots u t m step head body fs uni p c =
    let x : ℕ = loop_end u (bare step) (bare head) (bare body) p in
    let g : ℕ = head.end (head_place u (bare step) p) in
    spot Enter (Straight fs) uni
    ∷ keep_spots u (suc p) x m fs uni
    (spot (Goto (head_place u (bare step) p)) (Straight (loop_frame u (suc p) g x m t ∷ fs)) uni
    ∷ step.label (loop_frame u (suc p) g x m t ∷ fs) (step_place u p)
    (head.label (loop_frame u (suc p) g x m t ∷ fs) (head_place u (bare step) p)
    (pred_spots u (suc p) g x m t fs uni
    (test_spot u (Leaves t x) (suc p) g x m t fs uni
    ∷ body.label (loop_frame u (suc p) g x m t ∷ fs) (body_place u (bare step) (bare head) p)
    (spot (Again (step_place u p)) (Straight (loop_frame u (suc p) g x m t ∷ fs)) uni ∷ c)))))

-- ---- operations

-- the straight code of single operations
abbrev pub load_code : Known → kir.Op → List VOp
load_code k (kir.Set d a) = Copy d a ∷ []
load_code k (kir.Calculate d op a b) = Compute d op a b ∷ []
load_code k (kir.Fit d elem a) = Cut d elem a ∷ []
load_code k (kir.Id d which a) = id_code k d which a []
load_code k (kir.Load d array elem a) = address k array elem a (Fetch d elem (held k 0) ∷ [])
load_code k (kir.Store array elem a b) = address k array elem a (Write elem (held k 0) b ∷ [])
load_code k (kir.Barrier site) = Bar site ∷ []
load_code k other = []

-- whether what an operation loads is an element of an array of constants
abbrev pub loads_constant : Known → kir.Op → Bool
loads_constant k (kir.Load d array elem a) = is_constant k.params array
loads_constant k other = false

-- what is known of a check's test: its count and its comparison
abbrev pub count_code : Known → kir.Op → List VOp
count_code k (kir.Check array a pos) = counted k array ∷ Compute (own k 0) Sltu a (held k 0) ∷ []
count_code k other = []

abbrev pub flows_all : Bool → (ℕ → Bool) → List VOp → ℕ → Bool
flows_all shared ag [] = ag
flows_all shared ag (op ∷ ops) = flows_all shared (flows shared ag op) ops

-- operations in frames at a place, within so many loops, in front of what follows
abbrev mutual
  pub labelled : Known → ℕ → Ops → List Frame → ℕ → List Spot → List Spot
  labelled k depth NoOps fs p c = c
  labelled k depth (AndOp op ops) fs p c = labelled_op k depth op fs p (labelled k depth ops fs (op_end k.marks op p) c)

  pub labelled_op : Known → ℕ → kir.Op → List Frame → ℕ → List Spot → List Spot
  labelled_op k depth (kir.Check array a pos) fs p c =
      straight fs false k.marks (counted k array ∷ Compute (own k 0) Sltu a (held k 0) ∷ [])
      (check_spots k (is_uniform k.marks a) pos (further 2 p) fs k.marks (flows_all false k.marks (counted k array ∷ Compute (own k 0) Sltu a (held k 0) ∷ [])) c)
  labelled_op k depth (kir.If t one other) fs p c =
      if_spots (is_uniform k.marks t) t (record { end = ops_end k.marks one; label = labelled k depth one }) (record { end = ops_end k.marks other; label = labelled k depth other }) fs k.marks p c
  labelled_op k depth (kir.Loop head t body step) fs p c =
      loop_spots (is_uniform k.marks t) t (mask_of k depth) (record { end = ops_end k.marks step; label = labelled k (suc depth) step })
      (record { end = ops_end k.marks head; label = labelled k (suc depth) head }) (record { end = ops_end k.marks body; label = labelled k (suc depth) body }) fs k.marks p c
  labelled_op k depth other fs p c = straight fs (loads_constant k other) k.marks (load_code k other) c

-- ---- the whole kernel

-- places before the lanes that have an item are active
abbrev pub hidden : List VOp → List Spot → List Spot
hidden [] c = c
hidden (op ∷ ops) c = spot op Nowhere (λ r. false) ∷ hidden ops c

-- the operations behind the one that leaves the lanes that have an item, up to the body
abbrev pub opening_code : Known → ℕ → List VOp
opening_code k registers = Fresh ∷ zeroed 0 registers (scalars 0 0 k.params (ids_code k []))

abbrev pub kernel_spots : (ℕ → Bool) → KirCode → List Spot
kernel_spots marks code =
    let k : Known = known_of_kernel marks code in
    let registers : ℕ = registers_for code.variables (loop_nesting code.ops) in
    hidden (Fresh ∷ Word (own k 0) 0 ∷ Wspawn (held k 0) 3 ∷ Fresh ∷ item_lanes k [])
    (straight [] false marks (opening_code k registers) (labelled k 0 code.ops [] (body_start code.params registers) (spot (Tmc (NumberOf 0)) (Straight []) marks ∷ [])))

-- a place behind the code
abbrev pub nothing : Spot
nothing = record { op = Join; shape = Nowhere; agree = λ r. false; shared = false }

abbrev pub first_of_list : List Spot → Spot
first_of_list [] = nothing
first_of_list (s ∷ c) = s

abbrev pub spot_in : List Spot → ℕ → Spot
spot_in whole p = first_of_list (drop p whole)

-- the operations of spots
abbrev pub ops_of : List Spot → List VOp
ops_of [] = []
ops_of (s ∷ c) = s.op ∷ ops_of c
