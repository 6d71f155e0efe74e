-- A warp parts exactly at the tests that are not uniform.
use Rattle.std.proofs.Common.{◌≡◌, ℕ, zero, suc, List, [], ◌∷◌, Bool, true, false, refl, ap, ◌∙◌}
use Rattle.vx_base.specs.declared.types.ParamKind.{ParamKind}
use Rattle.vx_base.specs.declared.types.ParamKind.TheVariants.{Scalar, Pointer}
use Rattle.vx_base.specs.declared.types.Pos.{Pos}
use Rattle.ocl_ast.specs.declared.units.Param.{Param}
use Rattle.std.proofs.Common.{Option, None, Some, slice_get}
use Rattle.ocl_program.specs.declared.exprs.ArrayRef.{ArrayRef}
use Rattle.ocl_program.specs.declared.exprs.ArrayRef.TheVariants.{Parameter, Declared}
use Rattle.ocl_program.specs.declared.exprs.Builtin.{Builtin}
use Rattle.ocl_program.specs.declared.exprs.Builtin.TheVariants.{WorkDim, GlobalId, LocalId, GroupId, GlobalSize, LocalSize, NumGroups, GlobalOffset, Min, Max, Clamp, Abs, MulHi}
use Rattle.ocl_program.specs.declared.functions.LocalArray.{LocalArray}
use Rattle.kir.specs.Trees.{Operand, VariableOf, NumberOf, Op, Set, Calculate, Fit, Id, Load, Store, Check, Barrier, If, Loop, Break, Continue, Return, Call, Ops, NoOps, AndOp}
use Rattle.vcode.specs.Code.{VOp, Tmc}
use Rattle.uniformity.specs.Marks.{is_uniform}
use Rattle.simt_lowering.specs.Lowered.{Known, Part, own, held, further, past, splits, joins, keeps_mask, goes_on, mask_of, one_place, other_place, meet_place, if_end, if_code, step_place, head_place, body_place, loop_end, loop_code, ops_end, op_end, lowered, lowered_op, kept_id, group_word, size_word, id_code, id_count, id_end, param_count, counted, param_start, declared_start, started, checked, check_end, zeroed, scalar, scalars, scalars_end, behind_kind, ids_code, registers_for, body_start}
use Rattle.kir.specs.Loops.{loop_nesting}
use Rattle.simt_lowering.specs.Kept.{known_of_kernel}
use Rattle.simt_lowering.specs.Partings.{Parting, Parts, Meets, Keeps, Goes, partings, unless, tests, op_tests, PartsAtTests}

-- what is left out for a uniform test
at_split : (u : Bool) (t : Operand) (p : ℕ) (c : List VOp) → partings p (splits u t c) ≡ unless u (Parts p t) (partings (past u p) c)
at_split true t p c = refl
at_split false t p c = refl

at_join : (u : Bool) (p : ℕ) (c : List VOp) → partings p (joins u c) ≡ unless u (Meets p) (partings (past u p) c)
at_join true p c = refl
at_join false p c = refl

at_mask : (u : Bool) (m p : ℕ) (c : List VOp) → partings p (keeps_mask u m c) ≡ unless u (Keeps p m) (partings (past u p) c)
at_mask true m p c = refl
at_mask false m p c = refl

at_pred : (u : Bool) (t : Operand) (m p : ℕ) (c : List VOp) → partings p (goes_on u t m c) ≡ unless u (Goes p t m) (partings (past u p) c)
at_pred true t m p c = refl
at_pred false t m p c = refl

-- a part does what its tests want
abbrev Does : Part → (ℕ → List Parting → List Parting) → Type 0
Does part wants = (p : ℕ) (c : List VOp) → partings p (part.code p c) ≡ wants p (partings (part.end p) c)

if_does : (u : Bool) (t : Operand) (one other : Part) (w w' : ℕ → List Parting → List Parting) (p : ℕ) (c : List VOp) → Does one w → Does other w'
    → partings p (if_code u t one other p c)
    ≡ unless u (Parts p t) (w (one_place u p) (w' (other_place u one p) (unless u (Meets (meet_place u one other p)) (partings (if_end u one other p) c))))
if_does u t one other w w' p c does does' =
    at_split u t p _
    ∙ ap (unless u (Parts p t)) (does (one_place u p) _ ∙ ap (w (one_place u p)) (does' (other_place u one p) _ ∙ ap (w' (other_place u one p)) (at_join u (meet_place u one other p) c)))

loop_does : (u : Bool) (t : Operand) (m : ℕ) (step head body : Part) (w w' w'' : ℕ → List Parting → List Parting) (p : ℕ) (c : List VOp) → Does step w → Does head w' → Does body w''
    → partings p (loop_code u t m step head body p c)
    ≡ unless u (Keeps (suc p) m) (w (step_place u p) (w' (head_place u step p)
    (unless u (Goes (head.end (head_place u step p)) t m) (w'' (body_place u step head p) (partings (loop_end u step head body p) c)))))
loop_does u t m step head body w w' w'' p c does does' does'' =
    at_mask u m (suc p) _
    ∙ ap (unless u (Keeps (suc p) m)) (does (step_place u p) _ ∙ ap (w (step_place u p)) (does' (head_place u step p) _ ∙ ap (w' (head_place u step p))
    (at_pred u t m (head.end (head_place u step p)) _ ∙ ap (unless u (Goes (head.end (head_place u step p)) t m)) (does'' (body_place u step head p) _))))

check_does : (k : Known) (u : Bool) (pos : Pos) (p : ℕ) (c : List VOp)
    → partings p (checked k u pos p c) ≡ unless u (Parts p (held k 0)) (unless u (Meets (further 2 (past u p))) (partings (check_end u p) c))
check_does k true pos p c = refl
check_does k false pos p c = refl

kept_does : (k : Known) (i d : ℕ) (a : Operand) (p : ℕ) (c : List VOp) → partings p (kept_id k i d a c) ≡ partings (further (id_count 3 7 a) p) c
kept_does k i d (NumberOf zero) p c = refl
kept_does k i d (NumberOf (suc zero)) p c = refl
kept_does k i d (NumberOf (suc (suc zero))) p c = refl
kept_does k i d (NumberOf (suc (suc (suc n)))) p c = refl
kept_does k i d (VariableOf x) p c = refl

group_does : (k : Known) (w d : ℕ) (a : Operand) (p : ℕ) (c : List VOp) → partings p (group_word k w d a c) ≡ partings (further (id_count 1 4 a) p) c
group_does k w d (NumberOf zero) p c = refl
group_does k w d (NumberOf (suc zero)) p c = refl
group_does k w d (NumberOf (suc (suc zero))) p c = refl
group_does k w d (NumberOf (suc (suc (suc n)))) p c = refl
group_does k w d (VariableOf x) p c = refl

size_does : (k : Known) (w d : ℕ) (a : Operand) (p : ℕ) (c : List VOp) → partings p (size_word k w d a c) ≡ partings (further (id_count 1 6 a) p) c
size_does k w d (NumberOf zero) p c = refl
size_does k w d (NumberOf (suc zero)) p c = refl
size_does k w d (NumberOf (suc (suc zero))) p c = refl
size_does k w d (NumberOf (suc (suc (suc n)))) p c = refl
size_does k w d (VariableOf x) p c = refl

id_does : (k : Known) (d : ℕ) (which : Builtin) (a : Operand) (p : ℕ) (c : List VOp) → partings p (id_code k d which a c) ≡ partings (id_end which a p) c
id_does k d WorkDim a p c = refl
id_does k d GlobalId a p c = kept_does k 5 d a p c
id_does k d LocalId a p c = kept_does k 2 d a p c
id_does k d GroupId a p c = group_does k 3 d a p c
id_does k d LocalSize a p c = size_does k 6 d a p c
id_does k d GlobalSize a p c = size_does k 9 d a p c
id_does k d NumGroups a p c = size_does k 12 d a p c
id_does k d GlobalOffset a p c = refl
id_does k d Min a p c = refl
id_does k d Max a p c = refl
id_does k d Clamp a p c = refl
id_does k d Abs a p c = refl
id_does k d MulHi a p c = refl

param_does : (r j : ℕ) (param : Option Param) (p : ℕ) (c : List VOp) → partings p (param_count r j param ∷ c) ≡ partings (suc p) c
param_does r j None p c = refl
param_does r j (Some param) p c = refl

count_does : (k : Known) (array : ArrayRef) (p : ℕ) (c : List VOp) → partings p (counted k array ∷ c) ≡ partings (suc p) c
count_does k (Parameter j) p c = param_does (own k 0) j (slice_get k.params j) p c
count_does k (Declared j) p c = refl

param_begins : (r j : ℕ) (param : Option Param) (p : ℕ) (c : List VOp) → partings p (param_start r j param ∷ c) ≡ partings (suc p) c
param_begins r j None p c = refl
param_begins r j (Some param) p c = refl

declared_begins : (r j : ℕ) (array : Option LocalArray) (p : ℕ) (c : List VOp) → partings p (declared_start r j array ∷ c) ≡ partings (suc p) c
declared_begins r j None p c = refl
declared_begins r j (Some array) p c = refl

start_does : (k : Known) (array : ArrayRef) (p : ℕ) (c : List VOp) → partings p (started k array ∷ c) ≡ partings (suc p) c
start_does k (Parameter j) p c = param_begins (own k 0) j (slice_get k.params j) p c
start_does k (Declared j) p c = declared_begins (own k 0) j (slice_get k.arrays j) p c

mutual
  pub ops_do : (k : Known) (depth : ℕ) (ops : Ops) (p : ℕ) (c : List VOp) → partings p (lowered k depth ops p c) ≡ tests k depth ops p (partings (ops_end k.marks ops p) c)
  ops_do k depth NoOps p c = refl
  ops_do k depth (AndOp op ops) p c =
      op_does k depth op p (lowered k depth ops (op_end k.marks op p) c) ∙ ap (op_tests k depth op p) (ops_do k depth ops (op_end k.marks op p) c)

  op_does : (k : Known) (depth : ℕ) (op : Op) (p : ℕ) (c : List VOp) → partings p (lowered_op k depth op p c) ≡ op_tests k depth op p (partings (op_end k.marks op p) c)
  op_does k depth (Set d a) p c = refl
  op_does k depth (Calculate d op a b) p c = refl
  op_does k depth (Fit d elem a) p c = refl
  op_does k depth (Id d which a) p c = id_does k d which a p c
  op_does k depth (Load d array elem a) p c = start_does k array p _
  op_does k depth (Store array elem a b) p c = start_does k array p _
  op_does k depth (Check array a pos) p c = count_does k array p _ ∙ check_does k (is_uniform k.marks a) pos (further 2 p) c
  op_does k depth (Barrier site) p c = refl
  op_does k depth (If t one other) p c =
      if_does (is_uniform k.marks t) t (record { end = ops_end k.marks one; code = lowered k depth one }) (record { end = ops_end k.marks other; code = lowered k depth other })
      (tests k depth one) (tests k depth other) p c (ops_do k depth one) (ops_do k depth other)
  op_does k depth (Loop head t body step) p c =
      loop_does (is_uniform k.marks t) t (mask_of k depth) (record { end = ops_end k.marks step; code = lowered k (suc depth) step })
      (record { end = ops_end k.marks head; code = lowered k (suc depth) head }) (record { end = ops_end k.marks body; code = lowered k (suc depth) body })
      (tests k (suc depth) step) (tests k (suc depth) head) (tests k (suc depth) body) p c (ops_do k (suc depth) step) (ops_do k (suc depth) head) (ops_do k (suc depth) body)
  op_does k depth Break p c = refl
  op_does k depth Continue p c = refl
  op_does k depth Return p c = refl
  op_does k depth (Call body) p c = refl

-- ---- the first operations

zeroed_does : (r count p : ℕ) (c : List VOp) → partings p (zeroed r count c) ≡ partings (further count p) c
zeroed_does r zero p c = refl
zeroed_does r (suc count) p c = zeroed_does (suc r) count (suc p) c

kind_does : (kind : ParamKind) (j r p : ℕ) (next : ℕ → List VOp) (c : List Parting) → ((r' : ℕ) → partings (behind_kind kind p) (next r') ≡ c) → partings p (scalar kind j r next) ≡ c
kind_does (Scalar elem) j r p next c does = does (suc r)
kind_does (Pointer space elem readonly) j r p next c does = does r

scalars_do : (params : List Param) (j r p : ℕ) (c : List VOp) → partings p (scalars j r params c) ≡ partings (scalars_end params p) c
scalars_do [] j r p c = refl
scalars_do (param ∷ params) j r p c =
    kind_does param.kind j r p (λ r'. scalars (suc j) r' params c) (partings (scalars_end params (behind_kind param.kind p)) c) (λ r'. scalars_do params (suc j) r' (behind_kind param.kind p) c)

pub parts_at_tests : PartsAtTests
parts_at_tests code marks =
    let k : Known = known_of_kernel marks code in
    let registers : ℕ = registers_for code.variables (loop_nesting code.ops) in
    let body : List VOp = lowered k 0 code.ops (body_start code.params registers) (Tmc (NumberOf 0) ∷ []) in
    zeroed_does 0 registers 15 (scalars 0 0 code.params (ids_code k body)) ∙ scalars_do code.params 0 0 (further registers 15) (ids_code k body)
    ∙ ops_do k 0 code.ops (body_start code.params registers) (Tmc (NumberOf 0) ∷ [])
