-- The registers of lowered code, its numbers, and the words of the launch block that it names.
use Rattle.std.proofs.Common.{◌≡◌, ℕ, zero, suc, ◌+◌, ◌*◌, ◌<◌, ◌≤◌, ◌^◌, List, [], ◌∷◌, length, Option, None, Some, slice_get, Bool, true, false, refl, arith}
use Rattle.std.specs.Prelude.{max}
use Rattle.vx_base.specs.declared.types.Alu.{Alu}
use Rattle.vx_base.specs.declared.types.Alu.TheVariants.{Add, Sub, Sll, Srl, Sltu, Mul, Divu, Remu}
use Rattle.vx_base.specs.declared.types.Elem.{Elem}
use Rattle.vx_base.specs.declared.types.Elem.TheVariants.{Char, Uchar, Short, Ushort, Int, Uint}
use Rattle.vx_base.specs.declared.types.ParamKind.{ParamKind}
use Rattle.vx_base.specs.declared.types.ParamKind.TheVariants.{Scalar, Pointer}
use Rattle.vx_base.specs.declared.types.Pos.{Pos}
use Rattle.ocl_ast.specs.declared.units.Param.{Param}
use Rattle.ocl_program.specs.declared.exprs.ArrayRef.{ArrayRef}
use Rattle.ocl_program.specs.declared.exprs.ArrayRef.TheVariants.{Parameter, Declared}
use Rattle.ocl_program.specs.declared.exprs.Builtin.{Builtin}
use Rattle.ocl_program.specs.declared.exprs.Builtin.TheVariants.{WorkDim, GlobalId, LocalId, GroupId, GlobalSize, LocalSize, NumGroups, GlobalOffset, Min, Max, Clamp, Abs, MulHi}
use Rattle.ocl_program.specs.declared.functions.LocalArray.{LocalArray}
use Rattle.kir.specs.Loops.{loop_nesting, loop_nesting_in}
use Rattle.kir.specs.Numbered.{IsBelow, AreBelow, OpBelow}
use Rattle.kir.specs.Trees.{Operand, VariableOf, NumberOf, Op, Set, Calculate, Fit, Id, Load, Store, Check, Barrier, If, Loop, Break, Continue, Return, Call, Ops, NoOps, AndOp}
use Rattle.vcode.specs.declared.ops.Csr.{Csr}
use Rattle.vcode.specs.declared.ops.Csr.TheVariants.{LaneNumber, WarpNumber}
use Rattle.vcode.specs.Code.{VOp, Compute, Word, Learn, Tmc}
use Rattle.simt_lowering.specs.Bounds.{AreWithin, OpWithin, RegistersWithin, scalar_count, with_scalar}
use Rattle.simt_lowering.specs.Kept.{known_of_kernel}
use Rattle.uniformity.specs.Marks.{is_uniform}
use Rattle.simt_lowering.specs.Lowered.{Known, Part, own, held, further, splits, joins, keeps_mask, goes_on, mask_of, if_code, loop_code, ops_end, op_end, lowered, lowered_op, kept_id, group_word, size_word, id_code, shift_of, param_start, declared_start, started, address, param_count, declared_count, counted, checked, zeroed, scalar, scalars, item_lanes, local_ids, global_ids, local_ids_code, global_id_code, differences, ids_code, registers_for, body_start, kernel_code}

-- more registers
operand_more : (m n : ℕ) (a : Operand) → m ≤ n → IsBelow m a → IsBelow n a
operand_more m n (VariableOf r) more low = omega arith
operand_more m n (NumberOf x) more low = low

shift_is_word : (elem : Elem) → shift_of elem < 2 ^ 32
shift_is_word Char = omega arith
shift_is_word Uchar = omega arith
shift_is_word Short = omega arith
shift_is_word Ushort = omega arith
shift_is_word Int = omega arith
shift_is_word Uint = omega arith

-- what a list has stands below its length
has_below : {X : Type 0} (xs : List X) (i : ℕ) (x : X) → slice_get xs i ≡ Some x → i < length xs
has_below [] i x e = absurd (cc)
has_below (y ∷ xs) zero x e = omega arith
has_below (y ∷ xs) (suc i) x e = let low : i < length xs = has_below xs i x e in omega arith

-- what is known of the kernel and of its registers
record Limits (k : Known) (n : ℕ) : Type 0 where
  params : length k.params ≤ 16
  arrays : length k.arrays ≤ 16
  counts : (j : ℕ) (array : LocalArray) → slice_get k.arrays j ≡ Some array → array.count < 2 ^ 32
  room : k.variables + 8 ≤ n

-- operations that are within
record In (n : ℕ) (c : List VOp) : Type 0 where
  are : AreWithin n c

more : (n : ℕ) {op : VOp} {c : List VOp} → OpWithin n op → In n c → In n (op ∷ c)
more n one within = record { are = (one, within.are) }

module _ (n : ℕ) where
  splits_within : (u : Bool) (t : Operand) (c : List VOp) → IsBelow n t → In n c → In n (splits u t c)
  splits_within true t c low within = within
  splits_within false t c low within = more n low within

  joins_within : (u : Bool) (c : List VOp) → In n c → In n (joins u c)
  joins_within true c within = within
  joins_within false c within = more n tt within

  mask_within : (u : Bool) (m : ℕ) (c : List VOp) → m < n → In n c → In n (keeps_mask u m c)
  mask_within true m c low within = within
  mask_within false m c low within = more n low within

  pred_within : (u : Bool) (t : Operand) (m : ℕ) (c : List VOp) → IsBelow n t → m < n → In n c → In n (goes_on u t m c)
  pred_within true t m c low less within = within
  pred_within false t m c low less within = more n (low, less) within

  -- a part that is within, if what follows is
  abbrev Holds : Part → Type 0
  Holds part = (p : ℕ) (c : List VOp) → In n c → In n (part.code p c)

  if_within : (u : Bool) (t : Operand) (one other : Part) (p : ℕ) (c : List VOp) → IsBelow n t → Holds one → Holds other → In n c → In n (if_code u t one other p c)
  if_within u t one other p c low holds holds' within =
      splits_within u t _ low (more n low (holds _ _ (more n tt (holds' _ _ (joins_within u c within)))))

  loop_within : (u : Bool) (t : Operand) (m : ℕ) (step head body : Part) (p : ℕ) (c : List VOp) → IsBelow n t → m < n → Holds step → Holds head → Holds body → In n c
      → In n (loop_code u t m step head body p c)
  loop_within u t m step head body p c low less holds holds' holds'' within =
      more n tt (mask_within u m _ less (more n tt (holds _ _ (holds' _ _ (pred_within u t m _ low less (more n low (holds'' _ _ (more n tt within))))))))

module _ (k : Known) (n : ℕ) (limits : Limits k n) where
  own_below : (i : ℕ) → i < 8 → own k i < n
  own_below i low = let room : k.variables + 8 ≤ n = limits.room in omega arith

  raised : (a : Operand) → IsBelow k.variables a → IsBelow n a
  raised a low = let room : k.variables + 8 ≤ n = limits.room in operand_more k.variables n a (omega arith) low

  -- single operations in front of others
  word_in : (i w : ℕ) (c : List VOp) → i < 8 → w < 64 → In n c → In n (Word (own k i) w ∷ c)
  word_in i w c low few within = more n (own_below i low, few) within

  learn_in : (i : ℕ) (csr : Csr) (c : List VOp) → i < 8 → In n c → In n (Learn (own k i) csr ∷ c)
  learn_in i csr c low within = more n (own_below i low) within

  computes_in : (i : ℕ) (op : Alu) (a b : Operand) (c : List VOp) → i < 8 → IsBelow n a → IsBelow n b → In n c → In n (Compute (own k i) op a b ∷ c)
  computes_in i op a b c low left right within = more n (own_below i low, left, right) within

  owns_in : (i j l : ℕ) (op : Alu) (c : List VOp) → i < 8 → j < 8 → l < 8 → In n c → In n (Compute (own k i) op (held k j) (held k l) ∷ c)
  owns_in i j l op c low left right within = computes_in i op (held k j) (held k l) c low (own_below j left) (own_below l right) within

  -- ids
  kept_within : (i d : ℕ) (a : Operand) (c : List VOp) → i < 6 → d < n → IsBelow n a → In n c → In n (kept_id k i d a c)
  kept_within i d (NumberOf zero) c few low below within = more n (low, own_below i (omega arith)) within
  kept_within i d (NumberOf (suc zero)) c few low below within = more n (low, own_below i (omega arith), own_below (i + 1) (omega arith)) within
  kept_within i d (NumberOf (suc (suc zero))) c few low below within =
      owns_in 0 (i + 1) (i + 1) Add _ (omega arith) (omega arith) (omega arith) (owns_in 0 0 (i + 2) Add _ (omega arith) (omega arith) (omega arith)
      (more n (low, own_below 0 (omega arith), own_below i (omega arith)) within))
  kept_within i d (NumberOf (suc (suc (suc m)))) c few low below within = more n (low, (omega arith)) within
  kept_within i d (VariableOf x) c few low below within =
      computes_in 0 Mul (VariableOf x) (held k (i + 1)) _ (omega arith) below (own_below (i + 1) (omega arith))
      (computes_in 1 Srl (VariableOf x) (NumberOf 1) _ (omega arith) below (omega arith)
      (owns_in 1 1 (i + 2) Mul _ (omega arith) (omega arith) (omega arith)
      (owns_in 0 0 1 Add _ (omega arith) (omega arith) (omega arith)
      (owns_in 0 0 i Add _ (omega arith) (omega arith) (omega arith)
      (computes_in 1 Sltu (VariableOf x) (NumberOf 3) _ (omega arith) below (omega arith)
      (more n (low, own_below 0 (omega arith), own_below 1 (omega arith)) within))))))

  group_within : (w d : ℕ) (a : Operand) (c : List VOp) → w < 60 → d < n → IsBelow n a → In n c → In n (group_word k w d a c)
  group_within w d (NumberOf zero) c few low below within = more n (low, (omega arith)) within
  group_within w d (NumberOf (suc zero)) c few low below within = more n (low, (omega arith)) within
  group_within w d (NumberOf (suc (suc zero))) c few low below within = more n (low, (omega arith)) within
  group_within w d (NumberOf (suc (suc (suc m)))) c few low below within = more n (low, (omega arith)) within
  group_within w d (VariableOf x) c few low below within =
      computes_in 0 Sltu (VariableOf x) (NumberOf 3) _ (omega arith) below (omega arith)
      (computes_in 1 Mul (VariableOf x) (held k 0) _ (omega arith) below (own_below 0 (omega arith))
      (more n (own_below 1 (omega arith), own_below 1 (omega arith), (omega arith)) (more n (low, own_below 1 (omega arith), own_below 0 (omega arith)) within)))

  size_within : (w d : ℕ) (a : Operand) (c : List VOp) → w < 60 → d < n → IsBelow n a → In n c → In n (size_word k w d a c)
  size_within w d (NumberOf zero) c few low below within = more n (low, (omega arith)) within
  size_within w d (NumberOf (suc zero)) c few low below within = more n (low, (omega arith)) within
  size_within w d (NumberOf (suc (suc zero))) c few low below within = more n (low, (omega arith)) within
  size_within w d (NumberOf (suc (suc (suc m)))) c few low below within = more n (low, (omega arith)) within
  size_within w d (VariableOf x) c few low below within =
      computes_in 0 Sltu (VariableOf x) (NumberOf 3) _ (omega arith) below (omega arith)
      (computes_in 1 Mul (VariableOf x) (held k 0) _ (omega arith) below (own_below 0 (omega arith))
      (more n (own_below 1 (omega arith), own_below 1 (omega arith), (omega arith))
      (computes_in 1 Sub (held k 1) (NumberOf 1) _ (omega arith) (own_below 1 (omega arith)) (omega arith)
      (owns_in 1 1 0 Mul _ (omega arith) (omega arith) (omega arith)
      (more n (low, own_below 1 (omega arith), (omega arith)) within)))))

  id_within : (d : ℕ) (which : Builtin) (a : Operand) (c : List VOp) → d < n → IsBelow n a → In n c → In n (id_code k d which a c)
  id_within d WorkDim a c low below within = more n (low, (omega arith)) within
  id_within d GlobalId a c low below within = kept_within 5 d a c (omega arith) low below within
  id_within d LocalId a c low below within = kept_within 2 d a c (omega arith) low below within
  id_within d GroupId a c low below within = group_within 3 d a c (omega arith) low below within
  id_within d LocalSize a c low below within = size_within 6 d a c (omega arith) low below within
  id_within d GlobalSize a c low below within = size_within 9 d a c (omega arith) low below within
  id_within d NumGroups a c low below within = size_within 12 d a c (omega arith) low below within
  id_within d GlobalOffset a c low below within = more n (low, (omega arith)) within
  id_within d Min a c low below within = more n (low, (omega arith)) within
  id_within d Max a c low below within = more n (low, (omega arith)) within
  id_within d Clamp a c low below within = more n (low, (omega arith)) within
  id_within d Abs a c low below within = more n (low, (omega arith)) within
  id_within d MulHi a c low below within = more n (low, (omega arith)) within

  -- arrays
  param_word_low : (j w : ℕ) (param : Param) → slice_get k.params j ≡ Some param → w < 18 → w + 2 * j < 64
  param_word_low j w param e few =
      let low : j < length k.params = has_below k.params j param e in let most : length k.params ≤ 16 = limits.params in omega arith

  declared_word_low : (j : ℕ) (array : LocalArray) → slice_get k.arrays j ≡ Some array → 48 + j < 64
  declared_word_low j array e =
      let low : j < length k.arrays = has_below k.arrays j array e in let most : length k.arrays ≤ 16 = limits.arrays in omega arith

  param_start_within : (j : ℕ) (param : Option Param) → slice_get k.params j ≡ param → OpWithin n (param_start (own k 0) j param)
  param_start_within j None e = (own_below 0 (omega arith), (omega arith))
  param_start_within j (Some param) e = (own_below 0 (omega arith), param_word_low j 16 param e (omega arith))

  declared_start_within : (j : ℕ) (array : Option LocalArray) → slice_get k.arrays j ≡ array → OpWithin n (declared_start (own k 0) j array)
  declared_start_within j None e = (own_below 0 (omega arith), (omega arith))
  declared_start_within j (Some array) e = (own_below 0 (omega arith), declared_word_low j array e)

  start_within : (array : ArrayRef) → OpWithin n (started k array)
  start_within (Parameter j) = param_start_within j (slice_get k.params j) refl
  start_within (Declared j) = declared_start_within j (slice_get k.arrays j) refl

  param_count_within : (j : ℕ) (param : Option Param) → slice_get k.params j ≡ param → OpWithin n (param_count (own k 0) j param)
  param_count_within j None e = (own_below 0 (omega arith), (omega arith))
  param_count_within j (Some param) e = (own_below 0 (omega arith), param_word_low j 17 param e (omega arith))

  declared_count_low : (j : ℕ) (array : Option LocalArray) → slice_get k.arrays j ≡ array → declared_count array < 2 ^ 32
  declared_count_low j None e = omega arith
  declared_count_low j (Some array) e = limits.counts j array e

  count_within : (array : ArrayRef) → OpWithin n (counted k array)
  count_within (Parameter j) = param_count_within j (slice_get k.params j) refl
  count_within (Declared j) = (own_below 0 (omega arith), declared_count_low j (slice_get k.arrays j) refl)

  address_within : (array : ArrayRef) (elem : Elem) (a : Operand) (c : List VOp) → IsBelow n a → In n c → In n (address k array elem a c)
  address_within array elem a c below within =
      more n (start_within array) (computes_in 1 Sll a (NumberOf (shift_of elem)) _ (omega arith) below (shift_is_word elem) (owns_in 0 0 1 Add c (omega arith) (omega arith) (omega arith) within))

  check_within : (u : Bool) (pos : Pos) (p : ℕ) (c : List VOp) → In n c → In n (checked k u pos p c)
  check_within u pos p c within = splits_within n u (held k 0) _ (own_below 0 (omega arith)) (more n (own_below 0 (omega arith)) (more n tt (joins_within n u c within)))

  -- so many loops stand round an operation and in it
  abbrev Room : ℕ → ℕ → Type 0
  Room depth loops = k.variables + (8 + (depth + loops)) ≤ n

  room_one : (depth a b : ℕ) → Room depth (max a b) → Room depth a
  room_one depth a b room = omega arith

  room_other : (depth a b : ℕ) → Room depth (max a b) → Room depth b
  room_other depth a b room = omega arith

  room_inner : (depth a : ℕ) → Room depth (suc a) → Room (suc depth) a
  room_inner depth a room = omega arith

  mask_low : (depth a : ℕ) → Room depth (suc a) → mask_of k depth < n
  mask_low depth a room = omega arith

  var_low : (d : ℕ) → d < k.variables → d < n
  var_low d low = let room : k.variables + 8 ≤ n = limits.room in omega arith

  mutual
    ops_within : (depth : ℕ) (ops : Ops) (p : ℕ) (c : List VOp) → AreBelow k.variables ops → Room depth (loop_nesting ops) → In n c → In n (lowered k depth ops p c)
    ops_within depth NoOps p c below room within = within
    ops_within depth (AndOp op ops) p c below room within =
        op_within depth op p _ below.0 (room_one depth (loop_nesting_in op) (loop_nesting ops) room)
        (ops_within depth ops (op_end k.marks op p) c below.1 (room_other depth (loop_nesting_in op) (loop_nesting ops) room) within)

    op_within : (depth : ℕ) (op : Op) (p : ℕ) (c : List VOp) → OpBelow k.variables op → Room depth (loop_nesting_in op) → In n c → In n (lowered_op k depth op p c)
    op_within depth (Set d a) p c below room within = more n (var_low d below.0, raised a below.1) within
    op_within depth (Calculate d op a b) p c below room within = more n (var_low d below.0, raised a below.1, raised b below.2) within
    op_within depth (Fit d elem a) p c below room within = more n (var_low d below.0, raised a below.1) within
    op_within depth (Id d which a) p c below room within = id_within d which a c (var_low d below.0) (raised a below.1) within
    op_within depth (Load d array elem a) p c below room within =
        address_within array elem a _ (raised a below.1) (more n (var_low d below.0, own_below 0 (omega arith)) within)
    op_within depth (Store array elem a b) p c below room within =
        address_within array elem a _ (raised a below.0) (more n (own_below 0 (omega arith), raised b below.1) within)
    op_within depth (Check array a pos) p c below room within =
        more n (count_within array) (computes_in 0 Sltu a (held k 0) _ (omega arith) (raised a below) (own_below 0 (omega arith)) (check_within (is_uniform k.marks a) pos (further 2 p) c within))
    op_within depth (Barrier site) p c below room within = more n tt within
    op_within depth (If t one other) p c below room within =
        if_within n (is_uniform k.marks t) t (record { end = ops_end k.marks one; code = lowered k depth one }) (record { end = ops_end k.marks other; code = lowered k depth other }) p c (raised t below.0)
        (λ q c' w. ops_within depth one q c' below.1 (room_one depth (loop_nesting one) (loop_nesting other) room) w)
        (λ q c' w. ops_within depth other q c' below.2 (room_other depth (loop_nesting one) (loop_nesting other) room) w) within
    op_within depth (Loop head t body step) p c below room within =
        let inner : Room (suc depth) (max (loop_nesting head) (max (loop_nesting body) (loop_nesting step))) = room_inner depth _ room in
        let rest : Room (suc depth) (max (loop_nesting body) (loop_nesting step)) = room_other (suc depth) (loop_nesting head) (max (loop_nesting body) (loop_nesting step)) inner in
        loop_within n (is_uniform k.marks t) t (mask_of k depth) (record { end = ops_end k.marks step; code = lowered k (suc depth) step })
        (record { end = ops_end k.marks head; code = lowered k (suc depth) head }) (record { end = ops_end k.marks body; code = lowered k (suc depth) body }) p c (raised t below.0)
        (mask_low depth _ room)
        (λ q c' w. ops_within (suc depth) step q c' below.3 (room_other (suc depth) (loop_nesting body) (loop_nesting step) rest) w)
        (λ q c' w. ops_within (suc depth) head q c' below.1 (room_one (suc depth) (loop_nesting head) (max (loop_nesting body) (loop_nesting step)) inner) w)
        (λ q c' w. ops_within (suc depth) body q c' below.2 (room_one (suc depth) (loop_nesting body) (loop_nesting step) rest) w) within
    op_within depth Break p c below room within = within
    op_within depth Continue p c below room within = within
    op_within depth Return p c below room within = within
    op_within depth (Call body) p c below room within = within

  -- ---- the first operations

  lanes_within : (c : List VOp) → In n c → In n (item_lanes k c)
  lanes_within c within =
      word_in 0 1 _ (omega arith) (omega arith) (learn_in 1 WarpNumber _ (omega arith) (word_in 2 15 _ (omega arith) (omega arith)
      (owns_in 1 1 2 Mul _ (omega arith) (omega arith) (omega arith) (owns_in 0 0 1 Sub _ (omega arith) (omega arith) (omega arith)
      (computes_in 1 Sltu (held k 0) (NumberOf 32) _ (omega arith) (own_below 0 (omega arith)) (omega arith)
      (computes_in 0 Sub (NumberOf 32) (held k 0) _ (omega arith) (omega arith) (own_below 0 (omega arith))
      (owns_in 0 0 1 Mul _ (omega arith) (omega arith) (omega arith)
      (computes_in 0 Srl (NumberOf 0xffffffff) (held k 0) _ (omega arith) (omega arith) (own_below 0 (omega arith))
      (more n (own_below 0 (omega arith)) within)))))))))

  zeroed_within : (r count : ℕ) (c : List VOp) → r + count ≤ n → In n c → In n (zeroed r count c)
  zeroed_within r zero c room within = within
  zeroed_within r (suc count) c room within = more n ((omega arith), (omega arith)) (zeroed_within (suc r) count c (omega arith) within)

  kind_within : (kind : ParamKind) (j r rest : ℕ) (next : ℕ → List VOp) → j < 16 → r + with_scalar kind rest ≤ n → ((r' : ℕ) → r' + rest ≤ n → In n (next r'))
      → In n (scalar kind j r next)
  kind_within (Scalar elem) j r rest next few room within = more n ((omega arith), (omega arith)) (within (suc r) (omega arith))
  kind_within (Pointer space elem readonly) j r rest next few room within = within r room

  scalars_within : (params : List Param) (j r : ℕ) (c : List VOp) → j + length params ≤ 16 → r + scalar_count params ≤ n → In n c → In n (scalars j r params c)
  scalars_within [] j r c few room within = within
  scalars_within (param ∷ params) j r c few room within =
      kind_within param.kind j r (scalar_count params) (λ r'. scalars (suc j) r' params c) (omega arith) room (λ r' room'. scalars_within params (suc j) r' c (omega arith) room' within)

  local_within : (c : List VOp) → In n c → In n (local_ids_code k c)
  local_within c within =
      learn_in 0 WarpNumber _ (omega arith) (word_in 1 15 _ (omega arith) (omega arith) (owns_in 0 0 1 Mul _ (omega arith) (omega arith) (omega arith) (learn_in 1 LaneNumber _ (omega arith)
      (owns_in 0 0 1 Add _ (omega arith) (omega arith) (omega arith) (word_in 1 6 _ (omega arith) (omega arith) (owns_in 2 0 1 Remu _ (omega arith) (omega arith) (omega arith)
      (owns_in 0 0 1 Divu _ (omega arith) (omega arith) (omega arith) (word_in 1 7 _ (omega arith) (omega arith) (owns_in 3 0 1 Remu _ (omega arith) (omega arith) (omega arith)
      (owns_in 4 0 1 Divu c (omega arith) (omega arith) (omega arith) within))))))))))

  global_within : (d : ℕ) (c : List VOp) → d < 3 → In n c → In n (global_id_code k d c)
  global_within d c low within =
      word_in 0 (3 + d) _ (omega arith) (omega arith) (word_in 1 (6 + d) _ (omega arith) (omega arith) (owns_in 0 0 1 Mul _ (omega arith) (omega arith) (omega arith)
      (owns_in (5 + d) 0 (2 + d) Add c (omega arith) (omega arith) (omega arith) within)))

  differ_within : (i : ℕ) (c : List VOp) → i < 6 → In n c → In n (differences k i c)
  differ_within i c low within =
      owns_in (i + 2) (i + 2) (i + 1) Sub _ (omega arith) (omega arith) (omega arith) (owns_in (i + 1) (i + 1) i Sub _ (omega arith) (omega arith) (omega arith)
      (owns_in (i + 2) (i + 2) (i + 1) Sub c (omega arith) (omega arith) (omega arith) within))

  ids_within : (c : List VOp) → In n c → In n (ids_code k c)
  ids_within c within =
      local_within _ (global_within 0 _ (omega arith) (global_within 1 _ (omega arith) (global_within 2 _ (omega arith) (differ_within local_ids _ (omega arith) (differ_within global_ids c (omega arith) within)))))

pub registers_within : RegistersWithin
registers_within code marks limited =
    let k : Known = known_of_kernel marks code in
    let n : ℕ = registers_for code.variables (loop_nesting code.ops) in
    let limits : Limits k n = record { params = limited.params; arrays = limited.arrays; counts = limited.counts; room = omega arith } in
    let few : length code.params ≤ 16 = limited.params in
    let scalar : scalar_count code.params ≤ code.variables = limited.scalars in
    let body : In n (lowered k 0 code.ops (body_start code.params n) (Tmc (NumberOf 0) ∷ [])) =
    ops_within k n limits 0 code.ops _ _ limited.below (omega arith) (more n (omega arith) (record { are = tt })) in
    let all : In n (kernel_code marks code) =
    more n tt (word_in k n limits 0 0 _ (omega arith) (omega arith) (more n (own_below k n limits 0 (omega arith)) (more n tt (lanes_within k n limits _
    (more n tt (zeroed_within k n limits 0 n _ (omega arith) (scalars_within k n limits code.params 0 0 _ (omega arith) (omega arith) (ids_within k n limits _ body)))))))) in
    all.are
