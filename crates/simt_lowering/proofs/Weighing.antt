-- How many words lowered code comes to.
use Rattle.std.proofs.Common.{◌≡◌, ℕ, zero, suc, ◌+◌, ◌*◌, ◌≤◌, List, [], ◌∷◌, length, Option, None, Some, slice_get, Bool, true, false, nat_lt, refl, arith}
use Rattle.std.proofs.lemmas.Bool.{cond_both}
use Rattle.vx_base.specs.declared.types.Alu.{Alu}
use Rattle.vx_base.specs.declared.types.Alu.TheVariants.{Add, Sub, Sll, Slt, Sltu, Xor, Srl, Sra, Or, And, Mul, Mulh, Mulhsu, Mulhu, Div, Divu, Rem, Remu}
use Rattle.vx_base.specs.declared.types.Elem.{Elem}
use Rattle.vx_base.specs.declared.types.Elem.TheVariants.{Char, Uchar, Short, Ushort, Int, Uint}
use Rattle.vx_base.specs.declared.types.ParamKind.{ParamKind}
use Rattle.vx_base.specs.declared.types.ParamKind.TheVariants.{Scalar, Pointer}
use Rattle.vx_base.specs.declared.types.Pos.{Pos}
use Rattle.ocl_ast.specs.declared.units.Param.{Param}
use Rattle.ocl_program.specs.declared.exprs.ArrayRef.{ArrayRef}
use Rattle.ocl_program.specs.declared.exprs.ArrayRef.TheVariants.{Parameter, Declared}
use Rattle.ocl_program.specs.declared.exprs.Builtin.{Builtin}
use Rattle.ocl_program.specs.declared.exprs.Builtin.TheVariants.{WorkDim, GlobalId, LocalId, GroupId, GlobalSize, LocalSize, NumGroups, GlobalOffset, Min, Max, Clamp, Abs, MulHi}
use Rattle.ocl_program.specs.declared.functions.LocalArray.{LocalArray}
use Rattle.kir.specs.Trees.{Operand, VariableOf, NumberOf, Op, Set, Calculate, Fit, Id, Load, Store, Check, Barrier, If, Loop, Break, Continue, Return, Call, Ops, NoOps, AndOp}
use Rattle.kir.specs.Weights as kir
use Rattle.kir.specs.Weights.{weight, weight_in, test_words, count_words, id_words}
use Rattle.vcode.specs.Code.{VOp, Fresh, Word, Fetch, Write, Tmc, Wspawn}
use Rattle.vcode.specs.Words.{number_words, operand_words, shift_words, right_words, op_words, words}
use Rattle.kir.specs.Loops.{loop_nesting}
use Rattle.simt_lowering.specs.Bounds.{WordsWithin}
use Rattle.simt_lowering.specs.Kept.{known_of_kernel}
use Rattle.uniformity.specs.Marks.{is_uniform}
use Rattle.simt_lowering.specs.Lowered.{Known, Part, own, held, further, splits, joins, keeps_mask, goes_on, mask_of, one_place, other_place, if_code, step_place, head_place, body_place, loop_code, ops_end, op_end, lowered, lowered_op, kept_id, group_word, size_word, id_code, shift_of, param_start, declared_start, started, address, param_count, counted, checked, zeroed, scalar, scalars, ids_code, declared_count, registers_for, body_start, item_lanes}

-- ---- numbers and operands

number_fits : (n : ℕ) → number_words n ≤ 2
number_fits zero = omega arith
number_fits (suc n) = cond_both (nat_lt n 2047) 1 2 (λ x. x ≤ 2) (λ e. omega arith) (λ e. omega arith)

shift_fits : (n : ℕ) → shift_words n ≤ 2
shift_fits n = cond_both (nat_lt n 32) 0 (number_words n) (λ x. x ≤ 2) (λ e. omega arith) (λ e. number_fits n)

operand_fits : (a : Operand) → operand_words a ≤ kir.operand_words a
operand_fits (VariableOf r) = omega arith
operand_fits (NumberOf n) = number_fits n

right_fits : (op : Alu) (a : Operand) → right_words op a ≤ kir.operand_words a
right_fits Add a = operand_fits a
right_fits Sub a = operand_fits a
right_fits Sll (VariableOf r) = omega arith
right_fits Sll (NumberOf n) = shift_fits n
right_fits Slt a = operand_fits a
right_fits Sltu a = operand_fits a
right_fits Xor a = operand_fits a
right_fits Srl (VariableOf r) = omega arith
right_fits Srl (NumberOf n) = shift_fits n
right_fits Sra (VariableOf r) = omega arith
right_fits Sra (NumberOf n) = shift_fits n
right_fits Or a = operand_fits a
right_fits And a = operand_fits a
right_fits Mul a = operand_fits a
right_fits Mulh a = operand_fits a
right_fits Mulhsu a = operand_fits a
right_fits Mulhu a = operand_fits a
right_fits Div a = operand_fits a
right_fits Divu a = operand_fits a
right_fits Rem a = operand_fits a
right_fits Remu a = operand_fits a

-- a test is loaded twice at most
test_fits : (t : Operand) → operand_words t + operand_words t ≤ test_words t + 2
test_fits (VariableOf r) = omega arith
test_fits (NumberOf n) = let h : number_words n ≤ 2 = number_fits n in omega arith

-- ---- parts

splits_fit : (u : Bool) (t : Operand) (c : List VOp) → words (splits u t c) ≤ operand_words t + 1 + words c
splits_fit true t c = omega arith
splits_fit false t c = omega arith

joins_fit : (u : Bool) (c : List VOp) → words (joins u c) ≤ 1 + words c
joins_fit true c = omega arith
joins_fit false c = omega arith

mask_fits : (u : Bool) (m : ℕ) (c : List VOp) → words (keeps_mask u m c) ≤ 2 + words c
mask_fits true m c = omega arith
mask_fits false m c = omega arith

pred_fits : (u : Bool) (t : Operand) (m : ℕ) (c : List VOp) → words (goes_on u t m c) ≤ operand_words t + 2 + words c
pred_fits true t m c = omega arith
pred_fits false t m c = omega arith

-- a part comes to no more than a weight
abbrev Weighs : Part → ℕ → Type 0
Weighs part most = (p : ℕ) (c : List VOp) → words (part.code p c) ≤ most + words c

if_sum : (o t m m' all one other join c : ℕ) → o + o ≤ t + 2 → all ≤ o + 1 + (o + 2 + one) → one ≤ m + (1 + other) → other ≤ m' + join → join ≤ 1 + c
    → all ≤ t + 9 + (m + m') + c
if_sum o t m m' all one other join c h h0 h1 h2 h3 = omega arith

if_fits : (u : Bool) (t : Operand) (one other : Part) (m m' p : ℕ) (c : List VOp) → Weighs one m → Weighs other m' → words (if_code u t one other p c) ≤ test_words t + 9 + (m + m') + words c
if_fits u t one other m m' p c fits fits' =
    if_sum (operand_words t) (test_words t) m m' _ _ _ _ (words c) (test_fits t) (splits_fit u t _) (fits (one_place u p) _) (fits' (other_place u one p) (joins u c)) (joins_fit u c)

loop_sum : (o t m m' m'' mask step head pred body c : ℕ) → o + o ≤ t + 2 → mask ≤ 2 + (1 + step) → step ≤ m + head → head ≤ m' + pred → pred ≤ o + 2 + (o + 2 + body) → body ≤ m'' + (1 + c)
    → 0 + mask ≤ t + 10 + (m' + (m'' + m)) + c
loop_sum o t m m' m'' mask step head pred body c h h0 h1 h2 h3 h4 = omega arith

loop_fits : (u : Bool) (t : Operand) (mask : ℕ) (step head body : Part) (m m' m'' p : ℕ) (c : List VOp) → Weighs step m → Weighs head m' → Weighs body m''
    → words (loop_code u t mask step head body p c) ≤ test_words t + 10 + (m' + (m'' + m)) + words c
loop_fits u t mask step head body m m' m'' p c fits fits' fits'' =
    loop_sum (operand_words t) (test_words t) m m' m'' _ _ _ _ _ (words c) (test_fits t) (mask_fits u mask _) (fits (step_place u p) _) (fits' (head_place u step p) _)
    (pred_fits u t mask _) (fits'' (body_place u step head p) _)

-- ---- operations

shift_is_free : (elem : Elem) → right_words Sll (NumberOf (shift_of elem)) ≡ 0
shift_is_free Char = refl
shift_is_free Uchar = refl
shift_is_free Short = refl
shift_is_free Ushort = refl
shift_is_free Int = refl
shift_is_free Uint = refl

param_start_fits : (r j : ℕ) (param : Option Param) → op_words (param_start r j param) ≤ 2
param_start_fits r j None = omega arith
param_start_fits r j (Some param) = omega arith

declared_start_fits : (r j : ℕ) (array : Option LocalArray) → op_words (declared_start r j array) ≤ 2
declared_start_fits r j None = omega arith
declared_start_fits r j (Some array) = omega arith

start_fits : (k : Known) (array : ArrayRef) → op_words (started k array) ≤ 2
start_fits k (Parameter j) = param_start_fits (own k 0) j (slice_get k.params j)
start_fits k (Declared j) = declared_start_fits (own k 0) j (slice_get k.arrays j)

param_count_fits : (r j : ℕ) (param : Option Param) → op_words (param_count r j param) ≤ 2
param_count_fits r j None = omega arith
param_count_fits r j (Some param) = omega arith

one_more : (n : ℕ) → n ≤ 2 → n + 1 ≤ 3
one_more n h = omega arith

count_fits : (k : Known) (array : ArrayRef) → op_words (counted k array) ≤ count_words array
count_fits k (Parameter j) = param_count_fits (own k 0) j (slice_get k.params j)
count_fits k (Declared j) = one_more (number_words (declared_count (slice_get k.arrays j))) (number_fits (declared_count (slice_get k.arrays j)))

address_sum : (start a a' shift c : ℕ) → start ≤ 2 → a ≤ a' → shift ≡ 0 → start + (a + shift + 2 + (1 + 1 + 2 + c)) ≤ a' + 8 + c
address_sum start a a' shift c h h' h'' = omega arith

address_fits : (k : Known) (array : ArrayRef) (elem : Elem) (a : Operand) (c : List VOp) → words (address k array elem a c) ≤ kir.operand_words a + 8 + words c
address_fits k array elem a c =
    address_sum (op_words (started k array)) (operand_words a) (kir.operand_words a) (right_words Sll (NumberOf (shift_of elem))) (words c) (start_fits k array) (operand_fits a) (shift_is_free elem)

check_fits : (k : Known) (u : Bool) (pos : Pos) (p : ℕ) (c : List VOp) → words (checked k u pos p c) ≤ 7 + words c
check_fits k true pos p c = omega arith
check_fits k false pos p c = omega arith

kept_fits : (k : Known) (i d : ℕ) (a : Operand) (c : List VOp) → words (kept_id k i d a c) ≤ id_words a + words c
kept_fits k i d (NumberOf zero) c = omega arith
kept_fits k i d (NumberOf (suc zero)) c = omega arith
kept_fits k i d (NumberOf (suc (suc zero))) c = omega arith
kept_fits k i d (NumberOf (suc (suc (suc n)))) c = omega arith
kept_fits k i d (VariableOf x) c = omega arith

group_fits : (k : Known) (w d : ℕ) (a : Operand) (c : List VOp) → words (group_word k w d a c) ≤ id_words a + words c
group_fits k w d (NumberOf zero) c = omega arith
group_fits k w d (NumberOf (suc zero)) c = omega arith
group_fits k w d (NumberOf (suc (suc zero))) c = omega arith
group_fits k w d (NumberOf (suc (suc (suc n)))) c = omega arith
group_fits k w d (VariableOf x) c = omega arith

size_fits : (k : Known) (w d : ℕ) (a : Operand) (c : List VOp) → words (size_word k w d a c) ≤ id_words a + words c
size_fits k w d (NumberOf zero) c = omega arith
size_fits k w d (NumberOf (suc zero)) c = omega arith
size_fits k w d (NumberOf (suc (suc zero))) c = omega arith
size_fits k w d (NumberOf (suc (suc (suc n)))) c = omega arith
size_fits k w d (VariableOf x) c = omega arith

-- of any built-in function
some_words : (a : Operand) → 3 ≤ id_words a
some_words (VariableOf x) = omega arith
some_words (NumberOf zero) = omega arith
some_words (NumberOf (suc n)) = omega arith

-- a word of the block, and a number
word_fits : (a : Operand) (c : List VOp) → 2 + words c ≤ id_words a + words c
word_fits a c = let h : 3 ≤ id_words a = some_words a in omega arith

zero_fits : (a : Operand) (c : List VOp) → 0 + 1 + words c ≤ id_words a + words c
zero_fits a c = let h : 3 ≤ id_words a = some_words a in omega arith

id_fits : (k : Known) (d : ℕ) (which : Builtin) (a : Operand) (c : List VOp) → words (id_code k d which a c) ≤ id_words a + words c
id_fits k d WorkDim a c = word_fits a c
id_fits k d GlobalId a c = kept_fits k 5 d a c
id_fits k d LocalId a c = kept_fits k 2 d a c
id_fits k d GroupId a c = group_fits k 3 d a c
id_fits k d LocalSize a c = size_fits k 6 d a c
id_fits k d GlobalSize a c = size_fits k 9 d a c
id_fits k d NumGroups a c = size_fits k 12 d a c
id_fits k d GlobalOffset a c = zero_fits a c
id_fits k d Min a c = zero_fits a c
id_fits k d Max a c = zero_fits a c
id_fits k d Clamp a c = zero_fits a c
id_fits k d Abs a c = zero_fits a c
id_fits k d MulHi a c = zero_fits a c

behind_sum : (all more rest w w' : ℕ) → all ≤ w + more → more ≤ w' + rest → all ≤ w + w' + rest
behind_sum all more rest w w' h h' = omega arith

load_sum : (all a c : ℕ) → all ≤ a + 8 + (1 + 2 + c) → all ≤ a + 11 + c
load_sum all a c h = omega arith

store_sum : (all a b b' c : ℕ) → all ≤ a + 8 + (1 + b + 1 + c) → b ≤ b' → all ≤ a + b' + 10 + c
store_sum all a b b' c h h' = omega arith

check_sum : (count count' a a' checked c : ℕ) → count ≤ count' → a ≤ a' → checked ≤ 7 + c → count + (a + 1 + 2 + checked) ≤ count' + a' + 12 + c
check_sum count count' a a' checked c h h' h'' = omega arith

single_sum : (a a' b b' n n' c : ℕ) → a ≤ a' → b ≤ b' → n ≤ n' → a + b + n + c ≤ a' + b' + n' + c
single_sum a a' b b' n n' c h h' h'' = omega arith

lone_sum : (a a' n n' c : ℕ) → a ≤ a' → n ≤ n' → a + n + c ≤ a' + n' + c
lone_sum a a' n n' c h h' = omega arith

mutual
  pub ops_weigh : (k : Known) (depth : ℕ) (ops : Ops) (p : ℕ) (c : List VOp) → words (lowered k depth ops p c) ≤ weight ops + words c
  ops_weigh k depth NoOps p c = omega arith
  ops_weigh k depth (AndOp op ops) p c =
      behind_sum _ (words (lowered k depth ops (op_end k.marks op p) c)) (words c) (weight_in op) (weight ops) (op_weighs k depth op p (lowered k depth ops (op_end k.marks op p) c))
      (ops_weigh k depth ops (op_end k.marks op p) c)

  op_weighs : (k : Known) (depth : ℕ) (op : Op) (p : ℕ) (c : List VOp) → words (lowered_op k depth op p c) ≤ weight_in op + words c
  op_weighs k depth (Set d a) p c = lone_sum (operand_words a) (kir.operand_words a) 1 1 (words c) (operand_fits a) (omega arith)
  op_weighs k depth (Calculate d op a b) p c =
      single_sum (operand_words a) (kir.operand_words a) (right_words op b) (kir.operand_words b) 2 2 (words c) (operand_fits a) (right_fits op b) (omega arith)
  op_weighs k depth (Fit d elem a) p c = lone_sum (operand_words a) (kir.operand_words a) 3 5 (words c) (operand_fits a) (omega arith)
  op_weighs k depth (Id d which a) p c = id_fits k d which a c
  op_weighs k depth (Load d array elem a) p c = load_sum _ (kir.operand_words a) (words c) (address_fits k array elem a (Fetch d elem (held k 0) ∷ c))
  op_weighs k depth (Store array elem a b) p c = store_sum _ (kir.operand_words a) (operand_words b) (kir.operand_words b) (words c) (address_fits k array elem a (Write elem (held k 0) b ∷ c)) (operand_fits b)
  op_weighs k depth (Check array a pos) p c =
      check_sum (op_words (counted k array)) (count_words array) (operand_words a) (kir.operand_words a) _ (words c) (count_fits k array) (operand_fits a)
      (check_fits k (is_uniform k.marks a) pos (further 2 p) c)
  op_weighs k depth (Barrier site) p c = omega arith
  op_weighs k depth (If t one other) p c =
      if_fits (is_uniform k.marks t) t (record { end = ops_end k.marks one; code = lowered k depth one }) (record { end = ops_end k.marks other; code = lowered k depth other })
      (weight one) (weight other) p c (ops_weigh k depth one) (ops_weigh k depth other)
  op_weighs k depth (Loop head t body step) p c =
      loop_fits (is_uniform k.marks t) t (mask_of k depth) (record { end = ops_end k.marks step; code = lowered k (suc depth) step })
      (record { end = ops_end k.marks head; code = lowered k (suc depth) head }) (record { end = ops_end k.marks body; code = lowered k (suc depth) body })
      (weight step) (weight head) (weight body) p c (ops_weigh k (suc depth) step) (ops_weigh k (suc depth) head) (ops_weigh k (suc depth) body)
  op_weighs k depth Break p c = omega arith
  op_weighs k depth Continue p c = omega arith
  op_weighs k depth Return p c = omega arith
  op_weighs k depth (Call body) p c = omega arith

-- ---- the first operations

zeroed_weighs : (r count : ℕ) (c : List VOp) → words (zeroed r count c) ≡ count + words c
zeroed_weighs r zero c = omega arith
zeroed_weighs r (suc count) c = let h : words (zeroed (suc r) count c) ≡ count + words c = zeroed_weighs (suc r) count c in omega arith

kind_weighs : (kind : ParamKind) (j r most : ℕ) (next : ℕ → List VOp) → ((r' : ℕ) → words (next r') ≤ most) → words (scalar kind j r next) ≤ 2 + most
kind_weighs (Scalar elem) j r most next fits = let h : words (next (suc r)) ≤ most = fits (suc r) in omega arith
kind_weighs (Pointer space elem readonly) j r most next fits = let h : words (next r) ≤ most = fits r in omega arith

scalars_weigh : (params : List Param) (j r : ℕ) (c : List VOp) → words (scalars j r params c) ≤ 2 * length params + words c
scalars_weigh [] j r c = omega arith
scalars_weigh (param ∷ params) j r c =
    let h : words (scalar param.kind j r (λ r'. scalars (suc j) r' params c)) ≤ 2 + (2 * length params + words c) =
    kind_weighs param.kind j r (2 * length params + words c) (λ r'. scalars (suc j) r' params c) (λ r'. scalars_weigh params (suc j) r' c) in omega arith

ids_weigh : (k : Known) (c : List VOp) → words (ids_code k c) ≤ 94 + words c
ids_weigh k c = omega arith

kernel_sum : (cleared filled ids body registers params weight : ℕ) → cleared ≡ registers + filled → filled ≤ params + ids → ids ≤ 94 + body → body ≤ weight + (0 + 1 + 0)
    → 69 + cleared ≤ 166 + (registers + (params + weight))
kernel_sum cleared filled ids body registers params weight h h' h'' g = omega arith

-- the first fifteen operations
opening_words : (k : Known) (rest : List VOp) (most : ℕ) → 69 + words rest ≤ most → words (Fresh ∷ Word (own k 0) 0 ∷ Wspawn (held k 0) 3 ∷ Fresh ∷ item_lanes k (Fresh ∷ rest)) ≤ most
opening_words k rest most h = omega arith

pub words_within : WordsWithin
words_within code marks =
    let k : Known = known_of_kernel marks code in
    let registers : ℕ = registers_for code.variables (loop_nesting code.ops) in
    let body : List VOp = lowered k 0 code.ops (body_start code.params registers) (Tmc (NumberOf 0) ∷ []) in
    let rest : List VOp = zeroed 0 registers (scalars 0 0 code.params (ids_code k body)) in
    let h : 69 + words rest ≤ 166 + (registers + (2 * length code.params + weight code.ops)) =
    kernel_sum (words (zeroed 0 registers (scalars 0 0 code.params (ids_code k body)))) (words (scalars 0 0 code.params (ids_code k body))) (words (ids_code k body)) (words body) registers
    (2 * length code.params) (weight code.ops) (zeroed_weighs 0 registers _) (scalars_weigh code.params 0 0 _) (ids_weigh k body) (ops_weigh k 0 code.ops (body_start code.params registers) (Tmc (NumberOf 0) ∷ [])) in
    opening_words k rest _ h
