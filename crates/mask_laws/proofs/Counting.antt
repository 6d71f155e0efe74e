-- Each barrier of a kernel stands at one place of its code, where its numbers differ.
use Rattle.std.proofs.Common.{◌≡◌, ℕ, zero, suc, ◌+◌, ◌≤◌, Bool, true, false, ◌==◌, List, [], ◌∷◌, ◌++◌, drop, refl, ap, sym, ◌∙◌, subst, arith, eqb-true, eq-eqb, le_trans}
use Rattle.std.specs.Prelude.{if◌then◌else◌, Option, None, Some, slice_get}
use Rattle.std.specs.List.{IsDistinct, AllByRecursion}
use Rattle.vx_base.specs.declared.types.Pos.{Pos}
use Rattle.vx_base.specs.declared.types.ParamKind.{ParamKind}
use Rattle.vx_base.specs.declared.types.ParamKind.TheVariants.{Scalar, Pointer}
use Rattle.ocl_ast.specs.declared.units.Param.{Param}
use Rattle.ocl_program.specs.declared.functions.LocalArray.{LocalArray}
use Rattle.ocl_program.specs.declared.exprs.ArrayRef.{ArrayRef}
use Rattle.ocl_program.specs.declared.exprs.ArrayRef.TheVariants.{Parameter, Declared}
use Rattle.ocl_program.specs.declared.exprs.Builtin.{Builtin}
use Rattle.ocl_program.specs.declared.exprs.Builtin.TheVariants.{WorkDim, GlobalId, LocalId, GroupId, GlobalSize, LocalSize, NumGroups, GlobalOffset, Min, Max, Clamp, Abs, MulHi}
use Rattle.kir.specs.Loops.{loop_nesting}
use Rattle.kir.specs.Measures.{sites, sites_in}
use Rattle.kir.specs.Trees.{Operand, VariableOf, NumberOf, Op, Set, Calculate, Fit, Id, Load, Store, Check, Barrier, If, Loop, Break, Continue, Return, Call, Ops, NoOps, AndOp, KirCode}
use Rattle.uniformity.specs.Marks.{is_uniform}
use Rattle.vcode.specs.Code.{VOp, Bar, Tmc}
use Rattle.simt_lowering.specs.Kept.{known_of_kernel}
use Rattle.simt_lowering.specs.Lowered.{Known, Part, own, mask_of, registers_for, further, kept_id, group_word, size_word, id_code, started, param_start, declared_start, counted, param_count, checked, if_code, loop_code, ops_end, op_end, lowered, lowered_op, zeroed, scalar, scalars, ids_code, body_start, kernel_code}

-- how often a number is in a list, and how often its barrier is in code
abbrev pub count : ℕ → List ℕ → ℕ
count s [] = 0
count s (n ∷ ns) = (if s == n then 1 else 0) + count s ns

abbrev pub bars : ℕ → List VOp → ℕ
bars s [] = 0
bars s (Bar n ∷ c) = (if s == n then 1 else 0) + bars s c
bars s (op ∷ c) = bars s c

count_both : (s : ℕ) (xs ys : List ℕ) → count s (xs ++ ys) ≡ count s xs + count s ys
count_both s [] ys = none_more (count s ys) where
  none_more : (n : ℕ) → n ≡ 0 + n
  none_more n = omega arith
count_both s (x ∷ xs) ys = ap (λ n. (if s == x then 1 else 0) + n) (count_both s xs ys) ∙ regroup (if s == x then 1 else 0) (count s xs) (count s ys) where
  regroup : (a b c : ℕ) → a + (b + c) ≡ (a + b) + c
  regroup a b c = omega arith

-- ---- numbers that differ

absent : (x : ℕ) (xs : List ℕ) → AllByRecursion (λ y. (x == y) ≡ false) xs → count x xs ≡ 0
absent x [] h = refl
absent x (y ∷ ys) h = ap (λ b. (if b then 1 else 0) + count x ys) h.0 ∙ ap (λ n. 0 + n) (absent x ys h.1)

one_or_none : (s x : ℕ) (xs : List ℕ) (b : Bool) → (s == x) ≡ b → AllByRecursion (λ y. (x == y) ≡ false) xs → count s xs ≤ 1 → (if b then 1 else 0) + count s xs ≤ 1
one_or_none s x xs true e absent' few = let none : count s xs ≡ 0 = ap (λ y. count y xs) (eqb-true s x e) ∙ absent x xs absent' in omega (arith, none)
one_or_none s x xs false e absent' few = omega (arith, few)

at_most_one : (s : ℕ) (xs : List ℕ) → IsDistinct (λ (m n : ℕ). m == n) xs → count s xs ≤ 1
unfolding IsDistinct
at_most_one s [] h = omega arith
at_most_one s (x ∷ xs) h = one_or_none s x xs (s == x) refl h.0 (at_most_one s xs h.1)

-- ---- code

kept_bars : (s : ℕ) (k : Known) (i d : ℕ) (a : Operand) (c : List VOp) → bars s (kept_id k i d a c) ≡ bars s c
kept_bars s k i d (NumberOf zero) c = refl
kept_bars s k i d (NumberOf (suc zero)) c = refl
kept_bars s k i d (NumberOf (suc (suc zero))) c = refl
kept_bars s k i d (NumberOf (suc (suc (suc n)))) c = refl
kept_bars s k i d (VariableOf x) c = refl

group_bars : (s : ℕ) (k : Known) (w d : ℕ) (a : Operand) (c : List VOp) → bars s (group_word k w d a c) ≡ bars s c
group_bars s k w d (NumberOf zero) c = refl
group_bars s k w d (NumberOf (suc zero)) c = refl
group_bars s k w d (NumberOf (suc (suc zero))) c = refl
group_bars s k w d (NumberOf (suc (suc (suc n)))) c = refl
group_bars s k w d (VariableOf x) c = refl

size_bars : (s : ℕ) (k : Known) (w d : ℕ) (a : Operand) (c : List VOp) → bars s (size_word k w d a c) ≡ bars s c
size_bars s k w d (NumberOf zero) c = refl
size_bars s k w d (NumberOf (suc zero)) c = refl
size_bars s k w d (NumberOf (suc (suc zero))) c = refl
size_bars s k w d (NumberOf (suc (suc (suc n)))) c = refl
size_bars s k w d (VariableOf x) c = refl

id_bars : (s : ℕ) (k : Known) (d : ℕ) (which : Builtin) (a : Operand) (c : List VOp) → bars s (id_code k d which a c) ≡ bars s c
id_bars s k d WorkDim a c = refl
id_bars s k d GlobalId a c = kept_bars s k 5 d a c
id_bars s k d LocalId a c = kept_bars s k 2 d a c
id_bars s k d GroupId a c = group_bars s k 3 d a c
id_bars s k d GlobalSize a c = size_bars s k 9 d a c
id_bars s k d LocalSize a c = size_bars s k 6 d a c
id_bars s k d NumGroups a c = size_bars s k 12 d a c
id_bars s k d GlobalOffset a c = refl
id_bars s k d Min a c = refl
id_bars s k d Max a c = refl
id_bars s k d Clamp a c = refl
id_bars s k d Abs a c = refl
id_bars s k d MulHi a c = refl

param_start_bars : (s r j : ℕ) (o : Option Param) (c : List VOp) → bars s (param_start r j o ∷ c) ≡ bars s c
param_start_bars s r j None c = refl
param_start_bars s r j (Some param) c = refl

declared_start_bars : (s r j : ℕ) (o : Option LocalArray) (c : List VOp) → bars s (declared_start r j o ∷ c) ≡ bars s c
declared_start_bars s r j None c = refl
declared_start_bars s r j (Some array) c = refl

started_bars : (s : ℕ) (k : Known) (array : ArrayRef) (c : List VOp) → bars s (started k array ∷ c) ≡ bars s c
started_bars s k (Parameter j) c = param_start_bars s (own k 0) j (slice_get k.params j) c
started_bars s k (Declared j) c = declared_start_bars s (own k 0) j (slice_get k.arrays j) c

param_count_bars : (s r j : ℕ) (o : Option Param) (c : List VOp) → bars s (param_count r j o ∷ c) ≡ bars s c
param_count_bars s r j None c = refl
param_count_bars s r j (Some param) c = refl

counted_bars : (s : ℕ) (k : Known) (array : ArrayRef) (c : List VOp) → bars s (counted k array ∷ c) ≡ bars s c
counted_bars s k (Parameter j) c = param_count_bars s (own k 0) j (slice_get k.params j) c
counted_bars s k (Declared j) c = refl

checked_bars : (s : ℕ) (k : Known) (u : Bool) (pos : Pos) (p : ℕ) (c : List VOp) → bars s (checked k u pos p c) ≡ bars s c
checked_bars s k true pos p c = refl
checked_bars s k false pos p c = refl

-- a part has at most so many
abbrev Few : ℕ → ℕ → (ℕ → List VOp → List VOp) → Type 0
Few s n code = (p : ℕ) (c : List VOp) → bars s (code p c) ≤ n + bars s c

two_sums : (x y z a b : ℕ) → x ≤ a + y → y ≤ b + z → x ≤ (a + b) + z
two_sums x y z a b h h' = omega (arith, h, h')

three_sums : (x y z v h b s : ℕ) → x ≤ s + y → y ≤ h + z → z ≤ b + v → x ≤ (h + (b + s)) + v
three_sums x y z v h b s e e' e'' = omega (arith, e, e', e'')

if_few : (s : ℕ) (u : Bool) (t : Operand) (one other : Part) (a b p : ℕ) (c : List VOp) → Few s a one.code → Few s b other.code → bars s (if_code u t one other p c) ≤ (a + b) + bars s c
if_few s true t one other a b p c first second = two_sums _ _ _ a b (first _ _) (second _ c)
if_few s false t one other a b p c first second = two_sums _ _ _ a b (first _ _) (second _ _)

loop_few : (s : ℕ) (u : Bool) (t : Operand) (m : ℕ) (step head body : Part) (a b d p : ℕ) (c : List VOp) → Few s a step.code → Few s b head.code → Few s d body.code
    → bars s (loop_code u t m step head body p c) ≤ (b + (d + a)) + bars s c
loop_few s true t m step head body a b d p c first second third = three_sums _ _ _ _ b d a (first _ _) (second _ _) (third _ _)
loop_few s false t m step head body a b d p c first second third = three_sums _ _ _ _ b d a (first _ _) (second _ _) (third _ _)

no_more : (n m : ℕ) → n ≡ m → n ≤ 0 + m
no_more n m e = omega (arith, e)

any_more : (n m : ℕ) → n ≤ m + n
any_more n m = omega arith

mutual
  ops_few : (s : ℕ) (k : Known) (depth : ℕ) (ops : Ops) (p : ℕ) (c : List VOp) → bars s (lowered k depth ops p c) ≤ count s (sites ops) + bars s c
  ops_few s k depth NoOps p c = no_more (bars s c) (bars s c) refl
  ops_few s k depth (AndOp op ops) p c =
      subst (λ n. bars s (lowered_op k depth op p (lowered k depth ops (op_end k.marks op p) c)) ≤ n + bars s c) (sym (count_both s (sites_in op) (sites ops)))
      (two_sums _ _ _ (count s (sites_in op)) (count s (sites ops)) (op_few s k depth op p (lowered k depth ops (op_end k.marks op p) c)) (ops_few s k depth ops (op_end k.marks op p) c))

  op_few : (s : ℕ) (k : Known) (depth : ℕ) (op : Op) (p : ℕ) (c : List VOp) → bars s (lowered_op k depth op p c) ≤ count s (sites_in op) + bars s c
  op_few s k depth (Set d a) p c = no_more _ (bars s c) refl
  op_few s k depth (Calculate d op a b) p c = no_more _ (bars s c) refl
  op_few s k depth (Fit d elem a) p c = no_more _ (bars s c) refl
  op_few s k depth (Id d which a) p c = no_more _ (bars s c) (id_bars s k d which a c)
  op_few s k depth (Load d array elem a) p c = no_more _ (bars s c) (started_bars s k array _)
  op_few s k depth (Store array elem a b) p c = no_more _ (bars s c) (started_bars s k array _)
  op_few s k depth (Check array a pos) p c = no_more _ (bars s c) (counted_bars s k array _ ∙ checked_bars s k (is_uniform k.marks a) pos (further 2 p) c)
  op_few s k depth (Barrier site) p c = one_more (if s == site then 1 else 0) (bars s c) where
    one_more : (n m : ℕ) → n + m ≤ (n + 0) + m
    one_more n m = omega arith
  op_few s k depth (If t one other) p c =
      subst (λ n. bars s (lowered_op k depth (If t one other) p c) ≤ n + bars s c) (sym (count_both s (sites one) (sites other)))
      (if_few s (is_uniform k.marks t) t (record { end = ops_end k.marks one; code = lowered k depth one }) (record { end = ops_end k.marks other; code = lowered k depth other })
      (count s (sites one)) (count s (sites other)) p c (λ q d. ops_few s k depth one q d) (λ q d. ops_few s k depth other q d))
  op_few s k depth (Loop head t body step) p c =
      subst (λ n. bars s (lowered_op k depth (Loop head t body step) p c) ≤ n + bars s c)
      (sym (count_both s (sites head) (sites body ++ sites step) ∙ ap (λ n. count s (sites head) + n) (count_both s (sites body) (sites step))))
      (loop_few s (is_uniform k.marks t) t (mask_of k depth) (record { end = ops_end k.marks step; code = lowered k (suc depth) step })
      (record { end = ops_end k.marks head; code = lowered k (suc depth) head }) (record { end = ops_end k.marks body; code = lowered k (suc depth) body })
      (count s (sites step)) (count s (sites head)) (count s (sites body)) p c
      (λ q d. ops_few s k (suc depth) step q d) (λ q d. ops_few s k (suc depth) head q d) (λ q d. ops_few s k (suc depth) body q d))
  op_few s k depth Break p c = no_more _ (bars s c) refl
  op_few s k depth Continue p c = no_more _ (bars s c) refl
  op_few s k depth Return p c = no_more _ (bars s c) refl
  op_few s k depth (Call body) p c = any_more (bars s c) (count s (sites body))

-- ---- a kernel

zeroed_bars : (s n r : ℕ) (c : List VOp) → bars s (zeroed r n c) ≡ bars s c
zeroed_bars s zero r c = refl
zeroed_bars s (suc n) r c = zeroed_bars s n (suc r) c

scalar_bars : (s : ℕ) (kind : ParamKind) (j r : ℕ) (next : ℕ → List VOp) (n : ℕ) → ((r' : ℕ) → bars s (next r') ≡ n) → bars s (scalar kind j r next) ≡ n
scalar_bars s (Scalar elem) j r next n same = same (suc r)
scalar_bars s (Pointer space elem readonly) j r next n same = same r

scalars_bars : (s : ℕ) (params : List Param) (j r : ℕ) (c : List VOp) → bars s (scalars j r params c) ≡ bars s c
scalars_bars s [] j r c = refl
scalars_bars s (param ∷ params) j r c = scalar_bars s param.kind j r (λ r'. scalars (suc j) r' params c) (bars s c) (λ r'. scalars_bars s params (suc j) r' c)

kernel_few : (s : ℕ) (marks : ℕ → Bool) (code : KirCode) → bars s (kernel_code marks code) ≤ count s (sites code.ops)
kernel_few s marks code =
    let k : Known = known_of_kernel marks code in
    let registers : ℕ = registers_for code.variables (loop_nesting code.ops) in
    let body : List VOp = lowered k 0 code.ops (body_start code.params registers) (Tmc (NumberOf 0) ∷ []) in
    subst (λ n. n ≤ count s (sites code.ops)) (sym (zeroed_bars s registers 0 (scalars 0 0 code.params (ids_code k body)) ∙ scalars_bars s code.params 0 0 (ids_code k body)))
    (subst (λ n. bars s body ≤ n) (none_behind (count s (sites code.ops))) (ops_few s k 0 code.ops (body_start code.params registers) (Tmc (NumberOf 0) ∷ []))) where
      none_behind : (n : ℕ) → n + 0 ≡ n
      none_behind n = omega arith

-- ---- one place

itself : (s : ℕ) → ◌≡◌ {A = ℕ} (if s == s then 1 else 0) 1
itself s = ap {B = ℕ} (λ b. if b then 1 else 0) (eq-eqb s s refl)

same_op : {a b : VOp} {as' bs : List VOp} → (a ∷ as') ≡ (b ∷ bs) → a ≡ b
same_op e = ap head_or e where
  head_or : List VOp → VOp
  head_or [] = Tmc (NumberOf 0)
  head_or (op ∷ rest) = op

tail_bars : (s : ℕ) (op : VOp) (list : List VOp) → bars s list ≤ bars s (op ∷ list)
tail_bars s (Bar n) list = any_more (bars s list) (if s == n then 1 else 0)
tail_bars s op list = itself_most (bars s list) where
  itself_most : (n : ℕ) → n ≤ n
  itself_most n = omega arith

first_bars : (s : ℕ) (op : VOp) (list : List VOp) → op ≡ Bar s → bars s (op ∷ list) ≡ 1 + bars s list
first_bars s op list e = ap (λ o. bars s (o ∷ list)) e ∙ ap (λ n. n + bars s list) (itself s)

has_bar : (s : ℕ) (list : List VOp) (p : ℕ) (c : List VOp) → drop p list ≡ Bar s ∷ c → 1 ≤ bars s list
has_bar s [] zero c e = absurd (cc)
has_bar s [] (suc p) c e = absurd (cc)
has_bar s (op ∷ list) zero c e = let h : bars s (op ∷ list) ≡ 1 + bars s list = first_bars s op list (same_op e) in omega (arith, h)
has_bar s (op ∷ list) (suc p) c e = le_trans (has_bar s list p c e) (tail_bars s op list)

clash_bars : {P : Type 0} (n m : ℕ) → n ≡ 1 + m → n ≤ 1 → 1 ≤ m → P
clash_bars n m e few some = absurd (omega (arith, e, few, some))

one_place_in : (s : ℕ) (list : List VOp) → bars s list ≤ 1 → (p p' : ℕ) (c c' : List VOp) → drop p list ≡ Bar s ∷ c → drop p' list ≡ Bar s ∷ c' → p ≡ p'
one_place_in s [] few zero p' c c' e e' = absurd (cc)
one_place_in s [] few (suc p) p' c c' e e' = absurd (cc)
one_place_in s (op ∷ list) few zero zero c c' e e' = refl
one_place_in s (op ∷ list) few zero (suc p') c c' e e' = clash_bars (bars s (op ∷ list)) (bars s list) (first_bars s op list (same_op e)) few (has_bar s list p' c' e')
one_place_in s (op ∷ list) few (suc p) zero c c' e e' = clash_bars (bars s (op ∷ list)) (bars s list) (first_bars s op list (same_op e')) few (has_bar s list p c e)
one_place_in s (op ∷ list) few (suc p) (suc p') c c' e e' = ap suc (one_place_in s list (le_trans (tail_bars s op list) few) p p' c c' e e')

-- each barrier stands at one place of a kernel whose numbers of barriers differ
pub one_place_each : (marks : ℕ → Bool) (code : KirCode) → IsDistinct (λ (m n : ℕ). m == n) (sites code.ops) → (s p p' : ℕ) (c c' : List VOp)
    → drop p (kernel_code marks code) ≡ Bar s ∷ c → drop p' (kernel_code marks code) ≡ Bar s ∷ c' → p ≡ p'
one_place_each marks code distinct s p p' c c' e e' = one_place_in s (kernel_code marks code) (le_trans (kernel_few s marks code) (at_most_one s (sites code.ops) distinct)) p p' c c' e e'
