-- Each place that an operation of lowered code leads to is one of its places.
use Rattle.std.proofs.Common.{◌≡◌, ℕ, zero, suc, ◌<◌, ◌≤◌, List, [], ◌∷◌, length, drop, Option, None, Some, slice_get, Bool, true, false, refl, ap, ◌∙◌, arith}
use Rattle.vx_base.specs.declared.types.ParamKind.{ParamKind}
use Rattle.vx_base.specs.declared.types.ParamKind.TheVariants.{Scalar, Pointer}
use Rattle.vx_base.specs.declared.types.Pos.{Pos}
use Rattle.ocl_ast.specs.declared.units.Param.{Param}
use Rattle.ocl_program.specs.declared.exprs.ArrayRef.{ArrayRef}
use Rattle.ocl_program.specs.declared.exprs.ArrayRef.TheVariants.{Parameter, Declared}
use Rattle.ocl_program.specs.declared.exprs.Builtin.{Builtin}
use Rattle.ocl_program.specs.declared.exprs.Builtin.TheVariants.{WorkDim, GlobalId, LocalId, GroupId, GlobalSize, LocalSize, NumGroups, GlobalOffset, Min, Max, Clamp, Abs, MulHi}
use Rattle.ocl_program.specs.declared.functions.LocalArray.{LocalArray}
use Rattle.kir.specs.Loops.{loop_nesting}
use Rattle.kir.specs.Trees.{Operand, VariableOf, NumberOf, Op, Set, Calculate, Fit, Id, Load, Store, Check, Barrier, If, Loop, Break, Continue, Return, Call, Ops, NoOps, AndOp}
use Rattle.vcode.specs.Code.{VOp, Tmc}
use Rattle.vcode.proofs.Steps.{behind}
use Rattle.simt_lowering.specs.Bounds.{LeadWithin, LeadsWithin, LeadsToPlaces}
use Rattle.simt_lowering.specs.Kept.{known_of_kernel}
use Rattle.uniformity.specs.Marks.{is_uniform}
use Rattle.simt_lowering.specs.Lowered.{Known, Part, own, held, further, past, splits, joins, keeps_mask, goes_on, mask_of, one_place, other_place, meet_place, if_end, if_code, step_place, head_place, body_place, loop_end, loop_code, ops_end, op_end, lowered, lowered_op, kept_id, group_word, size_word, id_code, param_start, declared_start, started, param_count, counted, checked, check_end, zeroed, scalar, scalars, scalars_end, behind_kind, ids_code, registers_for, body_start, kernel_code}
use Rattle.simt_lowering.proofs.Stands.{ops_stand}
use Rattle.simt_lowering.proofs.Growing.{Grows, past_grows, meet_low, if_grows, head_low, body_low, loop_low, check_grows, ops_grow}

-- ---- operations lead to places

-- operations that lead to places below a count alone
record In (n : ℕ) (c : List VOp) : Type 0 where
  are : LeadWithin n c

more : (n : ℕ) {op : VOp} {c : List VOp} → LeadsWithin n op → In n c → In n (op ∷ c)
more n one within = record { are = (one, within.are) }

module _ (n : ℕ) where
  at_split : (u : Bool) (t : Operand) (c : List VOp) → In n c → In n (splits u t c)
  at_split true t c within = within
  at_split false t c within = more n tt within

  at_join : (u : Bool) (c : List VOp) → In n c → In n (joins u c)
  at_join true c within = within
  at_join false c within = more n tt within

  at_mask : (u : Bool) (m : ℕ) (c : List VOp) → In n c → In n (keeps_mask u m c)
  at_mask true m c within = within
  at_mask false m c within = more n tt within

  at_pred : (u : Bool) (t : Operand) (m : ℕ) (c : List VOp) → In n c → In n (goes_on u t m c)
  at_pred true t m c within = within
  at_pred false t m c within = more n tt within

  -- a part that leads to places below the count, if it ends below it
  abbrev Leads : Part → Type 0
  Leads part = (p : ℕ) (c : List VOp) → part.end p < n → In n c → In n (part.code p c)

  if_leads : (u : Bool) (t : Operand) (one other : Part) (p : ℕ) (c : List VOp) → Grows one → Grows other → Leads one → Leads other → if_end u one other p < n → In n c
      → In n (if_code u t one other p c)
  if_leads u t one other p c grows grows' leads leads' low within =
      let h : meet_place u one other p ≤ if_end u one other p = if_grows u one other p in
      let h' : other_place u one p ≤ meet_place u one other p = meet_low u one other p grows' in
      let meet : meet_place u one other p < n = omega arith in
      let right : other_place u one p < n = omega arith in
      let left : one.end (one_place u p) < n = omega arith in
      at_split u t _ (more n right (leads (one_place u p) _ left (more n meet (leads' (other_place u one p) _ meet (at_join u c within)))))

  loop_leads : (u : Bool) (t : Operand) (m : ℕ) (step head body : Part) (p : ℕ) (c : List VOp) → Grows step → Grows head → Grows body → Leads step → Leads head → Leads body
      → loop_end u step head body p < n → In n c → In n (loop_code u t m step head body p c)
  loop_leads u t m step head body p c grows grows' grows'' leads leads' leads'' low within =
      let h : step_place u p ≤ head_place u step p = head_low u step p grows in
      let h' : head_place u step p < body_place u step head p = body_low u step head p grows' in
      let h'' : head.end (head_place u step p) ≤ past u (head.end (head_place u step p)) = past_grows u (head.end (head_place u step p)) in
      let g : body_place u step head p < loop_end u step head body p = loop_low u step head body p grows'' in
      let first : step_place u p < n = omega arith in
      let second : head_place u step p < n = omega arith in
      let third : head.end (head_place u step p) < n = omega arith in
      let last : body.end (body_place u step head p) < n = omega arith in
      more n tt (at_mask u m _ (more n second (leads (step_place u p) _ second (leads' (head_place u step p) _ third (at_pred u t m _
      (more n low (leads'' (body_place u step head p) _ last (more n first within))))))))

  check_leads : (k : Known) (u : Bool) (pos : Pos) (p : ℕ) (c : List VOp) → check_end u p < n → In n c → In n (checked k u pos p c)
  check_leads k u pos p c low within =
      let h : further 2 (past u p) ≤ check_end u p = check_grows u p in
      let meet : further 2 (past u p) < n = omega arith in
      at_split u (held k 0) _ (more n meet (more n tt (at_join u c within)))

  kept_leads : (k : Known) (i d : ℕ) (a : Operand) (c : List VOp) → In n c → In n (kept_id k i d a c)
  kept_leads k i d (NumberOf zero) c within = more n tt within
  kept_leads k i d (NumberOf (suc zero)) c within = more n tt within
  kept_leads k i d (NumberOf (suc (suc zero))) c within = more n tt (more n tt (more n tt within))
  kept_leads k i d (NumberOf (suc (suc (suc m)))) c within = more n tt within
  kept_leads k i d (VariableOf x) c within = more n tt (more n tt (more n tt (more n tt (more n tt (more n tt (more n tt within))))))

  group_leads : (k : Known) (w d : ℕ) (a : Operand) (c : List VOp) → In n c → In n (group_word k w d a c)
  group_leads k w d (NumberOf zero) c within = more n tt within
  group_leads k w d (NumberOf (suc zero)) c within = more n tt within
  group_leads k w d (NumberOf (suc (suc zero))) c within = more n tt within
  group_leads k w d (NumberOf (suc (suc (suc m)))) c within = more n tt within
  group_leads k w d (VariableOf x) c within = more n tt (more n tt (more n tt (more n tt within)))

  size_leads : (k : Known) (w d : ℕ) (a : Operand) (c : List VOp) → In n c → In n (size_word k w d a c)
  size_leads k w d (NumberOf zero) c within = more n tt within
  size_leads k w d (NumberOf (suc zero)) c within = more n tt within
  size_leads k w d (NumberOf (suc (suc zero))) c within = more n tt within
  size_leads k w d (NumberOf (suc (suc (suc m)))) c within = more n tt within
  size_leads k w d (VariableOf x) c within = more n tt (more n tt (more n tt (more n tt (more n tt (more n tt within)))))

  id_leads : (k : Known) (d : ℕ) (which : Builtin) (a : Operand) (c : List VOp) → In n c → In n (id_code k d which a c)
  id_leads k d WorkDim a c within = more n tt within
  id_leads k d GlobalId a c within = kept_leads k 5 d a c within
  id_leads k d LocalId a c within = kept_leads k 2 d a c within
  id_leads k d GroupId a c within = group_leads k 3 d a c within
  id_leads k d LocalSize a c within = size_leads k 6 d a c within
  id_leads k d GlobalSize a c within = size_leads k 9 d a c within
  id_leads k d NumGroups a c within = size_leads k 12 d a c within
  id_leads k d GlobalOffset a c within = more n tt within
  id_leads k d Min a c within = more n tt within
  id_leads k d Max a c within = more n tt within
  id_leads k d Clamp a c within = more n tt within
  id_leads k d Abs a c within = more n tt within
  id_leads k d MulHi a c within = more n tt within

  param_starts : (r j : ℕ) (param : Option Param) → LeadsWithin n (param_start r j param)
  param_starts r j None = tt
  param_starts r j (Some param) = tt

  declared_starts : (r j : ℕ) (array : Option LocalArray) → LeadsWithin n (declared_start r j array)
  declared_starts r j None = tt
  declared_starts r j (Some array) = tt

  starts : (k : Known) (array : ArrayRef) → LeadsWithin n (started k array)
  starts k (Parameter j) = param_starts (own k 0) j (slice_get k.params j)
  starts k (Declared j) = declared_starts (own k 0) j (slice_get k.arrays j)

  param_counts : (r j : ℕ) (param : Option Param) → LeadsWithin n (param_count r j param)
  param_counts r j None = tt
  param_counts r j (Some param) = tt

  counts : (k : Known) (array : ArrayRef) → LeadsWithin n (counted k array)
  counts k (Parameter j) = param_counts (own k 0) j (slice_get k.params j)
  counts k (Declared j) = tt

  mutual
    ops_lead : (k : Known) (depth : ℕ) (ops : Ops) (p : ℕ) (c : List VOp) → ops_end k.marks ops p < n → In n c → In n (lowered k depth ops p c)
    ops_lead k depth NoOps p c low within = within
    ops_lead k depth (AndOp op ops) p c low within =
        let h : op_end k.marks op p ≤ ops_end k.marks ops (op_end k.marks op p) = ops_grow k.marks ops (op_end k.marks op p) in
        let first : op_end k.marks op p < n = omega arith in
        op_leads k depth op p _ first (ops_lead k depth ops (op_end k.marks op p) c low within)

    op_leads : (k : Known) (depth : ℕ) (op : Op) (p : ℕ) (c : List VOp) → op_end k.marks op p < n → In n c → In n (lowered_op k depth op p c)
    op_leads k depth (Set d a) p c low within = more n tt within
    op_leads k depth (Calculate d op a b) p c low within = more n tt within
    op_leads k depth (Fit d elem a) p c low within = more n tt within
    op_leads k depth (Id d which a) p c low within = id_leads k d which a c within
    op_leads k depth (Load d array elem a) p c low within = more n (starts k array) (more n tt (more n tt (more n tt within)))
    op_leads k depth (Store array elem a b) p c low within = more n (starts k array) (more n tt (more n tt (more n tt within)))
    op_leads k depth (Check array a pos) p c low within = more n (counts k array) (more n tt (check_leads k (is_uniform k.marks a) pos (further 2 p) c low within))
    op_leads k depth (Barrier site) p c low within = more n tt within
    op_leads k depth (If t one other) p c low within =
        if_leads (is_uniform k.marks t) t (record { end = ops_end k.marks one; code = lowered k depth one }) (record { end = ops_end k.marks other; code = lowered k depth other }) p c
        (λ q. ops_grow k.marks one q) (λ q. ops_grow k.marks other q) (λ q c' l w. ops_lead k depth one q c' l w) (λ q c' l w. ops_lead k depth other q c' l w) low within
    op_leads k depth (Loop head t body step) p c low within =
        loop_leads (is_uniform k.marks t) t (mask_of k depth) (record { end = ops_end k.marks step; code = lowered k (suc depth) step })
        (record { end = ops_end k.marks head; code = lowered k (suc depth) head }) (record { end = ops_end k.marks body; code = lowered k (suc depth) body }) p c
        (λ q. ops_grow k.marks step q) (λ q. ops_grow k.marks head q) (λ q. ops_grow k.marks body q)
        (λ q c' l w. ops_lead k (suc depth) step q c' l w) (λ q c' l w. ops_lead k (suc depth) head q c' l w) (λ q c' l w. ops_lead k (suc depth) body q c' l w) low within
    op_leads k depth Break p c low within = within
    op_leads k depth Continue p c low within = within
    op_leads k depth Return p c low within = within
    op_leads k depth (Call body) p c low within = within

  -- ---- the first operations

  zeroed_lead : (r count : ℕ) (c : List VOp) → In n c → In n (zeroed r count c)
  zeroed_lead r zero c within = within
  zeroed_lead r (suc count) c within = more n tt (zeroed_lead (suc r) count c within)

  kind_leads : (kind : ParamKind) (j r : ℕ) (next : ℕ → List VOp) → ((r' : ℕ) → In n (next r')) → In n (scalar kind j r next)
  kind_leads (Scalar elem) j r next within = more n tt (within (suc r))
  kind_leads (Pointer space elem readonly) j r next within = within r

  scalars_lead : (params : List Param) (j r : ℕ) (c : List VOp) → In n c → In n (scalars j r params c)
  scalars_lead [] j r c within = within
  scalars_lead (param ∷ params) j r c within = kind_leads param.kind j r (λ r'. scalars (suc j) r' params c) (λ r'. scalars_lead params (suc j) r' c within)

  ids_lead : (k : Known) (c : List VOp) → In n c → In n (ids_code k c)
  ids_lead k c within =
      more n tt (more n tt (more n tt (more n tt (more n tt (more n tt (more n tt (more n tt (more n tt (more n tt (more n tt
      (more n tt (more n tt (more n tt (more n tt (more n tt (more n tt (more n tt (more n tt (more n tt (more n tt (more n tt (more n tt
      (more n tt (more n tt (more n tt (more n tt (more n tt (more n tt within))))))))))))))))))))))))))))

-- ---- where the body stands

module _ (code : List VOp) where
  zeroed_stands : (r count p : ℕ) (c : List VOp) → drop p code ≡ zeroed r count c → drop (further count p) code ≡ c
  zeroed_stands r zero p c e = e
  zeroed_stands r (suc count) p c e = zeroed_stands (suc r) count (suc p) c (behind code _ _ p e)

  kind_stands : (kind : ParamKind) (j r p q : ℕ) (next : ℕ → List VOp) (c : List VOp) → ((r' : ℕ) → drop (behind_kind kind p) code ≡ next r' → drop q code ≡ c) → drop p code ≡ scalar kind j r next
      → drop q code ≡ c
  kind_stands (Scalar elem) j r p q next c then e = then (suc r) (behind code _ _ p e)
  kind_stands (Pointer space elem readonly) j r p q next c then e = then r e

  scalars_stand : (params : List Param) (j r p : ℕ) (c : List VOp) → drop p code ≡ scalars j r params c → drop (scalars_end params p) code ≡ c
  scalars_stand [] j r p c e = e
  scalars_stand (param ∷ params) j r p c e =
      kind_stands param.kind j r p (scalars_end params (behind_kind param.kind p)) (λ r'. scalars (suc j) r' params c) c (λ r' e'. scalars_stand params (suc j) r' (behind_kind param.kind p) c e') e

-- more places are left out
drop_more : {X : Type 0} (count : ℕ) (xs : List X) → drop count (drop 1 xs) ≡ drop (suc count) xs
drop_more zero [] = refl
drop_more (suc count) [] = refl
drop_more count (x ∷ xs) = refl

drop_one : {X : Type 0} (p : ℕ) (xs : List X) → drop (suc p) xs ≡ drop 1 (drop p xs)
drop_one zero xs = refl
drop_one (suc p) [] = refl
drop_one (suc p) (x ∷ xs) = drop_one p xs

further_drop : {X : Type 0} (count p : ℕ) (xs : List X) → drop (further count p) xs ≡ drop count (drop p xs)
further_drop zero p xs = refl
further_drop (suc count) p xs = further_drop count (suc p) xs ∙ ap (drop count) (drop_one p xs) ∙ drop_more count (drop p xs)

-- where an operation stands, a place is
is_place : (code rest : List VOp) (op : VOp) (p : ℕ) → drop p code ≡ op ∷ rest → p < length code
is_place [] rest op zero e = absurd (cc)
is_place [] rest op (suc p) e = absurd (cc)
is_place (x ∷ code) rest op zero e = omega arith
is_place (x ∷ code) rest op (suc p) e = let h : p < length code = is_place code rest op p e in omega arith

pub leads_to_places : LeadsToPlaces
leads_to_places code marks =
    let k : Known = known_of_kernel marks code in
    let c : List VOp = kernel_code marks code in
    let registers : ℕ = registers_for code.variables (loop_nesting code.ops) in
    let body : List VOp = lowered k 0 code.ops (body_start code.params registers) (Tmc (NumberOf 0) ∷ []) in
    let filled : drop (further registers 15) c ≡ scalars 0 0 code.params (ids_code k body) = zeroed_stands c 0 registers 15 _ refl in
    let known : drop (scalars_end code.params (further registers 15)) c ≡ ids_code k body = scalars_stand c code.params 0 0 (further registers 15) _ filled in
    let begins : drop (body_start code.params registers) c ≡ body = further_drop 29 (scalars_end code.params (further registers 15)) c ∙ ap (drop 29) known in
    let ends : drop (ops_end marks code.ops (body_start code.params registers)) c ≡ Tmc (NumberOf 0) ∷ [] = ops_stand c k 0 code.ops (body_start code.params registers) (Tmc (NumberOf 0) ∷ []) begins in
    let low : ops_end marks code.ops (body_start code.params registers) < length c = is_place c _ _ _ ends in
    let spawn : 3 < length c = is_place c _ _ 3 refl in
    let n : ℕ = length c in
    let inside : In n body = ops_lead n k 0 code.ops (body_start code.params registers) (Tmc (NumberOf 0) ∷ []) low (more n tt (record { are = tt })) in
    let all : In n c =
    more n tt (more n tt (more n spawn (more n tt (more n tt (more n tt (more n tt (more n tt (more n tt (more n tt (more n tt (more n tt (more n tt (more n tt (more n tt
    (zeroed_lead n 0 registers _ (scalars_lead n code.params 0 0 _ (ids_lead n k body inside))))))))))))))))) in
    all.are
