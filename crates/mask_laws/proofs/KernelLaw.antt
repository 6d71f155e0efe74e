-- Every place of a lowered kernel fits, where marks are closed.
use Rattle.std.proofs.Common.{◌≡◌, ℕ, zero, suc, ◌+◌, ◌<◌, ◌≤◌, inl, inr, max, Bool, true, false, ◌&&◌, List, [], ◌∷◌, drop, refl, sym, ◌∙◌, subst, arith, le_trans}
use Rattle.vx_base.specs.declared.types.Alu.TheVariants.{Sltu}
use Rattle.vx_base.specs.declared.types.Pos.{Pos}
use Rattle.vx_base.specs.declared.types.ParamKind.{ParamKind}
use Rattle.vx_base.specs.declared.types.ParamKind.TheVariants.{Scalar, Pointer}
use Rattle.ocl_ast.specs.declared.units.Param.{Param}
use Rattle.ocl_program.specs.declared.exprs.ArrayRef.{ArrayRef}
use Rattle.ocl_program.specs.declared.exprs.Builtin.{Builtin}
use Rattle.ocl_program.specs.declared.exprs.Builtin.TheVariants.{WorkDim, GlobalId, LocalId, GroupId, GlobalSize, LocalSize, NumGroups, GlobalOffset, Min, Max, Clamp, Abs, MulHi}
use Rattle.kir.specs.Loops.{loop_nesting}
use Rattle.kir.specs.Measures.{branching, branching_in}
use Rattle.kir.specs.Numbered.{AreBelow, OpBelow}
use Rattle.kir.specs.Trees.{Operand, NumberOf, Op, Set, Calculate, Fit, Id, Load, Store, Check, Barrier, If, Loop, Break, Continue, Return, Call, Ops, NoOps, AndOp, KirCode}
use Rattle.uniformity.specs.Marks as uniform
use Rattle.uniformity.specs.Marks.{AreClosed, OpClosed, OnlyIf, gives_uniform, is_uniform}
use Rattle.vcode.specs.Code.{VOp, Fresh, Word, Wspawn, Compute, Tmc}
use Rattle.simt_lowering.specs.Kept.{known_of_kernel, item_place}
use Rattle.simt_lowering.specs.Lowered.{Known, own, held, mask_of, registers_for, further, past, id_count, id_end, counted, ops_end, op_end, item_lanes, zeroed, scalar, scalars, scalars_end, behind_kind, ids_code, body_start}
use Rattle.mask_laws.specs.Laws.{MayLower}
use Rattle.mask_laws.proofs.Sets.{which, clash, both_true}
use Rattle.mask_laws.specs.Spots.{Frame, First, Second, Round, Turning, Straight, Spot}
use Rattle.mask_laws.proofs.Frames.{Whole, sides}
use Rattle.mask_laws.specs.Labels.{agrees}
use Rattle.mask_laws.proofs.Fits.{Under, Fits}
use Rattle.mask_laws.specs.Labels.{spot, flows_all, straight, Labelled, check_spots, if_spots, load_code, loads_constant, labelled, labelled_op, hidden, opening_code, kernel_spots, spot_in}
use Rattle.mask_laws.proofs.Whole.{Starts, all_under, behind_spot, leads, WriteOk, AllOk, all_ok_under, after, straight_ends, straight_fits, FitFrom, all_fit}
use Rattle.mask_laws.proofs.Plain.{MasksIn, clear_high, masks_wider, same_uniform, test_ok, test_agrees, single_ok, IsSingle, single_after}
use Rattle.mask_laws.proofs.Wells.{regions_down, PartWell, Well, check_lab, check_one, check_two, if_lab, if_one, if_two, loop_lab, loop_one, loop_two}

module _ (whole : List Spot) (k : Known) (marks_low : (r : ℕ) → k.marks r ≡ true → r < k.variables) where
  -- ---- where operations start

  straight_starts : (fs : List Frame) (shared : Bool) (ops : List VOp) (c : List Spot) → Starts k.marks fs c → Starts k.marks fs (straight fs shared k.marks ops c)
  straight_starts fs shared [] c starts = starts
  straight_starts fs shared (op ∷ ops) c starts = (refl, all_under k.marks)

  if_starts : (u : Bool) (t : Operand) (one other : Labelled) (fs : List Frame) (p : ℕ) (c : List Spot) → Starts k.marks fs (if_spots u t one other fs k.marks p c)
  if_starts true t one other fs p c = (refl, all_under k.marks)
  if_starts false t one other fs p c = (refl, all_under k.marks)

  mutual
    ops_start : (ops : Ops) (depth : ℕ) (fs : List Frame) (p : ℕ) (c : List Spot) → Starts k.marks fs c → Starts k.marks fs (labelled k depth ops fs p c)
    ops_start NoOps depth fs p c starts = starts
    ops_start (AndOp op ops) depth fs p c starts = op_starts op depth fs p (labelled k depth ops fs (op_end k.marks op p) c) (ops_start ops depth fs (op_end k.marks op p) c starts)

    op_starts : (op : Op) (depth : ℕ) (fs : List Frame) (p : ℕ) (c : List Spot) → Starts k.marks fs c → Starts k.marks fs (labelled_op k depth op fs p c)
    op_starts (Check array a pos) depth fs p c starts = (refl, all_under k.marks)
    op_starts (If t one other) depth fs p c starts =
        if_starts (is_uniform k.marks t) t (record { end = ops_end k.marks one; label = labelled k depth one }) (record { end = ops_end k.marks other; label = labelled k depth other }) fs p c
    op_starts (Loop head t body step) depth fs p c starts = (refl, all_under k.marks)
    op_starts (Set d a) depth fs p c starts = straight_starts fs (loads_constant k (Set d a)) (load_code k (Set d a)) c starts
    op_starts (Calculate d op a b) depth fs p c starts = straight_starts fs (loads_constant k (Calculate d op a b)) (load_code k (Calculate d op a b)) c starts
    op_starts (Fit d elem a) depth fs p c starts = straight_starts fs (loads_constant k (Fit d elem a)) (load_code k (Fit d elem a)) c starts
    op_starts (Id d which' a) depth fs p c starts = straight_starts fs (loads_constant k (Id d which' a)) (load_code k (Id d which' a)) c starts
    op_starts (Load d array elem a) depth fs p c starts = straight_starts fs (loads_constant k (Load d array elem a)) (load_code k (Load d array elem a)) c starts
    op_starts (Store array elem a b) depth fs p c starts = straight_starts fs (loads_constant k (Store array elem a b)) (load_code k (Store array elem a b)) c starts
    op_starts (Barrier site) depth fs p c starts = straight_starts fs (loads_constant k (Barrier site)) (load_code k (Barrier site)) c starts
    op_starts Break depth fs p c starts = starts
    op_starts Continue depth fs p c starts = starts
    op_starts Return depth fs p c starts = starts
    op_starts (Call body) depth fs p c starts = starts

  -- ---- operations end no earlier than they begin

  same_place : (n : ℕ) → n ≤ n
  same_place n = omega arith

  one_on : (n : ℕ) → n ≤ suc n
  one_on n = omega arith

  further_on : (n p : ℕ) → p ≤ further n p
  further_on zero p = same_place p
  further_on (suc n) p = le_trans (one_on p) (further_on n (suc p))

  past_on : (u : Bool) (p : ℕ) → p ≤ past u p
  past_on true p = same_place p
  past_on false p = one_on p

  then_on : (p q r : ℕ) → p ≤ q → q ≤ r → p ≤ r
  then_on p q r h h' = le_trans h h'

  id_on : (which' : Builtin) (a : Operand) (p : ℕ) → p ≤ id_end which' a p
  id_on WorkDim a p = one_on p
  id_on GlobalId a p = further_on (id_count 3 7 a) p
  id_on LocalId a p = further_on (id_count 3 7 a) p
  id_on GroupId a p = further_on (id_count 1 4 a) p
  id_on GlobalSize a p = further_on (id_count 1 6 a) p
  id_on LocalSize a p = further_on (id_count 1 6 a) p
  id_on NumGroups a p = further_on (id_count 1 6 a) p
  id_on GlobalOffset a p = one_on p
  id_on Min a p = one_on p
  id_on Max a p = one_on p
  id_on Clamp a p = one_on p
  id_on Abs a p = one_on p
  id_on MulHi a p = one_on p

  mutual
    ops_on : (ops : Ops) (p : ℕ) → p ≤ ops_end k.marks ops p
    ops_on NoOps p = same_place p
    ops_on (AndOp op ops) p = le_trans (op_on op p) (ops_on ops (op_end k.marks op p))

    op_on : (op : Op) (p : ℕ) → p ≤ op_end k.marks op p
    op_on (Set d a) p = one_on p
    op_on (Calculate d op a b) p = one_on p
    op_on (Fit d elem a) p = one_on p
    op_on (Id d which' a) p = id_on which' a p
    op_on (Load d array elem a) p = further_on 4 p
    op_on (Store array elem a b) p = further_on 4 p
    op_on (Check array a pos) p =
        let u = is_uniform k.marks a in
        le_trans (further_on 2 p) (le_trans (past_on u (further 2 p)) (le_trans (further_on 2 (past u (further 2 p))) (past_on u (further 2 (past u (further 2 p))))))
    op_on (Barrier site) p = one_on p
    op_on (If t one other) p =
        let u = is_uniform k.marks t in
        le_trans (past_on u p) (le_trans (one_on (past u p)) (le_trans (ops_on one (suc (past u p))) (le_trans (one_on (ops_end k.marks one (suc (past u p))))
        (le_trans (ops_on other (suc (ops_end k.marks one (suc (past u p))))) (past_on u (ops_end k.marks other (suc (ops_end k.marks one (suc (past u p))))))))))
    op_on (Loop head t body step) p =
        let u = is_uniform k.marks t in
        let s = suc (past u (suc p)) in
        let h = ops_end k.marks step s in
        let g = past u (ops_end k.marks head h) in
        le_trans (one_on p) (le_trans (past_on u (suc p)) (le_trans (one_on (past u (suc p))) (le_trans (ops_on step s) (le_trans (ops_on head h) (le_trans (past_on u (ops_end k.marks head h))
        (le_trans (one_on g) (le_trans (ops_on body (suc g)) (one_on (ops_end k.marks body (suc g))))))))))
    op_on Break p = same_place p
    op_on Continue p = same_place p
    op_on Return p = same_place p
    op_on (Call body) p = same_place p

  -- ---- each operation fits

  abbrev pub ops_lab : ℕ → Ops → Labelled
  ops_lab depth ops = record { end = ops_end k.marks ops; label = labelled k depth ops }

  abbrev pub op_lab : ℕ → Op → Labelled
  op_lab depth op = record { end = op_end k.marks op; label = labelled_op k depth op }

  -- the frames that stand round operations within so many loops; where the marks say that no test parts the lanes, none does
  pub record Stands (depth : ℕ) (same : Bool) (fs : List Frame) : Type 0 where
    pub masks : MasksIn (own k 8) (own k (8 + depth)) fs
    pub is_whole : same ≡ true → Whole fs

  single_well : (op : Op) (depth : ℕ) (same : Bool) (fs : List Frame) → Stands depth same fs → IsSingle op → OpBelow k.variables op → OnlyIf (same && gives_uniform k.params k.marks op) k.marks (uniform.target op)
      → (p : ℕ) (c : List Spot) → drop p whole ≡ straight fs (loads_constant k op) k.marks (load_code k op) c → Starts k.marks fs c
      → (drop (op_end k.marks op p) whole ≡ c) × (FitFrom whole k.marks (op_end k.marks op p) c → FitFrom whole k.marks p (straight fs (loads_constant k op) k.marks (load_code k op) c))
  single_well op depth same fs around single below closed p c e starts =
      let ok = single_ok whole k marks_low fs (own k (8 + depth)) around.masks same around.is_whole op single below closed in
      let end : after whole k.marks (load_code k op) p ≡ op_end k.marks op p = single_after whole k op p single in
      let under = all_ok_under whole k.marks fs (loads_constant k op) k.marks (load_code k op) ok (all_under k.marks) in (
        subst (λ q. drop q whole ≡ c) end (straight_ends whole k.marks fs (loads_constant k op) k.marks (load_code k op) p c e),
        λ f. straight_fits whole k.marks fs (loads_constant k op) k.marks (load_code k op) p c e ok (starts.0, λ r h. under r (starts.1 r h))
            (subst (λ q. FitFrom whole k.marks q c) (sym end) f),
      )

  -- a check
  check_by : (u : Bool) (pos : Pos) (fs : List Frame) (ag : ℕ → Bool) (under : Under k.marks ag) → (u ≡ true → agrees ag (held k 0) ≡ true) → sides fs ≤ 31 → Well whole k.marks (check_lab whole k.marks k pos fs ag under u) fs
  check_by true pos fs ag under alike few = check_one whole k.marks k pos fs ag under (alike refl)
  check_by false pos fs ag under alike few = check_two whole k.marks k pos fs ag under few

  check_begins : (u : Bool) (pos : Pos) (fs : List Frame) (ag : ℕ → Bool) (p : ℕ) (c : List Spot) → Starts ag fs (check_spots k u pos p fs k.marks ag c)
  check_begins true pos fs ag p c = (refl, all_under ag)
  check_begins false pos fs ag p c = (refl, all_under ag)

  check_well : (array : ArrayRef) (a : Operand) (pos : Pos) (depth : ℕ) (same : Bool) (fs : List Frame) → Stands depth same fs → sides fs ≤ 31 → Well whole k.marks (op_lab depth (Check array a pos)) fs
  check_well array a pos depth same fs around few p c e starts =
      let two : List VOp = counted k array ∷ Compute (own k 0) Sltu a (held k 0) ∷ [] in
      let ok = test_ok whole k marks_low fs (own k (8 + depth)) around.masks same around.is_whole array a in
      let under : Under k.marks (flows_all false k.marks two) = all_ok_under whole k.marks fs false k.marks two ok (all_under k.marks) in
      let well =
      check_by (is_uniform k.marks a) pos fs (flows_all false k.marks two) under (λ u. test_agrees whole k marks_low fs (own k (8 + depth)) around.masks same around.is_whole array a u) few
      (further 2 p) c (straight_ends whole k.marks fs false k.marks two p _ e) starts in
      record {
        ends = well.ends;
        fits = λ r th f. straight_fits whole k.marks fs false k.marks two p _ e ok (check_begins (is_uniform k.marks a) pos fs (flows_all false k.marks two) (further 2 p) c) (well.fits r th f);
      }

  -- ---- frames of parts

  -- a test that is not the same for all items
  not_same : (u same : Bool) (t : Operand) → is_uniform k.marks t ≡ u → u ≡ false → (same && uniform.is_uniform k.marks t) ≡ true → ⊥
  not_same u same t e u_is s = clash (is_uniform k.marks t) (sym (same_uniform k.marks t) ∙ (both_true same (uniform.is_uniform k.marks t) s).1) (e ∙ u_is)

  in_same : (depth : ℕ) (same : Bool) (t : Operand) (fs : List Frame) → Stands depth same fs → Stands depth (same && uniform.is_uniform k.marks t) fs
  in_same depth same t fs around = record { masks = around.masks; is_whole = λ s. around.is_whole (both_true same (uniform.is_uniform k.marks t) s).0 }

  in_first : (depth : ℕ) (same : Bool) (t : Operand) (fs : List Frame) (q e j : ℕ) → is_uniform k.marks t ≡ false → Stands depth same fs → Stands depth (same && uniform.is_uniform k.marks t) (First q e j t ∷ fs)
  in_first depth same t fs q e j u around = record { masks = (tt, around.masks); is_whole = λ s. absurd (not_same false same t u refl s) }

  in_second : (depth : ℕ) (same : Bool) (t : Operand) (fs : List Frame) (q e j : ℕ) → is_uniform k.marks t ≡ false → Stands depth same fs → Stands depth (same && uniform.is_uniform k.marks t) (Second q e j t ∷ fs)
  in_second depth same t fs q e j u around = record { masks = (tt, around.masks); is_whole = λ s. absurd (not_same false same t u refl s) }

  one_deeper : (depth : ℕ) → own k (8 + depth) ≤ own k (8 + suc depth)
  one_deeper depth = omega arith

  in_round : (depth : ℕ) (same : Bool) (t : Operand) (fs : List Frame) (s x : ℕ) → Stands depth same fs → Stands (suc depth) (same && uniform.is_uniform k.marks t) (Round s x ∷ fs)
  in_round depth same t fs s x around = record {
    masks = (tt, masks_wider (own k 8) (own k (8 + depth)) (own k (8 + suc depth)) fs (one_deeper depth) around.masks);
    is_whole = λ e. around.is_whole (both_true same (uniform.is_uniform k.marks t) e).0;
  }

  in_turning : (depth : ℕ) (same : Bool) (t : Operand) (fs : List Frame) (s p x : ℕ) → is_uniform k.marks t ≡ false → Stands depth same fs
      → Stands (suc depth) (same && uniform.is_uniform k.marks t) (Turning s p x (mask_of k depth) t ∷ fs)
  in_turning depth same t fs s p x u around = record {
    masks = ((low_mask, high_mask), masks_wider (own k 8) (own k (8 + depth)) (own k (8 + suc depth)) fs (one_deeper depth) around.masks);
    is_whole = λ e. absurd (not_same false same t u refl e);
  } where
    low_mask : own k 8 ≤ mask_of k depth
    low_mask = omega arith

    high_mask : mask_of k depth < own k (8 + suc depth)
    high_mask = omega arith

  unmarked : (depth : ℕ) → k.marks (mask_of k depth) ≡ false
  unmarked depth = elim (which (k.marks (mask_of k depth))) [
    | inl e ↦ let low : mask_of k depth < k.variables = marks_low (mask_of k depth) e in absurd (omega (arith, low))
    | inr e ↦ e
  ]

  -- ---- rooms for the sides of splits

  less_of : (a b n : ℕ) → n + max a b ≤ 31 → (n + a ≤ 31) × (n + b ≤ 31)
  less_of a b n low = (omega (arith, low), omega (arith, low))

  less_in : (a b n : ℕ) → n + suc (max a b) ≤ 31 → (n ≤ 31) × (n + a ≤ 31) × (n + b ≤ 31) × (suc n + a ≤ 31) × (suc n + b ≤ 31)
  less_in a b n low = (omega (arith, low), omega (arith, low), omega (arith, low), omega (arith, low), omega (arith, low))

  less_three : (a b c n : ℕ) → n + max a (max b c) ≤ 31 → (n + a ≤ 31) × (n + b ≤ 31) × (n + c ≤ 31)
  less_three a b c n low = (omega (arith, low), omega (arith, low), omega (arith, low))

  few_of : (n : ℕ) → n + 0 ≤ 31 → n ≤ 31
  few_of n low = omega (arith, low)

  -- ---- all operations

  abbrev pub Closed : Bool → Ops → Type 0
  Closed same ops = AreClosed k.params k.marks same ops

  abbrev pub WellAt : Op → ℕ → List Frame → ℕ → List Spot → Type 0
  WellAt op depth fs p c = PartWell whole k.marks (op_lab depth op) fs p c

  from_pair : (op : Op) (depth : ℕ) (fs : List Frame) (p : ℕ) (c : List Spot) → (drop (op_end k.marks op p) whole ≡ c) × (FitFrom whole k.marks (op_end k.marks op p) c → FitFrom whole k.marks p (labelled_op k depth op fs p c))
      → PartWell whole k.marks (op_lab depth op) fs p c
  from_pair op depth fs p c h = record { ends = h.0; fits = λ r th f. h.1 f }

  -- operations are well in all frames that may stand round them
  abbrev pub Everywhere : Ops → ℕ → Bool → Type 0
  Everywhere ops depth same = (fs : List Frame) → Stands depth same fs → sides fs + branching ops ≤ 31 → Well whole k.marks (ops_lab depth ops) fs

  if_by : (u : Bool) (t : Operand) (one other : Ops) (depth : ℕ) (same : Bool) (fs : List Frame) → is_uniform k.marks t ≡ u → Stands depth same fs → sides fs + suc (max (branching one) (branching other)) ≤ 31
      → Everywhere one depth (same && uniform.is_uniform k.marks t) → Everywhere other depth (same && uniform.is_uniform k.marks t)
      → Well whole k.marks (if_lab whole k.marks t (ops_lab depth one) (ops_lab depth other) fs u) fs
  if_by true t one other depth same fs alike around few first second =
      let rooms = less_in (branching one) (branching other) (sides fs) few in
      if_one whole k.marks t (ops_lab depth one) (ops_lab depth other) fs alike (ops_on one) (ops_on other)
      (first fs (in_same depth same t fs around) rooms.1) (second fs (in_same depth same t fs around) rooms.2)
      (λ q d s. ops_start one depth fs q d s) (λ q d s. ops_start other depth fs q d s)
  if_by false t one other depth same fs differs around few first second =
      let rooms = less_in (branching one) (branching other) (sides fs) few in
      if_two whole k.marks t (ops_lab depth one) (ops_lab depth other) fs rooms.0 (ops_on one) (ops_on other)
      (λ r. first _ (in_first depth same t fs r _ _ differs around) rooms.3) (λ r. second _ (in_second depth same t fs r _ _ differs around) rooms.4)
      (λ r q d s. ops_start one depth _ q d s) (λ r q d s. ops_start other depth _ q d s)

  loop_by : (u : Bool) (t : Operand) (head body step : Ops) (depth : ℕ) (same : Bool) (fs : List Frame) → is_uniform k.marks t ≡ u → Stands depth same fs
      → sides fs + max (branching head) (max (branching body) (branching step)) ≤ 31
      → Everywhere step (suc depth) (same && uniform.is_uniform k.marks t) → Everywhere head (suc depth) (same && uniform.is_uniform k.marks t) → Everywhere body (suc depth) (same && uniform.is_uniform k.marks t)
      → Well whole k.marks (loop_lab whole k.marks t (mask_of k depth) (ops_lab (suc depth) step) (ops_lab (suc depth) head) (ops_lab (suc depth) body) fs u) fs
  loop_by true t head body step depth same fs alike around few first second third =
      let rooms = less_three (branching head) (branching body) (branching step) (sides fs) few in
      loop_one whole k.marks t (mask_of k depth) (ops_lab (suc depth) step) (ops_lab (suc depth) head) (ops_lab (suc depth) body) fs alike (ops_on step) (ops_on head) (ops_on body)
      (λ r. first _ (in_round depth same t fs _ _ around) rooms.2) (λ r. second _ (in_round depth same t fs _ _ around) rooms.0) (λ r. third _ (in_round depth same t fs _ _ around) rooms.1)
      (λ r q d s. ops_start step (suc depth) _ q d s) (λ r q d s. ops_start head (suc depth) _ q d s) (λ r q d s. ops_start body (suc depth) _ q d s)
  loop_by false t head body step depth same fs differs around few first second third =
      let rooms = less_three (branching head) (branching body) (branching step) (sides fs) few in
      loop_two whole k.marks t (mask_of k depth) (ops_lab (suc depth) step) (ops_lab (suc depth) head) (ops_lab (suc depth) body) fs (unmarked depth)
      (clear_high (mask_of k depth) (own k 8) (own k (8 + depth)) fs (same_place (mask_of k depth)) around.masks) (ops_on step) (ops_on head) (ops_on body)
      (λ r. first _ (in_turning depth same t fs _ _ _ differs around) rooms.2) (λ r. second _ (in_turning depth same t fs _ _ _ differs around) rooms.0) (λ r. third _ (in_turning depth same t fs _ _ _ differs around) rooms.1)
      (λ r q d s. ops_start step (suc depth) _ q d s) (λ r q d s. ops_start head (suc depth) _ q d s) (λ r q d s. ops_start body (suc depth) _ q d s)

  mutual
    ops_well : (ops : Ops) (depth : ℕ) (same : Bool) (fs : List Frame) → Stands depth same fs → Closed same ops → AreBelow k.variables ops → sides fs + branching ops ≤ 31 → Well whole k.marks (ops_lab depth ops) fs
    ops_well NoOps depth same fs around closed below few p c e starts = record { ends = e; fits = λ r th f. f }
    ops_well (AndOp op ops) depth same fs around closed below few p c e starts =
        let w1 =
        op_well op depth same fs around closed.0 below.0 (less_of (branching_in op) (branching ops) (sides fs) few).0 p (labelled k depth ops fs (op_end k.marks op p) c) e
        (ops_start ops depth fs (op_end k.marks op p) c starts) in
        let w2 = ops_well ops depth same fs around closed.1 below.1 (less_of (branching_in op) (branching ops) (sides fs) few).1 (op_end k.marks op p) c w1.ends starts in
        record { ends = w2.ends; fits = λ r th f. w1.fits (regions_down (op_end k.marks op p) (ops_end k.marks ops (op_end k.marks op p)) fs (ops_on ops (op_end k.marks op p)) r) th (w2.fits r th f) }

    op_well : (op : Op) (depth : ℕ) (same : Bool) (fs : List Frame) → Stands depth same fs → OpClosed k.params k.marks same op → OpBelow k.variables op → sides fs + branching_in op ≤ 31 → Well whole k.marks (op_lab depth op) fs
    op_well (Set d a) depth same fs around closed below few p c e starts = from_pair (Set d a) depth fs p c (single_well (Set d a) depth same fs around tt below closed p c e starts)
    op_well (Calculate d op a b) depth same fs around closed below few p c e starts =
        from_pair (Calculate d op a b) depth fs p c (single_well (Calculate d op a b) depth same fs around tt below closed p c e starts)
    op_well (Fit d elem a) depth same fs around closed below few p c e starts = from_pair (Fit d elem a) depth fs p c (single_well (Fit d elem a) depth same fs around tt below closed p c e starts)
    op_well (Id d which' a) depth same fs around closed below few p c e starts = from_pair (Id d which' a) depth fs p c (single_well (Id d which' a) depth same fs around tt below closed p c e starts)
    op_well (Load d array elem a) depth same fs around closed below few p c e starts =
        from_pair (Load d array elem a) depth fs p c (single_well (Load d array elem a) depth same fs around tt below closed p c e starts)
    op_well (Store array elem a b) depth same fs around closed below few p c e starts =
        from_pair (Store array elem a b) depth fs p c (single_well (Store array elem a b) depth same fs around tt below closed p c e starts)
    op_well (Barrier site) depth same fs around closed below few p c e starts = record {
      ends = behind_spot whole _ _ p e;
      fits = λ r th f.
          ((leads whole k.marks (suc p) c fs k.marks (behind_spot whole _ _ p e) starts (all_under k.marks), regions_down p (suc p) fs (one_on p) r, th), f);
    }
    op_well (Check array a pos) depth same fs around closed below few p c e starts = check_well array a pos depth same fs around (few_of (sides fs) few) p c e starts
    op_well (If t one other) depth same fs around closed below few p c e starts =
        if_by (is_uniform k.marks t) t one other depth same fs refl around few
        (λ gs s r. ops_well one depth (same && uniform.is_uniform k.marks t) gs s closed.0 below.1 r) (λ gs s r. ops_well other depth (same && uniform.is_uniform k.marks t) gs s closed.1 below.2 r) p c e starts
    op_well (Loop head t body step) depth same fs around closed below few p c e starts =
        loop_by (is_uniform k.marks t) t head body step depth same fs refl around few
        (λ gs s r. ops_well step (suc depth) (same && uniform.is_uniform k.marks t) gs s closed.2 below.3 r) (λ gs s r. ops_well head (suc depth) (same && uniform.is_uniform k.marks t) gs s closed.0 below.1 r)
        (λ gs s r. ops_well body (suc depth) (same && uniform.is_uniform k.marks t) gs s closed.1 below.2 r) p c e starts
    op_well Break depth same fs around closed below few p c e starts = record { ends = e; fits = λ r th f. f }
    op_well Continue depth same fs around closed below few p c e starts = record { ends = e; fits = λ r th f. f }
    op_well Return depth same fs around closed below few p c e starts = record { ends = e; fits = λ r th f. f }
    op_well (Call body) depth same fs around closed below few p c e starts = record { ends = e; fits = λ r th f. f }

  -- ---- the operations before the body

  any_ok : (d : ℕ) (s : Bool) → (k.marks d ≡ true → s ≡ true) → WriteOk whole k.marks [] d s
  any_ok d s more = (tt, λ e. (tt, more e))

  own_ok : (i : ℕ) (s : Bool) → WriteOk whole k.marks [] (own k i) s
  own_ok i s = (tt, λ e. let low : own k i < k.variables = marks_low (own k i) e in absurd (omega (arith, low)))

  abbrev pub Opens : (ℕ → Bool) → List VOp → Type 0
  Opens ag ops = AllOk whole k.marks [] false ag ops

  zeroed_ok : (n r : ℕ) (ag : ℕ → Bool) (c : List VOp) → ((ag' : ℕ → Bool) → Opens ag' c) → Opens ag (zeroed r n c)
  zeroed_ok zero r ag c ok = ok ag
  zeroed_ok (suc n) r ag c ok = (any_ok r true (λ e. refl), zeroed_ok n (suc r) _ c ok)

  scalar_ok : (kind : ParamKind) (j r : ℕ) (ag : ℕ → Bool) (next : ℕ → List VOp) → ((ag' : ℕ → Bool) (r' : ℕ) → Opens ag' (next r')) → Opens ag (scalar kind j r next)
  scalar_ok (Scalar elem) j r ag next ok = (any_ok r true (λ e. refl), ok _ (suc r))
  scalar_ok (Pointer space elem readonly) j r ag next ok = ok ag r

  scalars_ok : (params : List Param) (j r : ℕ) (ag : ℕ → Bool) (c : List VOp) → ((ag' : ℕ → Bool) → Opens ag' c) → Opens ag (scalars j r params c)
  scalars_ok [] j r ag c ok = ok ag
  scalars_ok (param ∷ params) j r ag c ok = scalar_ok param.kind j r ag (λ r'. scalars (suc j) r' params c) (λ ag' r'. scalars_ok params (suc j) r' ag' c ok)

  ids_ok : (ag : ℕ → Bool) → Opens ag (ids_code k [])
  ids_ok ag = (
    own_ok 0 _,
    (
      own_ok 1 _,
      (
        own_ok 0 _,
        (
          own_ok 1 _,
          (
            own_ok 0 _,
            (
              own_ok 1 _,
              (
                own_ok 2 _,
                (
                  own_ok 0 _,
                  (
                    own_ok 1 _,
                    (
                      own_ok 3 _,
                      (
                        own_ok 4 _,
                        (
                          own_ok 0 _,
                          (
                            own_ok 1 _,
                            (
                              own_ok 0 _,
                              (
                                own_ok 5 _,
                                (
                                  own_ok 0 _,
                                  (
                                    own_ok 1 _,
                                    (
                                      own_ok 0 _,
                                      (
                                        own_ok 6 _,
                                        (
                                          own_ok 0 _,
                                          (
                                            own_ok 1 _,
                                            (
                                              own_ok 0 _,
                                              (
                                                own_ok 7 _,
                                                (own_ok 4 _, (own_ok 3 _, (own_ok 4 _, (own_ok 7 _, (own_ok 6 _, (own_ok 7 _, tt)))))),
                                              ),
                                            ),
                                          ),
                                        ),
                                      ),
                                    ),
                                  ),
                                ),
                              ),
                            ),
                          ),
                        ),
                      ),
                    ),
                  ),
                ),
              ),
            ),
          ),
        ),
      ),
    ),
  )

  opening_ok : (registers : ℕ) → Opens k.marks (opening_code k registers)
  opening_ok registers = (tt, zeroed_ok registers 0 k.marks _ (λ ag. scalars_ok k.params 0 0 ag (ids_code k []) ids_ok))

  zeroed_after : (n r p : ℕ) (c : List VOp) → after whole k.marks (zeroed r n c) p ≡ after whole k.marks c (further n p)
  zeroed_after zero r p c = refl
  zeroed_after (suc n) r p c = zeroed_after n (suc r) (suc p) c

  scalar_after : (kind : ParamKind) (j r p : ℕ) (next : ℕ → List VOp) (rest : ℕ → ℕ) → ((r' q : ℕ) → after whole k.marks (next r') q ≡ rest q) → after whole k.marks (scalar kind j r next) p ≡ rest (behind_kind kind p)
  scalar_after (Scalar elem) j r p next rest same = same (suc r) (suc p)
  scalar_after (Pointer space elem readonly) j r p next rest same = same r p

  scalars_after : (params : List Param) (j r p : ℕ) (c : List VOp) → after whole k.marks (scalars j r params c) p ≡ after whole k.marks c (scalars_end params p)
  scalars_after [] j r p c = refl
  scalars_after (param ∷ params) j r p c =
      scalar_after param.kind j r p (λ r'. scalars (suc j) r' params c) (λ q. after whole k.marks c (scalars_end params q)) (λ r' q. scalars_after params (suc j) r' q c)

  opening_after : (registers : ℕ) → after whole k.marks (opening_code k registers) item_place ≡ body_start k.params registers
  opening_after registers = zeroed_after registers 0 15 (scalars 0 0 k.params (ids_code k [])) ∙ scalars_after k.params 0 0 (further registers 15) (ids_code k [])

hidden_fits : (whole : List Spot) (uni : ℕ → Bool) (ops : List VOp) (p : ℕ) (c : List Spot) → FitFrom whole uni (after whole uni ops p) c → FitFrom whole uni p (hidden ops c)
hidden_fits whole uni [] p c fits = fits
hidden_fits whole uni (op ∷ ops) p c fits = (tt, hidden_fits whole uni ops (suc p) c fits)

-- ---- the whole kernel

module _ (marks : ℕ → Bool) (code : KirCode) (may : MayLower marks code) where
  abbrev pub kernel : List Spot
  kernel = kernel_spots marks code

  abbrev pub known : Known
  known = known_of_kernel marks code

  abbrev pub registers : ℕ
  registers = registers_for code.variables (loop_nesting code.ops)

  abbrev pub last_spots : List Spot
  last_spots = spot (Tmc (NumberOf 0)) (Straight []) marks ∷ []

  abbrev pub body_spots : List Spot
  body_spots = labelled known 0 code.ops [] (body_start code.params registers) last_spots

  outside : Stands kernel known may.within 0 true []
  outside = record { masks = tt; is_whole = λ e. tt }

  last_starts : Starts marks [] last_spots
  last_starts = (refl, all_under marks)

  none_round : 0 + branching code.ops ≤ 31
  none_round = omega (arith, may.few)

  body_there : drop (body_start code.params registers) kernel ≡ body_spots
  body_there =
      subst (λ q. drop q kernel ≡ body_spots) (opening_after kernel known may.within registers)
      (straight_ends kernel marks [] false marks (opening_code known registers) item_place body_spots refl)

  body_well : PartWell kernel marks (ops_lab kernel known may.within 0 code.ops) [] (body_start code.params registers) last_spots
  body_well = ops_well kernel known may.within code.ops 0 true [] outside may.closed may.below none_round (body_start code.params registers) last_spots body_there last_starts

  item_fits : FitFrom kernel marks item_place (straight [] false marks (opening_code known registers) body_spots)
  item_fits =
      let ok = opening_ok kernel known may.within registers in
      let under = all_ok_under kernel marks [] false marks (opening_code known registers) ok (all_under marks) in
      let starts = ops_start kernel known may.within code.ops 0 [] (body_start code.params registers) last_spots last_starts in
      straight_fits kernel marks [] false marks (opening_code known registers) item_place body_spots refl ok (starts.0, λ r h. under r (starts.1 r h))
      (subst (λ q. FitFrom kernel marks q body_spots) (sym (opening_after kernel known may.within registers)) (body_well.fits tt tt ((refl, tt), tt)))

  whole_fits : FitFrom kernel marks 0 kernel
  whole_fits = hidden_fits kernel marks (Fresh ∷ Word (own known 0) 0 ∷ Wspawn (held known 0) 3 ∷ Fresh ∷ item_lanes known []) 0 (straight [] false marks (opening_code known registers) body_spots) item_fits

  -- each place fits
  pub kernel_fits : (p : ℕ) → Fits (spot_in kernel) marks p
  kernel_fits p = all_fit kernel marks whole_fits p
