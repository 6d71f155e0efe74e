-- A lane reads words that the launch block has: most of them are fixed, and the others are at most two behind a fixed one.
use Rattle.std.proofs.Common.{◌≡◌, ℕ, zero, suc, ◌+◌, ◌*◌, ◌%◌, ◌^◌, ◌<◌, ◌≤◌, inl, inr, List, [], ◌∷◌, drop, Bool, true, false, Option, None, Some, slice_get, refl, ap, sym, subst, ◌∙◌, arith, lt-ltb}
use Rattle.std.specs.Prelude.{◌==◌, if◌then◌else◌}
use Rattle.std.proofs.lemmas.Bool.{cases_lt, le-ltb}
use Rattle.vx_base.specs.Values.{alu_value_of}
use Rattle.vx_base.specs.declared.types.Alu.TheVariants.{Mul, Sltu}
use Rattle.vx_base.specs.declared.types.ParamKind.{ParamKind}
use Rattle.vx_base.specs.declared.types.ParamKind.TheVariants.{Scalar, Pointer}
use Rattle.vx_base.specs.declared.types.Pos.{Pos}
use Rattle.item_acts.specs.Launches.{put_at}
use Rattle.item_acts.specs.Machine.{Go}
use Rattle.item_acts.proofs.Launches.{put_at_same, put_at_other}
use Rattle.ocl_ast.specs.declared.units.Param.{Param}
use Rattle.ocl_program.specs.declared.exprs.ArrayRef.{ArrayRef}
use Rattle.ocl_program.specs.declared.exprs.ArrayRef.TheVariants.{Parameter, Declared}
use Rattle.ocl_program.specs.declared.exprs.Builtin.{Builtin}
use Rattle.ocl_program.specs.declared.exprs.Builtin.TheVariants.{WorkDim, GlobalId, LocalId, GroupId, GlobalSize, LocalSize, NumGroups, GlobalOffset, Min, Max, Clamp, Abs, MulHi}
use Rattle.ocl_program.specs.declared.functions.LocalArray.{LocalArray}
use Rattle.step_machine.specs.Stacks.{under}
use Rattle.kir.specs.Loops.{loop_nesting}
use Rattle.kir.specs.Machine.{value}
use Rattle.kir.specs.Numbered.{IsBelow, AreBelow, OpBelow}
use Rattle.kir.specs.Trees.{Operand, VariableOf, NumberOf, Op, Set, Calculate, Fit, Id, Load, Store, Check, Barrier, If, Loop, Break, Continue, Return, Call, Ops, NoOps, AndOp, KirCode}
use Rattle.vcode.specs.declared.ops.Csr.TheVariants.{MaskNow}
use Rattle.vcode.specs.Code.{VOp, Fresh, Copy, Compute, Cut, Word, WordAt, Learn, Fetch, Write, IfZero, IfNot, Goto, Split, Join, Pred, Tmc, Wspawn, Bar, Trap, Enter, Leaves, Again}
use Rattle.vcode.specs.Machine.{Around, Lane, lane, op_step}
use Rattle.vcode.proofs.Steps.{behind, step_at}
use Rattle.simt_lowering.specs.Bounds.{AreWithin, IsLimited, OpWithin}
use Rattle.simt_lowering.specs.InBlock.{FirstInBlock, InBlock, OpInBlock}
use Rattle.simt_lowering.specs.Kept.{known_of_kernel, spawn_place, item_place}
use Rattle.uniformity.specs.Marks.{is_uniform}
use Rattle.simt_lowering.specs.Lowered.{Known, Part, own, held, further, past, splits, joins, keeps_mask, goes_on, mask_of, kept_id, group_word, size_word, id_code, id_count, id_end, param_start, declared_start, started, param_count, counted, checked, check_end, one_place, other_place, meet_place, if_end, if_code, step_place, head_place, test_place, body_place, loop_end, loop_code, ops_end, op_end, lowered, lowered_op, zeroed, scalar, scalars, scalars_end, behind_kind, ids_code, registers_for, body_start, kernel_code}
use Rattle.simt_lowering.specs.Runs.{Begins, Comes, Leads}
use Rattle.simt_lowering.proofs.Registers.{registers_within}
use Rattle.simt_lowering.proofs.Stands.{Ends, behind_splits, ops_stand, op_stands, one_stands, other_stands, goto_stands, meet_stands, enter_stands, step_stands, head_stands, pred_stands, test_stands, body_stands, again_stands}
use Rattle.simt_lowering.proofs.WrittenBefore.{within_behind, stays_on}

-- ---- words by a dimension in a register

-- a number below 3 is kept, and every other becomes 0
clipped : (v : ℕ) → alu_value_of Mul v (alu_value_of Sltu v 3) < 3
clipped v =
    elim (cases_lt v 3) [
      | inl below ↦
          let e : alu_value_of Mul v (alu_value_of Sltu v 3) ≡ (v * 1) % 2 ^ 32 = ap (λ b. alu_value_of Mul v (if b then 1 else 0)) (lt-ltb v 3 below) in
          omega arith
      | inr past ↦
          let e : alu_value_of Mul v (alu_value_of Sltu v 3) ≡ (v * 0) % 2 ^ 32 = ap (λ b. alu_value_of Mul v (if b then 1 else 0)) (le-ltb v 3 past) in
          omega arith
    ]

word_in_block : (w m : ℕ) → w ≤ 61 → m < 3 → w + m < 64
word_in_block w m low less = omega arith

clipped_word : (k : Known) (w x : ℕ) (rs : ℕ → ℕ) → w ≤ 61 → x < k.variables
    → w + put_at (own k 1) (alu_value_of Mul (put_at (own k 0) (alu_value_of Sltu (rs x) 3) rs x) (put_at (own k 0) (alu_value_of Sltu (rs x) 3) rs (own k 0)))
    (put_at (own k 0) (alu_value_of Sltu (rs x) 3) rs) (own k 1) < 64
clipped_word k w x rs low below =
    let v : ℕ = alu_value_of Sltu (rs x) 3 in
    let rs1 : ℕ → ℕ = put_at (own k 0) (alu_value_of Sltu (rs x) 3) rs in
    let e : put_at (own k 1) (alu_value_of Mul (rs1 x) (rs1 (own k 0))) rs1 (own k 1) ≡ alu_value_of Mul (rs x) (alu_value_of Sltu (rs x) 3) =
    put_at_same (own k 1) (alu_value_of Mul (rs1 x) (rs1 (own k 0))) rs1
    ∙ ap (λ a. alu_value_of Mul a (rs1 (own k 0))) (put_at_other (own k 0) v rs x (λ h. omega arith))
    ∙ ap (λ b. alu_value_of Mul (rs x) b) (put_at_same (own k 0) v rs) in
    subst (λ m. w + m < 64) (sym e) (word_in_block w (alu_value_of Mul (rs x) (alu_value_of Sltu (rs x) 3)) low (clipped (rs x)))

-- ---- operations that lead to the next place

abbrev pub IsStraight : VOp → Type 0
IsStraight (WordAt d a k) = ⊥
IsStraight (IfZero a q) = ⊥
IsStraight (IfNot a q) = ⊥
IsStraight (Goto q) = ⊥
IsStraight (Trap pos) = ⊥
IsStraight (Leaves a q) = ⊥
IsStraight (Again q) = ⊥
IsStraight other = Unit {0}

-- the first so many are such
abbrev pub AreStraight : ℕ → List VOp → Type 0
AreStraight zero ops = Unit {0}
AreStraight (suc n) [] = ⊥
AreStraight (suc n) (op ∷ ops) = IsStraight op × AreStraight n ops

straight_in_block : (count : ℕ) (op : VOp) (rs : ℕ → ℕ) → IsStraight op → OpWithin count op → OpInBlock op rs
straight_in_block count Fresh rs straight within = tt
straight_in_block count (Copy d a) rs straight within = tt
straight_in_block count (Compute d op a b) rs straight within = tt
straight_in_block count (Cut d elem a) rs straight within = tt
straight_in_block count (Word d k) rs straight within = within.1
straight_in_block count (WordAt d a k) rs straight within = absurd straight
straight_in_block count (Learn d csr) rs straight within = tt
straight_in_block count (Fetch d elem a) rs straight within = tt
straight_in_block count (Write elem a b) rs straight within = tt
straight_in_block count (IfZero a q) rs straight within = absurd straight
straight_in_block count (IfNot a q) rs straight within = absurd straight
straight_in_block count (Goto q) rs straight within = absurd straight
straight_in_block count (Split a) rs straight within = tt
straight_in_block count Join rs straight within = tt
straight_in_block count (Pred a m) rs straight within = tt
straight_in_block count (Tmc a) rs straight within = tt
straight_in_block count (Wspawn a q) rs straight within = tt
straight_in_block count (Bar site) rs straight within = tt
straight_in_block count (Trap pos) rs straight within = absurd straight
straight_in_block count Enter rs straight within = tt
straight_in_block count (Leaves a q) rs straight within = absurd straight
straight_in_block count (Again q) rs straight within = absurd straight

straight_leads : (at : Around) (op : VOp) (p : ℕ) (rs : ℕ → ℕ) (ts ns : List ℕ) (t : Lane) → IsStraight op → Leads (op_step at op p rs ts ns) t
    → (rs' : ℕ → ℕ) × (ts' : List ℕ) × (ns' : List ℕ) × (lane (suc p) rs' ts' ns' ≡ t)
straight_leads at Fresh p rs ts ns t straight leads = (_, _, _, leads)
straight_leads at (Copy d a) p rs ts ns t straight leads = (_, _, _, leads)
straight_leads at (Compute d op a b) p rs ts ns t straight leads = (_, _, _, leads)
straight_leads at (Cut d elem a) p rs ts ns t straight leads = (_, _, _, leads)
straight_leads at (Word d k) p rs ts ns t straight leads = (_, _, _, leads)
straight_leads at (WordAt d a k) p rs ts ns t straight leads = absurd straight
straight_leads at (Learn d csr) p rs ts ns t straight leads = (_, _, _, leads)
straight_leads at (Fetch d elem a) p rs ts ns t straight leads = (_, _, _, leads.1)
straight_leads at (Write elem a b) p rs ts ns t straight leads = (_, _, _, leads.1)
straight_leads at (IfZero a q) p rs ts ns t straight leads = absurd straight
straight_leads at (IfNot a q) p rs ts ns t straight leads = absurd straight
straight_leads at (Goto q) p rs ts ns t straight leads = absurd straight
straight_leads at (Split a) p rs ts ns t straight leads = (_, _, _, leads)
straight_leads at Join p rs ts ns t straight leads = (_, _, _, leads)
straight_leads at (Pred a m) p rs ts ns t straight leads = (_, _, _, leads)
straight_leads at (Tmc a) p rs ts ns t straight leads = (_, _, _, stays_on _ _ t leads)
straight_leads at (Wspawn a q) p rs ts ns t straight leads = (_, _, _, leads)
straight_leads at (Bar site) p rs ts ns t straight leads = (_, _, _, leads.1)
straight_leads at (Trap pos) p rs ts ns t straight leads = absurd straight
straight_leads at Enter p rs ts ns t straight leads = (_, _, _, leads)
straight_leads at (Leaves a q) p rs ts ns t straight leads = absurd straight
straight_leads at (Again q) p rs ts ns t straight leads = absurd straight

started_straight : (k : Known) (array : ArrayRef) → IsStraight (started k array)
started_straight k (Parameter j) = by (slice_get k.params j)
  where
    by : (param : Option Param) → IsStraight (param_start (own k 0) j param)
    by None = tt
    by (Some param) = tt
started_straight k (Declared j) = by (slice_get k.arrays j)
  where
    by : (array : Option LocalArray) → IsStraight (declared_start (own k 0) j array)
    by None = tt
    by (Some array) = tt

counted_straight : (k : Known) (array : ArrayRef) → IsStraight (counted k array)
counted_straight k (Parameter j) = by (slice_get k.params j)
  where
    by : (param : Option Param) → IsStraight (param_count (own k 0) j param)
    by None = tt
    by (Some param) = tt
counted_straight k (Declared j) = tt

-- the ids are
ids_straight : (k : Known) (c : List VOp) → AreStraight 29 (ids_code k c)
ids_straight k c =
    (tt, (tt, (tt, (tt, (tt, (tt, (tt, (tt, (tt, (tt, (tt, (tt, (tt, (tt, (tt, (tt, (tt, (tt, (tt, (tt, (tt, (tt, (tt, (tt, (tt, (tt, (tt, (tt, (tt, tt)))))))))))))))))))))))))))))

-- ---- from a place on

module _ (at : Around) (code : List VOp) (count : ℕ) (within : AreWithin count code) where
  abbrev Inside : Lane → Type 0
  Inside t = FirstInBlock (drop t.place code) t.registers

  -- in at most so many steps from a lane on, each word that is read is one of the block's
  abbrev pub From : ℕ → Lane → Type 0
  From n s = (m : ℕ) → m ≤ n → (ws : List ℕ) (t : Lane) (us : List ℕ) → Comes at code m s ws t us → Inside t

  abbrev pub Upto : ℕ → ℕ → Type 0
  Upto n p = (rs : ℕ → ℕ) (ts ns : List ℕ) → From n (lane p rs ts ns)

  fewer_from : (n m : ℕ) (s : Lane) → m ≤ n → From n s → From m s
  fewer_from n m s less from k low = from k (omega arith)

  fewer : (n m p : ℕ) → m ≤ n → Upto n p → Upto m p
  fewer n m p less next rs ts ns = fewer_from n m (lane p rs ts ns) less (next rs ts ns)

  -- one operation, and what is behind it
  op_from : (n p : ℕ) (rs : ℕ → ℕ) (ts ns : List ℕ) (op : VOp) (rest : List VOp) → drop p code ≡ op ∷ rest → OpInBlock op rs
      → ((t : Lane) → Leads (op_step at op p rs ts ns) t → (m : ℕ) → suc m ≤ n → From m t) → From n (lane p rs ts ns)
  op_from n p rs ts ns op rest e inside next zero low ws t us comes = subst Inside comes.0 (subst (λ c. FirstInBlock c rs) (sym e) inside)
  op_from n p rs ts ns op rest e inside next (suc m) low ws t us (s, leads, comes) =
      next s (subst (λ x. Leads x s) (step_at at code (op ∷ rest) p rs ts ns e) leads) m low m (omega arith) _ t us comes

  -- an inner step
  go_from : (n p q : ℕ) (rs rs' : ℕ → ℕ) (ts ts' ns ns' : List ℕ) (op : VOp) (rest : List VOp) → drop p code ≡ op ∷ rest → OpInBlock op rs
      → op_step at op p rs ts ns ≡ Go (lane q rs' ts' ns') → From n (lane q rs' ts' ns') → From n (lane p rs ts ns)
  go_from n p q rs rs' ts ts' ns ns' op rest e inside goes next =
      op_from n p rs ts ns op rest e inside
      (λ t leads m low. let same : lane q rs' ts' ns' ≡ t = subst (λ x. Leads x t) goes leads in subst (From m) same (fewer_from n m (lane q rs' ts' ns') (omega arith) next))

  first_within : (p : ℕ) (op : VOp) (rest : List VOp) → drop p code ≡ op ∷ rest → OpWithin count op
  first_within p op rest e = let both : AreWithin count (op ∷ rest) = subst (AreWithin count) e (within_behind count p code within) in both.0

  straight_upto : (n p : ℕ) (op : VOp) (rest : List VOp) → drop p code ≡ op ∷ rest → IsStraight op → Upto n (suc p) → Upto n p
  straight_upto n p op rest e straight next rs ts ns =
      op_from n p rs ts ns op rest e (straight_in_block count op rs straight (first_within p op rest e))
      (λ t leads m low. let on = straight_leads at op p rs ts ns t straight leads in
      subst (From m) on.3 (fewer n m (suc p) (omega arith) next on.0 on.1 on.2))

  -- the first so many operations
  all_straight : (many n p : ℕ) (c : List VOp) → drop p code ≡ c → AreStraight many c → Upto n (further many p) → Upto n p
  all_straight zero n p c e straight next = next
  all_straight (suc many) n p [] e straight next = absurd straight
  all_straight (suc many) n p (op ∷ c) e straight next =
      straight_upto n p op c e straight.0 (all_straight many n (suc p) c (behind code c op p e) straight.1 next)

  -- jumps
  goto_upto : (n p q : ℕ) (rest : List VOp) → drop p code ≡ Goto q ∷ rest → Upto n q → Upto n p
  goto_upto n p q rest e next rs ts ns = go_from n p q rs rs ts ts ns ns (Goto q) rest e tt refl (next rs ts ns)

  if_zero_upto : (n p q : ℕ) (a : Operand) (rest : List VOp) → drop p code ≡ IfZero a q ∷ rest → Upto n q → Upto n (suc p) → Upto n p
  if_zero_upto n p q a rest e to next rs ts ns = by (value rs a == 0) refl
    where
      by : (b : Bool) → (value rs a == 0) ≡ b → From n (lane p rs ts ns)
      by true is = go_from n p q rs rs ts ts ns ns (IfZero a q) rest e tt (ap (λ b. Go (lane (if b then q else suc p) rs ts ns)) is) (to rs ts ns)
      by false is = go_from n p (suc p) rs rs ts ts ns ns (IfZero a q) rest e tt (ap (λ b. Go (lane (if b then q else suc p) rs ts ns)) is) (next rs ts ns)

  if_not_upto : (n p q : ℕ) (a : Operand) (rest : List VOp) → drop p code ≡ IfNot a q ∷ rest → Upto n q → Upto n (suc p) → Upto n p
  if_not_upto n p q a rest e to next rs ts ns = by (value rs a == 0) refl
    where
      by : (b : Bool) → (value rs a == 0) ≡ b → From n (lane p rs ts ns)
      by true is = go_from n p (suc p) rs rs ts ts ns ns (IfNot a q) rest e tt (ap (λ b. Go (lane (if b then suc p else q) rs ts ns)) is) (next rs ts ns)
      by false is = go_from n p q rs rs ts ts ns ns (IfNot a q) rest e tt (ap (λ b. Go (lane (if b then suc p else q) rs ts ns)) is) (to rs ts ns)

  trap_upto : (n p : ℕ) (pos : Pos) (rest : List VOp) → drop p code ≡ Trap pos ∷ rest → Upto n p
  trap_upto n p pos rest e rs ts ns = op_from n p rs ts ns (Trap pos) rest e tt (λ t leads m low. absurd leads)

  end_upto : (n p : ℕ) → drop p code ≡ [] → Upto n p
  end_upto n p e rs ts ns zero low ws t us comes = subst Inside comes.0 (subst (λ c. FirstInBlock c rs) (sym e) tt)
  end_upto n p e rs ts ns (suc m) low ws t us (s, leads, comes) = absurd (subst (λ x. Leads x s) (step_at at code [] p rs ts ns e) leads)

  -- what is left out where a test is uniform
  split_upto : (n : ℕ) (u : Bool) (t : Operand) (p : ℕ) (c : List VOp) → drop p code ≡ splits u t c → Upto n (past u p) → Upto n p
  split_upto n true t p c e next = next
  split_upto n false t p c e next = straight_upto n p (Split t) c e tt next

  join_upto : (n : ℕ) (u : Bool) (p : ℕ) (c : List VOp) → drop p code ≡ joins u c → Upto n (past u p) → Upto n p
  join_upto n true p c e next = next
  join_upto n false p c e next = straight_upto n p Join c e tt next

  mask_upto : (n : ℕ) (u : Bool) (m p : ℕ) (c : List VOp) → drop p code ≡ keeps_mask u m c → Upto n (past u p) → Upto n p
  mask_upto n true m p c e next = next
  mask_upto n false m p c e next = straight_upto n p (Learn m MaskNow) c e tt next

  pred_upto : (n : ℕ) (u : Bool) (t : Operand) (m p : ℕ) (c : List VOp) → drop p code ≡ goes_on u t m c → Upto n (past u p) → Upto n p
  pred_upto n true t m p c e next = next
  pred_upto n false t m p c e next = straight_upto n p (Pred t m) c e tt next

  -- ---- branches and loops

  abbrev PartUpto : Part → Type 0
  PartUpto part = (n p : ℕ) (c : List VOp) → drop p code ≡ part.code p c → Upto n (part.end p) → Upto n p

  if_upto : (n : ℕ) (u : Bool) (t : Operand) (one other : Part) (p : ℕ) (c : List VOp) → PartUpto one → PartUpto other → Ends code one → Ends code other
      → drop p code ≡ if_code u t one other p c → Upto n (if_end u one other p) → Upto n p
  if_upto n u t one other p c one_upto other_upto ends ends' e next =
      let meets = join_upto n u (meet_place u one other p) c (meet_stands code u t one other p c ends ends' e) next in
      split_upto n u t p _ e
      (if_zero_upto n (past u p) (other_place u one p) t _ (behind_splits code u t p _ e)
      (other_upto n (other_place u one p) _ (other_stands code u t one other p c ends e) meets)
      (one_upto n (one_place u p) _ (one_stands code u t one other p c e)
      (goto_upto n (one.end (one_place u p)) (meet_place u one other p) _ (goto_stands code u t one other p c ends e) meets)))

  module _ (u : Bool) (t : Operand) (mask : ℕ) (step head body : Part) (p : ℕ) (c : List VOp) (step_upto : PartUpto step) (head_upto : PartUpto head) (body_upto : PartUpto body)
      (step_ends : Ends code step) (head_ends : Ends code head) (body_ends : Ends code body) (e : drop p code ≡ loop_code u t mask step head body p c) where
    again_upto : (n : ℕ) → Upto n (step_place u p) → Upto n (body.end (body_place u step head p))
    again_upto n next rs ts ns =
        go_from n (body.end (body_place u step head p)) (step_place u p) rs rs ts _ ns ns (Again (step_place u p)) c
        (again_stands code u t mask step head body p c step_ends head_ends body_ends e) tt refl (next rs _ ns)

    test_upto : (n : ℕ) → ((m : ℕ) → suc m ≤ n → Upto m (body_place u step head p)) → Upto n (loop_end u step head body p) → Upto n (test_place u step head p)
    test_upto n turn next rs ts ns =
        op_from n (test_place u step head p) rs ts ns (Leaves t (loop_end u step head body p)) _ (test_stands code u t mask step head body p c step_ends head_ends e) tt
        (λ s leads m low. by s m low (value rs t == 0) leads)
      where
        by : (s : Lane) (m : ℕ) → suc m ≤ n → (b : Bool)
            → (if b then lane (loop_end u step head body p) rs (under ts) ns else lane (body_place u step head p) rs ts ns) ≡ s → From m s
        by s m low true leads = subst (From m) leads (fewer n m (loop_end u step head body p) (omega arith) next rs (under ts) ns)
        by s m low false leads = subst (From m) leads (turn m low rs ts ns)

    head_to : (n : ℕ) → Upto n (test_place u step head p) → Upto n (head_place u step p)
    head_to n next =
        head_upto n (head_place u step p) _ (head_stands code u t mask step head body p c step_ends e)
        (pred_upto n u t mask (head.end (head_place u step p)) _ (pred_stands code u t mask step head body p c step_ends head_ends e) next)

    turns_upto : (n : ℕ) → Upto n (loop_end u step head body p) → Upto n (head_place u step p)
    turns_upto zero next = head_to 0 (test_upto 0 (λ m low. absurd (omega arith)) next)
    turns_upto (suc n) next =
        let again = turns_upto n (fewer (suc n) n (loop_end u step head body p) (omega arith) next) in
        let turn = body_upto n (body_place u step head p) _ (body_stands code u t mask step head body p c step_ends head_ends e)
        (again_upto n (step_upto n (step_place u p) _ (step_stands code u t mask step head body p c e) again)) in
        head_to (suc n) (test_upto (suc n) (λ m low. fewer n m (body_place u step head p) (omega arith) turn) next)

    loop_upto : (n : ℕ) → Upto n (loop_end u step head body p) → Upto n p
    loop_upto n next =
        straight_upto n p Enter _ e tt
        (mask_upto n u mask (suc p) _ (behind code _ Enter p e)
        (goto_upto n (past u (suc p)) (head_place u step p) _ (enter_stands code u t mask step head body p c e) (turns_upto n next)))

  -- ---- ids and checks

  kept_upto : (n : ℕ) (k : Known) (i d : ℕ) (a : Operand) (p : ℕ) (c : List VOp) → drop p code ≡ kept_id k i d a c → Upto n (further (id_count 3 7 a) p) → Upto n p
  kept_upto n k i d (NumberOf zero) p c e next = all_straight 1 n p _ e (tt, tt) next
  kept_upto n k i d (NumberOf (suc zero)) p c e next = all_straight 1 n p _ e (tt, tt) next
  kept_upto n k i d (NumberOf (suc (suc zero))) p c e next = all_straight 3 n p _ e (tt, (tt, (tt, tt))) next
  kept_upto n k i d (NumberOf (suc (suc (suc m)))) p c e next = all_straight 1 n p _ e (tt, tt) next
  kept_upto n k i d (VariableOf x) p c e next = all_straight 7 n p _ e (tt, (tt, (tt, (tt, (tt, (tt, (tt, tt))))))) next

  -- up to the word by a dimension in a register
  clipped_upto : (n : ℕ) (k : Known) (w x p : ℕ) (c : List VOp) → w ≤ 61 → x < k.variables
      → drop p code ≡ Compute (own k 0) Sltu (VariableOf x) (NumberOf 3) ∷ Compute (own k 1) Mul (VariableOf x) (held k 0) ∷ WordAt (own k 1) (held k 1) w ∷ c
      → Upto n (further 3 p) → Upto n p
  clipped_upto n k w x p c low below e next rs ts ns =
      let e1 = behind code _ _ p e in
      let e2 = behind code _ _ (suc p) e1 in
      go_from n p (suc p) rs _ ts ts ns ns _ _ e tt refl
      (go_from n (suc p) (further 2 p) _ _ ts ts ns ns _ _ e1 tt refl
      (go_from n (further 2 p) (further 3 p) _ _ ts ts ns ns _ _ e2 (clipped_word k w x rs low below) refl (next _ ts ns)))

  group_upto : (n : ℕ) (k : Known) (w d : ℕ) (a : Operand) (p : ℕ) (c : List VOp) → w ≤ 61 → IsBelow k.variables a → drop p code ≡ group_word k w d a c
      → Upto n (further (id_count 1 4 a) p) → Upto n p
  group_upto n k w d (NumberOf zero) p c low below e next = all_straight 1 n p _ e (tt, tt) next
  group_upto n k w d (NumberOf (suc zero)) p c low below e next = all_straight 1 n p _ e (tt, tt) next
  group_upto n k w d (NumberOf (suc (suc zero))) p c low below e next = all_straight 1 n p _ e (tt, tt) next
  group_upto n k w d (NumberOf (suc (suc (suc m)))) p c low below e next = all_straight 1 n p _ e (tt, tt) next
  group_upto n k w d (VariableOf x) p c low below e next =
      clipped_upto n k w x p _ low below e
      (all_straight 1 n (further 3 p) _ (behind code _ _ (further 2 p) (behind code _ _ (suc p) (behind code _ _ p e))) (tt, tt) next)

  size_upto : (n : ℕ) (k : Known) (w d : ℕ) (a : Operand) (p : ℕ) (c : List VOp) → w ≤ 61 → IsBelow k.variables a → drop p code ≡ size_word k w d a c
      → Upto n (further (id_count 1 6 a) p) → Upto n p
  size_upto n k w d (NumberOf zero) p c low below e next = all_straight 1 n p _ e (tt, tt) next
  size_upto n k w d (NumberOf (suc zero)) p c low below e next = all_straight 1 n p _ e (tt, tt) next
  size_upto n k w d (NumberOf (suc (suc zero))) p c low below e next = all_straight 1 n p _ e (tt, tt) next
  size_upto n k w d (NumberOf (suc (suc (suc m)))) p c low below e next = all_straight 1 n p _ e (tt, tt) next
  size_upto n k w d (VariableOf x) p c low below e next =
      clipped_upto n k w x p _ low below e
      (all_straight 3 n (further 3 p) _ (behind code _ _ (further 2 p) (behind code _ _ (suc p) (behind code _ _ p e))) (tt, (tt, (tt, tt))) next)

  id_upto : (n : ℕ) (k : Known) (d : ℕ) (which : Builtin) (a : Operand) (p : ℕ) (c : List VOp) → IsBelow k.variables a → drop p code ≡ id_code k d which a c
      → Upto n (id_end which a p) → Upto n p
  id_upto n k d WorkDim a p c below e next = all_straight 1 n p _ e (tt, tt) next
  id_upto n k d GlobalId a p c below e next = kept_upto n k 5 d a p c e next
  id_upto n k d LocalId a p c below e next = kept_upto n k 2 d a p c e next
  id_upto n k d GroupId a p c below e next = group_upto n k 3 d a p c (omega arith) below e next
  id_upto n k d LocalSize a p c below e next = size_upto n k 6 d a p c (omega arith) below e next
  id_upto n k d GlobalSize a p c below e next = size_upto n k 9 d a p c (omega arith) below e next
  id_upto n k d NumGroups a p c below e next = size_upto n k 12 d a p c (omega arith) below e next
  id_upto n k d GlobalOffset a p c below e next = all_straight 1 n p _ e (tt, tt) next
  id_upto n k d Min a p c below e next = all_straight 1 n p _ e (tt, tt) next
  id_upto n k d Max a p c below e next = all_straight 1 n p _ e (tt, tt) next
  id_upto n k d Clamp a p c below e next = all_straight 1 n p _ e (tt, tt) next
  id_upto n k d Abs a p c below e next = all_straight 1 n p _ e (tt, tt) next
  id_upto n k d MulHi a p c below e next = all_straight 1 n p _ e (tt, tt) next

  check_upto : (n : ℕ) (k : Known) (u : Bool) (pos : Pos) (p : ℕ) (c : List VOp) → drop p code ≡ checked k u pos p c → Upto n (check_end u p) → Upto n p
  check_upto n k u pos p c e next =
      let q : ℕ = past u p in
      let e1 = behind_splits code u (held k 0) p _ e in
      let e2 = behind code _ _ (past u p) e1 in
      split_upto n u (held k 0) p _ e
      (if_not_upto n (past u p) (further 2 (past u p)) (held k 0) _ e1
      (join_upto n u (further 2 (past u p)) c (behind code _ _ (suc (past u p)) e2) next)
      (trap_upto n (suc (past u p)) pos _ e2))

  -- ---- all operations

  abbrev part_of : Known → ℕ → Ops → Part
  part_of k depth ops = record { end = ops_end k.marks ops; code = lowered k depth ops }

  mutual
    pub ops_upto : (k : Known) (depth : ℕ) (ops : Ops) (n p : ℕ) (c : List VOp) → AreBelow k.variables ops → drop p code ≡ lowered k depth ops p c
        → Upto n (ops_end k.marks ops p) → Upto n p
    ops_upto k depth NoOps n p c below e next = next
    ops_upto k depth (AndOp op ops) n p c below e next =
        op_upto k depth op n p (lowered k depth ops (op_end k.marks op p) c) below.0 e
        (ops_upto k depth ops n (op_end k.marks op p) c below.1 (op_stands code k depth op p (lowered k depth ops (op_end k.marks op p) c) e) next)

    op_upto : (k : Known) (depth : ℕ) (op : Op) (n p : ℕ) (c : List VOp) → OpBelow k.variables op → drop p code ≡ lowered_op k depth op p c
        → Upto n (op_end k.marks op p) → Upto n p
    op_upto k depth (Set d a) n p c below e next = all_straight 1 n p _ e (tt, tt) next
    op_upto k depth (Calculate d op a b) n p c below e next = all_straight 1 n p _ e (tt, tt) next
    op_upto k depth (Fit d elem a) n p c below e next = all_straight 1 n p _ e (tt, tt) next
    op_upto k depth (Id d which a) n p c below e next = id_upto n k d which a p c below.1 e next
    op_upto k depth (Load d array elem a) n p c below e next = all_straight 4 n p _ e (started_straight k array, (tt, (tt, (tt, tt)))) next
    op_upto k depth (Store array elem a b) n p c below e next = all_straight 4 n p _ e (started_straight k array, (tt, (tt, (tt, tt)))) next
    op_upto k depth (Check array a pos) n p c below e next =
        all_straight 2 n p _ e (counted_straight k array, (tt, tt))
        (check_upto n k (is_uniform k.marks a) pos (further 2 p) c (behind code _ _ (suc p) (behind code _ _ p e)) next)
    op_upto k depth (Barrier site) n p c below e next = all_straight 1 n p _ e (tt, tt) next
    op_upto k depth (If t one other) n p c below e next =
        if_upto n (is_uniform k.marks t) t (part_of k depth one) (part_of k depth other) p c
        (λ m q c'. ops_upto k depth one m q c' below.1) (λ m q c'. ops_upto k depth other m q c' below.2)
        (ops_stand code k depth one) (ops_stand code k depth other) e next
    op_upto k depth (Loop head t body step) n p c below e next =
        loop_upto (is_uniform k.marks t) t (mask_of k depth) (part_of k (suc depth) step) (part_of k (suc depth) head) (part_of k (suc depth) body) p c
        (λ m q c'. ops_upto k (suc depth) step m q c' below.3) (λ m q c'. ops_upto k (suc depth) head m q c' below.1) (λ m q c'. ops_upto k (suc depth) body m q c' below.2)
        (ops_stand code k (suc depth) step) (ops_stand code k (suc depth) head) (ops_stand code k (suc depth) body) e n next
    op_upto k depth Break n p c below e next = next
    op_upto k depth Continue n p c below e next = next
    op_upto k depth Return n p c below e next = next
    op_upto k depth (Call body) n p c below e next = next

  -- ---- the first operations

  zeroed_upto : (n many r p : ℕ) (c : List VOp) → drop p code ≡ zeroed r many c → (drop (further many p) code ≡ c → Upto n (further many p)) → Upto n p
  zeroed_upto n zero r p c e next = next e
  zeroed_upto n (suc many) r p c e next = straight_upto n p _ _ e tt (zeroed_upto n many (suc r) (suc p) c (behind code _ _ p e) next)

  scalar_upto : (n : ℕ) (kind : ParamKind) (j r p : ℕ) (f : ℕ → List VOp) → drop p code ≡ scalar kind j r f
      → ((r' : ℕ) → drop (behind_kind kind p) code ≡ f r' → Upto n (behind_kind kind p)) → Upto n p
  scalar_upto n (Scalar elem) j r p f e next = straight_upto n p _ _ e tt (next (suc r) (behind code _ _ p e))
  scalar_upto n (Pointer space elem readonly) j r p f e next = next r e

  scalars_upto : (n : ℕ) (params : List Param) (j r p : ℕ) (c : List VOp) → drop p code ≡ scalars j r params c
      → (drop (scalars_end params p) code ≡ c → Upto n (scalars_end params p)) → Upto n p
  scalars_upto n [] j r p c e next = next e
  scalars_upto n (param ∷ params) j r p c e next =
      scalar_upto n param.kind j r p (λ r'. scalars (suc j) r' params c) e (λ r' e'. scalars_upto n params (suc j) r' (behind_kind param.kind p) c e' next)

  behind_straight : (many p : ℕ) (c : List VOp) → AreStraight many c → drop p code ≡ c → drop (further many p) code ≡ drop many c
  behind_straight zero p [] straight e = e
  behind_straight zero p (op ∷ c) straight e = e
  behind_straight (suc many) p [] straight e = absurd straight
  behind_straight (suc many) p (op ∷ c) straight e = behind_straight many (suc p) c straight.1 (behind code c op p e)

  ids_upto : (n p : ℕ) (k : Known) (c : List VOp) → drop p code ≡ ids_code k c → (drop (further 29 p) code ≡ c → Upto n (further 29 p)) → Upto n p
  ids_upto n p k c e next = all_straight 29 n p (ids_code k c) e (ids_straight k c) (next (behind_straight 29 p (ids_code k c) (ids_straight k c) e))

-- ---- a whole kernel

module _ (code : KirCode) (marks : ℕ → Bool) (at : Around) (limited : IsLimited code) where
  abbrev k : Known
  k = known_of_kernel marks code

  abbrev ops : List VOp
  ops = kernel_code marks code

  abbrev registers : ℕ
  registers = registers_for code.variables (loop_nesting code.ops)

  within : AreWithin registers ops
  within = registers_within code marks limited

  abbrev To : ℕ → ℕ → Type 0
  To n p = Upto at ops registers within n p

  body_upto : (n : ℕ) → drop (body_start code.params registers) ops ≡ lowered k 0 code.ops (body_start code.params registers) (Tmc (NumberOf 0) ∷ [])
      → To n (body_start code.params registers)
  body_upto n e =
      let end : ℕ = ops_end marks code.ops (body_start code.params registers) in
      let e1 : drop (ops_end marks code.ops (body_start code.params registers)) ops ≡ Tmc (NumberOf 0) ∷ [] = ops_stand ops k 0 code.ops (body_start code.params registers) (Tmc (NumberOf 0) ∷ []) e in
      ops_upto at ops registers within k 0 code.ops n (body_start code.params registers) (Tmc (NumberOf 0) ∷ []) limited.below e
      (straight_upto at ops registers within n (ops_end marks code.ops (body_start code.params registers)) (Tmc (NumberOf 0)) [] e1 tt
      (end_upto at ops registers within n (suc (ops_end marks code.ops (body_start code.params registers))) (behind ops [] (Tmc (NumberOf 0)) (ops_end marks code.ops (body_start code.params registers)) e1)))

  from_item : (n : ℕ) → To n item_place
  from_item n =
      straight_upto at ops registers within n 14 Fresh _ refl tt
      (zeroed_upto at ops registers within n registers 0 15 _ refl (λ e1.
      scalars_upto at ops registers within n code.params 0 0 (further registers 15) _ e1 (λ e2.
      ids_upto at ops registers within n (scalars_end code.params (further registers 15)) k _ e2 (λ e3. body_upto n e3))))

  from_spawn : (n : ℕ) → To n spawn_place
  from_spawn n = all_straight at ops registers within 11 n 3 _ refl (tt, (tt, (tt, (tt, (tt, (tt, (tt, (tt, (tt, (tt, (tt, tt))))))))))) (from_item n)

  from_first : (n : ℕ) → To n 0
  from_first n = all_straight at ops registers within 3 n 0 _ refl (tt, (tt, (tt, tt))) (from_spawn n)

  from_begin : (n p : ℕ) → Begins p → To n p
  from_begin n p (inl e) = subst (To n) (sym e) (from_first n)
  from_begin n p (inr (inl e)) = subst (To n) (sym e) (from_spawn n)
  from_begin n p (inr (inr e)) = subst (To n) (sym e) (from_item n)

pub in_block : InBlock
in_block code marks limited at q rs ns begins n t us comes = from_begin code marks at limited n q begins rs [] ns n (omega arith) [] t us comes
