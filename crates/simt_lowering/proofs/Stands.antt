-- Where code stands: behind a tree of operations stands what follows it.
use Rattle.std.proofs.Common.{◌≡◌, ℕ, zero, suc, List, ◌∷◌, Bool, true, false, drop}
use Rattle.vx_base.specs.declared.types.Pos.{Pos}
use Rattle.ocl_program.specs.declared.exprs.Builtin.{Builtin}
use Rattle.ocl_program.specs.declared.exprs.Builtin.TheVariants.{WorkDim, GlobalId, LocalId, GroupId, GlobalSize, LocalSize, NumGroups, GlobalOffset, Min, Max, Clamp, Abs, MulHi}
use Rattle.kir.specs.Trees.{Operand, VariableOf, NumberOf, Op, Set, Calculate, Fit, Id, Load, Store, Check, Barrier, If, Loop, Break, Continue, Return, Call, Ops, NoOps, AndOp}
use Rattle.vcode.specs.Code.{VOp, Split, Join, Pred, Goto, Leaves, Again, Enter}
use Rattle.vcode.proofs.Steps.{behind}
use Rattle.uniformity.specs.Marks.{is_uniform}
use Rattle.simt_lowering.specs.Lowered.{Known, Part, further, past, splits, joins, keeps_mask, goes_on, held, mask_of, one_place, other_place, meet_place, if_end, if_code, step_place, head_place, test_place, body_place, loop_end, loop_code, ops_end, op_end, lowered, lowered_op, kept_id, group_word, size_word, id_code, id_count, id_end, checked, check_end}

module _ (code : List VOp) where
  -- operations that are there unless a test is uniform
  pub behind_splits : (u : Bool) (t : Operand) (p : ℕ) (c : List VOp) → drop p code ≡ splits u t c → drop (past u p) code ≡ c
  behind_splits true t p c e = e
  behind_splits false t p c e = behind code c (Split t) p e

  pub behind_joins : (u : Bool) (p : ℕ) (c : List VOp) → drop p code ≡ joins u c → drop (past u p) code ≡ c
  behind_joins true p c e = e
  behind_joins false p c e = behind code c Join p e

  pub behind_mask : (u : Bool) (m p : ℕ) (c : List VOp) → drop p code ≡ keeps_mask u m c → drop (past u p) code ≡ c
  behind_mask true m p c e = e
  behind_mask false m p c e = behind code c _ p e

  pub behind_pred : (u : Bool) (t : Operand) (m p : ℕ) (c : List VOp) → drop p code ≡ goes_on u t m c → drop (past u p) code ≡ c
  behind_pred true t m p c e = e
  behind_pred false t m p c e = behind code c (Pred t m) p e

  -- behind the code of a part stands what follows it
  abbrev pub Ends : Part → Type 0
  Ends part = (p : ℕ) (c : List VOp) → drop p code ≡ part.code p c → drop (part.end p) code ≡ c

  -- the parts of a branch
  pub one_stands : (u : Bool) (t : Operand) (one other : Part) (p : ℕ) (c : List VOp) → drop p code ≡ if_code u t one other p c
      → drop (one_place u p) code ≡ one.code (one_place u p) (Goto (meet_place u one other p) ∷ other.code (other_place u one p) (joins u c))
  one_stands u t one other p c e = behind code _ _ (past u p) (behind_splits u t p _ e)

  pub other_stands : (u : Bool) (t : Operand) (one other : Part) (p : ℕ) (c : List VOp) → Ends one → drop p code ≡ if_code u t one other p c
      → drop (other_place u one p) code ≡ other.code (other_place u one p) (joins u c)
  other_stands u t one other p c ends e = behind code _ _ (one.end (one_place u p)) (ends (one_place u p) _ (one_stands u t one other p c e))

  pub goto_stands : (u : Bool) (t : Operand) (one other : Part) (p : ℕ) (c : List VOp) → Ends one → drop p code ≡ if_code u t one other p c
      → drop (one.end (one_place u p)) code ≡ Goto (meet_place u one other p) ∷ other.code (other_place u one p) (joins u c)
  goto_stands u t one other p c ends e = ends (one_place u p) _ (one_stands u t one other p c e)

  pub meet_stands : (u : Bool) (t : Operand) (one other : Part) (p : ℕ) (c : List VOp) → Ends one → Ends other → drop p code ≡ if_code u t one other p c
      → drop (meet_place u one other p) code ≡ joins u c
  meet_stands u t one other p c ends ends' e = ends' (other_place u one p) _ (other_stands u t one other p c ends e)

  pub if_ends : (u : Bool) (t : Operand) (one other : Part) (p : ℕ) (c : List VOp) → Ends one → Ends other → drop p code ≡ if_code u t one other p c
      → drop (if_end u one other p) code ≡ c
  if_ends u t one other p c ends ends' e = behind_joins u (meet_place u one other p) c (ends' (other_place u one p) _ (other_stands u t one other p c ends e))

  -- the parts of a loop
  pub enter_stands : (u : Bool) (t : Operand) (m : ℕ) (step head body : Part) (p : ℕ) (c : List VOp) → drop p code ≡ loop_code u t m step head body p c
      → drop (past u (suc p)) code ≡ Goto (head_place u step p) ∷ step.code (step_place u p) (head.code (head_place u step p)
      (goes_on u t m (Leaves t (loop_end u step head body p) ∷ body.code (body_place u step head p) (Again (step_place u p) ∷ c))))
  enter_stands u t m step head body p c e = behind_mask u m (suc p) _ (behind code _ Enter p e)

  pub step_stands : (u : Bool) (t : Operand) (m : ℕ) (step head body : Part) (p : ℕ) (c : List VOp) → drop p code ≡ loop_code u t m step head body p c
      → drop (step_place u p) code ≡ step.code (step_place u p) (head.code (head_place u step p)
      (goes_on u t m (Leaves t (loop_end u step head body p) ∷ body.code (body_place u step head p) (Again (step_place u p) ∷ c))))
  step_stands u t m step head body p c e = behind code _ _ (past u (suc p)) (enter_stands u t m step head body p c e)

  pub head_stands : (u : Bool) (t : Operand) (m : ℕ) (step head body : Part) (p : ℕ) (c : List VOp) → Ends step → drop p code ≡ loop_code u t m step head body p c
      → drop (head_place u step p) code ≡ head.code (head_place u step p)
      (goes_on u t m (Leaves t (loop_end u step head body p) ∷ body.code (body_place u step head p) (Again (step_place u p) ∷ c)))
  head_stands u t m step head body p c ends e = ends (step_place u p) _ (step_stands u t m step head body p c e)

  pub pred_stands : (u : Bool) (t : Operand) (m : ℕ) (step head body : Part) (p : ℕ) (c : List VOp) → Ends step → Ends head → drop p code ≡ loop_code u t m step head body p c
      → drop (head.end (head_place u step p)) code
      ≡ goes_on u t m (Leaves t (loop_end u step head body p) ∷ body.code (body_place u step head p) (Again (step_place u p) ∷ c))
  pred_stands u t m step head body p c ends ends' e = ends' (head_place u step p) _ (head_stands u t m step head body p c ends e)

  pub test_stands : (u : Bool) (t : Operand) (m : ℕ) (step head body : Part) (p : ℕ) (c : List VOp) → Ends step → Ends head → drop p code ≡ loop_code u t m step head body p c
      → drop (test_place u step head p) code ≡ Leaves t (loop_end u step head body p) ∷ body.code (body_place u step head p) (Again (step_place u p) ∷ c)
  test_stands u t m step head body p c ends ends' e = behind_pred u t m (head.end (head_place u step p)) _ (pred_stands u t m step head body p c ends ends' e)

  pub body_stands : (u : Bool) (t : Operand) (m : ℕ) (step head body : Part) (p : ℕ) (c : List VOp) → Ends step → Ends head → drop p code ≡ loop_code u t m step head body p c
      → drop (body_place u step head p) code ≡ body.code (body_place u step head p) (Again (step_place u p) ∷ c)
  body_stands u t m step head body p c ends ends' e = behind code _ _ (test_place u step head p) (test_stands u t m step head body p c ends ends' e)

  pub again_stands : (u : Bool) (t : Operand) (m : ℕ) (step head body : Part) (p : ℕ) (c : List VOp) → Ends step → Ends head → Ends body → drop p code ≡ loop_code u t m step head body p c
      → drop (body.end (body_place u step head p)) code ≡ Again (step_place u p) ∷ c
  again_stands u t m step head body p c ends ends' ends'' e = ends'' (body_place u step head p) _ (body_stands u t m step head body p c ends ends' e)

  pub loop_ends : (u : Bool) (t : Operand) (m : ℕ) (step head body : Part) (p : ℕ) (c : List VOp) → Ends step → Ends head → Ends body → drop p code ≡ loop_code u t m step head body p c
      → drop (loop_end u step head body p) code ≡ c
  loop_ends u t m step head body p c ends ends' ends'' e = behind code _ _ (body.end (body_place u step head p)) (again_stands u t m step head body p c ends ends' ends'' e)

  -- a check
  check_ends : (k : Known) (u : Bool) (pos : Pos) (p : ℕ) (c : List VOp) → drop p code ≡ checked k u pos p c → drop (check_end u p) code ≡ c
  check_ends k u pos p c e = behind_joins u (further 2 (past u p)) c (behind code _ _ (suc (past u p)) (behind code _ _ (past u p) (behind_splits u (held k 0) p _ e)))

  -- straight code
  kept_ends : (k : Known) (i d : ℕ) (a : Operand) (p : ℕ) (c : List VOp) → drop p code ≡ kept_id k i d a c → drop (further (id_count 3 7 a) p) code ≡ c
  kept_ends k i d (NumberOf zero) p c e = behind code _ _ p e
  kept_ends k i d (NumberOf (suc zero)) p c e = behind code _ _ p e
  kept_ends k i d (NumberOf (suc (suc zero))) p c e = behind code _ _ (further 2 p) (behind code _ _ (further 1 p) (behind code _ _ p e))
  kept_ends k i d (NumberOf (suc (suc (suc n)))) p c e = behind code _ _ p e
  kept_ends k i d (VariableOf x) p c e =
      behind code _ _ (further 6 p) (behind code _ _ (further 5 p) (behind code _ _ (further 4 p) (behind code _ _ (further 3 p)
      (behind code _ _ (further 2 p) (behind code _ _ (further 1 p) (behind code _ _ p e))))))

  group_ends : (k : Known) (w d : ℕ) (a : Operand) (p : ℕ) (c : List VOp) → drop p code ≡ group_word k w d a c → drop (further (id_count 1 4 a) p) code ≡ c
  group_ends k w d (NumberOf zero) p c e = behind code _ _ p e
  group_ends k w d (NumberOf (suc zero)) p c e = behind code _ _ p e
  group_ends k w d (NumberOf (suc (suc zero))) p c e = behind code _ _ p e
  group_ends k w d (NumberOf (suc (suc (suc n)))) p c e = behind code _ _ p e
  group_ends k w d (VariableOf x) p c e =
      behind code _ _ (further 3 p) (behind code _ _ (further 2 p) (behind code _ _ (further 1 p) (behind code _ _ p e)))

  size_ends : (k : Known) (w d : ℕ) (a : Operand) (p : ℕ) (c : List VOp) → drop p code ≡ size_word k w d a c → drop (further (id_count 1 6 a) p) code ≡ c
  size_ends k w d (NumberOf zero) p c e = behind code _ _ p e
  size_ends k w d (NumberOf (suc zero)) p c e = behind code _ _ p e
  size_ends k w d (NumberOf (suc (suc zero))) p c e = behind code _ _ p e
  size_ends k w d (NumberOf (suc (suc (suc n)))) p c e = behind code _ _ p e
  size_ends k w d (VariableOf x) p c e =
      behind code _ _ (further 5 p) (behind code _ _ (further 4 p) (behind code _ _ (further 3 p)
      (behind code _ _ (further 2 p) (behind code _ _ (further 1 p) (behind code _ _ p e)))))

  pub id_ends : (k : Known) (d : ℕ) (which : Builtin) (a : Operand) (p : ℕ) (c : List VOp) → drop p code ≡ id_code k d which a c → drop (id_end which a p) code ≡ c
  id_ends k d WorkDim a p c e = behind code _ _ p e
  id_ends k d GlobalId a p c e = kept_ends k 5 d a p c e
  id_ends k d LocalId a p c e = kept_ends k 2 d a p c e
  id_ends k d GroupId a p c e = group_ends k 3 d a p c e
  id_ends k d LocalSize a p c e = size_ends k 6 d a p c e
  id_ends k d GlobalSize a p c e = size_ends k 9 d a p c e
  id_ends k d NumGroups a p c e = size_ends k 12 d a p c e
  id_ends k d GlobalOffset a p c e = behind code _ _ p e
  id_ends k d Min a p c e = behind code _ _ p e
  id_ends k d Max a p c e = behind code _ _ p e
  id_ends k d Clamp a p c e = behind code _ _ p e
  id_ends k d Abs a p c e = behind code _ _ p e
  id_ends k d MulHi a p c e = behind code _ _ p e

  mutual
    -- behind operations stands what follows them
    pub ops_stand : (k : Known) (depth : ℕ) (ops : Ops) (p : ℕ) (c : List VOp) → drop p code ≡ lowered k depth ops p c → drop (ops_end k.marks ops p) code ≡ c
    ops_stand k depth NoOps p c e = e
    ops_stand k depth (AndOp op ops) p c e = ops_stand k depth ops (op_end k.marks op p) c (op_stands k depth op p (lowered k depth ops (op_end k.marks op p) c) e)

    pub op_stands : (k : Known) (depth : ℕ) (op : Op) (p : ℕ) (c : List VOp) → drop p code ≡ lowered_op k depth op p c → drop (op_end k.marks op p) code ≡ c
    op_stands k depth (Set d a) p c e = behind code _ _ p e
    op_stands k depth (Calculate d op a b) p c e = behind code _ _ p e
    op_stands k depth (Fit d elem a) p c e = behind code _ _ p e
    op_stands k depth (Id d which a) p c e = id_ends k d which a p c e
    op_stands k depth (Load d array elem a) p c e =
        behind code _ _ (further 3 p) (behind code _ _ (further 2 p) (behind code _ _ (further 1 p) (behind code _ _ p e)))
    op_stands k depth (Store array elem a b) p c e =
        behind code _ _ (further 3 p) (behind code _ _ (further 2 p) (behind code _ _ (further 1 p) (behind code _ _ p e)))
    op_stands k depth (Check array a pos) p c e =
        check_ends k (is_uniform k.marks a) pos (further 2 p) c (behind code _ _ (further 1 p) (behind code _ _ p e))
    op_stands k depth (Barrier site) p c e = behind code _ _ p e
    op_stands k depth (If t one other) p c e =
        if_ends (is_uniform k.marks t) t (record { end = ops_end k.marks one; code = lowered k depth one }) (record { end = ops_end k.marks other; code = lowered k depth other }) p c
        (λ q c'. ops_stand k depth one q c') (λ q c'. ops_stand k depth other q c') e
    op_stands k depth (Loop head t body step) p c e =
        loop_ends (is_uniform k.marks t) t (mask_of k depth) (record { end = ops_end k.marks step; code = lowered k (suc depth) step })
        (record { end = ops_end k.marks head; code = lowered k (suc depth) head }) (record { end = ops_end k.marks body; code = lowered k (suc depth) body }) p c
        (λ q c'. ops_stand k (suc depth) step q c') (λ q c'. ops_stand k (suc depth) head q c') (λ q c'. ops_stand k (suc depth) body q c') e
    op_stands k depth Break p c e = e
    op_stands k depth Continue p c e = e
    op_stands k depth Return p c e = e
    op_stands k depth (Call body) p c e = e
