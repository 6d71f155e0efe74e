-- What the code puts behind what it has put, step by step.
use Rattle.std.proofs.Common.{◌≡◌, ℕ, zero, suc, ◌+◌, ◌-◌, ◌<◌, ◌≤◌, Bool, List, [], ◌∷◌, Result, Ok, Err, OnOk, length, drop, get_or, refl, ap, ◌∙◌, arith}
use Rattle.ocl_ast.specs.declared.units.Param.{Param}
use Rattle.kir.specs.Loops.{loop_nesting, loop_nesting_in}
use Rattle.kir.specs.Shapes.{op_of, ops_of}
use Rattle.kir.specs.Trees.{Operand, NumberOf, If, Loop, Ops}
use Rattle.kir.specs.declared.ops.Op.{Op as KirOp}
use Rattle.uniformity.specs.Marks.{is_uniform}
use Rattle.vcode.specs.declared.ops.VOp.{VOp as HeldOp}
use Rattle.vcode.specs.Code.{VOp, Copy, IfZero, Goto, Enter, Leaves, Again}
use Rattle.vcode.specs.Shapes.{Puts, onto, vops_of}
use Rattle.simt_lowering.specs.Lowered.{Known, Part, scalar, scalars, zeroed, splits, joins, keeps_mask, goes_on, mask_of, one_place, other_place, meet_place, if_code, step_place, head_place, body_place, loop_end, loop_code, ops_end, lowered, lowered_op}
use Rattle.simt_lowering.specs.Views.{ends}
use Rattle.simt_lowering.proofs.Sizing.{all_left, next_left}

pub zeroed_next : (r n : ℕ) (c : List VOp) → r < n → zeroed r (n - r) c ≡ Copy r (NumberOf 0) ∷ zeroed (r + 1) (n - (r + 1)) c
zeroed_next r n c low =
    let left : n - r ≡ suc (n - (r + 1)) = omega arith in
    let next : suc r ≡ r + 1 = omega arith in
    ap (λ m. zeroed r m c) left ∙ ap (λ q. Copy r (NumberOf 0) ∷ zeroed q (n - (r + 1)) c) next

pub zeroed_done : (r n : ℕ) (c : List VOp) → n ≤ r → zeroed r (n - r) c ≡ c
zeroed_done r n c past = let none : n - r ≡ 0 = omega arith in ap (λ m. zeroed r m c) none

pub scalars_next : (params : List Param) (k r : ℕ) (param : Param) (c : List VOp) → k < length params → param ≡ get_or params k param
    → scalars k r (drop k params) c ≡ scalar param.kind k r (λ r'. scalars (k + 1) r' (drop (k + 1) params) c)
scalars_next params k r param c low is =
    let next : suc k ≡ k + 1 = omega arith in
    ap (λ ps. scalars k r ps c) (next_left params k param low is) ∙ ap (λ q. scalar param.kind k r (λ r'. scalars q r' (drop (k + 1) params) c)) next

-- an operation has no more loops within one another than the operations of which it is one
pub nesting_at : (ops : List KirOp) (k : ℕ) (op : KirOp) → k < length ops → op ≡ get_or ops k op → loop_nesting_in (op_of op) ≤ loop_nesting (ops_of ops)
nesting_at [] k op within is = absurd (omega arith)
nesting_at (x ∷ xs) zero op within is = let same : loop_nesting_in (op_of op) ≡ loop_nesting_in (op_of x) = ap (λ o. loop_nesting_in (op_of o)) is in omega arith
nesting_at (x ∷ xs) (suc k) op within is = let h : loop_nesting_in (op_of op) ≤ loop_nesting (ops_of xs) = nesting_at xs k op (omega arith) is in omega arith

-- what follows where a call is done
pub on_done : {A E P Q : Type 0} (r : Result A E) → (P → Q) → OnOk r P → OnOk r Q
on_done (Ok x) f h = f h
on_done (Err x) f h = h

-- a branch, from what is put in turn
pub if_put : (k : Known) (depth : ℕ) (t : Operand) (one other : Ops) (p : ℕ) (u : Bool) (q1 q2 q3 : ℕ) (x0 x1 x2 x3 x4 x5 : List HeldOp)
    → u ≡ is_uniform k.marks t → q1 ≡ one_place u p → q2 ≡ other_place u (ends k.marks one) p → q3 ≡ meet_place u (ends k.marks one) (ends k.marks other) p
    → Puts x0 x1 (λ c. splits u t (IfZero t q2 ∷ c)) → Puts x1 x2 (lowered k depth one q1) → Puts x2 x3 (λ c. Goto q3 ∷ c) → Puts x3 x4 (lowered k depth other q2) → Puts x4 x5 (joins u)
    → Puts x0 x5 (lowered_op k depth (If t one other) p)
if_put k depth t one other p u q1 q2 q3 x0 x1 x2 x3 x4 x5 e e1 e2 e3 first left middle right last c =
    last c ∙ right (joins u c) ∙ middle (lowered k depth other q2 (joins u c)) ∙ left (Goto q3 ∷ lowered k depth other q2 (joins u c))
    ∙ first (lowered k depth one q1 (Goto q3 ∷ lowered k depth other q2 (joins u c)))
    ∙ ap (λ q. onto x0 (splits u t (IfZero t q2 ∷ lowered k depth one q (Goto q3 ∷ lowered k depth other q2 (joins u c))))) e1
    ∙ ap (λ q. onto x0 (splits u t (IfZero t q ∷ lowered k depth one (one_place u p) (Goto q3 ∷ lowered k depth other q (joins u c))))) e2
    ∙ ap (λ q. onto x0 (splits u t (IfZero t (other_place u (ends k.marks one) p) ∷ lowered k depth one (one_place u p) (Goto q ∷ lowered k depth other (other_place u (ends k.marks one) p) (joins u c))))) e3
    ∙ ap (λ v. onto x0 (if_code v t (record { end = ops_end k.marks one; code = lowered k depth one }) (record { end = ops_end k.marks other; code = lowered k depth other }) p c)) e

-- a loop, from what is put in turn
pub loop_put : (k : Known) (depth : ℕ) (head : Ops) (t : Operand) (body step : Ops) (p : ℕ) (u : Bool) (d m q1 q2 q3 q4 : ℕ) (x0 x1 x2 x3 x4 x5 x6 : List HeldOp)
    → u ≡ is_uniform k.marks t → d ≡ suc depth → m ≡ mask_of k depth → q1 ≡ step_place u p → q2 ≡ head_place u (ends k.marks step) p
    → q3 ≡ body_place u (ends k.marks step) (ends k.marks head) p → q4 ≡ loop_end u (ends k.marks step) (ends k.marks head) (ends k.marks body) p
    → Puts x0 x1 (λ c. Enter ∷ keeps_mask u m (Goto q2 ∷ c)) → Puts x1 x2 (lowered k d step q1) → Puts x2 x3 (lowered k d head q2) → Puts x3 x4 (λ c. goes_on u t m (Leaves t q4 ∷ c))
    → Puts x4 x5 (lowered k d body q3) → Puts x5 x6 (λ c. Again q1 ∷ c)
    → Puts x0 x6 (lowered_op k depth (Loop head t body step) p)
loop_put k depth head t body step p u d m q1 q2 q3 q4 x0 x1 x2 x3 x4 x5 x6 e e' e'' e1 e2 e3 e4 first stepped headed tested bodied last c =
    let S : Part = ends k.marks step in
    let H : Part = ends k.marks head in
    let B : Part = ends k.marks body in
    last c ∙ bodied (Again q1 ∷ c) ∙ tested (lowered k d body q3 (Again q1 ∷ c)) ∙ headed (goes_on u t m (Leaves t q4 ∷ lowered k d body q3 (Again q1 ∷ c)))
    ∙ stepped (lowered k d head q2 (goes_on u t m (Leaves t q4 ∷ lowered k d body q3 (Again q1 ∷ c))))
    ∙ first (lowered k d step q1 (lowered k d head q2 (goes_on u t m (Leaves t q4 ∷ lowered k d body q3 (Again q1 ∷ c)))))
    ∙ ap (λ q. onto x0 (Enter ∷ keeps_mask u m (Goto q2 ∷ lowered k d step q (lowered k d head q2 (goes_on u t m (Leaves t q4 ∷ lowered k d body q3 (Again q ∷ c))))))) e1
    ∙ ap (λ q. onto x0 (Enter ∷ keeps_mask u m (Goto q ∷ lowered k d step (step_place u p) (lowered k d head q (goes_on u t m (Leaves t q4 ∷ lowered k d body q3 (Again (step_place u p) ∷ c))))))) e2
    ∙ ap (λ q. onto x0 (Enter ∷ keeps_mask u m (Goto (head_place u S p) ∷ lowered k d step (step_place u p) (lowered k d head (head_place u S p) (goes_on u t m (Leaves t q4 ∷ lowered k d body q (Again (step_place u p) ∷ c))))))) e3
    ∙ ap (λ q. onto x0 (Enter ∷ keeps_mask u m (Goto (head_place u S p) ∷ lowered k d step (step_place u p) (lowered k d head (head_place u S p) (goes_on u t m (Leaves t q ∷ lowered k d body (body_place u S H p) (Again (step_place u p) ∷ c))))))) e4
    ∙ ap (λ n. onto x0 (loop_code u t n (record { end = ops_end k.marks step; code = lowered k d step }) (record { end = ops_end k.marks head; code = lowered k d head }) (record { end = ops_end k.marks body; code = lowered k d body }) p c)) e''
    ∙ ap (λ n. onto x0 (loop_code u t (mask_of k depth) (record { end = ops_end k.marks step; code = lowered k n step }) (record { end = ops_end k.marks head; code = lowered k n head }) (record { end = ops_end k.marks body; code = lowered k n body }) p c)) e'
    ∙ ap (λ v. onto x0 (loop_code v t (mask_of k depth) (record { end = ops_end k.marks step; code = lowered k (suc depth) step }) (record { end = ops_end k.marks head; code = lowered k (suc depth) head }) (record { end = ops_end k.marks body; code = lowered k (suc depth) body }) p c)) e

pub held_length : (ops : List HeldOp) → length (vops_of ops) ≡ length ops
held_length [] = refl
held_length (op ∷ ops) = ap suc (held_length ops)

pub scalars_done : (params : List Param) (k r : ℕ) (c : List VOp) → length params ≤ k → scalars k r (drop k params) c ≡ c
scalars_done params k r c past = ap (λ ps. scalars k r ps c) (all_left params k past)
