-- Operations go along with what they are lowered to.
use Rattle.std.proofs.Common.{◌≡◌, ℕ, zero, suc, ◌+◌, ◌≤◌, inr, List, [], ◌∷◌, drop, Bool, true, false, refl, ap, ◌∙◌, arith}
use Rattle.std.specs.Prelude.{◌==◌, ◌||◌, if◌then◌else◌, reverse}
use Rattle.vx_base.specs.Values.{alu_value_of, fitted}
use Rattle.item_acts.specs.declared.acts.Action.TheVariants.{Barrier as BarrierAction}
use Rattle.item_acts.specs.Launches.{put_at}
use Rattle.item_acts.specs.Machine.{Go}
use Rattle.step_machine.specs.Sims.{Unseen, FirstGoes, BothGo, BothTurn, BothAsk}
use Rattle.step_machine.specs.Stacks.{top, under}
use Rattle.step_machine.proofs.AlongLaws.{fewer}
use Rattle.kir.specs.Machine as kir
use Rattle.kir.specs.Machine.{value, State, state, Task, Do, Decide, Again as TurnOver, Turning, ops_tasks, head_tasks, turn_tasks, step_tasks}
use Rattle.kir.specs.Measures.{Known as Checked, AreChecked, OpChecked, known_behind, jumps, jumps_in}
use Rattle.kir.specs.Numbered.{IsBelow, AreBelow, OpBelow}
use Rattle.kir.specs.Trees.{Operand, Op, Set, Calculate, Fit, Id, Load, Store, Check, Barrier, If, Loop, Break, Continue, Return, Call, Ops, NoOps, AndOp}
use Rattle.kir.specs.Typing.{AreTyped, OpTyped}
use Rattle.vcode.specs.Code.{VOp, Copy, Compute, Cut, IfZero, Goto, Pred, Learn, Enter, Again}
use Rattle.vcode.specs.declared.ops.Csr.TheVariants.{MaskNow}
use Rattle.vcode.specs.Machine as vcode
use Rattle.vcode.specs.Machine.{lane}
use Rattle.vcode.proofs.Steps.{behind, step_at, cost_at, lane_goes}
use Rattle.simt_lowering.specs.Around.{HasNumbers, HasArrays}
use Rattle.uniformity.specs.Marks.{is_uniform}
use Rattle.simt_lowering.specs.Lowered.{Part, own, mask_of, past, keeps_mask, goes_on, one_place, other_place, meet_place, if_end, if_code, step_place, head_place, test_place, body_place, loop_end, loop_code, ops_end, op_end, lowered, lowered_op}
use Rattle.simt_lowering.proofs.Stands.{Ends, behind_splits, ops_stand, op_stands, one_stands, other_stands, goto_stands, meet_stands, enter_stands, step_stands, head_stands, pred_stands, test_stands, body_stands, again_stands}
use Rattle.simt_lowering.proofs.Sides.{Sees, sees_own, kept_ids, same_value, Keeps, keeps_other, Sides, Along, Starts, both_set}
use Rattle.simt_lowering.proofs.IdsAlong.{id_goes}
use Rattle.simt_lowering.proofs.Accesses.{load_goes, store_goes, check_goes, past_split, past_join}

-- what is asked of the two sides
pub record Fits (w : Sides) : Type 0 where
  pub numbers : HasNumbers w.setting w.at
  pub arrays : HasArrays w.known w.setting w.at

true_is_not : true ≡ false → ⊥
true_is_not e = absurd (cc)

-- costs
costs_none : (x y : ℕ) → x ≡ 0 → x ≤ y
costs_none x y e = omega arith

costs_one : (x y : ℕ) → x ≡ 1 → y ≡ 1 → x ≤ y
costs_one x y e e' = omega arith

-- ---- branches

-- a part goes along with its code
abbrev pub Goes : Sides → Ops → Part → Type 0
Goes w ops part = (n p : ℕ) (c : List VOp) (ts : List Task) (turns : List ℕ) → drop p w.code ≡ part.code p c → Starts w n [] ts turns (part.end p)
    → Starts w n [] (ops_tasks ops ts) turns p

if_goes : (w : Sides) (n p : ℕ) (u b : Bool) (t : Operand) (one other : Ops) (part part' : Part) (c : List VOp) (ts : List Task) (turns : List ℕ)
    → Goes w one part → Goes w other part' → Ends w.code part → Ends w.code part' → drop p w.code ≡ if_code u t part part' p c → Starts w n [] ts turns (if_end u part part' p)
    → (f vs rs : ℕ → ℕ) (ns : List ℕ) → (value vs t == 0) ≡ b → value rs t ≡ value vs t → Sees w.known f vs rs → Keeps (kept_ids w.setting) f
    → Along w n (state (Do (If t one other) ∷ ts) vs turns) (lane p rs turns ns)
if_goes w n p u true t one other part part' c ts turns goes goes' ends ends' e next f vs rs ns chooses same sees keeps =
    let e1 = behind_splits w.code u t p _ e in
    past_split w n (state (Do (If t one other) ∷ ts) vs turns) u t p _ rs turns ns e
    (FirstGoes n (state (Do (If t one other) ∷ ts) vs turns) (state (ops_tasks other ts) vs turns) (lane (past u p) rs turns ns)
    (ap (λ x. Go (state (if x then ops_tasks other ts else ops_tasks one ts) vs turns)) chooses)
    (lane_goes (kir.step w.setting) kir.cost w.at w.code _ (IfZero t (other_place u part p)) n (state (ops_tasks other ts) vs turns) (past u p) rs turns ns
    (lane (other_place u part p) rs turns ns) e1
    (ap (λ x. Go (lane (if x == 0 then other_place u part p else one_place u p) rs turns ns)) same
    ∙ ap (λ x. Go (lane (if x then other_place u part p else one_place u p) rs turns ns)) chooses) refl
    (goes' n (other_place u part p) _ ts turns (other_stands w.code u t part part' p c ends e)
    (λ f' vs' rs' ns' sees' keeps' passes'. past_join w n (state ts vs' turns) u (meet_place u part part' p) c rs' turns ns' (meet_stands w.code u t part part' p c ends ends' e)
    (next f' vs' rs' ns' sees' keeps' passes')) f vs rs ns sees keeps tt)))
if_goes w n p u false t one other part part' c ts turns goes goes' ends ends' e next f vs rs ns chooses same sees keeps =
    let e1 = behind_splits w.code u t p _ e in
    past_split w n (state (Do (If t one other) ∷ ts) vs turns) u t p _ rs turns ns e
    (FirstGoes n (state (Do (If t one other) ∷ ts) vs turns) (state (ops_tasks one ts) vs turns) (lane (past u p) rs turns ns)
    (ap (λ x. Go (state (if x then ops_tasks other ts else ops_tasks one ts) vs turns)) chooses)
    (lane_goes (kir.step w.setting) kir.cost w.at w.code _ (IfZero t (other_place u part p)) n (state (ops_tasks one ts) vs turns) (past u p) rs turns ns
    (lane (one_place u p) rs turns ns) e1
    (ap (λ x. Go (lane (if x == 0 then other_place u part p else one_place u p) rs turns ns)) same
    ∙ ap (λ x. Go (lane (if x then other_place u part p else one_place u p) rs turns ns)) chooses) refl
    (goes n (one_place u p) _ ts turns (one_stands w.code u t part part' p c e)
    (λ f' vs' rs' ns' sees' keeps' passes'.
    lane_goes (kir.step w.setting) kir.cost w.at w.code _ (Goto (meet_place u part part' p)) n (state ts vs' turns) (part.end (one_place u p)) rs' turns ns'
    (lane (meet_place u part part' p) rs' turns ns') (goto_stands w.code u t part part' p c ends e) refl refl
    (past_join w n (state ts vs' turns) u (meet_place u part part' p) c rs' turns ns' (meet_stands w.code u t part part' p c ends ends' e)
    (next f' vs' rs' ns' sees' keeps' passes'))) f vs rs ns sees keeps tt)))

-- ---- loops

-- a loop with its parts, and where it stands
pub record Looping : Type 0 where
  pub w : Sides
  pub u : Bool
  pub loop : Turning
  pub depth : ℕ
  pub step : Part
  pub head : Part
  pub body : Part
  pub p : ℕ
  pub c : List VOp

abbrev code_of : Looping → List VOp
code_of l = loop_code l.u l.loop.test (mask_of l.w.known l.depth) l.step l.head l.body l.p l.c

pub record Turns (l : Looping) : Type 0 where
  pub head_goes : Goes l.w l.loop.head l.head
  pub body_goes : Goes l.w l.loop.body l.body
  pub step_goes : Goes l.w l.loop.step l.step
  pub head_ends : Ends l.w.code l.head
  pub body_ends : Ends l.w.code l.body
  pub step_ends : Ends l.w.code l.step
  pub stands : drop l.p l.w.code ≡ code_of l
  pub below : IsBelow l.w.known.variables l.loop.test

-- the places of a loop
abbrev head_at : Looping → ℕ
head_at l = head_place l.u l.step l.p

abbrev pred_at : Looping → ℕ
pred_at l = l.head.end (head_at l)

abbrev test_at : Looping → ℕ
test_at l = test_place l.u l.step l.head l.p

abbrev body_at : Looping → ℕ
body_at l = body_place l.u l.step l.head l.p

abbrev end_at : Looping → ℕ
end_at l = loop_end l.u l.step l.head l.body l.p

past_pred : (w : Sides) (n : ℕ) (s : State) (u : Bool) (t : Operand) (m p : ℕ) (c : List VOp) (rs : ℕ → ℕ) (ts ns : List ℕ) → drop p w.code ≡ goes_on u t m c
    → Along w n s (lane (past u p) rs ts ns) → Along w n s (lane p rs ts ns)
past_pred w n s true t m p c rs ts ns e along = along
past_pred w n s false t m p c rs ts ns e along = lane_goes (kir.step w.setting) kir.cost w.at w.code c (Pred t m) n s p rs ts ns (lane (suc p) rs ts ns) e refl refl along

-- the loop is left
leaves : (l : Looping) (k : Turns l) (n : ℕ) (ts : List Task) (turns : List ℕ) (x : ℕ) (vs rs : ℕ → ℕ) (ns : List ℕ) → (value vs l.loop.test == 0) ≡ true → value rs l.loop.test ≡ value vs l.loop.test
    → Along l.w n (state ts vs turns) (lane (end_at l) rs turns ns) → Along l.w n (state (Decide l.loop ∷ ts) vs (x ∷ turns)) (lane (test_at l) rs (x ∷ turns) ns)
leaves l k n ts turns x vs rs ns chooses same along =
    let w : Sides = l.w in
    let t : Operand = l.loop.test in
    let e = test_stands w.code l.u t (mask_of w.known l.depth) l.step l.head l.body l.p l.c k.step_ends k.head_ends k.stands in
    let zero_is : (value rs t == 0) ≡ true = ap (λ v. v == 0) same ∙ chooses in
    BothGo n (state (Decide l.loop ∷ ts) vs (x ∷ turns)) (state ts vs turns) (lane (test_at l) rs (x ∷ turns) ns) (lane (end_at l) rs turns ns)
    (ap (λ b. Go (if b then state ts vs turns else state (turn_tasks l.loop ts) vs (x ∷ turns))) chooses)
    (step_at w.at w.code _ (test_at l) rs (x ∷ turns) ns e ∙ ap (λ b. Go (if b then lane (end_at l) rs turns ns else lane (body_at l) rs (x ∷ turns) ns)) zero_is)
    (costs_none _ _ (cost_at w.code _ (test_at l) rs (x ∷ turns) ns e ∙ ap (λ b. if b then 0 else 1) zero_is)) along

-- a turn of it begins
turns_on : (l : Looping) (k : Turns l) (n : ℕ) (ts : List Task) (turns : List ℕ) (x : ℕ) (vs rs : ℕ → ℕ) (ns : List ℕ) → (value vs l.loop.test == 0) ≡ false → value rs l.loop.test ≡ value vs l.loop.test
    → Along l.w n (state (turn_tasks l.loop ts) vs (x ∷ turns)) (lane (body_at l) rs (x ∷ turns) ns)
    → Along l.w (suc n) (state (Decide l.loop ∷ ts) vs (x ∷ turns)) (lane (test_at l) rs (x ∷ turns) ns)
turns_on l k n ts turns x vs rs ns chooses same along =
    let w : Sides = l.w in
    let t : Operand = l.loop.test in
    let e = test_stands w.code l.u t (mask_of w.known l.depth) l.step l.head l.body l.p l.c k.step_ends k.head_ends k.stands in
    let zero_is : (value rs t == 0) ≡ false = ap (λ v. v == 0) same ∙ chooses in
    BothTurn n (state (Decide l.loop ∷ ts) vs (x ∷ turns)) (state (turn_tasks l.loop ts) vs (x ∷ turns)) (lane (test_at l) rs (x ∷ turns) ns) (lane (body_at l) rs (x ∷ turns) ns)
    (ap (λ b. Go (if b then state ts vs turns else state (turn_tasks l.loop ts) vs (x ∷ turns))) chooses)
    (step_at w.at w.code _ (test_at l) rs (x ∷ turns) ns e ∙ ap (λ b. Go (if b then lane (end_at l) rs turns ns else lane (body_at l) rs (x ∷ turns) ns)) zero_is)
    (costs_one _ _ (cost_at w.code _ (test_at l) rs (x ∷ turns) ns e ∙ ap (λ b. if b then 0 else 1) zero_is) (ap (λ b. if b then 0 else 1) chooses)) along

-- the test of a loop, where another turn goes well
abbrev Headed : Looping → ℕ → List Task → List ℕ → Type 0
Headed l n ts turns = (x : ℕ) → Starts l.w n [] (head_tasks l.loop ts) (x ∷ turns) (head_at l)

decides_last : (l : Looping) (k : Turns l) (b : Bool) (ts : List Task) (turns : List ℕ) (x : ℕ) (vs rs : ℕ → ℕ) (ns : List ℕ) → (value vs l.loop.test == 0) ≡ b → value rs l.loop.test ≡ value vs l.loop.test
    → Along l.w 0 (state ts vs turns) (lane (end_at l) rs turns ns) → Along l.w 0 (state (Decide l.loop ∷ ts) vs (x ∷ turns)) (lane (test_at l) rs (x ∷ turns) ns)
decides_last l k true ts turns x vs rs ns chooses same next = leaves l k 0 ts turns x vs rs ns chooses same next
decides_last l k false ts turns x vs rs ns chooses same next = Unseen (state (Decide l.loop ∷ ts) vs (x ∷ turns)) (lane (test_at l) rs (x ∷ turns) ns)

-- the end of a turn, the step, and the head again
again_goes : (l : Looping) (k : Turns l) (n : ℕ) (ts : List Task) (turns : List ℕ) (x : ℕ) → Headed l n ts turns → Starts l.w n [] (TurnOver l.loop ∷ ts) (x ∷ turns) (l.body.end (body_at l))
again_goes l k n ts turns x headed f vs rs ns sees keeps passes =
    let w : Sides = l.w in
    let m : ℕ = mask_of w.known l.depth in
    FirstGoes n (state (TurnOver l.loop ∷ ts) vs (x ∷ turns)) (state (step_tasks l.loop ts) vs ((x + 1) ∷ turns)) (lane (l.body.end (body_at l)) rs (x ∷ turns) ns) refl
    (lane_goes (kir.step w.setting) kir.cost w.at w.code _ (Again (step_place l.u l.p)) n (state (step_tasks l.loop ts) vs ((x + 1) ∷ turns)) (l.body.end (body_at l)) rs (x ∷ turns) ns
    (lane (step_place l.u l.p) rs ((x + 1) ∷ turns) ns) (again_stands w.code l.u l.loop.test m l.step l.head l.body l.p l.c k.step_ends k.head_ends k.body_ends k.stands) refl refl
    (k.step_goes n (step_place l.u l.p) _ (head_tasks l.loop ts) ((x + 1) ∷ turns) (step_stands w.code l.u l.loop.test m l.step l.head l.body l.p l.c k.stands)
    (headed (x + 1)) f vs rs ns sees keeps tt))

decides_more : (l : Looping) (k : Turns l) (n : ℕ) (b : Bool) (ts : List Task) (turns : List ℕ) (x : ℕ) (f vs rs : ℕ → ℕ) (ns : List ℕ) → Headed l n ts turns
    → (value vs l.loop.test == 0) ≡ b → value rs l.loop.test ≡ value vs l.loop.test → Sees l.w.known f vs rs → Keeps (kept_ids l.w.setting) f
    → Along l.w (suc n) (state ts vs turns) (lane (end_at l) rs turns ns) → Along l.w (suc n) (state (Decide l.loop ∷ ts) vs (x ∷ turns)) (lane (test_at l) rs (x ∷ turns) ns)
decides_more l k n true ts turns x f vs rs ns headed chooses same sees keeps next = leaves l k (suc n) ts turns x vs rs ns chooses same next
decides_more l k n false ts turns x f vs rs ns headed chooses same sees keeps next =
    turns_on l k n ts turns x vs rs ns chooses same
    (k.body_goes n (body_at l) _ (TurnOver l.loop ∷ ts) (x ∷ turns)
    (body_stands l.w.code l.u l.loop.test (mask_of l.w.known l.depth) l.step l.head l.body l.p l.c k.step_ends k.head_ends k.stands)
    (again_goes l k n ts turns x headed) f vs rs ns sees keeps tt)

-- a loop from its head on
turning : (l : Looping) (k : Turns l) (n m : ℕ) (ts : List Task) (turns : List ℕ) → m ≤ n → Starts l.w n [] ts turns (end_at l) → Headed l m ts turns
turning l k n zero ts turns less next x =
    let w : Sides = l.w in
    let mask : ℕ = mask_of w.known l.depth in
    k.head_goes 0 (head_at l) _ (Decide l.loop ∷ ts) (x ∷ turns) (head_stands w.code l.u l.loop.test mask l.step l.head l.body l.p l.c k.step_ends k.stands)
    (λ f vs rs ns sees keeps passes.
    past_pred w 0 (state (Decide l.loop ∷ ts) vs (x ∷ turns)) l.u l.loop.test mask (pred_at l) _ rs (x ∷ turns) ns
    (pred_stands w.code l.u l.loop.test mask l.step l.head l.body l.p l.c k.step_ends k.head_ends k.stands)
    (decides_last l k (value vs l.loop.test == 0) ts turns x vs rs ns refl (same_value w.known f vs rs l.loop.test k.below sees)
    (fewer (kir.step w.setting) (vcode.step w.at w.code) kir.cost (vcode.cost w.code) n 0 (state ts vs turns) (lane (end_at l) rs turns ns) less (next f vs rs ns sees keeps passes))))
turning l k n (suc m) ts turns less next x =
    let w : Sides = l.w in
    let mask : ℕ = mask_of w.known l.depth in
    k.head_goes (suc m) (head_at l) _ (Decide l.loop ∷ ts) (x ∷ turns) (head_stands w.code l.u l.loop.test mask l.step l.head l.body l.p l.c k.step_ends k.stands)
    (λ f vs rs ns sees keeps passes.
    past_pred w (suc m) (state (Decide l.loop ∷ ts) vs (x ∷ turns)) l.u l.loop.test mask (pred_at l) _ rs (x ∷ turns) ns
    (pred_stands w.code l.u l.loop.test mask l.step l.head l.body l.p l.c k.step_ends k.head_ends k.stands)
    (decides_more l k m (value vs l.loop.test == 0) ts turns x f vs rs ns (turning l k n m ts turns (omega arith) next) refl (same_value w.known f vs rs l.loop.test k.below sees) sees keeps
    (fewer (kir.step w.setting) (vcode.step w.at w.code) kir.cost (vcode.cost w.code) n (suc m) (state ts vs turns) (lane (end_at l) rs turns ns) less (next f vs rs ns sees keeps passes))))

-- the lanes that are in a loop are kept, of which a lane alone knows nothing
past_mask : (w : Sides) (n : ℕ) (s : State) (u : Bool) (depth p : ℕ) (c : List VOp) (f vs rs : ℕ → ℕ) (ts ns : List ℕ) → drop p w.code ≡ keeps_mask u (mask_of w.known depth) c
    → Sees w.known f vs rs → Keeps (kept_ids w.setting) f
    → ((f' rs' : ℕ → ℕ) (ns' : List ℕ) → Sees w.known f' vs rs' → Keeps (kept_ids w.setting) f' → Along w n s (lane (past u p) rs' ts ns')) → Along w n s (lane p rs ts ns)
past_mask w n s true depth p c f vs rs ts ns e sees keeps next = next f rs ns sees keeps
past_mask w n s false depth p c f vs rs ts ns e sees keeps next =
    lane_goes (kir.step w.setting) kir.cost w.at w.code c (Learn (mask_of w.known depth) MaskNow) n s p rs ts ns
    (lane (suc p) (put_at (own w.known (8 + depth)) (top ns) rs) ts (under ns)) e refl refl
    (next (put_at (8 + depth) (top ns) f) (put_at (own w.known (8 + depth)) (top ns) rs) (under ns) (sees_own w.known f vs rs (8 + depth) (top ns) sees)
    (keeps_other (kept_ids w.setting) f (8 + depth) (top ns) (inr (omega arith)) keeps))

loop_goes : (l : Looping) (k : Turns l) (n : ℕ) (ts : List Task) (turns : List ℕ) → Starts l.w n [] ts turns (end_at l) → (f vs rs : ℕ → ℕ) (ns : List ℕ)
    → Sees l.w.known f vs rs → Keeps (kept_ids l.w.setting) f
    → Along l.w n (state (Do (Loop l.loop.head l.loop.test l.loop.body l.loop.step) ∷ ts) vs turns) (lane l.p rs turns ns)
loop_goes l k n ts turns next f vs rs ns sees keeps =
    let w : Sides = l.w in
    let mask : ℕ = mask_of w.known l.depth in
    let s : State = state (head_tasks l.loop ts) vs (0 ∷ turns) in
    FirstGoes n (state (Do (Loop l.loop.head l.loop.test l.loop.body l.loop.step) ∷ ts) vs turns) s (lane l.p rs turns ns) refl
    (lane_goes (kir.step w.setting) kir.cost w.at w.code _ Enter n s l.p rs turns ns (lane (suc l.p) rs (0 ∷ turns) ns) k.stands refl refl
    (past_mask w n s l.u l.depth (suc l.p) _ f vs rs (0 ∷ turns) ns (behind w.code _ Enter l.p k.stands) sees keeps (λ f' rs' ns' sees' keeps'.
    lane_goes (kir.step w.setting) kir.cost w.at w.code _ (Goto (head_at l)) n s (past l.u (suc l.p)) rs' (0 ∷ turns) ns' (lane (head_at l) rs' (0 ∷ turns) ns')
    (enter_stands w.code l.u l.loop.test mask l.step l.head l.body l.p l.c k.stands) refl refl
    (turning l k n n ts turns (omega arith) next 0 f' vs rs' ns' sees' keeps' tt))))

-- ---- all operations

abbrev part_of : Sides → ℕ → Ops → Part
part_of w depth ops = record { end = ops_end w.known.marks ops; code = lowered w.known depth ops }

-- a sum of truths that is false
none_left : (a b : Bool) → (a || b) ≡ false → a ≡ false
none_left true b e = e
none_left false b e = refl

none_right : (a b : Bool) → (a || b) ≡ false → b ≡ false
none_right true b e = absurd (cc)
none_right false b e = e

mutual
  pub ops_go : (w : Sides) (fits : Fits w) (ops : Ops) (n depth p : ℕ) (c : List VOp) (ks : List Checked) (ts : List Task) (turns : List ℕ)
      → jumps ops ≡ false → AreChecked ks ops → AreBelow w.known.variables ops → AreTyped w.known.params w.known.arrays ops
      → drop p w.code ≡ lowered w.known depth ops p c → Starts w n [] ts turns (ops_end w.known.marks ops p) → Starts w n ks (ops_tasks ops ts) turns p
  ops_go w fits NoOps n depth p c ks ts turns straight checked below typed e next = λ f vs rs ns sees keeps passes. next f vs rs ns sees keeps tt
  ops_go w fits (AndOp op ops) n depth p c ks ts turns straight checked below typed e next =
      op_goes w fits op n depth p (lowered w.known depth ops (op_end w.known.marks op p) c) ks (ops_tasks ops ts) turns (none_left (jumps_in op) (jumps ops) straight) checked.0 below.0 typed.0 e
      (ops_go w fits ops n depth (op_end w.known.marks op p) c (known_behind op ks) ts turns (none_right (jumps_in op) (jumps ops) straight) checked.1 below.1 typed.1
      (op_stands w.code w.known depth op p (lowered w.known depth ops (op_end w.known.marks op p) c) e) next)

  op_goes : (w : Sides) (fits : Fits w) (op : Op) (n depth p : ℕ) (c : List VOp) (ks : List Checked) (ts : List Task) (turns : List ℕ)
      → jumps_in op ≡ false → OpChecked ks op → OpBelow w.known.variables op → OpTyped w.known.params w.known.arrays op
      → drop p w.code ≡ lowered_op w.known depth op p c → Starts w n (known_behind op ks) ts turns (op_end w.known.marks op p) → Starts w n ks (Do op ∷ ts) turns p
  op_goes w fits (Set d a) n depth p c ks ts turns straight checked below typed e next f vs rs ns sees keeps passes =
      both_set w n d (value vs a) p (Set d a) (Copy d a) c ks ts f vs rs turns ns e refl
      (ap (λ v. Go (lane (suc p) (put_at d v rs) turns ns)) (same_value w.known f vs rs a below.1 sees)) refl below.0 next sees keeps passes
  op_goes w fits (Calculate d op a b) n depth p c ks ts turns straight checked below typed e next f vs rs ns sees keeps passes =
      both_set w n d (alu_value_of op (value vs a) (value vs b)) p (Calculate d op a b) (Compute d op a b) c ks ts f vs rs turns ns e refl
      (ap (λ v. Go (lane (suc p) (put_at d (alu_value_of op v (value rs b)) rs) turns ns)) (same_value w.known f vs rs a below.1 sees)
      ∙ ap (λ v. Go (lane (suc p) (put_at d (alu_value_of op (value vs a) v) rs) turns ns)) (same_value w.known f vs rs b below.2 sees)) refl below.0 next sees keeps passes
  op_goes w fits (Fit d elem a) n depth p c ks ts turns straight checked below typed e next f vs rs ns sees keeps passes =
      both_set w n d (fitted elem (value vs a)) p (Fit d elem a) (Cut d elem a) c ks ts f vs rs turns ns e refl
      (ap (λ v. Go (lane (suc p) (put_at d (fitted elem v) rs) turns ns)) (same_value w.known f vs rs a below.1 sees)) refl below.0 next sees keeps passes
  op_goes w fits (Id d which a) n depth p c ks ts turns straight checked below typed e next f vs rs ns sees keeps passes =
      id_goes w n d which ks ts vs turns ns p a c f rs below.0 passes fits.numbers below.1 e next sees keeps
  op_goes w fits (Load d array elem a) n depth p c ks ts turns straight checked below typed e next f vs rs ns sees keeps passes =
      load_goes w n p d array elem a c ks ts f vs rs turns ns fits.arrays e below.0 below.1 typed checked next sees keeps passes
  op_goes w fits (Store array elem a b) n depth p c ks ts turns straight checked below typed e next f vs rs ns sees keeps passes =
      store_goes w n p array elem a b c ks ts f vs rs turns ns fits.arrays e below.0 below.1 typed.0 checked next sees keeps passes
  op_goes w fits (Check array a pos) n depth p c ks ts turns straight checked below typed e next f vs rs ns sees keeps passes =
      check_goes w n p array a pos c ks ts f vs rs turns ns fits.arrays e below next sees keeps passes
  op_goes w fits (Barrier site) n depth p c ks ts turns straight checked below typed e next f vs rs ns sees keeps passes =
      BothAsk n (state (Do (Barrier site) ∷ ts) vs turns) (lane p rs turns ns) (BarrierAction (record { site = site; turns = reverse turns })) (λ answer. state ts vs turns)
      (λ answer. lane (suc p) rs turns ns) refl (step_at w.at w.code _ p rs turns ns e) (costs_none _ _ (cost_at w.code _ p rs turns ns e))
      (λ answer. next f vs rs ns sees keeps passes)
  op_goes w fits (If t one other) n depth p c ks ts turns straight checked below typed e next f vs rs ns sees keeps passes =
      if_goes w n p (is_uniform w.known.marks t) (value vs t == 0) t one other (part_of w depth one) (part_of w depth other) c ts turns
      (λ m q c' us ns'. ops_go w fits one m depth q c' [] us ns' (none_left (jumps one) (jumps other) straight) checked.0 below.1 typed.0)
      (λ m q c' us ns'. ops_go w fits other m depth q c' [] us ns' (none_right (jumps one) (jumps other) straight) checked.1 below.2 typed.1)
      (ops_stand w.code w.known depth one) (ops_stand w.code w.known depth other) e next f vs rs ns refl (same_value w.known f vs rs t below.0 sees) sees keeps
  op_goes w fits (Loop head t body step) n depth p c ks ts turns straight checked below typed e next f vs rs ns sees keeps passes =
      loop_goes (record {
        w = w;
        u = is_uniform w.known.marks t;
        loop = record { head = head; test = t; body = body; step = step };
        depth = depth;
        step = part_of w (suc depth) step;
        head = part_of w (suc depth) head;
        body = part_of w (suc depth) body;
        p = p;
        c = c;
      })
      (record {
        head_goes = λ m q c' us ns'. ops_go w fits head m (suc depth) q c' [] us ns' (none_left (jumps head) (jumps body || jumps step) straight) checked.0 below.1 typed.0;
        body_goes = λ m q c' us ns'. ops_go w fits body m (suc depth) q c' [] us ns' (none_left (jumps body) (jumps step) (none_right (jumps head) (jumps body || jumps step) straight)) checked.1 below.2 typed.1;
        step_goes = λ m q c' us ns'. ops_go w fits step m (suc depth) q c' [] us ns' (none_right (jumps body) (jumps step) (none_right (jumps head) (jumps body || jumps step) straight)) checked.2 below.3 typed.2;
        head_ends = ops_stand w.code w.known (suc depth) head;
        body_ends = ops_stand w.code w.known (suc depth) body;
        step_ends = ops_stand w.code w.known (suc depth) step;
        stands = e;
        below = below.0;
      }) n ts turns next f vs rs ns sees keeps
  op_goes w fits Break n depth p c ks ts turns straight checked below typed e next f vs rs ns sees keeps passes = absurd (true_is_not straight)
  op_goes w fits Continue n depth p c ks ts turns straight checked below typed e next f vs rs ns sees keeps passes = absurd (true_is_not straight)
  op_goes w fits Return n depth p c ks ts turns straight checked below typed e next f vs rs ns sees keeps passes = absurd (true_is_not straight)
  op_goes w fits (Call body) n depth p c ks ts turns straight checked below typed e next f vs rs ns sees keeps passes = absurd (true_is_not straight)
