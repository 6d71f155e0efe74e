-- Loops in both, by how many steps are looked at.
use Rattle.std.proofs.Common.{◌≡◌, ℕ, zero, suc, ◌+◌, ◌≤◌, Bool, List, [], ◌∷◌, refl, ap, sym, ◌∙◌, subst, arith}
use Rattle.std.specs.Prelude.{if◌then◌else◌, ◌==◌}
use Rattle.item_acts.specs.Machine.{Go}
use Rattle.item_acts.specs.Launches.{put_at}
use Rattle.item_acts.proofs.Launches.{put_at_same}
use Rattle.item_settings.specs.Settings.{Setting}
use Rattle.task_machine.specs.declared.tasks.Marker.TheVariants.{TurnStart}
use Rattle.task_machine.specs.declared.tasks.Task.TheVariants as task
use Rattle.task_machine.specs.Tasks as flat
use Rattle.task_machine.proofs.JumpLaws.{left_at, continued_at, returned_at}
use Rattle.step_machine.specs.Sims.{Unseen, BothGo, BothTurn}
use Rattle.step_machine.proofs.AlongLaws.{fewer}
use Rattle.kir.specs.Machine.{state, Task, Do, Decide, Again, Turning, value, step, cost, ops_tasks, turn_tasks, head_tasks, step_tasks, broken, continued, returned}
use Rattle.kir.specs.Trees.{VariableOf, NumberOf, Loop, Ops, NoOps}
use Rattle.ocl_inline.specs.FlatTasks.{FlatTask, FlatLoop, flat_parts, loop_of, value_tasks, stmt_tasks, stmts_tasks}
use Rattle.ocl_inline.specs.Trees.{FlatExpr, FlatValue, NoFlat, SomeFlat, value_of, FlatStmt, WhileFlat, DoFlat, ForFlat, BlockFlat, FlatStmts, NoFlats}
use Rattle.ocl_norm.specs.Normal.{Fragment, loop_ops, stmt_ops, stmts_ops, value_ops}
use Rattle.ocl_norm.specs.Standings.{standing, operand_at, settled}
use Rattle.ocl_norm.proofs.ChoicesAlong.{ValueGoes, not_zero, settles}
use Rattle.ocl_norm.proofs.Relations.{FlatState, flat_state, Along, Alike, alike_self, alike_on, alike_kept, kept_put, sets}
use Rattle.ocl_norm.proofs.Skips.{skips_one, value_skips}
use Rattle.ocl_norm.proofs.StatementsAlong.{Behind, Leaves, Acts, StmtGoes, StmtsGo, behind_later, leaves_later, leaves_over, leaves_behind, result_kept, nothing_acts, acts_on}

-- ---- fewer steps

behind_fewer : (at : Setting) (count n m r : ℕ) (ts : List FlatTask) (ts' : List Task) (values : List ℕ) (vs' : ℕ → ℕ) (us : List ℕ) → m ≤ n
    → Behind at count n r ts ts' values vs' us → Behind at count m r ts ts' values vs' us
behind_fewer at count n m r ts ts' values vs' us le behind vs1 vs1' a =
    fewer (flat.step flat_parts at) (step at) flat.cost cost n m (flat_state ts values vs1 us) (state ts' vs1' us) le (behind vs1 vs1' a)

leaves_fewer : (at : Setting) (count n m r : ℕ) (ts : List FlatTask) (ts' : List Task) (values : List ℕ) (vs' : ℕ → ℕ) (us : List ℕ) → m ≤ n
    → Leaves at count n r ts ts' values vs' us → Leaves at count m r ts ts' values vs' us
leaves_fewer at count n m r ts ts' values vs' us le leaves = record {
  breaks = λ xs vs1 vs1' a.
      fewer (flat.step flat_parts at) (step at) flat.cost cost n m (flat.left ts (flat_state xs values vs1 us)) (broken ts' vs1' us) le (leaves.breaks xs vs1 vs1' a);
  continues = λ xs vs1 vs1' a.
      fewer (flat.step flat_parts at) (step at) flat.cost cost n m (flat.continued ts (flat_state xs values vs1 us)) (continued ts' vs1' us) le
      (leaves.continues xs vs1 vs1' a);
  returns = λ xs v vs1 vs1' a e word.
      fewer (flat.step flat_parts at) (step at) flat.cost cost n m (flat.returned ts (flat_state xs (v ∷ values) vs1 us)) (returned ts' vs1' us) le
      (leaves.returns xs v vs1 vs1' a e word);
}

-- ---- the test

-- the turns of a loop go along
abbrev pub Turns : Setting → ℕ → (m r : ℕ) → FlatLoop → Turning → List FlatTask → List Task → List ℕ → (ℕ → ℕ) → List ℕ → Type 0
Turns at count m r loop loop' ts ts' values vs' us = (k : ℕ) (vs1 vs1' : ℕ → ℕ) → Alike count (suc r) vs' vs1 vs1'
    → Along at m (flat_state (stmt_tasks loop.body (task.Again loop ∷ ts)) values vs1 (k ∷ us)) (state (turn_tasks loop' ts') vs1' (k ∷ us))

-- both loops are left, or both begin a turn
decides : (at : Setting) (m : ℕ) (loop : FlatLoop) (loop' : Turning) (ts : List FlatTask) (ts' : List Task) (values : List ℕ) (vs vs' : ℕ → ℕ) (k : ℕ) (us : List ℕ) (v : ℕ)
    → value vs' loop'.test ≡ v → Along at (suc m) (flat_state ts values vs us) (state ts' vs' us)
    → Along at m (flat_state (stmt_tasks loop.body (task.Again loop ∷ ts)) values vs (k ∷ us)) (state (turn_tasks loop' ts') vs' (k ∷ us))
    → Along at (suc m) (flat_state (task.Decide loop ∷ ts) (v ∷ values) vs (k ∷ us)) (state (Decide loop' ∷ ts') vs' (k ∷ us))
decides at m loop loop' ts ts' values vs vs' k us zero e out turn =
    let free : cost (state (Decide loop' ∷ ts') vs' (k ∷ us)) ≡ 0 = ap (λ y. if y == 0 then 0 else 1) e in
    BothGo (suc m) (flat_state (task.Decide loop ∷ ts) (0 ∷ values) vs (k ∷ us)) (flat_state ts values vs us)
    (state (Decide loop' ∷ ts') vs' (k ∷ us)) (state ts' vs' us) refl
    (ap (λ y. Go (if y == 0 then state ts' vs' us else state (turn_tasks loop' ts') vs' (k ∷ us))) e)
    (omega arith) out
decides at m loop loop' ts ts' values vs vs' k us (suc v) e out turn =
    let behind : FlatState = flat_state (stmt_tasks loop.body (task.Again loop ∷ ts)) values vs (k ∷ us) in
    let one : flat.cost (flat_state (task.Decide loop ∷ ts) (suc v ∷ values) vs (k ∷ us)) ≡ 1 = ap (λ (b : Bool). if b then 0 else 1) (not_zero v) in
    let one' : cost (state (Decide loop' ∷ ts') vs' (k ∷ us)) ≡ 1 = ap (λ y. if y == 0 then 0 else 1) e ∙ ap (λ (b : Bool). if b then 0 else 1) (not_zero v) in
    BothTurn m (flat_state (task.Decide loop ∷ ts) (suc v ∷ values) vs (k ∷ us)) behind
    (state (Decide loop' ∷ ts') vs' (k ∷ us)) (state (turn_tasks loop' ts') vs' (k ∷ us))
    (ap (λ (b : Bool). Go (if b then flat_state ts values vs us else behind)) (not_zero v))
    (ap (λ y. Go (if y == 0 then state ts' vs' us else state (turn_tasks loop' ts') vs' (k ∷ us))) e
    ∙ ap (λ (b : Bool). Go (if b then state ts' vs' us else state (turn_tasks loop' ts') vs' (k ∷ us))) (not_zero v))
    (omega arith) turn

-- both begin a turn
begins : (at : Setting) (m : ℕ) (loop : FlatLoop) (loop' : Turning) (ts : List FlatTask) (ts' : List Task) (values : List ℕ) (vs vs' : ℕ → ℕ) (k : ℕ) (us : List ℕ)
    → value vs' loop'.test ≡ 1
    → Along at m (flat_state (stmt_tasks loop.body (task.Again loop ∷ ts)) values vs (k ∷ us)) (state (turn_tasks loop' ts') vs' (k ∷ us))
    → Along at (suc m) (flat_state (task.Begin loop ∷ ts) values vs (k ∷ us)) (state (Decide loop' ∷ ts') vs' (k ∷ us))
begins at m loop loop' ts ts' values vs vs' k us e turn =
    let one' : cost (state (Decide loop' ∷ ts') vs' (k ∷ us)) ≡ 1 = ap (λ y. if y == 0 then 0 else 1) e in
    BothTurn m (flat_state (task.Begin loop ∷ ts) values vs (k ∷ us)) (flat_state (stmt_tasks loop.body (task.Again loop ∷ ts)) values vs (k ∷ us))
    (state (Decide loop' ∷ ts') vs' (k ∷ us)) (state (turn_tasks loop' ts') vs' (k ∷ us)) refl
    (ap (λ y. Go (if y == 0 then state ts' vs' us else state (turn_tasks loop' ts') vs' (k ∷ us))) e)
    (omega arith) turn

-- ---- the induction: what runs behind a turn leads out of the loop, or to the next turn

abbrev pub Rounds : Setting → ℕ → (r : ℕ) → FlatLoop → Turning → Type 0
Rounds at count r loop loop' = (m k : ℕ) (ts : List FlatTask) (ts' : List Task) (values : List ℕ) (vs vs' : ℕ → ℕ) (us : List ℕ) → Alike count (suc r) vs' vs vs' → vs' r ≡ 0
    → Behind at count (suc m) r ts ts' values vs' us → Leaves at count (suc m) r ts ts' values vs' us → Turns at count m r loop loop' ts ts' values vs' us
    → Along at (suc m) (flat_state (stmt_tasks loop.step (flat.headed flat_parts loop loop.test ts)) values vs (k ∷ us)) (state (step_tasks loop' ts') vs' (k ∷ us))

-- jumps out of the body
body_leaves : (at : Setting) (count n r : ℕ) (loop : FlatLoop) (loop' : Turning) (ts : List FlatTask) (ts' : List Task) (values : List ℕ) (vs' : ℕ → ℕ) (k : ℕ) (us : List ℕ)
    → Behind at count n r ts ts' values vs' us → Leaves at count n r ts ts' values vs' us → Behind at count n r (task.Again loop ∷ ts) (Again loop' ∷ ts') values vs' (k ∷ us)
    → Leaves at count n r (task.Again loop ∷ ts) (Again loop' ∷ ts') values vs' (k ∷ us)
body_leaves at count n r loop loop' ts ts' values vs' k us out leave again = record {
  breaks = λ xs vs1 vs1' a. out vs1 vs1' a;
  continues = λ xs vs1 vs1' a. again vs1 vs1' a;
  returns = λ xs v vs1 vs1' a e word. leave.returns xs v vs1 vs1' a e word;
}

turning : (at : Setting) (count n r : ℕ) (loop : FlatLoop) (loop' : Turning) (ts : List FlatTask) (ts' : List Task) (values : List ℕ) (vs' : ℕ → ℕ) (us : List ℕ) → count ≤ r → vs' r ≡ 0
    → loop'.body ≡ stmt_ops loop.body r NoOps → StmtGoes at count loop.body → Rounds at count r loop loop'
    → Behind at count n r ts ts' values vs' us → Leaves at count n r ts ts' values vs' us → (m : ℕ) → m ≤ n → Turns at count m r loop loop' ts ts' values vs' us
turning at count n r loop loop' ts ts' values vs' us le none is_body acts rounds out leave zero fewer_steps k vs1 vs1' a =
    Unseen (flat_state (stmt_tasks loop.body (task.Again loop ∷ ts)) values vs1 (k ∷ us)) (state (turn_tasks loop' ts') vs1' (k ∷ us))
turning at count n r loop loop' ts ts' values vs' us le none is_body acts rounds out leave (suc m) fewer_steps k vs1 vs1' a =
    let out1 : Behind at count (suc m) r ts ts' values vs1' us =
    behind_later at count (suc m) r ts ts' values vs' vs1 vs1' us a (behind_fewer at count n (suc m) r ts ts' values vs' us fewer_steps out) in
    let leave1 : Leaves at count (suc m) r ts ts' values vs1' us =
    leaves_later at count (suc m) r ts ts' values vs' vs1 vs1' us a (leaves_fewer at count n (suc m) r ts ts' values vs' us fewer_steps leave) in
    let again : Behind at count (suc m) r (task.Again loop ∷ ts) (Again loop' ∷ ts') values vs1' (k ∷ us) =
    λ vs2 vs2' b.
    let a2 : Alike count (suc r) vs' vs2 vs2' = alike_on count (suc r) (suc r) vs' vs1 vs1' vs2 vs2' (omega arith) a b in
    BothGo (suc m) (flat_state (task.Again loop ∷ ts) values vs2 (k ∷ us))
    (flat_state (stmt_tasks loop.step (flat.headed flat_parts loop loop.test ts)) values vs2 ((k + 1) ∷ us))
    (state (Again loop' ∷ ts') vs2' (k ∷ us)) (state (step_tasks loop' ts') vs2' ((k + 1) ∷ us))
    refl refl (omega arith)
    (rounds m (k + 1) ts ts' values vs2 vs2' us (alike_self count (suc r) vs' vs2 vs2' (suc r) a2) (result_kept count r vs' vs2 vs2' le a2 none)
    (behind_later at count (suc m) r ts ts' values vs1' vs2 vs2' us b out1) (leaves_later at count (suc m) r ts ts' values vs1' vs2 vs2' us b leave1)
    (λ k' vs3 vs3' d. turning at count n r loop loop' ts ts' values vs' us le none is_body acts rounds out leave m (omega arith) k' vs3 vs3'
    (alike_on count (suc r) (suc r) vs' vs2 vs2' vs3 vs3' (omega arith) a2 d))) in
    subst (λ ops. Along at (suc m) (flat_state (stmt_tasks loop.body (task.Again loop ∷ ts)) values vs1 (k ∷ us)) (state (ops_tasks ops (Again loop' ∷ ts')) vs1' (k ∷ us)))
    (sym is_body)
    (acts (suc m) r NoOps (task.Again loop ∷ ts) (Again loop' ∷ ts') values vs1 vs1' (k ∷ us) le (alike_self count (suc r) vs' vs1 vs1' (suc r) a)
    (result_kept count r vs' vs1 vs1' le a none) again
    (body_leaves at count (suc m) r loop loop' ts ts' values vs1' k us out1 leave1 again))

-- ---- loops with their test first

-- the same loop in the normal form
abbrev kir_loop : FlatValue → Ops → Ops → ℕ → Turning
kir_loop NoFlat body step d = record { head = NoOps; test = NumberOf 1; body = body; step = step }
kir_loop (SomeFlat e) body step d = record { head = value_ops e d NoOps; test = operand_at (standing e) d; body = body; step = step }

-- its test is written, or holds
abbrev pub TestGoes : Setting → ℕ → FlatValue → Type 0
TestGoes at count NoFlat = Unit {0}
TestGoes at count (SomeFlat e) = ValueGoes at count e

heads : (at : Setting) (count m r : ℕ) (test : FlatValue) (st body : FlatStmt) (body_ops step_ops : Ops) (ts : List FlatTask) (ts' : List Task) (values : List ℕ) (vs vs' : ℕ → ℕ) (k : ℕ)
    (us : List ℕ) → count ≤ r → TestGoes at count test → Alike count (suc r) vs' vs vs' → Behind at count (suc m) r ts ts' values vs' us
    → Turns at count m r (loop_of test st body) (kir_loop test body_ops step_ops (suc r)) ts ts' values vs' us
    → Along at (suc m) (flat_state (flat.headed flat_parts (loop_of test st body) (value_of test) ts) values vs (k ∷ us))
    (state (head_tasks (kir_loop test body_ops step_ops (suc r)) ts') vs' (k ∷ us))
heads at count m r NoFlat st body body_ops step_ops ts ts' values vs vs' k us le gives alike out turns =
    begins at m (loop_of NoFlat st body) (kir_loop NoFlat body_ops step_ops (suc r)) ts ts' values vs vs' k us refl (turns k vs vs' alike)
heads at count m r (SomeFlat e) st body body_ops step_ops ts ts' values vs vs' k us le gives alike out turns =
    let loop : FlatLoop = loop_of (SomeFlat e) st body in
    let loop' : Turning = kir_loop (SomeFlat e) body_ops step_ops (suc r) in
    gives (suc m) (suc r) NoOps (task.Decide loop ∷ ts) (Decide loop' ∷ ts') values vs vs' (k ∷ us) (omega arith) alike
    (λ v vs1 vs1' a same e' word. decides at m loop loop' ts ts' values vs1 vs1' k us v e' (out vs1 vs1' a) (turns k vs1 vs1' a))

-- jumps out of what runs behind a turn
start_leaves : (at : Setting) (count n r : ℕ) (t : FlatTask) (loop' : Turning) (ts : List FlatTask) (ts' : List Task) (values : List ℕ) (vs' : ℕ → ℕ) (k : ℕ) (us : List ℕ)
    → flat.marker_of t ≡ TurnStart → Behind at count n r ts ts' values vs' us → Leaves at count n r ts ts' values vs' us
    → Leaves at count n r (t ∷ ts) (Decide loop' ∷ ts') values vs' (k ∷ us)
start_leaves at count n r t loop' ts ts' values vs' k us e out leave = record {
  breaks = λ xs vs1 vs1' a.
      subst (λ s. Along at n s (state ts' vs1' us)) (sym (left_at t ts (flat_state xs values vs1 (k ∷ us)) TurnStart e)) (out vs1 vs1' a);
  continues = λ xs vs1 vs1' a.
      subst (λ s. Along at n s (state ts' vs1' us)) (sym (continued_at t ts (flat_state xs values vs1 (k ∷ us)) TurnStart e)) (out vs1 vs1' a);
  returns = λ xs v vs1 vs1' a e' word.
      subst (λ s. Along at n s (returned ts' vs1' us)) (sym (returned_at t ts (flat_state xs (v ∷ values) vs1 (k ∷ us)) TurnStart e)) (leave.returns xs v vs1 vs1' a e' word);
}

head_leaves : (at : Setting) (count n r : ℕ) (test : FlatValue) (st body : FlatStmt) (body_ops step_ops : Ops) (d : ℕ) (ts : List FlatTask) (ts' : List Task) (values : List ℕ) (vs' : ℕ → ℕ)
    (k : ℕ) (us : List ℕ) → Behind at count n r ts ts' values vs' us → Leaves at count n r ts ts' values vs' us
    → Leaves at count n r (flat.headed flat_parts (loop_of test st body) (value_of test) ts) (head_tasks (kir_loop test body_ops step_ops d) ts') values vs' (k ∷ us)
head_leaves at count n r NoFlat st body body_ops step_ops d ts ts' values vs' k us out leave =
    start_leaves at count n r (task.Begin (loop_of NoFlat st body)) (kir_loop NoFlat body_ops step_ops d) ts ts' values vs' k us refl out leave
head_leaves at count n r (SomeFlat e) st body body_ops step_ops d ts ts' values vs' k us out leave =
    let loop : FlatLoop = loop_of (SomeFlat e) st body in
    let loop' : Turning = kir_loop (SomeFlat e) body_ops step_ops d in
    leaves_over at count n r (value_tasks e) (value_ops e d NoOps) (task.Decide loop ∷ ts) (Decide loop' ∷ ts') values vs' (k ∷ us) (value_skips e)
    (start_leaves at count n r (task.Decide loop) loop' ts ts' values vs' k us refl out leave)

rounds_of : (at : Setting) (count r : ℕ) (test : FlatValue) (st body : FlatStmt) (step_part : Fragment) (body_ops : Ops) → count ≤ r → TestGoes at count test → Acts at count (stmt_tasks st) step_part
    → Rounds at count r (loop_of test st body) (kir_loop test body_ops (step_part r NoOps) (suc r))
rounds_of at count r test st body step_part body_ops le tests acts m k ts ts' values vs vs' us alike none out leave turns =
    let loop : FlatLoop = loop_of test st body in
    let loop' : Turning = kir_loop test body_ops (step_part r NoOps) (suc r) in
    subst (λ ops. Along at (suc m) (flat_state (stmt_tasks st (flat.headed flat_parts loop (value_of test) ts)) values vs (k ∷ us)) (state (ops_tasks ops (head_tasks loop' ts')) vs' (k ∷ us)))
    (sym (its_step test))
    (acts (suc m) r NoOps (flat.headed flat_parts loop (value_of test) ts) (head_tasks loop' ts') values vs vs' (k ∷ us) le alike none
    (λ vs1 vs1' a. heads at count m r test st body body_ops (step_part r NoOps) ts ts' values vs1 vs1' k us le tests (alike_self count (suc r) vs' vs1 vs1' (suc r) a)
    (behind_later at count (suc m) r ts ts' values vs' vs1 vs1' us a out)
    (λ k' vs2 vs2' b. turns k' vs2 vs2' (alike_on count (suc r) (suc r) vs' vs1 vs1' vs2 vs2' (omega arith) a b)))
    (head_leaves at count (suc m) r test st body body_ops (step_part r NoOps) (suc r) ts ts' values vs' k us out leave))
  where
    its_step : (t : FlatValue) → (kir_loop t body_ops (step_part r NoOps) (suc r)).step ≡ step_part r NoOps
    its_step NoFlat = refl
    its_step (SomeFlat e) = refl

-- such a loop as a whole
entering : (at : Setting) (test : FlatValue) (body_ops step_ops : Ops) (d : ℕ) (c : Ops) (ts' : List Task) (vs' : ℕ → ℕ) (us : List ℕ)
    → step at (state (ops_tasks (loop_ops test body_ops step_ops d c) ts') vs' us)
    ≡ Go (state (head_tasks (kir_loop test body_ops step_ops d) (ops_tasks c ts')) vs' (0 ∷ us))
entering at NoFlat body_ops step_ops d c ts' vs' us = refl
entering at (SomeFlat e) body_ops step_ops d c ts' vs' us = refl

entering_free : (test : FlatValue) (body_ops step_ops : Ops) (d : ℕ) (c : Ops) (ts' : List Task) (vs' : ℕ → ℕ) (ns : List ℕ)
    → cost (state (ops_tasks (loop_ops test body_ops step_ops d c) ts') vs' ns) ≡ 0
entering_free NoFlat body_ops step_ops d c ts' vs' ns = refl
entering_free (SomeFlat e) body_ops step_ops d c ts' vs' ns = refl

its_body : (test : FlatValue) (body_ops step_ops : Ops) (d : ℕ) → (kir_loop test body_ops step_ops d).body ≡ body_ops
its_body NoFlat body_ops step_ops d = refl
its_body (SomeFlat e) body_ops step_ops d = refl

pub loop_acts : (at : Setting) (count : ℕ) (test : FlatValue) (st body : FlatStmt) (step_part : Fragment) → TestGoes at count test → Acts at count (stmt_tasks st) step_part → StmtGoes at count body
    → Acts at count (λ ts. task.Enter (loop_of test st body) ∷ ts) (λ r c. loop_ops test (stmt_ops body r NoOps) (step_part r NoOps) (suc r) c)
loop_acts at count test st body step_part tests acts acts' zero r c ts ts' values vs vs' us le alike none next leave =
    Unseen (flat_state (task.Enter (loop_of test st body) ∷ ts) values vs us)
    (state (ops_tasks (loop_ops test (stmt_ops body r NoOps) (step_part r NoOps) (suc r) c) ts') vs' us)
loop_acts at count test st body step_part tests acts acts' (suc m) r c ts ts' values vs vs' us le alike none next leave =
    let loop : FlatLoop = loop_of test st body in
    let body_ops : Ops = stmt_ops body r NoOps in
    let step_ops : Ops = step_part r NoOps in
    let loop' : Turning = kir_loop test body_ops step_ops (suc r) in
    let free : cost (state (ops_tasks (loop_ops test body_ops step_ops (suc r) c) ts') vs' us) ≡ 0 = entering_free test body_ops step_ops (suc r) c ts' vs' us in
    BothGo (suc m) (flat_state (task.Enter loop ∷ ts) values vs us) (flat_state (flat.headed flat_parts loop (value_of test) ts) values vs (0 ∷ us))
    (state (ops_tasks (loop_ops test body_ops step_ops (suc r) c) ts') vs' us) (state (head_tasks loop' (ops_tasks c ts')) vs' (0 ∷ us)) refl
    (entering at test body_ops step_ops (suc r) c ts' vs' us) (omega arith)
    (heads at count m r test st body body_ops step_ops ts (ops_tasks c ts') values vs vs' 0 us le tests alike next
    (turning at count (suc m) r loop loop' ts (ops_tasks c ts') values vs' us le none (its_body test body_ops step_ops (suc r)) acts'
    (rounds_of at count r test st body step_part body_ops le tests acts) next (leaves_behind at count (suc m) r c ts ts' values vs' us leave) m (omega arith)))

pub while_acts : (at : Setting) (count : ℕ) (test : FlatExpr) (body : FlatStmt) → ValueGoes at count test → StmtGoes at count body → StmtGoes at count (WhileFlat test body)
while_acts at count test body gives acts = loop_acts at count (SomeFlat test) (BlockFlat NoFlats) body (λ r c. c) gives (nothing_acts at count) acts

pub for_acts : (at : Setting) (count : ℕ) (first : FlatStmts) (test : FlatValue) (st : FlatStmts) (body : FlatStmt) → StmtsGo at count first → TestGoes at count test
    → StmtsGo at count st → StmtGoes at count body → StmtGoes at count (ForFlat first test st body)
for_acts at count first test st body firsts tests steps acts =
    acts_on at count (stmts_tasks first) (stmts_ops first) (λ ts. task.Enter (loop_of test (BlockFlat st) body) ∷ ts)
    (λ r c. loop_ops test (stmt_ops body r NoOps) (stmts_ops st r NoOps) (suc r) c)
    (λ ts. skips_one (task.Enter (loop_of test (BlockFlat st) body)) ts refl) firsts (loop_acts at count test (BlockFlat st) body (stmts_ops st) tests steps acts)

-- ---- `do`: the test of a turn is evaluated in the step

do_rounds : (at : Setting) (count r : ℕ) (test : FlatExpr) (body : FlatStmt) → count ≤ r → ValueGoes at count test
    → Rounds at count r (loop_of (SomeFlat test) (BlockFlat NoFlats) body)
    (record { head = NoOps; test = VariableOf (suc r); body = stmt_ops body r NoOps; step = value_ops test (suc r) (settled (standing test) (suc r) NoOps) })
do_rounds at count r test body le gives m k ts ts' values vs vs' us alike none out leave turns =
    let loop : FlatLoop = loop_of (SomeFlat test) (BlockFlat NoFlats) body in
    let loop' : Turning =
    record { head = NoOps; test = VariableOf (suc r); body = stmt_ops body r NoOps; step = value_ops test (suc r) (settled (standing test) (suc r) NoOps) } in
    gives (suc m) (suc r) (settled (standing test) (suc r) NoOps) (task.Decide loop ∷ ts) (Decide loop' ∷ ts') values vs vs' (k ∷ us) (omega arith) alike
    (λ v vs1 vs1' a same e word.
    settles at (suc m) (flat_state (task.Decide loop ∷ ts) (v ∷ values) vs1 (k ∷ us)) (standing test) (suc r) NoOps (Decide loop' ∷ ts') vs1' (k ∷ us) v e
    (λ vs2' kept at2.
    let a2 : Alike count (suc r) vs' vs1 vs2' = alike_kept count (suc r) (suc r) vs' vs1 vs1' vs2' (omega arith) (omega arith) kept a in
    decides at m loop loop' ts ts' values vs1 vs2' k us v at2 (out vs1 vs2' a2) (turns k vs1 vs2' a2)))

pub do_acts : (at : Setting) (count : ℕ) (body : FlatStmt) (test : FlatExpr) → StmtGoes at count body → ValueGoes at count test → StmtGoes at count (DoFlat body test)
do_acts at count body test acts gives zero r c ts ts' values vs vs' us le alike none next leave =
    Unseen (flat_state (stmt_tasks (DoFlat body test) ts) values vs us) (state (ops_tasks (stmt_ops (DoFlat body test) r c) ts') vs' us)
do_acts at count body test acts gives (suc m) r c ts ts' values vs vs' us le alike none next leave =
    let loop : FlatLoop = loop_of (SomeFlat test) (BlockFlat NoFlats) body in
    let step_ops : Ops = value_ops test (suc r) (settled (standing test) (suc r) NoOps) in
    let loop' : Turning = record { head = NoOps; test = VariableOf (suc r); body = stmt_ops body r NoOps; step = step_ops } in
    let whole : Task = Do (Loop NoOps (VariableOf (suc r)) (stmt_ops body r NoOps) step_ops) in
    let vs1' : ℕ → ℕ = put_at (suc r) 1 vs' in
    let a1 : Alike count (suc r) vs' vs vs1' = alike_kept count (suc r) (suc r) vs' vs vs' vs1' (omega arith) (omega arith) (kept_put (suc r) (suc r) 1 vs' (omega arith)) alike in
    sets at (suc m) (flat_state (task.EnterTurn loop ∷ ts) values vs us) (suc r) (NumberOf 1) (whole ∷ ops_tasks c ts') vs' us 1 refl
    (BothGo (suc m) (flat_state (task.EnterTurn loop ∷ ts) values vs us) (flat_state (task.Begin loop ∷ ts) values vs (0 ∷ us))
    (state (whole ∷ ops_tasks c ts') vs1' us) (state (Decide loop' ∷ ops_tasks c ts') vs1' (0 ∷ us)) refl refl (omega arith)
    (begins at m loop loop' ts (ops_tasks c ts') values vs vs1' 0 us (put_at_same (suc r) 1 vs')
    (turning at count (suc m) r loop loop' ts (ops_tasks c ts') values vs' us le none refl acts (do_rounds at count r test body le gives) next
    (leaves_behind at count (suc m) r c ts ts' values vs' us leave) m (omega arith) 0 vs vs1' a1)))
