-- Loops that no jump leaves go along with the same in flags, where their parts do.
use Rattle.std.proofs.Common.{◌≡◌, ℕ, zero, suc, ◌≤◌, Bool, true, false, List, [], ◌∷◌, refl, ap, sym, ◌∙◌, subst, arith, true≢false, ne_eqb}
use Rattle.std.specs.Prelude.{if◌then◌else◌, ◌==◌}
use Rattle.item_acts.specs.Launches.{put_at}
use Rattle.item_acts.specs.Machine.{Go}
use Rattle.item_settings.specs.Settings.{Setting}
use Rattle.step_machine.specs.Sims.{Unseen, BothGo, BothTurn}
use Rattle.step_machine.proofs.AlongLaws.{fewer}
use Rattle.step_machine.specs.Stacks.{under}
use Rattle.step_machine.specs.Turns.{risen}
use Rattle.step_machine.proofs.TurnLaws.{under_risen}
use Rattle.kir.specs.Machine.{state, Task, Do, Decide, Again, Turning, value, step, cost, ops_tasks, turn_tasks, head_tasks, step_tasks, entered}
use Rattle.kir.specs.Trees.{Operand, NumberOf, Set, Loop, Ops, NoOps, AndOp}
use Rattle.kir_flow.specs.declared.scopes.Scope.{Scope}
use Rattle.kir_flow.specs.declared.scopes.Jump.TheVariants.{ByBreak, ByContinue, ByReturn}
use Rattle.kir_flow.specs.declared.scopes.Scope.TheVariants.{InCall}
use Rattle.kir_flow.specs.Flagging.{inside, leaves, is_left, flagged}
use Rattle.kir.specs.Numbered.{IsBelow}
use Rattle.kir_flow.proofs.FlagStates.{Along, Alive, Returned, sets}
use Rattle.kir_flow.proofs.FollowStates.{Fine, Alike, value_same, Next, Leave, Follows}
use Rattle.kir_flow.proofs.StraightFollows.{left_by, fine_inside, alike_inside, alike_outside}

-- ---- the test of a loop

-- both loops are left, or both begin a turn
pub decides : (at : Setting) (m : ℕ) (loop loop' : Turning) (ts ts' : List Task) (vs vs' : ℕ → ℕ) (ns : List ℕ) → value vs' loop'.test ≡ value vs loop.test
    → (value vs loop.test ≡ 0 → Along at (suc m) (state ts vs (under ns)) (state ts' vs' (under ns)))
    → Along at m (state (turn_tasks loop ts) vs ns) (state (turn_tasks loop' ts') vs' ns)
    → Along at (suc m) (state (Decide loop ∷ ts) vs ns) (state (Decide loop' ∷ ts') vs' ns)
decides at m loop loop' ts ts' vs vs' ns e leave turn = by_value (value vs loop.test) refl
  where
    by_value : (x : ℕ) → value vs loop.test ≡ x → Along at (suc m) (state (Decide loop ∷ ts) vs ns) (state (Decide loop' ∷ ts') vs' ns)
    by_value zero e' =
        let free : cost (state (Decide loop' ∷ ts') vs' ns) ≡ 0 = ap (λ y. if y == 0 then 0 else 1) (e ∙ e') in
        BothGo (suc m) (state (Decide loop ∷ ts) vs ns) (state ts vs (under ns)) (state (Decide loop' ∷ ts') vs' ns) (state ts' vs' (under ns))
        (ap (λ y. Go (if y == 0 then state ts vs (under ns) else state (turn_tasks loop ts) vs ns)) e')
        (ap (λ y. Go (if y == 0 then state ts' vs' (under ns) else state (turn_tasks loop' ts') vs' ns)) (e ∙ e'))
        (omega arith) (leave e')
    by_value (suc x) e' =
        let differs : (value vs loop.test == 0) ≡ false = ne_eqb (value vs loop.test) 0 (λ e''. absurd (omega arith)) in
        let differs' : (value vs' loop'.test == 0) ≡ false = ne_eqb (value vs' loop'.test) 0 (λ e''. absurd (omega arith)) in
        let one : cost (state (Decide loop ∷ ts) vs ns) ≡ 1 = ap (λ (b : Bool). if b then 0 else 1) differs in
        let one' : cost (state (Decide loop' ∷ ts') vs' ns) ≡ 1 = ap (λ (b : Bool). if b then 0 else 1) differs' in
        BothTurn m (state (Decide loop ∷ ts) vs ns) (state (turn_tasks loop ts) vs ns) (state (Decide loop' ∷ ts') vs' ns) (state (turn_tasks loop' ts') vs' ns)
        (ap (λ (b : Bool). Go (if b then state ts vs (under ns) else state (turn_tasks loop ts) vs ns)) differs)
        (ap (λ (b : Bool). Go (if b then state ts' vs' (under ns) else state (turn_tasks loop' ts') vs' ns)) differs')
        (omega arith) turn

-- ---- loops that no jump leaves

-- the body goes along to its end
abbrev pub BodyGoes : Setting → ℕ → Scope → (ℕ → ℕ) → Ops → Ops → List Task → List Task → Type 0
BodyGoes at count f vs0 body body' ts ts' = (m : ℕ) (vs vs' : ℕ → ℕ) (ns : List ℕ) → Alike count f Alive vs0 vs vs'
    → ((vs2 vs2' : ℕ → ℕ) → Alike count f Alive vs0 vs2 vs2' → Along at m (state ts vs2 ns) (state ts' vs2' ns))
    → Along at m (state (ops_tasks body ts) vs ns) (state (ops_tasks body' ts') vs' ns)

-- a loop, and the same where no jump leaves its head and step
abbrev pub source_loop : Ops → Operand → Ops → Ops → Turning
source_loop head test body st = record { head = head; test = test; body = body; step = st }

abbrev plain_loop : Scope → Ops → Operand → Ops → Ops → Turning
plain_loop f head test body' st = record { head = flagged false f true head NoOps; test = test; body = body'; step = flagged false f true st NoOps }

turning : (at : Setting) (count n : ℕ) (f : Scope) (test : Operand) (head body st body' : Ops) (ts ts' : List Task) (vs0 : ℕ → ℕ) (ns : List ℕ)
    → Fine count f → IsBelow count test → is_left head ≡ false → is_left st ≡ false
    → Follows at count head → Follows at count st → BodyGoes at count f vs0 body body' (Again (source_loop head test body st) ∷ ts) (Again (plain_loop f head test body' st) ∷ ts')
    → Next at count n f vs0 ts ts' ns
    → (m : ℕ) → m ≤ n → (inner : List ℕ) → under inner ≡ ns → (vs vs' : ℕ → ℕ) → Alike count f Alive vs0 vs vs'
    → Along at m (state (head_tasks (source_loop head test body st) ts) vs inner) (state (head_tasks (plain_loop f head test body' st) ts') vs' inner)
turning at count n f test head body st body' ts ts' vs0 ns fine below kept kept' heads steps bodies next zero le inner out vs vs' alike =
    Unseen (state (head_tasks (source_loop head test body st) ts) vs inner) (state (head_tasks (plain_loop f head test body' st) ts') vs' inner)
turning at count n f test head body st body' ts ts' vs0 ns fine below kept kept' heads steps bodies next (suc m) le inner out vs vs' alike =
    let loop : Turning = source_loop head test body st in
    let loop' : Turning = plain_loop f head test body' st in
    heads (suc m) f true NoOps (Decide loop ∷ ts) (Decide loop' ∷ ts') vs0 vs vs' inner fine
    (λ vs1 vs1' a. decides at m loop loop' ts ts' vs1 vs1' inner (value_same count f vs0 vs1 vs1' test a.rest below)
    (λ zero_is. subst (λ ms. Along at (suc m) (state ts vs1 ms) (state ts' vs1' ms)) (sym out)
    (fewer (step at) (step at) cost cost n (suc m) (state ts vs1 ns) (state ts' vs1' ns) le (next vs1 vs1' a)))
    (bodies m vs1 vs1' inner a
    (λ vs2 vs2' b. BothGo m (state (Again loop ∷ ts) vs2 inner) (state (step_tasks loop ts) vs2 (risen inner)) (state (Again loop' ∷ ts') vs2' inner)
    (state (step_tasks loop' ts') vs2' (risen inner))
    refl refl (omega arith)
    (steps m f true NoOps (head_tasks loop ts) (head_tasks loop' ts') vs0 vs2 vs2' (risen inner) fine
    (λ vs3 vs3' d. turning at count n f test head body st body' ts ts' vs0 ns fine below kept kept' heads steps bodies next m (omega arith) (risen inner)
    (under_risen inner ∙ out) vs3 vs3' d)
    (λ j left. absurd (true≢false (sym (left_by j st left) ∙ kept')))
    b))))
    (λ j left. absurd (true≢false (sym (left_by j head left) ∙ kept)))
    alike

-- from the loop itself on
loop_goes : (at : Setting) (count n : ℕ) (f : Scope) (test : Operand) (head body st body' : Ops) (ts ts' : List Task) (vs0 vs vs' : ℕ → ℕ) (ns : List ℕ)
    → Fine count f → IsBelow count test → is_left head ≡ false → is_left st ≡ false
    → Follows at count head → Follows at count st
    → ((loop loop' : Turning) → BodyGoes at count f vs0 body body' (Again loop ∷ ts) (Again loop' ∷ ts'))
    → Next at count n f vs0 ts ts' ns → Alike count f Alive vs0 vs vs'
    → Along at n (state (Do (Loop head test body st) ∷ ts) vs ns) (state (Do (Loop (flagged false f true head NoOps) test body' (flagged false f true st NoOps)) ∷ ts') vs' ns)
loop_goes at count n f test head body st body' ts ts' vs0 vs vs' ns fine below kept kept' heads steps bodies next alike =
    let loop : Turning = source_loop head test body st in
    let loop' : Turning = plain_loop f head test body' st in
    BothGo n (state (Do (Loop head test body st) ∷ ts) vs ns) (state (head_tasks loop ts) vs (entered ns))
    (state (Do (Loop (flagged false f true head NoOps) test body' (flagged false f true st NoOps)) ∷ ts') vs' ns) (state (head_tasks loop' ts') vs' (entered ns)) refl refl
    (omega arith)
    (turning at count n f test head body st body' ts ts' vs0 ns fine below kept kept' heads steps (bodies loop loop') next n (omega arith) (entered ns)
    refl vs vs' alike)

-- one without jumps in its body
pub plain_follows : (at : Setting) (count n : ℕ) (f : Scope) (test : Operand) (head body st : Ops) (ts ts' : List Task) (vs0 vs vs' : ℕ → ℕ) (ns : List ℕ)
    → Fine count f → IsBelow count test → is_left head ≡ false → is_left body ≡ false → is_left st ≡ false
    → Follows at count head → Follows at count body → Follows at count st → Next at count n f vs0 ts ts' ns → Alike count f Alive vs0 vs vs'
    → Along at n (state (Do (Loop head test body st) ∷ ts) vs ns)
    (state (Do (Loop (flagged false f true head NoOps) test (flagged false f true body NoOps) (flagged false f true st NoOps)) ∷ ts') vs' ns)
plain_follows at count n f test head body st ts ts' vs0 vs vs' ns fine below kept kept' kept'' heads bodies steps next alike =
    loop_goes at count n f test head body st (flagged false f true body NoOps) ts ts' vs0 vs vs' ns fine below kept kept'' heads steps
    (λ loop loop' m vs1 vs1' inner a end. bodies m f true NoOps (Again loop ∷ ts) (Again loop' ∷ ts') vs0 vs1 vs1' inner fine end
    (λ j left. absurd (true≢false (sym (left_by j body left) ∙ kept'))) a)
    next alike

-- one of which a `Continue` leads to the end of a turn
pub skips_follows : (at : Setting) (count n : ℕ) (f : Scope) (test : Operand) (head body st : Ops) (ts ts' : List Task) (vs0 vs vs' : ℕ → ℕ) (ns : List ℕ)
    → Fine count f → IsBelow count test → is_left head ≡ false → leaves ByBreak body ≡ false → leaves ByReturn body ≡ false → is_left st ≡ false
    → Follows at count head → Follows at count body → Follows at count st → Next at count n f vs0 ts ts' ns → Alike count f Alive vs0 vs vs'
    → Along at n (state (Do (Loop head test body st) ∷ ts) vs ns)
    (state (Do (Loop (flagged false f true head NoOps) test (AndOp (Set (inside f) (NumberOf 1)) (flagged false (InCall (inside f)) true body NoOps))
    (flagged false f true st NoOps)) ∷ ts') vs' ns)
skips_follows at count n f test head body st ts ts' vs0 vs vs' ns fine below kept stays stays' kept'' heads bodies steps next alike =
    loop_goes at count n f test head body st (AndOp (Set (inside f) (NumberOf 1)) (flagged false (InCall (inside f)) true body NoOps)) ts ts' vs0 vs vs' ns fine below kept
    kept'' heads steps
    (λ loop loop' m vs1 vs1' inner a end.
    sets at m (state (ops_tasks body (Again loop ∷ ts)) vs1 inner) (inside f) (NumberOf 1)
    (ops_tasks (flagged false (InCall (inside f)) true body NoOps) (Again loop' ∷ ts')) vs1' inner 1 refl
    (bodies m (InCall (inside f)) true NoOps (Again loop ∷ ts) (Again loop' ∷ ts') (put_at (inside f) 1 vs1') vs1 (put_at (inside f) 1 vs1') inner (fine_inside count f fine)
    (λ vs2 vs2' b. end vs2 vs2' (alike_outside count f Alive vs0 vs1 vs1' vs2 vs2' fine a b))
    (skipped loop loop' m vs1 vs1' inner a end)
    (alike_inside count f vs0 vs1 vs1' fine a)))
    next alike
  where
    skipped : (loop loop' : Turning) (m : ℕ) (vs1 vs1' : ℕ → ℕ) (inner : List ℕ) → Alike count f Alive vs0 vs1 vs1'
        → ((vs2 vs2' : ℕ → ℕ) → Alike count f Alive vs0 vs2 vs2' → Along at m (state (Again loop ∷ ts) vs2 inner) (state (Again loop' ∷ ts') vs2' inner))
        → Leave at count m (InCall (inside f)) (put_at (inside f) 1 vs1') (λ j. leaves j body) (Again loop ∷ ts) (Again loop' ∷ ts') inner
    skipped loop loop' m vs1 vs1' inner a end ByBreak left vs2 vs2' b = absurd (true≢false (sym left ∙ stays))
    skipped loop loop' m vs1 vs1' inner a end ByContinue left vs2 vs2' b = end vs2 vs2' (alike_outside count f Returned vs0 vs1 vs1' vs2 vs2' fine a b)
    skipped loop loop' m vs1 vs1' inner a end ByReturn left vs2 vs2' b = absurd (true≢false (sym left ∙ stays'))
