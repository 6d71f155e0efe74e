-- Loops that a jump leaves, or that are begun where it is not known that all is alive, go along with the same in flags.
use Rattle.std.proofs.Common.{◌≡◌, ℕ, zero, suc, ◌<◌, ◌≤◌, Bool, true, false, ◌||◌, List, ◌∷◌, refl, sym, ◌∙◌, subst, arith, true≢false}
use Rattle.std.specs.Prelude.{if◌then◌else◌}
use Rattle.vx_base.specs.declared.types.Alu.TheVariants.{Mul}
use Rattle.item_acts.specs.Launches.{put_at}
use Rattle.item_acts.proofs.Launches.{put_at_same, put_at_other}
use Rattle.item_settings.specs.Settings.{Setting}
use Rattle.step_machine.specs.Sims.{Unseen, BothGo, SecondGoes}
use Rattle.step_machine.proofs.AlongLaws.{fewer}
use Rattle.step_machine.specs.Stacks.{under}
use Rattle.step_machine.specs.Turns.{risen}
use Rattle.step_machine.proofs.TurnLaws.{under_risen}
use Rattle.kir.specs.Machine.{State, state, Task, Do, Decide, Again, Turning, value, step, cost, ops_tasks, turn_tasks, head_tasks, step_tasks, entered}
use Rattle.kir.specs.Machine.{returned}
use Rattle.kir.specs.Trees.{Operand, VariableOf, Set, Loop, Ops, NoOps}
use Rattle.kir_flow.specs.declared.scopes.Jump.{Jump}
use Rattle.kir_flow.specs.declared.scopes.Scope.{Scope}
use Rattle.kir_flow.specs.declared.scopes.Jump.TheVariants.{ByBreak, ByContinue, ByReturn}
use Rattle.kir_flow.specs.declared.scopes.Scope.TheVariants.{InCall, InBody, InEdge}
use Rattle.kir_flow.specs.Flagging.{live, whole, inside, leaves, op_leaves, body_scope, edge_scope, flagged}
use Rattle.kir_flow.specs.Flagging.{flagged_loop, tests, passed_on, alive}
use Rattle.kir.specs.Numbered.{IsBelow}
use Rattle.kir_flow.proofs.FlagStates.{Along, Fate, Alive, Skipped, Broken, Returned, live_bit, run_bit, whole_bit, fate_of, whole_inside, SameTo, sets, calculates, ends}
use Rattle.kir_flow.proofs.FlagStates.{dead_test, live_test}
use Rattle.kir_flow.proofs.Silence.{silent, loop_of, quiet_head}
use Rattle.kir_flow.proofs.FollowStates.{Fine, Alike, live_behind, value_same, value_word, alike_same, jumped, jump_skips, Next, Leave, Follows}
use Rattle.kir_flow.proofs.FlagSteps.{Apart, Has, has_live, has_of, alike_of, edge_apart, passed_alive, passed_returned, loop_over}
use Rattle.kir_flow.proofs.StraightFollows.{or_first, or_second, alive_is}
use Rattle.kir_flow.proofs.LoopFollows.{decides, source_loop}

-- ---- the flags of a loop

pub fine_edge : (count : ℕ) (f : Scope) → Fine count f → Fine count (edge_scope f)
fine_edge count f fine = record { behind = fine.behind; ordered = whole_inside f fine.ordered }

fine_body : (count : ℕ) (f : Scope) → Fine count f → Fine count (body_scope f)
fine_body count f fine = record { behind = fine.behind; ordered = whole_inside f fine.ordered }

-- the body has the flags that the head has
to_body : (count : ℕ) (f : Scope) (fate : Fate) (vs0 vs vs' : ℕ → ℕ) → Alike count (edge_scope f) fate vs0 vs vs' → Alike count (body_scope f) fate vs0 vs vs'
to_body count f fate vs0 vs vs' a = record {
  rest = record { equal = a.rest.equal; words = a.rest.words; frame = a.rest.frame };
  stands = record { live = a.stands.live; run = a.stands.run; whole = a.stands.whole };
}

to_edge : (count : ℕ) (f : Scope) (fate : Fate) (vs0 vs vs' : ℕ → ℕ) → Alike count (body_scope f) fate vs0 vs vs' → Alike count (edge_scope f) fate vs0 vs vs'
to_edge count f fate vs0 vs vs' a = record {
  rest = record { equal = a.rest.equal; words = a.rest.words; frame = a.rest.frame };
  stands = record { live = a.stands.live; run = a.stands.run; whole = a.stands.whole };
}

-- the innermost flag is set
revived : (count : ℕ) (f : Scope) (fate fate' : Fate) (vs0 vs vs' : ℕ → ℕ) (x : ℕ) → Fine count f → x ≡ live_bit fate' → run_bit fate ≡ run_bit fate'
    → whole_bit fate ≡ whole_bit fate'
    → Alike count (edge_scope f) fate vs0 vs vs' → Alike count (edge_scope f) fate' vs0 vs (put_at (suc (inside f)) x vs')
revived count f fate fate' vs0 vs vs' x fine e e' e'' a =
    let has : Has count (edge_scope f) x (run_bit fate) (whole_bit fate) vs0 vs (put_at (suc (inside f)) x vs') =
    has_live count (edge_scope f) (live_bit fate) (run_bit fate) (whole_bit fate) x vs0 vs vs' (edge_apart (whole f) (inside f) (whole_inside f fine.ordered))
    (fine_edge count f fine)
    (has_of count (edge_scope f) fate vs0 vs vs' a) in
    record { rest = has.rest; stands = record { live = has.live ∙ e; run = has.run ∙ e'; whole = has.whole ∙ e'' } }

-- ---- ways out of a loop

-- what is to hold behind the loop: it is over, or a `Return` has left it
pub record Exits (at : Setting) (count n : ℕ) (f : Scope) (returns : Bool) (vs0 : ℕ → ℕ) (ts ts' : List Task) (ns : List ℕ) : Type 0 where
  pub over : (fate : Fate) → whole_bit fate ≡ 1 → (vs vs' : ℕ → ℕ) → Alike count (edge_scope f) fate vs0 vs vs' → Along at n (state ts vs ns) (state ts' vs' ns)
  pub back : returns ≡ true → (vs vs' : ℕ → ℕ) → Alike count (edge_scope f) Returned vs0 vs vs' → Along at n (returned ts vs ns) (state ts' vs' ns)

-- by a jump, once the second has left the loop too
leaves_edge : (at : Setting) (count n : ℕ) (f : Scope) (returns : Bool) (vs0 : ℕ → ℕ) (loop : Turning) (ts ts' : List Task) (ns inner : List ℕ) (j : Jump) (vs vs' : ℕ → ℕ)
    → under inner ≡ ns → Exits at count n f returns vs0 ts ts' ns → (j ≡ ByReturn → returns ≡ true) → Alike count (edge_scope f) (fate_of (edge_scope f) j) vs0 vs vs'
    → Along at n (jumped j (Decide loop ∷ ts) vs inner) (state ts' vs' ns)
leaves_edge at count n f returns vs0 loop ts ts' ns inner ByBreak vs vs' out exits by a =
    subst (λ ms. Along at n (state ts vs ms) (state ts' vs' ns)) (sym out) (exits.over Broken refl vs vs' a)
leaves_edge at count n f returns vs0 loop ts ts' ns inner ByContinue vs vs' out exits by a =
    subst (λ ms. Along at n (state ts vs ms) (state ts' vs' ns)) (sym out) (exits.over Broken refl vs vs' a)
leaves_edge at count n f returns vs0 loop ts ts' ns inner ByReturn vs vs' out exits by a =
    subst (λ ms. Along at n (returned ts vs ms) (state ts' vs' ns)) (sym out) (exits.back (by refl) vs vs' a)

edge_dead : (f : Scope) (j : Jump) → live_bit (fate_of (edge_scope f) j) ≡ 0
edge_dead f ByBreak = refl
edge_dead f ByContinue = refl
edge_dead f ByReturn = refl

-- ---- the second loop alone, when the first is left

-- at the head
over_at_head : (at : Setting) (count n : ℕ) (s : State) (f : Scope) (fate : Fate) (test : Operand) (head body st : Ops) (vs0 vs vs' : ℕ → ℕ) (ts' : List Task) (ns inner : List ℕ)
    → Fine count f → live_bit fate ≡ 0 → under inner ≡ ns
    → ((vs1 : ℕ → ℕ) → Alike count (edge_scope f) fate vs0 vs vs1 → Along at n s (state ts' vs1 ns))
    → Alike count (edge_scope f) fate vs0 vs vs' → Along at n s (state (head_tasks (loop_of f test head body st) ts') vs' inner)
over_at_head at count n s f fate test head body st vs0 vs vs' ts' ns inner fine dead out next a =
    quiet_head at n s f test head body st vs' ts' inner (silent at head) fine.ordered (record { fate = fate; dead = dead; stands = a.stands })
    (λ vs1 same. subst (λ ms. Along at n s (state ts' vs1 ms)) (sym out) (next vs1 (alike_same count (edge_scope f) fate vs0 vs vs' vs1 (fine_edge count f fine) same a)))
    vs' (λ k below. refl)

-- at the end of the body
over_at_end : (at : Setting) (count n : ℕ) (s : State) (f : Scope) (fate : Fate) (test : Operand) (head body st : Ops) (vs0 vs vs' : ℕ → ℕ) (ts' : List Task) (ns inner : List ℕ)
    → Fine count f → live_bit fate ≡ 0 → run_bit fate ≡ 0 → under inner ≡ ns
    → ((vs1 : ℕ → ℕ) → Alike count (edge_scope f) fate vs0 vs vs1 → Along at n s (state ts' vs1 ns))
    → Alike count (body_scope f) fate vs0 vs vs' → Along at n s (state (Again (loop_of f test head body st) ∷ ts') vs' inner)
over_at_end at count n s f fate test head body st vs0 vs vs' ts' ns inner fine dead ended out next b =
    let loop' : Turning = loop_of f test head body st in
    let i : ℕ = inside f in
    let vs1 : ℕ → ℕ = put_at (suc (inside f)) 0 vs' in
    let a : Alike count (edge_scope f) fate vs0 vs vs1 = revived count f fate fate vs0 vs vs' 0 fine (sym dead) refl refl (to_edge count f fate vs0 vs vs' b) in
    SecondGoes n s (state (Again loop' ∷ ts') vs' inner) (state (step_tasks loop' ts') vs' (risen inner)) refl refl
    (sets at n s (suc (inside f)) (VariableOf (inside f)) (ops_tasks (flagged false (edge_scope f) false st NoOps) (head_tasks loop' ts')) vs' (risen inner) 0
    (b.stands.run ∙ ended)
    (silent at st n s false (edge_scope f) vs1 NoOps (head_tasks loop' ts') (risen inner) (whole_inside f fine.ordered) (record { fate = fate; dead = dead; stands = a.stands })
    (λ vs2 same. over_at_head at count n s f fate test head body st vs0 vs vs2 ts' ns (risen inner) fine dead (under_risen inner ∙ out) next
    (alike_same count (edge_scope f) fate vs0 vs vs1 vs2 (fine_edge count f fine) same a))
    vs1 (λ k below. refl)))

-- behind the head
over_at_test : (at : Setting) (count n : ℕ) (s : State) (f : Scope) (fate : Fate) (test : Operand) (head body st : Ops) (vs0 vs vs' : ℕ → ℕ) (ts' : List Task) (ns inner : List ℕ)
    → Fine count f → live_bit fate ≡ 0 → under inner ≡ ns
    → ((vs1 : ℕ → ℕ) → Alike count (edge_scope f) fate vs0 vs vs1 → Along at n s (state ts' vs1 ns))
    → Alike count (edge_scope f) fate vs0 vs vs' → Along at n s (state (ops_tasks (tests f test) (Decide (loop_of f test head body st) ∷ ts')) vs' inner)
over_at_test at count n s f fate test head body st vs0 vs vs' ts' ns inner fine dead out next a =
    let loop' : Turning = loop_of f test head body st in
    calculates at n s (suc (inside f)) Mul (VariableOf (suc (inside f))) test (Decide loop' ∷ ts') vs' inner 0 (value vs' test) 0 (a.stands.live ∙ dead) refl
    (dead_test (value vs' test))
    (ends at n s loop' ts' (put_at (suc (inside f)) 0 vs') inner (put_at_same (suc (inside f)) 0 vs')
    (subst (λ ms. Along at n s (state ts' (put_at (suc (inside f)) 0 vs') ms)) (sym out)
    (next (put_at (suc (inside f)) 0 vs') (revived count f fate fate vs0 vs vs' 0 fine (sym dead) refl refl a))))

-- ---- turns

-- what is known of a loop and of the same with flags
record Parts (at : Setting) (count n : ℕ) (f : Scope) (test : Operand) (head body st : Ops) (ts ts' : List Task) (vs0 : ℕ → ℕ) (ns : List ℕ) : Type 0 where
  fine : Fine count f
  below : IsBelow count test
  heads : Follows at count head
  bodies : Follows at count body
  steps : Follows at count st
  exits : (m : ℕ) → m ≤ n → Exits at count m f (leaves ByReturn head || (leaves ByReturn body || leaves ByReturn st)) vs0 ts ts' ns

-- from the head on, with so many turns looked at
abbrev HeadGoes : (at : Setting) (count : ℕ) (f : Scope) (test : Operand) (head body st : Ops) (ts ts' : List Task) (vs0 : ℕ → ℕ) (ns : List ℕ) (m : ℕ) → Type 0
HeadGoes at count f test head body st ts ts' vs0 ns m = (inner : List ℕ) → under inner ≡ ns → (vs vs' : ℕ → ℕ) → Alike count (edge_scope f) Alive vs0 vs vs'
    → Along at m (state (head_tasks (source_loop head test body st) ts) vs inner) (state (head_tasks (loop_of f test head body st) ts') vs' inner)

-- the end of a turn that is over in both: the next begins alive
again : (at : Setting) (count n : ℕ) (f : Scope) (test : Operand) (head body st : Ops) (ts ts' : List Task) (vs0 : ℕ → ℕ) (ns : List ℕ)
    → Parts at count n f test head body st ts ts' vs0 ns
    → (m : ℕ) → m ≤ n → HeadGoes at count f test head body st ts ts' vs0 ns m
    → (fate : Fate) (inner : List ℕ) (vs vs' : ℕ → ℕ) → under inner ≡ ns → run_bit fate ≡ 1 → whole_bit fate ≡ 1 → Alike count (body_scope f) fate vs0 vs vs'
    → Along at m (state (Again (source_loop head test body st) ∷ ts) vs inner) (state (Again (loop_of f test head body st) ∷ ts') vs' inner)
again at count n f test head body st ts ts' vs0 ns parts m le turns fate inner vs vs' out goes goes' b =
    let loop : Turning = source_loop head test body st in
    let loop' : Turning = loop_of f test head body st in
    let vs1' : ℕ → ℕ = put_at (suc (inside f)) 1 vs' in
    let alive_again : Alike count (edge_scope f) Alive vs0 vs vs1' = revived count f fate Alive vs0 vs vs' 1 parts.fine refl goes goes' (to_edge count f fate vs0 vs vs' b) in
    let out' : under (risen inner) ≡ ns = under_risen inner ∙ out in
    BothGo m (state (Again loop ∷ ts) vs inner) (state (step_tasks loop ts) vs (risen inner)) (state (Again loop' ∷ ts') vs' inner) (state (step_tasks loop' ts') vs' (risen inner))
    refl refl (omega arith)
    (sets at m (state (step_tasks loop ts) vs (risen inner)) (suc (inside f)) (VariableOf (inside f))
    (ops_tasks (flagged false (edge_scope f) false st NoOps) (head_tasks loop' ts')) vs' (risen inner) 1
    (b.stands.run ∙ goes)
    (parts.steps m (edge_scope f) false NoOps (head_tasks loop ts) (head_tasks loop' ts') vs0 vs vs1' (risen inner) (fine_edge count f parts.fine)
    (λ vs2 vs2' a. turns (risen inner) out' vs2 vs2' a)
    (λ j left vs2 vs2' a.
    subst (λ s. Along at m s (state (head_tasks loop' ts') vs2' (risen inner))) (sym (jump_skips j head (Decide loop ∷ ts) vs2 (risen inner)))
    (over_at_head at count m (jumped j (Decide loop ∷ ts) vs2 (risen inner)) f (fate_of (edge_scope f) j) test head body st vs0 vs2 vs2' ts' ns (risen inner) parts.fine
    (edge_dead f j) out'
    (λ vs3 a3. leaves_edge at count m f (leaves ByReturn head || (leaves ByReturn body || leaves ByReturn st)) vs0 loop ts ts' ns (risen inner) j vs2 vs3 out' (parts.exits m le)
    (λ e. or_second (leaves ByReturn head) (leaves ByReturn body || leaves ByReturn st)
    (or_second (leaves ByReturn body) (leaves ByReturn st) (subst (λ i. leaves i st ≡ true) e left))) a3)
    a))
    alive_again))

-- a jump leaves the body
body_left : (at : Setting) (count n : ℕ) (f : Scope) (test : Operand) (head body st : Ops) (ts ts' : List Task) (vs0 : ℕ → ℕ) (ns : List ℕ)
    → Parts at count n f test head body st ts ts' vs0 ns
    → (m : ℕ) → m ≤ n → HeadGoes at count f test head body st ts ts' vs0 ns m → (inner : List ℕ) → under inner ≡ ns
    → Leave at count m (body_scope f) vs0 (λ j. leaves j body) (Again (source_loop head test body st) ∷ ts) (Again (loop_of f test head body st) ∷ ts') inner
body_left at count n f test head body st ts ts' vs0 ns parts m le turns inner out ByContinue left vs vs' b =
    again at count n f test head body st ts ts' vs0 ns parts m le turns Skipped inner vs vs' out refl refl b
body_left at count n f test head body st ts ts' vs0 ns parts m le turns inner out ByBreak left vs vs' b =
    subst (λ ms. Along at m (state ts vs ms) (state (Again (loop_of f test head body st) ∷ ts') vs' inner)) (sym out)
    (over_at_end at count m (state ts vs ns) f Broken test head body st vs0 vs vs' ts' ns inner parts.fine refl refl out
    (λ vs1 a. (parts.exits m le).over Broken refl vs vs1 a) b)
body_left at count n f test head body st ts ts' vs0 ns parts m le turns inner out ByReturn left vs vs' b =
    subst (λ ms. Along at m (returned ts vs ms) (state (Again (loop_of f test head body st) ∷ ts') vs' inner)) (sym out)
    (over_at_end at count m (returned ts vs ns) f Returned test head body st vs0 vs vs' ts' ns inner parts.fine refl refl out
    (λ vs1 a. (parts.exits m le).back (or_second (leaves ByReturn head) (leaves ByReturn body || leaves ByReturn st)
    (or_first (leaves ByReturn body) (leaves ByReturn st) left)) vs vs1 a) b)

-- the test: both leave the loop, or both begin a turn
tested : (at : Setting) (count n : ℕ) (f : Scope) (test : Operand) (head body st : Ops) (ts ts' : List Task) (vs0 : ℕ → ℕ) (ns : List ℕ)
    → Parts at count n f test head body st ts ts' vs0 ns
    → (m : ℕ) → suc m ≤ n → HeadGoes at count f test head body st ts ts' vs0 ns m → (inner : List ℕ) → under inner ≡ ns
    → (vs vs' : ℕ → ℕ) → Alike count (edge_scope f) Alive vs0 vs vs'
    → Along at (suc m) (state (Decide (source_loop head test body st) ∷ ts) vs inner) (state (ops_tasks (tests f test) (Decide (loop_of f test head body st) ∷ ts')) vs' inner)
tested at count n f test head body st ts ts' vs0 ns parts m le turns inner out vs vs' a =
    let loop : Turning = source_loop head test body st in
    let loop' : Turning = loop_of f test head body st in
    let t : ℕ = value vs test in
    let vs1' : ℕ → ℕ = put_at (suc (inside f)) (value vs test) vs' in
    let vs2' : ℕ → ℕ = put_at (suc (inside f)) 1 vs1' in
    let apart : Apart (edge_scope f) = edge_apart (whole f) (inside f) (whole_inside f parts.fine.ordered) in
    let has : Has count (edge_scope f) (value vs test) 1 1 vs0 vs vs1' =
    has_live count (edge_scope f) 1 1 1 (value vs test) vs0 vs vs' apart (fine_edge count f parts.fine) (has_of count (edge_scope f) Alive vs0 vs vs' a) in
    let begun : Alike count (edge_scope f) Alive vs0 vs vs2' =
    alike_of count (edge_scope f) Alive vs0 vs vs2' (has_live count (edge_scope f) (value vs test) 1 1 1 vs0 vs vs1' apart (fine_edge count f parts.fine) has) in
    calculates at (suc m) (state (Decide loop ∷ ts) vs inner) (suc (inside f)) Mul (VariableOf (suc (inside f))) test (Decide loop' ∷ ts') vs' inner 1 (value vs test)
    (value vs test)
    a.stands.live (value_same count (edge_scope f) vs0 vs vs' test a.rest parts.below)
    (live_test (value vs test) (value_word count (edge_scope f) vs0 vs vs' test a.rest parts.below))
    (decides at m loop loop' ts ts' vs vs1' inner has.live
    (λ none. subst (λ ms. Along at (suc m) (state ts vs ms) (state ts' vs1' ms)) (sym out)
    ((parts.exits (suc m) le).over Skipped refl vs vs1' (record { rest = has.rest; stands = record { live = has.live ∙ none; run = has.run; whole = has.whole } })))
    (sets at m (state (turn_tasks loop ts) vs inner) (suc (inside f)) (VariableOf (inside f))
    (ops_tasks (flagged false (body_scope f) true body NoOps) (Again loop' ∷ ts')) vs1' inner 1 has.run
    (parts.bodies m (body_scope f) true NoOps (Again loop ∷ ts) (Again loop' ∷ ts') vs0 vs vs2' inner (fine_body count f parts.fine)
    (λ vs3 vs3' b. again at count n f test head body st ts ts' vs0 ns parts m (omega arith) turns Alive inner vs3 vs3' out refl refl b)
    (body_left at count n f test head body st ts ts' vs0 ns parts m (omega arith) turns inner out)
    (to_body count f Alive vs0 vs vs2' begun))))

turns_go : (at : Setting) (count n : ℕ) (f : Scope) (test : Operand) (head body st : Ops) (ts ts' : List Task) (vs0 : ℕ → ℕ) (ns : List ℕ)
    → Parts at count n f test head body st ts ts' vs0 ns
    → (m : ℕ) → m ≤ n → HeadGoes at count f test head body st ts ts' vs0 ns m
turns_go at count n f test head body st ts ts' vs0 ns parts zero le inner out vs vs' a =
    Unseen (state (head_tasks (source_loop head test body st) ts) vs inner) (state (head_tasks (loop_of f test head body st) ts') vs' inner)
turns_go at count n f test head body st ts ts' vs0 ns parts (suc m) le inner out vs vs' a =
    let loop : Turning = source_loop head test body st in
    let loop' : Turning = loop_of f test head body st in
    parts.heads (suc m) (edge_scope f) false (tests f test) (Decide loop ∷ ts) (Decide loop' ∷ ts') vs0 vs vs' inner (fine_edge count f parts.fine)
    (λ vs1 vs1' a1. tested at count n f test head body st ts ts' vs0 ns parts m le
    (turns_go at count n f test head body st ts ts' vs0 ns parts m (omega arith)) inner out vs1 vs1' a1)
    (λ j left vs1 vs1' a1. over_at_test at count (suc m) (jumped j (Decide loop ∷ ts) vs1 inner) f
    (fate_of (edge_scope f) j) test head body st vs0 vs1 vs1' ts' ns inner parts.fine (edge_dead f j) out
    (λ vs2 a2. leaves_edge at count (suc m) f (leaves ByReturn head || (leaves ByReturn body || leaves ByReturn st)) vs0 loop ts ts' ns inner j vs1 vs2 out (parts.exits (suc m) le)
    (λ e. or_first (leaves ByReturn head) (leaves ByReturn body || leaves ByReturn st) (subst (λ i. leaves i head ≡ true) e left)) a2)
    a1)
    a

-- ---- the whole loop

-- the two new flags begin alive
begun_alive : (count : ℕ) (f : Scope) (vs0 vs vs' : ℕ → ℕ) → Fine count f → Alike count f Alive vs0 vs vs'
    → Alike count (edge_scope f) Alive (put_at (suc (inside f)) 1 (put_at (inside f) 1 vs')) vs (put_at (suc (inside f)) 1 (put_at (inside f) 1 vs'))
begun_alive count f vs0 vs vs' fine a =
    let h : count ≤ live f = live_behind count f fine in
    let h' : whole f < inside f = whole_inside f fine.ordered in
    record {
      rest = record {
        equal = λ k less. put_at_other (suc (inside f)) 1 (put_at (inside f) 1 vs') k (λ e. absurd (omega arith)) ∙ put_at_other (inside f) 1 vs' k (λ e. absurd (omega arith))
            ∙ a.rest.equal k less;
        words = a.rest.words;
        frame = λ k more less differs. refl;
      };
      stands = record {
        live = put_at_same (suc (inside f)) 1 (put_at (inside f) 1 vs');
        run = put_at_other (suc (inside f)) 1 (put_at (inside f) 1 vs') (inside f) (λ e. absurd (omega arith)) ∙ put_at_same (inside f) 1 vs';
        whole = put_at_other (suc (inside f)) 1 (put_at (inside f) 1 vs') (whole f) (λ e. absurd (omega arith))
            ∙ put_at_other (inside f) 1 vs' (whole f) (λ e. absurd (omega arith)) ∙ a.stands.whole;
      };
    }

begun_same : (f : Scope) (vs' : ℕ → ℕ) → SameTo (inside f) vs' (put_at (suc (inside f)) 1 (put_at (inside f) 1 vs'))
begun_same f vs' k below = put_at_other (suc (inside f)) 1 (put_at (inside f) 1 vs') k (λ e. absurd (omega arith)) ∙ put_at_other (inside f) 1 vs' k (λ e. absurd (omega arith))

return_fate : (f : Scope) → Returned ≡ fate_of f ByReturn
return_fate (InCall call) = refl
return_fate (InBody call first) = refl
return_fate (InEdge call first) = refl

-- behind the loop, what a `Return` has left of it is passed on
loop_exits : (at : Setting) (count n : ℕ) (f : Scope) (returns : Bool) (c : Ops) (ts ts' : List Task) (vs0 vs vs' : ℕ → ℕ) (ns : List ℕ) → Fine count f
    → Next at count n f vs0 ts (ops_tasks c ts') ns
    → (returns ≡ true → (vs1 vs1' : ℕ → ℕ) → Alike count f (fate_of f ByReturn) vs0 vs1 vs1' → Along at n (returned ts vs1 ns) (state (ops_tasks c ts') vs1' ns))
    → Alike count f Alive vs0 vs vs'
    → Exits at count n f returns (put_at (suc (inside f)) 1 (put_at (inside f) 1 vs')) ts (ops_tasks (if returns then passed_on f c else c) ts') ns
loop_exits at count n f true c ts ts' vs0 vs vs' ns fine next leave a = record {
  over = λ fate goes vs2 vs2' inner. passed_alive at count n (state ts vs2 ns) f c ts' vs0 vs2 ns fine (λ vs3 a3. next vs2 vs3 a3) vs2'
      (loop_over count f fate vs0 vs vs' (put_at (suc (inside f)) 1 (put_at (inside f) 1 vs')) vs2 vs2' fine (begun_same f vs') goes a inner);
  back = λ e vs2 vs2' inner. passed_returned at count n (returned ts vs2 ns) f c ts' vs0 vs vs' (put_at (suc (inside f)) 1 (put_at (inside f) 1 vs')) vs2 ns fine
      (begun_same f vs') a
      (λ vs3 a3. leave refl vs2 vs3 (subst (λ fate. Alike count f fate vs0 vs2 vs3) (return_fate f) a3)) vs2' inner;
}
loop_exits at count n f false c ts ts' vs0 vs vs' ns fine next leave a = record {
  over = λ fate goes vs2 vs2' inner. next vs2 vs2'
      (loop_over count f fate vs0 vs vs' (put_at (suc (inside f)) 1 (put_at (inside f) 1 vs')) vs2 vs2' fine (begun_same f vs') goes a inner);
  back = λ e vs2 vs2' inner. absurd (true≢false (sym e));
}

pub flagged_follows : (at : Setting) (count n : ℕ) (f : Scope) (sure : Bool) (test : Operand) (head body st : Ops) (c : Ops) (ts ts' : List Task) (vs0 vs vs' : ℕ → ℕ) (ns : List ℕ)
    → Fine count f → IsBelow count test → Follows at count head → Follows at count body → Follows at count st
    → Next at count n f vs0 ts (ops_tasks c ts') ns → Leave at count n f vs0 (λ j. op_leaves j (Loop head test body st)) ts (ops_tasks c ts') ns
    → Alike count f Alive vs0 vs vs'
    → Along at n (state (Do (Loop head test body st) ∷ ts) vs ns)
    (state (ops_tasks (flagged_loop f sure (flagged false (edge_scope f) false head (tests f test)) (flagged false (body_scope f) true body NoOps)
    (flagged false (edge_scope f) false st NoOps)
    (if op_leaves ByReturn (Loop head test body st) then passed_on f c else c)) ts') vs' ns)
flagged_follows at count n f sure test head body st c ts ts' vs0 vs vs' ns fine below heads bodies steps next leave a =
    let loop : Turning = source_loop head test body st in
    let loop' : Turning = loop_of f test head body st in
    let returns : Bool = op_leaves ByReturn (Loop head test body st) in
    let tsx : List Task = ops_tasks (if op_leaves ByReturn (Loop head test body st) then passed_on f c else c) ts' in
    let vs1 : ℕ → ℕ = put_at (suc (inside f)) 1 (put_at (inside f) 1 vs') in
    let exits_at : (m : ℕ) → m ≤ n → Exits at count m f returns vs1 ts tsx ns =
    λ m le. loop_exits at count m f returns c ts ts' vs0 vs vs' ns fine
    (λ vs2 vs2' a2. fewer (step at) (step at) cost cost n m (state ts vs2 ns) (state (ops_tasks c ts') vs2' ns) le (next vs2 vs2' a2))
    (λ e vs2 vs2' a2. fewer (step at) (step at) cost cost n m (returned ts vs2 ns) (state (ops_tasks c ts') vs2' ns) le (leave ByReturn e vs2 vs2' a2))
    a in
    let parts : Parts at count n f test head body st ts tsx vs1 ns = record { fine = fine; below = below; heads = heads; bodies = bodies; steps = steps; exits = exits_at } in
    let s : State = state (Do (Loop head test body st) ∷ ts) vs ns in
    sets at n s (inside f) (alive f sure) (Do (Set (suc (inside f)) (VariableOf (inside f))) ∷ Do (Loop loop'.head loop'.test loop'.body loop'.step) ∷ tsx) vs' ns 1
    (alive_is count f sure vs0 vs vs' a)
    (sets at n s (suc (inside f)) (VariableOf (inside f)) (Do (Loop loop'.head loop'.test loop'.body loop'.step) ∷ tsx) (put_at (inside f) 1 vs') ns 1
    (put_at_same (inside f) 1 vs')
    (BothGo n s (state (head_tasks loop ts) vs (entered ns)) (state (Do (Loop loop'.head loop'.test loop'.body loop'.step) ∷ tsx) vs1 ns)
    (state (head_tasks loop' tsx) vs1 (entered ns))
    refl refl (omega arith)
    (turns_go at count n f test head body st ts tsx vs1 ns parts n (omega arith) (entered ns) refl vs vs1 (begun_alive count f vs0 vs vs' fine a))))
