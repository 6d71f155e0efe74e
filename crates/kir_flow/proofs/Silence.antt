-- What stands behind a jump asks for nothing and leaves all variables as they are, but those of flags within.
use Rattle.std.proofs.Common.{◌≡◌, ℕ, zero, suc, ◌<◌, Bool, true, false, List, ◌∷◌, refl, sym, ◌∙◌, subst, arith, true≢false}
use Rattle.std.specs.Prelude.{if◌then◌else◌}
use Rattle.std.proofs.lemmas.Bool.{cond_both}
use Rattle.vx_base.specs.Values.{alu_value_of}
use Rattle.vx_base.specs.declared.types.Alu.TheVariants.{Sub, And, Mul}
use Rattle.item_acts.specs.Launches.{put_at}
use Rattle.item_acts.proofs.Launches.{put_at_same, put_at_other}
use Rattle.item_settings.specs.Settings.{Setting}
use Rattle.step_machine.specs.Sims.{SecondGoes}
use Rattle.step_machine.specs.Stacks.{under}
use Rattle.kir.specs.Machine.{State, state, Task, Do, Decide, Turning, value, ops_tasks, head_tasks, entered}
use Rattle.kir.specs.Measures.{is_single}
use Rattle.kir.specs.Trees.{Operand, VariableOf, NumberOf, Op, Set, Calculate, Fit, Id, Load, Store, Check, Barrier, If, Loop, Break, Continue, Return, Call, Ops, NoOps, AndOp}
use Rattle.kir_flow.specs.declared.scopes.Jump.{Jump}
use Rattle.kir_flow.specs.declared.scopes.Scope.{Scope}
use Rattle.kir_flow.specs.declared.scopes.Jump.TheVariants.{ByBreak, ByContinue, ByReturn}
use Rattle.kir_flow.specs.declared.scopes.Scope.TheVariants.{InCall, InBody, InEdge}
use Rattle.kir_flow.specs.Flagging.{live, run, whole, inside, op_leaves, is_left, body_scope, edge_scope}
use Rattle.kir_flow.specs.Flagging.{clear, dies, jump_ops, passed_on, tests, singles, guarded, flagged, flagged_op}
use Rattle.kir_flow.proofs.FlagStates.{Along, Fate, Alive, Skipped, Broken, Returned, live_bit, run_bit, whole_bit, Stands, Ordered, whole_inside, run_inside, live_inside}
use Rattle.kir_flow.proofs.FlagStates.{SameTo, put_above, put_again, narrow, sets, calculates, takes_one, takes_other, ends, kept_bit, kept_whole_bit, and_run, and_live}
use Rattle.kir_flow.proofs.FlagStates.{dead_test}

-- the innermost turn or call is over, and the flags say so
pub record Down (f : Scope) (vs : ℕ → ℕ) : Type 0 where
  pub fate : Fate
  pub dead : live_bit fate ≡ 0
  pub stands : Stands f fate vs

-- from these tasks on all goes well with all variables below a bound as they were
abbrev pub Quiet : Setting → ℕ → State → ℕ → (ℕ → ℕ) → List Task → List ℕ → Type 0
Quiet at n s bound vs0 ts ns = (vs : ℕ → ℕ) → SameTo bound vs0 vs → Along at n s (state ts vs ns)

-- ---- flags that are 0

pub is_dead : (f : Scope) (vs0 vs : ℕ → ℕ) → Down f vs0 → SameTo (inside f) vs0 vs → vs (live f) ≡ 0
is_dead f vs0 vs down same = same (live f) (live_inside f) ∙ down.stands.live ∙ down.dead

-- a flag is not cleared by a jump that is dead
clears_nothing : (at : Setting) (n : ℕ) (s : State) (bound : ℕ) (vs0 : ℕ → ℕ) (flag live x : ℕ) (c : Ops) (ts : List Task) (ns : List ℕ)
    → flag < bound → live < bound → vs0 live ≡ 0 → vs0 flag ≡ x → alu_value_of Sub x 0 ≡ x
    → Quiet at n s bound vs0 (ops_tasks c ts) ns → Quiet at n s bound vs0 (ops_tasks (clear flag live c) ts) ns
clears_nothing at n s bound vs0 flag live x c ts ns below below' dead e kept next vs same =
    calculates at n s flag Sub (VariableOf flag) (VariableOf live) (ops_tasks c ts) vs ns x 0 x (same flag below ∙ e) (same live below' ∙ dead) kept
    (next (put_at flag x vs) (put_again bound flag x vs0 vs (sym e) same))

dies_again : (at : Setting) (n : ℕ) (s : State) (bound : ℕ) (vs0 : ℕ → ℕ) (live : ℕ) (c : Ops) (ts : List Task) (ns : List ℕ)
    → vs0 live ≡ 0 → Quiet at n s bound vs0 (ops_tasks c ts) ns → Quiet at n s bound vs0 (ops_tasks (dies live c) ts) ns
dies_again at n s bound vs0 live c ts ns dead next vs same =
    sets at n s live (NumberOf 0) (ops_tasks c ts) vs ns 0 refl (next (put_at live 0 vs) (put_again bound live 0 vs0 vs (sym dead) same))

-- a `Break` and a `Return` in a loop
leaves_loop : (at : Setting) (n : ℕ) (s : State) (f : Scope) (vs0 : ℕ → ℕ) (c : Ops) (ts : List Task) (ns : List ℕ) → Down f vs0
    → Quiet at n s (inside f) vs0 (ops_tasks c ts) ns → Quiet at n s (inside f) vs0 (ops_tasks (clear (run f) (live f) (dies (live f) c)) ts) ns
leaves_loop at n s f vs0 c ts ns down next =
    clears_nothing at n s (inside f) vs0 (run f) (live f) (run_bit down.fate) (dies (live f) c) ts ns (run_inside f) (live_inside f)
    (down.stands.live ∙ down.dead) down.stands.run (kept_bit down.fate)
    (dies_again at n s (inside f) vs0 (live f) c ts ns (down.stands.live ∙ down.dead) next)

leaves_call : (at : Setting) (n : ℕ) (s : State) (f : Scope) (vs0 : ℕ → ℕ) (c : Ops) (ts : List Task) (ns : List ℕ) → Ordered f → Down f vs0
    → Quiet at n s (inside f) vs0 (ops_tasks c ts) ns → Quiet at n s (inside f) vs0 (ops_tasks (clear (whole f) (live f) (clear (run f) (live f) (dies (live f) c))) ts) ns
leaves_call at n s f vs0 c ts ns ordered down next =
    clears_nothing at n s (inside f) vs0 (whole f) (live f) (whole_bit down.fate) (clear (run f) (live f) (dies (live f) c)) ts ns (whole_inside f ordered) (live_inside f)
    (down.stands.live ∙ down.dead) down.stands.whole (kept_whole_bit down.fate) (leaves_loop at n s f vs0 c ts ns down next)

pub quiet_jump : (at : Setting) (n : ℕ) (s : State) (f : Scope) (j : Jump) (vs0 : ℕ → ℕ) (c : Ops) (ts : List Task) (ns : List ℕ) → Ordered f → Down f vs0
    → Quiet at n s (inside f) vs0 (ops_tasks c ts) ns → Quiet at n s (inside f) vs0 (ops_tasks (jump_ops f j c) ts) ns
quiet_jump at n s (InCall call) j vs0 c ts ns ordered down next = dies_again at n s (suc call) vs0 call c ts ns (down.stands.live ∙ down.dead) next
quiet_jump at n s (InBody call first) ByBreak vs0 c ts ns ordered down next = leaves_loop at n s (InBody call first) vs0 c ts ns down next
quiet_jump at n s (InBody call first) ByContinue vs0 c ts ns ordered down next = dies_again at n s (suc (suc first)) vs0 (suc first) c ts ns (down.stands.live ∙ down.dead) next
quiet_jump at n s (InBody call first) ByReturn vs0 c ts ns ordered down next = leaves_call at n s (InBody call first) vs0 c ts ns ordered down next
quiet_jump at n s (InEdge call first) ByBreak vs0 c ts ns ordered down next = leaves_loop at n s (InEdge call first) vs0 c ts ns down next
quiet_jump at n s (InEdge call first) ByContinue vs0 c ts ns ordered down next = leaves_loop at n s (InEdge call first) vs0 c ts ns down next
quiet_jump at n s (InEdge call first) ByReturn vs0 c ts ns ordered down next = leaves_call at n s (InEdge call first) vs0 c ts ns ordered down next

-- what is passed on behind a loop
passes_again : (at : Setting) (n : ℕ) (s : State) (f : Scope) (vs0 : ℕ → ℕ) (c : Ops) (ts : List Task) (ns : List ℕ) (fate : Fate) → Ordered f → Stands f fate vs0
    → Quiet at n s (inside f) vs0 (ops_tasks c ts) ns
    → Quiet at n s (inside f) vs0 (ops_tasks (AndOp (Calculate (live f) And (VariableOf (live f)) (VariableOf (whole f)))
    (AndOp (Calculate (run f) And (VariableOf (run f)) (VariableOf (whole f))) c)) ts) ns
passes_again at n s f vs0 c ts ns fate ordered stands next vs same =
    let bound : ℕ = inside f in
    let whole_is : vs (whole f) ≡ whole_bit fate = same (whole f) (whole_inside f ordered) ∙ stands.whole in
    let same1 : SameTo (inside f) vs0 (put_at (live f) (live_bit fate) vs) = put_again (inside f) (live f) (live_bit fate) vs0 vs (sym stands.live) same in
    let same2 : SameTo (inside f) vs0 (put_at (run f) (run_bit fate) (put_at (live f) (live_bit fate) vs)) =
    put_again (inside f) (run f) (run_bit fate) vs0 (put_at (live f) (live_bit fate) vs) (sym stands.run) same1 in
    calculates at n s (live f) And (VariableOf (live f)) (VariableOf (whole f)) (ops_tasks (AndOp (Calculate (run f) And (VariableOf (run f)) (VariableOf (whole f))) c) ts) vs ns
    (live_bit fate) (whole_bit fate) (live_bit fate) (same (live f) (live_inside f) ∙ stands.live) whole_is (and_live fate)
    (calculates at n s (run f) And (VariableOf (run f)) (VariableOf (whole f)) (ops_tasks c ts) (put_at (live f) (live_bit fate) vs) ns
    (run_bit fate) (whole_bit fate) (run_bit fate) (same1 (run f) (run_inside f) ∙ stands.run) (same1 (whole f) (whole_inside f ordered) ∙ stands.whole) (and_run fate)
    (next (put_at (run f) (run_bit fate) (put_at (live f) (live_bit fate) vs)) same2))

pub quiet_passed : (at : Setting) (n : ℕ) (s : State) (f : Scope) (vs0 : ℕ → ℕ) (c : Ops) (ts : List Task) (ns : List ℕ) (fate : Fate) → Ordered f → Stands f fate vs0
    → Quiet at n s (inside f) vs0 (ops_tasks c ts) ns → Quiet at n s (inside f) vs0 (ops_tasks (passed_on f c) ts) ns
quiet_passed at n s (InCall call) vs0 c ts ns fate ordered stands next = next
quiet_passed at n s (InBody call first) vs0 c ts ns fate ordered stands next = passes_again at n s (InBody call first) vs0 c ts ns fate ordered stands next
quiet_passed at n s (InEdge call first) vs0 c ts ns fate ordered stands next = passes_again at n s (InEdge call first) vs0 c ts ns fate ordered stands next

-- ---- the head of a loop that is over leads out of it

abbrev pub Silent : Setting → Ops → Type 0
Silent at ops = (n : ℕ) (s : State) (among : Bool) (f : Scope) (vs0 : ℕ → ℕ) (c : Ops) (ts : List Task) (ns : List ℕ) → Ordered f → Down f vs0
    → Quiet at n s (inside f) vs0 (ops_tasks c ts) ns → Quiet at n s (inside f) vs0 (ops_tasks (flagged among f false ops c) ts) ns

-- a loop with flags, made of its parts
abbrev pub loop_of : Scope → Operand → Ops → Ops → Ops → Turning
loop_of f test head body step = record {
  head = flagged false (edge_scope f) false head (tests f test);
  test = VariableOf (suc (inside f));
  body = AndOp (Set (suc (inside f)) (VariableOf (inside f))) (flagged false (body_scope f) true body NoOps);
  step = AndOp (Set (suc (inside f)) (VariableOf (inside f))) (flagged false (edge_scope f) false step NoOps);
}

pub quiet_head : (at : Setting) (n : ℕ) (s : State) (f : Scope) (test : Operand) (head body step : Ops) (vs0 : ℕ → ℕ) (ts : List Task) (ns : List ℕ)
    → Silent at head → Ordered f → Down (edge_scope f) vs0 → Quiet at n s (suc (suc (inside f))) vs0 ts (under ns)
    → Quiet at n s (suc (suc (inside f))) vs0 (head_tasks (loop_of f test head body step) ts) ns
quiet_head at n s f test head body step vs0 ts ns silent ordered down next =
    silent n s false (edge_scope f) vs0 (tests f test) (Decide (loop_of f test head body step) ∷ ts) ns (whole_inside f ordered) down
    (λ vs same. calculates at n s (suc (inside f)) Mul (VariableOf (suc (inside f))) test (Decide (loop_of f test head body step) ∷ ts) vs ns 0 (value vs test) 0
    (is_dead (edge_scope f) vs0 vs down same) refl (dead_test (value vs test))
    (ends at n s (loop_of f test head body step) ts (put_at (suc (inside f)) 0 vs) ns (put_at_same (suc (inside f)) 0 vs)
    (next (put_at (suc (inside f)) 0 vs) (put_again (suc (suc (inside f))) (suc (inside f)) 0 vs0 vs (sym (down.stands.live ∙ down.dead)) same))))

-- ---- the whole

-- a loop that is begun dead is left at once
abbrev inner_fate : Fate → Fate
inner_fate Returned = Returned
inner_fate other = Broken

inner_dead : (fate : Fate) → live_bit (inner_fate fate) ≡ 0
inner_dead Alive = refl
inner_dead Skipped = refl
inner_dead Broken = refl
inner_dead Returned = refl

inner_run : (fate : Fate) → run_bit (inner_fate fate) ≡ 0
inner_run Alive = refl
inner_run Skipped = refl
inner_run Broken = refl
inner_run Returned = refl

inner_whole : (fate : Fate) → whole_bit (inner_fate fate) ≡ whole_bit fate
inner_whole Alive = refl
inner_whole Skipped = refl
inner_whole Broken = refl
inner_whole Returned = refl

begun_dead : (f : Scope) (vs0 vs : ℕ → ℕ) → Ordered f → Down f vs0 → SameTo (inside f) vs0 vs → Down (edge_scope f) (put_at (suc (inside f)) 0 (put_at (inside f) 0 vs))
begun_dead f vs0 vs ordered down same =
    let below : whole f < inside f = whole_inside f ordered in
    record {
      fate = inner_fate down.fate;
      dead = inner_dead down.fate;
      stands = record {
        live = put_at_same (suc (inside f)) 0 (put_at (inside f) 0 vs) ∙ sym (inner_dead down.fate);
        run = put_at_other (suc (inside f)) 0 (put_at (inside f) 0 vs) (inside f) (λ e. absurd (omega arith)) ∙ put_at_same (inside f) 0 vs ∙ sym (inner_run down.fate);
        whole = put_at_other (suc (inside f)) 0 (put_at (inside f) 0 vs) (whole f) (λ e. absurd (omega arith)) ∙ put_at_other (inside f) 0 vs (whole f) (λ e. absurd (omega arith))
            ∙ same (whole f) below ∙ down.stands.whole ∙ sym (inner_whole down.fate);
      };
    }

silent_loop : (at : Setting) (n : ℕ) (s : State) (f : Scope) (test : Operand) (head body step : Ops) (vs0 : ℕ → ℕ) (c : Ops) (ts : List Task) (ns : List ℕ)
    → Silent at head → Ordered f → Down f vs0 → Quiet at n s (inside f) vs0 (ops_tasks c ts) ns
    → Quiet at n s (inside f) vs0 (ops_tasks (flagged_op f false (Loop head test body step) c) ts) ns
silent_loop at n s f test head body step vs0 c ts ns silent ordered down next vs same =
    let returns : Bool = op_leaves ByReturn (Loop head test body step) in
    let after : Ops = if returns then passed_on f c else c in
    let dead : vs (live f) ≡ 0 = is_dead f vs0 vs down same in
    let loop : Turning = loop_of f test head body step in
    let vs1 : ℕ → ℕ = put_at (suc (inside f)) 0 (put_at (inside f) 0 vs) in
    let same1 : SameTo (inside f) vs0 vs1 = put_above (inside f) (suc (inside f)) 0 vs0 (put_at (inside f) 0 vs) (omega arith)
    (put_above (inside f) (inside f) 0 vs0 vs (omega arith) same) in
    let behind : Quiet at n s (inside f) vs0 (ops_tasks after ts) ns =
    cond_both returns (passed_on f c) c (λ x. Quiet at n s (inside f) vs0 (ops_tasks x ts) ns)
    (λ e. quiet_passed at n s f vs0 c ts ns down.fate ordered down.stands next) (λ e. next) in
    let out : Quiet at n s (suc (suc (inside f))) vs1 (ops_tasks after ts) (under (entered ns)) =
    λ vs2 same2. behind vs2 (narrow (inside f) (suc (suc (inside f))) vs0 vs1 vs2 (omega arith) same1 same2) in
    sets at n s (inside f) (VariableOf (live f))
    (Do (Set (suc (inside f)) (VariableOf (inside f))) ∷ Do (Loop loop.head loop.test loop.body loop.step) ∷ ops_tasks after ts) vs ns 0 dead
    (sets at n s (suc (inside f)) (VariableOf (inside f)) (Do (Loop loop.head loop.test loop.body loop.step) ∷ ops_tasks after ts) (put_at (inside f) 0 vs) ns 0
    (put_at_same (inside f) 0 vs)
    (SecondGoes n s (state (Do (Loop loop.head loop.test loop.body loop.step) ∷ ops_tasks after ts) vs1 ns)
    (state (head_tasks loop (ops_tasks after ts)) vs1 (entered ns)) refl refl
    (quiet_head at n s f test head body step vs1 (ops_tasks after ts) (entered ns) silent ordered (begun_dead f vs0 vs ordered down same) out vs1 (λ k below. refl))))

silent_single : (at : Setting) (n : ℕ) (s : State) (among : Bool) (f : Scope) (op : Op) (ops : Ops) (vs0 : ℕ → ℕ) (c : Ops) (ts : List Task) (ns : List ℕ) → Down f vs0
    → Quiet at n s (inside f) vs0 (ops_tasks c ts) ns → Quiet at n s (inside f) vs0 (ops_tasks (guarded among f false op ops c) ts) ns
silent_single at n s true f op ops vs0 c ts ns down next vs same = next vs same
silent_single at n s false f op ops vs0 c ts ns down next vs same =
    takes_other at n s (VariableOf (live f)) (AndOp op (singles ops)) NoOps (ops_tasks c ts) vs ns (is_dead f vs0 vs down same) (next vs same)

either_way : (at : Setting) (n : ℕ) (s : State) (test : Operand) (one other : Ops) (ts : List Task) (vs : ℕ → ℕ) (ns : List ℕ)
    → Along at n s (state (ops_tasks one ts) vs ns) → Along at n s (state (ops_tasks other ts) vs ns) → Along at n s (state (Do (If test one other) ∷ ts) vs ns)
either_way at n s test one other ts vs ns h h' = by_value (value vs test) refl
  where
    by_value : (x : ℕ) → value vs test ≡ x → Along at n s (state (Do (If test one other) ∷ ts) vs ns)
    by_value zero e = takes_other at n s test one other ts vs ns e h'
    by_value (suc x) e = takes_one at n s test one other ts vs ns (λ e'. absurd (omega arith)) h

silent_if : (at : Setting) (n : ℕ) (s : State) (test : Operand) (one other : Ops) (f : Scope) (c : Ops) (ts : List Task) (vs : ℕ → ℕ) (ns : List ℕ)
    → Along at n s (state (ops_tasks (flagged false f false one NoOps) (ops_tasks c ts)) vs ns)
    → Along at n s (state (ops_tasks (flagged false f false other NoOps) (ops_tasks c ts)) vs ns)
    → Along at n s (state (ops_tasks (flagged_op f false (If test one other) c) ts) vs ns)
silent_if at n s test one other f c ts vs ns h h' =
    either_way at n s test (flagged false f false one NoOps) (flagged false f false other NoOps) (ops_tasks c ts) vs ns h h'

-- the flag of a call that is begun dead is 0
call_dead : (f : Scope) (vs0 vs : ℕ → ℕ) → Down (InCall (inside f)) (put_at (inside f) 0 vs)
call_dead f vs0 vs = record {
  fate = Returned;
  dead = refl;
  stands = record { live = put_at_same (inside f) 0 vs; run = put_at_same (inside f) 0 vs; whole = put_at_same (inside f) 0 vs };
}

silent_call : (at : Setting) (n : ℕ) (s : State) (f : Scope) (body : Ops) (vs0 : ℕ → ℕ) (c : Ops) (ts : List Task) (ns : List ℕ) → Silent at body → Ordered f → Down f vs0
    → Quiet at n s (inside f) vs0 (ops_tasks c ts) ns → Quiet at n s (inside f) vs0 (ops_tasks (flagged_op f false (Call body) c) ts) ns
silent_call at n s f body vs0 c ts ns silent ordered down next =
    cond_both (is_left body) (AndOp (Set (inside f) (VariableOf (live f))) (flagged false (InCall (inside f)) false body c)) (flagged false f false body c)
    (λ x. Quiet at n s (inside f) vs0 (ops_tasks x ts) ns)
    (λ e vs same.
    let vs1 : ℕ → ℕ = put_at (inside f) 0 vs in
    let same1 : SameTo (inside f) vs0 vs1 = put_above (inside f) (inside f) 0 vs0 vs (omega arith) same in
    sets at n s (inside f) (VariableOf (live f)) (ops_tasks (flagged false (InCall (inside f)) false body c) ts) vs ns 0 (is_dead f vs0 vs down same)
    (silent n s false (InCall (inside f)) vs1 c ts ns tt (call_dead f vs0 vs)
    (λ vs2 same2. next vs2 (narrow (inside f) (suc (inside f)) vs0 vs1 vs2 (omega arith) same1 same2)) vs1 (λ k below. refl)))
    (λ e. silent n s false f vs0 c ts ns ordered down next)

mutual
  pub silent : (at : Setting) (ops : Ops) → Silent at ops
  silent at NoOps n s among f vs0 c ts ns ordered down next = next
  silent at (AndOp op ops) n s among f vs0 c ts ns ordered down next =
      cond_both (is_single op) (guarded among f false op ops (flagged true f false ops c)) (flagged_op f false op (flagged false f false ops c))
      (λ x. Quiet at n s (inside f) vs0 (ops_tasks x ts) ns)
      (λ e. silent_single at n s among f op ops vs0 (flagged true f false ops c) ts ns down (silent at ops n s true f vs0 c ts ns ordered down next))
      (λ e. silent_op at op e n s f vs0 (flagged false f false ops c) ts ns ordered down (silent at ops n s false f vs0 c ts ns ordered down next))

  silent_op : (at : Setting) (op : Op) → is_single op ≡ false → (n : ℕ) (s : State) (f : Scope) (vs0 : ℕ → ℕ) (c : Ops) (ts : List Task) (ns : List ℕ) → Ordered f → Down f vs0
      → Quiet at n s (inside f) vs0 (ops_tasks c ts) ns → Quiet at n s (inside f) vs0 (ops_tasks (flagged_op f false op c) ts) ns
  silent_op at (If test one other) e n s f vs0 c ts ns ordered down next =
      λ vs same. silent_if at n s test one other f c ts vs ns
      (silent at one n s false f vs0 NoOps (ops_tasks c ts) ns ordered down next vs same)
      (silent at other n s false f vs0 NoOps (ops_tasks c ts) ns ordered down next vs same)
  silent_op at (Loop head test body step) e n s f vs0 c ts ns ordered down next = silent_loop at n s f test head body step vs0 c ts ns (silent at head) ordered down next
  silent_op at (Call body) e n s f vs0 c ts ns ordered down next = silent_call at n s f body vs0 c ts ns (silent at body) ordered down next
  silent_op at Break e n s f vs0 c ts ns ordered down next = quiet_jump at n s f ByBreak vs0 c ts ns ordered down next
  silent_op at Continue e n s f vs0 c ts ns ordered down next = quiet_jump at n s f ByContinue vs0 c ts ns ordered down next
  silent_op at Return e n s f vs0 c ts ns ordered down next = quiet_jump at n s f ByReturn vs0 c ts ns ordered down next
  silent_op at (Set d a) e n s f vs0 c ts ns ordered down next = absurd (true≢false e)
  silent_op at (Calculate d op a b) e n s f vs0 c ts ns ordered down next = absurd (true≢false e)
  silent_op at (Fit d elem a) e n s f vs0 c ts ns ordered down next = absurd (true≢false e)
  silent_op at (Id d which a) e n s f vs0 c ts ns ordered down next = absurd (true≢false e)
  silent_op at (Load d array elem a) e n s f vs0 c ts ns ordered down next = absurd (true≢false e)
  silent_op at (Store array elem a b) e n s f vs0 c ts ns ordered down next = absurd (true≢false e)
  silent_op at (Check array a pos) e n s f vs0 c ts ns ordered down next = absurd (true≢false e)
  silent_op at (Barrier site) e n s f vs0 c ts ns ordered down next = absurd (true≢false e)
