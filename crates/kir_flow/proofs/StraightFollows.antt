-- Operations in order, branches, jumps and calls go along with the same in flags, where their parts do.
use Rattle.std.proofs.Common.{◌≡◌, ℕ, ◌≤◌, Bool, true, false, ◌&&◌, ◌||◌, not, List, ◌∷◌, refl, ap, sym, ◌∙◌, subst, arith, true≢false}
use Rattle.std.specs.Prelude.{if◌then◌else◌, ◌==◌}
use Rattle.std.proofs.lemmas.Bool.{cond_both}
use Rattle.item_acts.specs.Launches.{put_at}
use Rattle.item_acts.specs.Machine.{Go}
use Rattle.item_acts.proofs.Launches.{put_at_same, put_at_other}
use Rattle.item_settings.specs.Settings.{Setting}
use Rattle.step_machine.specs.Sims.{BothGo, FirstGoes}
use Rattle.kir.specs.Machine.{state, Task, Do, CallEnd, value, ops_tasks, broken, continued, returned}
use Rattle.kir.specs.Measures.{is_single}
use Rattle.kir.specs.Trees.{Operand, VariableOf, Op, Set, If, Break, Continue, Return, Call, Ops, NoOps, AndOp}
use Rattle.kir_flow.specs.declared.scopes.Jump.{Jump}
use Rattle.kir_flow.specs.declared.scopes.Scope.{Scope}
use Rattle.kir_flow.specs.declared.scopes.Jump.TheVariants.{ByBreak, ByContinue, ByReturn}
use Rattle.kir_flow.specs.declared.scopes.Scope.TheVariants.{InCall}
use Rattle.kir_flow.specs.Flagging.{live, inside, leaves, op_leaves, is_left, op_is_left, singles, guarded, flagged}
use Rattle.kir_flow.specs.Flagging.{flagged_op, alive}
use Rattle.kir.specs.Numbered.{IsBelow, OpBelow, GivesWords}
use Rattle.kir_flow.proofs.FlagStates.{Along, Fate, Alive, fate_of, sets, takes_one}
use Rattle.kir_flow.proofs.Silence.{silent}
use Rattle.kir_flow.proofs.FollowStates.{Fine, Alike, live_behind, value_same, alike_same, outward, jumped, jump_skips, jump_kills, Next, Leave, Follows, FollowsOp, single_follows}
use Rattle.kir_flow.proofs.FlagSteps.{jump_down}

-- ---- which jump leaves

pub or_first : (a b : Bool) → a ≡ true → (a || b) ≡ true
or_first true b e = refl
or_first false b e = absurd (true≢false (sym e))

pub or_second : (a b : Bool) → b ≡ true → (a || b) ≡ true
or_second true b e = refl
or_second false b e = e

-- one of the three leaves
some_left : (a b c : Bool) → a ≡ true → (a || (b || c)) ≡ true
some_left a b c e = or_first a (b || c) e

pub left_by : (j : Jump) (ops : Ops) → leaves j ops ≡ true → is_left ops ≡ true
left_by ByBreak ops e = or_first (leaves ByBreak ops) (leaves ByContinue ops || leaves ByReturn ops) e
left_by ByContinue ops e = or_second (leaves ByBreak ops) (leaves ByContinue ops || leaves ByReturn ops) (or_first (leaves ByContinue ops) (leaves ByReturn ops) e)
left_by ByReturn ops e = or_second (leaves ByBreak ops) (leaves ByContinue ops || leaves ByReturn ops) (or_second (leaves ByContinue ops) (leaves ByReturn ops) e)

op_left_by : (j : Jump) (op : Op) → op_leaves j op ≡ true → op_is_left op ≡ true
op_left_by ByBreak op e = or_first (op_leaves ByBreak op) (op_leaves ByContinue op || op_leaves ByReturn op) e
op_left_by ByContinue op e = or_second (op_leaves ByBreak op) (op_leaves ByContinue op || op_leaves ByReturn op) (or_first (op_leaves ByContinue op) (op_leaves ByReturn op) e)
op_left_by ByReturn op e = or_second (op_leaves ByBreak op) (op_leaves ByContinue op || op_leaves ByReturn op) (or_second (op_leaves ByContinue op) (op_leaves ByReturn op) e)

and_none : (a : Bool) → (a && false) ≡ false
and_none true = refl
and_none false = refl

-- ---- branches

pub if_follows : (at : Setting) (count : ℕ) (test : Operand) (one other : Ops) → IsBelow count test → Follows at count one → Follows at count other
    → FollowsOp at count (If test one other)
if_follows at count test one other below first second n f sure c ts ts' vs0 vs vs' ns fine next leave alike =
    let e : value vs' test ≡ value vs test = value_same count f vs0 vs vs' test alike.rest below in
    BothGo n (state (Do (If test one other) ∷ ts) vs ns) (state (if value vs test == 0 then ops_tasks other ts else ops_tasks one ts) vs ns)
    (state (ops_tasks (flagged_op f sure (If test one other) c) ts') vs' ns)
    (state (if value vs test == 0 then ops_tasks (flagged false f sure other NoOps) (ops_tasks c ts') else ops_tasks (flagged false f sure one NoOps) (ops_tasks c ts')) vs' ns)
    refl (ap (λ x. Go (state (if x == 0 then ops_tasks (flagged false f sure other NoOps) (ops_tasks c ts') else ops_tasks (flagged false f sure one NoOps) (ops_tasks c ts'))
    vs' ns)) e)
    (omega arith) (chosen (value vs test == 0))
  where
    chosen : (b : Bool) → Along at n (state (if b then ops_tasks other ts else ops_tasks one ts) vs ns)
        (state (if b then ops_tasks (flagged false f sure other NoOps) (ops_tasks c ts') else ops_tasks (flagged false f sure one NoOps) (ops_tasks c ts')) vs' ns)
    chosen true = second n f sure NoOps ts (ops_tasks c ts') vs0 vs vs' ns fine next (λ j e. leave j (or_second (leaves j one) (leaves j other) e)) alike
    chosen false = first n f sure NoOps ts (ops_tasks c ts') vs0 vs vs' ns fine next (λ j e. leave j (or_first (leaves j one) (leaves j other) e)) alike

-- ---- jumps

pub break_follows : (at : Setting) (count : ℕ) → FollowsOp at count Break
break_follows at count n f sure c ts ts' vs0 vs vs' ns fine next leave alike =
    FirstGoes n (state (Do Break ∷ ts) vs ns) (broken ts vs ns) (state (ops_tasks (flagged_op f sure Break c) ts') vs' ns) refl
    (jump_down at count n (broken ts vs ns) f ByBreak c ts' vs0 vs ns fine (λ vs1 a. leave ByBreak refl vs vs1 a) vs' alike)

pub continue_follows : (at : Setting) (count : ℕ) → FollowsOp at count Continue
continue_follows at count n f sure c ts ts' vs0 vs vs' ns fine next leave alike =
    FirstGoes n (state (Do Continue ∷ ts) vs ns) (continued ts vs ns) (state (ops_tasks (flagged_op f sure Continue c) ts') vs' ns) refl
    (jump_down at count n (continued ts vs ns) f ByContinue c ts' vs0 vs ns fine (λ vs1 a. leave ByContinue refl vs vs1 a) vs' alike)

pub return_follows : (at : Setting) (count : ℕ) → FollowsOp at count Return
return_follows at count n f sure c ts ts' vs0 vs vs' ns fine next leave alike =
    FirstGoes n (state (Do Return ∷ ts) vs ns) (returned ts vs ns) (state (ops_tasks (flagged_op f sure Return c) ts') vs' ns) refl
    (jump_down at count n (returned ts vs ns) f ByReturn c ts' vs0 vs ns fine (λ vs1 a. leave ByReturn refl vs vs1 a) vs' alike)

-- ---- calls

-- a new flag begins alive
pub alive_is : (count : ℕ) (f : Scope) (sure : Bool) (vs0 vs vs' : ℕ → ℕ) → Alike count f Alive vs0 vs vs' → value vs' (alive f sure) ≡ 1
alive_is count f true vs0 vs vs' alike = refl
alive_is count f false vs0 vs vs' alike = alike.stands.live

-- a scope with one new flag: of a call, or of the body of a loop
pub fine_inside : (count : ℕ) (f : Scope) → Fine count f → Fine count (InCall (inside f))
fine_inside count f fine = let h : count ≤ live f = live_behind count f fine in record { behind = omega arith; ordered = tt }

pub alike_inside : (count : ℕ) (f : Scope) (vs0 vs vs' : ℕ → ℕ) → Fine count f → Alike count f Alive vs0 vs vs'
    → Alike count (InCall (inside f)) Alive (put_at (inside f) 1 vs') vs (put_at (inside f) 1 vs')
alike_inside count f vs0 vs vs' fine alike =
    let h : count ≤ live f = live_behind count f fine in
    record {
      rest = record {
        equal = λ k less. put_at_other (inside f) 1 vs' k (λ e. absurd (omega arith)) ∙ alike.rest.equal k less;
        words = alike.rest.words;
        frame = λ k more less differs. refl;
      };
      stands = record { live = put_at_same (inside f) 1 vs'; run = put_at_same (inside f) 1 vs'; whole = put_at_same (inside f) 1 vs' };
    }

-- whatever the flag is behind, the flags around it are as they were
pub alike_outside : (count : ℕ) (f : Scope) (fate : Fate) (vs0 vs vs' vs2 vs2' : ℕ → ℕ) → Fine count f → Alike count f Alive vs0 vs vs'
    → Alike count (InCall (inside f)) fate (put_at (inside f) 1 vs') vs2 vs2' → Alike count f Alive vs0 vs2 vs2'
alike_outside count f fate vs0 vs vs' vs2 vs2' fine alike inner =
    outward count f (InCall (inside f)) Alive fate vs0 vs vs' vs2 vs2' fine
    (λ k more less. inner.rest.frame k more less (λ e. absurd (omega arith)) ∙ put_at_other (inside f) 1 vs' k (λ e. absurd (omega arith))) alike (put_at (inside f) 1 vs') inner

call_ends : (j : Jump) (ts : List Task) (vs : ℕ → ℕ) (ns : List ℕ) → jumped j (CallEnd ∷ ts) vs ns ≡ state ts vs ns
call_ends ByBreak ts vs ns = refl
call_ends ByContinue ts vs ns = refl
call_ends ByReturn ts vs ns = refl

pub call_follows : (at : Setting) (count : ℕ) (body : Ops) → Follows at count body → FollowsOp at count (Call body)
call_follows at count body follows n f sure c ts ts' vs0 vs vs' ns fine next leave alike =
    FirstGoes n (state (Do (Call body) ∷ ts) vs ns) (state (ops_tasks body (CallEnd ∷ ts)) vs ns) (state (ops_tasks (flagged_op f sure (Call body) c) ts') vs' ns) refl
    (cond_both (is_left body) (AndOp (Set (inside f) (alive f sure)) (flagged false (InCall (inside f)) sure body c)) (flagged false f sure body c)
    (λ x. Along at n (state (ops_tasks body (CallEnd ∷ ts)) vs ns) (state (ops_tasks x ts') vs' ns))
    (λ e. sets at n (state (ops_tasks body (CallEnd ∷ ts)) vs ns) (inside f) (alive f sure) (ops_tasks (flagged false (InCall (inside f)) sure body c) ts') vs' ns 1
    (alive_is count f sure vs0 vs vs' alike)
    (follows n (InCall (inside f)) sure c (CallEnd ∷ ts) ts' (put_at (inside f) 1 vs') vs (put_at (inside f) 1 vs') ns (fine_inside count f fine)
    (λ vs2 vs2' inner. FirstGoes n (state (CallEnd ∷ ts) vs2 ns) (state ts vs2 ns) (state (ops_tasks c ts') vs2' ns) refl
    (next vs2 vs2' (alike_outside count f Alive vs0 vs vs' vs2 vs2' fine alike inner)))
    (λ j e' vs2 vs2' inner. subst (λ s. Along at n s (state (ops_tasks c ts') vs2' ns)) (sym (call_ends j ts vs2 ns))
    (next vs2 vs2' (alike_outside count f (fate_of (InCall (inside f)) j) vs0 vs vs' vs2 vs2' fine alike inner)))
    (alike_inside count f vs0 vs vs' fine alike)))
    (λ e. follows n f sure c (CallEnd ∷ ts) ts' vs0 vs vs' ns fine
    (λ vs2 vs2' inner. FirstGoes n (state (CallEnd ∷ ts) vs2 ns) (state ts vs2 ns) (state (ops_tasks c ts') vs2' ns) refl (next vs2 vs2' inner))
    (λ j e' vs2 vs2' inner. absurd (true≢false (sym (left_by j body e') ∙ e)))
    alike))

-- ---- operations in order

-- one that is not single
pub cons_follows : (at : Setting) (count : ℕ) (op : Op) (ops : Ops) → FollowsOp at count op → Follows at count ops
    → (n : ℕ) (f : Scope) (sure : Bool) (c : Ops) (ts ts' : List Task) (vs0 vs vs' : ℕ → ℕ) (ns : List ℕ) → Fine count f
    → Next at count n f vs0 ts (ops_tasks c ts') ns → Leave at count n f vs0 (λ j. op_leaves j op || leaves j ops) ts (ops_tasks c ts') ns
    → Alike count f Alive vs0 vs vs'
    → Along at n (state (Do op ∷ ops_tasks ops ts) vs ns) (state (ops_tasks (flagged_op f sure op (flagged false f (sure && not (op_is_left op)) ops c)) ts') vs' ns)
cons_follows at count op ops first second n f sure c ts ts' vs0 vs vs' ns fine next leave alike =
    first n f sure (flagged false f (sure && not (op_is_left op)) ops c) (ops_tasks ops ts) ts' vs0 vs vs' ns fine
    (λ vs1 vs1' a. second n f (sure && not (op_is_left op)) c ts ts' vs0 vs1 vs1' ns fine next (λ j e. leave j (or_second (op_leaves j op) (leaves j ops) e)) a)
    (λ j e vs1 vs1' a.
    let unsure : (sure && not (op_is_left op)) ≡ false = ap (λ b. sure && not b) (op_left_by j op e) ∙ and_none sure in
    subst (λ s. Along at n s (state (ops_tasks (flagged false f (sure && not (op_is_left op)) ops c) ts') vs1' ns)) (sym (jump_skips j ops ts vs1 ns))
    (subst (λ b. Along at n (jumped j ts vs1 ns) (state (ops_tasks (flagged false f b ops c) ts') vs1' ns)) (sym unsure)
    (silent at ops n (jumped j ts vs1 ns) false f vs1' c ts' ns fine.ordered (record { fate = fate_of f j; dead = jump_kills f j; stands = a.stands })
    (λ vs2 same. leave j (or_first (op_leaves j op) (leaves j ops) e) vs1 vs2 (alike_same count f (fate_of f j) vs0 vs1 vs1' vs2 fine same a))
    vs1' (λ k below. refl))))
    alike

-- the rest of a run of single operations that stands under a branch, with what is behind it
abbrev pub FollowsAmong : Setting → ℕ → Ops → Type 0
FollowsAmong at count ops = (n : ℕ) (f : Scope) (c : Ops) (ts ts' : List Task) (vs0 vs vs' : ℕ → ℕ) (ns : List ℕ) → Fine count f
    → Next at count n f vs0 ts (ops_tasks c ts') ns → Leave at count n f vs0 (λ j. leaves j ops) ts (ops_tasks c ts') ns
    → Alike count f Alive vs0 vs vs' → Along at n (state (ops_tasks ops ts) vs ns) (state (ops_tasks (singles ops) (ops_tasks (flagged true f false ops c) ts')) vs' ns)

-- a single one
pub single_cons : (at : Setting) (count : ℕ) (op : Op) (ops : Ops) → is_single op ≡ true → GivesWords at → OpBelow count op → Follows at count ops → FollowsAmong at count ops
    → (n : ℕ) (f : Scope) (sure : Bool) (c : Ops) (ts ts' : List Task) (vs0 vs vs' : ℕ → ℕ) (ns : List ℕ) → Fine count f
    → Next at count n f vs0 ts (ops_tasks c ts') ns → Leave at count n f vs0 (λ j. op_leaves j op || leaves j ops) ts (ops_tasks c ts') ns
    → Alike count f Alive vs0 vs vs'
    → Along at n (state (Do op ∷ ops_tasks ops ts) vs ns) (state (ops_tasks (guarded false f sure op ops (flagged (not sure) f sure ops c)) ts') vs' ns)
single_cons at count op ops single gives below follows among n f true c ts ts' vs0 vs vs' ns fine next leave alike =
    single_follows at count n f Alive op (ops_tasks ops ts) (ops_tasks (flagged false f true ops c) ts') vs0 vs vs' ns single gives fine below
    (λ vs1 vs1' a. follows n f true c ts ts' vs0 vs1 vs1' ns fine next (λ j e. leave j (or_second (op_leaves j op) (leaves j ops) e)) a) alike
single_cons at count op ops single gives below follows among n f false c ts ts' vs0 vs vs' ns fine next leave alike =
    let lives : vs' (live f) ≡ 1 = alike.stands.live in
    takes_one at n (state (Do op ∷ ops_tasks ops ts) vs ns) (VariableOf (live f)) (AndOp op (singles ops)) NoOps (ops_tasks (flagged true f false ops c) ts') vs' ns
    (λ e. absurd (omega arith))
    (single_follows at count n f Alive op (ops_tasks ops ts) (ops_tasks (singles ops) (ops_tasks (flagged true f false ops c) ts')) vs0 vs vs' ns single gives fine below
    (λ vs1 vs1' a. among n f c ts ts' vs0 vs1 vs1' ns fine next (λ j e. leave j (or_second (op_leaves j op) (leaves j ops) e)) a) alike)

-- one that stands among others
pub among_cons : (at : Setting) (count : ℕ) (op : Op) (ops : Ops) → GivesWords at → OpBelow count op → FollowsAmong at count ops
    → (n : ℕ) (f : Scope) (c : Ops) (ts ts' : List Task) (vs0 vs vs' : ℕ → ℕ) (ns : List ℕ) → Fine count f
    → Next at count n f vs0 ts (ops_tasks c ts') ns → Leave at count n f vs0 (λ j. op_leaves j op || leaves j ops) ts (ops_tasks c ts') ns
    → Alike count f Alive vs0 vs vs'
    → (is_single op ≡ false → Along at n (state (Do op ∷ ops_tasks ops ts) vs ns) (state (ops_tasks (flagged_op f false op (flagged false f false ops c)) ts') vs' ns))
    → Along at n (state (Do op ∷ ops_tasks ops ts) vs ns) (state (ops_tasks (singles (AndOp op ops)) (ops_tasks (flagged true f false (AndOp op ops) c) ts')) vs' ns)
among_cons at count op ops gives below among n f c ts ts' vs0 vs vs' ns fine next leave alike other = by_kind (is_single op) refl
  where
    by_kind : (b : Bool) → is_single op ≡ b → Along at n (state (Do op ∷ ops_tasks ops ts) vs ns)
        (state (ops_tasks (if b then AndOp op (singles ops) else NoOps)
        (ops_tasks (if b then flagged true f false ops c else flagged_op f false op (flagged false f false ops c)) ts')) vs' ns)
    by_kind true e = single_follows at count n f Alive op (ops_tasks ops ts) (ops_tasks (singles ops) (ops_tasks (flagged true f false ops c) ts')) vs0 vs vs' ns e gives fine below
        (λ vs1 vs1' a. among n f c ts ts' vs0 vs1 vs1' ns fine next (λ j e'. leave j (or_second (op_leaves j op) (leaves j ops) e')) a) alike
    by_kind false e = other e
