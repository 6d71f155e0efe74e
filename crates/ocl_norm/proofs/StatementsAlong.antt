-- Statements in both: where they go on, and where a jump leaves them.
use Rattle.std.proofs.Common.{◌≡◌, ℕ, zero, suc, ◌<◌, ◌≤◌, ◌^◌, Bool, List, ◌∷◌, refl, ap, sym, ◌∙◌, subst, arith}
use Rattle.std.specs.Prelude.{reverse, if◌then◌else◌, Option, None, Some}
use Rattle.vx_base.specs.Values.{fitted}
use Rattle.vx_base.proofs.ValueLaws.{fitted-lt}
use Rattle.vx_base.specs.declared.types.Elem.{Elem}
use Rattle.item_acts.specs.declared.acts.Action.TheVariants.{Barrier as BarrierAction}
use Rattle.item_acts.specs.Launches.{put_at}
use Rattle.item_acts.specs.Machine.{Go}
use Rattle.item_acts.proofs.Launches.{put_at_same}
use Rattle.item_settings.specs.Settings.{Setting}
use Rattle.ocl_ast.specs.declared.units.Gives.{Gives as Giving}
use Rattle.ocl_ast.specs.declared.units.Gives.TheVariants.{Nothing, Value}
use Rattle.task_machine.specs.Tasks as flat
use Rattle.task_machine.specs.declared.tasks.Task.TheVariants as task
use Rattle.step_machine.specs.Sims.{FirstGoes, SecondGoes, BothAsk}
use Rattle.kir.specs.Machine.{state, Task, Do, value, ops_tasks, broken, continued, returned}
use Rattle.kir.specs.Trees.{Operand, NumberOf, Set, Fit, Barrier, If, Break, Continue, Return, Ops, NoOps, AndOp}
use Rattle.ocl_inline.specs.FlatTasks.{FlatTask, given_tasks, stmt_tasks, stmts_tasks}
use Rattle.ocl_inline.specs.Trees.{FlatExpr, FlatStmt, CallStmtFlat, BarrierFlat, IfFlat, IfElseFlat, BreakFlat, ContinueFlat, ReturnFlat, NoFlat, SomeFlat, FlatStmts}
use Rattle.ocl_norm.specs.Normal.{Fragment, given_ops, stmt_ops, stmts_ops}
use Rattle.ocl_norm.specs.Standings.{Standing, standing, operand_at}
use Rattle.ocl_norm.proofs.ChoicesAlong.{ValueGoes, not_zero, suc_not_zero}
use Rattle.ocl_norm.proofs.Relations.{FlatState, flat_state, Along, Alike, alike_self, alike_on, alike_less, alike_put, alike_kept, kept_put, sets, fits, takes_one, takes_other}
use Rattle.ocl_norm.proofs.Skips.{Skipped, broken_skips, continued_skips, returned_skips}
use Rattle.ocl_norm.proofs.ValuesAlong.{Gives}

-- what is to hold behind a statement in a call whose result is the variable r
abbrev pub Behind : Setting → ℕ → (n r : ℕ) → List FlatTask → List Task → List ℕ → (ℕ → ℕ) → List ℕ → Type 0
Behind at count n r ts ts' values vs' us =
    (vs1 vs1' : ℕ → ℕ) → Alike count (suc r) vs' vs1 vs1' → Along at n (flat_state ts values vs1 us) (state ts' vs1' us)

-- and where a jump leaves it: behind a `return` the variable r has what the call gives back
pub record Leaves (at : Setting) (count n r : ℕ) (ts : List FlatTask) (ts' : List Task) (values : List ℕ) (vs' : ℕ → ℕ) (us : List ℕ) : Type 0 where
  pub breaks : (xs : List FlatTask) (vs1 vs1' : ℕ → ℕ) → Alike count (suc r) vs' vs1 vs1' → Along at n (flat.left ts (flat_state xs values vs1 us)) (broken ts' vs1' us)
  pub continues : (xs : List FlatTask) (vs1 vs1' : ℕ → ℕ) → Alike count (suc r) vs' vs1 vs1'
      → Along at n (flat.continued ts (flat_state xs values vs1 us)) (continued ts' vs1' us)
  pub returns : (xs : List FlatTask) (v : ℕ) (vs1 vs1' : ℕ → ℕ) → Alike count r vs' vs1 vs1' → vs1' r ≡ v → v < 2 ^ 32
      → Along at n (flat.returned ts (flat_state xs (v ∷ values) vs1 us)) (returned ts' vs1' us)

-- These tasks and these operations of a statement go along, where what follows does.
abbrev pub Acts : Setting → ℕ → (List FlatTask → List FlatTask) → Fragment → Type 0
Acts at count tasks part = (n r : ℕ) (c : Ops) (ts : List FlatTask) (ts' : List Task) (values : List ℕ) (vs vs' : ℕ → ℕ) (us : List ℕ) → count ≤ r
    → Alike count (suc r) vs' vs vs' → vs' r ≡ 0 → Behind at count n r ts (ops_tasks c ts') values vs' us → Leaves at count n r ts ts' values vs' us
    → Along at n (flat_state (tasks ts) values vs us) (state (ops_tasks (part r c) ts') vs' us)

abbrev pub StmtGoes : Setting → ℕ → FlatStmt → Type 0
StmtGoes at count s = Acts at count (stmt_tasks s) (stmt_ops s)

abbrev pub StmtsGo : Setting → ℕ → FlatStmts → Type 0
StmtsGo at count ss = Acts at count (stmts_tasks ss) (stmts_ops ss)

-- ---- later, and further on

pub behind_later : (at : Setting) (count n r : ℕ) (ts : List FlatTask) (ts' : List Task) (values : List ℕ) (vs' vs1 vs1' : ℕ → ℕ) (us : List ℕ) → Alike count (suc r) vs' vs1 vs1'
    → Behind at count n r ts ts' values vs' us → Behind at count n r ts ts' values vs1' us
behind_later at count n r ts ts' values vs' vs1 vs1' us alike behind vs2 vs2' b = behind vs2 vs2' (alike_on count (suc r) (suc r) vs' vs1 vs1' vs2 vs2' (omega arith) alike b)

pub leaves_later : (at : Setting) (count n r : ℕ) (ts : List FlatTask) (ts' : List Task) (values : List ℕ) (vs' vs1 vs1' : ℕ → ℕ) (us : List ℕ) → Alike count (suc r) vs' vs1 vs1'
    → Leaves at count n r ts ts' values vs' us → Leaves at count n r ts ts' values vs1' us
leaves_later at count n r ts ts' values vs' vs1 vs1' us alike leaves = record {
  breaks = λ xs vs2 vs2' b. leaves.breaks xs vs2 vs2' (alike_on count (suc r) (suc r) vs' vs1 vs1' vs2 vs2' (omega arith) alike b);
  continues = λ xs vs2 vs2' b. leaves.continues xs vs2 vs2' (alike_on count (suc r) (suc r) vs' vs1 vs1' vs2 vs2' (omega arith) alike b);
  returns = λ xs v vs2 vs2' b e word.
      leaves.returns xs v vs2 vs2' (alike_on count r r vs' vs1 vs1' vs2 vs2' (omega arith) (alike_less count r (suc r) vs' vs1 vs1' (omega arith) alike) b) e word;
}

-- over tasks and operations that a jump leaves behind
pub leaves_over : (at : Setting) (count n r : ℕ) (tasks : List FlatTask → List FlatTask) (c : Ops) (ts : List FlatTask) (ts' : List Task) (values : List ℕ) (vs' : ℕ → ℕ) (us : List ℕ)
    → Skipped tasks → Leaves at count n r ts ts' values vs' us → Leaves at count n r (tasks ts) (ops_tasks c ts') values vs' us
leaves_over at count n r tasks c ts ts' values vs' us skips leaves = record {
  breaks = λ xs vs1 vs1' a.
      subst (λ t. Along at n (flat.left (tasks ts) (flat_state xs values vs1 us)) t) (sym (broken_skips c ts' vs1' us))
      (subst (λ s. Along at n s (broken ts' vs1' us)) (sym ((skips ts).left (flat_state xs values vs1 us))) (leaves.breaks xs vs1 vs1' a));
  continues = λ xs vs1 vs1' a.
      subst (λ t. Along at n (flat.continued (tasks ts) (flat_state xs values vs1 us)) t) (sym (continued_skips c ts' vs1' us))
      (subst (λ s. Along at n s (continued ts' vs1' us)) (sym ((skips ts).continued (flat_state xs values vs1 us))) (leaves.continues xs vs1 vs1' a));
  returns = λ xs v vs1 vs1' a e word.
      subst (λ t. Along at n (flat.returned (tasks ts) (flat_state xs (v ∷ values) vs1 us)) t) (sym (returned_skips c ts' vs1' us))
      (subst (λ s. Along at n s (returned ts' vs1' us)) (sym ((skips ts).returned (flat_state xs (v ∷ values) vs1 us))) (leaves.returns xs v vs1 vs1' a e word));
}

abbrev pub same_tasks : List FlatTask → List FlatTask
same_tasks ts = ts

pub leaves_behind : (at : Setting) (count n r : ℕ) (c : Ops) (ts : List FlatTask) (ts' : List Task) (values : List ℕ) (vs' : ℕ → ℕ) (us : List ℕ)
    → Leaves at count n r ts ts' values vs' us → Leaves at count n r ts (ops_tasks c ts') values vs' us
leaves_behind at count n r c ts ts' values vs' us leaves =
    leaves_over at count n r same_tasks c ts ts' values vs' us (λ xs. record { left = λ s. refl; continued = λ s. refl; returned = λ s. refl }) leaves

-- the result is 0 as long as no `return` is made
pub result_kept : (count r : ℕ) (vs' vs1 vs1' : ℕ → ℕ) → count ≤ r → Alike count (suc r) vs' vs1 vs1' → vs' r ≡ 0 → vs1' r ≡ 0
result_kept count r vs' vs1 vs1' le alike none = alike.frame r le (omega arith) ∙ none

-- ---- one after another

pub nothing_acts : (at : Setting) (count : ℕ) → Acts at count (λ ts. ts) (λ r c. c)
nothing_acts at count n r c ts ts' values vs vs' us le alike none next leave = next vs vs' alike

pub acts_on : (at : Setting) (count : ℕ) (tasks : List FlatTask → List FlatTask) (part : Fragment) (tasks' : List FlatTask → List FlatTask) (part' : Fragment)
    → Skipped tasks' → Acts at count tasks part → Acts at count tasks' part' → Acts at count (λ ts. tasks (tasks' ts)) (λ r c. part r (part' r c))
acts_on at count tasks part tasks' part' skips acts acts' n r c ts ts' values vs vs' us le alike none next leave =
    acts n r (part' r c) (tasks' ts) ts' values vs vs' us le alike none
    (λ vs1 vs1' a.
    acts' n r c ts ts' values vs1 vs1' us le (alike_self count (suc r) vs' vs1 vs1' (suc r) a) (result_kept count r vs' vs1 vs1' le a none)
    (behind_later at count n r ts (ops_tasks c ts') values vs' vs1 vs1' us a next) (leaves_later at count n r ts ts' values vs' vs1 vs1' us a leave))
    (leaves_over at count n r tasks' NoOps ts ts' values vs' us skips leave)

-- ---- a value that is used up

-- it goes into a variable of the kernel
pub assigns : (at : Setting) (count n r : ℕ) (x : ℕ) (elem : Elem) (a : Operand) (c : Ops) (ts : List FlatTask) (ts' : List Task) (values : List ℕ) (vs' vs1 vs1' : ℕ → ℕ) (us : List ℕ) (v : ℕ)
    → x < count → Alike count (suc r) vs' vs1 vs1' → value vs1' a ≡ v → Behind at count n r ts (ops_tasks c ts') values vs' us
    → Along at n (flat_state (task.Assign x elem ∷ ts) (v ∷ values) vs1 us) (state (ops_tasks (AndOp (Fit x elem a) c) ts') vs1' us)
assigns at count n r x elem a c ts ts' values vs' vs1 vs1' us v below alike e next =
    let z : ℕ = fitted elem v in
    FirstGoes n (flat_state (task.Assign x elem ∷ ts) (v ∷ values) vs1 us) (flat_state ts values (put_at x z vs1) us)
    (state (ops_tasks (AndOp (Fit x elem a) c) ts') vs1' us) refl
    (fits at n (flat_state ts values (put_at x z vs1) us) x elem a (ops_tasks c ts') vs1' us v e
    (next (put_at x z vs1) (put_at x z vs1') (alike_put count (suc r) vs' vs1 vs1' x z below (fitted-lt elem v) alike)))

pub assigned_acts : (at : Setting) (count : ℕ) (x : ℕ) (elem : Elem) (tasks : List FlatTask → List FlatTask) (part : Fragment) (s : Standing) (calls : Bool) → x < count
    → Gives at count tasks part s calls → Acts at count (λ ts. tasks (task.Assign x elem ∷ ts)) (λ r c. part (suc r) (AndOp (Fit x elem (operand_at s (suc r))) c))
assigned_acts at count x elem tasks part s calls below gives n r c ts ts' values vs vs' us le alike none next leave =
    gives n (suc r) (AndOp (Fit x elem (operand_at s (suc r))) c) (task.Assign x elem ∷ ts) ts' values vs vs' us (omega arith) alike
    (λ v vs1 vs1' a same e word. assigns at count n r x elem (operand_at s (suc r)) c ts ts' values vs' vs1 vs1' us v below a e next)

-- a variable becomes 0
pub clear_acts : (at : Setting) (count : ℕ) (x : ℕ) → x < count → Acts at count (λ ts. task.Clear x ∷ ts) (λ r c. AndOp (Set x (NumberOf 0)) c)
clear_acts at count x below n r c ts ts' values vs vs' us le alike none next leave =
    FirstGoes n (flat_state (task.Clear x ∷ ts) values vs us) (flat_state ts values (put_at x 0 vs) us) (state (ops_tasks (AndOp (Set x (NumberOf 0)) c) ts') vs' us) refl
    (sets at n (flat_state ts values (put_at x 0 vs) us) x (NumberOf 0) (ops_tasks c ts') vs' us 0 refl
    (next (put_at x 0 vs) (put_at x 0 vs') (alike_put count (suc r) vs' vs vs' x 0 below (omega arith) alike)))

pub call_acts : (at : Setting) (count : ℕ) (call : FlatExpr) → ValueGoes at count call → StmtGoes at count (CallStmtFlat call)
call_acts at count call gives n r c ts ts' values vs vs' us le alike none next leave =
    gives n (suc r) c (task.Discard ∷ ts) ts' values vs vs' us (omega arith) alike
    (λ v vs1 vs1' a same e word.
    FirstGoes n (flat_state (task.Discard ∷ ts) (v ∷ values) vs1 us) (flat_state ts values vs1 us) (state (ops_tasks c ts') vs1' us) refl (next vs1 vs1' a))

pub barrier_acts : (at : Setting) (count site : ℕ) → StmtGoes at count (BarrierFlat site)
barrier_acts at count site n r c ts ts' values vs vs' us le alike none next leave =
    BothAsk n (flat_state (task.Wait site ∷ ts) values vs us) (state (Do (Barrier site) ∷ ops_tasks c ts') vs' us)
    (BarrierAction (record { site = site; turns = reverse us })) (λ answer. flat_state ts values vs us) (λ answer. state (ops_tasks c ts') vs' us) refl refl (omega arith)
    (λ answer. next vs vs' alike)

-- ---- branches

-- behind the test one of the two is chosen
branched : (at : Setting) (count : ℕ) (one : FlatStmt) (other : Option FlatStmt) (other_ops : Fragment) → StmtGoes at count one
    → Acts at count (flat.optional stmt_tasks other) other_ops
    → (n r : ℕ) (a : Operand) (c : Ops) (ts : List FlatTask) (ts' : List Task) (values : List ℕ) (vs vs' : ℕ → ℕ) (us : List ℕ) (v : ℕ) → count ≤ r
    → Alike count (suc r) vs' vs vs' → vs' r ≡ 0 → value vs' a ≡ v → Behind at count n r ts (ops_tasks c ts') values vs' us → Leaves at count n r ts ts' values vs' us
    → Along at n (flat_state (task.Branch one other ∷ ts) (v ∷ values) vs us) (state (Do (If a (stmt_ops one r NoOps) (other_ops r NoOps)) ∷ ops_tasks c ts') vs' us)
branched at count one other other_ops acts acts' n r a c ts ts' values vs vs' us zero le alike none e next leave =
    takes_other at n (flat_state (task.Branch one other ∷ ts) (0 ∷ values) vs us) a (stmt_ops one r NoOps) (other_ops r NoOps) (ops_tasks c ts') vs' us e
    (FirstGoes n (flat_state (task.Branch one other ∷ ts) (0 ∷ values) vs us) (flat_state (flat.optional stmt_tasks other ts) values vs us)
    (state (ops_tasks (other_ops r NoOps) (ops_tasks c ts')) vs' us) refl
    (acts' n r NoOps ts (ops_tasks c ts') values vs vs' us le alike none next (leaves_behind at count n r c ts ts' values vs' us leave)))
branched at count one other other_ops acts acts' n r a c ts ts' values vs vs' us (suc v) le alike none e next leave =
    takes_one at n (flat_state (task.Branch one other ∷ ts) (suc v ∷ values) vs us) a (stmt_ops one r NoOps) (other_ops r NoOps) (ops_tasks c ts') vs' us
    (λ zero_is. absurd (suc_not_zero v (sym e ∙ zero_is)))
    (FirstGoes n (flat_state (task.Branch one other ∷ ts) (suc v ∷ values) vs us) (flat_state (stmt_tasks one ts) values vs us)
    (state (ops_tasks (stmt_ops one r NoOps) (ops_tasks c ts')) vs' us)
    (ap (λ (b : Bool). Go (flat_state (if b then flat.optional stmt_tasks other ts else stmt_tasks one ts) values vs us)) (not_zero v))
    (acts n r NoOps ts (ops_tasks c ts') values vs vs' us le alike none next (leaves_behind at count n r c ts ts' values vs' us leave)))

pub if_acts : (at : Setting) (count : ℕ) (test : FlatExpr) (one : FlatStmt) → ValueGoes at count test → StmtGoes at count one → StmtGoes at count (IfFlat test one)
if_acts at count test one gives acts n r c ts ts' values vs vs' us le alike none next leave =
    gives n (suc r) (AndOp (If (operand_at (standing test) (suc r)) (stmt_ops one r NoOps) NoOps) c) (task.Branch one None ∷ ts) ts' values vs vs' us (omega arith) alike
    (λ v vs1 vs1' a same e word.
    branched at count one None (λ result after. after) acts (nothing_acts at count) n r (operand_at (standing test) (suc r)) c ts ts' values vs1 vs1' us v le
    (alike_self count (suc r) vs' vs1 vs1' (suc r) a) (result_kept count r vs' vs1 vs1' le a none) e
    (behind_later at count n r ts (ops_tasks c ts') values vs' vs1 vs1' us a next) (leaves_later at count n r ts ts' values vs' vs1 vs1' us a leave))

pub if_else_acts : (at : Setting) (count : ℕ) (test : FlatExpr) (one other : FlatStmt) → ValueGoes at count test → StmtGoes at count one → StmtGoes at count other
    → StmtGoes at count (IfElseFlat test one other)
if_else_acts at count test one other gives acts acts' n r c ts ts' values vs vs' us le alike none next leave =
    gives n (suc r) (AndOp (If (operand_at (standing test) (suc r)) (stmt_ops one r NoOps) (stmt_ops other r NoOps)) c) (task.Branch one (Some other) ∷ ts) ts' values vs vs' us
    (omega arith) alike
    (λ v vs1 vs1' a same e word.
    branched at count one (Some other) (stmt_ops other) acts acts' n r (operand_at (standing test) (suc r)) c ts ts' values vs1 vs1' us v le
    (alike_self count (suc r) vs' vs1 vs1' (suc r) a) (result_kept count r vs' vs1 vs1' le a none) e
    (behind_later at count n r ts (ops_tasks c ts') values vs' vs1 vs1' us a next) (leaves_later at count n r ts ts' values vs' vs1 vs1' us a leave))

-- ---- jumps

pub break_acts : (at : Setting) (count : ℕ) → StmtGoes at count BreakFlat
break_acts at count n r c ts ts' values vs vs' us le alike none next leave =
    FirstGoes n (flat_state (task.Break ∷ ts) values vs us) (flat.left ts (flat_state ts values vs us)) (state (Do Break ∷ ops_tasks c ts') vs' us) refl
    (SecondGoes n (flat.left ts (flat_state ts values vs us)) (state (Do Break ∷ ops_tasks c ts') vs' us) (broken (ops_tasks c ts') vs' us) refl refl
    (subst (λ t. Along at n (flat.left ts (flat_state ts values vs us)) t) (sym (broken_skips c ts' vs' us)) (leave.breaks ts vs vs' alike)))

pub continue_acts : (at : Setting) (count : ℕ) → StmtGoes at count ContinueFlat
continue_acts at count n r c ts ts' values vs vs' us le alike none next leave =
    FirstGoes n (flat_state (task.Continue ∷ ts) values vs us) (flat.continued ts (flat_state ts values vs us)) (state (Do Continue ∷ ops_tasks c ts') vs' us) refl
    (SecondGoes n (flat.continued ts (flat_state ts values vs us)) (state (Do Continue ∷ ops_tasks c ts') vs' us) (continued (ops_tasks c ts') vs' us) refl refl
    (subst (λ t. Along at n (flat.continued ts (flat_state ts values vs us)) t) (sym (continued_skips c ts' vs' us)) (leave.continues ts vs vs' alike)))

-- a value is given back
returns_it : (at : Setting) (count n r : ℕ) (c : Ops) (ts : List FlatTask) (ts' : List Task) (values : List ℕ) (vs' vs1 vs1' : ℕ → ℕ) (us : List ℕ) (v : ℕ)
    → Alike count r vs' vs1 vs1' → vs1' r ≡ v → v < 2 ^ 32 → Leaves at count n r ts ts' values vs' us
    → Along at n (flat_state (task.Return ∷ ts) (v ∷ values) vs1 us) (state (Do Return ∷ ops_tasks c ts') vs1' us)
returns_it at count n r c ts ts' values vs' vs1 vs1' us v alike e word leave =
    let there : FlatState = flat.returned ts (flat_state ts (v ∷ values) vs1 us) in
    FirstGoes n (flat_state (task.Return ∷ ts) (v ∷ values) vs1 us) there (state (Do Return ∷ ops_tasks c ts') vs1' us) refl
    (SecondGoes n there (state (Do Return ∷ ops_tasks c ts') vs1' us) (returned (ops_tasks c ts') vs1' us) refl refl
    (subst (λ t. Along at n there t) (sym (returned_skips c ts' vs1' us)) (leave.returns ts v vs1 vs1' alike e word)))

gives_back : (at : Setting) (count n r : ℕ) (gives : Giving) (a : Operand) (c : Ops) (ts : List FlatTask) (ts' : List Task) (values : List ℕ) (vs' vs1 vs1' : ℕ → ℕ) (us : List ℕ) (v : ℕ)
    → count ≤ r → Alike count r vs' vs1 vs1' → value vs1' a ≡ v → v < 2 ^ 32 → Leaves at count n r ts ts' values vs' us
    → Along at n (flat_state (given_tasks gives (task.Return ∷ ts)) (v ∷ values) vs1 us) (state (ops_tasks (given_ops gives a r (AndOp Return c)) ts') vs1' us)
gives_back at count n r Nothing a c ts ts' values vs' vs1 vs1' us v le alike e word leave =
    sets at n (flat_state (task.Return ∷ ts) (v ∷ values) vs1 us) r a (Do Return ∷ ops_tasks c ts') vs1' us v e
    (returns_it at count n r c ts ts' values vs' vs1 (put_at r v vs1') us v
    (alike_kept count r r vs' vs1 vs1' (put_at r v vs1') le (omega arith) (kept_put r r v vs1' (omega arith)) alike) (put_at_same r v vs1') word leave)
gives_back at count n r (Value elem) a c ts ts' values vs' vs1 vs1' us v le alike e word leave =
    let z : ℕ = fitted elem v in
    FirstGoes n (flat_state (task.Fit elem ∷ task.Return ∷ ts) (v ∷ values) vs1 us) (flat_state (task.Return ∷ ts) (z ∷ values) vs1 us)
    (state (ops_tasks (AndOp (Fit r elem a) (AndOp Return c)) ts') vs1' us) refl
    (fits at n (flat_state (task.Return ∷ ts) (z ∷ values) vs1 us) r elem a (Do Return ∷ ops_tasks c ts') vs1' us v e
    (returns_it at count n r c ts ts' values vs' vs1 (put_at r z vs1') us z
    (alike_kept count r r vs' vs1 vs1' (put_at r z vs1') le (omega arith) (kept_put r r z vs1' (omega arith)) alike) (put_at_same r z vs1') (fitted-lt elem v) leave))

pub return_nothing_acts : (at : Setting) (count : ℕ) (gives : Giving) → StmtGoes at count (ReturnFlat gives NoFlat)
return_nothing_acts at count gives n r c ts ts' values vs vs' us le alike none next leave =
    FirstGoes n (flat_state (task.Number 0 ∷ task.Return ∷ ts) values vs us) (flat_state (task.Return ∷ ts) (0 ∷ values) vs us)
    (state (Do Return ∷ ops_tasks c ts') vs' us) refl
    (returns_it at count n r c ts ts' values vs' vs vs' us 0 (alike_less count r (suc r) vs' vs vs' (omega arith) alike) none (omega arith) leave)

pub return_acts : (at : Setting) (count : ℕ) (gives : Giving) (e : FlatExpr) → ValueGoes at count e → StmtGoes at count (ReturnFlat gives (SomeFlat e))
return_acts at count giving e gives n r c ts ts' values vs vs' us le alike none next leave =
    gives n (suc r) (given_ops giving (operand_at (standing e) (suc r)) r (AndOp Return c)) (given_tasks giving (task.Return ∷ ts)) ts' values vs vs' us (omega arith) alike
    (λ v vs1 vs1' a same e' word.
    gives_back at count n r giving (operand_at (standing e) (suc r)) c ts ts' values vs' vs1 vs1' us v le (alike_less count r (suc r) vs' vs1 vs1' (omega arith) a) e' word leave)
