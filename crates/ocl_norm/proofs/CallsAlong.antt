-- Calls in both: the arguments are bound, and the body leaves its result in a variable.
use Rattle.std.proofs.Common.{◌≡◌, ℕ, suc, ◌<◌, ◌≤◌, ◌^◌, List, ◌∷◌, refl, ◌∙◌, arith, true≢false}
use Rattle.vx_base.specs.Values.{fitted}
use Rattle.vx_base.proofs.ValueLaws.{fitted-lt}
use Rattle.item_acts.specs.Launches.{put_at}
use Rattle.item_acts.proofs.Launches.{put_at_same}
use Rattle.item_settings.specs.Settings.{Setting}
use Rattle.task_machine.specs.declared.tasks.Task.TheVariants as task
use Rattle.step_machine.specs.Sims.{FirstGoes, BothGo}
use Rattle.kir.specs.Machine.{state, Task, Do, CallEnd, value, ops_tasks}
use Rattle.kir.specs.Trees.{Operand, NumberOf, Set, Call, Ops, NoOps, AndOp}
use Rattle.ocl_inline.specs.declared.trees.Binding.{Binding}
use Rattle.ocl_inline.specs.declared.trees.Binding.TheVariants.{Variable as ToVariable, Dropped}
use Rattle.ocl_inline.specs.FlatTasks.{FlatTask, bound_to, args_tasks, stmts_tasks}
use Rattle.ocl_inline.specs.Trees.{FlatExpr, CallFlat, FlatArgs, NoFlatArgs, NumberArg, BlockFlat, FlatStmts}
use Rattle.ocl_norm.specs.Normal.{args_ops, bound_ops, stmts_ops}
use Rattle.ocl_inline.specs.Proper.{IsBound}
use Rattle.ocl_norm.specs.Standings.{standing, operand_at}
use Rattle.ocl_norm.proofs.ChoicesAlong.{ValueGoes}
use Rattle.ocl_norm.proofs.Relations.{flat_state, Along, Alike, alike_self, alike_on, alike_less, alike_put, alike_kept, kept_put, sets, fits}
use Rattle.ocl_norm.proofs.StatementsAlong.{StmtsGo}

-- what is to follow arguments
abbrev pub BehindArgs : Setting → ℕ → (n d : ℕ) → Ops → List FlatTask → List Task → List ℕ → (ℕ → ℕ) → List ℕ → Type 0
BehindArgs at count n d c ts ts' values vs' us =
    (vs1 vs1' : ℕ → ℕ) → Alike count d vs' vs1 vs1' → Along at n (flat_state ts values vs1 us) (state (ops_tasks c ts') vs1' us)

-- arguments and the operations that bind them go along
abbrev pub ArgsGo : Setting → ℕ → FlatArgs → Type 0
ArgsGo at count args = (n d : ℕ) (c : Ops) (ts : List FlatTask) (ts' : List Task) (values : List ℕ) (vs vs' : ℕ → ℕ) (us : List ℕ) → count ≤ d → Alike count d vs' vs vs'
    → BehindArgs at count n d c ts ts' values vs' us
    → Along at n (flat_state (args_tasks args ts) values vs us) (state (ops_tasks (args_ops args d c) ts') vs' us)

binds : (at : Setting) (count n d : ℕ) (binding : Binding) (a : Operand) (c : Ops) (ts : List FlatTask) (ts' : List Task) (values : List ℕ) (vs' vs1 vs1' : ℕ → ℕ) (us : List ℕ) (v : ℕ)
    → IsBound count binding → Alike count d vs' vs1 vs1' → value vs1' a ≡ v → BehindArgs at count n d c ts ts' values vs' us
    → Along at n (flat_state (bound_to binding ∷ ts) (v ∷ values) vs1 us) (state (ops_tasks (bound_ops binding a c) ts') vs1' us)
binds at count n d (ToVariable x elem) a c ts ts' values vs' vs1 vs1' us v bound alike e next =
    let z : ℕ = fitted elem v in
    FirstGoes n (flat_state (task.Assign x elem ∷ ts) (v ∷ values) vs1 us) (flat_state ts values (put_at x z vs1) us)
    (state (ops_tasks (bound_ops (ToVariable x elem) a c) ts') vs1' us) refl
    (fits at n (flat_state ts values (put_at x z vs1) us) x elem a (ops_tasks c ts') vs1' us v e
    (next (put_at x z vs1) (put_at x z vs1') (alike_put count d vs' vs1 vs1' x z bound (fitted-lt elem v) alike)))
binds at count n d Dropped a c ts ts' values vs' vs1 vs1' us v bound alike e next =
    FirstGoes n (flat_state (task.Discard ∷ ts) (v ∷ values) vs1 us) (flat_state ts values vs1 us) (state (ops_tasks c ts') vs1' us) refl (next vs1 vs1' alike)

pub no_args_go : (at : Setting) (count : ℕ) → ArgsGo at count NoFlatArgs
no_args_go at count n d c ts ts' values vs vs' us le alike next = next vs vs' alike

pub number_arg_goes : (at : Setting) (count : ℕ) (e : FlatExpr) (binding : Binding) (more : FlatArgs) → IsBound count binding → ValueGoes at count e → ArgsGo at count more
    → ArgsGo at count (NumberArg e binding more)
number_arg_goes at count e binding more bound gives mores n d c ts ts' values vs vs' us le alike next =
    gives n d (bound_ops binding (operand_at (standing e) d) (args_ops more d c)) (bound_to binding ∷ args_tasks more ts) ts' values vs vs' us le alike
    (λ v vs1 vs1' a same e' word.
    binds at count n d binding (operand_at (standing e) d) (args_ops more d c) (args_tasks more ts) ts' values vs' vs1 vs1' us v bound a e'
    (λ vs2 vs2' b. mores n d c ts ts' values vs2 vs2' us le (alike_self count d vs' vs2 vs2' d b)
    (λ vs3 vs3' b3. next vs3 vs3' (alike_on count d d vs' vs2 vs2' vs3 vs3' (omega arith) b b3))))

-- ---- the body

pub call_goes : (at : Setting) (count : ℕ) (args : FlatArgs) (body : FlatStmts) → ArgsGo at count args → StmtsGo at count body → ValueGoes at count (CallFlat args body)
call_goes at count args body binding acts n d c ts ts' values vs vs' us le alike next =
    let body_ops : Ops = stmts_ops body d NoOps in
    let ends : List Task = CallEnd ∷ ops_tasks c ts' in
    binding n d (AndOp (Set d (NumberOf 0)) (AndOp (Call body_ops) c)) (task.Invoke (BlockFlat body) ∷ ts) ts' values vs vs' us le alike
    (λ vs1 vs1' a.
    let vs2' : ℕ → ℕ = put_at d 0 vs1' in
    let a2 : Alike count d vs' vs1 vs2' = alike_kept count d d vs' vs1 vs1' vs2' le (omega arith) (kept_put d d 0 vs1' (omega arith)) a in
    let over : (v : ℕ) (vs3 vs3' : ℕ → ℕ) → Alike count d vs2' vs3 vs3' → vs3' d ≡ v → v < 2 ^ 32
    → Along at n (flat_state ts (v ∷ values) vs3 us) (state (ops_tasks c ts') vs3' us) =
    λ v vs3 vs3' b e word. next v vs3 vs3' (alike_on count d d vs' vs1 vs2' vs3 vs3' (omega arith) a2 b) (λ free. absurd (true≢false free)) e word in
    let falls : (vs3 vs3' : ℕ → ℕ) → Alike count (suc d) vs2' vs3 vs3'
    → Along at n (flat_state ts (0 ∷ values) vs3 us) (state (ops_tasks c ts') vs3' us) =
    λ vs3 vs3' b. over 0 vs3 vs3' (alike_less count d (suc d) vs2' vs3 vs3' (omega arith) b) (b.frame d le (omega arith) ∙ put_at_same d 0 vs1') (omega arith) in
    sets at n (flat_state (task.Invoke (BlockFlat body) ∷ ts) values vs1 us) d (NumberOf 0) (Do (Call body_ops) ∷ ops_tasks c ts') vs1' us 0 refl
    (BothGo n (flat_state (task.Invoke (BlockFlat body) ∷ ts) values vs1 us) (flat_state (stmts_tasks body (task.CallEnd ∷ ts)) values vs1 us)
    (state (Do (Call body_ops) ∷ ops_tasks c ts') vs2' us) (state (ops_tasks body_ops ends) vs2' us) refl refl (omega arith)
    (acts n d NoOps (task.CallEnd ∷ ts) ends values vs1 vs2' us le (alike_self count d vs' vs1 vs2' (suc d) a2) (put_at_same d 0 vs1')
    (λ vs3 vs3' b.
    BothGo n (flat_state (task.CallEnd ∷ ts) values vs3 us) (flat_state ts (0 ∷ values) vs3 us) (state ends vs3' us) (state (ops_tasks c ts') vs3' us)
    refl refl (omega arith) (falls vs3 vs3' b))
    (record {
      breaks = λ xs vs3 vs3' b. falls vs3 vs3' b;
      continues = λ xs vs3 vs3' b. falls vs3 vs3' b;
      returns = λ xs v vs3 vs3' b e word. over v vs3 vs3' b e word;
    }))))
