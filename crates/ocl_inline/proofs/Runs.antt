-- The flat kernel asks for what the source asks for, at every number of steps, and begins as many turns of loops.
use Rattle.std.proofs.Common.{◌≡◌, refl, ap, ◌∙◌, ℕ, zero, suc, ◌+◌, List, [], ◌∷◌}
use Rattle.item_acts.specs.declared.acts.Asked.{Asked}
use Rattle.item_acts.specs.Machine.{Step, Go, Ask, Stop, asked_at_once, asked_behind, asked}
use Rattle.ocl_program.specs.Nodes.{FunctionNode}
use Rattle.ocl_sem.specs.Items.{ItemState, item_step}
use Rattle.item_settings.specs.Settings.{Setting}
use Rattle.ocl_sem.specs.Source.{SourceTask}
use Rattle.task_machine.specs.declared.tasks.Task.TheVariants as task
use Rattle.task_machine.specs.Tasks.{cost, cost_from, step, task_cost}
use Rattle.step_machine.specs.Costs.{spent, spent_behind}
use Rattle.ocl_inline.specs.FlatTasks.{flat_parts}
use Rattle.ocl_inline.specs.Expansion.{Bodies}
use Rattle.ocl_inline.specs.Mapping.{FlatState, state_at, step_at, task_at, tasks_at}
use Rattle.ocl_inline.specs.Laws.{AreBodies}
use Rattle.ocl_inline.proofs.Lockstep.{steps_alike}

at_once_mapped : (bodies : Bodies) (program : List FunctionNode) (x : Step ItemState) (answers : List ℕ) → asked_at_once (step_at bodies program x) answers ≡ asked_at_once x answers
at_once_mapped bodies program (Go s) answers = refl
at_once_mapped bodies program (Ask a s) [] = refl
at_once_mapped bodies program (Ask a s) (answer ∷ answers) = refl
at_once_mapped bodies program (Stop a) [] = refl
at_once_mapped bodies program (Stop a) (answer ∷ answers) = refl

behind_mapped : (bodies : Bodies) (program : List FunctionNode) (flat : FlatState → List ℕ → Asked) (source : ItemState → List ℕ → Asked)
    → ((s : ItemState) (answers : List ℕ) → flat (state_at bodies program s) answers ≡ source s answers) → (x : Step ItemState) (answers : List ℕ)
    → asked_behind flat (step_at bodies program x) answers ≡ asked_behind source x answers
behind_mapped bodies program flat source same (Go s) answers = same s answers
behind_mapped bodies program flat source same (Ask a s) [] = refl
behind_mapped bodies program flat source same (Ask a s) (answer ∷ answers) = same (s answer) answers
behind_mapped bodies program flat source same (Stop a) [] = refl
behind_mapped bodies program flat source same (Stop a) (answer ∷ answers) = refl

pub asked_alike : (bodies : Bodies) (program : List FunctionNode) → AreBodies bodies program → (at : Setting) (n : ℕ) (s : ItemState) (answers : List ℕ)
    → asked (step flat_parts at) n (state_at bodies program s) answers ≡ asked (item_step program at) n s answers
asked_alike bodies program are at zero s answers =
    ap (λ x. asked_at_once x answers) (steps_alike bodies program are at s) ∙ at_once_mapped bodies program (item_step program at s) answers
asked_alike bodies program are at (suc n) s answers =
    ap (λ x. asked_behind (asked (step flat_parts at) n) x answers) (steps_alike bodies program are at s)
    ∙ behind_mapped bodies program (asked (step flat_parts at) n) (asked (item_step program at) n) (asked_alike bodies program are at n) (item_step program at s) answers

-- ---- what it costs

task_cost_mapped : (bodies : Bodies) (program : List FunctionNode) (t : SourceTask) (vs : List ℕ) → task_cost (task_at bodies program t) vs ≡ task_cost t vs
task_cost_mapped bodies program (task.Number n) vs = refl
task_cost_mapped bodies program (task.Variable k) vs = refl
task_cost_mapped bodies program (task.Unary op) vs = refl
task_cost_mapped bodies program (task.Binary op unsigned) vs = refl
task_cost_mapped bodies program (task.Fit elem) vs = refl
task_cost_mapped bodies program (task.Call which unsigned) vs = refl
task_cost_mapped bodies program task.Truth vs = refl
task_cost_mapped bodies program (task.AndThen right) vs = refl
task_cost_mapped bodies program (task.OrElse right) vs = refl
task_cost_mapped bodies program (task.Choose one other) vs = refl
task_cost_mapped bodies program (task.Load array pos) vs = refl
task_cost_mapped bodies program (task.Reread array pos) vs = refl
task_cost_mapped bodies program (task.Store array pos) vs = refl
task_cost_mapped bodies program (task.Clear k) vs = refl
task_cost_mapped bodies program (task.Assign k elem) vs = refl
task_cost_mapped bodies program task.Discard vs = refl
task_cost_mapped bodies program (task.Wait site) vs = refl
task_cost_mapped bodies program (task.Branch one other) vs = refl
task_cost_mapped bodies program (task.Enter loop) vs = refl
task_cost_mapped bodies program (task.EnterTurn loop) vs = refl
task_cost_mapped bodies program (task.Decide loop) vs = refl
task_cost_mapped bodies program (task.Begin loop) vs = refl
task_cost_mapped bodies program (task.Again loop) vs = refl
task_cost_mapped bodies program (task.Invoke body) vs = refl
task_cost_mapped bodies program task.CallEnd vs = refl
task_cost_mapped bodies program task.Break vs = refl
task_cost_mapped bodies program task.Continue vs = refl
task_cost_mapped bodies program task.Return vs = refl

cost_from_mapped : (bodies : Bodies) (program : List FunctionNode) (ts : List SourceTask) (vs : List ℕ) → cost_from (tasks_at bodies program ts) vs ≡ cost_from ts vs
cost_from_mapped bodies program [] vs = refl
cost_from_mapped bodies program (t ∷ ts) vs = task_cost_mapped bodies program t vs

cost_mapped : (bodies : Bodies) (program : List FunctionNode) (s : ItemState) → cost (state_at bodies program s) ≡ cost s
cost_mapped bodies program s = cost_from_mapped bodies program s.tasks s.values

spent_mapped : (bodies : Bodies) (program : List FunctionNode) (flat : FlatState → List ℕ → ℕ) (source : ItemState → List ℕ → ℕ)
    → ((s : ItemState) (answers : List ℕ) → flat (state_at bodies program s) answers ≡ source s answers) → (c : ℕ) (x : Step ItemState) (answers : List ℕ)
    → spent_behind flat c (step_at bodies program x) answers ≡ spent_behind source c x answers
spent_mapped bodies program flat source same c (Go s) answers = ap (λ n. c + n) (same s answers)
spent_mapped bodies program flat source same c (Ask a s) [] = refl
spent_mapped bodies program flat source same c (Ask a s) (answer ∷ answers) = ap (λ n. c + n) (same (s answer) answers)
spent_mapped bodies program flat source same c (Stop a) answers = refl

pub spent_alike : (bodies : Bodies) (program : List FunctionNode) → AreBodies bodies program → (at : Setting) (n : ℕ) (s : ItemState) (answers : List ℕ)
    → spent (step flat_parts at) cost n (state_at bodies program s) answers ≡ spent (item_step program at) cost n s answers
spent_alike bodies program are at zero s answers = refl
spent_alike bodies program are at (suc n) s answers =
    ap (λ x. spent_behind (spent (step flat_parts at) cost n) (cost (state_at bodies program s)) x answers) (steps_alike bodies program are at s)
    ∙ spent_mapped bodies program (spent (step flat_parts at) cost n) (spent (item_step program at) cost n) (spent_alike bodies program are at n) (cost (state_at bodies program s)) (item_step program at s) answers
    ∙ ap (λ c. spent_behind (spent (item_step program at) cost n) c (item_step program at s) answers) (cost_mapped bodies program s)
