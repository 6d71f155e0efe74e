-- Each step of the flat kernel is the source's.
use Rattle.std.proofs.Common.{◌≡◌, refl, ap, ◌∙◌, ℕ, ◌==◌, List, [], ◌∷◌, Option, None, Some, Bool, true, false, if◌then◌else◌, nat_lt, option_map}
use Rattle.vx_base.specs.declared.types.Pos.{Pos}
use Rattle.item_acts.specs.Machine.{Go}
use Rattle.ocl_program.specs.Nodes.{FunctionNode}
use Rattle.item_settings.specs.declared.arrays.ItemArray.{ItemArray}
use Rattle.ocl_sem.specs.Items.{ItemState}
use Rattle.item_settings.specs.Settings.{Setting}
use Rattle.ocl_sem.specs.Source.{PlacedExpr, PlacedStmt, SourceTask, SourceLoop, source_parts}
use Rattle.task_machine.specs.declared.tasks.Task.TheVariants as task
use Rattle.step_machine.specs.Stacks.{top, under}
use Rattle.step_machine.specs.Turns.{risen}
use Rattle.task_machine.specs.Tasks.{onward, holding, turning, optional, returned, left, continued, load_step, store_step, headed, turned, task_step, step_from}
use Rattle.ocl_inline.specs.FlatTasks.{FlatTask, flat_parts}
use Rattle.ocl_inline.specs.Expansion.{Bodies}
use Rattle.ocl_inline.specs.Mapping.{FlatState, expr_at, stmt_at, loop_at, task_at, tasks_at, state_at, step_at}
use Rattle.ocl_inline.specs.Laws.{AreBodies, StepsAlike}
use Rattle.ocl_inline.proofs.Mapped.{value_mapped, stmt_mapped}

-- one of two, mapped
cond_mapped : {A B : Type 0} (f : A → B) (c : Bool) (x y : A) (x' y' : B) → x' ≡ f x → y' ≡ f y → (if c then x' else y') ≡ f (if c then x else y)
cond_mapped f true x y x' y' e e' = e
cond_mapped f false x y x' y' e e' = e'

-- ---- jumps

left_mapped : (bodies : Bodies) (program : List FunctionNode) (ts : List SourceTask) (s : ItemState) → left (tasks_at bodies program ts) (state_at bodies program s) ≡ state_at bodies program (left ts s)
left_mapped bodies program [] s = refl
left_mapped bodies program (task.Number n ∷ ts) s = left_mapped bodies program ts s
left_mapped bodies program (task.Variable k ∷ ts) s = left_mapped bodies program ts s
left_mapped bodies program (task.Unary op ∷ ts) s = left_mapped bodies program ts s
left_mapped bodies program (task.Binary op unsigned ∷ ts) s = left_mapped bodies program ts s
left_mapped bodies program (task.Fit elem ∷ ts) s = left_mapped bodies program ts s
left_mapped bodies program (task.Call which unsigned ∷ ts) s = left_mapped bodies program ts s
left_mapped bodies program (task.Truth ∷ ts) s = left_mapped bodies program ts s
left_mapped bodies program (task.AndThen right ∷ ts) s = left_mapped bodies program ts s
left_mapped bodies program (task.OrElse right ∷ ts) s = left_mapped bodies program ts s
left_mapped bodies program (task.Choose one other ∷ ts) s = left_mapped bodies program ts s
left_mapped bodies program (task.Load array pos ∷ ts) s = left_mapped bodies program ts s
left_mapped bodies program (task.Reread array pos ∷ ts) s = left_mapped bodies program ts s
left_mapped bodies program (task.Store array pos ∷ ts) s = left_mapped bodies program ts s
left_mapped bodies program (task.Clear k ∷ ts) s = left_mapped bodies program ts s
left_mapped bodies program (task.Assign k elem ∷ ts) s = left_mapped bodies program ts s
left_mapped bodies program (task.Discard ∷ ts) s = left_mapped bodies program ts s
left_mapped bodies program (task.Wait site ∷ ts) s = left_mapped bodies program ts s
left_mapped bodies program (task.Branch one other ∷ ts) s = left_mapped bodies program ts s
left_mapped bodies program (task.Enter loop ∷ ts) s = left_mapped bodies program ts s
left_mapped bodies program (task.EnterTurn loop ∷ ts) s = left_mapped bodies program ts s
left_mapped bodies program (task.Decide loop ∷ ts) s = refl
left_mapped bodies program (task.Begin loop ∷ ts) s = refl
left_mapped bodies program (task.Again loop ∷ ts) s = refl
left_mapped bodies program (task.Invoke body ∷ ts) s = left_mapped bodies program ts s
left_mapped bodies program (task.CallEnd ∷ ts) s = refl
left_mapped bodies program (task.Break ∷ ts) s = left_mapped bodies program ts s
left_mapped bodies program (task.Continue ∷ ts) s = left_mapped bodies program ts s
left_mapped bodies program (task.Return ∷ ts) s = left_mapped bodies program ts s

continued_mapped : (bodies : Bodies) (program : List FunctionNode) (ts : List SourceTask) (s : ItemState) → continued (tasks_at bodies program ts) (state_at bodies program s) ≡ state_at bodies program (continued ts s)
continued_mapped bodies program [] s = refl
continued_mapped bodies program (task.Number n ∷ ts) s = continued_mapped bodies program ts s
continued_mapped bodies program (task.Variable k ∷ ts) s = continued_mapped bodies program ts s
continued_mapped bodies program (task.Unary op ∷ ts) s = continued_mapped bodies program ts s
continued_mapped bodies program (task.Binary op unsigned ∷ ts) s = continued_mapped bodies program ts s
continued_mapped bodies program (task.Fit elem ∷ ts) s = continued_mapped bodies program ts s
continued_mapped bodies program (task.Call which unsigned ∷ ts) s = continued_mapped bodies program ts s
continued_mapped bodies program (task.Truth ∷ ts) s = continued_mapped bodies program ts s
continued_mapped bodies program (task.AndThen right ∷ ts) s = continued_mapped bodies program ts s
continued_mapped bodies program (task.OrElse right ∷ ts) s = continued_mapped bodies program ts s
continued_mapped bodies program (task.Choose one other ∷ ts) s = continued_mapped bodies program ts s
continued_mapped bodies program (task.Load array pos ∷ ts) s = continued_mapped bodies program ts s
continued_mapped bodies program (task.Reread array pos ∷ ts) s = continued_mapped bodies program ts s
continued_mapped bodies program (task.Store array pos ∷ ts) s = continued_mapped bodies program ts s
continued_mapped bodies program (task.Clear k ∷ ts) s = continued_mapped bodies program ts s
continued_mapped bodies program (task.Assign k elem ∷ ts) s = continued_mapped bodies program ts s
continued_mapped bodies program (task.Discard ∷ ts) s = continued_mapped bodies program ts s
continued_mapped bodies program (task.Wait site ∷ ts) s = continued_mapped bodies program ts s
continued_mapped bodies program (task.Branch one other ∷ ts) s = continued_mapped bodies program ts s
continued_mapped bodies program (task.Enter loop ∷ ts) s = continued_mapped bodies program ts s
continued_mapped bodies program (task.EnterTurn loop ∷ ts) s = continued_mapped bodies program ts s
continued_mapped bodies program (task.Decide loop ∷ ts) s = refl
continued_mapped bodies program (task.Begin loop ∷ ts) s = refl
continued_mapped bodies program (task.Again loop ∷ ts) s = refl
continued_mapped bodies program (task.Invoke body ∷ ts) s = continued_mapped bodies program ts s
continued_mapped bodies program (task.CallEnd ∷ ts) s = refl
continued_mapped bodies program (task.Break ∷ ts) s = continued_mapped bodies program ts s
continued_mapped bodies program (task.Continue ∷ ts) s = continued_mapped bodies program ts s
continued_mapped bodies program (task.Return ∷ ts) s = continued_mapped bodies program ts s

returned_mapped : (bodies : Bodies) (program : List FunctionNode) (ts : List SourceTask) (s : ItemState) → returned (tasks_at bodies program ts) (state_at bodies program s) ≡ state_at bodies program (returned ts s)
returned_mapped bodies program [] s = refl
returned_mapped bodies program (task.Number n ∷ ts) s = returned_mapped bodies program ts s
returned_mapped bodies program (task.Variable k ∷ ts) s = returned_mapped bodies program ts s
returned_mapped bodies program (task.Unary op ∷ ts) s = returned_mapped bodies program ts s
returned_mapped bodies program (task.Binary op unsigned ∷ ts) s = returned_mapped bodies program ts s
returned_mapped bodies program (task.Fit elem ∷ ts) s = returned_mapped bodies program ts s
returned_mapped bodies program (task.Call which unsigned ∷ ts) s = returned_mapped bodies program ts s
returned_mapped bodies program (task.Truth ∷ ts) s = returned_mapped bodies program ts s
returned_mapped bodies program (task.AndThen right ∷ ts) s = returned_mapped bodies program ts s
returned_mapped bodies program (task.OrElse right ∷ ts) s = returned_mapped bodies program ts s
returned_mapped bodies program (task.Choose one other ∷ ts) s = returned_mapped bodies program ts s
returned_mapped bodies program (task.Load array pos ∷ ts) s = returned_mapped bodies program ts s
returned_mapped bodies program (task.Reread array pos ∷ ts) s = returned_mapped bodies program ts s
returned_mapped bodies program (task.Store array pos ∷ ts) s = returned_mapped bodies program ts s
returned_mapped bodies program (task.Clear k ∷ ts) s = returned_mapped bodies program ts s
returned_mapped bodies program (task.Assign k elem ∷ ts) s = returned_mapped bodies program ts s
returned_mapped bodies program (task.Discard ∷ ts) s = returned_mapped bodies program ts s
returned_mapped bodies program (task.Wait site ∷ ts) s = returned_mapped bodies program ts s
returned_mapped bodies program (task.Branch one other ∷ ts) s = returned_mapped bodies program ts s
returned_mapped bodies program (task.Enter loop ∷ ts) s = returned_mapped bodies program ts s
returned_mapped bodies program (task.EnterTurn loop ∷ ts) s = returned_mapped bodies program ts s
returned_mapped bodies program (task.Decide loop ∷ ts) s = returned_mapped bodies program ts (turning (under s.turns) s)
returned_mapped bodies program (task.Begin loop ∷ ts) s = returned_mapped bodies program ts (turning (under s.turns) s)
returned_mapped bodies program (task.Again loop ∷ ts) s = returned_mapped bodies program ts (turning (under s.turns) s)
returned_mapped bodies program (task.Invoke body ∷ ts) s = returned_mapped bodies program ts s
returned_mapped bodies program (task.CallEnd ∷ ts) s = refl
returned_mapped bodies program (task.Break ∷ ts) s = returned_mapped bodies program ts s
returned_mapped bodies program (task.Continue ∷ ts) s = returned_mapped bodies program ts s
returned_mapped bodies program (task.Return ∷ ts) s = returned_mapped bodies program ts s

-- ---- steps

load_mapped : (bodies : Bodies) (program : List FunctionNode) (group : ℕ) (array : ItemArray) (i : ℕ) (pos : Pos) (vs : List ℕ) (s : ItemState)
    → load_step group array i pos vs (state_at bodies program s) ≡ step_at bodies program (load_step group array i pos vs s)
load_mapped bodies program group array i pos vs s = cond_mapped (step_at bodies program) (nat_lt i array.count) _ _ _ _ refl refl

store_mapped : (bodies : Bodies) (program : List FunctionNode) (group : ℕ) (array : ItemArray) (i v : ℕ) (pos : Pos) (s : ItemState)
    → store_step group array i v pos (state_at bodies program s) ≡ step_at bodies program (store_step group array i v pos s)
store_mapped bodies program group array i v pos s =
    cond_mapped (step_at bodies program) (nat_lt i array.count) _ _ _ _ (cond_mapped (step_at bodies program) array.writable _ _ _ _ refl refl) refl

optional_mapped : (bodies : Bodies) (program : List FunctionNode) → AreBodies bodies program → (other : Option PlacedStmt) (ts : List SourceTask)
    → optional flat_parts.body (option_map (stmt_at bodies program) other) (tasks_at bodies program ts) ≡ tasks_at bodies program (optional (source_parts program).body other ts)
optional_mapped bodies program are None ts = refl
optional_mapped bodies program are (Some t) ts = stmt_mapped bodies program are t.scope t.stmt ts

headed_mapped : (bodies : Bodies) (program : List FunctionNode) → AreBodies bodies program → (loop : SourceLoop) (test : Option PlacedExpr) (ts : List SourceTask)
    → headed flat_parts (loop_at bodies program loop) (option_map (expr_at bodies program) test) (tasks_at bodies program ts) ≡ tasks_at bodies program (headed (source_parts program) loop test ts)
headed_mapped bodies program are loop None ts = refl
headed_mapped bodies program are loop (Some v) ts = value_mapped bodies program are v.scope v.expr (task.Decide loop ∷ ts)

turned_mapped : (bodies : Bodies) (program : List FunctionNode) → AreBodies bodies program → (loop : SourceLoop) (ts : List SourceTask)
    → turned flat_parts (loop_at bodies program loop) (tasks_at bodies program ts) ≡ tasks_at bodies program (turned (source_parts program) loop ts)
turned_mapped bodies program are loop ts = stmt_mapped bodies program are loop.body.scope loop.body.stmt (task.Again loop ∷ ts)

-- the tasks that stand for others, in the state that stands for a state
onto : (bodies : Bodies) (program : List FunctionNode) (us : List FlatTask) (ts : List SourceTask) (s : ItemState) → us ≡ tasks_at bodies program ts
    → onward us (state_at bodies program s) ≡ state_at bodies program (onward ts s)
onto bodies program us ts s e = ap (λ x. onward x (state_at bodies program s)) e

go : (bodies : Bodies) (program : List FunctionNode) (c : Bool) (x y : ItemState) (x' y' : FlatState) → x' ≡ state_at bodies program x → y' ≡ state_at bodies program y
    → Go (if c then x' else y') ≡ step_at bodies program (Go (if c then x else y))
go bodies program c x y x' y' e e' = ap Go (cond_mapped (state_at bodies program) c x y x' y' e e')

task_mapped : (bodies : Bodies) (program : List FunctionNode) → AreBodies bodies program → (at : Setting) (t : SourceTask) (s : ItemState)
    → task_step flat_parts at (task_at bodies program t) (state_at bodies program s) ≡ step_at bodies program (task_step (source_parts program) at t s)
task_mapped bodies program are at (task.Number n) s = refl
task_mapped bodies program are at (task.Variable k) s = refl
task_mapped bodies program are at (task.Unary op) s = refl
task_mapped bodies program are at (task.Binary op unsigned) s = refl
task_mapped bodies program are at (task.Fit elem) s = refl
task_mapped bodies program are at (task.Call which unsigned) s = refl
task_mapped bodies program are at task.Truth s = refl
task_mapped bodies program are at (task.AndThen right) s =
    go bodies program (top s.values == 0) _ _ _ _ refl
    (onto bodies program _ _ (holding (under s.values) s) (value_mapped bodies program are right.scope right.expr (task.Truth ∷ s.tasks)))
task_mapped bodies program are at (task.OrElse right) s =
    go bodies program (top s.values == 0) _ _ _ _
    (onto bodies program _ _ (holding (under s.values) s) (value_mapped bodies program are right.scope right.expr (task.Truth ∷ s.tasks))) refl
task_mapped bodies program are at (task.Choose one other) s =
    ap (λ ts. Go (onward ts (holding (under s.values) (state_at bodies program s))))
    (cond_mapped (tasks_at bodies program) (top s.values == 0) _ _ _ _ (value_mapped bodies program are other.scope other.expr s.tasks) (value_mapped bodies program are one.scope one.expr s.tasks))
task_mapped bodies program are at (task.Load array pos) s = load_mapped bodies program at.group (at.array array) (top s.values) pos (under s.values) s
task_mapped bodies program are at (task.Reread array pos) s = load_mapped bodies program at.group (at.array array) (top s.values) pos (top s.values ∷ under s.values) s
task_mapped bodies program are at (task.Store array pos) s =
    store_mapped bodies program at.group (at.array array) (top (under s.values)) (top s.values) pos (holding (under (under s.values)) s)
task_mapped bodies program are at (task.Clear k) s = refl
task_mapped bodies program are at (task.Assign k elem) s = refl
task_mapped bodies program are at task.Discard s = refl
task_mapped bodies program are at (task.Wait site) s = refl
task_mapped bodies program are at (task.Branch one other) s =
    ap (λ ts. Go (onward ts (holding (under s.values) (state_at bodies program s))))
    (cond_mapped (tasks_at bodies program) (top s.values == 0) _ _ _ _ (optional_mapped bodies program are other s.tasks) (stmt_mapped bodies program are one.scope one.stmt s.tasks))
task_mapped bodies program are at (task.Enter loop) s =
    ap (λ ts. Go (turning (0 ∷ s.turns) (onward ts (state_at bodies program s)))) (headed_mapped bodies program are loop loop.test s.tasks)
task_mapped bodies program are at (task.EnterTurn loop) s = refl
task_mapped bodies program are at (task.Decide loop) s =
    go bodies program (top s.values == 0) _ _ _ _ refl
    (onto bodies program _ _ (holding (under s.values) s) (turned_mapped bodies program are loop s.tasks))
task_mapped bodies program are at (task.Begin loop) s = ap Go (onto bodies program _ _ s (turned_mapped bodies program are loop s.tasks))
task_mapped bodies program are at (task.Again loop) s =
    let behind : List SourceTask = headed (source_parts program) loop loop.test s.tasks in
    ap (λ ts. Go (turning (risen s.turns) (onward ts (state_at bodies program s))))
    (ap (λ us. flat_parts.body (stmt_at bodies program loop.step) us) (headed_mapped bodies program are loop loop.test s.tasks) ∙ stmt_mapped bodies program are loop.step.scope loop.step.stmt behind)
task_mapped bodies program are at (task.Invoke body) s = ap Go (onto bodies program _ _ s (stmt_mapped bodies program are body.scope body.stmt (task.CallEnd ∷ s.tasks)))
task_mapped bodies program are at task.CallEnd s = refl
task_mapped bodies program are at task.Break s = ap Go (left_mapped bodies program s.tasks s)
task_mapped bodies program are at task.Continue s = ap Go (continued_mapped bodies program s.tasks s)
task_mapped bodies program are at task.Return s = ap Go (returned_mapped bodies program s.tasks s)

from_mapped : (bodies : Bodies) (program : List FunctionNode) → AreBodies bodies program → (at : Setting) (ts : List SourceTask) (s : ItemState)
    → step_from flat_parts at (tasks_at bodies program ts) (state_at bodies program s) ≡ step_at bodies program (step_from (source_parts program) at ts s)
from_mapped bodies program are at [] s = refl
from_mapped bodies program are at (t ∷ ts) s = task_mapped bodies program are at t (onward ts s)

pub steps_alike : StepsAlike
steps_alike bodies program are at s = from_mapped bodies program are at s.tasks s
