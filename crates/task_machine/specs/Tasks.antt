-- The small steps of a work-item. What is left to do is a list of tasks; sub-trees that may never be reached, or that are
-- reached again, stand in it as they are. The machine is the same for every form of program: a form says how its sub-trees
-- become tasks.
use Rattle.std.specs.Prelude.{ℕ, ◌==◌, nat_lt, Bool, if◌then◌else◌, List, [], ◌∷◌, reverse, Option, None, Some}
use Rattle.vx_base.specs.Values.{fitted}
use Rattle.vx_base.specs.declared.types.Pos.{Pos}
use Rattle.item_acts.specs.declared.acts.Action.TheVariants.{Load as LoadAction, Store as StoreAction, Barrier, Fault, End}
use Rattle.item_acts.specs.Launches.{put_at}
use Rattle.item_acts.specs.Machine.{Step, Go, Ask, Stop}
use Rattle.ocl_program.specs.declared.exprs.Builtin.{Builtin}
use Rattle.ocl_program.specs.declared.exprs.Builtin.TheVariants.{WorkDim, GlobalId, LocalId, GroupId, GlobalSize, LocalSize, NumGroups, GlobalOffset, Min, Max, Clamp, Abs, MulHi}
use Rattle.ocl_program.specs.Values.{binary_value, unary_value}
use Rattle.item_settings.specs.declared.arrays.ItemArray.{ItemArray}
use Rattle.step_machine.specs.Stacks.{top, under}
use Rattle.step_machine.specs.Turns.{risen}
use Rattle.task_machine.specs.Loops.{Loop}
use Rattle.task_machine.specs.declared.tasks.Marker.{Marker}
use Rattle.task_machine.specs.declared.tasks.Marker.TheVariants.{Plain, TurnEnd, TurnStart, BodyEnd}
use Rattle.task_machine.specs.declared.tasks.Task.{Task}
use Rattle.task_machine.specs.declared.tasks.Task.TheVariants.{Number, Variable, Unary, Binary, Fit, Call, Truth, AndThen, OrElse, Choose, Load, Reread, Store, Clear, Assign, Discard, Wait, Branch, Enter, EnterTurn, Decide, Begin, Again, Invoke, CallEnd, Break, Continue, Return}
use Rattle.task_machine.specs.Operators.{least_of, greatest_of, clamped, magnitude, high_product}
use Rattle.item_settings.specs.Settings.{Setting, elem_size, element_in, low_bytes}

-- how sub-trees become tasks in front of others
pub record Parts (V T : Type 0) : Type 0 where
  pub value : V → List (Task V T) → List (Task V T)
  pub body : T → List (Task V T) → List (Task V T)

-- A work-item: its tasks, its values with the last one first, its variables, and the numbers of turns of the loops
-- that it is in, the innermost first.
pub record State (V T : Type 0) : Type 0 where
  pub tasks : List (Task V T)
  pub values : List ℕ
  pub variables : ℕ → ℕ
  pub turns : List ℕ

-- ---- parts of a state that are replaced

abbrev pub onward : {V T : Type 0} → List (Task V T) → State V T → State V T
onward ts s = record s { tasks = ts }

abbrev pub holding : {V T : Type 0} → List ℕ → State V T → State V T
holding vs s = record s { values = vs }

abbrev pub turning : {V T : Type 0} → List ℕ → State V T → State V T
turning ns s = record s { turns = ns }

abbrev pub with_variable : {V T : Type 0} → ℕ → ℕ → State V T → State V T
with_variable k v s = record s { variables = put_at k v s.variables }

abbrev pub optional : {A B : Type 0} → (A → B → B) → Option A → B → B
optional f None rest = rest
optional f (Some a) rest = f a rest

-- ---- jumps

-- what a task is for a jump that leaves it behind
abbrev pub marker_of : {V T : Type 0} → Task V T → Marker
marker_of (Again loop) = TurnEnd
marker_of (Decide loop) = TurnStart
marker_of (Begin loop) = TurnStart
marker_of CallEnd = BodyEnd
marker_of t = Plain

-- `return`: to the end of the innermost call, out of its loops; a kernel has no call round it
abbrev pub returned : {V T : Type 0} → List (Task V T) → State V T → State V T
returned [] s = onward [] s
returned (t ∷ ts) s = elim (marker_of t) [
  | Plain ↦ returned ts s
  | TurnEnd ↦ returned ts (turning (under s.turns) s)
  | TurnStart ↦ returned ts (turning (under s.turns) s)
  | BodyEnd ↦ onward ts s
]

-- `break`: out of the innermost loop. Outside every loop of a call, where no accepted program has one, it is a `return`.
abbrev pub left : {V T : Type 0} → List (Task V T) → State V T → State V T
left [] s = onward [] s
left (t ∷ ts) s = elim (marker_of t) [
  | Plain ↦ left ts s
  | TurnEnd ↦ onward ts (turning (under s.turns) s)
  | TurnStart ↦ onward ts (turning (under s.turns) s)
  | BodyEnd ↦ onward ts (holding (0 ∷ s.values) s)
]

-- `continue`: to the end of the turn
abbrev pub continued : {V T : Type 0} → List (Task V T) → State V T → State V T
continued [] s = onward [] s
continued (t ∷ ts) s = elim (marker_of t) [
  | Plain ↦ continued ts s
  | TurnEnd ↦ onward (t ∷ ts) s
  | TurnStart ↦ onward ts (turning (under s.turns) s)
  | BodyEnd ↦ onward ts (holding (0 ∷ s.values) s)
]

-- ---- steps

-- the values of a built-in function in place of its arguments
abbrev pub called : Setting → Builtin → Bool → List ℕ → List ℕ
called at WorkDim unsigned vs = at.dims ∷ vs
called at GlobalId unsigned vs = at.id GlobalId (top vs) ∷ under vs
called at LocalId unsigned vs = at.id LocalId (top vs) ∷ under vs
called at GroupId unsigned vs = at.id GroupId (top vs) ∷ under vs
called at GlobalSize unsigned vs = at.id GlobalSize (top vs) ∷ under vs
called at LocalSize unsigned vs = at.id LocalSize (top vs) ∷ under vs
called at NumGroups unsigned vs = at.id NumGroups (top vs) ∷ under vs
called at GlobalOffset unsigned vs = at.id GlobalOffset (top vs) ∷ under vs
called at Min unsigned vs = least_of unsigned (top (under vs)) (top vs) ∷ under (under vs)
called at Max unsigned vs = greatest_of unsigned (top (under vs)) (top vs) ∷ under (under vs)
called at Clamp unsigned vs = clamped unsigned (top (under (under vs))) (top (under vs)) (top vs) ∷ under (under (under vs))
called at Abs unsigned vs = magnitude unsigned (top vs) ∷ under vs
called at MulHi unsigned vs = high_product unsigned (top (under vs)) (top vs) ∷ under (under vs)

-- A load of element i: a fault where the array has none, else its bytes, extended by the element's type; the values that
-- stay are vs.
abbrev pub load_step : {V T : Type 0} → ℕ → ItemArray → ℕ → Pos → List ℕ → State V T → Step (State V T)
load_step group array i pos vs s =
    if nat_lt i array.count then Ask (LoadAction (element_in group array i) (elem_size array.elem)) (λ answer. holding (fitted array.elem answer ∷ vs) s)
    else Stop (Fault pos)

-- A store of v to element i: a fault where the array has none. An array that may not be changed, to which no accepted
-- program stores, is left as it is.
abbrev pub store_step : {V T : Type 0} → ℕ → ItemArray → ℕ → ℕ → Pos → State V T → Step (State V T)
store_step group array i v pos s =
    if nat_lt i array.count then
    (if array.writable then Ask (StoreAction (element_in group array i) (elem_size array.elem) (low_bytes array.elem v)) (λ answer. s)
    else Go s)
    else Stop (Fault pos)

-- a loop before its test
abbrev pub headed : {V T : Type 0} → Parts V T → Loop V T → Option V → List (Task V T) → List (Task V T)
headed parts loop None ts = Begin loop ∷ ts
headed parts loop (Some test) ts = parts.value test (Decide loop ∷ ts)

-- a turn of a loop
abbrev pub turned : {V T : Type 0} → Parts V T → Loop V T → List (Task V T) → List (Task V T)
turned parts loop ts = parts.body loop.body (Again loop ∷ ts)

-- One small step at a task, where the others are the state's.
abbrev pub task_step : {V T : Type 0} → Parts V T → Setting → Task V T → State V T → Step (State V T)
task_step parts at (Number n) s = Go (holding (n ∷ s.values) s)
task_step parts at (Variable k) s = Go (holding (s.variables k ∷ s.values) s)
task_step parts at (Unary op) s = Go (holding (unary_value op (top s.values) ∷ under s.values) s)
task_step parts at (Binary op unsigned) s = Go (holding (binary_value op unsigned (top (under s.values)) (top s.values) ∷ under (under s.values)) s)
task_step parts at (Fit elem) s = Go (holding (fitted elem (top s.values) ∷ under s.values) s)
task_step parts at (Call which unsigned) s = Go (holding (called at which unsigned s.values) s)
task_step parts at Truth s = Go (holding ((if top s.values == 0 then 0 else 1) ∷ under s.values) s)
task_step parts at (AndThen right) s = Go (if top s.values == 0 then holding (0 ∷ under s.values) s else onward (parts.value right (Truth ∷ s.tasks)) (holding (under s.values) s))
task_step parts at (OrElse right) s = Go (if top s.values == 0 then onward (parts.value right (Truth ∷ s.tasks)) (holding (under s.values) s) else holding (1 ∷ under s.values) s)
task_step parts at (Choose one other) s = Go (onward (if top s.values == 0 then parts.value other s.tasks else parts.value one s.tasks) (holding (under s.values) s))
task_step parts at (Load array pos) s = load_step at.group (at.array array) (top s.values) pos (under s.values) s
task_step parts at (Reread array pos) s = load_step at.group (at.array array) (top s.values) pos (top s.values ∷ under s.values) s
task_step parts at (Store array pos) s = store_step at.group (at.array array) (top (under s.values)) (top s.values) pos (holding (under (under s.values)) s)
task_step parts at (Clear k) s = Go (with_variable k 0 s)
task_step parts at (Assign k elem) s = Go (with_variable k (fitted elem (top s.values)) (holding (under s.values) s))
task_step parts at Discard s = Go (holding (under s.values) s)
task_step parts at (Wait site) s = Ask (Barrier (record { site = site; turns = reverse s.turns })) (λ answer. s)
task_step parts at (Branch one other) s = Go (onward (if top s.values == 0 then optional parts.body other s.tasks else parts.body one s.tasks) (holding (under s.values) s))
task_step parts at (Enter loop) s = Go (turning (0 ∷ s.turns) (onward (headed parts loop loop.test s.tasks) s))
task_step parts at (EnterTurn loop) s = Go (turning (0 ∷ s.turns) (onward (Begin loop ∷ s.tasks) s))
task_step parts at (Decide loop) s = Go (if top s.values == 0 then turning (under s.turns) (holding (under s.values) s) else onward (turned parts loop s.tasks) (holding (under s.values) s))
task_step parts at (Begin loop) s = Go (onward (turned parts loop s.tasks) s)
task_step parts at (Again loop) s = Go (turning (risen s.turns) (onward (parts.body loop.step (headed parts loop loop.test s.tasks)) s))
task_step parts at (Invoke body) s = Go (onward (parts.body body (CallEnd ∷ s.tasks)) s)
task_step parts at CallEnd s = Go (holding (0 ∷ s.values) s)
task_step parts at Break s = Go (left s.tasks s)
task_step parts at Continue s = Go (continued s.tasks s)
task_step parts at Return s = Go (returned s.tasks s)

-- One small step. An item with nothing left to do asks for its end.
abbrev pub step_from : {V T : Type 0} → Parts V T → Setting → List (Task V T) → State V T → Step (State V T)
step_from parts at [] s = Stop End
step_from parts at (t ∷ ts) s = task_step parts at t (onward ts s)

abbrev pub step : {V T : Type 0} → Parts V T → Setting → State V T → Step (State V T)
step parts at s = step_from parts at s.tasks s

-- ---- the cost of a step: how many turns of loops it begins

abbrev pub task_cost : {V T : Type 0} → Task V T → List ℕ → ℕ
task_cost (Begin loop) vs = 1
task_cost (Decide loop) vs = if top vs == 0 then 0 else 1
task_cost t vs = 0

abbrev pub cost_from : {V T : Type 0} → List (Task V T) → List ℕ → ℕ
cost_from [] vs = 0
cost_from (t ∷ ts) vs = task_cost t vs

abbrev pub cost : {V T : Type 0} → State V T → ℕ
cost s = cost_from s.tasks s.values
