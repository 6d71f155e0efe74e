-- Which state of the machine the code's state is.
use Rattle.std.specs.Prelude.{◌≡◌, ℕ, ◌==◌, if◌then◌else◌, slice_index, List, [], ◌∷◌, Option, None, Some}
use Rattle.vx_base.specs.Values.{alu_value_of, fitted}
use Rattle.item_acts.specs.Launches.{put_at}
use Rattle.item_acts.specs.Machine.{Step, Go}
use Rattle.item_settings.specs.Settings.{Setting}
use Rattle.step_machine.specs.Stacks.{under}
use Rattle.kir.specs.declared.states.Target.{Target}
use Rattle.kir.specs.declared.states.State.{State as HeldState}
use Rattle.kir.specs.declared.tasks.Task.{Task as HeldTask}
use Rattle.kir.specs.declared.tasks.Task.TheVariants as held
use Rattle.kir.specs.declared.tasks.Turning.{Turning as HeldTurning}
use Rattle.kir.specs.Machine as machine
use Rattle.kir.specs.Machine.{State, Task, Turning, state, value}
use Rattle.kir.specs.Shapes.{op_of, operand_of, ops_of}
use Rattle.kir.specs.Trees.{Op, Set, Calculate, Fit, Id, Load, Store, Check, If, Loop, Break, Continue, Return, Call, Ops}

-- a loop
abbrev pub turning_of : HeldTurning → Turning
turning_of loop = record { head = ops_of loop.head.now; test = operand_of loop.test; body = ops_of loop.body.now; step = ops_of loop.step.now }

-- a task, and tasks in order
abbrev pub task_of : HeldTask → Task
task_of (held.Do op) = machine.Do (op_of op.now)
task_of (held.Decide loop) = machine.Decide (turning_of loop)
task_of (held.Again loop) = machine.Again (turning_of loop)
task_of held.CallEnd = machine.CallEnd

abbrev pub tasks_of : List HeldTask → List Task
tasks_of [] = []
tasks_of (t ∷ ts) = task_of t ∷ tasks_of ts

-- ---- states

abbrev pub variables_of : HeldState → ℕ → ℕ
variables_of s = slice_index s.variables.items.items

abbrev pub state_of : HeldState → State
state_of s = state (tasks_of s.tasks) (variables_of s) s.turns

-- the state behind an answer that becomes the value of a variable
abbrev pub told_variable : Target → ℕ → State → State
told_variable target answer s = state s.tasks (put_at target.variable (fitted target.elem answer) s.variables) s.turns

-- the state behind an answer that becomes the value of a variable, or nothing
abbrev pub told_value : Option Target → ℕ → State → State
told_value None answer s = s
told_value (Some target) answer s = told_variable target answer s

-- ---- jumps

-- a task of a loop or a call
abbrev pub IsMarker : Task → Type 0
IsMarker (machine.Do op) = ⊥
IsMarker (machine.Decide loop) = Unit {0}
IsMarker (machine.Again loop) = Unit {0}
IsMarker machine.CallEnd = Unit {0}

-- jumps out of a loop, or to the end of its body, do not look at the tasks before these
pub record SkipsTo (before after : List Task) : Type 0 where
  pub broken : (vs : ℕ → ℕ) (ns : List ℕ) → machine.broken before vs ns ≡ machine.broken after vs ns
  pub continued : (vs : ℕ → ℕ) (ns : List ℕ) → machine.continued before vs ns ≡ machine.continued after vs ns

-- a `Return` over these tasks is one over those, with these turns left
abbrev pub ReturnsTo : List Task → List ℕ → List Task → List ℕ → Type 0
ReturnsTo before turns after turns' = (vs : ℕ → ℕ) → machine.returned before vs turns ≡ machine.returned after vs turns'

-- a `Return` over these tasks ends here
abbrev pub ReturnsAt : List Task → List ℕ → List Task → List ℕ → Type 0
ReturnsAt before turns after turns' = (vs : ℕ → ℕ) → machine.returned before vs turns ≡ state after vs turns'

-- ---- operations by what they do; what is of another kind leaves all as it was

-- the variables behind an operation that computes
abbrev pub computed : Setting → Op → (ℕ → ℕ) → ℕ → ℕ
computed at (Set d a) vs = put_at d (value vs a) vs
computed at (Calculate d op a b) vs = put_at d (alu_value_of op (value vs a) (value vs b)) vs
computed at (Fit d elem a) vs = put_at d (fitted elem (value vs a)) vs
computed at (Id d which a) vs = put_at d (machine.known_of at which (value vs a)) vs
computed at other vs = vs

-- a branch is chosen, and a loop is entered
abbrev pub chosen : ℕ → Ops → Ops → List Task → (ℕ → ℕ) → List ℕ → State
chosen test one other ts vs ns = state (if test == 0 then machine.ops_tasks other ts else machine.ops_tasks one ts) vs ns

abbrev pub looped : Turning → List Task → (ℕ → ℕ) → List ℕ → State
looped loop ts vs ns = state (machine.head_tasks loop ts) vs (machine.entered ns)

-- the state behind an operation that holds others
abbrev pub opened : Op → List Task → (ℕ → ℕ) → List ℕ → State
opened (If test one other) ts vs ns = chosen (value vs test) one other ts vs ns
opened (Loop head test body step) ts vs ns = looped (record { head = head; test = test; body = body; step = step }) ts vs ns
opened (Call body) ts vs ns = state (machine.ops_tasks body (machine.CallEnd ∷ ts)) vs ns
opened other ts vs ns = state ts vs ns

-- the state behind a jump
abbrev pub jumped : Op → List Task → (ℕ → ℕ) → List ℕ → State
jumped Break ts vs ns = machine.broken ts vs ns
jumped Continue ts vs ns = machine.continued ts vs ns
jumped Return ts vs ns = machine.returned ts vs ns
jumped other ts vs ns = state ts vs ns

-- the state behind the test of a loop
abbrev pub decided : Turning → List Task → (ℕ → ℕ) → List ℕ → State
decided loop ts vs ns = if value vs loop.test == 0 then state ts vs (under ns) else state (machine.turn_tasks loop ts) vs ns

-- what an operation on an array finds
abbrev pub accessed : Setting → Op → State → Step State
accessed at (Load d array elem a) s = machine.op_step at (Load d array elem a) s.tasks s.variables s.turns
accessed at (Store array elem a b) s = machine.op_step at (Store array elem a b) s.tasks s.variables s.turns
accessed at (Check array a pos) s = machine.op_step at (Check array a pos) s.tasks s.variables s.turns
accessed at other s = Go s
