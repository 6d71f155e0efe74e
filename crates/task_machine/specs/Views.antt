-- Which state of the machine the code's state is, and what a step of the code found.
use Rattle.std.specs.Prelude.{◌≡◌, ℕ, nat_lt, ◌==◌, map, option_map, slice_index, if◌then◌else◌, List, [], ◌∷◌, Option, None, Some}
use Rattle.vx_base.specs.Values.{fitted}
use Rattle.vx_base.specs.declared.types.Elem.{Elem}
use Rattle.vx_base.specs.declared.types.Pos.{Pos}
use Rattle.item_acts.specs.declared.acts.Action.TheVariants.{Load as LoadAction, Store as StoreAction, Fault}
use Rattle.ocl_program.specs.declared.exprs.ArrayRef.{ArrayRef}
use Rattle.ocl_program.specs.Values.{binary_value, unary_value}
use Rattle.item_settings.specs.Settings.{Setting, elem_size, element_in, low_bytes}
use Rattle.step_machine.specs.declared.steps.Found.{Found}
use Rattle.step_machine.specs.declared.steps.Found.TheVariants.{Moved, Asks, Stops}
use Rattle.step_machine.specs.Stacks.{top, under}
use Rattle.step_machine.specs.Turns.{risen}
use Rattle.task_machine.specs.declared.states.State.{State as HeldState}
use Rattle.task_machine.specs.Loops.{Loop}
use Rattle.task_machine.specs.declared.tasks.Task.{Task}
use Rattle.task_machine.specs.declared.tasks.Task.TheVariants.{Number, Variable, Unary, Binary, Fit, Call, Truth, AndThen, OrElse, Choose, Load, Reread, Store, Clear, Assign, Discard, Wait, Branch, Enter, EnterTurn, Decide, Begin, Again, Invoke, CallEnd, Break, Continue, Return}
use Rattle.task_machine.specs.Tasks as machine
use Rattle.task_machine.specs.Tasks.{Parts, State, called, headed, holding, onward, optional, turned, turning, with_variable}

-- ---- states

abbrev pub loop_by : {V T V' T' : Type 0} → (V → V') → (T → T') → Loop V T → Loop V' T'
loop_by f g l = record { test = option_map f l.test; step = g l.step; body = g l.body }

-- a task whose expressions and statements stand for others
abbrev pub task_by : {V T V' T' : Type 0} → (V → V') → (T → T') → Task V T → Task V' T'
task_by f g (Number n) = Number n
task_by f g (Variable k) = Variable k
task_by f g (Unary op) = Unary op
task_by f g (Binary op unsigned) = Binary op unsigned
task_by f g (Fit elem) = Fit elem
task_by f g (Call which unsigned) = Call which unsigned
task_by f g Truth = Truth
task_by f g (AndThen right) = AndThen (f right)
task_by f g (OrElse right) = OrElse (f right)
task_by f g (Choose one other) = Choose (f one) (f other)
task_by f g (Load array pos) = Load array pos
task_by f g (Reread array pos) = Reread array pos
task_by f g (Store array pos) = Store array pos
task_by f g (Clear k) = Clear k
task_by f g (Assign k elem) = Assign k elem
task_by f g Discard = Discard
task_by f g (Wait site) = Wait site
task_by f g (Branch one other) = Branch (g one) (option_map g other)
task_by f g (Enter loop) = Enter (loop_by f g loop)
task_by f g (EnterTurn loop) = EnterTurn (loop_by f g loop)
task_by f g (Decide loop) = Decide (loop_by f g loop)
task_by f g (Begin loop) = Begin (loop_by f g loop)
task_by f g (Again loop) = Again (loop_by f g loop)
task_by f g (Invoke body) = Invoke (g body)
task_by f g CallEnd = CallEnd
task_by f g Break = Break
task_by f g Continue = Continue
task_by f g Return = Return

abbrev pub tasks_by : {V T V' T' : Type 0} → (V → V') → (T → T') → List (Task V T) → List (Task V' T')
tasks_by f g ts = map (task_by f g) ts

abbrev pub state_by : {V T V' T' : Type 0} → (V → V') → (T → T') → State V T → State V' T'
state_by f g s = record { tasks = tasks_by f g s.tasks; values = s.values; variables = s.variables; turns = s.turns }

-- the state of the code as it stands, and by what its expressions and statements stand for
abbrev pub plain : {V T : Type 0} → HeldState V T → State V T
plain s = record { tasks = s.tasks; values = s.values; variables = slice_index s.variables.items.items; turns = s.turns }

abbrev pub state_of : {V T V' T' : Type 0} → (V → V') → (T → T') → HeldState V T → State V' T'
state_of f g s = state_by f g (plain s)

-- an answer that becomes a value of this type, or nothing
abbrev pub told_value : {V T : Type 0} → Option Elem → ℕ → State V T → State V T
told_value None answer s = s
told_value (Some elem) answer s = holding (fitted elem answer ∷ s.values) s

-- what a load of element i finds, and a store to it
abbrev pub found_load : Setting → ArrayRef → ℕ → Pos → Found (Option Elem)
found_load at array i pos =
    if nat_lt i (at.array array).count then Asks (LoadAction (element_in at.group (at.array array) i) (elem_size (at.array array).elem)) (Some (at.array array).elem)
    else Stops (Fault pos)

abbrev pub found_store : Setting → ArrayRef → ℕ → ℕ → Pos → Found (Option Elem)
found_store at array i v pos =
    if nat_lt i (at.array array).count then
    (if (at.array array).writable then Asks (StoreAction (element_in at.group (at.array array) i) (elem_size (at.array array).elem) (low_bytes (at.array array).elem v)) None
    else Moved)
    else Stops (Fault pos)

-- ---- tasks by what they do; a task of another kind leaves all as it was

-- the state behind a task that computes
abbrev pub computed : {V T : Type 0} → Setting → Task V T → State V T → State V T
computed at (Number n) s = holding (n ∷ s.values) s
computed at (Variable k) s = holding (s.variables k ∷ s.values) s
computed at (Unary op) s = holding (unary_value op (top s.values) ∷ under s.values) s
computed at (Binary op unsigned) s = holding (binary_value op unsigned (top (under s.values)) (top s.values) ∷ under (under s.values)) s
computed at (Fit elem) s = holding (fitted elem (top s.values) ∷ under s.values) s
computed at (Call which unsigned) s = holding (called at which unsigned s.values) s
computed at Truth s = holding ((if top s.values == 0 then 0 else 1) ∷ under s.values) s
computed at other s = s

-- the state behind a task that uses a value up
abbrev pub assigned : {V T : Type 0} → Task V T → State V T → State V T
assigned (Clear k) s = with_variable k 0 s
assigned (Assign k elem) s = with_variable k (fitted elem (top s.values)) (holding (under s.values) s)
assigned Discard s = holding (under s.values) s
assigned other s = s

-- the state behind a choice
abbrev pub chosen : {V T : Type 0} → Parts V T → Task V T → State V T → State V T
chosen parts (AndThen right) s = if top s.values == 0 then holding (0 ∷ under s.values) s else onward (parts.value right (Truth ∷ s.tasks)) (holding (under s.values) s)
chosen parts (OrElse right) s = if top s.values == 0 then onward (parts.value right (Truth ∷ s.tasks)) (holding (under s.values) s) else holding (1 ∷ under s.values) s
chosen parts (Choose one other) s = onward (if top s.values == 0 then parts.value other s.tasks else parts.value one s.tasks) (holding (under s.values) s)
chosen parts (Branch one other) s = onward (if top s.values == 0 then optional parts.body other s.tasks else parts.body one s.tasks) (holding (under s.values) s)
chosen parts other s = s

-- the state behind a turn that begins by the value on top
abbrev pub decided : {V T : Type 0} → Parts V T → Loop V T → State V T → State V T
decided parts loop s = if top s.values == 0 then turning (under s.turns) (holding (under s.values) s) else onward (turned parts loop s.tasks) (holding (under s.values) s)

-- the state behind a task of a loop
abbrev pub looped : {V T : Type 0} → Parts V T → Task V T → State V T → State V T
looped parts (Enter loop) s = turning (0 ∷ s.turns) (onward (headed parts loop loop.test s.tasks) s)
looped parts (EnterTurn loop) s = turning (0 ∷ s.turns) (onward (Begin loop ∷ s.tasks) s)
looped parts (Decide loop) s = decided parts loop s
looped parts (Begin loop) s = onward (turned parts loop s.tasks) s
looped parts (Again loop) s = turning (risen s.turns) (onward (parts.body loop.step (headed parts loop loop.test s.tasks)) s)
looped parts other s = s

-- the state behind a call, its end, or a jump
abbrev pub jumped : {V T : Type 0} → Parts V T → Task V T → State V T → State V T
jumped parts (Invoke body) s = onward (parts.body body (CallEnd ∷ s.tasks)) s
jumped parts CallEnd s = holding (0 ∷ s.values) s
jumped parts Break s = machine.left s.tasks s
jumped parts Continue s = machine.continued s.tasks s
jumped parts Return s = machine.returned s.tasks s
jumped parts other s = s

-- ---- jumps

-- jumps out of a loop, or to the end of its turn, do not look at the tasks before these
pub record SkipsTo {V T : Type 0} (before after : List (Task V T)) : Type 0 where
  pub left : (s : State V T) → machine.left before s ≡ machine.left after s
  pub continued : (s : State V T) → machine.continued before s ≡ machine.continued after s

-- a `return` over these tasks is one over those, with these turns left
abbrev pub ReturnsTo : {V T : Type 0} → List (Task V T) → List ℕ → List (Task V T) → List ℕ → Type 0
ReturnsTo {V = V} {T = T} before turns after turns' = (s : State V T) → machine.returned before (machine.turning turns s) ≡ machine.returned after (machine.turning turns' s)

-- a `return` over these tasks ends here
abbrev pub ReturnsAt : {V T : Type 0} → List (Task V T) → List ℕ → List (Task V T) → List ℕ → Type 0
ReturnsAt {V = V} {T = T} before turns after turns' = (s : State V T) → machine.returned before (machine.turning turns s) ≡ machine.onward after (machine.turning turns' s)
