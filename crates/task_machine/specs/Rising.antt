-- Numbers of turns rise by at most one in a step, so that they stay below the number of steps made.
use Rattle.std.specs.Prelude.{ℕ, suc, ◌==◌, nat_lt, Bool, true, false, if◌then◌else◌, List, [], ◌∷◌, Option, None, Some}
use Rattle.vx_base.specs.Values.{fitted}
use Rattle.vx_base.specs.declared.types.Pos.{Pos}
use Rattle.item_acts.specs.declared.acts.Action.{Action}
use Rattle.item_acts.specs.declared.acts.Action.TheVariants.{Load as LoadAction, Store as StoreAction, Fault}
use Rattle.item_acts.specs.Machine.{Step, Go, Ask, Stop}
use Rattle.ocl_program.specs.declared.exprs.ArrayRef.{ArrayRef}
use Rattle.item_settings.specs.Settings.{Setting, elem_size, element_in, low_bytes}
use Rattle.step_machine.specs.Stacks.{top, under}
use Rattle.step_machine.specs.Turns.{BehindBelow, EachBelow}
use Rattle.step_machine.proofs.TurnLaws.{below_entered, below_left, below_next, below_risen}
use Rattle.task_machine.specs.declared.tasks.Marker.{Marker}
use Rattle.task_machine.specs.declared.tasks.Marker.TheVariants.{Plain, TurnEnd, TurnStart, BodyEnd}
use Rattle.task_machine.specs.declared.tasks.Task.{Task}
use Rattle.task_machine.specs.declared.tasks.Task.TheVariants.{Number, Variable, Unary, Binary, Fit, Call, Truth, AndThen, OrElse, Choose, Load, Reread, Store, Clear, Assign, Discard, Wait, Branch, Enter, EnterTurn, Decide, Begin, Again, Invoke, CallEnd, Break, Continue, Return}
use Rattle.task_machine.specs.Tasks.{Parts, State, continued, holding, left, load_step, marker_of, onward, returned, step, step_from, store_step, task_step, turned, turning}

-- the numbers of turns of a state
abbrev turns_in : {V T : Type 0} → State V T → List ℕ
turns_in s = s.turns

-- ---- jumps, by what a task is for them

abbrev returned_by : {V T : Type 0} → List (Task V T) → State V T → Marker → State V T
returned_by ts s m = elim m [
  | Plain ↦ returned ts s
  | TurnEnd ↦ returned ts (turning (under s.turns) s)
  | TurnStart ↦ returned ts (turning (under s.turns) s)
  | BodyEnd ↦ onward ts s
]

abbrev left_by : {V T : Type 0} → List (Task V T) → State V T → Marker → State V T
left_by ts s m = elim m [
  | Plain ↦ left ts s
  | TurnEnd ↦ onward ts (turning (under s.turns) s)
  | TurnStart ↦ onward ts (turning (under s.turns) s)
  | BodyEnd ↦ onward ts (holding (0 ∷ s.values) s)
]

abbrev continued_by : {V T : Type 0} → Task V T → List (Task V T) → State V T → Marker → State V T
continued_by t ts s m = elim m [
  | Plain ↦ continued ts s
  | TurnEnd ↦ onward (t ∷ ts) s
  | TurnStart ↦ onward ts (turning (under s.turns) s)
  | BodyEnd ↦ onward ts (holding (0 ∷ s.values) s)
]

module _ {V T : Type 0} where
  returned_at : (k : ℕ) (m : Marker) (ts : List (Task V T)) (s : State V T) → ((s : State V T) → EachBelow k s.turns → EachBelow k (returned ts s).turns) → EachBelow k s.turns
      → EachBelow k (returned_by ts s m).turns
  returned_at k Plain ts s more low = more s low
  returned_at k TurnEnd ts s more low = more (turning (under s.turns) s) (below_left k s.turns low)
  returned_at k TurnStart ts s more low = more (turning (under s.turns) s) (below_left k s.turns low)
  returned_at k BodyEnd ts s more low = low

  returned_keeps : (k : ℕ) (ts : List (Task V T)) (s : State V T) → EachBelow k s.turns → EachBelow k (returned ts s).turns
  returned_keeps k [] s low = low
  returned_keeps k (t ∷ ts) s low = returned_at k (marker_of t) ts s (returned_keeps k ts) low

  left_at : (k : ℕ) (m : Marker) (ts : List (Task V T)) (s : State V T) → EachBelow k (left ts s).turns → EachBelow k s.turns → EachBelow k (left_by ts s m).turns
  left_at k Plain ts s more low = more
  left_at k TurnEnd ts s more low = below_left k s.turns low
  left_at k TurnStart ts s more low = below_left k s.turns low
  left_at k BodyEnd ts s more low = low

  left_keeps : (k : ℕ) (ts : List (Task V T)) (s : State V T) → EachBelow k s.turns → EachBelow k (left ts s).turns
  left_keeps k [] s low = low
  left_keeps k (t ∷ ts) s low = left_at k (marker_of t) ts s (left_keeps k ts s low) low

  continued_at : (k : ℕ) (m : Marker) (t : Task V T) (ts : List (Task V T)) (s : State V T) → EachBelow k (continued ts s).turns → EachBelow k s.turns
      → EachBelow k (continued_by t ts s m).turns
  continued_at k Plain t ts s more low = more
  continued_at k TurnEnd t ts s more low = low
  continued_at k TurnStart t ts s more low = below_left k s.turns low
  continued_at k BodyEnd t ts s more low = low

  continued_keeps : (k : ℕ) (ts : List (Task V T)) (s : State V T) → EachBelow k s.turns → EachBelow k (continued ts s).turns
  continued_keeps k [] s low = low
  continued_keeps k (t ∷ ts) s low = continued_at k (marker_of t) t ts s (continued_keeps k ts s low) low

  -- ---- choices and accesses

  chosen_keeps : (k : ℕ) (b : Bool) (one other : State V T) → EachBelow k one.turns → EachBelow k other.turns → EachBelow k (if b then one else other).turns
  chosen_keeps k true one other low low' = low
  chosen_keeps k false one other low low' = low'

  access_keeps : (k : ℕ) (b : Bool) (found : Step (State V T)) (pos : Pos) → BehindBelow turns_in k found → BehindBelow turns_in k (if b then found else Stop (Fault pos))
  access_keeps k true found pos low = low
  access_keeps k false found pos low = tt

  write_keeps : (k : ℕ) (b : Bool) (action : Action) (s : State V T) → EachBelow k s.turns → BehindBelow turns_in k (if b then Ask action (λ answer. s) else Go s)
  write_keeps k true action s low = λ answer. low
  write_keeps k false action s low = low

  load_keeps : (k : ℕ) (at : Setting) (array : ArrayRef) (i : ℕ) (pos : Pos) (vs : List ℕ) (s : State V T) → EachBelow k s.turns
      → BehindBelow turns_in k (load_step at.group (at.array array) i pos vs s)
  load_keeps k at array i pos vs s low =
      access_keeps k (nat_lt i (at.array array).count) (Ask (LoadAction (element_in at.group (at.array array) i) (elem_size (at.array array).elem)) (λ answer. holding (fitted (at.array array).elem answer ∷ vs) s)) pos (λ answer. low)

  store_keeps : (k : ℕ) (at : Setting) (array : ArrayRef) (i v : ℕ) (pos : Pos) (s : State V T) → EachBelow k s.turns
      → BehindBelow turns_in k (store_step at.group (at.array array) i v pos s)
  store_keeps k at array i v pos s low =
      let action = StoreAction (element_in at.group (at.array array) i) (elem_size (at.array array).elem) (low_bytes (at.array array).elem v) in
      access_keeps k (nat_lt i (at.array array).count) (if (at.array array).writable then Ask action (λ answer. s) else Go s) pos (write_keeps k (at.array array).writable action s low)

  -- ---- steps

  task_rises : (parts : Parts V T) (at : Setting) (t : Task V T) (s : State V T) (k : ℕ) → EachBelow k s.turns → BehindBelow turns_in (suc k) (task_step parts at t s)
  task_rises parts at (Number n) s k low = below_next k s.turns low
  task_rises parts at (Variable x) s k low = below_next k s.turns low
  task_rises parts at (Unary op) s k low = below_next k s.turns low
  task_rises parts at (Binary op unsigned) s k low = below_next k s.turns low
  task_rises parts at (Fit elem) s k low = below_next k s.turns low
  task_rises parts at (Call which unsigned) s k low = below_next k s.turns low
  task_rises parts at Truth s k low = below_next k s.turns low
  task_rises parts at (AndThen right) s k low = chosen_keeps (suc k) (top s.values == 0) _ _ (below_next k s.turns low) (below_next k s.turns low)
  task_rises parts at (OrElse right) s k low = chosen_keeps (suc k) (top s.values == 0) _ _ (below_next k s.turns low) (below_next k s.turns low)
  task_rises parts at (Choose one other) s k low = below_next k s.turns low
  task_rises parts at (Load array pos) s k low = load_keeps (suc k) at array (top s.values) pos (under s.values) s (below_next k s.turns low)
  task_rises parts at (Reread array pos) s k low = load_keeps (suc k) at array (top s.values) pos (top s.values ∷ under s.values) s (below_next k s.turns low)
  task_rises parts at (Store array pos) s k low = store_keeps (suc k) at array (top (under s.values)) (top s.values) pos (holding (under (under s.values)) s) (below_next k s.turns low)
  task_rises parts at (Clear x) s k low = below_next k s.turns low
  task_rises parts at (Assign x elem) s k low = below_next k s.turns low
  task_rises parts at Discard s k low = below_next k s.turns low
  task_rises parts at (Wait site) s k low = λ answer. below_next k s.turns low
  task_rises parts at (Branch one other) s k low = below_next k s.turns low
  task_rises parts at (Enter loop) s k low = below_entered k s.turns low
  task_rises parts at (EnterTurn loop) s k low = below_entered k s.turns low
  task_rises parts at (Decide loop) s k low =
      chosen_keeps (suc k) (top s.values == 0) (turning (under s.turns) (holding (under s.values) s)) (onward (turned parts loop s.tasks) (holding (under s.values) s))
      (below_left (suc k) s.turns (below_next k s.turns low)) (below_next k s.turns low)
  task_rises parts at (Begin loop) s k low = below_next k s.turns low
  task_rises parts at (Again loop) s k low = below_risen k s.turns low
  task_rises parts at (Invoke body) s k low = below_next k s.turns low
  task_rises parts at CallEnd s k low = below_next k s.turns low
  task_rises parts at Break s k low = left_keeps (suc k) s.tasks s (below_next k s.turns low)
  task_rises parts at Continue s k low = continued_keeps (suc k) s.tasks s (below_next k s.turns low)
  task_rises parts at Return s k low = returned_keeps (suc k) s.tasks s (below_next k s.turns low)

  from_rises : (parts : Parts V T) (at : Setting) (ts : List (Task V T)) (s : State V T) (k : ℕ) → EachBelow k s.turns → BehindBelow turns_in (suc k) (step_from parts at ts s)
  from_rises parts at [] s k low = tt
  from_rises parts at (t ∷ ts) s k low = task_rises parts at t (onward ts s) k low

  -- what is below k is below k + 1 behind a step
  pub step_rises : (parts : Parts V T) (at : Setting) (s : State V T) (k : ℕ) → EachBelow k s.turns → BehindBelow (λ (s : State V T). s.turns) (suc k) (step parts at s)
  step_rises parts at s k low = from_rises parts at s.tasks s k low
