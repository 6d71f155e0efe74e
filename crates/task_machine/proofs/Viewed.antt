-- What the machine does with tasks does not look into the expressions and statements that wait.
use Rattle.std.proofs.Common.{◌≡◌, ℕ, List, [], ◌∷◌, Option, None, Some, Result, Ok, Err, OnOk, refl, ap, sym, ◌∙◌}
use Rattle.vx_base.specs.declared.types.Elem.{Elem}
use Rattle.item_settings.specs.Settings.{Setting}
use Rattle.task_machine.specs.declared.tasks.Marker.{Marker}
use Rattle.task_machine.specs.declared.tasks.Marker.TheVariants.{Plain, TurnEnd, TurnStart, BodyEnd}
use Rattle.task_machine.specs.declared.tasks.Task.{Task}
use Rattle.task_machine.specs.declared.tasks.Task.TheVariants.{Number, Variable, Unary, Binary, Fit, Call, Truth, AndThen, OrElse, Choose, Load, Reread, Store, Clear, Assign, Discard, Wait, Branch, Enter, EnterTurn, Decide, Begin, Again, Invoke, CallEnd, Break, Continue, Return}
use Rattle.step_machine.specs.Stacks.{under}
use Rattle.task_machine.specs.Tasks.{State, marker_of, left, continued, returned, turning}
use Rattle.task_machine.specs.Views.{assigned, computed, state_by, task_by, tasks_by, told_value}
use Rattle.task_machine.proofs.JumpLaws.{left_by, continued_by, returned_by}

-- what follows where a call is done
pub on_done : {A E P Q : Type 0} (r : Result A E) → (P → Q) → OnOk r P → OnOk r Q
on_done (Ok x) f h = f h
on_done (Err x) f h = h

module _ {V T V' T' : Type 0} where
  pub computed_viewed : (f : V → V') (g : T → T') (at : Setting) (t : Task V T) (s : State V T) → computed at (task_by f g t) (state_by f g s) ≡ state_by f g (computed at t s)
  computed_viewed f g at (Number n) s = refl
  computed_viewed f g at (Variable k) s = refl
  computed_viewed f g at (Unary op) s = refl
  computed_viewed f g at (Binary op unsigned) s = refl
  computed_viewed f g at (Fit elem) s = refl
  computed_viewed f g at (Call which unsigned) s = refl
  computed_viewed f g at Truth s = refl
  computed_viewed f g at (AndThen right) s = refl
  computed_viewed f g at (OrElse right) s = refl
  computed_viewed f g at (Choose one other) s = refl
  computed_viewed f g at (Load array pos) s = refl
  computed_viewed f g at (Reread array pos) s = refl
  computed_viewed f g at (Store array pos) s = refl
  computed_viewed f g at (Clear k) s = refl
  computed_viewed f g at (Assign k elem) s = refl
  computed_viewed f g at Discard s = refl
  computed_viewed f g at (Wait site) s = refl
  computed_viewed f g at (Branch one other) s = refl
  computed_viewed f g at (Enter loop) s = refl
  computed_viewed f g at (EnterTurn loop) s = refl
  computed_viewed f g at (Decide loop) s = refl
  computed_viewed f g at (Begin loop) s = refl
  computed_viewed f g at (Again loop) s = refl
  computed_viewed f g at (Invoke body) s = refl
  computed_viewed f g at CallEnd s = refl
  computed_viewed f g at Break s = refl
  computed_viewed f g at Continue s = refl
  computed_viewed f g at Return s = refl

  pub assigned_viewed : (f : V → V') (g : T → T') (t : Task V T) (s : State V T) → assigned (task_by f g t) (state_by f g s) ≡ state_by f g (assigned t s)
  assigned_viewed f g (Number n) s = refl
  assigned_viewed f g (Variable k) s = refl
  assigned_viewed f g (Unary op) s = refl
  assigned_viewed f g (Binary op unsigned) s = refl
  assigned_viewed f g (Fit elem) s = refl
  assigned_viewed f g (Call which unsigned) s = refl
  assigned_viewed f g Truth s = refl
  assigned_viewed f g (AndThen right) s = refl
  assigned_viewed f g (OrElse right) s = refl
  assigned_viewed f g (Choose one other) s = refl
  assigned_viewed f g (Load array pos) s = refl
  assigned_viewed f g (Reread array pos) s = refl
  assigned_viewed f g (Store array pos) s = refl
  assigned_viewed f g (Clear k) s = refl
  assigned_viewed f g (Assign k elem) s = refl
  assigned_viewed f g Discard s = refl
  assigned_viewed f g (Wait site) s = refl
  assigned_viewed f g (Branch one other) s = refl
  assigned_viewed f g (Enter loop) s = refl
  assigned_viewed f g (EnterTurn loop) s = refl
  assigned_viewed f g (Decide loop) s = refl
  assigned_viewed f g (Begin loop) s = refl
  assigned_viewed f g (Again loop) s = refl
  assigned_viewed f g (Invoke body) s = refl
  assigned_viewed f g CallEnd s = refl
  assigned_viewed f g Break s = refl
  assigned_viewed f g Continue s = refl
  assigned_viewed f g Return s = refl

  pub told_viewed : (f : V → V') (g : T → T') (kept : Option Elem) (answer : ℕ) (s : State V T) → told_value kept answer (state_by f g s) ≡ state_by f g (told_value kept answer s)
  told_viewed f g None answer s = refl
  told_viewed f g (Some elem) answer s = refl

  -- the same of a state behind an answer
  pub told_so : {A E : Type 0} (r : Result A E) (f : V → V') (g : T → T') (kept : Option Elem) (answer : ℕ) (s s' : State V T)
      → OnOk r (s' ≡ told_value kept answer s) → OnOk r (state_by f g s' ≡ told_value kept answer (state_by f g s))
  told_so r f g kept answer s s' h = on_done r (λ e. ap (state_by f g) e ∙ sym (told_viewed f g kept answer s)) h

  pub marker_viewed : (f : V → V') (g : T → T') (t : Task V T) → marker_of (task_by f g t) ≡ marker_of t
  marker_viewed f g (Number n) = refl
  marker_viewed f g (Variable k) = refl
  marker_viewed f g (Unary op) = refl
  marker_viewed f g (Binary op unsigned) = refl
  marker_viewed f g (Fit elem) = refl
  marker_viewed f g (Call which unsigned) = refl
  marker_viewed f g Truth = refl
  marker_viewed f g (AndThen right) = refl
  marker_viewed f g (OrElse right) = refl
  marker_viewed f g (Choose one other) = refl
  marker_viewed f g (Load array pos) = refl
  marker_viewed f g (Reread array pos) = refl
  marker_viewed f g (Store array pos) = refl
  marker_viewed f g (Clear k) = refl
  marker_viewed f g (Assign k elem) = refl
  marker_viewed f g Discard = refl
  marker_viewed f g (Wait site) = refl
  marker_viewed f g (Branch one other) = refl
  marker_viewed f g (Enter loop) = refl
  marker_viewed f g (EnterTurn loop) = refl
  marker_viewed f g (Decide loop) = refl
  marker_viewed f g (Begin loop) = refl
  marker_viewed f g (Again loop) = refl
  marker_viewed f g (Invoke body) = refl
  marker_viewed f g CallEnd = refl
  marker_viewed f g Break = refl
  marker_viewed f g Continue = refl
  marker_viewed f g Return = refl

  left_step : (f : V → V') (g : T → T') (m : Marker) (ts : List (Task V T)) (s : State V T) → left (tasks_by f g ts) (state_by f g s) ≡ state_by f g (left ts s)
      → left_by (tasks_by f g ts) (state_by f g s) m ≡ state_by f g (left_by ts s m)
  left_step f g Plain ts s h = h
  left_step f g TurnEnd ts s h = refl
  left_step f g TurnStart ts s h = refl
  left_step f g BodyEnd ts s h = refl

  pub left_viewed : (f : V → V') (g : T → T') (ts : List (Task V T)) (s : State V T) → left (tasks_by f g ts) (state_by f g s) ≡ state_by f g (left ts s)
  left_viewed f g [] s = refl
  left_viewed f g (t ∷ ts) s = ap (left_by (tasks_by f g ts) (state_by f g s)) (marker_viewed f g t) ∙ left_step f g (marker_of t) ts s (left_viewed f g ts s)

  continued_step : (f : V → V') (g : T → T') (m : Marker) (t : Task V T) (ts : List (Task V T)) (s : State V T) → continued (tasks_by f g ts) (state_by f g s) ≡ state_by f g (continued ts s)
      → continued_by (task_by f g t) (tasks_by f g ts) (state_by f g s) m ≡ state_by f g (continued_by t ts s m)
  continued_step f g Plain t ts s h = h
  continued_step f g TurnEnd t ts s h = refl
  continued_step f g TurnStart t ts s h = refl
  continued_step f g BodyEnd t ts s h = refl

  pub continued_viewed : (f : V → V') (g : T → T') (ts : List (Task V T)) (s : State V T) → continued (tasks_by f g ts) (state_by f g s) ≡ state_by f g (continued ts s)
  continued_viewed f g [] s = refl
  continued_viewed f g (t ∷ ts) s =
      ap (continued_by (task_by f g t) (tasks_by f g ts) (state_by f g s)) (marker_viewed f g t) ∙ continued_step f g (marker_of t) t ts s (continued_viewed f g ts s)

  returned_step : (f : V → V') (g : T → T') (m : Marker) (ts : List (Task V T)) (s : State V T) → ((s : State V T) → returned (tasks_by f g ts) (state_by f g s) ≡ state_by f g (returned ts s))
      → returned_by (tasks_by f g ts) (state_by f g s) m ≡ state_by f g (returned_by ts s m)
  returned_step f g Plain ts s h = h s
  returned_step f g TurnEnd ts s h = h (turning (under s.turns) s)
  returned_step f g TurnStart ts s h = h (turning (under s.turns) s)
  returned_step f g BodyEnd ts s h = refl

  pub returned_viewed : (f : V → V') (g : T → T') (ts : List (Task V T)) (s : State V T) → returned (tasks_by f g ts) (state_by f g s) ≡ state_by f g (returned ts s)
  returned_viewed f g [] s = refl
  returned_viewed f g (t ∷ ts) s =
      ap (returned_by (tasks_by f g ts) (state_by f g s)) (marker_viewed f g t) ∙ returned_step f g (marker_of t) ts s (returned_viewed f g ts)
