-- Jumps over tasks.
use Rattle.std.proofs.Common.{◌≡◌, ℕ, List, ◌∷◌, refl, ap, ◌∙◌}
use Rattle.task_machine.specs.declared.tasks.Marker.{Marker}
use Rattle.task_machine.specs.declared.tasks.Marker.TheVariants.{Plain, TurnEnd, TurnStart, BodyEnd}
use Rattle.task_machine.specs.declared.tasks.Task.{Task}
use Rattle.step_machine.specs.Stacks.{under}
use Rattle.task_machine.specs.Tasks.{State, marker_of, left, continued, returned, onward, turning, holding}
use Rattle.task_machine.specs.Views.{ReturnsAt, ReturnsTo, SkipsTo}

-- a jump over one task, by what the task is for it
abbrev pub left_by : {V T : Type 0} → List (Task V T) → State V T → Marker → State V T
left_by ts s m = elim m [
  | Plain ↦ left ts s
  | TurnEnd ↦ onward ts (turning (under s.turns) s)
  | TurnStart ↦ onward ts (turning (under s.turns) s)
  | BodyEnd ↦ onward ts (holding (0 ∷ s.values) s)
]

abbrev pub continued_by : {V T : Type 0} → Task V T → List (Task V T) → State V T → Marker → State V T
continued_by t ts s m = elim m [
  | Plain ↦ continued ts s
  | TurnEnd ↦ onward (t ∷ ts) s
  | TurnStart ↦ onward ts (turning (under s.turns) s)
  | BodyEnd ↦ onward ts (holding (0 ∷ s.values) s)
]

abbrev pub returned_by : {V T : Type 0} → List (Task V T) → State V T → Marker → State V T
returned_by ts s m = elim m [
  | Plain ↦ returned ts s
  | TurnEnd ↦ returned ts (turning (under s.turns) s)
  | TurnStart ↦ returned ts (turning (under s.turns) s)
  | BodyEnd ↦ onward ts s
]

pub left_at : {V T : Type 0} (t : Task V T) (ts : List (Task V T)) (s : State V T) (m : Marker) → marker_of t ≡ m → left (t ∷ ts) s ≡ left_by ts s m
left_at t ts s m e = ap (left_by ts s) e

pub continued_at : {V T : Type 0} (t : Task V T) (ts : List (Task V T)) (s : State V T) (m : Marker) → marker_of t ≡ m → continued (t ∷ ts) s ≡ continued_by t ts s m
continued_at t ts s m e = ap (continued_by t ts s) e

pub returned_at : {V T : Type 0} (t : Task V T) (ts : List (Task V T)) (s : State V T) (m : Marker) → marker_of t ≡ m → returned (t ∷ ts) s ≡ returned_by ts s m
returned_at t ts s m e = ap (returned_by ts s) e

pub skips_none : {V T : Type 0} (before : List (Task V T)) → SkipsTo before before
skips_none before = record { left = λ s. refl; continued = λ s. refl }

-- one task more that is skipped
pub skips_plain : {V T : Type 0} (before : List (Task V T)) (t : Task V T) (after : List (Task V T)) → SkipsTo before (t ∷ after) → marker_of t ≡ Plain → SkipsTo before after
skips_plain before t after skips plain = record {
  left = λ s. skips.left s ∙ left_at t after s Plain plain;
  continued = λ s. skips.continued s ∙ continued_at t after s Plain plain;
}

-- a `return` over one task more
pub returns_plain : {V T : Type 0} (before : List (Task V T)) (turns : List ℕ) (t : Task V T) (after : List (Task V T)) (turns' : List ℕ)
    → ReturnsTo before turns (t ∷ after) turns' → marker_of t ≡ Plain → ReturnsTo before turns after turns'
returns_plain before turns t after turns' h e = λ s. h s ∙ returned_at t after (turning turns' s) Plain e

pub returns_end : {V T : Type 0} (before : List (Task V T)) (turns : List ℕ) (t : Task V T) (after : List (Task V T)) (turns' : List ℕ)
    → ReturnsTo before turns (t ∷ after) turns' → marker_of t ≡ TurnEnd → ReturnsTo before turns after (under turns')
returns_end before turns t after turns' h e = λ s. h s ∙ returned_at t after (turning turns' s) TurnEnd e

pub returns_start : {V T : Type 0} (before : List (Task V T)) (turns : List ℕ) (t : Task V T) (after : List (Task V T)) (turns' : List ℕ)
    → ReturnsTo before turns (t ∷ after) turns' → marker_of t ≡ TurnStart → ReturnsTo before turns after (under turns')
returns_start before turns t after turns' h e = λ s. h s ∙ returned_at t after (turning turns' s) TurnStart e

pub returns_here : {V T : Type 0} (before : List (Task V T)) (turns : List ℕ) (t : Task V T) (after : List (Task V T)) (turns' : List ℕ)
    → ReturnsTo before turns (t ∷ after) turns' → marker_of t ≡ BodyEnd → ReturnsAt before turns after turns'
returns_here before turns t after turns' h e = λ s. h s ∙ returned_at t after (turning turns' s) BodyEnd e
