-- Places of operations in structured code, and what is left to do there.
use Rattle.std.specs.Prelude.{◌≡◌, ℕ, Bool, false, ◌⊎◌, List, [], ◌∷◌}
use Rattle.item_acts.specs.declared.acts.Bound.{Bound}
use Rattle.item_acts.specs.declared.acts.Place.{Place}
use Rattle.item_acts.specs.declared.acts.Range.{Range}
use Rattle.item_settings.specs.Settings.{group_number}
use Rattle.kir.specs.Machine.{State, Task, Do, Decide, Again, Turning, head_tasks, ops_tasks}
use Rattle.kir.specs.Measures.{jumps}
use Rattle.kir.specs.Trees.{Operand, Op, If, Loop, Ops, NoOps, AndOp, KirCode}
use Rattle.uniformity.specs.Marks.{IsClosed}
use Rattle.uniformity.specs.Pairs.{Agree, Reaches}

mutual
  -- a place among operations in order: at or in the first, or past it
  pub data Spot : Type 0 where
    First : Inner → Spot
    Past : Spot → Spot

  -- A place at an operation, or in it: in a branch; in the head of a loop, at its test, in its body, at the end of its body, in its step.
  pub data Inner : Type 0 where
    Here : Inner
    InOne : Spot → Inner
    InOther : Spot → Inner
    InHead : Spot → Inner
    AtTest : Inner
    InBody : Spot → Inner
    AtEnd : Inner
    InStep : Spot → Inner

-- what is left to do at a place of operations, with these tasks behind them
abbrev mutual
  pub StandsAt : Ops → Spot → List Task → List Task → Type 0
  StandsAt NoOps spot ts left = ⊥
  StandsAt (AndOp op ops) (First inner) ts left = StandsIn op inner (ops_tasks ops ts) left
  StandsAt (AndOp op ops) (Past spot) ts left = StandsAt ops spot ts left

  pub StandsIn : Op → Inner → List Task → List Task → Type 0
  StandsIn op Here ts left = left ≡ Do op ∷ ts
  StandsIn (If test one other) (InOne spot) ts left = StandsAt one spot ts left
  StandsIn (If test one other) (InOther spot) ts left = StandsAt other spot ts left
  StandsIn (Loop head test body step) (InHead spot) ts left =
      StandsAt head spot (Decide (record { head = head; test = test; body = body; step = step }) ∷ ts) left
  StandsIn (Loop head test body step) AtTest ts left = left ≡ Decide (record { head = head; test = test; body = body; step = step }) ∷ ts
  StandsIn (Loop head test body step) (InBody spot) ts left =
      StandsAt body spot (Again (record { head = head; test = test; body = body; step = step }) ∷ ts) left
  StandsIn (Loop head test body step) AtEnd ts left = left ≡ Again (record { head = head; test = test; body = body; step = step }) ∷ ts
  StandsIn (Loop head test body step) (InStep spot) ts left =
      StandsAt step spot (head_tasks (record { head = head; test = test; body = body; step = step }) ts) left
  StandsIn op inner ts left = ⊥

-- an item stands at a place of a kernel
abbrev pub StandsAtPlace : KirCode → Spot → State → Type 0
StandsAtPlace code spot s = StandsAt code.ops spot [] s.tasks

-- Two items of one group at the same place, in the same turns of the loops round it, have equal values of each variable of a closed set.
abbrev pub PlacesAgree : Type 0
PlacesAgree = (code : KirCode) (marks : ℕ → Bool) → IsClosed code marks → jumps code.ops ≡ false
    → (range : Range) (bounds : List Bound) (opening : Place → ℕ) (one other : ℕ) (s t : State) → group_number range one ≡ group_number range other
    → Reaches code range bounds opening one s → Reaches code range bounds opening other t
    → (spot : Spot) → StandsAtPlace code spot s → StandsAtPlace code spot t → s.turns ≡ t.turns → Agree marks s.variables t.variables

-- each item stands at a place or has nothing left to do
abbrev pub EachStands : Type 0
EachStands = (code : KirCode) → jumps code.ops ≡ false → (range : Range) (bounds : List Bound) (opening : Place → ℕ) (item : ℕ) (s : State)
    → Reaches code range bounds opening item s → ((spot : Spot) × StandsAtPlace code spot s) ⊎ (s.tasks ≡ [])
