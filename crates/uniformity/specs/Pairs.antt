-- Two work-items of one group that have the same left to do, in the same turns of the loops round it, have the same value of each uniform
-- variable.
use Rattle.std.specs.Prelude.{◌≡◌, ℕ, zero, suc, Bool, true, false, List, [], ◌∷◌}
use Rattle.vx_base.specs.Bytes.{bytes_of}
use Rattle.item_acts.specs.declared.acts.Action.{Action}
use Rattle.item_acts.specs.declared.acts.Action.TheVariants.{Load as LoadAction}
use Rattle.item_acts.specs.declared.acts.Bound.{Bound}
use Rattle.item_acts.specs.declared.acts.Place.{Place}
use Rattle.item_acts.specs.declared.acts.Range.{Range}
use Rattle.item_acts.specs.Launches.{field_at}
use Rattle.item_acts.specs.Machine.{Step, Go, Ask, Stop}
use Rattle.ocl_program.specs.declared.exprs.ArrayRef.TheVariants.{Parameter}
use Rattle.item_settings.specs.Settings.{array_of, byte_in, group_number}
use Rattle.kir.specs.Machine.{State, code_setting, kir_start, step}
use Rattle.kir.specs.Measures.{jumps}
use Rattle.kir.specs.Trees.{KirCode}
use Rattle.uniformity.specs.Marks.{IsClosed, is_constant}

-- ---- honest answers

-- a byte of an array that a `__constant` parameter stands for
pub record IsConstantPlace (code : KirCode) (bounds : List Bound) (place : Place) : Type 0 where
  pub param : ℕ
  pub constant : is_constant code.params (Parameter param) ≡ true
  pub group : ℕ
  pub byte : ℕ
  pub there : place ≡ byte_in group (array_of code.params code.arrays bounds (Parameter param)) byte

-- a load from there answers the bytes with which the launch opens
abbrev pub IsHonest : KirCode → List Bound → (Place → ℕ) → Action → ℕ → Type 0
IsHonest code bounds opening (LoadAction place size) answer = IsConstantPlace code bounds place → answer ≡ field_at opening place (bytes_of size)
IsHonest code bounds opening other answer = Unit {0}

-- ---- runs

-- a step goes on so, with an honest answer where one is asked for
abbrev pub GoesOn : {S : Type 0} → (S → List ℕ → Type 0) → (Action → ℕ → Type 0) → Step S → List ℕ → Type 0
GoesOn next honest (Go s) answers = next s answers
GoesOn next honest (Ask a s) [] = ⊥
GoesOn next honest (Ask a s) (answer ∷ answers) = honest a answer × next (s answer) answers
GoesOn next honest (Stop a) answers = ⊥

-- so many small steps lead from this state to that one, and take these answers, all of them honest
abbrev pub Leads : {S : Type 0} → (S → Step S) → (Action → ℕ → Type 0) → ℕ → S → List ℕ → S → Type 0
Leads step honest zero s answers end = (s ≡ end) × (answers ≡ [])
Leads step honest (suc n) s answers end = GoesOn (λ t rest. Leads step honest n t rest end) honest (step s) answers

-- an item of a launch comes to this state, where loads from `__constant` arrays answer these bytes
pub record Reaches (code : KirCode) (range : Range) (bounds : List Bound) (opening : Place → ℕ) (item : ℕ) (s : State) : Type 0 where
  pub steps : ℕ
  pub answers : List ℕ
  pub leads : Leads (step (code_setting code range bounds item)) (IsHonest code bounds opening) steps (kir_start code bounds) answers s

-- ---- the law

-- the values of marked variables are the same
abbrev pub Agree : (ℕ → Bool) → (ℕ → ℕ) → (ℕ → ℕ) → Type 0
Agree marks vs ws = (k : ℕ) → marks k ≡ true → vs k ≡ ws k

-- Two items of one group of a kernel without jumps: where the same is left to do, in the same turns of the loops round it, marked variables have the same values.
-- The same is left to do at the same operation, and at the end.
abbrev pub ItemsAgree : KirCode → (ℕ → Bool) → Type 0
ItemsAgree code marks = jumps code.ops ≡ false → (range : Range) (bounds : List Bound) (opening : Place → ℕ) (one other : ℕ) (s t : State)
    → group_number range one ≡ group_number range other
    → Reaches code range bounds opening one s → Reaches code range bounds opening other t
    → s.tasks ≡ t.tasks → s.turns ≡ t.turns → Agree marks s.variables t.variables

-- so of each closed set
abbrev pub ClosedAgree : Type 0
ClosedAgree = (code : KirCode) (marks : ℕ → Bool) → IsClosed code marks → ItemsAgree code marks
