-- What a kernel and its flat form have in common.
use Rattle.std.specs.Prelude.{◌≡◌, ℕ, List, length, Some, slice_get}
use Rattle.item_acts.specs.Machine.{asked}
use Rattle.ocl_program.specs.Nodes.{FunctionNode}
use Rattle.ocl_sem.specs.Items.{ItemState, item_step}
use Rattle.item_settings.specs.Settings.{Setting}
use Rattle.ocl_sem.specs.Source.{Scope}
use Rattle.task_machine.specs.Tasks.{cost, step}
use Rattle.program_laws.specs.Laws.{HaveNoRecursion}
use Rattle.step_machine.specs.Costs.{spent}
use Rattle.ocl_inline.specs.FlatTasks.{flat_parts}
use Rattle.ocl_inline.specs.Expansion.{Bodies, expanded, flat_stmts}
use Rattle.ocl_inline.specs.Mapping.{state_at, step_at}

-- what stands at the calls of a program's functions are their bodies, with the calls in them expanded alike
abbrev pub AreBodies : Bodies → List FunctionNode → Type 0
AreBodies bodies program = (scope : Scope) (k : ℕ) → slice_get program k ≡ Some scope.function → bodies scope ≡ flat_stmts bodies program scope scope.function.body

-- each step of the flat form is the step of the source
abbrev pub StepsAlike : Type 0
StepsAlike = (bodies : Bodies) (program : List FunctionNode) → AreBodies bodies program → (at : Setting) (s : ItemState)
    → step flat_parts at (state_at bodies program s) ≡ step_at bodies program (item_step program at s)

-- as many levels of calls as there are functions expand all of them
abbrev pub AllExpanded : Type 0
AllExpanded = (program : List FunctionNode) → HaveNoRecursion program → AreBodies (expanded (length program) program) program

-- the flat form asks for what the source asks for, at every number of steps
abbrev pub AsksAlike : Type 0
AsksAlike = (bodies : Bodies) (program : List FunctionNode) → AreBodies bodies program → (at : Setting) (n : ℕ) (s : ItemState) (answers : List ℕ)
    → asked (step flat_parts at) n (state_at bodies program s) answers ≡ asked (item_step program at) n s answers

-- and begins as many turns of loops
abbrev pub SpendsAlike : Type 0
SpendsAlike = (bodies : Bodies) (program : List FunctionNode) → AreBodies bodies program → (at : Setting) (n : ℕ) (s : ItemState) (answers : List ℕ)
    → spent (step flat_parts at) cost n (state_at bodies program s) answers ≡ spent (item_step program at) cost n s answers
