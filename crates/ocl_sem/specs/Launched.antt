-- The work-items of a launch of a kernel, and one of them with its answers.
use Rattle.std.specs.Prelude.{◌≡◌, ℕ, ◌+◌, List}
use Rattle.item_acts.specs.declared.acts.Action.{Action}
use Rattle.item_acts.specs.declared.acts.Asked.{Asked}
use Rattle.item_acts.specs.declared.acts.Asked.TheVariants.{Act}
use Rattle.item_acts.specs.declared.acts.Bound.{Bound}
use Rattle.item_acts.specs.declared.acts.Range.{Range}
use Rattle.item_acts.proofs.Machine.{settles}
use Rattle.ocl_program.specs.Nodes.{FunctionNode}
use Rattle.ocl_sem.specs.Items.{IsInArrays, item_start, item_step, kernel_asks}
use Rattle.item_settings.specs.Views as views
use Rattle.ocl_sem.specs.Settings.{setting_of}

-- the functions of the file, the kernel, its work-items, and what its parameters stand for
pub record Launched : Type 0 where
  pub program : List FunctionNode
  pub kernel : FunctionNode
  pub range : Range
  pub bounds : List Bound

-- what an item asks for once it has taken these answers, if at most so many small steps from its start lead there
abbrev pub launched_asks : Launched → ℕ → List ℕ → ℕ → Asked
launched_asks l item answers fuel = kernel_asks l.program l.kernel l.range l.bounds item answers fuel

-- each array of the kernel ends within 2 ^ 32 bytes
abbrev pub IsRoomy : FunctionNode → List Bound → Type 0
IsRoomy kernel bounds = views.IsRoomy kernel.params kernel.arrays bounds

-- more small steps never change what is asked
pub launched_settles : (l : Launched) (item : ℕ) (answers : List ℕ) (fuel more : ℕ) (action : Action)
    → launched_asks l item answers fuel ≡ Act action → launched_asks l item answers (fuel + more) ≡ Act action
launched_settles l item answers fuel more action e =
    settles (item_step l.program (setting_of l.kernel l.range l.bounds item)) fuel more (item_start l.program l.kernel l.bounds) answers action e

-- whatever an item asks for is within the arrays of its kernel
abbrev pub StaysInArrays : Type 0
StaysInArrays = (l : Launched) (item : ℕ) (answers : List ℕ) (fuel : ℕ) (action : Action)
    → launched_asks l item answers fuel ≡ Act action → IsInArrays (setting_of l.kernel l.range l.bounds item) action
