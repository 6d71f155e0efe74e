-- What the items of a launch ask for, and that more steps never change it.
use Rattle.std.specs.Prelude.{◌≡◌, ℕ, ◌+◌, List}
use Rattle.item_acts.specs.declared.acts.Action.{Action}
use Rattle.item_acts.specs.declared.acts.Asked.{Asked}
use Rattle.item_acts.specs.declared.acts.Asked.TheVariants.{Act}
use Rattle.item_acts.proofs.Machine.{settles}
use Rattle.ocl_inline.specs.FlatItems.{flat_asks, flat_setting, flat_start}
use Rattle.ocl_inline.specs.FlatTasks.{flat_parts}
use Rattle.ocl_inline.specs.Shapes.{kernel_of}
use Rattle.task_machine.specs.Tasks.{step}
use Rattle.flat_items.specs.declared.items.FlatItems.{FlatItems}
use Rattle.flat_items.specs.Launched.{Launched}

-- the launch that the code's items are of
abbrev pub launch_of : FlatItems → Launched
launch_of items = record { kernel = kernel_of items.flat.now; range = items.range; bounds = items.bounds }

-- what an item asks for once it has taken these answers, if at most so many small steps from its start lead there
abbrev pub launch_asks : Launched → ℕ → List ℕ → ℕ → Asked
launch_asks l item answers fuel = flat_asks l.kernel l.range l.bounds item answers fuel

-- more small steps never change what is asked
pub launch_settles : (l : Launched) (item : ℕ) (answers : List ℕ) (fuel more : ℕ) (action : Action)
    → launch_asks l item answers fuel ≡ Act action → launch_asks l item answers (fuel + more) ≡ Act action
launch_settles l item answers fuel more action e =
    settles (step flat_parts (flat_setting l.kernel l.range l.bounds item)) fuel more (flat_start l.kernel l.bounds) answers action e
