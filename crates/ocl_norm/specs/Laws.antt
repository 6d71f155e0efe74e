-- The law of the normal form, as a statement.
use Rattle.std.specs.Prelude.{◌≡◌, ℕ, List}
use Rattle.item_acts.specs.declared.acts.Bound.{Bound}
use Rattle.item_acts.specs.declared.acts.Range.{Range}
use Rattle.item_settings.specs.Views.{IsRoomy}
use Rattle.task_machine.specs.Tasks as flat
use Rattle.step_machine.specs.Alike.{AskAlike}
use Rattle.kir.specs.Machine.{code_setting, cost, kir_start, step}
use Rattle.kir.specs.Trees.{KirCode}
use Rattle.ocl_inline.specs.FlatItems.{flat_setting, flat_start}
use Rattle.ocl_inline.specs.FlatTasks.{flat_parts}
use Rattle.ocl_inline.specs.Trees.{FlatKernel}
use Rattle.ocl_norm.specs.Normal.{normal_kernel}
use Rattle.kir.specs.Numbered.{GivesWords}
use Rattle.ocl_inline.specs.Proper.{IsProperKernel}

-- What structured code keeps of a flat kernel's actions.
pub record DoesTheSame (kernel : FlatKernel) (code : KirCode) : Type 0 where
  -- the parameters and the arrays are the same
  pub same_params : code.params ≡ kernel.params
  pub same_arrays : code.arrays ≡ kernel.arrays
  -- for every launch whose arrays have room and of which items learn words it asks for the same, and begins no more turns of loops until
  -- then
  pub asks : (range : Range) (bounds : List Bound) (item : ℕ) → IsRoomy kernel.params kernel.arrays bounds → GivesWords (flat_setting kernel range bounds item)
      → AskAlike (flat.step flat_parts (flat_setting kernel range bounds item)) (step (code_setting code range bounds item)) flat.cost cost
      (flat_start kernel bounds) (kir_start code bounds)

-- every proper kernel is kept by its normal form
abbrev pub NormalKeeps : Type 0
NormalKeeps = (kernel : FlatKernel) → IsProperKernel kernel → DoesTheSame kernel (normal_kernel kernel)
