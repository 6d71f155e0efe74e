-- What a work-item of a kernel knows of its launch.
use Rattle.std.specs.Prelude.{ℕ, List}
use Rattle.item_acts.specs.declared.acts.Bound.{Bound}
use Rattle.item_acts.specs.declared.acts.Range.{Range}
use Rattle.ocl_program.specs.declared.exprs.ArrayRef.{ArrayRef}
use Rattle.ocl_program.specs.Nodes.{FunctionNode}
use Rattle.item_settings.specs.declared.arrays.ItemArray.{ItemArray}
use Rattle.item_settings.specs.Settings as settings
use Rattle.item_settings.specs.Settings.{Setting}

-- the array that a kernel names so
abbrev pub array_of : FunctionNode → List Bound → ArrayRef → ItemArray
array_of kernel bounds array = settings.array_of kernel.params kernel.arrays bounds array

abbrev pub setting_of : FunctionNode → Range → List Bound → ℕ → Setting
setting_of kernel range bounds item = settings.setting_of kernel.params kernel.arrays range bounds item
