-- Which setting the code's is, and when the arrays of a launch have room.
use Rattle.std.specs.Prelude.{◌*◌, ◌^◌, ◌≤◌, List}
use Rattle.vx_base.specs.Values.{elem_bytes}
use Rattle.item_acts.specs.declared.acts.Bound.{Bound}
use Rattle.ocl_ast.specs.declared.units.Param.{Param}
use Rattle.ocl_program.specs.declared.exprs.ArrayRef.{ArrayRef}
use Rattle.ocl_program.specs.declared.functions.LocalArray.{LocalArray}
use Rattle.item_settings.specs.declared.settings.Setting.{Setting as HeldSetting}
use Rattle.item_settings.specs.Settings.{Setting, array_of, setting_of}

-- what an item knows of its launch
abbrev pub setting_in : HeldSetting → Setting
setting_in s = setting_of s.params.now s.arrays.now s.range s.bounds.now s.item

-- each array of the launch ends within 2 ^ 32 bytes
abbrev pub HasRoom : Setting → Type 0
HasRoom at = (array : ArrayRef) → (at.array array).count * elem_bytes (at.array array).elem ≤ 2 ^ 32

-- the same of a kernel's parameters, declared arrays and bounds
abbrev pub IsRoomy : List Param → List LocalArray → List Bound → Type 0
IsRoomy params arrays bounds = (array : ArrayRef) → (array_of params arrays bounds array).count * elem_bytes (array_of params arrays bounds array).elem ≤ 2 ^ 32
