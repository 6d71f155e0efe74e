-- The launch of a kernel of typed functions over some bytes, and what its arrays need there.
use Rattle.std.specs.Prelude.{◌≡◌, ℕ, ◌*◌, ◌≤◌, Bool, true, false, not, ◌&&◌, ◌||◌, nat_eq, if◌then◌else◌, List, [], ◌∷◌, slice_index}
use Rattle.vx_base.specs.Values.{elem_bytes}
use Rattle.item_acts.specs.declared.acts.Bound.{Bound}
use Rattle.item_acts.specs.Launches.{Launch}
use Rattle.ocl_ast.specs.declared.units.Param.{Param}
use Rattle.ocl_program.specs.declared.exprs.ArrayRef.{ArrayRef}
use Rattle.item_settings.specs.declared.arrays.ItemArray.{ItemArray}
use Rattle.item_settings.specs.Settings.{bound_array}
use Rattle.ocl_launch.specs.Launches.{kernel_launch}
use Rattle.ocl_sem.specs.Settings.{array_of}
use Rattle.ocl_sem.specs.Launched.{Launched}

-- the launch of a kernel over buffers of so many bytes, where each group has local arrays of so many
abbrev pub launch_over : Launched → List ℕ → List ℕ → Launch
launch_over launched buffers locals = kernel_launch launched.program launched.kernel launched.range launched.bounds buffers locals

-- the array that the kernel of a launch names so
abbrev pub array_named : Launched → ArrayRef → ItemArray
array_named launched array = array_of launched.kernel launched.bounds array

-- ---- that arrays are there

-- how many bytes there are under the array's number
abbrev pub bytes_under : List ℕ → List ℕ → ItemArray → ℕ
bytes_under buffers locals array = if array.local then slice_index locals array.number else slice_index buffers array.number

-- the array ends within the bytes under its number
abbrev pub EndsWithin : List ℕ → List ℕ → ItemArray → Type 0
EndsWithin buffers locals array = array.count * elem_bytes array.elem ≤ bytes_under buffers locals array

-- so does each array of the kernel
abbrev pub HasArrays : Launched → List ℕ → List ℕ → Type 0
HasArrays launched buffers locals = (array : ArrayRef) → EndsWithin buffers locals (array_named launched array)

-- ---- that buffers keep their bytes

-- the array is a buffer and may be stored to
abbrev pub is_changeable : ItemArray → Bool
is_changeable array = array.writable && not array.local

-- none of these buffers is an array of the kernel that may be stored to
abbrev pub AreConstant : Launched → (ℕ → Bool) → Type 0
AreConstant launched constant = (array : ArrayRef) → is_changeable (array_named launched array) ≡ true → constant (array_named launched array).number ≡ false

-- whether some parameter that may be stored to stands for this buffer
abbrev pub is_changed : List Param → List Bound → ℕ → Bool
is_changed [] bounds buffer = false
is_changed (param ∷ params) [] buffer = false
is_changed (param ∷ params) (bound ∷ bounds) buffer =
    is_changeable (bound_array param.kind bound) && nat_eq (bound_array param.kind bound).number buffer || is_changed params bounds buffer

-- whether no parameter that may be stored to stands for this buffer
abbrev pub is_unchanged : Launched → ℕ → Bool
is_unchanged launched buffer = not (is_changed launched.kernel.params launched.bounds buffer)
