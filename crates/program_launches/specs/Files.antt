-- Where the arrays of a kernel of a file stand in a launch: behind those of its `__local` parameters the group has those that the
-- kernel declares.
use Rattle.std.specs.Prelude.{ℕ, ◌*◌, List, ◌++◌, map}
use Rattle.vx_base.specs.Values.{elem_bytes}
use Rattle.ocl_program.specs.declared.exprs.ArrayRef.TheVariants.{Parameter}
use Rattle.ocl_program.specs.declared.functions.LocalArray.{LocalArray}
use Rattle.ocl_sem.specs.Launched.{Launched}
use Rattle.program_launches.specs.Launches.{EndsWithin, array_named}

-- how many bytes a declared array has
abbrev pub declared_bytes : LocalArray → ℕ
declared_bytes array = array.count * elem_bytes array.elem

-- local arrays of so many bytes for the parameters, and behind them those that the kernel declares
abbrev pub locals_behind : Launched → List ℕ → List ℕ
locals_behind launched passed = passed ++ map declared_bytes launched.kernel.arrays

-- each array that a parameter stands for ends within the bytes under its number
abbrev pub PassesArrays : Launched → List ℕ → List ℕ → Type 0
PassesArrays launched buffers locals = (k : ℕ) → EndsWithin buffers locals (array_named launched (Parameter k))
