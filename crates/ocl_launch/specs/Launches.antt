-- The launch of a kernel over buffers and local arrays, as the meaning of work-items has it (OpenCL C 1.2, sections 6.7 and 6.12.1).
use Rattle.std.specs.Prelude.{ℕ, ◌+◌, ◌*◌, List}
use Rattle.vx_base.specs.Bytes.{number_of}
use Rattle.item_acts.specs.declared.acts.Bound.{Bound}
use Rattle.item_acts.specs.declared.acts.Range.{Range}
use Rattle.item_acts.specs.Launches.{Launch}
use Rattle.item_settings.specs.Settings.{group_size, size_in}
use Rattle.ocl_program.specs.Nodes.{FunctionNode}
use Rattle.ocl_sem.specs.Items.{kernel_asks}

-- how many items a range has
abbrev pub items_in : Range → ℕ
items_in range = size_in range range.global 0 * size_in range range.global 1 * size_in range range.global 2

-- The launch of a kernel of a program over a range, its parameters bound so: over buffers of so many bytes each, where each
-- group has local arrays of so many bytes each.
abbrev pub kernel_launch : List FunctionNode → FunctionNode → Range → List Bound → List ℕ → List ℕ → Launch
kernel_launch program kernel range bounds buffers locals = record {
  items = items_in range;
  local = group_size range;
  asks = kernel_asks program kernel range bounds;
  buffers = buffers;
  locals = locals;
}

-- the number in the n bytes of a buffer from this byte on
abbrev pub number_in : (ℕ → ℕ → ℕ) → ℕ → ℕ → ℕ → ℕ
number_in bytes buffer byte n = number_of (λ k. bytes buffer (byte + k)) n
