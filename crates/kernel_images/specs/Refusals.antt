-- Which kernels have no image, and why.
use Rattle.std.specs.Prelude.{◌≡◌, ℕ, ◌^◌, ◌-◌, ◌<◌, ◌≤◌, min, List, slice_get, Some, None}
use Rattle.vx_base.specs.declared.types.Pos.{Pos}
use Rattle.ocl_program.specs.Nodes.{FunctionNode}
use Rattle.ocl_types.specs.Functions.{kernel_from}
use Rattle.lane_kernels.specs.Sizes.{most_registers, most_words}
use Rattle.kernel_images.specs.declared.compiling.CompileFault.{CompileFault}
use Rattle.kernel_images.specs.declared.compiling.CompileFault.TheVariants as fault

-- a number as a refusal keeps it
abbrev pub kept : ℕ → ℕ
kept n = min n (2 ^ 32 - 1)

-- A lane's frame of function `number` may take more than 256 words; else its code may take more than 65,536.
abbrev pub HasManySlots : List FunctionNode → ℕ → ℕ → Type 0
HasManySlots program number slots = (256 < most_registers program number) × (slots ≡ kept (most_registers program number))

abbrev pub HasManyWords : List FunctionNode → ℕ → ℕ → Type 0
HasManyWords program number words = (most_registers program number ≤ 256) × ((65536 < most_words program number) × (words ≡ kept (most_words program number)))

abbrev pub IsSmall : List FunctionNode → ℕ → Type 0
IsSmall program number = (most_registers program number ≤ 256) × (most_words program number ≤ 65536)

-- Function `number` is the kernel of this name, which stands here.
pub record StandsAt (program : List FunctionNode) (name : List ℕ) (number : ℕ) (pos : Pos) : Type 0 where
  pub kernel : FunctionNode
  pub found : kernel_from 0 name program ≡ Some number
  pub is : slice_get program number ≡ Some kernel
  pub here : pos ≡ kernel.name.pos

-- A refusal has its cause: no kernel has the name, or its measures are too large. Want of memory may come always.
abbrev pub IsRefused : List FunctionNode → List ℕ → CompileFault → Type 0
IsRefused program name fault.NoEntry = kernel_from 0 name program ≡ None
IsRefused program name (fault.Slots pos slots) = (number : ℕ) × (StandsAt program name number pos × HasManySlots program number slots)
IsRefused program name (fault.Words pos words) = (number : ℕ) × (StandsAt program name number pos × HasManyWords program number words)
IsRefused program name fault.Memory = Unit {0}

-- what is too large in function `number`, whose name stands here
abbrev pub IsTooLarge : List FunctionNode → ℕ → Pos → CompileFault → Type 0
IsTooLarge program number here fault.NoEntry = ⊥
IsTooLarge program number here (fault.Slots pos slots) = (pos ≡ here) × HasManySlots program number slots
IsTooLarge program number here (fault.Words pos words) = (pos ≡ here) × HasManyWords program number words
IsTooLarge program number here fault.Memory = ⊥

-- A kernel has this name, and its measures are small enough.
abbrev pub IsSmallNamed : List FunctionNode → List ℕ → Type 0
IsSmallNamed program name = (number : ℕ) × ((kernel_from 0 name program ≡ Some number) × IsSmall program number)
