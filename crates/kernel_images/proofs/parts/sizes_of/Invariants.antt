use Rattle.std.proofs.Common.{◌≡◌, ◌++◌, drop, map}
use Rattle.simt_lowering.specs.Laid.{array_bytes}
use Rattle.kernel_images.proofs.parts.sizes_of.Given as goal

-- the bytes of the arrays so far, and those of what is left
abbrev pub invariant-loop-array : goal.invariant-loop-array
invariant-loop-array l = l.items.items ++ map array_bytes (drop l.array-index l.arrays) ≡ map array_bytes l.arrays
