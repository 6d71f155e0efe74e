-- The scratchpad as a group finds it.
use Rattle.std.specs.Prelude.{ℕ, ◌*◌, ◌++◌, List, drop, length, replicate}
use Rattle.std.specs.List.{flat_map}
use Rattle.vx_base.specs.Bytes.{number_bytes}

-- so many bytes of 0
unfoldable pub zeros : ℕ → List ℕ
zeros count = replicate count 0

-- a scratchpad with the bytes below a place 0
unfoldable pub with_zeros : ℕ → List ℕ → List ℕ
with_zeros end scratch = replicate end 0 ++ drop end scratch

-- a scratchpad with a launch block at its head
abbrev pub with_block : List ℕ → List ℕ → List ℕ
with_block block scratch = flat_map (λ word. number_bytes word 4) block ++ drop (4 * length block) scratch
