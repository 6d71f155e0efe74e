-- Warps in a list, by number.
use Rattle.std.specs.Prelude.{ℕ, List, [], replicate, slice_index_or}
use Rattle.vx_isa.specs.Warps.{WarpState}
use Rattle.warp_state.specs.Lanes.{KeptWarp, idle, state_of}

-- the warps by number; behind the last of the list stand warps that have ended
abbrev pub warps_of : List KeptWarp → ℕ → WarpState
warps_of warps w = state_of (slice_index_or warps w (record { pc = 0; mask = 0; lanes = replicate 32 idle; stack = [] }))
