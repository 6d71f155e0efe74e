-- The barriers of a core, as the sets of warps that wait at each. A set of warps is a number: warp k is in it where bit k
-- is 1.
use Rattle.std.specs.Prelude.{ℕ, ◌^◌, nat_le, if◌then◌else◌, List, fold, slice_index, slice_set, bit_or, count_ones}
use Rattle.barrier_table.specs.declared.Arrived.{Arrived}
use Rattle.barrier_table.specs.declared.Arrived.TheVariants.{Released, Held}

-- the warps of a set, and one more
abbrev pub with_warp : ℕ → ℕ → ℕ
with_warp warps warp = bit_or warps (2 ^ warp)

-- the warps that wait at a barrier once a warp has arrived there
abbrev pub gathered : List ℕ → ℕ → ℕ → ℕ
gathered barriers bar warp = with_warp (slice_index barriers bar) warp

-- Where as many warps wait at a barrier as it waits for, all of them go on, and otherwise they are held.
abbrev pub arrival : List ℕ → ℕ → ℕ → ℕ → Arrived
arrival barriers bar warp count =
    if nat_le count (count_ones (gathered barriers bar warp)) then Released (gathered barriers bar warp) else Held

-- the barriers behind an arrival: one that lets its warps go is empty
abbrev pub barriers_after : List ℕ → ℕ → ℕ → ℕ → List ℕ
barriers_after barriers bar warp count =
    slice_set barriers bar (if nat_le count (count_ones (gathered barriers bar warp)) then 0 else gathered barriers bar warp)

-- the warps that wait at any barrier
abbrev pub all_waiting : List ℕ → ℕ
all_waiting barriers = fold bit_or 0 barriers
