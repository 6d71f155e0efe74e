-- What stands around a lane of a launch: buffer 0 from the first address of buffers on, and `__local` arrays 256 bytes apart.
use Rattle.std.specs.Prelude.{ℕ, ◌-◌, ◌/◌, ◌%◌, nat_lt, if◌then◌else◌, List, slice_index}
use Rattle.item_acts.specs.declared.acts.Place.{Place}
use Rattle.item_acts.specs.declared.acts.Place.TheVariants.{Global, Local}
use Rattle.vcode.specs.Machine.{Around}

-- the byte of an array that an address names in a group
abbrev pub place_of : ℕ → ℕ → Place
place_of group a = if nat_lt a 0x40000000 then Local group ((a - 0x10001000) / 256) ((a - 0x10001000) % 256) else Global 0 (a - 0x40000000)

-- the launch block, the group, the warp and the number of the lane
abbrev pub around_of : List ℕ → ℕ → ℕ → ℕ → Around
around_of block group warp number = record { block = slice_index block; warp = warp; number = number % 32; place = place_of group }
