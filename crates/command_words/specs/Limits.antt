-- The limits of numbers.
use Rattle.std.specs.Prelude.{ℕ, Bool, true, ◌&&◌, ◌||◌, nat_eq, nat_le, if◌then◌else◌}
use Rattle.std.specs.Prelude.{List}
use Rattle.std.specs.List.{list_all}
use Rattle.decimal_text.specs.Numerals.{is_decimal, decimal_value}
use Rattle.command_words.specs.declared.entries.ArgEntry.{ArgEntry}
use Rattle.command_words.specs.declared.entries.ArgEntry.TheVariants.{Named, Number, Negative, Local}
use Rattle.command_words.specs.declared.entries.Origin.{Origin}
use Rattle.command_words.specs.declared.entries.Origin.TheVariants.{In, Zero}
use Rattle.command_words.specs.declared.entries.Pick.{Pick}
use Rattle.command_words.specs.declared.entries.Pick.TheVariants as pick
use Rattle.command_words.specs.declared.entries.SizeKey.{SizeKey}
use Rattle.command_words.specs.declared.entries.SizeKey.TheVariants.{Cores, Warps, Lanes, Sets, Ways, Banks, Turns}
use Rattle.command_words.specs.declared.entries.DoEntry.{DoEntry}
use Rattle.command_words.specs.declared.entries.Entry.{Entry}
use Rattle.command_words.specs.declared.entries.Entry.TheVariants.{File, Kernel, Seed, Count, Buf, Do, Show, Size, Sched, Evict, Stats}

-- digits that write a number from the least to the most
abbrev pub is_between : ℕ → ℕ → List ℕ → Bool
is_between least most text = is_decimal text && nat_le least (decimal_value text) && nat_le (decimal_value text) most

-- one of the powers of two below 128
abbrev pub is_power : ℕ → Bool
is_power n = nat_eq n 1 || nat_eq n 2 || nat_eq n 4 || nat_eq n 8 || nat_eq n 16 || nat_eq n 32 || nat_eq n 64

abbrev pub is_power_upto : ℕ → List ℕ → Bool
is_power_upto most text = is_between 1 most text && is_power (decimal_value text)

-- a seed is below 2^64
abbrev pub is_seed : List ℕ → Bool
is_seed text = is_between 0 18446744073709551615 text

-- an argument is from -2^31 to 2^32 - 1, and a `__local` array has 1 to 262,144 elements
abbrev pub is_arg_within : ArgEntry → Bool
is_arg_within (Named name) = true
is_arg_within (Number digits) = is_between 0 4294967295 digits
is_arg_within (Negative digits) = is_between 0 2147483648 digits
is_arg_within (Local digits) = is_between 1 262144 digits

-- a buffer has at most 4,194,304 zeros
abbrev pub is_origin_within : Origin → Bool
is_origin_within (In path) = true
is_origin_within (Zero digits) = is_between 0 4194304 digits

-- there are 1 to 2^32 - 1 items, and so many in a group
abbrev pub is_launch_within : DoEntry → Bool
is_launch_within d = is_between 1 4294967295 d.global && is_between 1 4294967295 d.local && list_all is_arg_within d.args

abbrev pub is_pick_within : Pick → Bool
is_pick_within pick.Round = true
is_pick_within pick.Oldest = true
is_pick_within (pick.Seed digits) = is_seed digits

-- the sizes of the machine
abbrev pub is_size_within : SizeKey → List ℕ → Bool
is_size_within Cores digits = is_between 1 8 digits
is_size_within Warps digits = is_between 1 16 digits
is_size_within Lanes digits = is_between 1 32 digits
is_size_within Sets digits = is_power_upto 64 digits
is_size_within Ways digits = is_between 1 8 digits
is_size_within Banks digits = is_power_upto 16 digits
is_size_within Turns digits = is_between 1 4294967296 digits

-- all numbers of a word are within their limits
abbrev pub is_within : Entry → Bool
is_within (File path) = true
is_within (Kernel name) = true
is_within (Seed digits) = is_seed digits
is_within (Count digits) = is_between 1 10 digits
is_within (Buf b) = is_origin_within b.origin
is_within (Do d) = is_launch_within d
is_within (Show name) = true
is_within (Size key digits) = is_size_within key digits
is_within (Sched p) = is_pick_within p
is_within (Evict p) = is_pick_within p
is_within (Stats wanted) = true

-- the number that digits write, where it is at most this, and else 0
abbrev pub number_upto : ℕ → List ℕ → ℕ
number_upto most digits = if is_between 0 most digits then decimal_value digits else 0
