-- Numbers that are 32-bit words by their types.
use Rattle.std.specs.Prelude.{ℕ, ◌^◌, ◌<◌, List, slice_get, slice_index, Option, None, Some, ⊤}
use Rattle.launch_plans.specs.declared.plans.Arg.{Arg}
use Rattle.launch_plans.specs.declared.plans.Arg.TheVariants.{Int}

-- a number that is given for a parameter
abbrev pub IsWordArg : Arg → Type 0
IsWordArg (Int value) = value < 2 ^ 32
IsWordArg arg = ⊤

-- one that is given at a place, if there is one
abbrev pub IsWordIn : Option Arg → Type 0
IsWordIn None = ⊤
IsWordIn (Some arg) = IsWordArg arg

-- all that are given
abbrev pub AreWordArgs : List Arg → Type 0
AreWordArgs args = (k : ℕ) → IsWordIn (slice_get args k)

-- each of some sizes
abbrev pub AreWords : List ℕ → Type 0
AreWords sizes = (k : ℕ) → slice_index sizes k < 2 ^ 32
