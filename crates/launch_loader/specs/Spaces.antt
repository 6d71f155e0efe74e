-- Buffers that a launch names as `__constant` and as `__global`.
use Rattle.std.specs.Prelude.{◌≡◌, ℕ, ◌<◌, Bool, true, false, ◌&&◌, nat_eq, List, length, slice_get, Option, None, Some}
use Rattle.vx_base.specs.declared.types.ParamKind.{ParamKind}
use Rattle.vx_base.specs.declared.types.ParamKind.TheVariants.{Pointer}
use Rattle.vx_base.specs.declared.types.Space.{Space}
use Rattle.vx_base.specs.declared.types.Space.TheVariants.{Global, Constant}
use Rattle.launch_plans.specs.declared.plans.Arg.{Arg}
use Rattle.launch_plans.specs.declared.plans.Arg.TheVariants.{Buffer}
use Rattle.launch_loader.specs.declared.spaces.BufferUse.{BufferUse}

-- the one is `__constant` and the other `__global`
abbrev pub are_other : Space → Space → Bool
are_other Constant Global = true
are_other Global Constant = true
are_other one other = false

-- the buffer that is given for a parameter which is an array, and the space
abbrev pub named : Option ParamKind → Option Arg → Option BufferUse
named (Some (Pointer space elem readonly)) (Some (Buffer b)) =
    Some (record { space = space; buffer = b })
named kind given = None

abbrev pub named_at : List ParamKind → List Arg → ℕ → Option BufferUse
named_at kinds args k = named (slice_get kinds k) (slice_get args k)

-- one buffer in both spaces
abbrev pub clash : Option BufferUse → Option BufferUse → Bool
clash (Some one) (Some other) = are_other one.space other.space && nat_eq one.buffer other.buffer
clash (Some one) None = false
clash None other = false

abbrev pub clash_at : List ParamKind → List Arg → ℕ → ℕ → Bool
clash_at kinds args j k = clash (named_at kinds args j) (named_at kinds args k)

-- the place clashes with an earlier one
abbrev pub ClashesEarlier : List ParamKind → List Arg → ℕ → Type 0
ClashesEarlier kinds args k = (j : ℕ) × (j < k) × (clash_at kinds args j k ≡ true)

-- it clashes with none
abbrev pub IsClear : List ParamKind → List Arg → ℕ → Type 0
IsClear kinds args k = (j : ℕ) → j < k → clash_at kinds args j k ≡ false

-- the first place that clashes with an earlier one
pub record IsBoth (kinds : List ParamKind) (args : List Arg) (place : ℕ) : Type 0 where
  pub inside : place < length args
  pub earlier : ClashesEarlier kinds args place
  pub first : (k : ℕ) → k < place → IsClear kinds args k

abbrev pub NoneBoth : List ParamKind → List Arg → Type 0
NoneBoth kinds args = (k : ℕ) → k < length args → IsClear kinds args k
