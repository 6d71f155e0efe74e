-- The launches that the tests ask for.
use Rattle.std.specs.Prelude.{◌≡◌, ℕ, ◌^◌, ◌<◌, ◌≤◌, Bool, true, nat_lt, List, [], ◌∷◌, length, slice_get, slice_index, Option, Some}
use Rattle.vx_base.specs.declared.types.Elem.TheVariants.{Int, Uchar}
use Rattle.vx_isa.specs.declared.image.Image.{Image}
use Rattle.launch_plans.specs.declared.plans.Arg.{Arg}
use Rattle.launch_plans.specs.declared.plans.Arg.TheVariants.{Buffer}
use Rattle.launch_loader.specs.declared.buffers.BufShape.{BufShape}
use Rattle.launch_plans.specs.declared.plans.Plan.{Plan}

-- 16 ints, and 64 bytes behind them
abbrev pub two_buffers : List BufShape
two_buffers = record { elem = Int; count = 16; start = 0 } ∷ record { elem = Uchar; count = 64; start = 64 } ∷ []

-- the argument names no buffer besides the two
abbrev pub is_known : Option Arg → Bool
is_known (Some (Buffer b)) = nat_lt b 2
is_known other = true

abbrev pub AreKnown : List Arg → Type 0
AreKnown args = (k : ℕ) → k < length args → is_known (slice_get args k) ≡ true

abbrev pub AreSizes : List ℕ → Type 0
AreSizes sizes = (d : ℕ) → d < 3 → 1 ≤ slice_index sizes d

-- an image within the limits
pub record IsSmall (image : Image) : Type 0 where
  pub words : length image.words ≤ 65536
  pub slots : image.slots ≤ 256
  pub params : length image.params ≤ 16
  pub locals : length image.locals ≤ 16

-- a launch in three dimensions of sizes from 1 on
pub record IsPlain (plan : Plan) : Type 0 where
  pub dims : plan.range.dims ≡ 3
  pub global : AreSizes plan.range.global
  pub local : AreSizes plan.range.local
  pub args : length plan.args < 2 ^ 32
  pub known : AreKnown plan.args
