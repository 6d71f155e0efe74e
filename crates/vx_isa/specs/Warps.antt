-- What a warp is, and sets of its lanes. A set of lanes is a number below 2 ^ 32: lane k is in it where bit k is 1.
use Rattle.std.specs.Prelude.{ℕ, zero, suc, ◌+◌, ◌/◌, ◌%◌, ◌^◌, Bool, true, false, ◌&&◌, nat_eq, nat_lt, if◌then◌else◌, List, []}
use Rattle.vx_base.specs.Values.{fitted}
use Rattle.vx_base.specs.declared.types.Elem.{Elem}
use Rattle.vx_base.specs.declared.types.Elem.TheVariants.{Char, Uchar, Short, Ushort, Uint}
use Rattle.vx_base.specs.declared.types.Size.{Size}
use Rattle.vx_base.specs.declared.types.Size.TheVariants.{One, Two, Four}
use Rattle.vx_isa.specs.declared.warps.Held.{Held}

-- the values of a lane's registers, by number
abbrev pub Registers : Type 0
Registers = ℕ → ℕ

-- what a register reads as; x0 reads as 0
abbrev pub value_in : Registers → ℕ → ℕ
value_in registers r = if nat_eq r 0 then 0 else registers r

-- Registers with a value in one of them. A lane has the registers x0 to x31, and x0 is never changed.
abbrev pub with_register : ℕ → ℕ → Registers → Registers
with_register rd value registers =
    λ r. if nat_eq r rd && (nat_lt 0 rd && nat_lt rd 32) then value else registers r

-- the type as which a load reads its field
abbrev pub loaded_as : Size → Bool → Elem
loaded_as One true = Char
loaded_as One false = Uchar
loaded_as Two true = Short
loaded_as Two false = Ushort
loaded_as Four signed = Uint

-- what a load writes of the number that its field holds
abbrev pub loaded : Size → Bool → ℕ → ℕ
loaded size signed answer = fitted (loaded_as size signed) answer

-- A warp: the address of its next instruction, its active lanes, the registers of each lane, and its divergence stack,
-- the last entry that was pushed first.
pub record WarpState : Type 0 where
  pub pc : ℕ
  pub mask : ℕ
  pub registers : ℕ → Registers
  pub stack : List Held

-- a warp that has just started
abbrev pub started : ℕ → ℕ → WarpState
started pc mask = record { pc = pc; mask = mask; registers = λ lane r. 0; stack = [] }

-- whether a lane is in a set
abbrev pub has_lane : ℕ → ℕ → Bool
has_lane mask lane = nat_eq (mask / 2 ^ lane % 2) 1

-- the set of the lanes below a number for which a test holds
unfoldable pub lanes_below : ℕ → (ℕ → Bool) → ℕ
lanes_below zero test = 0
lanes_below (suc n) test = lanes_below n test + (if test n then 2 ^ n else 0)

abbrev pub lanes_where : (ℕ → Bool) → ℕ
lanes_where test = lanes_below 32 test

-- the least number below a bound for which a test holds, and the bound where it holds for none
unfoldable pub least_below : ℕ → (ℕ → Bool) → ℕ
least_below zero test = 0
least_below (suc n) test = if test 0 then 0 else suc (least_below n (λ k. test (suc k)))

-- the least lane of a set
abbrev pub leader : ℕ → ℕ
leader mask = least_below 32 (has_lane mask)

-- a set cut to the lanes that a warp has
abbrev pub cut : ℕ → ℕ → ℕ
cut lanes mask = mask % 2 ^ lanes
