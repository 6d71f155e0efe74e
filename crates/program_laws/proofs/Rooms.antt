-- The arrays that a function declares end within few bytes.
use Rattle.std.proofs.Common.{◌≡◌, refl, ℕ, ◌*◌, ◌^◌, ◌≤◌, List, Option, None, Some, arith}
use Rattle.vx_base.specs.Values.{elem_bytes}
use Rattle.vx_base.specs.declared.types.Elem.{Elem}
use Rattle.vx_base.specs.declared.types.Elem.TheVariants.{Char, Uchar, Short, Ushort, Int, Uint}
use Rattle.ocl_ast.specs.declared.units.Param.{Param}
use Rattle.ocl_program.specs.declared.functions.LocalArray.{LocalArray}
use Rattle.item_settings.specs.declared.arrays.ItemArray.{ItemArray}
use Rattle.item_settings.specs.Settings.{declared_array}

-- an array ends within 2 ^ 32 bytes
abbrev pub HasRoom : ItemArray → Type 0
HasRoom array = array.count * elem_bytes array.elem ≤ 2 ^ 32

-- few elements have room, whatever their type
few_have_room : (elem : Elem) (count : ℕ) → count ≤ 262144 → count * elem_bytes elem ≤ 2 ^ 32
few_have_room Char count few = omega arith
few_have_room Uchar count few = omega arith
few_have_room Short count few = omega arith
few_have_room Ushort count few = omega arith
few_have_room Int count few = omega arith
few_have_room Uint count few = omega arith

pub declared_room : (params : List Param) (k : ℕ) (array : Option LocalArray) → ((a : LocalArray) → array ≡ Some a → a.count ≤ 262144) → HasRoom (declared_array params k array)
declared_room params k None few = omega arith
declared_room params k (Some a) few = few_have_room a.elem a.count (few a refl)
