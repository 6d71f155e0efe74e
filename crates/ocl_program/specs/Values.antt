-- What operators make of their values: RISC-V's operations on 32-bit words, of which a signed and an unsigned form differ.
use Rattle.std.specs.Prelude.{ℕ, ◌-◌, ◌==◌, Bool, true, false, if◌then◌else◌}
use Rattle.vx_base.specs.Values.{alu_value_of}
use Rattle.vx_base.specs.declared.types.Alu.{Alu}
use Rattle.vx_base.specs.declared.types.Alu.TheVariants as alu
use Rattle.ocl_ast.specs.declared.exprs.BinOp.{BinOp}
use Rattle.ocl_ast.specs.declared.exprs.BinOp.TheVariants.{Mul, Div, Rem, Add, Sub, Shl, Shr, Lt, Gt, Le, Ge, Eq, Ne, And, Xor, Or}
use Rattle.ocl_ast.specs.declared.exprs.UnOp.{UnOp}
use Rattle.ocl_ast.specs.declared.exprs.UnOp.TheVariants.{Plus, Minus, Not, Flip}

-- 1 where it holds, else 0
abbrev pub truth : Bool → ℕ
truth holds = if holds then 1 else 0

-- of two operations the one for uint or the one for int
abbrev pub by_type : Bool → Alu → Alu → Alu
by_type unsigned for_uint for_int = if unsigned then for_uint else for_int

-- the value of an operator on two words, whose common type is uint or int; of a shift, the left word's type
abbrev pub binary_value : BinOp → Bool → ℕ → ℕ → ℕ
binary_value Mul unsigned a b = alu_value_of alu.Mul a b
binary_value Div unsigned a b = alu_value_of (by_type unsigned alu.Divu alu.Div) a b
binary_value Rem unsigned a b = alu_value_of (by_type unsigned alu.Remu alu.Rem) a b
binary_value Add unsigned a b = alu_value_of alu.Add a b
binary_value Sub unsigned a b = alu_value_of alu.Sub a b
binary_value Shl unsigned a b = alu_value_of alu.Sll a b
binary_value Shr unsigned a b = alu_value_of (by_type unsigned alu.Srl alu.Sra) a b
binary_value Lt unsigned a b = alu_value_of (by_type unsigned alu.Sltu alu.Slt) a b
binary_value Gt unsigned a b = alu_value_of (by_type unsigned alu.Sltu alu.Slt) b a
binary_value Le unsigned a b = 1 - alu_value_of (by_type unsigned alu.Sltu alu.Slt) b a
binary_value Ge unsigned a b = 1 - alu_value_of (by_type unsigned alu.Sltu alu.Slt) a b
binary_value Eq unsigned a b = truth (a == b)
binary_value Ne unsigned a b = if a == b then 0 else 1
binary_value And unsigned a b = alu_value_of alu.And a b
binary_value Xor unsigned a b = alu_value_of alu.Xor a b
binary_value Or unsigned a b = alu_value_of alu.Or a b

-- the value of an operator on one word
abbrev pub unary_value : UnOp → ℕ → ℕ
unary_value Plus a = a
unary_value Minus a = alu_value_of alu.Sub 0 a
unary_value Not a = truth (a == 0)
unary_value Flip a = alu_value_of alu.Xor a 4294967295
