-- The values of the built-in functions on 32-bit words (OpenCL C 1.2, section 6.12.3). Values of a type below 32 bits are kept
-- extended to 32 bits by their sign or by zeros, so that a conversion to int or to uint changes no bit.
use Rattle.std.specs.Prelude.{ℕ, Bool, nat_lt, int_lt, if◌then◌else◌}
use Rattle.vx_base.specs.Values.{alu_value_of, signed_of}
use Rattle.vx_base.specs.declared.types.Alu.TheVariants as alu

-- whether a word is less than another, both read as numbers of their type
abbrev pub is_less : Bool → ℕ → ℕ → Bool
is_less unsigned a b = if unsigned then nat_lt a b else int_lt (signed_of a) (signed_of b)

-- `min(a, b)`
abbrev pub least_of : Bool → ℕ → ℕ → ℕ
least_of unsigned a b = if is_less unsigned b a then b else a

-- `max(a, b)`
abbrev pub greatest_of : Bool → ℕ → ℕ → ℕ
greatest_of unsigned a b = if is_less unsigned a b then b else a

-- `clamp(x, low, high)`: min(max(x, low), high)
abbrev pub clamped : Bool → ℕ → ℕ → ℕ → ℕ
clamped unsigned x low high = least_of unsigned (greatest_of unsigned x low) high

-- `abs(x)`, which is uint: that of the least int is 2 ^ 31
abbrev pub magnitude : Bool → ℕ → ℕ
magnitude unsigned x = if is_less unsigned x 0 then alu_value_of alu.Sub 0 x else x

-- `mul_hi(a, b)`: the high word of the product
abbrev pub high_product : Bool → ℕ → ℕ → ℕ
high_product unsigned a b = if unsigned then alu_value_of alu.Mulhu a b else alu_value_of alu.Mulh a b
