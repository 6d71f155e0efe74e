-- What the operations on 32-bit words compute. A word is a number below 2 ^ 32.
use Rattle.std.specs.Prelude.{ℕ, List, codes, ◌+◌, ◌-◌, ◌*◌, ◌/◌, ◌%◌, ◌^◌, ◌==◌, nat_lt, if◌then◌else◌, ℤ, pos, negsuc, ◌-ℤ◌, ◌*ℤ◌, int_lt, int_div, int_rem, bit_and, bit_or, bit_xor}
use Rattle.vx_base.specs.declared.types.Alu.{Alu}
use Rattle.vx_base.specs.declared.types.Alu.TheVariants.{Add, Sub, Sll, Slt, Sltu, Xor, Srl, Sra, Or, And, Mul, Mulh, Mulhsu, Mulhu, Div, Divu, Rem, Remu}
use Rattle.vx_base.specs.declared.types.Elem.{Elem}
use Rattle.vx_base.specs.declared.types.Elem.TheVariants.{Char, Uchar, Short, Ushort, Int, Uint}

-- a number of so many bits read as a signed one, in two's complement
abbrev pub signed_in : ℕ → ℕ → ℤ
signed_in width n = if nat_lt n (2 ^ (width - 1)) then pos n else pos n -ℤ pos (2 ^ width)

-- a word read as a signed number
abbrev pub signed_of : ℕ → ℤ
signed_of word = signed_in 32 word

-- the word that stands for an integer, modulo 2 ^ 32; `negsuc n` is -(n + 1)
abbrev pub word_of : ℤ → ℕ
word_of (pos n) = n % 2 ^ 32
word_of (negsuc n) = 2 ^ 32 - 1 - n % 2 ^ 32

-- an integer over a positive number, rounded down
abbrev pub floor_div : ℤ → ℕ → ℤ
floor_div (pos n) by = pos (n / by)
floor_div (negsuc n) by = negsuc (n / by)

-- the word whose bits are all ones
abbrev pub all_ones : ℕ
all_ones = 2 ^ 32 - 1

-- what each operation makes of two words (RISC-V unprivileged manual, chapters RV32I and "M")
abbrev pub alu_value_of : Alu → ℕ → ℕ → ℕ
alu_value_of Add a b = (a + b) % 2 ^ 32
alu_value_of Sub a b = word_of (pos a -ℤ pos b)
alu_value_of Sll a b = (a * 2 ^ (b % 32)) % 2 ^ 32
alu_value_of Slt a b = if int_lt (signed_of a) (signed_of b) then 1 else 0
alu_value_of Sltu a b = if nat_lt a b then 1 else 0
alu_value_of Xor a b = bit_xor a b
alu_value_of Srl a b = a / 2 ^ (b % 32)
alu_value_of Sra a b = word_of (floor_div (signed_of a) (2 ^ (b % 32)))
alu_value_of Or a b = bit_or a b
alu_value_of And a b = bit_and a b
alu_value_of Mul a b = (a * b) % 2 ^ 32
alu_value_of Mulh a b = word_of (floor_div (signed_of a *ℤ signed_of b) (2 ^ 32))
alu_value_of Mulhsu a b = word_of (floor_div (signed_of a *ℤ pos b) (2 ^ 32))
alu_value_of Mulhu a b = a * b / 2 ^ 32
alu_value_of Div a b = if b == 0 then all_ones else word_of (int_div (signed_of a) (signed_of b))
alu_value_of Divu a b = if b == 0 then all_ones else a / b
alu_value_of Rem a b = if b == 0 then a else word_of (int_rem (signed_of a) (signed_of b))
alu_value_of Remu a b = if b == 0 then a else a % b

-- how a type of elements is written (OpenCL C 1.2, section 6.1.1)
abbrev pub elem_name : Elem → List ℕ
elem_name Char = codes "char"
elem_name Uchar = codes "uchar"
elem_name Short = codes "short"
elem_name Ushort = codes "ushort"
elem_name Int = codes "int"
elem_name Uint = codes "uint"

-- how many bytes an element has
abbrev pub elem_bytes : Elem → ℕ
elem_bytes Char = 1
elem_bytes Uchar = 1
elem_bytes Short = 2
elem_bytes Ushort = 2
elem_bytes Int = 4
elem_bytes Uint = 4

-- a word cut to the width of an element, and extended to 32 bits by its sign or by zeros
abbrev pub fitted : Elem → ℕ → ℕ
fitted Char v = word_of (signed_in 8 (v % 2 ^ 8))
fitted Uchar v = v % 2 ^ 8
fitted Short v = word_of (signed_in 16 (v % 2 ^ 16))
fitted Ushort v = v % 2 ^ 16
fitted Int v = v % 2 ^ 32
fitted Uint v = v % 2 ^ 32
