-- Laws of words, of what operations make of them, and of words cut to elements.
use Rattle.std.proofs.Common.{◌≡◌, ℕ, ◌-◌, ◌*◌, ◌/◌, ◌%◌, ◌^◌, ◌<◌, Bool, true, false, ap, arith, ℤ, pos, negsuc, ◌-ℤ◌, ◌*ℤ◌, nat_lt}
use Rattle.std.specs.Prelude.{if◌then◌else◌, ◌==◌, int_lt, int_div, int_rem, FitsSigned}
use Rattle.std.specs.Int.{w32}
use Rattle.std.proofs.Math.Nat.{mod-mod, mod-eq_of_lt, div-le_self, mod-le}
use Rattle.std.proofs.lemmas.Int.{ints}
use Rattle.std.proofs.lemmas.Nat.{and_le_l, or_of_32, xor_of_32, shr_le, mul-lt, div_below, mod_below}
use Rattle.vx_base.specs.Values.{signed_in, signed_of, word_of, floor_div, all_ones, alu_value_of, elem_bytes, fitted}
use Rattle.vx_base.specs.declared.types.Alu.{Alu}
use Rattle.vx_base.specs.declared.types.Alu.TheVariants.{Add, Sub, Sll, Slt, Sltu, Xor, Srl, Sra, Or, And, Mul, Mulh, Mulhsu, Mulhu, Div, Divu, Rem, Remu}
use Rattle.vx_base.specs.declared.types.Elem.{Elem}
use Rattle.vx_base.specs.declared.types.Elem.TheVariants.{Char, Uchar, Short, Ushort, Int, Uint}

-- a word is below 2 ^ 32
pub word_of-lt : (z : ℤ) → word_of z < 2 ^ 32
word_of-lt (pos n) = omega arith
word_of-lt (negsuc n) = omega arith

-- a word is what its signed reading stands for
pub word_of-signed_of : (n : ℕ) → n < 2 ^ 32 → word_of (signed_of n) ≡ n
word_of-signed_of n below = grind (arith, ints)

small_word : (n : ℕ) → n < 2 ^ 31 → signed_of (n % 2 ^ 32) ≡ pos n
small_word n small = grind (arith, ints)

negative_word : (n : ℕ) → n < 2 ^ 31 → signed_of (2 ^ 32 - 1 - n % 2 ^ 32) ≡ negsuc n
negative_word n small = grind (arith, ints)

-- a number in the signed range is the signed reading of its word
pub signed_of-word_of : (z : ℤ) → FitsSigned w32 z → signed_of (word_of z) ≡ z
signed_of-word_of (pos n) fits = let small : n < 2 ^ 31 = fits.sfits in small_word n small
signed_of-word_of (negsuc n) fits = let small : n < 2 ^ 31 = fits.sfits in negative_word n small

-- one of two numbers is below what both are below
either-lt : (test : Bool) (x y bound : ℕ) → x < bound → y < bound → (if test then x else y) < bound
either-lt true x y bound below below' = below
either-lt false x y bound below below' = below'

-- the high word of a product of words is a word
high-lt : (a b : ℕ) → a < 2 ^ 32 → b < 2 ^ 32 → a * b / 2 ^ 32 < 2 ^ 32
high-lt a b small small' = div_below (a * b) (2 ^ 32) (2 ^ 32) (omega arith) (mul-lt a b (2 ^ 32) (2 ^ 32) small small')

-- every operation makes a word of two words
pub alu_value_of-lt : (op : Alu) (a b : ℕ) → a < 2 ^ 32 → b < 2 ^ 32 → alu_value_of op a b < 2 ^ 32
alu_value_of-lt Add a b small small' = omega arith
alu_value_of-lt Sub a b small small' = word_of-lt (pos a -ℤ pos b)
alu_value_of-lt Sll a b small small' = mod_below (a * 2 ^ (b % 32)) (2 ^ 32) (omega arith)
alu_value_of-lt Slt a b small small' = either-lt (int_lt (signed_of a) (signed_of b)) 1 0 (2 ^ 32) (omega arith) (omega arith)
alu_value_of-lt Sltu a b small small' = either-lt (nat_lt a b) 1 0 (2 ^ 32) (omega arith) (omega arith)
alu_value_of-lt Xor a b small small' = xor_of_32 a b small small'
alu_value_of-lt Srl a b small small' = omega (arith, shr_le a (b % 32))
alu_value_of-lt Sra a b small small' = word_of-lt (floor_div (signed_of a) (2 ^ (b % 32)))
alu_value_of-lt Or a b small small' = or_of_32 a b small small'
alu_value_of-lt And a b small small' = omega (arith, and_le_l a b)
alu_value_of-lt Mul a b small small' = mod_below (a * b) (2 ^ 32) (omega arith)
alu_value_of-lt Mulh a b small small' = word_of-lt (floor_div (signed_of a *ℤ signed_of b) (2 ^ 32))
alu_value_of-lt Mulhsu a b small small' = word_of-lt (floor_div (signed_of a *ℤ pos b) (2 ^ 32))
alu_value_of-lt Mulhu a b small small' = high-lt a b small small'
alu_value_of-lt Div a b small small' = either-lt (b == 0) all_ones (word_of (int_div (signed_of a) (signed_of b))) (2 ^ 32) (omega arith) (word_of-lt (int_div (signed_of a) (signed_of b)))
alu_value_of-lt Divu a b small small' = either-lt (b == 0) all_ones (a / b) (2 ^ 32) (omega arith) (omega (arith, div-le_self a b))
alu_value_of-lt Rem a b small small' = either-lt (b == 0) a (word_of (int_rem (signed_of a) (signed_of b))) (2 ^ 32) small (word_of-lt (int_rem (signed_of a) (signed_of b)))
alu_value_of-lt Remu a b small small' = either-lt (b == 0) a (a % b) (2 ^ 32) small (omega (arith, mod-le a b))

-- a word cut to an element is a word
pub fitted-lt : (elem : Elem) (v : ℕ) → fitted elem v < 2 ^ 32
fitted-lt Char v = word_of-lt (signed_in 8 (v % 2 ^ 8))
fitted-lt Uchar v = omega arith
fitted-lt Short v = word_of-lt (signed_in 16 (v % 2 ^ 16))
fitted-lt Ushort v = omega arith
fitted-lt Int v = omega arith
fitted-lt Uint v = omega arith

-- the low bits of a sign-extended number are the number
char_low : (n : ℕ) → n < 2 ^ 8 → word_of (signed_in 8 n) % 2 ^ 8 ≡ n
char_low n small = grind (arith, ints)

short_low : (n : ℕ) → n < 2 ^ 16 → word_of (signed_in 16 n) % 2 ^ 16 ≡ n
short_low n small = grind (arith, ints)

-- to cut a second time changes nothing
pub fitted-fitted : (elem : Elem) (v : ℕ) → fitted elem (fitted elem v) ≡ fitted elem v
fitted-fitted Char v = ap (λ (n : ℕ). word_of (signed_in 8 n)) (char_low (v % 2 ^ 8) (omega arith))
fitted-fitted Uchar v = omega arith
fitted-fitted Short v = ap (λ (n : ℕ). word_of (signed_in 16 n)) (short_low (v % 2 ^ 16) (omega arith))
fitted-fitted Ushort v = omega arith
fitted-fitted Int v = omega arith
fitted-fitted Uint v = omega arith

-- what is cut keeps its low bytes
pub fitted-low : (elem : Elem) (v : ℕ) → fitted elem v % 256 ^ elem_bytes elem ≡ v % 256 ^ elem_bytes elem
fitted-low Char v = char_low (v % 2 ^ 8) (omega arith)
fitted-low Uchar v = omega arith
fitted-low Short v = short_low (v % 2 ^ 16) (omega arith)
fitted-low Ushort v = omega arith
fitted-low Int v = omega arith
fitted-low Uint v = omega arith

-- and depends on them alone
pub fitted-mod : (elem : Elem) (v : ℕ) → fitted elem (v % 256 ^ elem_bytes elem) ≡ fitted elem v
fitted-mod Char v = ap (λ (n : ℕ). word_of (signed_in 8 n)) (mod-mod v 256)
fitted-mod Uchar v = omega arith
fitted-mod Short v = ap (λ (n : ℕ). word_of (signed_in 16 n)) (mod-mod v 65536)
fitted-mod Ushort v = omega arith
fitted-mod Int v = omega arith
fitted-mod Uint v = omega arith

-- a word cut to four bytes is itself
pub fitted-word : (elem : Elem) (v : ℕ) → elem_bytes elem ≡ 4 → v < 2 ^ 32 → fitted elem v ≡ v
fitted-word Char v four word = absurd (omega arith)
fitted-word Uchar v four word = absurd (omega arith)
fitted-word Short v four word = absurd (omega arith)
fitted-word Ushort v four word = absurd (omega arith)
fitted-word Int v four word = mod-eq_of_lt word
fitted-word Uint v four word = mod-eq_of_lt word
