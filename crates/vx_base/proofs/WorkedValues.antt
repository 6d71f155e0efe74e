-- The definitions at values worked by hand: 4294967295 is the word of -1, 4294967289 that of -7, and 2147483648 that of -(2 ^ 31).
use Rattle.std.proofs.Common.{◌≡◌, refl}
use Rattle.vx_base.specs.Values.{alu_value_of, fitted}
use Rattle.vx_base.specs.declared.types.Alu.TheVariants.{Sll, Sra, Mulh, Mulhsu, Mulhu, Div, Rem}
use Rattle.vx_base.specs.declared.types.Elem.TheVariants.{Char, Uchar, Short}

-- 7 / 0, -7 % 0, -(2 ^ 31) / -1, -(2 ^ 31) % -1, -7 / 2 and -7 % 2
divisions : (alu_value_of Div 7 0 ≡ 4294967295) × (alu_value_of Rem 4294967289 0 ≡ 4294967289)
    × (alu_value_of Div 2147483648 4294967295 ≡ 2147483648) × (alu_value_of Rem 2147483648 4294967295 ≡ 0)
    × (alu_value_of Div 4294967289 2 ≡ 4294967293) × (alu_value_of Rem 4294967289 2 ≡ 4294967295)
divisions = (refl, refl, refl, refl, refl, refl)

-- 1 << 33 and -7 >> 1, and the high words of all ones by all ones: of 1, of -(2 ^ 32 - 1) and of (2 ^ 32 - 1) ^ 2
shifts_and_high_words : (alu_value_of Sll 1 33 ≡ 2) × (alu_value_of Sra 4294967289 1 ≡ 4294967292)
    × (alu_value_of Mulh 4294967295 4294967295 ≡ 0) × (alu_value_of Mulhsu 4294967295 4294967295 ≡ 4294967295)
    × (alu_value_of Mulhu 4294967295 4294967295 ≡ 4294967294)
shifts_and_high_words = (refl, refl, refl, refl, refl)

-- 255 as a char is -1, 300 as a uchar 44, and 32768 as a short -32768
cuts : (fitted Char 255 ≡ 4294967295) × (fitted Uchar 300 ≡ 44) × (fitted Short 32768 ≡ 4294934528)
cuts = (refl, refl, refl)
