-- Two shifts cut a word to a type, and ten words find a lane's frame.
use Rattle.std.proofs.Common.{◌≡◌, ℕ, ◌+◌, ◌-◌, ◌*◌, ◌/◌, ◌%◌, ◌^◌, ◌<◌, ◌≤◌, ◌⊎◌, inl, inr, pos, negsuc, ap, sym, ◌∙◌, arith}
use Rattle.std.proofs.lemmas.Bool.{cases_lt}
use Rattle.std.proofs.lemmas.Int.{ints}
use Rattle.std.proofs.lemmas.Nat.{mul-mod, mul-mod_second}
use Rattle.vx_base.specs.Values.{alu_value_of, fitted, floor_div, signed_in, signed_of, word_of}
use Rattle.vx_base.specs.declared.types.Alu.TheVariants as alu
use Rattle.vx_base.specs.declared.types.Elem.{Elem}
use Rattle.vx_base.specs.declared.types.Elem.TheVariants as elem
use Rattle.vx_layout.specs.Addresses.{frame_of, frames_start}
use Rattle.reg_alloc.specs.Blocks.{spare_bits}
use Rattle.reg_alloc.specs.Plain.{lower, upper}

-- what the word that shifts right makes of a value
abbrev pub cut_value : Elem → ℕ → ℕ
cut_value elem.Char x = alu_value_of alu.Sra x 24
cut_value elem.Uchar x = alu_value_of alu.Srl x 24
cut_value elem.Short x = alu_value_of alu.Sra x 16
cut_value elem.Ushort x = alu_value_of alu.Srl x 16
cut_value elem.Int x = alu_value_of alu.Srl x 0
cut_value elem.Uint x = alu_value_of alu.Srl x 0

-- words, and fields of eight and of sixteen bits, read as signed numbers
word_low : (n : ℕ) → n < 2 ^ 31 → signed_of n ≡ pos n
word_low n low = grind (arith, ints)

word_high : (n : ℕ) → 2 ^ 31 ≤ n → n < 2 ^ 32 → signed_of n ≡ negsuc (2 ^ 32 - 1 - n)
word_high n high small = grind (arith, ints)

char_low : (n : ℕ) → n < 2 ^ 7 → signed_in 8 n ≡ pos n
char_low n low = grind (arith, ints)

char_high : (n : ℕ) → 2 ^ 7 ≤ n → n < 2 ^ 8 → signed_in 8 n ≡ negsuc (2 ^ 8 - 1 - n)
char_high n high small = grind (arith, ints)

short_low : (n : ℕ) → n < 2 ^ 15 → signed_in 16 n ≡ pos n
short_low n low = grind (arith, ints)

short_high : (n : ℕ) → 2 ^ 15 ≤ n → n < 2 ^ 16 → signed_in 16 n ≡ negsuc (2 ^ 16 - 1 - n)
short_high n high small = grind (arith, ints)

char_by : (v : ℕ) → v < 2 ^ 8 → (v < 2 ^ 7) ⊎ (2 ^ 7 ≤ v) → word_of (floor_div (signed_of (v * 2 ^ 24)) (2 ^ 24)) ≡ word_of (signed_in 8 v)
char_by v small (inl low) =
    let same : v * 2 ^ 24 / 2 ^ 24 ≡ v = omega arith in
    ap (λ z. word_of (floor_div z (2 ^ 24))) (word_low (v * 2 ^ 24) (omega (arith, low))) ∙ ap (λ (q : ℕ). word_of (pos q)) same ∙ ap word_of (sym (char_low v low))
char_by v small (inr high) =
    let same : (2 ^ 32 - 1 - v * 2 ^ 24) / 2 ^ 24 ≡ 2 ^ 8 - 1 - v = omega (arith, small, high) in
    ap (λ z. word_of (floor_div z (2 ^ 24))) (word_high (v * 2 ^ 24) (omega (arith, high)) (omega (arith, small))) ∙ ap (λ (q : ℕ). word_of (negsuc q)) same
    ∙ ap word_of (sym (char_high v high small))

short_by : (v : ℕ) → v < 2 ^ 16 → (v < 2 ^ 15) ⊎ (2 ^ 15 ≤ v) → word_of (floor_div (signed_of (v * 2 ^ 16)) (2 ^ 16)) ≡ word_of (signed_in 16 v)
short_by v small (inl low) =
    let same : v * 2 ^ 16 / 2 ^ 16 ≡ v = omega arith in
    ap (λ z. word_of (floor_div z (2 ^ 16))) (word_low (v * 2 ^ 16) (omega (arith, low))) ∙ ap (λ (q : ℕ). word_of (pos q)) same ∙ ap word_of (sym (short_low v low))
short_by v small (inr high) =
    let same : (2 ^ 32 - 1 - v * 2 ^ 16) / 2 ^ 16 ≡ 2 ^ 16 - 1 - v = omega (arith, small, high) in
    ap (λ z. word_of (floor_div z (2 ^ 16))) (word_high (v * 2 ^ 16) (omega (arith, high)) (omega (arith, small))) ∙ ap (λ (q : ℕ). word_of (negsuc q)) same
    ∙ ap word_of (sym (short_high v high small))

char_cut : (v : ℕ) → v < 2 ^ 8 → word_of (floor_div (signed_of (v * 2 ^ 24)) (2 ^ 24)) ≡ word_of (signed_in 8 v)
char_cut v small = char_by v small (cases_lt v (2 ^ 7))

short_cut : (v : ℕ) → v < 2 ^ 16 → word_of (floor_div (signed_of (v * 2 ^ 16)) (2 ^ 16)) ≡ word_of (signed_in 16 v)
short_cut v small = short_by v small (cases_lt v (2 ^ 15))

pub cut_fits : (e : Elem) (v : ℕ) → cut_value e (alu_value_of alu.Sll v (spare_bits e)) ≡ fitted e v
cut_fits elem.Char v =
    let high : v * 2 ^ 24 % 2 ^ 32 ≡ v % 2 ^ 8 * 2 ^ 24 = omega arith in
    ap (λ x. word_of (floor_div (signed_of x) (2 ^ 24))) high ∙ char_cut (v % 2 ^ 8) (omega arith)
cut_fits elem.Uchar v = let h : v * 2 ^ 24 % 2 ^ 32 / 2 ^ 24 ≡ v % 2 ^ 8 = omega arith in h
cut_fits elem.Short v =
    let high : v * 2 ^ 16 % 2 ^ 32 ≡ v % 2 ^ 16 * 2 ^ 16 = omega arith in
    ap (λ x. word_of (floor_div (signed_of x) (2 ^ 16))) high ∙ short_cut (v % 2 ^ 16) (omega arith)
cut_fits elem.Ushort v = let h : v * 2 ^ 16 % 2 ^ 32 / 2 ^ 16 ≡ v % 2 ^ 16 = omega arith in h
cut_fits elem.Int v = let h : v * 1 % 2 ^ 32 / 1 ≡ v % 2 ^ 32 = omega arith in h
cut_fits elem.Uint v = let h : v * 1 % 2 ^ 32 / 1 ≡ v % 2 ^ 32 = omega arith in h

-- the address that the words of a place where a warp may begin compute
pub frame_found : (w l number slots : ℕ) → frame_of w l number slots + 4 * slots < 2 ^ 32
    → alu_value_of alu.Add (alu_value_of alu.Mul (alu_value_of alu.Add (alu_value_of alu.Mul w (l % 2 ^ 32)) number) (alu_value_of alu.Add 0 (4 * slots))) (0x10080 * 2 ^ 12 % 2 ^ 32)
    ≡ frame_of w l number slots
frame_found w l number slots small =
    let all : ℕ = w * l + number in
    let one : (w * (l % 2 ^ 32)) % 2 ^ 32 ≡ (w * l) % 2 ^ 32 = mul-mod_second w l (2 ^ 32) in
    let two : ((w * (l % 2 ^ 32)) % 2 ^ 32 + number) % 2 ^ 32 ≡ all % 2 ^ 32 = omega (arith, one) in
    let three : (all % 2 ^ 32 * ((0 + 4 * slots) % 2 ^ 32)) % 2 ^ 32 ≡ (all * (0 + 4 * slots)) % 2 ^ 32 = sym (mul-mod all (0 + 4 * slots) (2 ^ 32)) in
    let four : all * (0 + 4 * slots) ≡ all * (4 * slots) = ap (λ n. all * n) (omega arith) in
    let less : frames_start + all * (4 * slots) + 4 * slots < 2 ^ 32 = small in
    let last : ((all * (0 + 4 * slots)) % 2 ^ 32 + 0x10080 * 2 ^ 12 % 2 ^ 32) % 2 ^ 32 ≡ frames_start + all * (4 * slots) = omega (arith, four, less) in
    ap (λ x. alu_value_of alu.Add (alu_value_of alu.Mul x (alu_value_of alu.Add 0 (4 * slots))) (0x10080 * 2 ^ 12 % 2 ^ 32)) two
    ∙ ap (λ x. alu_value_of alu.Add x (0x10080 * 2 ^ 12 % 2 ^ 32)) three ∙ last

-- two words that bring a number bring it as a word
pub whole_word : (n : ℕ) → alu_value_of alu.Add (upper n * 2 ^ 12 % 2 ^ 32) (lower n) ≡ n % 2 ^ 32
whole_word n = grind arith
