-- Laws of words and their bits that the operations of operators rest on.
use Rattle.std.proofs.Common.{◌≡◌, ℕ, zero, suc, ◌+◌, ◌-◌, ◌*◌, ◌<◌, ◌≤◌, ◌^◌, ◌%◌, ◌/◌, Bool, true, false, nat_lt, pos, negsuc, ◌-ℤ◌, refl, ap, sym, ◌∙◌, arith, inl, inr, ne_eqb, eq-eqb, lt-ltb, le-ltb}
use Rattle.std.specs.Prelude.{bit_and, bit_xor, ◌==◌, if◌then◌else◌, int_lt}
use Rattle.std.specs.Int.Bits.{xor_self, xor_zero_l, xor_zero_r, xor_add_and, xor_assoc, and_zero_r}
use Rattle.std.proofs.lemmas.Bool.{cases_eq}
use Rattle.std.proofs.lemmas.Int.{ints}
use Rattle.std.proofs.lemmas.Nat.{and_mask}
use Rattle.vx_base.specs.Values.{alu_value_of, floor_div, signed_of, word_of, all_ones}
use Rattle.vx_base.specs.declared.types.Alu.TheVariants as alu
use Rattle.ocl_program.specs.Values.{by_type, truth}

-- ---- bits

-- all ones leave a word as it is
pub and_ones : (a : ℕ) → a < 2 ^ 32 → bit_and a all_ones ≡ a
and_ones a below = let cut : bit_and a all_ones ≡ a % 2 ^ 32 = and_mask a 32 in omega arith

pub xor_again : (a b : ℕ) → bit_xor a (bit_xor a b) ≡ b
xor_again a b = sym (xor_assoc a a b) ∙ ap (λ x. bit_xor x b) (xor_self a) ∙ xor_zero_l b

-- numbers whose bits do not differ are equal
pub xor_none : (a b : ℕ) → bit_xor a b ≡ 0 → a ≡ b
xor_none a b e = sym (xor_zero_r a) ∙ ap (λ x. bit_xor a x) (sym e) ∙ xor_again a b

-- a word with all its bits changed
pub xor_ones : (a : ℕ) → a < 2 ^ 32 → bit_xor a all_ones ≡ all_ones - a
xor_ones a below =
    let sum : bit_xor a all_ones + bit_and a all_ones * 2 ≡ a + all_ones = xor_add_and a all_ones in
    let kept : bit_and a all_ones ≡ a = and_ones a below in
    omega arith

-- ---- truths

-- the opposite of 1 or 0
pub inverse : (b : Bool) → bit_xor (if b then 1 else 0) 1 ≡ 1 - (if b then 1 else 0)
inverse true = refl
inverse false = refl

-- less by type, as 1 or 0
abbrev pub less : Bool → ℕ → ℕ → Bool
less true a b = nat_lt a b
less false a b = int_lt (signed_of a) (signed_of b)

pub less_value : (unsigned : Bool) (a b : ℕ) → alu_value_of (by_type unsigned alu.Sltu alu.Slt) a b ≡ (if less unsigned a b then 1 else 0)
less_value true a b = refl
less_value false a b = refl

pub not_less : (unsigned : Bool) (a b : ℕ) → bit_xor (alu_value_of (by_type unsigned alu.Sltu alu.Slt) a b) 1 ≡ 1 - alu_value_of (by_type unsigned alu.Sltu alu.Slt) a b
not_less unsigned a b = ap (λ x. bit_xor x 1) (less_value unsigned a b) ∙ inverse (less unsigned a b) ∙ ap (λ x. 1 - x) (sym (less_value unsigned a b))

-- whether a word is 0
pub is_zero : (a : ℕ) → alu_value_of alu.Sltu a 1 ≡ truth (a == 0)
is_zero zero = refl
is_zero (suc a) = ap (λ (b : Bool). if b then 1 else 0) (le-ltb (suc a) 1 (omega arith)) ∙ ap truth (sym (ne_eqb (suc a) 0 (λ e. absurd (omega arith))))

-- and whether it is not
pub is_some : (a : ℕ) → alu_value_of alu.Sltu 0 a ≡ (if a == 0 then 0 else 1)
is_some zero = refl
is_some (suc a) = ap (λ (b : Bool). if b then 1 else 0) (lt-ltb 0 (suc a) (omega arith)) ∙ ap (λ (b : Bool). if b then 0 else 1) (sym (ne_eqb (suc a) 0 (λ e. absurd (omega arith))))

-- words are equal where their bits do not differ
pub same_bits : (a b : ℕ) → (bit_xor a b == 0) ≡ (a == b)
same_bits a b = elim (cases_eq a b) [
  | inl same ↦ ap (λ x. bit_xor a x == 0) (sym same) ∙ eq-eqb (bit_xor a a) 0 (xor_self a) ∙ sym (eq-eqb a b same)
  | inr other ↦ ne_eqb (bit_xor a b) 0 (λ e. other (xor_none a b e)) ∙ sym (ne_eqb a b other)
]

-- ---- one of two

-- a mask of all ones, or of none
abbrev pub mask : Bool → ℕ
mask true = all_ones
mask false = 0

pub mask_of : (b : Bool) → alu_value_of alu.Sub 0 (if b then 1 else 0) ≡ mask b
mask_of true = refl
mask_of false = refl

pub picked : (b : Bool) (x y : ℕ) → bit_xor x y < 2 ^ 32 → bit_xor x (bit_and (bit_xor x y) (mask b)) ≡ (if b then y else x)
picked true x y below = ap (λ z. bit_xor x z) (and_ones (bit_xor x y) below) ∙ xor_again x y
picked false x y below = ap (λ z. bit_xor x z) (and_zero_r (bit_xor x y)) ∙ xor_zero_r x

-- ---- the magnitude

-- the sign of a word, in all its bits
read_low : (x : ℕ) → x < 2 ^ 31 → signed_of x ≡ pos x
read_low x low = grind (arith, ints)

read_high : (x : ℕ) → 2 ^ 31 ≤ x → x < 2 ^ 32 → signed_of x ≡ negsuc (all_ones - x)
read_high x high below = grind (arith, ints)

pub sign_low : (x : ℕ) → x < 2 ^ 31 → alu_value_of alu.Sra x 31 ≡ 0
sign_low x low =
    let none : x / 2 ^ 31 ≡ 0 = omega arith in
    ap (λ z. word_of (floor_div z (2 ^ 31))) (read_low x low) ∙ ap (λ (q : ℕ). word_of (pos q)) none

pub sign_high : (x : ℕ) → 2 ^ 31 ≤ x → x < 2 ^ 32 → alu_value_of alu.Sra x 31 ≡ all_ones
sign_high x high below =
    let none : (all_ones - x) / 2 ^ 31 ≡ 0 = omega arith in
    ap (λ z. word_of (floor_div z (2 ^ 31))) (read_high x high below) ∙ ap (λ (q : ℕ). word_of (negsuc q)) none

pub negated : (x : ℕ) → 2 ^ 31 ≤ x → x < 2 ^ 32 → word_of (pos (all_ones - x) -ℤ pos all_ones) ≡ word_of (pos 0 -ℤ pos x)
negated x high below = grind (arith, ints)

pub taken_off : (x : ℕ) → x < 2 ^ 32 → word_of (pos x -ℤ pos 0) ≡ x
taken_off x below = grind (arith, ints)

pub is_negative : (x : ℕ) → 2 ^ 31 ≤ x → x < 2 ^ 32 → int_lt (signed_of x) (signed_of 0) ≡ true
is_negative x high below = grind (arith, ints)

pub not_negative : (x : ℕ) → x < 2 ^ 31 → int_lt (signed_of x) (signed_of 0) ≡ false
not_negative x low = grind (arith, ints)
