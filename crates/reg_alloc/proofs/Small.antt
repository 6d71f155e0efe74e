-- Small numbers, and numbers to shift by.
use Rattle.std.proofs.Common.{◌≡◌, ℕ, zero, suc, ◌<◌, ◌≤◌, ◌≢◌, true, false, nat_lt, if◌then◌else◌, ap, refl, arith}
use Rattle.vx_base.specs.declared.types.Alu.TheVariants as alu
use Rattle.kir.specs.Trees.{Operand, VariableOf, NumberOf}
use Rattle.vcode.specs.Words.{number_words, right_words}

below_ltb : (a b : ℕ) → a < b → nat_lt a b ≡ true
below_ltb a b less = grind (arith, less)

above_ltb : (a b : ℕ) → b ≤ a → nat_lt a b ≡ false
above_ltb a b more = grind (arith, more)

pub small_words : (n : ℕ) → n ≢ 0 → n ≤ 2047 → number_words n ≡ 1
small_words zero some low = absurd (some refl)
small_words (suc n) some low = ap (λ b. if b then 1 else 2) (below_ltb n 2047 (omega (arith, low)))

pub large_words : (n : ℕ) → 2047 < n → number_words n ≡ 2
large_words zero high = absurd (omega (arith, high))
large_words (suc n) high = ap (λ b. if b then 1 else 2) (above_ltb n 2047 (omega (arith, high)))

pub right_amount_words : (a : Operand) → (right_words alu.Srl a ≡ right_words alu.Sll a) × (right_words alu.Sra a ≡ right_words alu.Sll a)
right_amount_words (VariableOf r) = (refl, refl)
right_amount_words (NumberOf n) = (refl, refl)
