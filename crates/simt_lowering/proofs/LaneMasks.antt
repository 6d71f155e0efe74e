-- The mask of the lanes that have an item.
use Rattle.std.proofs.Common.{◌≡◌, ℕ, zero, suc, ◌+◌, ◌-◌, ◌*◌, ◌/◌, ◌%◌, ◌^◌, ◌<◌, ◌≤◌, ◌⊎◌, inl, inr, true, false, nat_eq, refl, ap, sym, ◌∙◌, arith, lt-ltb, le-ltb, eq-eqb}
use Rattle.std.specs.Prelude.{if◌then◌else◌}
use Rattle.std.proofs.Math.Nat.{div-div-eq-div-mul, zero-div}
use Rattle.std.proofs.lemmas.Nat.{pow-add}
use Rattle.vx_base.specs.Values.{alu_value_of}
use Rattle.vx_base.specs.declared.types.Alu.TheVariants.{Sub, Mul, Srl, Sltu}
use Rattle.vx_isa.specs.Warps.{has_lane}
use Rattle.simt_lowering.proofs.IdWords.{difference}

-- each of the 32 bits of a word of ones is 1
ones_bit : (k : ℕ) → k < 32 → (0xffffffff / 2 ^ k) % 2 ≡ 1
ones_bit zero low = refl
ones_bit (suc zero) low = refl
ones_bit (suc (suc zero)) low = refl
ones_bit (suc (suc (suc zero))) low = refl
ones_bit (suc (suc (suc (suc zero)))) low = refl
ones_bit (suc (suc (suc (suc (suc zero))))) low = refl
ones_bit (suc (suc (suc (suc (suc (suc zero)))))) low = refl
ones_bit (suc (suc (suc (suc (suc (suc (suc zero))))))) low = refl
ones_bit (suc (suc (suc (suc (suc (suc (suc (suc zero)))))))) low = refl
ones_bit (suc (suc (suc (suc (suc (suc (suc (suc (suc zero))))))))) low = refl
ones_bit (suc (suc (suc (suc (suc (suc (suc (suc (suc (suc zero)))))))))) low = refl
ones_bit (suc (suc (suc (suc (suc (suc (suc (suc (suc (suc (suc zero))))))))))) low = refl
ones_bit (suc (suc (suc (suc (suc (suc (suc (suc (suc (suc (suc (suc zero)))))))))))) low = refl
ones_bit (suc (suc (suc (suc (suc (suc (suc (suc (suc (suc (suc (suc (suc zero))))))))))))) low = refl
ones_bit (suc (suc (suc (suc (suc (suc (suc (suc (suc (suc (suc (suc (suc (suc zero)))))))))))))) low = refl
ones_bit (suc (suc (suc (suc (suc (suc (suc (suc (suc (suc (suc (suc (suc (suc (suc zero))))))))))))))) low = refl
ones_bit (suc (suc (suc (suc (suc (suc (suc (suc (suc (suc (suc (suc (suc (suc (suc (suc zero)))))))))))))))) low = refl
ones_bit (suc (suc (suc (suc (suc (suc (suc (suc (suc (suc (suc (suc (suc (suc (suc (suc (suc zero))))))))))))))))) low = refl
ones_bit (suc (suc (suc (suc (suc (suc (suc (suc (suc (suc (suc (suc (suc (suc (suc (suc (suc (suc zero)))))))))))))))))) low = refl
ones_bit (suc (suc (suc (suc (suc (suc (suc (suc (suc (suc (suc (suc (suc (suc (suc (suc (suc (suc (suc zero))))))))))))))))))) low = refl
ones_bit (suc (suc (suc (suc (suc (suc (suc (suc (suc (suc (suc (suc (suc (suc (suc (suc (suc (suc (suc (suc zero)))))))))))))))))))) low = refl
ones_bit (suc (suc (suc (suc (suc (suc (suc (suc (suc (suc (suc (suc (suc (suc (suc (suc (suc (suc (suc (suc (suc zero))))))))))))))))))))) low = refl
ones_bit (suc (suc (suc (suc (suc (suc (suc (suc (suc (suc (suc (suc (suc (suc (suc (suc (suc (suc (suc (suc (suc (suc zero)))))))))))))))))))))) low = refl
ones_bit (suc (suc (suc (suc (suc (suc (suc (suc (suc (suc (suc (suc (suc (suc (suc (suc (suc (suc (suc (suc (suc (suc (suc zero))))))))))))))))))))))) low = refl
ones_bit (suc (suc (suc (suc (suc (suc (suc (suc (suc (suc (suc (suc (suc (suc (suc (suc (suc (suc (suc (suc (suc (suc (suc (suc zero)))))))))))))))))))))))) low = refl
ones_bit (suc (suc (suc (suc (suc (suc (suc (suc (suc (suc (suc (suc (suc (suc (suc (suc (suc (suc (suc (suc (suc (suc (suc (suc (suc zero))))))))))))))))))))))))) low = refl
ones_bit (suc (suc (suc (suc (suc (suc (suc (suc (suc (suc (suc (suc (suc (suc (suc (suc (suc (suc (suc (suc (suc (suc (suc (suc (suc (suc zero)))))))))))))))))))))))))) low = refl
ones_bit (suc (suc (suc (suc (suc (suc (suc (suc (suc (suc (suc (suc (suc (suc (suc (suc (suc (suc (suc (suc (suc (suc (suc (suc (suc (suc (suc zero))))))))))))))))))))))))))) low = refl
ones_bit (suc (suc (suc (suc (suc (suc (suc (suc (suc (suc (suc (suc (suc (suc (suc (suc (suc (suc (suc (suc (suc (suc (suc (suc (suc (suc (suc (suc zero)))))))))))))))))))))))))))) low = refl
ones_bit (suc (suc (suc (suc (suc (suc (suc (suc (suc (suc (suc (suc (suc (suc (suc (suc (suc (suc (suc (suc (suc (suc (suc (suc (suc (suc (suc (suc (suc zero))))))))))))))))))))))))))))) low = refl
ones_bit (suc (suc (suc (suc (suc (suc (suc (suc (suc (suc (suc (suc (suc (suc (suc (suc (suc (suc (suc (suc (suc (suc (suc (suc (suc (suc (suc (suc (suc (suc zero)))))))))))))))))))))))))))))) low = refl
ones_bit (suc (suc (suc (suc (suc (suc (suc (suc (suc (suc (suc (suc (suc (suc (suc (suc (suc (suc (suc (suc (suc (suc (suc (suc (suc (suc (suc (suc (suc (suc (suc zero))))))))))))))))))))))))))))))) low = refl
ones_bit (suc (suc (suc (suc (suc (suc (suc (suc (suc (suc (suc (suc (suc (suc (suc (suc (suc (suc (suc (suc (suc (suc (suc (suc (suc (suc (suc (suc (suc (suc (suc (suc k)))))))))))))))))))))))))))))))) low = absurd (omega arith)

-- the bits of a word of ones that is shifted to the right
shifted_ones : (e lane : ℕ) → e + lane < 32 → has_lane (0xffffffff / 2 ^ e) lane ≡ true
shifted_ones e lane low =
    eq-eqb _ 1 (ap (λ x. x % 2) (div-div-eq-div-mul 0xffffffff (2 ^ e) (2 ^ lane) ∙ ap (λ x. 0xffffffff / x) (sym (pow-add 2 e lane))) ∙ ones_bit (e + lane) low)

-- the mask of so many lanes as there are items left, 32 at most
abbrev pub lanes_left : ℕ → ℕ
lanes_left left = alu_value_of Srl 0xffffffff (alu_value_of Mul (alu_value_of Sub 32 left) (alu_value_of Sltu left 32))

by_one : (a b : ℕ) → a ≡ b → b < 2 ^ 32 → (a * 1) % 2 ^ 32 ≡ b
by_one a b e low = omega arith

shift_of_few : (left : ℕ) → left < 32 → alu_value_of Mul (alu_value_of Sub 32 left) (alu_value_of Sltu left 32) ≡ 32 - left
shift_of_few left few =
    let gap : alu_value_of Sub 32 left ≡ (32 + (2 ^ 32 - left)) % 2 ^ 32 = difference 32 left (omega arith) (omega arith) in
    let one : alu_value_of Sltu left 32 ≡ 1 = ap (λ b. if b then 1 else 0) (lt-ltb left 32 few) in
    ap (λ x. (alu_value_of Sub 32 left * x) % 2 ^ 32) one ∙ by_one (alu_value_of Sub 32 left) (32 - left) (omega arith) (omega arith)

by_none : (a : ℕ) → (a * 0) % 2 ^ 32 ≡ 0
by_none a = omega arith

shift_of_many : (left : ℕ) → 32 ≤ left → alu_value_of Mul (alu_value_of Sub 32 left) (alu_value_of Sltu left 32) ≡ 0
shift_of_many left many = ap (λ x. (alu_value_of Sub 32 left * x) % 2 ^ 32) (ap (λ b. if b then 1 else 0) (le-ltb left 32 many)) ∙ by_none (alu_value_of Sub 32 left)

few_bits : (left lane e : ℕ) → e ≡ 32 - left → lane < left → left < 32 → has_lane (0xffffffff / 2 ^ (e % 32)) lane ≡ true
few_bits left lane e same low few =
    let uncut : e % 32 ≡ 32 - left = omega arith in
    ap (λ x. has_lane (0xffffffff / 2 ^ x) lane) uncut ∙ shifted_ones (32 - left) lane (omega arith)

pub lt_or_le : (a b : ℕ) → (a < b) ⊎ (b ≤ a)
lt_or_le a zero = inr (omega arith)
lt_or_le zero (suc b) = inl (omega arith)
lt_or_le (suc a) (suc b) = elim (lt_or_le a b) [
  | inl less ↦ inl (omega arith)
  | inr more ↦ inr (omega arith)
]

with_none : (lane : ℕ) → lane < 32 → 0 + lane < 32
with_none lane small = omega arith

-- a lane whose number is below the number of items that are left is in it
pub lane_stays : (left lane : ℕ) → lane < left → lane < 32 → has_lane (lanes_left left) lane ≡ true
lane_stays left lane low small = elim (lt_or_le left 32) [
  | inl few ↦ few_bits left lane _ (shift_of_few left few) low few
  | inr many ↦ ap (λ x. has_lane (0xffffffff / 2 ^ (x % 32)) lane) (shift_of_many left many) ∙ shifted_ones 0 lane (with_none lane small)
]

-- no lane is in the empty mask
pub none_stays : (lane : ℕ) → has_lane 0 lane ≡ false
none_stays lane = ap (λ x. nat_eq (x % 2) 1) (zero-div (2 ^ lane))
