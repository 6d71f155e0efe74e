-- The operands of each instruction of a kernel are in their ranges.
use Rattle.std.proofs.Common.{◌≡◌, ℕ, zero, suc, ◌*◌, ◌^◌, ◌<◌, ◌≤◌, true, false, nat_lt, if◌then◌else◌, List, [], ◌∷◌, subst, arith, refl, Some}
use Rattle.std.specs.Prelude.{◌&&◌, slice_get}
use Rattle.vx_base.specs.declared.types.Alu.{Alu}
use Rattle.vx_base.specs.declared.types.Alu.TheVariants as alu
use Rattle.kir.specs.Trees.{Operand, VariableOf, NumberOf}
use Rattle.kir.specs.Numbered.{IsBelow}
use Rattle.vx_isa.specs.Words.{Fits, is_place, is_register, is_signed}
use Rattle.vx_isa.specs.declared.instr.Instr.{Instr}
use Rattle.vx_isa.specs.declared.instr.Instr.TheVariants as instr
use Rattle.reg_alloc.specs.Plain.{Plain, AddTo, alu_instr, instr_of, lower, made, right, upper}
use Rattle.reg_alloc.specs.Blocks.{compute_word, distance, number_before, number_register, operand_before, pair_before, register_of, right_before, shift_before}

-- ---- ranges

below_ltb : (a b : ℕ) → a < b → nat_lt a b ≡ true
below_ltb a b less = grind (arith, less)

-- a small number is a signed one of twelve bits
pub small_signed : (n : ℕ) → n < 2048 → is_signed 12 n ≡ true
small_signed n less = rw (below_ltb n 2048 less) refl

pub lower_signed : (n : ℕ) → is_signed 12 (lower n) ≡ true
lower_signed n = grind arith

pub upper_below : (n : ℕ) → nat_lt (upper n) (2 ^ 20) ≡ true
upper_below n = below_ltb (upper n) (2 ^ 20) (omega arith)

pub distance_fits : (from to : ℕ) → from ≤ 65536 → to ≤ 65536 → is_place 21 (distance from to) ≡ true
distance_fits from to near near' = grind (arith, near, near')

-- ---- lists of instructions that fit

abbrev pub AllFit : List Instr → Type 0
AllFit [] = Unit {0}
AllFit (i ∷ is) = Fits i × AllFit is

abbrev pub PlainFit : List Plain → Type 0
PlainFit [] = Unit {0}
PlainFit (w ∷ ws) = Fits (instr_of w) × PlainFit ws

pub fits_at : (is : List Instr) → AllFit is → (k : ℕ) (i : Instr) → slice_get is k ≡ Some i → Fits i
fits_at [] all k i e = absurd (cc)
fits_at (x ∷ is) all zero i e = let same : x ≡ i = cc in subst (λ j. Fits j) same all.0
fits_at (x ∷ is) all (suc k) i e = fits_at is all.1 k i e

-- ---- single words

abbrev IsRegister : ℕ → Type 0
IsRegister r = is_register r ≡ true

pub slot_signed : (slots r : ℕ) → slots ≤ 256 → r < slots → is_signed 12 (4 * r) ≡ true
slot_signed slots r few less = small_signed (4 * r) (omega (arith, few, less))

pub register_fits : (rd : ℕ) (a : Operand) → IsRegister rd → IsRegister (register_of rd a)
register_fits rd (VariableOf r) h = h
register_fits rd (NumberOf zero) h = refl
register_fits rd (NumberOf (suc n)) h = h

pub alu_fits : (op : Alu) (rd a b : ℕ) → IsRegister rd → IsRegister a → IsRegister b → Fits (alu_instr op rd a b)
alu_fits alu.Add rd a b h h' h'' = rw h (rw h' h'')
alu_fits alu.Sub rd a b h h' h'' = rw h (rw h' h'')
alu_fits alu.Sll rd a b h h' h'' = rw h (rw h' h'')
alu_fits alu.Slt rd a b h h' h'' = rw h (rw h' h'')
alu_fits alu.Sltu rd a b h h' h'' = rw h (rw h' h'')
alu_fits alu.Xor rd a b h h' h'' = rw h (rw h' h'')
alu_fits alu.Srl rd a b h h' h'' = rw h (rw h' h'')
alu_fits alu.Sra rd a b h h' h'' = rw h (rw h' h'')
alu_fits alu.Or rd a b h h' h'' = rw h (rw h' h'')
alu_fits alu.And rd a b h h' h'' = rw h (rw h' h'')
alu_fits alu.Mul rd a b h h' h'' = rw h (rw h' h'')
alu_fits alu.Mulh rd a b h h' h'' = rw h (rw h' h'')
alu_fits alu.Mulhsu rd a b h h' h'' = rw h (rw h' h'')
alu_fits alu.Mulhu rd a b h h' h'' = rw h (rw h' h'')
alu_fits alu.Div rd a b h h' h'' = rw h (rw h' h'')
alu_fits alu.Divu rd a b h h' h'' = rw h (rw h' h'')
alu_fits alu.Rem rd a b h h' h'' = rw h (rw h' h'')
alu_fits alu.Remu rd a b h h' h'' = rw h (rw h' h'')

-- two registers and a number of twelve bits
pub signed_fits : (a b n : ℕ) → IsRegister a → IsRegister b → is_signed 12 n ≡ true → (is_register a && is_register b && is_signed 12 n) ≡ true
signed_fits a b n h h' h'' = rw h (rw h' h'')

-- ---- operands

pub pair_fits : (rd n : ℕ) (rest : List Plain) → IsRegister rd → PlainFit rest → PlainFit (pair_before rd n rest)
pair_fits rd n rest h fit = (rw h (upper_below n), (signed_fits rd rd (lower n) h h (lower_signed n), fit))

pub number_fits : (rd n : ℕ) (rest : List Plain) → IsRegister rd → PlainFit rest → PlainFit (number_before rd n rest)
number_fits rd zero rest h fit = fit
number_fits rd (suc n) rest h fit =
    elim (nat_lt n 2047) as (λ b. nat_lt n 2047 ≡ b → PlainFit (if b then AddTo rd 0 (suc n) ∷ rest else pair_before rd (suc n) rest)) [
      | true ↦ λ e. (signed_fits rd 0 (suc n) h refl (small_signed (suc n) (grind (arith, e))), fit)
      | false ↦ λ e. pair_fits rd (suc n) rest h fit
    ] refl

pub operand_fits : (slots rd : ℕ) (a : Operand) (rest : List Plain) → slots ≤ 256 → IsRegister rd → IsBelow slots a → PlainFit rest → PlainFit (operand_before rd a rest)
operand_fits slots rd (VariableOf r) rest few h less fit = (signed_fits rd 4 (4 * r) h refl (slot_signed slots r few less), fit)
operand_fits slots rd (NumberOf n) rest few h less fit = number_fits rd n rest h fit

shift_fits : (n : ℕ) (rest : List Plain) → PlainFit rest → PlainFit (shift_before n rest)
shift_fits n rest fit =
    let h = number_fits right n rest refl fit in
    elim (nat_lt n 32) as (λ b. PlainFit (if b then rest else number_before right n rest)) [
      | true ↦ fit
      | false ↦ h
    ]

pub right_fits : (slots : ℕ) (op : Alu) (a : Operand) (rest : List Plain) → slots ≤ 256 → IsBelow slots a → PlainFit rest → PlainFit (right_before op a rest)
right_fits slots alu.Add a rest few less fit = operand_fits slots right a rest few refl less fit
right_fits slots alu.Sub a rest few less fit = operand_fits slots right a rest few refl less fit
right_fits slots alu.Sll (VariableOf r) rest few less fit = operand_fits slots right (VariableOf r) rest few refl less fit
right_fits slots alu.Sll (NumberOf n) rest few less fit = shift_fits n rest fit
right_fits slots alu.Slt a rest few less fit = operand_fits slots right a rest few refl less fit
right_fits slots alu.Sltu a rest few less fit = operand_fits slots right a rest few refl less fit
right_fits slots alu.Xor a rest few less fit = operand_fits slots right a rest few refl less fit
right_fits slots alu.Srl (VariableOf r) rest few less fit = operand_fits slots right (VariableOf r) rest few refl less fit
right_fits slots alu.Srl (NumberOf n) rest few less fit = shift_fits n rest fit
right_fits slots alu.Sra (VariableOf r) rest few less fit = operand_fits slots right (VariableOf r) rest few refl less fit
right_fits slots alu.Sra (NumberOf n) rest few less fit = shift_fits n rest fit
right_fits slots alu.Or a rest few less fit = operand_fits slots right a rest few refl less fit
right_fits slots alu.And a rest few less fit = operand_fits slots right a rest few refl less fit
right_fits slots alu.Mul a rest few less fit = operand_fits slots right a rest few refl less fit
right_fits slots alu.Mulh a rest few less fit = operand_fits slots right a rest few refl less fit
right_fits slots alu.Mulhsu a rest few less fit = operand_fits slots right a rest few refl less fit
right_fits slots alu.Mulhu a rest few less fit = operand_fits slots right a rest few refl less fit
right_fits slots alu.Div a rest few less fit = operand_fits slots right a rest few refl less fit
right_fits slots alu.Divu a rest few less fit = operand_fits slots right a rest few refl less fit
right_fits slots alu.Rem a rest few less fit = operand_fits slots right a rest few refl less fit
right_fits slots alu.Remu a rest few less fit = operand_fits slots right a rest few refl less fit

-- a word that shifts by a number in it, or by a register
either_fits : (n : ℕ) (i j : Instr) → (nat_lt n 32 ≡ true → Fits i) → Fits j → Fits (if nat_lt n 32 then i else j)
either_fits n i j h h' =
    elim (nat_lt n 32) as (λ b. (b ≡ true → Fits i) → Fits (if b then i else j)) [
      | true ↦ λ f. f refl
      | false ↦ λ f. h'
    ] h

pub compute_fits : (op : Alu) (b : Operand) (a : ℕ) → IsRegister a → Fits (compute_word op b a)
compute_fits alu.Add b a h = alu_fits alu.Add made a (register_of right b) refl h (register_fits right b refl)
compute_fits alu.Sub b a h = alu_fits alu.Sub made a (register_of right b) refl h (register_fits right b refl)
compute_fits alu.Sll (VariableOf r) a h = rw h refl
compute_fits alu.Sll (NumberOf n) a h =
    either_fits n (instr.Slli made a n) (instr.Sll made a (number_register right n)) (λ less. rw h less) (alu_fits alu.Sll made a (number_register right n) refl h (register_fits right (NumberOf n) refl))
compute_fits alu.Slt b a h = alu_fits alu.Slt made a (register_of right b) refl h (register_fits right b refl)
compute_fits alu.Sltu b a h = alu_fits alu.Sltu made a (register_of right b) refl h (register_fits right b refl)
compute_fits alu.Xor b a h = alu_fits alu.Xor made a (register_of right b) refl h (register_fits right b refl)
compute_fits alu.Srl (VariableOf r) a h = rw h refl
compute_fits alu.Srl (NumberOf n) a h =
    either_fits n (instr.Srli made a n) (instr.Srl made a (number_register right n)) (λ less. rw h less) (alu_fits alu.Srl made a (number_register right n) refl h (register_fits right (NumberOf n) refl))
compute_fits alu.Sra (VariableOf r) a h = rw h refl
compute_fits alu.Sra (NumberOf n) a h =
    either_fits n (instr.Srai made a n) (instr.Sra made a (number_register right n)) (λ less. rw h less) (alu_fits alu.Sra made a (number_register right n) refl h (register_fits right (NumberOf n) refl))
compute_fits alu.Or b a h = alu_fits alu.Or made a (register_of right b) refl h (register_fits right b refl)
compute_fits alu.And b a h = alu_fits alu.And made a (register_of right b) refl h (register_fits right b refl)
compute_fits alu.Mul b a h = alu_fits alu.Mul made a (register_of right b) refl h (register_fits right b refl)
compute_fits alu.Mulh b a h = alu_fits alu.Mulh made a (register_of right b) refl h (register_fits right b refl)
compute_fits alu.Mulhsu b a h = alu_fits alu.Mulhsu made a (register_of right b) refl h (register_fits right b refl)
compute_fits alu.Mulhu b a h = alu_fits alu.Mulhu made a (register_of right b) refl h (register_fits right b refl)
compute_fits alu.Div b a h = alu_fits alu.Div made a (register_of right b) refl h (register_fits right b refl)
compute_fits alu.Divu b a h = alu_fits alu.Divu made a (register_of right b) refl h (register_fits right b refl)
compute_fits alu.Rem b a h = alu_fits alu.Rem made a (register_of right b) refl h (register_fits right b refl)
compute_fits alu.Remu b a h = alu_fits alu.Remu made a (register_of right b) refl h (register_fits right b refl)
