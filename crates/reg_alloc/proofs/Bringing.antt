-- The words that bring an operand into a register: they change that register alone, and it has the operand's value then.
use Rattle.std.proofs.Common.{◌≡◌, ℕ, zero, suc, ◌+◌, ◌*◌, ◌%◌, ◌^◌, ◌<◌, Bool, true, false, ◌&&◌, nat_eq, nat_lt, if◌then◌else◌, List, ◌∷◌, ap, sym, subst, ◌∙◌, arith, refl}
use Rattle.std.proofs.Math.Path.{fun_ext}
use Rattle.vx_base.specs.Values.{alu_value_of}
use Rattle.vx_base.specs.declared.types.Alu.TheVariants as alu
use Rattle.kir.specs.Machine.{value}
use Rattle.kir.specs.Numbered.{IsBelow}
use Rattle.kir.specs.Trees.{Operand, VariableOf, NumberOf}
use Rattle.vx_isa.specs.Warps.{Registers, value_in, with_register}
use Rattle.vcode.specs.Machine.{Around}
use Rattle.reg_alloc.specs.Plain.{Held, Plain, AddTo, High, do_all, does, held, lower, set, upper}
use Rattle.reg_alloc.specs.Blocks.{operand_before, pair_before, register_of}
use Rattle.reg_alloc.proofs.Goings.{ReachAll}

-- the lane once they are done
abbrev pub brought : ℕ → Operand → Held → Held
brought rd (VariableOf r) h = set rd (h.frame r % 2 ^ 32) h
brought rd (NumberOf zero) h = h
brought rd (NumberOf (suc n)) h = set rd (suc n) h

-- two words that bring a number bring all of it
whole : (n : ℕ) → n < 2 ^ 32 → alu_value_of alu.Add (upper n * 2 ^ 12 % 2 ^ 32) (lower n) ≡ n
whole n low = grind (arith, low)

either : (b : Bool) (v u x : ℕ) → (if b then v else if b then u else x) ≡ (if b then v else x)
either true v u x = refl
either false v u x = refl

small_sum : (n : ℕ) → n < 2 ^ 32 → (0 + n) % 2 ^ 32 ≡ n
small_sum n low = omega (arith, low)

-- the frame is as it was
pub frame_kept : (rd : ℕ) (a : Operand) (h : Held) → (brought rd a h).frame ≡ h.frame
frame_kept rd (VariableOf r) h = refl
frame_kept rd (NumberOf zero) h = refl
frame_kept rd (NumberOf (suc n)) h = refl

-- a register's word is in a frame whose address stands in its register; a number is in none
abbrev pub IsBased : ℕ → Held → Operand → Type 0
IsBased start h (VariableOf r) = h.registers 4 ≡ start
IsBased start h (NumberOf n) = Unit {0}

pub based_for : (start : ℕ) (h : Held) (a : Operand) → h.registers 4 ≡ start → IsBased start h a
based_for start h (VariableOf r) based = based
based_for start h (NumberOf n) based = tt

module _ (rd : ℕ) (same : nat_eq rd rd ≡ true) (some : nat_eq rd 0 ≡ false) (low : (nat_lt 0 rd && nat_lt rd 32) ≡ true) where
  pub has_value : (v : ℕ) (xs : Registers) → value_in (with_register rd v xs) rd ≡ v
  has_value v xs = rw some (rw same (rw low refl))

  twice : (u v : ℕ) (h : Held) → set rd v (set rd u h) ≡ set rd v h
  twice u v h = ap (λ xs. held xs h.frame) (fun_ext (λ r. either (nat_eq r rd && (nat_lt 0 rd && nat_lt rd 32)) v u (h.registers r)))

  pair_done : (at : Around) (n : ℕ) (h : Held) → n < 2 ^ 32 → does at (AddTo rd rd (lower n)) (does at (High rd (upper n)) h) ≡ set rd n h
  pair_done at n h less =
      let high = upper n * 2 ^ 12 % 2 ^ 32 in
      ap (λ x. set rd (alu_value_of alu.Add x (lower n)) (set rd high h)) (has_value high h.registers)
      ∙ ap (λ x. set rd x (set rd high h)) (whole n less) ∙ twice high n h

  pub pair_brings : (at : Around) (n : ℕ) (ws : List Plain) (h : Held) → n < 2 ^ 32 → do_all at (pair_before rd n ws) h ≡ do_all at ws (set rd n h)
  pair_brings at n ws h less = ap (do_all at ws) (pair_done at n h less)

  pub operand_brings : (at : Around) (slots : ℕ) (a : Operand) (ws : List Plain) (h : Held) → IsBelow slots a → do_all at (operand_before rd a ws) h ≡ do_all at ws (brought rd a h)
  operand_brings at slots (VariableOf r) ws h less = refl
  operand_brings at slots (NumberOf zero) ws h less = refl
  operand_brings at slots (NumberOf (suc n)) ws h less =
      let pair = pair_brings at (suc n) ws h less in
      elim (nat_lt n 2047) as (λ b. do_all at (if b then AddTo rd 0 (suc n) ∷ ws else pair_before rd (suc n) ws) h ≡ do_all at ws (set rd (suc n) h)) [
        | true ↦ ap (λ v. do_all at ws (set rd v h)) (small_sum (suc n) less)
        | false ↦ pair
      ]

  -- they reach what they read
  pub operand_reaches : (at : Around) (slots start : ℕ) (a : Operand) (ws : List Plain) (h : Held) → IsBelow slots a → IsBased start h a
      → ReachAll slots start at ws (brought rd a h) → ReachAll slots start at (operand_before rd a ws) h
  operand_reaches at slots start (VariableOf r) ws h less based reach = ((based, less), reach)
  operand_reaches at slots start (NumberOf zero) ws h less based reach = reach
  operand_reaches at slots start (NumberOf (suc n)) ws h less based reach =
      let one = subst (λ v. ReachAll slots start at ws (set rd v h)) (sym (small_sum (suc n) less)) reach in
      let two = subst (ReachAll slots start at ws) (sym (pair_done at (suc n) h less)) reach in
      elim (nat_lt n 2047) as (λ b. ReachAll slots start at (if b then AddTo rd 0 (suc n) ∷ ws else pair_before rd (suc n) ws) h) [
        | true ↦ (tt, one)
        | false ↦ (tt, (tt, two))
      ]

  -- the register of an operand has its value
  pub operand_value : (a : Operand) (h : Held) → value h.frame a < 2 ^ 32 → value_in (brought rd a h).registers (register_of rd a) ≡ value h.frame a
  operand_value (VariableOf r) h word = has_value (h.frame r % 2 ^ 32) h.registers ∙ omega (arith, word)
  operand_value (NumberOf zero) h word = refl
  operand_value (NumberOf (suc n)) h word = has_value (suc n) h.registers

  -- every other register is as it was
  pub others_kept : (a : Operand) (h : Held) (r : ℕ) → nat_eq r rd ≡ false → (brought rd a h).registers r ≡ h.registers r
  others_kept (VariableOf k) h r other = rw other refl
  others_kept (NumberOf zero) h r other = refl
  others_kept (NumberOf (suc n)) h r other = rw other refl
