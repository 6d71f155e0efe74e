-- What is computed of the three numbers that are kept of an id.
use Rattle.std.proofs.Common.{◌≡◌, ℕ, zero, suc, ◌+◌, ◌-◌, ◌*◌, ◌%◌, ◌^◌, ◌<◌, ◌≤◌, refl, ap, sym, ◌∙◌, arith, le-ltb}
use Rattle.std.specs.Prelude.{if◌then◌else◌}
use Rattle.std.proofs.lemmas.Int.{ints}
use Rattle.vx_base.specs.Values.{alu_value_of}
use Rattle.vx_base.specs.declared.types.Alu.TheVariants.{Add, Sub, Mul, Srl, Sltu}

-- a difference of words
pub difference : (a b : ℕ) → a < 2 ^ 32 → b < 2 ^ 32 → alu_value_of Sub a b ≡ (a + (2 ^ 32 - b)) % 2 ^ 32
difference a b low low' = grind (arith, ints)

-- a product with 0, and with 1
no_bits : (a : ℕ) → (a * 0) % 2 ^ 32 ≡ 0
no_bits a = omega arith

no_product : (a b : ℕ) → b ≡ 0 → alu_value_of Mul a b ≡ 0
no_product a b e = ap (λ x. (a * x) % 2 ^ 32) e ∙ no_bits a

one_product : (a x : ℕ) → a ≡ x → x < 2 ^ 32 → alu_value_of Mul a 1 ≡ x
one_product a x e small = omega arith

-- the second and the third of three words are kept so
abbrev pub second_kept : ℕ → ℕ → ℕ
second_kept x0 x1 = alu_value_of Sub x1 x0

abbrev pub third_kept : ℕ → ℕ → ℕ → ℕ
third_kept x0 x1 x2 = alu_value_of Sub (alu_value_of Sub x2 x1) (alu_value_of Sub x1 x0)

pub second_is : (x0 x1 : ℕ) → x0 < 2 ^ 32 → x1 < 2 ^ 32 → alu_value_of Add x0 (second_kept x0 x1) ≡ x1
second_is x0 x1 low low' = let e : second_kept x0 x1 ≡ (x1 + (2 ^ 32 - x0)) % 2 ^ 32 = difference x1 x0 low' low in omega arith

module _ (x0 x1 x2 : ℕ) (low : x0 < 2 ^ 32) (low' : x1 < 2 ^ 32) (low'' : x2 < 2 ^ 32) where
  third_word : (c1 c2 : ℕ) → c1 ≡ second_kept x0 x1 → c2 ≡ third_kept x0 x1 x2 → (c1 ≡ (x1 + (2 ^ 32 - x0)) % 2 ^ 32) × (c2 ≡ ((x2 + (2 ^ 32 - x1)) % 2 ^ 32 + (2 ^ 32 - c1)) % 2 ^ 32)
  third_word c1 c2 e e' =
      let first : second_kept x0 x1 ≡ (x1 + (2 ^ 32 - x0)) % 2 ^ 32 = difference x1 x0 low' low in
      let second : alu_value_of Sub x2 x1 ≡ (x2 + (2 ^ 32 - x1)) % 2 ^ 32 = difference x2 x1 low'' low' in
      let third : third_kept x0 x1 x2 ≡ (alu_value_of Sub x2 x1 + (2 ^ 32 - second_kept x0 x1)) % 2 ^ 32 = difference (alu_value_of Sub x2 x1) (second_kept x0 x1) (omega arith) (omega arith) in
      (e ∙ first, omega arith)

  pub third_is : alu_value_of Add (alu_value_of Add (alu_value_of Add (second_kept x0 x1) (second_kept x0 x1)) (third_kept x0 x1 x2)) x0 ≡ x2
  third_is =
      let parts = third_word (second_kept x0 x1) (third_kept x0 x1 x2) refl refl in
      let first : second_kept x0 x1 ≡ (x1 + (2 ^ 32 - x0)) % 2 ^ 32 = parts.0 in
      let second : third_kept x0 x1 x2 ≡ ((x2 + (2 ^ 32 - x1)) % 2 ^ 32 + (2 ^ 32 - second_kept x0 x1)) % 2 ^ 32 = parts.1 in
      omega arith

  -- the id of a dimension that is not known
  abbrev pub picked : ℕ → ℕ
  picked d = alu_value_of Mul (alu_value_of Add (alu_value_of Add (alu_value_of Mul d (second_kept x0 x1)) (alu_value_of Mul (alu_value_of Srl d 1) (third_kept x0 x1 x2))) x0) (alu_value_of Sltu d 3)

  pub picked_is : (x : ℕ → ℕ) (d : ℕ) → x 0 ≡ x0 → x 1 ≡ x1 → x 2 ≡ x2 → ((d : ℕ) → 3 ≤ d → x d ≡ 0) → picked d ≡ x d
  picked_is x zero e e' e'' none = let h : picked 0 ≡ x0 = omega arith in h ∙ sym e
  picked_is x (suc zero) e e' e'' none =
      let parts = third_word (second_kept x0 x1) (third_kept x0 x1 x2) refl refl in
      let first : second_kept x0 x1 ≡ (x1 + (2 ^ 32 - x0)) % 2 ^ 32 = parts.0 in
      let h : picked 1 ≡ x1 = omega arith in h ∙ sym e'
  picked_is x (suc (suc zero)) e e' e'' none =
      let parts = third_word (second_kept x0 x1) (third_kept x0 x1 x2) refl refl in
      let first : second_kept x0 x1 ≡ (x1 + (2 ^ 32 - x0)) % 2 ^ 32 = parts.0 in
      let second : third_kept x0 x1 x2 ≡ ((x2 + (2 ^ 32 - x1)) % 2 ^ 32 + (2 ^ 32 - second_kept x0 x1)) % 2 ^ 32 = parts.1 in
      let h : picked 2 ≡ x2 = omega arith in h ∙ sym e''
  picked_is x (suc (suc (suc d))) e e' e'' none =
      let dark : alu_value_of Sltu (suc (suc (suc d))) 3 ≡ 0 = ap (λ b. if b then 1 else 0) (le-ltb (suc (suc (suc d))) 3 (omega arith)) in
      no_product _ _ dark ∙ sym (none (suc (suc (suc d))) (omega arith))

-- ---- words of the block by a dimension that is not known

-- the index is 0 past the third dimension
abbrev pub inside : ℕ → ℕ
inside d = alu_value_of Mul d (alu_value_of Sltu d 3)

abbrev pub group_picked : (ℕ → ℕ) → ℕ → ℕ
group_picked word d = alu_value_of Mul (word (inside d)) (alu_value_of Sltu d 3)

pub group_is : (word x : ℕ → ℕ) (d : ℕ) → ((d : ℕ) → d < 3 → word d ≡ x d) → ((d : ℕ) → d < 3 → x d < 2 ^ 32) → ((d : ℕ) → 3 ≤ d → x d ≡ 0) → group_picked word d ≡ x d
group_is word x zero e small none = one_product (word 0) (x 0) (e 0 (omega arith)) (small 0 (omega arith))
group_is word x (suc zero) e small none = one_product (word 1) (x 1) (e 1 (omega arith)) (small 1 (omega arith))
group_is word x (suc (suc zero)) e small none = one_product (word 2) (x 2) (e 2 (omega arith)) (small 2 (omega arith))
group_is word x (suc (suc (suc d))) e small none =
    no_product (word (inside (suc (suc (suc d))))) _ (ap (λ b. if b then 1 else 0) (le-ltb (suc (suc (suc d))) 3 (omega arith))) ∙ sym (none (suc (suc (suc d))) (omega arith))

abbrev pub size_picked : (ℕ → ℕ) → ℕ → ℕ
size_picked word d = alu_value_of Add (alu_value_of Mul (alu_value_of Sub (word (inside d)) 1) (alu_value_of Sltu d 3)) 1

size_one : (a x : ℕ) → a ≡ x → x < 2 ^ 32 → alu_value_of Add (alu_value_of Mul (alu_value_of Sub a 1) 1) 1 ≡ x
size_one a x e small =
    let h : alu_value_of Sub a 1 ≡ (a + (2 ^ 32 - 1)) % 2 ^ 32 = difference a 1 (omega arith) (omega arith) in
    omega arith

pub size_is : (word x : ℕ → ℕ) (d : ℕ) → ((d : ℕ) → d < 3 → word d ≡ x d) → ((d : ℕ) → d < 3 → x d < 2 ^ 32) → ((d : ℕ) → 3 ≤ d → x d ≡ 1) → size_picked word d ≡ x d
size_is word x zero e small one = size_one (word 0) (x 0) (e 0 (omega arith)) (small 0 (omega arith))
size_is word x (suc zero) e small one = size_one (word 1) (x 1) (e 1 (omega arith)) (small 1 (omega arith))
size_is word x (suc (suc zero)) e small one = size_one (word 2) (x 2) (e 2 (omega arith)) (small 2 (omega arith))
size_is word x (suc (suc (suc d))) e small one =
    ap (λ a. alu_value_of Add a 1) (no_product (alu_value_of Sub (word (inside (suc (suc (suc d))))) 1) _ (ap (λ b. if b then 1 else 0) (le-ltb (suc (suc (suc d))) 3 (omega arith))))
    ∙ sym (one (suc (suc (suc d))) (omega arith))
