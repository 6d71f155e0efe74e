-- The numbers of a set in order, and what is left without the least.
use Rattle.std.proofs.Common.{◌≡◌, ℕ, zero, suc, ◌+◌, ◌^◌, ◌<◌, ◌≤◌, ◌≢◌, eqb, Bool, true, false, cond, inl, inr, [], ◌∷◌, length, ap, sym, ◌∙◌, subst, refl, arith, eq-eqb, ne_eqb, filter, bit_or}
use Rattle.std.specs.Int.{bit_at, w32, trailing_zeros}
use Rattle.std.specs.List.{range_with_len}
use Rattle.std.proofs.lemmas.Bool.{cases_eq}
use Rattle.std.proofs.lemmas.Nat.{or_lt}
use Rattle.std.proofs.lemmas.Nat.Bits.{bit_at-lt, bit_at-zero, bit_at_or, bit_at_clear_same, bit_at_clear_other, bit_at-trailing_zeros, same_from_bits_below}
use Rattle.memory_banks.specs.Rule.{Among, one_of, without}
use Rattle.memory_banks.specs.Ports.{in_order}
use Rattle.memory_banks.proofs.Sets.{among_below, among_one, only_one, one_below, without_among, not_without, among_without, without_below, least_among}

-- tests that agree from a on keep the same numbers
same_from : (p q : ℕ → Bool) (a n : ℕ) → ((j : ℕ) → a ≤ j → j < a + n → p j ≡ q j) → filter p (range_with_len a n) ≡ filter q (range_with_len a n)
same_from p q a zero agree = refl
same_from p q a (suc n) agree =
    let rest = same_from p q (a + 1) n (λ j from below. agree j (omega arith) (omega arith)) in
    let here : p a ≡ q a = agree a (omega arith) (omega arith) in
    λ i. cond (here i) (a ∷ rest i) (rest i)

-- the first number that passes, and then those that pass another test
first_passes : (p q : ℕ → Bool) (k a n : ℕ) → a ≤ k → k < a + n → p k ≡ true → ((j : ℕ) → j < k → p j ≡ false) → q k ≡ false → ((j : ℕ) → j ≢ k → j < a + n → p j ≡ q j)
    → filter p (range_with_len a n) ≡ k ∷ filter q (range_with_len a n)
first_passes p q k a zero from below here before gone agree = absurd (omega arith)
first_passes p q k a (suc n) from below here before gone agree =
    elim (cases_eq a k) [
      | inl same ↦
          let rest = same_from p q (a + 1) n (λ j start end. agree j (omega arith) (omega arith)) in
          let first : p a ≡ true = ap p same ∙ here in
          let first' : q a ≡ false = ap q same ∙ gone in
          ap (λ (b : Bool). cond b (a ∷ filter p (range_with_len (a + 1) n)) (filter p (range_with_len (a + 1) n))) first
          ∙ (λ i. same i ∷ rest i)
          ∙ ap (λ (b : Bool). k ∷ cond b (a ∷ filter q (range_with_len (a + 1) n)) (filter q (range_with_len (a + 1) n))) (sym first')
      | inr other ↦
          let rest = first_passes p q k (a + 1) n (omega arith) (omega arith) here before gone (λ j apart end. agree j apart (omega arith)) in
          let first : p a ≡ false = before a (omega arith) in
          let first' : q a ≡ false = sym (agree a other (omega arith)) ∙ first in
          ap (λ (b : Bool). cond b (a ∷ filter p (range_with_len (a + 1) n)) (filter p (range_with_len (a + 1) n))) first
          ∙ rest
          ∙ ap (λ (b : Bool). k ∷ cond b (a ∷ filter q (range_with_len (a + 1) n)) (filter q (range_with_len (a + 1) n))) (sym first')
    ]

none_passes : (p : ℕ → Bool) (a n : ℕ) → ((j : ℕ) → j < a + n → p j ≡ false) → filter p (range_with_len a n) ≡ []
none_passes p a zero none = refl
none_passes p a (suc n) none =
    ap (λ (b : Bool). cond b (a ∷ filter p (range_with_len (a + 1) n)) (filter p (range_with_len (a + 1) n))) (none a (omega arith))
    ∙ none_passes p (a + 1) n (λ j below. none j (omega arith))

-- a bit that is not 1 is 0
not_among : (set k : ℕ) → ¬ (Among set k) → bit_at set k ≡ 0
not_among set k none = let two = bit_at-lt set k in let not_one : bit_at set k ≢ 1 = none in omega arith

-- one number without itself
pub alone_without : (k : ℕ) → k < 16 → in_order (without (one_of k) k) ≡ []
unfolding in_order
alone_without k within =
    none_passes (λ j. eqb (bit_at (without (one_of k) k) j) 1) 0 16
    (λ j below. ne_eqb (bit_at (without (one_of k) k) j) 1
    (λ among. not_without (one_of k) k (omega arith)
    (subst (Among (without (one_of k) k)) (only_one k j (omega arith) (without_among (one_of k) k j among)) among)))

-- and as a set
pub nothing_held : (k : ℕ) → k < 16 → without (one_of k) k ≡ 0
nothing_held k within =
    same_from_bits_below 16 (without (one_of k) k) 0 (without_below (one_of k) k (one_below k within)) (omega arith)
    (λ j below. not_among (without (one_of k) k) j
    (λ among. not_without (one_of k) k (omega arith)
    (subst (Among (without (one_of k) k)) (only_one k j (omega arith) (without_among (one_of k) k j among)) among))
    ∙ sym (bit_at-zero j))

-- a set that has numbers in order is not empty
pub some_in_order : (set : ℕ) → 0 < length (in_order set) → 0 < set
unfolding in_order
some_in_order set longer =
    elim (cases_eq set 0) [
      | inl none ↦ let short : length (in_order set) ≡ 0 = ap (λ (n : ℕ). length (in_order n)) none in absurd (omega arith)
      | inr more ↦ omega arith
    ]

module _ (set own : ℕ) (few : set < 2 ^ 16) (among : Among set own) (more : 0 < without set own) where
  abbrev pub least : ℕ
  least = trailing_zeros w32 (without set own)

  held_few : without set own < 2 ^ 16
  held_few = without_below set own few

  pub least_in : Among (without set own) least
  least_in = least_among (without set own) more (let f = held_few in omega arith)

  pub least_below : least < 16
  least_below = among_below (without set own) least held_few least_in

  own_below : own < 16
  own_below = among_below set own few among

  pub least_other : least ≢ own
  least_other same = let o = own_below in not_without set own (omega arith) (subst (Among (without set own)) same least_in)

  pub own_stays : Among (without set least) own
  own_stays = let o = own_below in let l = least_below in among_without set least own (omega arith) (omega arith) (λ same. least_other (sym same)) among

  -- a number apart from the least is held as before
  same_bits : (j : ℕ) → j ≢ least → j < 16 → bit_at (without set own) j ≡ bit_at (without (without set least) own) j
  same_bits j apart below =
      let o : own < 32 = (let x = own_below in omega arith) in
      let l : least < 32 = (let x = least_below in omega arith) in
      elim (cases_eq j own) [
        | inl same ↦
            ap (λ (k : ℕ). bit_at (without set own) k) same
            ∙ (bit_at_clear_same w32 set own o
            ∙ sym (ap (λ (k : ℕ). bit_at (without (without set least) own) k) same ∙ bit_at_clear_same w32 (without set least) own o))
        | inr other ↦
            bit_at_clear_other w32 set own o j (omega arith) other
            ∙ sym (bit_at_clear_other w32 (without set least) own o j (omega arith) other ∙ bit_at_clear_other w32 set least l j (omega arith) apart)
      ]

  -- the least comes first, and the others follow
  pub in_order-least : in_order (without set own) ≡ least ∷ in_order (without (without set least) own)
  unfolding in_order
  in_order-least =
      let l : least < 32 = (let x = least_below in omega arith) in
      let o : own < 32 = (let x = own_below in omega arith) in
      let held : ℕ = without set own in
      let left : ℕ = without (without set least) own in
      let gone : bit_at left least ≡ 0 = bit_at_clear_other w32 (without set least) own o least l least_other ∙ bit_at_clear_same w32 set least l in
      first_passes (λ j. eqb (bit_at held j) 1) (λ j. eqb (bit_at left j) 1) least 0 16 (omega arith) (let x = least_below in omega arith)
      (eq-eqb (bit_at held least) 1 least_in)
      (λ j before. ne_eqb (bit_at held j) 1 (λ is. let zero_bit = (bit_at-trailing_zeros w32 held more (let f = held_few in omega arith)).2 j before in absurd (omega arith)))
      (ne_eqb (bit_at left least) 1 (λ is. absurd (omega arith)))
      (λ j apart below. ap (λ (b : ℕ). eqb b 1) (same_bits j apart (omega arith)))

  -- the least gives back the set
  pub back : bit_or (without set least) (one_of least) ≡ set
  back =
      let l : least < 16 = least_below in
      same_from_bits_below 16 (bit_or (without set least) (one_of least)) set
      (or_lt 16 (without set least) (one_of least) (without_below set least few) (one_below least l))
      few
      (λ j below.
      let either = bit_at_or (without set least) (one_of least) j in
      elim (cases_eq j least) [
        | inl same ↦
            let one : bit_at (one_of least) j ≡ 1 = ap (λ (k : ℕ). bit_at (one_of least) k) same ∙ among_one least (omega arith) in
            let was : bit_at set j ≡ 1 = ap (λ (k : ℕ). bit_at set k) same ∙ without_among set own least least_in in
            omega (arith, bit_at-lt (without set least) j)
        | inr other ↦
            let none : bit_at (one_of least) j ≡ 0 = not_among (one_of least) j (λ is. other (only_one least j (omega arith) is)) in
            let kept : bit_at (without set least) j ≡ bit_at set j = bit_at_clear_other w32 set least (omega arith) j (omega arith) other in
            omega arith
      ])
