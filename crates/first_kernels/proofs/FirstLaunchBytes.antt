-- The words of each item's own elements in the bytes of the buffers, and a count of what is left to do.
use Rattle.std.proofs.Common.{◌≡◌, ◌≢◌, ℕ, zero, suc, ◌+◌, ◌-◌, ◌*◌, ◌^◌, ◌<◌, ◌≤◌, ◌⊎◌, refl, ap, sym, subst, ◌∙◌, inl, inr, arith}
use Rattle.std.proofs.lemmas.Bool.{cond_both, cases_eq, cases_lt}
use Rattle.std.proofs.Math.Path.{fun_ext}
use Rattle.vx_base.specs.Bytes.{byte_of}
use Rattle.vx_base.proofs.NumberLaws.{byte_of-lt, number_of-same, number_of-word, number_of-whole}
use Rattle.item_acts.specs.declared.acts.Place.{Place}
use Rattle.item_acts.specs.declared.acts.Place.TheVariants.{Global}
use Rattle.item_acts.specs.Launches.{covers, with_field_at, put_at}
use Rattle.item_acts.proofs.Launches.{with_field_at_in, with_field_at_out, with_field_at_other, put_at_same, put_at_other}
use Rattle.first_kernels.specs.FirstValues.{words_at}

-- the bytes of each buffer
abbrev pub buffers_of : (Place → ℕ) → ℕ → ℕ → ℕ
buffers_of bytes buffer byte = bytes (Global buffer byte)

-- the words of an item's own elements
abbrev pub own_words : (Place → ℕ) → ℕ → ℕ → ℕ
own_words bytes item = words_at (buffers_of bytes) item

-- each byte of the buffers is one
abbrev pub AreBytes : (Place → ℕ) → Type 0
AreBytes bytes = (buffer byte : ℕ) → bytes (Global buffer byte) < 256

-- the words of bytes are words
pub own_words-word : (bytes : Place → ℕ) (item buffer : ℕ) → AreBytes bytes → own_words bytes item buffer < 2 ^ 32
own_words-word bytes item buffer small = number_of-word (λ k. bytes (Global buffer (4 * item + k))) 4 (omega arith) (λ k below. small buffer (4 * item + k))

module _ (bytes : Place → ℕ) (item buffer v : ℕ) where
  -- the bytes once the item has put a number into its own element of the buffer
  abbrev pub stored : Place → ℕ
  stored = with_field_at bytes (Global buffer (4 * item)) 4 v

  -- no byte outside of that element changes
  pub stored_out : (other byte : ℕ) → (byte < 4 * item) ⊎ (4 * item + 4 ≤ byte)
      → stored (Global other byte) ≡ bytes (Global other byte)
  stored_out other byte out = elim (cases_eq buffer other) [
    | inl same ↦ subst (λ (b : ℕ). stored (Global b byte) ≡ bytes (Global b byte)) same (with_field_at_out bytes buffer (4 * item) 4 v byte out)
    | inr differ ↦ with_field_at_other bytes buffer other (4 * item) 4 v byte differ
  ]

  -- bytes stay bytes
  pub stored-lt : AreBytes bytes → AreBytes stored
  stored-lt small other byte =
      cond_both (covers (Global buffer (4 * item)) 4 (Global other byte)) (byte_of v (byte - 4 * item)) (bytes (Global other byte)) (λ x. x < 256)
      (λ _. byte_of-lt v (byte - 4 * item)) (λ _. small other byte)

  -- the words of other items stay
  pub own_words-other : (item' : ℕ) → item' ≢ item → own_words stored item' ≡ own_words bytes item'
  own_words-other item' differ = fun_ext (λ other. number_of-same _ _ 4 (λ k below. stored_out other (4 * item' + k) (apart k below)))
    where
      apart : (k : ℕ) → k < 4 → (4 * item' + k < 4 * item) ⊎ (4 * item + 4 ≤ 4 * item' + k)
      apart k below = elim (cases_lt item' item) [
        | inl before ↦ inl (omega arith)
        | inr from ↦ let behind : item < item' = omega arith in inr (omega arith)
      ]

  -- the item's own word in that buffer is the number
  word : v < 2 ^ 32 → own_words stored item buffer ≡ v
  word small =
      number_of-same _ (byte_of v) 4 (λ k below.
      let place : 4 * item + k - 4 * item ≡ k = omega arith in
      with_field_at_in bytes buffer (4 * item) 4 v (4 * item + k) (omega arith) (omega arith) ∙ ap (byte_of v) place)
      ∙ number_of-whole v 4 small

  -- the item's own words change in that buffer alone
  pub own_words-own : v < 2 ^ 32 → own_words stored item ≡ put_at buffer v (own_words bytes item)
  own_words-own small = fun_ext (λ other. elim (cases_eq other buffer) [
    | inl same ↦
        subst (λ (b : ℕ). own_words stored item b ≡ put_at buffer v (own_words bytes item) b) (sym same)
        (word small ∙ sym (put_at_same buffer v (own_words bytes item)))
    | inr differ ↦ number_of-same _ _ 4 (λ k below. with_field_at_other bytes buffer other (4 * item) 4 v (4 * item + k) (λ e. differ (sym e)))
        ∙ sym (put_at_other buffer v (own_words bytes item) other differ)
  ])

-- the sum of f over the numbers below n
abbrev pub total : (ℕ → ℕ) → ℕ → ℕ
total f zero = 0
total f (suc n) = f n + total f n

-- equal terms have equal sums
total_same : (f g : ℕ → ℕ) (n : ℕ) → ((j : ℕ) → j < n → g j ≡ f j) → total g n ≡ total f n
total_same f g zero same = refl
total_same f g (suc n) same =
    let here : g n ≡ f n = same n (omega arith) in
    let rest : total g n ≡ total f n = total_same f g n (λ j below. same j (omega arith)) in
    omega arith

-- a sum falls where one term falls
pub total_less : (f g : ℕ → ℕ) (n i : ℕ) → i < n → g i < f i → ((j : ℕ) → j ≢ i → g j ≡ f j) → total g n < total f n
total_less f g zero i below less same = absurd (omega arith)
total_less f g (suc n) i below less same = elim (cases_eq i n) [
  | inl here ↦
      let rest : total g n ≡ total f n = total_same f g n (λ j lower. same j (λ e. omega arith)) in
      let term : g n < f n = subst (λ (m : ℕ). g m < f m) here less in
      omega arith
  | inr other ↦
      let rest : total g n < total f n = total_less f g n i (omega arith) less same in
      let term : g n ≡ f n = same n (λ e. other (sym e)) in
      omega arith
]
