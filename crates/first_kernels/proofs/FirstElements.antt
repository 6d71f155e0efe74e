-- Where the elements of the buffers lie in memory, in rows of s bytes.
use Rattle.std.proofs.Common.{◌≡◌, ◌≢◌, ℕ, ◌+◌, ◌*◌, ◌<◌, ◌≤◌, ◌⊎◌, inl, inr, ap, arith}
use Rattle.std.proofs.Math.Nat.{mul-le-mul_left}
use Rattle.std.proofs.lemmas.Bool.{cases_order}
use Rattle.first_kernels.specs.FirstMemory.{stride}

-- a buffer has room for an element of each item
pub stride-enough : (items : ℕ) → 4 * items ≤ stride items
stride-enough items = omega arith

-- a later row begins behind the end of this one
next_row : (a b s : ℕ) → a < b → a * s + s ≤ b * s
next_row a b s before = let more : s * (a + 1) ≤ s * b = mul-le-mul_left s (omega arith) in omega (arith, more)

-- an element lies inside the buffers
pub element_inside : (s items lane buffer buffers : ℕ) → 4 * items ≤ s → lane < items → buffer < buffers →
    buffer * s + 4 * lane + 4 ≤ buffers * s
element_inside s items lane buffer buffers enough below is_one = omega (arith, next_row buffer buffers s is_one)

-- elements of two lanes, or of two buffers, are apart
pub elements_apart : (s items lane other a b : ℕ) → 4 * items ≤ s → lane < items → other < items → (lane ≡ other → a ≢ b) →
    (b * s + 4 * other + 4 ≤ a * s + 4 * lane) ⊎ (a * s + 4 * lane + 4 ≤ b * s + 4 * other)
elements_apart s items lane other a b enough below below' differ =
    elim (cases_order a b) [
      | inl same ↦
          let row : a * s ≡ b * s = ap (λ (x : ℕ). x * s) same in
          elim (cases_order lane other) [
            | inl equal ↦ absurd (differ equal same)
            | inr apart ↦ elim apart [ inl less ↦ inr (omega (arith, row)) | inr more ↦ inl (omega (arith, row)) ]
          ]
      | inr apart ↦
          elim apart [
            | inl less ↦ let row = next_row a b s less in inr (omega (arith, row))
            | inr more ↦ let row = next_row b a s more in inl (omega (arith, row))
          ]
    ]
