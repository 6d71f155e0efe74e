-- What the change of a write makes of each byte of its word.
use Rattle.std.proofs.Common.{◌≡◌, ℕ, zero, suc, ◌+◌, ◌-◌, ◌*◌, ◌/◌, ◌%◌, ◌^◌, ◌<◌, Bool, if◌then◌else◌, refl, ap, sym, ◌∙◌, subst, arith}
use Rattle.std.specs.Prelude.{bit_and, bit_or, nat_le, nat_lt, ◌&&◌}
use Rattle.std.proofs.lemmas.Nat.{and_mask, and_mod, and_shr, or_mod, or_shr}
use Rattle.vx_base.specs.Bytes.{byte_of, bytes_of}
use Rattle.vx_base.specs.declared.types.Size.{Size}
use Rattle.vx_base.specs.declared.types.Size.TheVariants.{One, Two, Four}
use Rattle.l1_cache.specs.Lines.{change_of, field_bits, kept_bits, written_bits}

-- what holds of 0, 1, 2 and 3
pub below_4 : (P : ℕ → Type 0) → P 0 → P 1 → P 2 → P 3 → (k : ℕ) → k < 4 → P k
below_4 P a b c d zero below = a
below_4 P a b c d (suc zero) below = b
below_4 P a b c d (suc (suc zero)) below = c
below_4 P a b c d (suc (suc (suc zero))) below = d
below_4 P a b c d (suc (suc (suc (suc k)))) below = let none : ⊥ = omega (arith, below) in absurd none

and_at : (a b n : ℕ) → bit_and a b / 2 ^ n % 2 ^ 8 ≡ bit_and (a / 2 ^ n % 2 ^ 8) (b / 2 ^ n % 2 ^ 8)
and_at a b n = ap (λ (x : ℕ). x % 2 ^ 8) (and_shr a b n) ∙ and_mod (a / 2 ^ n) (b / 2 ^ n) 8

or_at : (a b n : ℕ) → bit_or a b / 2 ^ n % 2 ^ 8 ≡ bit_or (a / 2 ^ n % 2 ^ 8) (b / 2 ^ n % 2 ^ 8)
or_at a b n = ap (λ (x : ℕ). x % 2 ^ 8) (or_shr a b n) ∙ or_mod (a / 2 ^ n) (b / 2 ^ n) 8

-- the bytes of words that are combined by bits
pub byte_and : (a b k : ℕ) → k < 4 → byte_of (bit_and a b) k ≡ bit_and (byte_of a k) (byte_of b k)
byte_and a b = below_4 (λ k. byte_of (bit_and a b) k ≡ bit_and (byte_of a k) (byte_of b k)) (and_at a b 0) (and_at a b 8) (and_at a b 16) (and_at a b 24)

pub byte_or : (a b k : ℕ) → k < 4 → byte_of (bit_or a b) k ≡ bit_or (byte_of a k) (byte_of b k)
byte_or a b = below_4 (λ k. byte_of (bit_or a b) k ≡ bit_or (byte_of a k) (byte_of b k)) (or_at a b 0) (or_at a b 8) (or_at a b 16) (or_at a b 24)

pub and_none : (x : ℕ) → bit_and x 0 ≡ 0
and_none x = let m : bit_and x 0 ≡ x % 1 = and_mask x 0 in m ∙ omega arith

pub and_all : (x : ℕ) → bit_and x 255 ≡ x % 256
and_all x = and_mask x 8

-- byte k is in the field of a size from byte at on
abbrev pub inside : ℕ → Size → ℕ → Bool
inside at size k = nat_le at k && nat_lt k (at + bytes_of size)

keeps_one : (at : ℕ) → at < 4 → (k : ℕ) → k < 4 → byte_of (kept_bits at One) k ≡ (if inside at One k then 0 else 255)
keeps_one = below_4 (λ at. (k : ℕ) → k < 4 → byte_of (kept_bits at One) k ≡ (if inside at One k then 0 else 255))
    (below_4 (λ k. byte_of (kept_bits 0 One) k ≡ (if inside 0 One k then 0 else 255)) refl refl refl refl)
    (below_4 (λ k. byte_of (kept_bits 1 One) k ≡ (if inside 1 One k then 0 else 255)) refl refl refl refl)
    (below_4 (λ k. byte_of (kept_bits 2 One) k ≡ (if inside 2 One k then 0 else 255)) refl refl refl refl)
    (below_4 (λ k. byte_of (kept_bits 3 One) k ≡ (if inside 3 One k then 0 else 255)) refl refl refl refl)

keeps_two : (at : ℕ) → at < 4 → at % 2 ≡ 0 → (k : ℕ) → k < 4 → byte_of (kept_bits at Two) k ≡ (if inside at Two k then 0 else 255)
keeps_two = below_4 (λ at. at % 2 ≡ 0 → (k : ℕ) → k < 4 → byte_of (kept_bits at Two) k ≡ (if inside at Two k then 0 else 255))
    (λ even. below_4 (λ k. byte_of (kept_bits 0 Two) k ≡ (if inside 0 Two k then 0 else 255)) refl refl refl refl)
    (λ even. let none : ⊥ = omega (arith, even) in absurd none)
    (λ even. below_4 (λ k. byte_of (kept_bits 2 Two) k ≡ (if inside 2 Two k then 0 else 255)) refl refl refl refl)
    (λ even. let none : ⊥ = omega (arith, even) in absurd none)

-- a byte of what is written to a field
out_of : (v at k : ℕ) (size : Size) → k < 4 → byte_of (field_bits at size) k ≡ 0 → byte_of (written_bits v at size) k ≡ 0
out_of v at k size below none = byte_and (v * 2 ^ (8 * at) % 2 ^ 32) (field_bits at size) k below
    ∙ (ap (λ (x : ℕ). bit_and (byte_of (v * 2 ^ (8 * at) % 2 ^ 32) k) x) none ∙ and_none (byte_of (v * 2 ^ (8 * at) % 2 ^ 32) k))

in_it : (v at k : ℕ) (size : Size) → k < 4 → byte_of (field_bits at size) k ≡ 255 → byte_of (written_bits v at size) k ≡ byte_of (v * 2 ^ (8 * at) % 2 ^ 32) k % 256
in_it v at k size below all = byte_and (v * 2 ^ (8 * at) % 2 ^ 32) (field_bits at size) k below
    ∙ (ap (λ (x : ℕ). bit_and (byte_of (v * 2 ^ (8 * at) % 2 ^ 32) k) x) all ∙ and_all (byte_of (v * 2 ^ (8 * at) % 2 ^ 32) k))

sets_one : (v at : ℕ) → at < 4 → (k : ℕ) → k < 4 → byte_of (written_bits v at One) k ≡ (if inside at One k then byte_of v (k - at) else 0)
sets_one v = below_4 (λ at. (k : ℕ) → k < 4 → byte_of (written_bits v at One) k ≡ (if inside at One k then byte_of v (k - at) else 0))
    (below_4 (λ k. byte_of (written_bits v 0 One) k ≡ (if inside 0 One k then byte_of v (k - 0) else 0)) (in_it v 0 0 One (omega arith) refl ∙ omega arith) (out_of v 0 1 One (omega arith) refl) (out_of v 0 2 One (omega arith) refl) (out_of v 0 3 One (omega arith) refl))
    (below_4 (λ k. byte_of (written_bits v 1 One) k ≡ (if inside 1 One k then byte_of v (k - 1) else 0)) (out_of v 1 0 One (omega arith) refl) (in_it v 1 1 One (omega arith) refl ∙ omega arith) (out_of v 1 2 One (omega arith) refl) (out_of v 1 3 One (omega arith) refl))
    (below_4 (λ k. byte_of (written_bits v 2 One) k ≡ (if inside 2 One k then byte_of v (k - 2) else 0)) (out_of v 2 0 One (omega arith) refl) (out_of v 2 1 One (omega arith) refl) (in_it v 2 2 One (omega arith) refl ∙ omega arith) (out_of v 2 3 One (omega arith) refl))
    (below_4 (λ k. byte_of (written_bits v 3 One) k ≡ (if inside 3 One k then byte_of v (k - 3) else 0)) (out_of v 3 0 One (omega arith) refl) (out_of v 3 1 One (omega arith) refl) (out_of v 3 2 One (omega arith) refl) (in_it v 3 3 One (omega arith) refl ∙ omega arith))

sets_two : (v at : ℕ) → at < 4 → at % 2 ≡ 0 → (k : ℕ) → k < 4 → byte_of (written_bits v at Two) k ≡ (if inside at Two k then byte_of v (k - at) else 0)
sets_two v = below_4 (λ at. at % 2 ≡ 0 → (k : ℕ) → k < 4 → byte_of (written_bits v at Two) k ≡ (if inside at Two k then byte_of v (k - at) else 0))
    (λ even. below_4 (λ k. byte_of (written_bits v 0 Two) k ≡ (if inside 0 Two k then byte_of v (k - 0) else 0)) (in_it v 0 0 Two (omega arith) refl ∙ omega arith) (in_it v 0 1 Two (omega arith) refl ∙ omega arith) (out_of v 0 2 Two (omega arith) refl) (out_of v 0 3 Two (omega arith) refl))
    (λ even. let none : ⊥ = omega (arith, even) in absurd none)
    (λ even. below_4 (λ k. byte_of (written_bits v 2 Two) k ≡ (if inside 2 Two k then byte_of v (k - 2) else 0)) (out_of v 2 0 Two (omega arith) refl) (out_of v 2 1 Two (omega arith) refl) (in_it v 2 2 Two (omega arith) refl ∙ omega arith) (in_it v 2 3 Two (omega arith) refl ∙ omega arith))
    (λ even. let none : ⊥ = omega (arith, even) in absurd none)

-- What the change of a field is at byte k of its word: it keeps nothing and sets the value's byte in the field, and keeps all
-- and sets nothing outside.
pub record IsFieldByte (address : ℕ) (size : Size) (v k : ℕ) : Type 0 where
  pub keep : byte_of (change_of address size v).keep k ≡ (if inside (address % 4) size k then 0 else 255)
  pub value : byte_of (change_of address size v).value k ≡ (if inside (address % 4) size k then byte_of v (k - address % 4) else 0)

whole : (v k : ℕ) → k < 4 → (byte_of 0 k ≡ (if inside 0 Four k then 0 else 255)) × (byte_of v k ≡ (if inside 0 Four k then byte_of v (k - 0) else 0))
whole v = below_4 (λ k. (byte_of 0 k ≡ (if inside 0 Four k then 0 else 255)) × (byte_of v k ≡ (if inside 0 Four k then byte_of v (k - 0) else 0))) (refl, refl) (refl, refl) (refl, refl) (refl, refl)

pub field_byte : (address : ℕ) (size : Size) (v k : ℕ) → address % bytes_of size ≡ 0 → k < 4 → IsFieldByte address size v k
field_byte address One v k aligned below = record { keep = keeps_one (address % 4) (omega arith) k below; value = sets_one v (address % 4) (omega arith) k below }
field_byte address Two v k aligned below = record { keep = keeps_two (address % 4) (omega arith) (omega (arith, aligned)) k below; value = sets_two v (address % 4) (omega arith) (omega (arith, aligned)) k below }
field_byte address Four v k aligned below =
    let both : (byte_of 0 k ≡ (if inside (address % 4) Four k then 0 else 255)) × (byte_of v k ≡ (if inside (address % 4) Four k then byte_of v (k - address % 4) else 0)) =
    subst (λ (at : ℕ). (byte_of 0 k ≡ (if inside at Four k then 0 else 255)) × (byte_of v k ≡ (if inside at Four k then byte_of v (k - at) else 0))) (sym aligned) (whole v k below) in
    record { keep = both.0; value = both.1 }
