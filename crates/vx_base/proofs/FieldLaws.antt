-- Laws of the fields in a list of bytes.
use Rattle.std.proofs.Common.{◌≡◌, ℕ, ◌+◌, ◌-◌, ◌%◌, ◌^◌, ◌<◌, ◌≤◌, ◌⊎◌, inl, inr, ◌++◌, List, length, get_or, take, drop, ap, sym, ◌∙◌, arith, length-append, length-take, length-drop}
use Rattle.std.proofs.Math.Nat.{mod-eq_of_lt}
use Rattle.std.proofs.lemmas.Bool.{cases_lt}
use Rattle.std.proofs.lemmas.Grind.{same_number_lists}
use Rattle.std.proofs.lemmas.List.{get_or_append_left, get_or-append_right, get_or-take, get_or-drop, length-take-le}
use Rattle.vx_base.specs.Bytes.{byte_of, number_bytes, field_of, with_field}
use Rattle.vx_base.proofs.NumberLaws.{byte_of-lt, number_of-same, number_of-byte_of, number_of-word, length-number_bytes, get_or-number_bytes}

-- a field of at most four bytes holds a number below 2 ^ 32
pub field_of-word : (bytes : List ℕ) (at n : ℕ) → n ≤ 4 → ((k : ℕ) → get_or bytes k 0 < 256) → field_of bytes at n < 2 ^ 32
field_of-word bytes at n short small = number_of-word (λ k. get_or bytes (at + k) 0) n short (λ k below. small (at + k))

-- a place lies in a field or outside it
pub place_by_field : (k at n : ℕ) → ((at ≤ k) × (k < at + n)) ⊎ ((k < at) ⊎ (at + n ≤ k))
place_by_field k at n =
    elim (cases_lt k at) [
      | inl before ↦ inr (inl before)
      | inr from ↦ elim (cases_lt k (at + n)) [ inl below ↦ inl (from, below) | inr behind ↦ inr (inr behind) ]
    ]

module _ (bytes : List ℕ) (at n v : ℕ) (fits : at + n ≤ length bytes) where
  -- a written list keeps its length
  pub length-with_field : length (with_field bytes at n v) ≡ length bytes
  length-with_field = simp (length-append, length-take, length-drop, length-number_bytes) (omega arith)

  -- the bytes before the field and the field's own are this long
  length_front : length (take at bytes ++ number_bytes v n) ≡ at + n
  length_front = simp (length-append, length-take, length-number_bytes) (omega arith)

  -- byte k of the field is byte k of the number
  pub get_or-with_field_at : (k : ℕ) → k < n → get_or (with_field bytes at n v) (at + k) 0 ≡ byte_of v k
  get_or-with_field_at k below =
      let front : length (take at bytes ++ number_bytes v n) ≡ at + n = length_front in
      let start : length (take at bytes) ≡ at = length-take-le at bytes (omega arith) in
      let back : at + k - at ≡ k = omega arith in
      get_or_append_left (take at bytes ++ number_bytes v n) (drop (at + n) bytes) 0 (at + k) (omega arith)
      ∙ get_or-append_right (take at bytes) (number_bytes v n) at (at + k) 0 start (omega arith)
      ∙ ap (λ (j : ℕ). get_or (number_bytes v n) j 0) back
      ∙ get_or-number_bytes v n k below

  -- a place inside the field
  pub get_or-with_field_in : (k : ℕ) → at ≤ k → k < at + n → get_or (with_field bytes at n v) k 0 ≡ byte_of v (k - at)
  get_or-with_field_in k from below =
      let place : k ≡ at + (k - at) = omega arith in
      ap (λ (j : ℕ). get_or (with_field bytes at n v) j 0) place ∙ get_or-with_field_at (k - at) (omega arith)

  -- a place outside the field keeps its byte
  pub get_or-with_field_out : (k : ℕ) → (k < at) ⊎ (at + n ≤ k) → get_or (with_field bytes at n v) k 0 ≡ get_or bytes k 0
  get_or-with_field_out k (inl before) =
      let front : length (take at bytes ++ number_bytes v n) ≡ at + n = length_front in
      let start : length (take at bytes) ≡ at = length-take-le at bytes (omega arith) in
      get_or_append_left (take at bytes ++ number_bytes v n) (drop (at + n) bytes) 0 k (omega arith)
      ∙ get_or_append_left (take at bytes) (number_bytes v n) 0 k (omega arith)
      ∙ get_or-take at bytes k 0 before
  get_or-with_field_out k (inr behind) =
      let back : at + n + (k - (at + n)) ≡ k = omega arith in
      get_or-append_right (take at bytes ++ number_bytes v n) (drop (at + n) bytes) (at + n) k 0 length_front behind
      ∙ get_or-drop (at + n) bytes (k - (at + n)) 0
      ∙ ap (λ (j : ℕ). get_or bytes j 0) back

  -- a written field reads as the number, cut to its bytes
  pub field_of-with_field : field_of (with_field bytes at n v) at n ≡ v % 256 ^ n
  field_of-with_field =
      number_of-same (λ k. get_or (with_field bytes at n v) (at + k) 0) (byte_of v) n get_or-with_field_at
      ∙ number_of-byte_of v n

  -- a number that fits the field is read back whole
  pub field_of-with_field_whole : v < 256 ^ n → field_of (with_field bytes at n v) at n ≡ v
  field_of-with_field_whole below = field_of-with_field ∙ mod-eq_of_lt below

  -- a field apart from the written one is unchanged
  pub field_of-with_field_apart : (p m : ℕ) → (p + m ≤ at) ⊎ (at + n ≤ p) → field_of (with_field bytes at n v) p m ≡ field_of bytes p m
  field_of-with_field_apart p m (inl before) =
      number_of-same (λ k. get_or (with_field bytes at n v) (p + k) 0) (λ k. get_or bytes (p + k) 0) m
      (λ k below. get_or-with_field_out (p + k) (inl (omega arith)))
  field_of-with_field_apart p m (inr behind) =
      number_of-same (λ k. get_or (with_field bytes at n v) (p + k) 0) (λ k. get_or bytes (p + k) 0) m
      (λ k below. get_or-with_field_out (p + k) (inr (omega arith)))

  -- a written list of bytes is a list of bytes
  pub with_field-lt : ((k : ℕ) → get_or bytes k 0 < 256) → (k : ℕ) → get_or (with_field bytes at n v) k 0 < 256
  with_field-lt small k =
      elim (place_by_field k at n) [
        | inl here ↦
            let byte : get_or (with_field bytes at n v) k 0 ≡ byte_of v (k - at) = get_or-with_field_in k here.0 here.1 in
            rw byte (byte_of-lt v (k - at))
        | inr out ↦
            let byte : get_or (with_field bytes at n v) k 0 ≡ get_or bytes k 0 = get_or-with_field_out k out in
            rw byte (small k)
      ]

-- what is apart one way is apart the other way
apart_turned : (at n p m : ℕ) → (p + m ≤ at) ⊎ (at + n ≤ p) → (at + n ≤ p) ⊎ (p + m ≤ at)
apart_turned at n p m (inl before) = inr before
apart_turned at n p m (inr behind) = inl behind

-- a place in one field is outside each field that is apart from it
out_of_apart : (at n p m k : ℕ) → (p + m ≤ at) ⊎ (at + n ≤ p) → at ≤ k → k < at + n → (k < p) ⊎ (p + m ≤ k)
out_of_apart at n p m k (inl before) from below = inr (omega arith)
out_of_apart at n p m k (inr behind) from below = inl (omega arith)

-- two writes to fields that are apart, in either order, leave the same byte at a place of the first field
same_in_field : (bytes : List ℕ) (at n v p m w : ℕ) → at + n ≤ length bytes → p + m ≤ length bytes → (p + m ≤ at) ⊎ (at + n ≤ p) →
    (k : ℕ) → at ≤ k → k < at + n →
    get_or (with_field (with_field bytes at n v) p m w) k 0 ≡ get_or (with_field (with_field bytes p m w) at n v) k 0
same_in_field bytes at n v p m w fits fits' apart k from below =
    let one : length (with_field bytes at n v) ≡ length bytes = length-with_field bytes at n v fits in
    let other : length (with_field bytes p m w) ≡ length bytes = length-with_field bytes p m w fits' in
    get_or-with_field_out (with_field bytes at n v) p m w (omega arith) k (out_of_apart at n p m k apart from below)
    ∙ get_or-with_field_in bytes at n v fits k from below
    ∙ sym (get_or-with_field_in (with_field bytes p m w) at n v (omega arith) k from below)

-- and at a place outside both
same_outside : (bytes : List ℕ) (at n v p m w : ℕ) → at + n ≤ length bytes → p + m ≤ length bytes →
    (k : ℕ) → (k < at) ⊎ (at + n ≤ k) → (k < p) ⊎ (p + m ≤ k) →
    get_or (with_field (with_field bytes at n v) p m w) k 0 ≡ get_or bytes k 0
same_outside bytes at n v p m w fits fits' k out out' =
    let one : length (with_field bytes at n v) ≡ length bytes = length-with_field bytes at n v fits in
    get_or-with_field_out (with_field bytes at n v) p m w (omega arith) k out' ∙ get_or-with_field_out bytes at n v fits k out

-- the number of bytes stays through two writes
length_twice : (bytes : List ℕ) (at n v p m w : ℕ) → at + n ≤ length bytes → p + m ≤ length bytes →
    length (with_field (with_field bytes at n v) p m w) ≡ length bytes
length_twice bytes at n v p m w fits fits' =
    let one : length (with_field bytes at n v) ≡ length bytes = length-with_field bytes at n v fits in
    length-with_field (with_field bytes at n v) p m w (omega arith) ∙ one

-- writes to two fields that are apart commute
pub with_field_comm : (bytes : List ℕ) (at n v p m w : ℕ) → at + n ≤ length bytes → p + m ≤ length bytes → (p + m ≤ at) ⊎ (at + n ≤ p) →
    with_field (with_field bytes at n v) p m w ≡ with_field (with_field bytes p m w) at n v
with_field_comm bytes at n v p m w fits fits' apart =
    same_number_lists (with_field (with_field bytes at n v) p m w) (with_field (with_field bytes p m w) at n v)
    (length_twice bytes at n v p m w fits fits' ∙ sym (length_twice bytes p m w at n v fits' fits))
    (λ k within. elim (place_by_field k at n) [
      | inl first ↦ same_in_field bytes at n v p m w fits fits' apart k first.0 first.1
      | inr out ↦ elim (place_by_field k p m) [
        | inl second ↦ sym (same_in_field bytes p m w at n v fits' fits (apart_turned at n p m apart) k second.0 second.1)
        | inr out' ↦ same_outside bytes at n v p m w fits fits' k out out' ∙ sym (same_outside bytes p m w at n v fits' fits k out' out)
      ]
    ])
