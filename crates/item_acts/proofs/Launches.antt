-- Laws of launches: which byte a store changes, and what stands at each item of a family with one new value.
use Rattle.std.proofs.Common.{◌≡◌, ◌≢◌, ℕ, ◌+◌, ◌-◌, ◌<◌, ◌≤◌, ◌⊎◌, true, false, ◌&&◌, nat_eq, nat_le, nat_lt, refl, inl, inr, eq-eqb, ne_eqb, le-leb, lt-ltb, le-ltb, eqb-true, leb-true, ltb-true}
use Rattle.std.proofs.lemmas.Bool.{and_from, and_parts, and_left, and_right, lt-leb, cond-true, cond-false, cond_both}
use Rattle.vx_base.specs.Bytes.{byte_of}
use Rattle.item_acts.specs.declared.acts.Place.{Place}
use Rattle.item_acts.specs.declared.acts.Place.TheVariants.{Global}
use Rattle.item_acts.specs.Launches.{covers, with_field_at, put_at}

-- a byte of the field is covered
pub covers_in : (buffer at n byte : ℕ) → at ≤ byte → byte < at + n → covers (Global buffer at) n (Global buffer byte) ≡ true
covers_in buffer at n byte from below = and_from _ _ (eq-eqb buffer buffer refl) (and_from _ _ (le-leb at byte from) (lt-ltb byte (at + n) below))

-- a byte before or behind the field is not
pub covers_out : (buffer at n byte : ℕ) → (byte < at) ⊎ (at + n ≤ byte) → covers (Global buffer at) n (Global buffer byte) ≡ false
covers_out buffer at n byte (inl before) = and_right _ _ (and_left _ _ (lt-leb at byte before))
covers_out buffer at n byte (inr behind) = and_right _ _ (and_right _ _ (le-ltb byte (at + n) behind))

-- nor is a byte of another buffer
pub covers_other : (buffer buffer' at n byte : ℕ) → buffer ≢ buffer' → covers (Global buffer at) n (Global buffer' byte) ≡ false
covers_other buffer buffer' at n byte other = and_left _ _ (ne_eqb buffer buffer' other)

-- a byte of the written field is the number's
pub with_field_at_in : (bytes : Place → ℕ) (buffer at n v byte : ℕ) → at ≤ byte → byte < at + n
    → with_field_at bytes (Global buffer at) n v (Global buffer byte) ≡ byte_of v (byte - at)
with_field_at_in bytes buffer at n v byte from below = cond-true _ _ _ (covers_in buffer at n byte from below)

-- a byte before or behind it is kept
pub with_field_at_out : (bytes : Place → ℕ) (buffer at n v byte : ℕ) → (byte < at) ⊎ (at + n ≤ byte)
    → with_field_at bytes (Global buffer at) n v (Global buffer byte) ≡ bytes (Global buffer byte)
with_field_at_out bytes buffer at n v byte out = cond-false _ _ _ (covers_out buffer at n byte out)

-- and so is each byte of another buffer
pub with_field_at_other : (bytes : Place → ℕ) (buffer buffer' at n v byte : ℕ) → buffer ≢ buffer'
    → with_field_at bytes (Global buffer at) n v (Global buffer' byte) ≡ bytes (Global buffer' byte)
with_field_at_other bytes buffer buffer' at n v byte other = cond-false _ _ _ (covers_other buffer buffer' at n byte other)

-- the new value stands at its number
pub put_at_same : {A : Type 0} (i : ℕ) (v : A) (f : ℕ → A) → put_at i v f i ≡ v
put_at_same i v f = cond-true _ _ _ (eq-eqb i i refl)

-- each other number keeps its value
pub put_at_other : {A : Type 0} (i : ℕ) (v : A) (f : ℕ → A) (j : ℕ) → j ≢ i → put_at i v f j ≡ f j
put_at_other i v f j other = cond-false _ _ _ (ne_eqb j i other)

-- what holds of the new value and of each old one holds everywhere
pub put_at_each : {A : Type 0} (P : A → Type 0) (i : ℕ) (v : A) (f : ℕ → A) → P v → ((j : ℕ) → P (f j)) → (j : ℕ)
    → P (put_at i v f j)
put_at_each P i v f new old j = cond_both (nat_eq j i) v (f j) P (λ _. new) (λ _. old j)

-- a covered byte lies in the field's buffer, from its first byte on and before its end
pub covers_within : (buffer at n buffer' byte : ℕ) → covers (Global buffer at) n (Global buffer' byte) ≡ true
    → (buffer ≡ buffer') × (at ≤ byte) × (byte < at + n)
covers_within buffer at n buffer' byte h =
    let parts = and_parts (nat_eq buffer buffer') (nat_le at byte && nat_lt byte (at + n)) h in
    let bounds = and_parts (nat_le at byte) (nat_lt byte (at + n)) parts.1 in
    (eqb-true buffer buffer' parts.0, leb-true at byte bounds.0, ltb-true byte (at + n) bounds.1)
