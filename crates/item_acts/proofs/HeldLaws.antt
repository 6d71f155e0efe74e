-- What the turns of a world do with its lists is what the definitions of launches say.
use Rattle.std.proofs.Common.{◌≡◌, ℕ, zero, suc, ◌+◌, ◌-◌, ◌*◌, ◌/◌, ◌%◌, ◌<◌, ◌≤◌, ◌⊎◌, Bool, true, false, ◌&&◌, cond, nat_eq, nat_le, nat_lt, List, [], ◌∷◌, length, map, get_or, set, Option, None, Some, refl, ap, sym, ◌∙◌, inl, inr, arith, eq-eqb, ne_eqb, le-leb, lt-ltb}
use Rattle.std.proofs.Math.Path.{fun_ext}
use Rattle.std.proofs.Math.Nat.{mul-le-mul_left}
use Rattle.std.proofs.lemmas.Bool.{cases_eq, cases_lt, and_from, and_left, and_right, cond-true, cond-false, le-ltb, lt-leb}
use Rattle.std.proofs.lemmas.List.{get_or-set_same, get_or-set_other, get_or_past}
use Rattle.std.specs.Option.{MatchOption}
use Rattle.vx_base.specs.Bytes.{bytes_of, byte_of, field_of, with_field}
use Rattle.vx_base.specs.declared.types.Size.{Size}
use Rattle.vx_base.proofs.FieldLaws.{place_by_field, get_or-with_field_in, get_or-with_field_out}
use Rattle.item_acts.specs.declared.acts.Place.{Place}
use Rattle.item_acts.specs.declared.acts.Place.TheVariants.{Global, Local}
use Rattle.item_acts.specs.declared.held.Held.{Held}
use Rattle.item_acts.specs.Launches.{field_at, with_field_at, put_at, IsInside}
use Rattle.item_acts.specs.Worlds.{array_in, group_in, bytes_held, shape_of, IsHeld, stored}
use Rattle.item_acts.proofs.RaceTests.{bytes_of-pos}

-- the number of bytes of an array
pub size_at : (arrays : List (List ℕ)) (k : ℕ) → get_or (map length arrays) k 0 ≡ length (array_in arrays k)
size_at [] k = refl
size_at (x ∷ xs) zero = refl
size_at (x ∷ xs) (suc k) = size_at xs k

-- a whole group lies before the items' end
pub group_before : (items local g : ℕ) → 0 < local → items % local ≡ 0 → g < items / local → g * local < items
group_before items local g positive whole below = let more = mul-le-mul_left local below in omega arith

-- and a number behind the last group behind it
pub group_behind : (items local g : ℕ) → 0 < local → items % local ≡ 0 → items / local ≤ g → items ≤ g * local
group_behind items local g positive whole behind = let more = mul-le-mul_left local behind in omega arith

-- a number read from the buffers
pub global_number : (h : Held) (buffer byte n : ℕ) (r : Option ℕ)
    → MatchOption r (length (array_in h.buffers buffer) < byte + n) (λ v. (byte + n ≤ length (array_in h.buffers buffer)) × (v ≡ field_of (array_in h.buffers buffer) byte n))
    → MatchOption r (IsInside (shape_of h) (Global buffer byte) n → ⊥) (λ v. IsInside (shape_of h) (Global buffer byte) n × (v ≡ field_at (bytes_held h) (Global buffer byte) n))
global_number h buffer byte n None less = λ inside. let e = size_at h.buffers buffer in omega arith
global_number h buffer byte n (Some v) (fits, e) = (let e' = size_at h.buffers buffer in omega arith, e)

-- a number read from the local arrays of a group
pub local_number : (h : Held) → IsHeld h → (group array byte n : ℕ) (r : Option ℕ) → group < length h.arrays
    → MatchOption r (length (array_in (group_in h.arrays group) array) < byte + n)
    (λ v. (byte + n ≤ length (array_in (group_in h.arrays group) array)) × (v ≡ field_of (array_in (group_in h.arrays group) array) byte n))
    → MatchOption r (IsInside (shape_of h) (Local group array byte) n → ⊥)
    (λ v. IsInside (shape_of h) (Local group array byte) n × (v ≡ field_at (bytes_held h) (Local group array byte) n))
local_number h held group array byte n None below less =
    λ inside.
    let e = size_at (group_in h.arrays group) array in
    let sizes = ap (λ (xs : List ℕ). get_or xs array 0) (held.arrays group (let groups = held.groups in omega arith)) in
    let fits = inside.1 in
    omega arith
local_number h held group array byte n (Some v) below (fits, e) =
    let e' = size_at (group_in h.arrays group) array in
    let groups = held.groups in
    let sizes = ap (λ (xs : List ℕ). get_or xs array 0) (held.arrays group (omega arith)) in
    ((group_before h.items h.local group held.positive held.whole (omega arith), omega arith), e)

-- there is no place in a group that is not there
pub local_nowhere : (h : Held) → IsHeld h → (group array byte n : ℕ) → length h.arrays ≤ group → IsInside (shape_of h) (Local group array byte) n → ⊥
local_nowhere h held group array byte n behind inside =
    let groups = held.groups in
    let past = group_behind h.items h.local group held.positive held.whole (omega arith) in
    omega (arith, inside.0)

-- the same, whether the group is there or not
pub local_number_any : (h : Held) → IsHeld h → (group array byte : ℕ) (size : Size) (r : Option ℕ)
    → MatchOption r (length (array_in (group_in h.arrays group) array) < byte + bytes_of size)
    (λ v. (byte + bytes_of size ≤ length (array_in (group_in h.arrays group) array)) × (v ≡ field_of (array_in (group_in h.arrays group) array) byte (bytes_of size)))
    → MatchOption r (IsInside (shape_of h) (Local group array byte) (bytes_of size) → ⊥)
    (λ v. IsInside (shape_of h) (Local group array byte) (bytes_of size) × (v ≡ field_at (bytes_held h) (Local group array byte) (bytes_of size)))
local_number_any h held group array byte size r m =
    elim (cases_lt group (length h.arrays)) [
      | inl below ↦ local_number h held group array byte (bytes_of size) r below m
      | inr behind ↦ nowhere r m behind
    ]
  where
    nowhere : (r : Option ℕ)
        → MatchOption r (length (array_in (group_in h.arrays group) array) < byte + bytes_of size)
        (λ v. (byte + bytes_of size ≤ length (array_in (group_in h.arrays group) array)) × (v ≡ field_of (array_in (group_in h.arrays group) array) byte (bytes_of size)))
        → length h.arrays ≤ group
        → MatchOption r (IsInside (shape_of h) (Local group array byte) (bytes_of size) → ⊥)
        (λ v. IsInside (shape_of h) (Local group array byte) (bytes_of size) × (v ≡ field_at (bytes_held h) (Local group array byte) (bytes_of size)))
    nowhere None less behind = local_nowhere h held group array byte (bytes_of size) behind
    nowhere (Some v) (fits, e) behind =
        let nothing = ap (λ (arrays : List (List ℕ)). length (array_in arrays array)) (get_or_past h.arrays group [] behind) in
        let some = bytes_of-pos size in
        absurd (omega arith)

-- a field of a local array that the launch has lies in an array of a group that is there
pub local_fits : (h : Held) → IsHeld h → (group array byte n : ℕ) → IsInside (shape_of h) (Local group array byte) n
    → (group < length h.arrays) × (byte + n ≤ length (array_in (group_in h.arrays group) array))
local_fits h held group array byte n inside =
    elim (cases_lt group (length h.arrays)) [
      | inl below ↦
          let groups = held.groups in
          let size = size_at (group_in h.arrays group) array in
          let sizes = ap (λ (xs : List ℕ). get_or xs array 0) (held.arrays group (omega arith)) in
          (below, omega (arith, inside.1))
      | inr behind ↦ absurd (local_nowhere h held group array byte n behind inside)
    ]

-- and one of a buffer in a buffer that is there
pub global_fits : (h : Held) (buffer byte n : ℕ) → IsInside (shape_of h) (Global buffer byte) n → byte + n ≤ length (array_in h.buffers buffer)
global_fits h buffer byte n inside = let e = size_at h.buffers buffer in omega arith

-- the bytes are those of the arrays
pub bytes_same : (h h' : Held) → h'.buffers ≡ h.buffers → h'.arrays ≡ h.arrays → bytes_held h' ≡ bytes_held h
bytes_same h h' e e' =
    fun_ext (elim [
      | Global buffer byte ↦ ap (λ buffers. get_or (array_in buffers buffer) byte 0) e
      | Local group array byte ↦ ap (λ arrays. get_or (array_in (group_in arrays group) array) byte 0) e'
    ])

-- a list with one new element, as a family
pub set_put : {A : Type 0} (xs : List A) (i : ℕ) (v d : A) → i < length xs → (λ (k : ℕ). get_or (set xs i v) k d) ≡ put_at i v (λ k. get_or xs k d)
set_put xs i v d within =
    fun_ext (λ k. elim (cases_eq k i) [
      | inl e ↦ ap (λ (j : ℕ). get_or (set xs i v) j d) e ∙ get_or-set_same xs i v d within ∙ sym (cond-true (nat_eq k i) v _ (eq-eqb k i e))
      | inr differ ↦ get_or-set_other xs i k v d differ ∙ sym (cond-false (nat_eq k i) v _ (ne_eqb k i differ))
    ])

-- a family with the value that it has
pub put_own : {A : Type 0} (i : ℕ) (v : A) (f : ℕ → A) → f i ≡ v → f ≡ put_at i v f
put_own i v f e =
    fun_ext (λ k. elim (cases_eq k i) [
      | inl same ↦ ap f same ∙ e ∙ sym (cond-true (nat_eq k i) v _ (eq-eqb k i same))
      | inr differ ↦ sym (cond-false (nat_eq k i) v _ (ne_eqb k i differ))
    ])

-- a byte of some arrays with a number in a field
one_array : (arrays : List (List ℕ)) (b x n v b' y : ℕ) → 0 < n → x + n ≤ length (array_in arrays b)
    → get_or (array_in (set arrays b (with_field (array_in arrays b) x n v)) b') y 0
    ≡ cond (nat_eq b b' && (nat_le x y && nat_lt y (x + n))) (byte_of v (y - x)) (get_or (array_in arrays b') y 0)
one_array arrays b x n v b' y some fits =
    elim (cases_lt b (length arrays)) [
      | inl within ↦
          elim (cases_eq b b') [
            | inl e ↦
                let here : get_or (set arrays b (with_field (array_in arrays b) x n v)) b' [] ≡ with_field (array_in arrays b) x n v =
                ap (λ (j : ℕ). get_or (set arrays b (with_field (array_in arrays b) x n v)) j []) (sym e) ∙ get_or-set_same arrays b _ [] within in
                let there : array_in arrays b' ≡ array_in arrays b = ap (array_in arrays) (sym e) in
                elim (place_by_field y x n) [
                  | inl (from, below) ↦
                      ap (λ (l : List ℕ). get_or l y 0) here ∙ get_or-with_field_in (array_in arrays b) x n v fits y from below
                      ∙ sym (cond-true _ _ _ (and_from _ _ (eq-eqb b b' e) (and_from _ _ (le-leb x y from) (lt-ltb y (x + n) below))))
                  | inr out ↦
                      ap (λ (l : List ℕ). get_or l y 0) here ∙ get_or-with_field_out (array_in arrays b) x n v fits y out
                      ∙ ap (λ (l : List ℕ). get_or l y 0) (sym there) ∙ sym (cond-false _ _ _ (and_right _ _ (not_in_field x n y out)))
                ]
            | inr differ ↦
                ap (λ (l : List ℕ). get_or l y 0) (get_or-set_other arrays b b' _ [] (λ e. differ (sym e)))
                ∙ sym (cond-false _ _ _ (and_left _ _ (ne_eqb b b' differ)))
          ]
      | inr past ↦ let nothing = ap length (get_or_past arrays b [] past) in absurd (omega arith)
    ]
  where
    not_in_field : (x n y : ℕ) → (y < x) ⊎ (x + n ≤ y) → (nat_le x y && nat_lt y (x + n)) ≡ false
    not_in_field x n y (inl before) = and_left _ _ (lt-leb x y before)
    not_in_field x n y (inr behind) = and_right _ _ (le-ltb y (x + n) behind)

-- the bytes with a number in a field
pub bytes_stored : (h : Held) → IsHeld h → (p : Place) (n v : ℕ) → 0 < n → IsInside (shape_of h) p n → bytes_held (stored h p n v) ≡ with_field_at (bytes_held h) p n v
bytes_stored h held (Global b x) n v some inside =
    let fits : x + n ≤ length (array_in h.buffers b) = let e = size_at h.buffers b in omega arith in
    fun_ext (elim [
      | Global b' y ↦ one_array h.buffers b x n v b' y some fits
      | Local g a y ↦ refl
    ])
bytes_stored h held (Local g a x) n v some inside =
    let arrays = group_in h.arrays g in
    let below : g < h.items / h.local =
    elim (cases_lt g (h.items / h.local)) [
      | inl less ↦ less
      | inr behind ↦ let past = group_behind h.items h.local g held.positive held.whole behind in absurd (omega (arith, inside.0))
    ] in
    let groups = held.groups in
    let within : g < length h.arrays = omega arith in
    let fits : x + n ≤ length (array_in arrays a) =
    let e = size_at arrays a in
    let sizes = ap (λ (xs : List ℕ). get_or xs a 0) (held.arrays g below) in
    omega (arith, inside.1) in
    fun_ext (elim [
      | Global b y ↦ refl
      | Local g' a' y ↦ local_byte h.arrays g a x n v g' a' y some fits within
    ])
  where
    local_byte : (groups : List (List (List ℕ))) (g a x n v g' a' y : ℕ) → 0 < n → x + n ≤ length (array_in (group_in groups g) a) → g < length groups
        → get_or (array_in (group_in (set groups g (set (group_in groups g) a (with_field (array_in (group_in groups g) a) x n v))) g') a') y 0
        ≡ cond ((nat_eq g g' && nat_eq a a') && (nat_le x y && nat_lt y (x + n))) (byte_of v (y - x)) (get_or (array_in (group_in groups g') a') y 0)
    local_byte groups g a x n v g' a' y some fits within =
        elim (cases_eq g g') [
          | inl e ↦
              let same : nat_eq g g' ≡ true = eq-eqb g g' e in
              let here : group_in (set groups g (set (group_in groups g) a (with_field (array_in (group_in groups g) a) x n v))) g' ≡ set (group_in groups g) a (with_field (array_in (group_in groups g) a) x n v) =
              ap (λ (j : ℕ). group_in (set groups g (set (group_in groups g) a (with_field (array_in (group_in groups g) a) x n v))) j) (sym e) ∙ get_or-set_same groups g _ [] within in
              let there : group_in groups g' ≡ group_in groups g = ap (group_in groups) (sym e) in
              ap (λ (l : List (List ℕ)). get_or (array_in l a') y 0) here
              ∙ one_array (group_in groups g) a x n v a' y some fits
              ∙ ap (λ (t : Bool). cond ((t && nat_eq a a') && (nat_le x y && nat_lt y (x + n))) (byte_of v (y - x)) (get_or (array_in (group_in groups g) a') y 0)) (sym same)
              ∙ ap (λ (l : List (List ℕ)). cond ((nat_eq g g' && nat_eq a a') && (nat_le x y && nat_lt y (x + n))) (byte_of v (y - x)) (get_or (array_in l a') y 0)) (sym there)
          | inr differ ↦
              ap (λ (l : List (List ℕ)). get_or (array_in l a') y 0) (get_or-set_other groups g g' _ [] (λ e. differ (sym e)))
              ∙ sym (cond-false _ _ _ (and_left _ _ (and_left _ _ (ne_eqb g g' differ))))
        ]
