-- How far the front of a list goes.
use Rattle.std.proofs.Common.{◌≡◌, ℕ, ◌+◌, ◌<◌, ◌≤◌, Bool, true, false, List, [], ◌∷◌, length, take, drop, min, max, refl, arith}
use Rattle.std.specs.Prelude.{slice_index, nat_eq, nat_le, get_or}
use Rattle.std.specs.List.{prefix_len, common_prefix_len}
use Rattle.std.proofs.lemmas.List.{take_min, drop_more, drop_all}
use Rattle.std.proofs.lemmas.List.Sums.{prefix_len-le-length}
use Rattle.std.proofs.lemmas.Bool.Decides.{nat_tests}
use Rattle.asm_text.specs.declared.mnemonics.Mnemonic.{Mnemonic}
use Rattle.asm_text.specs.Mnemonics.{name_of}
use Rattle.asm_text.specs.AsmLines.{known_bytes}

pub whole_prefix : (p : ℕ → Bool) (xs : List ℕ) → prefix_len p xs ≤ length xs
whole_prefix p xs = prefix_len-le-length p xs

pub take_least : (n : ℕ) (xs : List ℕ) → take (min n (length xs)) xs ≡ take n xs
take_least n xs = take_min n xs

common : List ℕ → List ℕ → ℕ
common a b = common_prefix_len nat_eq a b

-- one place on
pub common_goes_on : (a b : List ℕ) (i total : ℕ) → i < length a → i < length b → slice_index a i ≡ slice_index b i
    → total ≡ i + common_prefix_len nat_eq (drop i a) (drop i b) → total ≡ (i + 1) + common_prefix_len nat_eq (drop (i + 1) a) (drop (i + 1) b)
common_goes_on a b i total in_a in_b same so_far =
    let one : drop i a ≡ slice_index a i ∷ drop (i + 1) a = drop_more a i 0 in_a in
    let two : drop i b ≡ slice_index b i ∷ drop (i + 1) b = drop_more b i 0 in_b in
    let test : nat_eq (slice_index a i) (slice_index b i) ≡ true = grind (arith, nat_tests) in
    let step : common_prefix_len nat_eq (slice_index a i ∷ drop (i + 1) a) (slice_index b i ∷ drop (i + 1) b) ≡ 1 + common_prefix_len nat_eq (drop (i + 1) a) (drop (i + 1) b) = rw test refl in
    let whole : common_prefix_len nat_eq (drop i a) (drop i b) ≡ 1 + common_prefix_len nat_eq (drop (i + 1) a) (drop (i + 1) b) = rw (one, two) step in
    omega arith

-- the first place where two lists differ
pub common_stops : (a b : List ℕ) (i total : ℕ) → i < length a → i < length b → (slice_index a i ≡ slice_index b i → ⊥)
    → total ≡ i + common_prefix_len nat_eq (drop i a) (drop i b) → i ≡ total
common_stops a b i total in_a in_b differ so_far =
    let one : drop i a ≡ slice_index a i ∷ drop (i + 1) a = drop_more a i 0 in_a in
    let two : drop i b ≡ slice_index b i ∷ drop (i + 1) b = drop_more b i 0 in_b in
    let test : nat_eq (slice_index a i) (slice_index b i) ≡ false = grind (arith, nat_tests) in
    let step : common_prefix_len nat_eq (slice_index a i ∷ drop (i + 1) a) (slice_index b i ∷ drop (i + 1) b) ≡ 0 = rw test refl in
    let whole : common_prefix_len nat_eq (drop i a) (drop i b) ≡ 0 = rw (one, two) step in
    omega arith

none_behind : (xs : List ℕ) → common_prefix_len nat_eq xs [] ≡ 0
none_behind [] = refl
none_behind (x ∷ xs) = refl

by_test : {P : Type 0} (t : Bool) → (t ≡ true → P) → (t ≡ false → P) → P
by_test true if_true if_false = if_true refl
by_test false if_true if_false = if_false refl

-- the end of the shorter list
pub common_ends : (a b : List ℕ) (k place total : ℕ) → k ≡ min (length a) (length b) → k ≤ place → place ≤ k
    → total ≡ place + common_prefix_len nat_eq (drop place a) (drop place b) → k ≡ total
common_ends a b k place total least low high so_far = by_test (nat_le (length a) (length b))
    (λ t.
    let shorter : length a ≤ length b = grind (arith, nat_tests) in
    let past : length a ≤ place = omega arith in
    let none : drop place a ≡ [] = drop_all place a past in
    let zero : common_prefix_len nat_eq (drop place a) (drop place b) ≡ 0 = rw none refl in
    omega arith)
    (λ t.
    let shorter : length b < length a = grind (arith, nat_tests) in
    let past : length b ≤ place = omega arith in
    let none : drop place b ≡ [] = drop_all place b past in
    let zero : common_prefix_len nat_eq (drop place a) (drop place b) ≡ 0 = rw none (none_behind (drop place a)) in
    omega arith)

-- ---- how far a word begins one of some mnemonics

pub known_goes_on : (word : List ℕ) (all : List Mnemonic) (i most n : ℕ) (d : Mnemonic) → i < length all → n ≡ common_prefix_len nat_eq (name_of (get_or all i d)) word
    → known_bytes word all ≡ max (known_bytes word (drop i all)) most → known_bytes word all ≡ max (known_bytes word (drop (i + 1) all)) (max n most)
unfolding known_bytes
known_goes_on word all i most n d within here so_far =
    let one : drop i all ≡ get_or all i d ∷ drop (i + 1) all = drop_more all i d within in
    let two : known_bytes word (drop i all) ≡ max (common_prefix_len nat_eq (name_of (get_or all i d)) word) (known_bytes word (drop (i + 1) all)) = rw one refl in
    omega arith

pub known_ends : (word : List ℕ) (all : List Mnemonic) (i most : ℕ) → length all ≤ i
    → known_bytes word all ≡ max (known_bytes word (drop i all)) most → most ≡ known_bytes word all
unfolding known_bytes
known_ends word all i most past so_far =
    let none : drop i all ≡ [] = drop_all i all past in
    let zero : known_bytes word (drop i all) ≡ 0 = rw none refl in
    omega arith
