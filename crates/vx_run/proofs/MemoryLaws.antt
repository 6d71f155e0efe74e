-- The memory of a launch by the contents of its buffers.
use Rattle.std.proofs.Common.{◌≡◌, ℕ, zero, suc, ◌+◌, ◌-◌, ◌*◌, ◌<◌, ◌≤◌, inl, inr, List, [], ◌∷◌, ◌++◌, length, get_or, replicate, ap, sym, ◌∙◌, subst, arith, length-append, lit<}
use Rattle.std.proofs.Math.Nat.{mul-le-mul_right}
use Rattle.std.proofs.Math.ListN.{length-replicate, get_or-append}
use Rattle.std.proofs.lemmas.Bool.{cases_lt}
use Rattle.std.proofs.lemmas.List.{get_or-append-add, get_or_past}
use Rattle.std.specs.List.{AllByRecursion, flat_map}
use Rattle.vx_base.proofs.NumberLaws.{number_of-same}
use Rattle.vx_run.specs.Answers.{bytes_in}
use Rattle.first_kernels.specs.FirstMemory.{stride, element_at}
use Rattle.first_kernels.specs.FirstValues.{words_at}
use Rattle.vx_run.specs.Layout.{padded}

-- a buffer fits between its beginning and the next
pub stride-fits : (items : ℕ) → 4 * items ≤ stride items
stride-fits items = omega arith

-- each buffer has an int for each item
abbrev pub AreWhole : ℕ → List (List ℕ) → Type 0
AreWhole items = AllByRecursion (λ bytes. length bytes ≡ 4 * items)

length-padded : (items : ℕ) (bytes : List ℕ) → length bytes ≡ 4 * items → length (padded items bytes) ≡ stride items
length-padded items bytes whole =
    omega (arith, length-append bytes (replicate (stride items - 4 * items) 0), length-replicate {A = ℕ} (stride items - 4 * items) 0, stride-fits items, whole)

-- one beginning more
next_place : (b s q : ℕ) → suc b * s + q ≡ s + (b * s + q)
next_place b s q = omega arith

-- all of the memory
pub length-memory : (items : ℕ) (contents : List (List ℕ)) → AreWhole items contents → length (flat_map (padded items) contents) ≡ length contents * stride items
length-memory items [] whole = omega arith
length-memory items (bytes ∷ more) whole =
    let s = stride items in
    let first : length (padded items bytes) ≡ s = length-padded items bytes whole.0 in
    let rest : length (flat_map (padded items) more) ≡ length more * s = length-memory items more whole.1 in
    let step : suc (length more) * s + 0 ≡ s + (length more * s + 0) = next_place (length more) s 0 in
    omega (arith, length-append (padded items bytes) (flat_map (padded items) more), first, rest, step)

-- a byte of a buffer stands at its place in the memory
pub at_memory : (items : ℕ) (contents : List (List ℕ)) (b q : ℕ) → AreWhole items contents → b < length contents → q < 4 * items →
    get_or (flat_map (padded items) contents) (b * stride items + q) 0 ≡ bytes_in contents b q
at_memory items [] b q whole within inside = absurd (omega (arith, within))
at_memory items (bytes ∷ more) zero q whole within inside =
    let s = stride items in
    let gap : List ℕ = replicate (s - 4 * items) 0 in
    let place : 0 * s + q ≡ q = omega arith in
    let short : q < length (padded items bytes) = omega (arith, length-padded items bytes whole.0, stride-fits items) in
    let own : q < length bytes = omega (arith, whole.0) in
    ap (λ i. get_or (padded items bytes ++ flat_map (padded items) more) i 0) place
    ∙ get_or-append (padded items bytes) (flat_map (padded items) more) 0 q short ∙ get_or-append bytes gap 0 q own
at_memory items (bytes ∷ more) (suc b) q whole within inside =
    let s = stride items in
    let place : suc b * s + q ≡ length (padded items bytes) + (b * s + q) = next_place b s q ∙ ap (λ l. l + (b * s + q)) (sym (length-padded items bytes whole.0)) in
    ap (λ i. get_or (padded items bytes ++ flat_map (padded items) more) i 0) place
    ∙ get_or-append-add (padded items bytes) (flat_map (padded items) more) (b * s + q) 0 ∙ at_memory items more b q whole.1 (omega (arith, within)) inside

-- a product with a lesser number
later_place : (n b s : ℕ) → n ≤ b → n * s ≤ b * s
later_place n b s h = mul-le-mul_right s h

-- an item's element of a buffer is its element in the memory, also where there is no such buffer
pub element_of : (items : ℕ) (contents : List (List ℕ)) (item b : ℕ) → AreWhole items contents → item < items →
    element_at (flat_map (padded items) contents) items item b ≡ words_at (bytes_in contents) item b
element_of items contents item b whole inside =
    let memory = flat_map (padded items) contents in
    let s = stride items in
    number_of-same (λ k. get_or memory (b * s + 4 * item + k) 0) (λ k. bytes_in contents b (4 * item + k)) 4 (λ k below.
    let place : b * s + 4 * item + k ≡ b * s + (4 * item + k) = omega arith in
    elim (cases_lt b (length contents)) [
      | inl within ↦ ap (λ i. get_or memory i 0) place ∙ at_memory items contents b (4 * item + k) whole within (omega arith)
      | inr past ↦
          let far : length contents * s ≤ b * s = later_place (length contents) b s past in
          let none : length memory ≤ b * s + 4 * item + k = omega (arith, length-memory items contents whole, far) in
          get_or_past memory (b * s + 4 * item + k) 0 none ∙ sym (ap (λ bytes. get_or bytes (4 * item + k) 0) (get_or_past contents b [] past))
    ])

-- where the memory has bytes, the buffers have
pub contents_are_bytes : (items : ℕ) (contents : List (List ℕ)) → AreWhole items contents →
    ((i : ℕ) → get_or (flat_map (padded items) contents) i 0 < 256) → (b q : ℕ) → bytes_in contents b q < 256
contents_are_bytes items contents whole fits b q = elim (cases_lt b (length contents)) [
  | inl within ↦ elim (cases_lt q (4 * items)) [
    | inl inside ↦ subst (λ x. x < 256) (at_memory items contents b q whole within inside) (fits (b * stride items + q))
    | inr outside ↦ subst (λ x. x < 256) (sym (get_or_past (get_or contents b []) q 0 (omega (arith, whole_at items contents b whole within)))) (lit< tt)
  ]
  | inr past ↦ subst (λ x. x < 256) (sym (ap (λ bytes. get_or bytes q 0) (get_or_past contents b [] past))) (lit< tt)
]
  where
    whole_at : (items : ℕ) (contents : List (List ℕ)) (b : ℕ) → AreWhole items contents → b < length contents → length (get_or contents b []) ≡ 4 * items
    whole_at items [] b whole within = absurd (omega (arith, within))
    whole_at items (bytes ∷ more) zero whole within = whole.0
    whole_at items (bytes ∷ more) (suc b) whole within = whole_at items more b whole.1 (omega (arith, within))
