-- Laws of the lines by which a buffer is printed.
use Rattle.std.proofs.Common.{◌≡◌, ℕ, zero, suc, ◌+◌, ◌-◌, ◌*◌, ◌≤◌, ◌<◌, List, [], ◌∷◌, ◌++◌, ap, ◌∙◌, append-nil, arith}
use Rattle.std.proofs.lemmas.Grind.{flat_map-append}
use Rattle.std.specs.List.{flat_map, range_with_len}
use Rattle.vx_base.specs.Values.{elem_bytes}
use Rattle.vx_base.specs.declared.types.Elem.{Elem}
use Rattle.vx_base.specs.declared.types.Elem.TheVariants.{Char, Uchar, Short, Ushort, Int, Uint}
use Rattle.buf_text.specs.Lines.{behind_text, rest_text}

-- an element of a buffer lies where the buffer does
pub room : (elem : Elem) (at number count bytes : ℕ) → number < count → at + elem_bytes elem * count ≤ bytes
    → (at + elem_bytes elem * number) + elem_bytes elem ≤ bytes
room Char at number count bytes less within = omega arith
room Uchar at number count bytes less within = omega arith
room Short at number count bytes less within = omega arith
room Ushort at number count bytes less within = omega arith
room Int at number count bytes less within = omega arith
room Uint at number count bytes less within = omega arith

-- one number more
range-more : (a n : ℕ) → range_with_len a (n + 1) ≡ range_with_len a n ++ (a + n) ∷ []
range-more a zero = let e : a ≡ a + 0 = omega arith in ap (λ x. x ∷ []) e
range-more a (suc n) =
    let e : (a + 1) + n ≡ a + suc n = omega arith in
    let s : suc n + 1 ≡ suc (n + 1) = omega arith in
    ap (range_with_len a) s ∙ ap (λ xs. a ∷ xs) (range-more (a + 1) n) ∙ ap (λ x. (a ∷ range_with_len (a + 1) n) ++ x ∷ []) e

-- one element more behind the first
pub rest_more : (words : List ℕ) (elem : Elem) (at first step : ℕ) → 1 ≤ step
    → rest_text words elem at first (step + 1) ≡ rest_text words elem at first step ++ behind_text words elem at (first + step)
rest_more words elem at first step some =
    let f : ℕ → List ℕ = λ k. behind_text words elem at (first + k) in
    let e : (step + 1) - 1 ≡ (step - 1) + 1 = omega arith in
    let s : 1 + (step - 1) ≡ step = omega arith in
    ap (λ n. flat_map f (range_with_len 1 n)) e ∙ ap (flat_map f) (range-more 1 (step - 1))
    ∙ flat_map-append f (range_with_len 1 (step - 1)) ((1 + (step - 1)) ∷ [])
    ∙ ap (λ x. flat_map f (range_with_len 1 (step - 1)) ++ x) (append-nil (f (1 + (step - 1))) ∙ ap f s)
