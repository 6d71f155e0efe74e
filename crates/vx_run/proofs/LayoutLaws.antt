use Rattle.std.proofs.Common.{◌≡◌, ℕ, ◌+◌, ◌*◌, ◌<◌, List, [], ◌∷◌, ◌++◌, length, take, get_or, ap, sym, ◌∙◌, append-nil, arith}
use Rattle.std.proofs.lemmas.Grind.{flat_map-append}
use Rattle.std.proofs.lemmas.List.{take_more}
use Rattle.std.proofs.lemmas.List.FromFn.{map-range_with_len_more}
use Rattle.std.specs.List.{flat_map}
use Rattle.vx_base.specs.Bytes.{field_of}
use Rattle.vx_run.specs.Layout.{fields_from}

-- what is made of one element more
pub flat_map-take-more : {X A : Type 0} (f : X → List A) (xs : List X) (i : ℕ) (x : X) → i < length xs → x ≡ get_or xs i x →
    flat_map f (take (i + 1) xs) ≡ flat_map f (take i xs) ++ f x
flat_map-take-more f xs i x within is =
    ap (flat_map f) (take_more xs i x within) ∙ flat_map-append f (take i xs) (get_or xs i x ∷ [])
    ∙ ap (λ y. flat_map f (take i xs) ++ y) (append-nil (f (get_or xs i x)) ∙ ap f (sym is))

-- one int more
pub fields_from-more : (memory : List ℕ) (start k : ℕ) → fields_from memory start (k + 1) ≡ fields_from memory start k ++ field_of memory (start + 4 * k) 4 ∷ []
fields_from-more memory start k = map-range_with_len_more (λ j. field_of memory (start + 4 * j) 4) 0 k k (omega arith)
