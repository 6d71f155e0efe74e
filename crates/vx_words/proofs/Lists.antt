-- Two lists that are read from one another, element by element.
use Rattle.std.proofs.Common.{◌≡◌, ℕ, zero, suc, ◌+◌, ◌<◌, List, [], ◌∷◌, ◌++◌, length, get_or, take, map, ap, arith}
use Rattle.std.specs.List.{AllByRecursion}
use Rattle.std.proofs.lemmas.List.{take_more, map-append}

-- what holds of each element and of one more
pub AllByRecursion-push : {X : Type 0} (P : X → Type 0) (xs : List X) (x : X) → AllByRecursion P xs → P x → AllByRecursion P (xs ++ x ∷ [])
AllByRecursion-push P [] x h p = (p, tt)
AllByRecursion-push P (y ∷ xs) x h p = (h.0, AllByRecursion-push P xs x h.1 p)

-- f shows an element of one list as g shows the one of the other at its place. If no element with P is shown as one that
-- stands in the first list, the second list does not have P throughout.
pub refused_at : {X Y Z : Type 0} (f : X → Z) (g : Y → Z) (P : Y → Type 0) (xs : List X) (ys : List Y) (i : ℕ) (d : X) → i < length xs → map f xs ≡ map g ys → AllByRecursion P ys → ((y : Y) → P y → f (get_or xs i d) ≡ g y → ⊥) → ⊥
refused_at f g P [] ys i d l same each none = absurd (omega arith)
refused_at f g P (a ∷ xs) [] i d l same each none = absurd (let h : ⊥ = cc in h)
refused_at f g P (a ∷ xs) (b ∷ ys) zero d l same each none = none b each.0 (let h : f a ≡ g b = cc in h)
refused_at f g P (a ∷ xs) (b ∷ ys) (suc i) d l same each none =
    let rest : map f xs ≡ map g ys = cc in
    refused_at f g P xs ys i d (omega arith) rest each.1 none

-- one more element
pub map_more : {X Y Z : Type 0} (f : X → Z) (g : Y → Z) (xs : List X) (ys : List Y) (i : ℕ) (d : X) (y : Y) → i < length xs → map f (take i xs) ≡ map g ys → f (get_or xs i d) ≡ g y → map f (take (i + 1) xs) ≡ map g (ys ++ y ∷ [])
map_more f g xs ys i d y l same one =
    let front : map f (take (i + 1) xs) ≡ map f (take i xs ++ get_or xs i d ∷ []) = ap (map f) (take_more xs i d l) in
    let h = map-append f (take i xs) (get_or xs i d ∷ []) in
    let k = map-append g ys (y ∷ []) in
    cc
