-- Claimers that took in no others: what a gathering claimer then has.
use Rattle.std.proofs.Common.{◌≡◌, ℕ, ◌<◌, List, [], ◌∷◌, length, All, ap, refl, arith, length-append, sum_by}
use Rattle.std.specs.List.{flat_map}
use Rattle.std.proofs.lemmas.List.Elements.{All-head, All-tail}
use Rattle.std.proofs.lemmas.List.Sums.{sum_by-cons}
use Rattle.group_dispenser.specs.declared.claimer.Claimer.{Claimer}
use Rattle.group_dispenser.specs.Tickets.{rest_of}
use Rattle.group_dispenser.specs.Claimers.{gathered, lists, spare}

one_list : (xss : List (List ℕ)) → 0 < length xss → rest_of xss ≡ [] → length xss ≡ 1
one_list [] live none = absurd (omega arith)
one_list (xs ∷ xss) live none = let short = ap (λ (yss : List (List ℕ)). length yss) none in omega arith

-- each has one list
pub lists_of_each : (cs : List Claimer) → All (λ p. gathered p ≡ []) cs → length (flat_map (λ p. lists p) cs) ≡ length cs
lists_of_each [] none = refl
lists_of_each (p ∷ cs) none =
    let one = one_list (lists p) p.draws (All-head (λ (q : Claimer). gathered q ≡ []) p cs none) in
    let rest = lists_of_each cs (All-tail (λ (q : Claimer). gathered q ≡ []) p cs none) in
    omega (arith, length-append (lists p) (flat_map (λ p. lists p) cs))

-- and those that make no claimer add nothing
pub spare_of_each : (cs : List Claimer) → All (λ p. spare p ≡ 0) cs → sum_by (λ p. spare p) cs ≡ 0
spare_of_each [] none = refl
spare_of_each (p ∷ cs) none =
    let one = All-head (λ (q : Claimer). spare q ≡ 0) p cs none in
    let rest = spare_of_each cs (All-tail (λ (q : Claimer). spare q ≡ 0) p cs none) in
    let sums = sum_by-cons (λ (q : Claimer). spare q) p cs in
    omega arith
