-- Sums over what all claimers know.
use Rattle.std.proofs.Common.{◌≡◌, ℕ, zero, suc, ◌+◌, ◌≤◌, List, [], ◌∷◌, ◌++◌, set, sym, ap, refl, arith}
use mathlib.Core.Option.{some, some-injective, some-ne-none}
use lib.ListN.{get_elem?}
use Rattle.group_dispenser.specs.declared.rule.Share.{Share}
use Rattle.group_dispenser.specs.Rule.{total, parts}

-- what one changed view does to a sum
pub total_set : (f : Share → ℕ) (vs : List Share) (id : ℕ) (v w : Share) → get_elem? vs id ≡ some v → total f (set vs id w) + f v ≡ total f vs + f w
total_set f [] id v w at = absurd (some-ne-none v (sym at))
total_set f (u ∷ us) zero v w at = let same : f u ≡ f v = ap f (some-injective u v at) in omega arith
total_set f (u ∷ us) (suc id) v w at = let rest = total_set f us id v w at in omega arith

-- what one more view does to a sum
pub total_snoc : (f : Share → ℕ) (vs : List Share) (v : Share) → total f (vs ++ v ∷ []) ≡ total f vs + f v
total_snoc f [] v = omega arith
total_snoc f (u ∷ us) v = let rest = total_snoc f us v in omega arith

-- each view counts at most the sum
pub total_member : (f : Share → ℕ) (vs : List Share) (id : ℕ) (v : Share) → get_elem? vs id ≡ some v → f v ≤ total f vs
total_member f [] id v at = absurd (some-ne-none v (sym at))
total_member f (u ∷ us) zero v at = let same : f u ≡ f v = ap f (some-injective u v at) in omega arith
total_member f (u ∷ us) (suc id) v at = let rest = total_member f us id v at in omega arith

-- a sum of what is bounded by something else, view by view
pub total_le : (f g : Share → ℕ) (vs : List Share) → ((id : ℕ) (v : Share) → get_elem? vs id ≡ some v → f v ≤ g v) → total f vs ≤ total g vs
total_le f g [] le = omega arith
total_le f g (u ∷ us) le = let first = le 0 u refl in let rest = total_le f g us (λ id v at. le (suc id) v at) in omega arith

module _ (f : Share → ℕ) (idle : (v : Share) → parts v ≡ 0 → f v ≡ 0) where
  none_left : (vs : List Share) → total parts vs ≡ 0 → total f vs ≡ 0
  none_left [] zero_parts = refl
  none_left (u ∷ us) zero_parts =
      let first : f u ≡ 0 = idle u (omega arith) in let rest = none_left us (omega arith) in omega arith

  -- who has all parts has all
  pub alone : (vs : List Share) (id : ℕ) (v : Share) → get_elem? vs id ≡ some v → total parts vs ≡ parts v → total f vs ≡ f v
  alone [] id v at all = absurd (some-ne-none v (sym at))
  alone (u ∷ us) zero v at all =
      let same = ap parts (some-injective u v at) in
      let same' = ap f (some-injective u v at) in
      let rest = none_left us (omega arith) in
      omega arith
  alone (u ∷ us) (suc id) v at all =
      let part = total_member parts us id v at in
      let first : f u ≡ 0 = idle u (omega arith) in
      let rest = alone us id v at (omega arith) in
      omega arith
