-- Laws of picks.
use Rattle.std.proofs.Common.{◌≡◌, ℕ, ◌+◌, ◌-◌, ◌/◌, ◌%◌, ◌^◌, ◌≤◌, ap, subst, sym, ◌∙◌, arith}
use Rattle.std.specs.Int.{IsBitSet, bit_at}
use Rattle.std.proofs.lemmas.Nat.{pow-add}
use Rattle.std.proofs.Math.Nat.{div-div-eq-div-mul}
use Rattle.vx_base.specs.Masks.{IsLeastBit}
use Rattle.vx_base.proofs.MaskLaws.{bit_of_set, set_of_bit, no_bit}
use Rattle.warp_scheduler.specs.Rules.{PicksInTurn, Above, Around}

-- bit k behind a shift to the right
shifted_bit : (n from k : ℕ) → bit_at (n / 2 ^ from) k ≡ bit_at n (from + k)
shifted_bit n from k =
    ap (λ (x : ℕ). x % 2) (div-div-eq-div-mul n (2 ^ from) (2 ^ k) ∙ ap (λ (x : ℕ). n / x) (sym (pow-add 2 from k)))

shifted_set : (n from k : ℕ) → IsBitSet (n / 2 ^ from) k → IsBitSet n (from + k)
shifted_set n from k is_set = set_of_bit n (from + k) (sym (shifted_bit n from k) ∙ bit_of_set (n / 2 ^ from) k is_set)

set_shifted : (n from k : ℕ) → IsBitSet n (from + k) → IsBitSet (n / 2 ^ from) k
set_shifted n from k is_set = set_of_bit (n / 2 ^ from) k (shifted_bit n from k ∙ bit_of_set n (from + k) is_set)

-- a bit at or above a number, by how far it is above
at_distance : (n from j : ℕ) → from ≤ j → IsBitSet n j → IsBitSet n (from + (j - from))
at_distance n from j above is_set =
    let there : j ≡ from + (j - from) = omega (arith, above) in
    subst (IsBitSet n) there is_set

pub picks_above : (ready from steps : ℕ) → IsLeastBit (ready / 2 ^ from) steps → PicksInTurn from ready (from + steps)
picks_above ready from steps least = Above (record {
  is_ready = shifted_set ready from steps least.is_set;
  from_on = omega arith;
  none_before = λ j above before is_set.
      least.none_below (j - from) (omega (arith, above, before)) (set_shifted ready from (j - from) (at_distance ready from j above is_set));
})

pub picks_around : (ready from k : ℕ) → ready / 2 ^ from ≡ 0 → IsLeastBit ready k → PicksInTurn from ready k
picks_around ready from k none least = Around
    (λ j above is_set. no_bit (j - from) (subst (λ (m : ℕ). IsBitSet m (j - from)) none (set_shifted ready from (j - from) (at_distance ready from j above is_set))))
    least

-- a pick in turn is one of the ready warps
pub picked_ready : (from ready k : ℕ) → PicksInTurn from ready k → IsBitSet ready k
picked_ready from ready k (Above first) = first.is_ready
picked_ready from ready k (Around none least) = least.is_set
