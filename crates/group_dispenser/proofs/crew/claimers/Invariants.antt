use Rattle.std.proofs.Common.{◌≡◌, ◌≤◌, ◌+◌, [], ◌∷◌, All, length}
use Rattle.std.specs.Vec.{vec_capacity}
use Rattle.group_dispenser.specs.Claimers.{IsOf, lists, spare}
use Rattle.group_dispenser.proofs.crew.claimers.Given as goal

abbrev pub invariant-loop-made : goal.invariant-loop-made
invariant-loop-made l = record {
  of : IsOf l.d l.c;
  left : spare l.c + l.made ≡ 8;
  same : lists l.c ≡ lists l.fn.c;
  room : l.n ≤ vec_capacity l.items;
  count : length l.items.items ≡ l.made;
  made : All (λ p. IsOf l.d p × (lists p ≡ [] ∷ []) × (spare p ≡ 0)) l.items.items;
}
