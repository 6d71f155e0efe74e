use Rattle.std.proofs.Common.{◌≡◌, ◌+◌, ◌++◌, sum_by}
use Rattle.std.specs.List.{flat_map}
use Rattle.group_dispenser.specs.Claimers.{IsOf, lists, spare}
use Rattle.group_dispenser.proofs.crew.gather.Given as goal

abbrev pub invariant-loop-claimer : goal.invariant-loop-claimer
invariant-loop-claimer l = record {
  can : (goal.iterator-loop-claimer).can_next l.claimer-iterator;
  finite : (goal.iterator-loop-claimer).is_finite l.claimer-iterator;
  of : IsOf l.d l.into;
  joined : lists l.into ≡ lists l.initial.into ++ flat_map (λ p. lists p) l.yielded;
  left : spare l.into ≡ spare l.initial.into + sum_by (λ p. spare p) l.yielded;
}
