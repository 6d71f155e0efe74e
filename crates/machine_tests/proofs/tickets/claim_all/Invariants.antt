use Rattle.std.proofs.Common.{◌≡◌, ◌<◌, All}
use Rattle.group_dispenser.specs.Claimers.{IsOf, drawn, gathered, groups_of, spare}
use Rattle.machine_tests.proofs.tickets.claim_all.Given as goal

abbrev pub invariant-loop-claimed : goal.invariant-loop-claimed
invariant-loop-claimed l = record {
  of : IsOf l.d l.c;
  open_on : All (λ t. t < groups_of l.d) (drawn l.c);
  same : gathered l.c ≡ gathered l.initial.c;
  left : spare l.c ≡ spare l.initial.c;
}
