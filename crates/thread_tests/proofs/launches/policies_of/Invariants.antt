use Rattle.std.proofs.Common.{◌≡◌, ◌≤◌, length, vec_capacity}
use Rattle.thread_tests.proofs.launches.policies_of.Given as goal

abbrev pub invariant-loop-made : goal.invariant-loop-made
invariant-loop-made l = record {
  room : l.cores ≤ vec_capacity l.policies;
  count : length l.policies.items ≡ l.made;
}
