use Rattle.std.proofs.Common.{◌≡◌}
use Rattle.memory_banks.specs.Ports.{IsOf, number, numbers}
use Rattle.machine_tests.proofs.shared_words.store_bytes.Given as goal

abbrev pub invariant-loop-turn : goal.invariant-loop-turn
invariant-loop-turn l = record {
  of : IsOf l.banks l.port;
  same : number l.port ≡ number l.initial.port;
  whole : numbers l.port ≡ numbers l.initial.port;
}
