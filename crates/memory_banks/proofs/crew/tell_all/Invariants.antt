use Rattle.std.proofs.Common.{◌≡◌, ◌<◌, ◌≤◌, ℕ, get_or}
use mathlib.Core.List.{IsPrefix}
use Rattle.memory_banks.specs.declared.port.Port.{Port}
use Rattle.memory_banks.specs.Ports.{IsSame, StandsAs, numbers, seen}
use Rattle.memory_banks.proofs.crew.tell_all.Given as goal

abbrev pub invariant-loop-at : goal.invariant-loop-at
invariant-loop-at l = record {
  same : IsSame l.banks l.fn.from l.from;
  whole : numbers l.from ≡ numbers l.fn.from;
  told : (k : ℕ) (d : Port) → k < l.at → IsPrefix (seen l.fn.from) (seen (get_or l.ports k d));
  stands : (k : ℕ) (d : Port) → k < l.at → StandsAs l.banks (get_or l.fn.ports k d) (get_or l.ports k d);
  rest : (k : ℕ) (d : Port) → l.at ≤ k → get_or l.ports k d ≡ get_or l.fn.ports k d;
}
