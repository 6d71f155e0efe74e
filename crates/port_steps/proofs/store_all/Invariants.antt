use Rattle.std.proofs.Common.{◌≡◌}
use Rattle.memory_banks.specs.Ports.{IsOf}
use Rattle.port_steps.proofs.store_all.Given as goal

abbrev pub invariant-loop-count : goal.invariant-loop-count
invariant-loop-count l = record { of : IsOf l.banks l.port }
