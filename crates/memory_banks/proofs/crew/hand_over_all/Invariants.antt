use Rattle.std.proofs.Common.{◌≡◌, ◌<◌, ◌≤◌, ℕ, All, map, take, get_or}
use Rattle.memory_banks.specs.declared.port.Port.{Port}
use Rattle.memory_banks.specs.Ports.{IsOf, IsRenewed, KeptIn, held_set, number, numbers, union}
use Rattle.memory_banks.proofs.crew.hand_over_all.Given as goal

abbrev pub invariant-loop-at : goal.invariant-loop-at
invariant-loop-at l = record {
  of : IsOf l.banks l.into;
  same : number l.into ≡ number l.fn.into;
  joined : numbers l.into ≡ union (numbers l.fn.into) (map (λ p. held_set p) (take l.at l.fn.ports));
  kept : KeptIn (numbers l.fn.into) l.fn.into l.into;
  lists : All (λ p. KeptIn (held_set p) p l.into) (take l.at l.fn.ports);
  renewed : (k : ℕ) (d : Port) → k < l.at → IsRenewed l.banks (get_or l.fn.ports k d) (get_or l.ports k d);
  rest : (k : ℕ) (d : Port) → l.at ≤ k → get_or l.ports k d ≡ get_or l.fn.ports k d;
}
