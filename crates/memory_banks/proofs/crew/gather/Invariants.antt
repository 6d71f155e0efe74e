use Rattle.std.proofs.Common.{◌≡◌, All, map}
use Rattle.memory_banks.specs.Ports.{IsOf, KeptIn, number, numbers, union}
use Rattle.memory_banks.proofs.crew.gather.Given as goal

abbrev pub invariant-loop-port : goal.invariant-loop-port
invariant-loop-port l = record {
  can : (goal.iterator-loop-port).can_next l.port-iterator;
  finite : (goal.iterator-loop-port).is_finite l.port-iterator;
  of : IsOf l.banks l.into;
  same : number l.into ≡ number l.initial.into;
  joined : numbers l.into ≡ union (numbers l.initial.into) (map (λ p. numbers p) l.yielded);
  kept : KeptIn (numbers l.initial.into) l.initial.into l.into;
  lists : All (λ p. KeptIn (numbers p) p l.into) l.yielded;
}
