use Rattle.std.proofs.Common.{◌≡◌, ◌≤◌, All, length, map, take, drop}
use Rattle.std.specs.Vec.{vec_capacity}
use Rattle.memory_banks.specs.Ports.{IsNew, IsSame, held, number, numbers, union}
use Rattle.memory_banks.proofs.crew.ports.Given as goal

abbrev pub invariant-loop-made : goal.invariant-loop-made
invariant-loop-made l = record {
  same : IsSame l.banks l.fn.port l.port;
  room : l.n ≤ vec_capacity l.items;
  count : length l.items.items ≡ l.made;
  taken : map (λ p. number p) l.items.items ≡ take l.made (held l.fn.port);
  left : held l.port ≡ drop l.made (held l.fn.port);
  new : All (λ p. IsNew l.banks l.fn.port p) l.items.items;
  back : union (numbers l.port) (map (λ p. numbers p) l.items.items) ≡ numbers l.fn.port;
}
