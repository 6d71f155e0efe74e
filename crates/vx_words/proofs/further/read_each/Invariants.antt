use Rattle.std.proofs.Common.{◌≡◌, map, take}
use Rattle.std.specs.List.{AllByRecursion}
use Rattle.vx_words.specs.Names.{IsName}
use Rattle.vx_words.proofs.further.read_each.Given as goal

abbrev pub invariant-loop-part : goal.invariant-loop-part
invariant-loop-part l = AllByRecursion IsName l.items.items × (map (λ part. part.now) (take l.part-index l.parts) ≡ l.items.items)
