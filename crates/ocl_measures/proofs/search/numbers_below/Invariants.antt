use Rattle.std.proofs.Common.{◌-◌}
use Rattle.ocl_measures.specs.Search.{HasFrom}
use Rattle.ocl_measures.proofs.search.numbers_below.Given as goal

abbrev pub invariant-loop-passed : goal.invariant-loop-passed
invariant-loop-passed l = HasFrom (l.count - l.passed) l.count l.numbers.items
