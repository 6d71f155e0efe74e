use Rattle.std.proofs.Common.{◌≡◌, ◌++◌, drop}
use Rattle.item_settings.specs.Settings.{bound_values}
use Rattle.item_settings.proofs.starts.bound_values.Given as goal

abbrev pub invariant-loop-k : goal.invariant-loop-k
invariant-loop-k l = l.values.items ++ bound_values (drop l.k l.params) (drop l.k l.bounds) ≡ bound_values l.params l.bounds
