use Rattle.std.proofs.Common.{◌≡◌, reverse, take}
use Rattle.ocl_types.specs.Names.{binding_named}
use Rattle.ocl_types.proofs.scopes.innermost_binding.Given as goal

abbrev pub invariant-loop-table : goal.invariant-loop-table
invariant-loop-table l = l.found ≡ binding_named l.name (reverse (take l.table-index l.tables))
