use Rattle.std.proofs.Common.{◌≡◌, [], drop, take}
use Rattle.ocl_types.specs.Functions.{names_from}
use Rattle.ocl_types.specs.Tables.{NumbersOf, trees_of}
use Rattle.ocl_types.proofs.functions.Functions.new.Given as goal

-- the table has the functions so far, whose names differ
abbrev pub invariant-loop-number : goal.invariant-loop-number
invariant-loop-number l =
    NumbersOf l.numbers.entries (take l.number (trees_of l.functions)) ×
    (names_from (take l.number (trees_of l.functions)) (drop l.number (trees_of l.functions)) ≡ names_from [] (trees_of l.functions))
