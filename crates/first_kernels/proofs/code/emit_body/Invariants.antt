use Rattle.std.proofs.Common.{◌≡◌, ◌++◌, drop, map}
use Rattle.first_kernels.specs.FirstCode.{body_code}
use Rattle.first_kernels.specs.FirstTree.{assigns_of}
use Rattle.first_kernels.proofs.code.emit_body.Given as goal

abbrev pub invariant-loop-assignment : goal.invariant-loop-assignment
invariant-loop-assignment l =
    l.code.items ++ body_code l.places (map assigns_of (drop l.assignment-index l.assignments))
    ≡ l.initial.code.items ++ body_code l.places (map assigns_of l.assignments)
