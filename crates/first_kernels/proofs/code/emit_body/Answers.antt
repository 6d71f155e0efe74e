use Rattle.std.proofs.Common.{◌≤◌, length, arith, refl}
use Rattle.first_kernels.specs.FirstTree.{assigns_of, height}
use Rattle.first_kernels.specs.FirstValues.{IsAssignmentOf}
use Rattle.first_kernels.proofs.FirstEmit.{at_place, body_more, body_all}
use Rattle.first_kernels.proofs.code.emit_body.Goals as goal

pub emit_assignment-requires-clause-of_parameters : goal.emit_assignment-requires-clause-of_parameters
emit_assignment-requires-clause-of_parameters c = at_place (IsAssignmentOf (length c.args.places.now)) assigns_of c.args.assignments.now c.loop-assignment.assignment-index _ c.requires.of_parameters c.loop-assignment-test.true c.assignment-item.is

pub emit_assignment-requires-clause-low : goal.emit_assignment-requires-clause-low
emit_assignment-requires-clause-low c = at_place (λ a. height a.value ≤ 16) assigns_of c.args.assignments.now c.loop-assignment.assignment-index _ c.requires.low c.loop-assignment-test.true c.assignment-item.is

pub loop-assignment-init : goal.loop-assignment-init
loop-assignment-init c = refl

pub loop-assignment-preserved : goal.loop-assignment-preserved
loop-assignment-preserved c = body_more c.args.places.now c.args.assignments.now c.loop-assignment.code.items c.emit_assignment.new.code.items _ c.loop-assignment.assignment-index c.assignment-item.result c.loop-assignment-test.true c.assignment-item.is c.in_ok-emit_assignment.ensures c.loop-assignment.invariant

pub returns : goal.returns
returns c = body_all c.args.places.now c.args.assignments.now c.loop-assignment.code.items _ c.loop-assignment.assignment-index (omega arith) c.loop-assignment.invariant
