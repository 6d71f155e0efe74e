use Rattle.std.proofs.Common.{map, arith}
use Rattle.std.proofs.lemmas.Result.{err_from_is_err_and}
use Rattle.first_kernels.specs.FirstTree.{assigns_of}
use Rattle.first_kernels.proofs.FirstFormLoops.{none_yet, one_more, no_more, all_made}
use Rattle.first_kernels.proofs.forms.assignments_from.Goals as goal

pub loop-stmt-init : goal.loop-stmt-init
loop-stmt-init c = rw c.new-assignments.ensures.items (none_yet c.args.parameters c.args.body.now)

pub returns-in_err-assignment_from : goal.returns-in_err-assignment_from
returns-in_err-assignment_from c =
    let p = err_from_is_err_and c.from_residual.result c.from_residual.ensures.1 in
    rw (p.1, p.2)
    (no_more c.args.parameters c.args.body.now c.loop-stmt.stmt-index (map assigns_of c.loop-stmt.assignments.items) c.stmt-item.result c.in_err-assignment_from.field-0.0
    c.loop-stmt-test.true c.stmt-item.is c.in_err-assignment_from.ensures c.loop-stmt.invariant)

pub loop-stmt-preserved : goal.loop-stmt-preserved
loop-stmt-preserved c =
    one_more c.args.parameters c.args.body.now c.loop-stmt.stmt-index c.loop-stmt.assignments.items c.push.new.self.items c.stmt-item.result c.in_ok-assignment_from.field-0
    c.loop-stmt-test.true c.stmt-item.is c.in_ok-assignment_from.ensures c.in_ok-push.ensures.items c.loop-stmt.invariant

pub returns : goal.returns
returns c = all_made c.args.parameters c.args.body.now c.loop-stmt.stmt-index (map assigns_of c.loop-stmt.assignments.items) (omega arith) c.loop-stmt.invariant
