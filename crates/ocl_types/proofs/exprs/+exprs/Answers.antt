use Rattle.std.proofs.Common.{rules}
use Rattle.ocl_ast.specs.Shapes.{tree_of}
use Rattle.ocl_types.specs.Answers.{Faults, args_sofar, callee_in}
use Rattle.ocl_types.specs.Exprs.{typed}
use Rattle.ocl_types.specs.Tables.{trees_of}
use Rattle.ocl_types.proofs.Steps.{call_fault, call_typed, name_typed}
use Rattle.ocl_types.proofs.exprs.+exprs.Goals as goal

pub typed_expr-returns-in-Name : goal.typed_expr-returns-in-Name
typed_expr-returns-in-Name t c =
    name_typed c.as_variable.result (trees_of c.args.functions.now.functions.now) c.args.scopes.now c.args.calls.now.items c.args.expr.now c.in-Name.name c.as_slice.result.now c.meaning_of.result
    c.in-Name.is c.as_slice.ensures c.meaning_of.ensures (c.as_variable.ensures c.args.calls.now.items)

pub typed_expr-returns-in_err-args-in-Call : goal.typed_expr-returns-in_err-args-in-Call
typed_expr-returns-in_err-args-in-Call t c =
    let fault : Faults c.in_err-args-in-Call.field-0.0 (typed (trees_of c.args.functions.now.functions.now) c.args.scopes.now c.args.calls.now.items (tree_of c.args.expr.now)) =
    call_fault (trees_of c.args.functions.now.functions.now) c.args.scopes.now c.args.calls.now.items c.args.expr.now c.in-Call.name c.in-Call.args c.deref-in-Call.result.now c.as_slice-in-Call.result.now c.meaning_of-in-Call.result
    (callee_in c.in_ok-callee-in-Call.callee) c.in_err-args-in-Call.field-0.0 c.in-Call.is c.as_slice-in-Call.ensures c.meaning_of-in-Call.ensures c.in_ok-callee-in-Call.ensures c.deref-in-Call.ensures.value c.in_err-args-in-Call.ensures in
    search rules

pub typed_expr-returns-in_ok-args-in-Call : goal.typed_expr-returns-in_ok-args-in-Call
typed_expr-returns-in_ok-args-in-Call t c =
    call_typed c.value_call.result c.value_call.new.calls.items (trees_of c.args.functions.now.functions.now) c.args.scopes.now c.args.calls.now.items c.args.expr.now c.in-Call.name c.in-Call.args c.deref-in-Call.result.now c.as_slice-in-Call.result.now
    c.meaning_of-in-Call.result (callee_in c.in_ok-callee-in-Call.callee) (args_sofar c.in_ok-args-in-Call.args c.typed_args.new.calls.items)
    c.in-Call.is c.as_slice-in-Call.ensures c.meaning_of-in-Call.ensures c.in_ok-callee-in-Call.ensures c.deref-in-Call.ensures.value c.in_ok-args-in-Call.ensures c.value_call.ensures
