use Rattle.std.proofs.Common.{inr, map, sym, ◌∙◌, arith}
use Rattle.ocl_program.specs.Shapes.{function_node}
use Rattle.ocl_types.specs.Functions.{each_from, kernel_fault as kernel_fault_of}
use Rattle.ocl_types.proofs.Passing.{fails, kernel_by, measured_all, passes}
use Rattle.ocl_types.proofs.limits.check_kernels.Goals as goal

pub returns-in-Some : goal.returns-in-Some
returns-in-Some c =
    let fs = c.args.functions.now in let k = c.loop-number.number in let f = c.index-functions-number.result in let t = c.totals_at.result in
    let by = kernel_by (map function_node fs) c.args.totals.now k (function_node f) t (measured_all fs c.args.totals.now c.requires.measured) c.totals_at.ensures.variables c.totals_at.ensures.nodes c.totals_at.ensures.control c.totals_at.ensures.calls in
    inr (fails (kernel_fault_of (map function_node fs)) fs k f c.in-Some.fault (each_from (kernel_fault_of (map function_node fs)) 0 (map function_node fs)) (omega arith) c.index-functions-number.is
    (sym by ∙ sym c.kernel_fault.ensures ∙ c.in-Some.is) c.loop-number.invariant)

pub loop-number-preserved : goal.loop-number-preserved
loop-number-preserved c =
    let fs = c.args.functions.now in let k = c.loop-number.number in let f = c.index-functions-number.result in let t = c.totals_at.result in
    let by = kernel_by (map function_node fs) c.args.totals.now k (function_node f) t (measured_all fs c.args.totals.now c.requires.measured) c.totals_at.ensures.variables c.totals_at.ensures.nodes c.totals_at.ensures.control c.totals_at.ensures.calls in
    passes (kernel_fault_of (map function_node fs)) fs k f (each_from (kernel_fault_of (map function_node fs)) 0 (map function_node fs)) (omega arith) c.index-functions-number.is
    (sym by ∙ sym c.kernel_fault.ensures ∙ c.in_default.is) c.loop-number.invariant
