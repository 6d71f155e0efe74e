use Rattle.std.proofs.Common.{◌∙◌, rules}
use Rattle.ocl_program.specs.Shapes.{function_node}
use Rattle.ocl_measures.specs.Totals.{calls_of, sites_of, variables_of}
use Rattle.ocl_measures.proofs.Owning.{totals_are}
use Rattle.ocl_measures.proofs.Sums.{nests, sums_up}
use Rattle.ocl_measures.proofs.totals.own_totals.Goals as goal

pub returns : goal.returns
returns c =
    let t = c.args.totals.now in let f = c.args.function.now in
    totals_are (record { variables = c.all_variables.result; sites = c.all_sites.result; calls = c.all_calls.result; size = c.stmts_size-size.result }) t (function_node f)
    (c.all_variables.ensures.sum ∙ sums_up (variables_of t) f.variables f.calls.items c.all_variables.ensures.fits)
    (c.all_sites.ensures.sum ∙ sums_up (sites_of t) f.sites f.calls.items c.all_sites.ensures.fits)
    (c.all_calls.ensures ∙ nests (calls_of t) f.calls.items)
    (search rules) (search rules) (search rules)
