use Rattle.std.proofs.Common.{◌≡◌, ◌++◌, ◌-◌, ◌^◌, ◌≤◌, drop, map}
use Rattle.ocl_program.specs.declared.functions.CallSite.{CallSite}
use Rattle.ocl_measures.specs.Totals.{sites_of, variables_of}
use Rattle.ocl_types.specs.Functions.{sites_from}
use Rattle.ocl_types.proofs.file.placed_calls.Given as goal

-- the calls so far and those that are left, from here on
abbrev pub invariant-loop-call : goal.invariant-loop-call
invariant-loop-call l =
    (l.variables ≤ 2 ^ 32 - 1) × (l.sites ≤ 2 ^ 32 - 1) × (l.placed.items ++ sites_from (variables_of l.totals) (sites_of l.totals) l.variables l.sites (map (λ (c : CallSite). c.callee) (drop l.call-index l.function.calls.items)) ≡
    sites_from (variables_of l.totals) (sites_of l.totals) l.function.variables l.function.sites (map (λ (c : CallSite). c.callee) l.function.calls.items))
