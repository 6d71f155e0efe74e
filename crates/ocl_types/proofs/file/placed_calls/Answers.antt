use Rattle.std.proofs.Common.{◌≡◌, ◌+◌, ◌<◌, ◌++◌, ◌∷◌, get_or, length, drop, map, sym, ap, ◌∙◌, arith}
use Rattle.ocl_program.specs.Measures.{cut}
use Rattle.ocl_program.specs.declared.functions.CallSite.{CallSite}
use Rattle.ocl_measures.specs.Totals.{sites_of, variables_of}
use Rattle.ocl_types.specs.Functions.{sites_from}
use Rattle.ocl_types.proofs.Filing.{placed_more, read_any}
use Rattle.ocl_types.proofs.file.placed_calls.Goals as goal

pub loop-call-preserved : goal.loop-call-preserved
loop-call-preserved c =
    let v = c.loop-call.variables in let s = c.loop-call.sites in let v' = c.saturating_add-variables.result in let s' = c.saturating_add-sites.result in
    let V = variables_of c.args.totals.now in let S = sites_of c.args.totals.now in
    let xs = c.deref-call-items.result.now in let k = c.loop-call.call-index in
    let none : CallSite = record { callee = 0; variables = 0; sites = 0 } in
    let here = get_or xs k none in
    let seen = c.deref-call-items.ensures.value in
    let within : k < length xs = omega (arith, ap length seen) in
    let known = ap (λ l. c.loop-call.placed.items ++ sites_from V S v s (map (λ (q : CallSite). q.callee) (drop k l))) seen ∙ c.loop-call.invariant.2 in
    let made = placed_more V S v s v' s' xs k here c.loop-call.placed.items c.push.new.self.items _ within (read_any xs k none within) c.loop-call.invariant.0 c.loop-call.invariant.1
    (c.saturating_add-variables.ensures ∙ ap (λ m. cut (v + m)) c.totals_at-inner.ensures.variables) (c.saturating_add-sites.ensures ∙ ap (λ m. cut (s + m)) c.totals_at-inner.ensures.sites) c.in-Ok.ensures.items known in
    (omega arith, omega arith, sym (ap (λ l. c.push.new.self.items ++ sites_from V S v' s' (map (λ (q : CallSite). q.callee) (drop (k + 1) l))) seen) ∙ made)
