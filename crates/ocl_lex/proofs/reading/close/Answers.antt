use Rattle.std.proofs.Common.{◌++◌, ap, inr, ◌∙◌}
use Rattle.ocl_lex.specs.Telling.{answer}
use Rattle.ocl_lex.specs.declared.faults.LexFault.TheVariants as fault
use Rattle.ocl_lex.proofs.DoingLaws.{stays_open}
use Rattle.ocl_lex.proofs.TellingLaws.{stop_told}
use Rattle.ocl_lex.proofs.reading.close.Goals as goal

pub returns-in-Some : goal.returns-in-Some
returns-in-Some c = inr (λ more.
    ap (λ l. answer c.args.out.now (l ++ more)) (stays_open c.args.end c.args.conditions.now c.in-Some._outer.now c.in-Some.innermost.now c.in-Some.ensures.cases.0)
    ∙ stop_told c.args.out.now.tokens.items c.args.out.now.left (fault.BadDirective c.in-Some.innermost.now.pos) more)
