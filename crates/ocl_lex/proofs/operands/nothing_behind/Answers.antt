use Rattle.std.proofs.Common.{◌∷◌, sym, ap, ◌∙◌}
use Rattle.ocl_lex.specs.Events.{Stop}
use Rattle.ocl_lex.specs.Lines as spec
use Rattle.ocl_lex.proofs.operands.nothing_behind.Goals as goal

pub returns-in-Some : goal.returns-in-Some
returns-in-Some c = (
  spec.nothing_behind c.args.hash c.in-Some._rest.now,
  ap (spec.nothing_behind c.args.hash) c.in-Some.ensures.cases.0 ∙ ap (λ f. Stop f ∷ spec.nothing_behind c.args.hash c.in-Some._rest.now) (sym c.unwanted.ensures),
)
