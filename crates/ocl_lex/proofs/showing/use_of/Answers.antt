use Rattle.std.proofs.Common.{sym, ◌∙◌}
use Rattle.ocl_lex.proofs.FrameLaws.{found_named, named_by}
use Rattle.ocl_lex.proofs.showing.use_of.Goals as goal

pub returns-in-Some : goal.returns-in-Some
returns-in-Some c = (
  found_named c.args.text.now c.args.macros.now c.args.part c.in-Name.start c.in-Name.end c.between-name.result.now c.in-Name.is c.between-name.ensures ∙ sym c.in-Some.ensures,
  named_by c.args.text.now c.args.part c.in-Name.start c.in-Name.end c.between-name.result.now c.in-Name.is c.between-name.ensures,
)

pub returns-in-None : goal.returns-in-None
returns-in-None c =
    found_named c.args.text.now c.args.macros.now c.args.part c.in-Name.start c.in-Name.end c.between-name.result.now c.in-Name.is c.between-name.ensures ∙ sym c.in-None.ensures
