use Rattle.ocl_lex.proofs.StepLaws.{steps_open, steps_show}
use Rattle.ocl_lex.proofs.replacing.tell_part.Goals as goal

pub returns-in-Some-clause-steps : goal.returns-in-Some-clause-steps
returns-in-Some-clause-steps c =
    steps_open c.open_macro.result c.args.text.now c.args.at c.args.macros.now c.args.out.now c.open_macro.new.out c.args.frames.now.entries c.open_macro.new.frames.entries c.args.part
    (c.in-Some.name, c.in-Some.body) c.in-Some.ensures.opens.0 c.in-Some.ensures.opens.1 c.open_macro.ensures.tells c.open_macro.ensures.pushed

pub returns-in-None-clause-steps : goal.returns-in-None-clause-steps
returns-in-None-clause-steps c =
    steps_show c.show_made.result c.args.text.now c.args.at c.args.macros.now c.args.out.now c.show_made.new.out c.args.frames.now.entries c.args.part c.in-None.ensures.opens c.show_made.ensures.tells
