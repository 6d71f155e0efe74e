use Rattle.std.proofs.Common.{◌∙◌}
use Rattle.ocl_lex.proofs.FrameLaws.{opened_at_end}
use Rattle.ocl_lex.proofs.replacing.open_macro.Goals as goal

pub returns-clause-pushed : goal.returns-clause-pushed
returns-clause-pushed c = c.in_ok-insert.ensures.entries ∙ opened_at_end c.args.name c.args.body c.args.frames.now.entries c.requires
