use Rattle.std.proofs.Common.{◌∷◌, []}
use Rattle.ocl_lex.specs.Events.{Use}
use Rattle.ocl_lex.proofs.ShowLaws.{tells_then}
use Rattle.ocl_lex.proofs.showing.show_use.Goals as goal

pub returns : goal.returns
returns c = tells_then c.replace.result c.args.out.now c.count_use.new.out c.replace.new.out (Use c.args.at.pos ∷ []) _ c.in_ok-count_use.ensures.tells c.replace.ensures
