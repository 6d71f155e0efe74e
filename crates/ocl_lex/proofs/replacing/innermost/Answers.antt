use Rattle.ocl_lex.proofs.FrameLaws.{last_of}
use Rattle.ocl_lex.proofs.replacing.innermost.Goals as goal

pub returns-in-Some : goal.returns-in-Some
returns-in-Some c = last_of c.args.frames.now.entries c.in-Some._name.now c.in-Some.parts.now c.in-Some.ensures.entry
