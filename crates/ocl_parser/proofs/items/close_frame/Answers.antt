use Rattle.std.proofs.Common.{◌≡◌, refl, List, ◌∷◌}
use Rattle.ocl_ast.specs.Trees.{StmtTrees}
use Rattle.ocl_parser.specs.StmtSteps.{Stops, close_block}
use Rattle.ocl_parser.specs.declared.states.StmtFrame.{StmtFrame}
use Rattle.ocl_parser.specs.declared.states.StmtFrame.TheVariants.{Block as BlockFrame, Then as ThenFrame, Else as ElseFrame, While as WhileFrame, Do as DoFrame, For as ForFrame}
use Rattle.ocl_parser.proofs.items.close_frame.Goals as goal

not_block : (f : StmtFrame) (K : List StmtFrame) → ((items : StmtTrees) → f ≡ BlockFrame items → ⊥) → Stops ≡ close_block (f ∷ K)
not_block (BlockFrame items) K h = absurd (h items refl)
not_block (ThenFrame test) K h = refl
not_block (ElseFrame test body) K h = refl
not_block (WhileFrame test) K h = refl
not_block DoFrame K h = refl
not_block (ForFrame first test step) K h = refl

pub returns-in_default : goal.returns-in_default
returns-in_default c = not_block c.args.frame c.args.frames.now c.in_default.not-Block
