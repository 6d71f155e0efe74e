-- How many levels of statements there are around what is read.
use Rattle.std.specs.Prelude.{ℕ, ◌+◌, List, [], ◌∷◌}
use Rattle.ocl_parser.specs.declared.states.StmtFrame.{StmtFrame}
use Rattle.ocl_parser.specs.declared.states.StmtFrame.TheVariants.{Block as BlockFrame, Then as ThenFrame, Else as ElseFrame, While as WhileFrame, Do as DoFrame, For as ForFrame}

-- what a block that stands here counts itself
abbrev pub beside : List StmtFrame → ℕ
beside (BlockFrame items ∷ K) = 1
beside _ = 0

-- how many levels of statements there are around a statement that stands here
abbrev pub levels_around : List StmtFrame → ℕ
levels_around [] = 0
levels_around (BlockFrame items ∷ K) = levels_around K + beside K
levels_around (ThenFrame test ∷ K) = levels_around K + 1
levels_around (ElseFrame test one ∷ K) = levels_around K + 1
levels_around (WhileFrame test ∷ K) = levels_around K + 1
levels_around (DoFrame ∷ K) = levels_around K + 1
levels_around (ForFrame first test step ∷ K) = levels_around K + 1
