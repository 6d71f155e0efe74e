use Rattle.std.specs.Prelude.{ℕ, ◌==◌, if◌then◌else◌, List, [], ◌∷◌}
use Rattle.std.specs.List.{onto_first}

-- The lines of a text. A line ends at a line feed, which is no part of it, and the last one perhaps at the text's end.
unfoldable pub lines : List ℕ → List (List ℕ)
lines [] = []
lines (b ∷ rest) = if b == 10 then [] ∷ lines rest else onto_first b (lines rest)
