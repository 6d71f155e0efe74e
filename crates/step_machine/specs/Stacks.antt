-- Stacks, as lists with the last element first.
use Rattle.std.specs.Prelude.{ℕ, List, [], ◌∷◌}

-- the number on top, which is 0 where there is none
abbrev pub top : List ℕ → ℕ
top [] = 0
top (v ∷ vs) = v

-- what is left below it
abbrev pub under : List ℕ → List ℕ
under [] = []
under (v ∷ vs) = vs
