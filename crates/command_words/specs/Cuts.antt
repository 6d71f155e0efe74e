use Rattle.std.specs.Prelude.{ℕ, Option, Some, None, ◌==◌, if◌then◌else◌, List, [], ◌∷◌}
use Rattle.std.specs.Option.{option_map, option_and_then}

-- what follows where there is something
infixl 10 ◌>>=◌
abbrev pub ◌>>=◌ : {A B : Type 0} → Option A → (A → Option B) → Option B
o >>= f = option_and_then f o

-- the text before the first place of a byte, and the text behind it
abbrev pub cut : ℕ → List ℕ → Option (List ℕ × List ℕ)
cut byte [] = None
cut byte (c ∷ cs) = if c == byte then Some ([], cs) else option_map (λ p. (c ∷ p.0, p.1)) (cut byte cs)

-- the text behind a `-`
abbrev pub behind_minus : List ℕ → Option (List ℕ)
behind_minus [] = None
behind_minus (c ∷ cs) = if c == 45 then Some cs else None
