use Rattle.std.specs.Prelude.{◌≡◌, ℕ, List, ◌++◌, Some, Option}
use Rattle.std.specs.Option.{ForSome}

-- where a source told what it had left, it has given these bytes and has the rest left
abbrev pub HasGiven : Option (List ℕ) → Option (List ℕ) → List ℕ → Type 0
HasGiven before now bytes = ForSome before (λ left. (rest : List ℕ) × (left ≡ bytes ++ rest) × (now ≡ Some rest))
