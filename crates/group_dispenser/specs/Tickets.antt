-- Lists of tickets. Ticket t stands for group t where it is below the group count.
use Rattle.std.specs.Prelude.{◌≡◌, ℕ, ◌<◌, ◌≤◌, ◌==◌, nat_le, nat_lt, if◌then◌else◌, List, [], ◌∷◌, All, count_by}
use Rattle.std.specs.List.Sorted.{IsStrictlyIncreasing}

abbrev pub first_of : List (List ℕ) → List ℕ
first_of [] = []
first_of (xs ∷ xss) = xs

abbrev pub rest_of : List (List ℕ) → List (List ℕ)
rest_of [] = []
rest_of (xs ∷ xss) = xss

-- how many of the tickets stand for no group
abbrev pub past : ℕ → List ℕ → ℕ
past groups tickets = count_by (λ t. nat_le groups t) tickets

-- what one claimer has drawn, where `next` is the next ticket
pub record AreDrawn (groups next : ℕ) (tickets : List ℕ) : Type 0 where
  pub ascending : IsStrictlyIncreasing tickets
  pub below : All (λ t. t < next) tickets
  pub last : past groups tickets ≤ 1

-- the tickets are the numbers below n, each once
abbrev pub AreBelow : ℕ → List ℕ → Type 0
AreBelow n tickets = (x : ℕ) → count_by (λ t. t == x) tickets ≡ (if nat_lt x n then 1 else 0)
