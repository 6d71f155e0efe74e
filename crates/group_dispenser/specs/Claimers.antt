-- What clauses say of claimers and their dispenser.
use Rattle.std.specs.Prelude.{◌≡◌, ℕ, ◌+◌, List, length}
use Rattle.group_dispenser.specs.declared.claimer.Claimer.{Claimer}
use Rattle.group_dispenser.specs.declared.dispenser.Dispenser.{Dispenser}
use Rattle.group_dispenser.specs.Tickets.{first_of, rest_of}

-- how many groups there are
abbrev pub groups_of : Dispenser → ℕ
groups_of d = d.table.shared.key

-- the claimer draws from this dispenser
pub record IsOf (d : Dispenser) (c : Claimer) : Type 0 where
  pub table : c.seat.table_id ≡ d.table.shared.table_id
  pub groups : c.groups ≡ groups_of d

-- the tickets that it drew, in order
abbrev pub drawn : Claimer → List ℕ
drawn c = first_of c.seat.me.0.lists

-- the tickets of each claimer that it took in
abbrev pub gathered : Claimer → List (List ℕ)
gathered c = rest_of c.seat.me.0.lists

-- the same with its own in front
abbrev pub lists : Claimer → List (List ℕ)
lists c = c.seat.me.0.lists

-- how many claimers it may still make
abbrev pub spare : Claimer → ℕ
spare c = c.seat.me.0.spare

-- it has taken in every claimer, directly or through others
abbrev pub HasAll : Claimer → Type 0
HasAll c = spare c + length (lists c) ≡ 9
