-- How far the front of a list goes.
use Rattle.std.proofs.Common.{◌≡◌, ℕ, ◌≤◌, Bool, List, length, take, min}
use Rattle.std.specs.List.{prefix_len}
use Rattle.std.proofs.lemmas.List.{take_min}
use Rattle.std.proofs.lemmas.List.Sums.{prefix_len-le-length}

pub whole_prefix : (p : ℕ → Bool) (xs : List ℕ) → prefix_len p xs ≤ length xs
whole_prefix p xs = prefix_len-le-length p xs

pub take_least : (n : ℕ) (xs : List ℕ) → take (min n (length xs)) xs ≡ take n xs
take_least n xs = take_min n xs
