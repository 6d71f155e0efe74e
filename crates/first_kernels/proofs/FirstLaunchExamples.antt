-- Two kernels worked out.
use Rattle.std.proofs.Common.{◌≡◌, ℕ, zero, suc, ◌<◌, ◌%◌, [], ◌∷◌, get_or, refl, arith, nat_eq, if◌then◌else◌, lit<, lit≤}
use Rattle.item_acts.specs.Tame.{LaunchLeaves}
use Rattle.first_kernels.specs.declared.tree.Operator.TheVariants.{Add, Multiply}
use Rattle.first_kernels.specs.FirstTree.{Literal, OwnId, OwnElement, Applied, Form}
use Rattle.first_kernels.specs.First.{launch_of}
use Rattle.first_kernels.specs.FirstValues.{words_at, bytes_left, IsLaunchable}
use Rattle.first_kernels.proofs.FirstLaunchLeaves.{leaves}

-- `a[get_global_id(0)] = get_global_id(0) * 3 + 1;`
abbrev triples : Form
triples = record {
  parameters = 1;
  assignments = record { parameter = 0; value = Applied Add (Applied Multiply OwnId (Literal 3)) (Literal 1) } ∷ [];
}

-- no byte is set
abbrev zeros : ℕ → ℕ → ℕ
zeros buffer byte = 0

-- the one argument names the one buffer
one_known : (p default : ℕ) → p < 1 → get_or (0 ∷ []) p default < 1
one_known zero default below = lit< tt
one_known (suc p) default below = absurd (omega arith)

-- four items may run it over one buffer
triples_run : IsLaunchable triples (0 ∷ []) 4 1
triples_run = record {
  enough = refl;
  within = one_known;
  assignments = ((lit< tt, ((tt, lit< tt), lit< tt)), tt);
  items_some = lit< tt;
  items_few = lit≤ tt;
}

-- their words are 1, 4, 7 and 10, and the bytes behind them and those of other buffers stay
pub triples_words : (words_at (bytes_left (0 ∷ []) 4 triples.assignments zeros) 0 0 ≡ 1) × (words_at (bytes_left (0 ∷ []) 4 triples.assignments zeros) 1 0 ≡ 4)
    × (words_at (bytes_left (0 ∷ []) 4 triples.assignments zeros) 2 0 ≡ 7) × (words_at (bytes_left (0 ∷ []) 4 triples.assignments zeros) 3 0 ≡ 10)
    × (bytes_left (0 ∷ []) 4 triples.assignments zeros 0 16 ≡ 0) × (words_at (bytes_left (0 ∷ []) 4 triples.assignments zeros) 2 1 ≡ 0)
triples_words = (refl, refl, refl, refl, refl, refl)

-- and so its launch leaves these bytes
pub triples_leave : LaunchLeaves (launch_of triples (0 ∷ []) 4 1) zeros (bytes_left (0 ∷ []) 4 triples.assignments zeros)
triples_leave = leaves triples (0 ∷ []) 4 1 zeros triples_run (λ buffer byte. lit< tt)

-- `b[get_global_id(0)] = a[get_global_id(0)] + 1; a[get_global_id(0)] = b[get_global_id(0)] * 2;`
abbrev twice : Form
twice = record {
  parameters = 2;
  assignments = record { parameter = 1; value = Applied Add (OwnElement 0) (Literal 1) }
      ∷ record { parameter = 0; value = Applied Multiply (OwnElement 1) (Literal 2) } ∷ [];
}

-- each word is 5
abbrev fives : ℕ → ℕ → ℕ
fives buffer byte = if nat_eq (byte % 4) 0 then 5 else 0

-- with an array for each parameter, and with one array for both
pub twice_words : (words_at (bytes_left (0 ∷ 1 ∷ []) 2 twice.assignments fives) 1 0 ≡ 12)
    × (words_at (bytes_left (0 ∷ 1 ∷ []) 2 twice.assignments fives) 1 1 ≡ 6)
    × (words_at (bytes_left (0 ∷ 0 ∷ []) 2 twice.assignments fives) 1 0 ≡ 12)
    × (words_at (bytes_left (0 ∷ 0 ∷ []) 2 twice.assignments fives) 1 1 ≡ 5)
twice_words = (refl, refl, refl, refl)
