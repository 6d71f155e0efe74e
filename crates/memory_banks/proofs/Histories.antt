-- Histories with one entry more.
use Rattle.std.proofs.Common.{◌≡◌, ℕ, ◌^◌, ◌<◌, List, [], ◌∷◌, ◌++◌, length, get_or, refl, ◌∙◌, arith, length-set}
use Rattle.std.proofs.lemmas.Nat.{or_lt, and_le_l}
use Rattle.memory_banks.specs.declared.entry.BusKind.{BusKind}
use Rattle.memory_banks.specs.declared.entry.BusKind.TheVariants.{Load, Store, FetchAnd, FetchOr}
use Rattle.memory_banks.specs.declared.entry.BusEntry.{BusEntry}
use Rattle.memory_banks.specs.Entries.{after, changed, replay, IsAnswered, IsLegal}

pub replay-append : (ws : List ℕ) (es fs : List BusEntry) → replay ws (es ++ fs) ≡ replay (replay ws es) fs
replay-append ws [] fs = refl
replay-append ws (e ∷ es) fs = replay-append (after ws e) es fs

pub length-replay : (ws : List ℕ) (es : List BusEntry) → length (replay ws es) ≡ length ws
length-replay ws [] = refl
length-replay ws (e ∷ es) = length-replay (after ws e) es ∙ length-set ws e.word (changed e.kind (get_or ws e.word 0) e.operand)

pub IsLegal-push : (ws : List ℕ) (es : List BusEntry) (e : BusEntry) → IsLegal ws es → IsAnswered (replay ws es) e → IsLegal ws (es ++ e ∷ [])
IsLegal-push ws [] e legal answered = (answered, tt)
IsLegal-push ws (f ∷ es) e legal answered = (legal.0, IsLegal-push (after ws f) es e legal.1 answered)

-- a beginning of a legal history is legal
pub IsLegal-front : (ws : List ℕ) (es fs : List BusEntry) → IsLegal ws (es ++ fs) → IsLegal ws es
IsLegal-front ws [] fs legal = tt
IsLegal-front ws (e ∷ es) fs legal = (legal.0, IsLegal-front (after ws e) es fs legal.1)

-- words stay words
pub changed-lt : (kind : BusKind) (before operand : ℕ) → before < 2 ^ 32 → operand < 2 ^ 32 → changed kind before operand < 2 ^ 32
changed-lt Load before operand small fits = small
changed-lt Store before operand small fits = fits
changed-lt FetchAnd before operand small fits = omega (arith, and_le_l before operand)
changed-lt FetchOr before operand small fits = or_lt 32 before operand small fits
