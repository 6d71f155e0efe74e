-- Facts of all numbers below one, for one number more.
use Rattle.std.proofs.Common.{ℕ, ◌+◌, ◌<◌, inl, inr, sym, subst, arith}
use Rattle.std.proofs.lemmas.Bool.{cases_eq}

pub one_more : (P : ℕ → Type 0) (n : ℕ) → ((k : ℕ) → k < n → P k) → P n → (k : ℕ) → k < n + 1 → P k
one_more P n before here k less = elim (cases_eq k n) [
  | inl same ↦ subst P (sym same) here
  | inr differ ↦ before k (omega arith)
]
