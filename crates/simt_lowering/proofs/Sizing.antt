-- How large operations are, which falls where one goes on to a part, and what is left of a list of them.
use Rattle.std.proofs.Common.{◌≡◌, ℕ, zero, suc, ◌+◌, ◌<◌, ◌≤◌, List, [], ◌∷◌, length, drop, get_or, refl, sym, ap, ◌∙◌, arith}
use Rattle.std.proofs.lemmas.List.{drop_more}
use Rattle.kir.specs.Shapes.{op_of, ops_of}
use Rattle.kir.specs.Trees.{Op, If, Loop, Call, Ops, NoOps, AndOp}
use Rattle.kir.specs.declared.ops.Op.{Op as HeldOp}

abbrev mutual
  pub size : Ops → ℕ
  size NoOps = 3
  size (AndOp op ops) = op_size op + size ops

  pub op_size : Op → ℕ
  op_size (If test one other) = size one + size other + 1
  op_size (Loop head test body step) = size head + size body + size step + 1
  op_size (Call body) = size body + 1
  op_size other = 1

pub some_size : (ops : Ops) → 3 ≤ size ops
some_size NoOps = omega arith
some_size (AndOp op ops) = let h : 3 ≤ size ops = some_size ops in omega arith

pub size_at : (ops : List HeldOp) (k : ℕ) (op : HeldOp) → k < length ops → op ≡ get_or ops k op → op_size (op_of op) + 1 < size (ops_of ops)
size_at [] k op within is = absurd (omega arith)
size_at (x ∷ xs) zero op within is =
    let same : op_size (op_of op) ≡ op_size (op_of x) = ap (λ o. op_size (op_of o)) is in
    let more : 3 ≤ size (ops_of xs) = some_size (ops_of xs) in
    omega arith
size_at (x ∷ xs) (suc k) op within is =
    let h : op_size (op_of op) + 1 < size (ops_of xs) = size_at xs k op (omega arith) is in
    omega arith

-- ---- what is left of a list

none_left : {A : Type 0} (k : ℕ) → drop {A = A} k [] ≡ []
none_left zero = refl
none_left (suc k) = refl

pub all_left : {A : Type 0} (xs : List A) (k : ℕ) → length xs ≤ k → drop k xs ≡ []
all_left [] k past = none_left k
all_left (x ∷ xs) zero past = absurd (omega arith)
all_left (x ∷ xs) (suc k) past = all_left xs k (omega arith)

pub next_left : {A : Type 0} (xs : List A) (k : ℕ) (x : A) → k < length xs → x ≡ get_or xs k x → drop k xs ≡ x ∷ drop (k + 1) xs
next_left xs k x within is = drop_more xs k x within ∙ ap (λ y. y ∷ drop (k + 1) xs) (sym is)

pub first_of : (ops : List HeldOp) (k : ℕ) (op : HeldOp) → k < length ops → op ≡ get_or ops k op → ops_of (drop k ops) ≡ AndOp (op_of op) (ops_of (drop (k + 1) ops))
first_of ops k op within is = ap ops_of (next_left ops k op within is)

pub none_of : (ops : List HeldOp) (k : ℕ) → length ops ≤ k → ops_of (drop k ops) ≡ NoOps
none_of ops k past = ap ops_of (all_left ops k past)
