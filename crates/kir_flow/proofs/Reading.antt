-- Lists of the code's operations, from one on.
use Rattle.std.proofs.Common.{◌≡◌, ℕ, zero, suc, ◌+◌, ◌<◌, ◌≤◌, true, false, List, [], ◌∷◌, length, drop, get_or, refl, sym, ap, ◌∙◌, arith}
use Rattle.std.proofs.lemmas.List.{drop_more}
use Rattle.std.specs.Prelude.{if◌then◌else◌}
use Rattle.kir.specs.Measures.{is_single}
use Rattle.kir.specs.Shapes.{op_of, ops_of}
use Rattle.kir.specs.Trees.{Ops, NoOps, AndOp}
use Rattle.kir.specs.declared.ops.Op.{Op as HeldOp}
use Rattle.kir.proofs.Putting.{onto_none}
use Rattle.kir_flow.specs.Flagging.{singles}
use Rattle.kir.specs.Lists.{onto}

none_left : {A : Type 0} (k : ℕ) → drop {A = A} k [] ≡ []
none_left zero = refl
none_left (suc k) = refl

pub all_left : {A : Type 0} (xs : List A) (k : ℕ) → length xs ≤ k → drop k xs ≡ []
all_left [] k past = none_left k
all_left (x ∷ xs) zero past = absurd (omega arith)
all_left (x ∷ xs) (suc k) past = all_left xs k (omega arith)

pub next_left : {A : Type 0} (xs : List A) (k : ℕ) (x : A) → k < length xs → x ≡ get_or xs k x → drop k xs ≡ x ∷ drop (k + 1) xs
next_left xs k x within is = drop_more xs k x within ∙ ap (λ y. y ∷ drop (k + 1) xs) (sym is)

-- single operations end at one that is none, and at the last
pub singles_end : (copy ops : List HeldOp) (k : ℕ) (op : HeldOp) (whole : Ops) → k < length ops → op ≡ get_or ops k op → is_single (op_of op) ≡ false
    → onto copy (singles (ops_of (drop k ops))) ≡ whole → ops_of copy ≡ whole
singles_end copy ops k op whole within is none h =
    let rest : Ops = ops_of (drop (k + 1) ops) in
    sym (onto_none copy) ∙ ap (onto copy) (sym (ap (λ s. if s then AndOp (op_of op) (singles rest) else NoOps) none))
    ∙ ap (λ xs. onto copy (singles (ops_of xs))) (sym (next_left ops k op within is)) ∙ h

pub singles_done : (copy ops : List HeldOp) (k : ℕ) (whole : Ops) → length ops ≤ k → onto copy (singles (ops_of (drop k ops))) ≡ whole → ops_of copy ≡ whole
singles_done copy ops k whole past h = sym (onto_none copy) ∙ ap (λ xs. onto copy (singles (ops_of xs))) (sym (all_left ops k past)) ∙ h

-- one single operation more
pub singles_more : (copy after ops : List HeldOp) (k : ℕ) (op put : HeldOp) (whole : Ops) → k < length ops → op ≡ get_or ops k op → is_single (op_of op) ≡ true → op_of put ≡ op_of op
    → ((c : Ops) → onto after c ≡ onto copy (AndOp (op_of put) c)) → onto copy (singles (ops_of (drop k ops))) ≡ whole → onto after (singles (ops_of (drop (k + 1) ops))) ≡ whole
singles_more copy after ops k op put whole within is single same puts h =
    let rest : Ops = singles (ops_of (drop (k + 1) ops)) in
    puts rest ∙ ap (λ o. onto copy (AndOp o rest)) same ∙ ap (onto copy) (sym (ap (λ s. if s then AndOp (op_of op) rest else NoOps) single))
    ∙ ap (λ xs. onto copy (singles (ops_of xs))) (sym (next_left ops k op within is)) ∙ h
