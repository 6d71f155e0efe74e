-- Where operations begin.
use Rattle.std.proofs.Common.{◌≡◌, ℕ, zero, suc, ◌+◌, ◌<◌, ◌≤◌, List, [], ◌∷◌, length, drop, get_or, refl, ap, sym, ◌∙◌, arith}
use Rattle.std.proofs.lemmas.List.{drop_more}
use Rattle.vcode.specs.declared.ops.VOp.{VOp as HeldOp}
use Rattle.vcode.specs.Code.{VOp}
use Rattle.vcode.specs.Shapes.{vop_of, vops_of}
use Rattle.vcode.specs.Words.{op_words, words}
use Rattle.reg_alloc.specs.Layout.{word_of_place}
use Rattle.reg_alloc.specs.Views.{starts_from}

pub some_at : (ops : List HeldOp) (k : ℕ) (other : HeldOp) → k < length ops → vops_of (drop k ops) ≡ vop_of (get_or ops k other) ∷ vops_of (drop (k + 1) ops)
some_at ops k other within = ap vops_of (drop_more ops k other within)

pub none_at : (ops : List HeldOp) (k : ℕ) → length ops ≤ k → vops_of (drop k ops) ≡ []
none_at [] zero past = refl
none_at [] (suc k) past = refl
none_at (op ∷ ops) zero past = absurd (omega (arith, past))
none_at (op ∷ ops) (suc k) past = none_at ops k (omega (arith, past))

-- the first word of a place, from the list of them
starts_at : (k : ℕ) (ops : List VOp) (q : ℕ) → get_or (starts_from k ops) q (words ops + k) ≡ word_of_place ops q + k
starts_at k [] q = refl
starts_at k (op ∷ ops) zero = omega arith
starts_at k (op ∷ ops) (suc q) =
    let h = starts_at (op_words op + k) ops q in
    let e : words (op ∷ ops) + k ≡ words ops + (op_words op + k) = omega arith in
    let e' : word_of_place ops q + (op_words op + k) ≡ word_of_place (op ∷ ops) (suc q) + k = omega arith in
    ap (λ n. get_or (starts_from (op_words op + k) ops) q n) e ∙ h ∙ e'

pub starts_of : (ops : List VOp) (list : List ℕ) (end : ℕ) → list ≡ starts_from 0 ops → end ≡ words ops → (q : ℕ) → get_or list q end ≡ word_of_place ops q
starts_of ops list end e e' q =
    let none : words ops + 0 ≡ words ops = omega arith in
    let none' : word_of_place ops q + 0 ≡ word_of_place ops q = omega arith in
    ap (λ xs. get_or xs q end) e ∙ ap (λ n. get_or (starts_from 0 ops) q n) (e' ∙ sym none) ∙ starts_at 0 ops q ∙ none'
