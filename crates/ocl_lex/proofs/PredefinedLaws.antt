-- The macros that are there from the start, defined one after another.
use Rattle.std.proofs.Common.{◌≡◌, ℕ, ◌+◌, ◌<◌, ◌≤◌, [], take, get_or, sym, ap, ◌∙◌}
use Rattle.std.specs.List.{fold}
use Rattle.std.proofs.lemmas.List.{take_all}
use Rattle.std.proofs.lemmas.List.Sums.{fold_more}
use Rattle.ocl_lex.specs.declared.predefined.Predefined.{Predefined}
use Rattle.ocl_lex.specs.Macros.{Macros, all_predefined, predefined_macros, with_predefined}

pub defines_next : (i : ℕ) (before after : Macros) (d : Predefined) → i < 17 → before ≡ fold with_predefined [] (take i all_predefined)
    → after ≡ with_predefined before (get_or all_predefined i d) → after ≡ fold with_predefined [] (take (i + 1) all_predefined)
defines_next i before after d within so_far adds =
    let one : fold with_predefined [] (take (i + 1) all_predefined) ≡ with_predefined (fold with_predefined [] (take i all_predefined)) (get_or all_predefined i d) =
    fold_more with_predefined [] all_predefined i d within in
    adds ∙ ap (λ ms. with_predefined ms (get_or all_predefined i d)) so_far ∙ sym one

pub defines_all : (i : ℕ) (now : Macros) → 17 ≤ i → now ≡ fold with_predefined [] (take i all_predefined) → now ≡ predefined_macros
unfolding predefined_macros
defines_all i now past so_far = so_far ∙ ap (λ l. fold with_predefined [] l) (take_all i all_predefined past)
