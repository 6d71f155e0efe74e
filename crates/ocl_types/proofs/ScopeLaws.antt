-- The scopes, the outermost first in the table and the innermost first in the list.
use Rattle.std.proofs.Common.{◌≡◌, ℕ, ◌<◌, suc, List, [], ◌∷◌, ◌++◌, Option, None, Some, refl, sym, ap, ◌∙◌, reverse, take, length, get_or}
use Rattle.std.proofs.lemmas.List.{reverse-append}
use Rattle.std.proofs.Math.Seq.{take-suc}
use Rattle.ocl_types.specs.declared.names.Binding.{Binding}
use Rattle.ocl_types.specs.Names.{Scope, entry_named, binding_named, or_outer}
use Rattle.ocl_types.specs.Stmts.{innermost, outer_scopes}

pub scope_opens : (old new : List Scope) (scope : Scope) → new ≡ old ++ scope ∷ [] → reverse new ≡ scope ∷ reverse old
scope_opens old new scope is = ap reverse is ∙ reverse-append old (scope ∷ [])

pub scope_closes : (old new : List Scope) (scope : Scope) → old ≡ new ++ scope ∷ [] → reverse new ≡ outer_scopes (reverse old)
scope_closes old new scope is = sym (ap outer_scopes (ap reverse is ∙ reverse-append new (scope ∷ [])))

pub scope_is_taken : (old new : List Scope) (scope : Scope) → old ≡ new ++ scope ∷ [] → scope ≡ innermost (reverse old)
scope_is_taken old new scope is = sym (ap innermost (ap reverse is ∙ reverse-append new (scope ∷ [])))

pub none_is_taken : (old : List Scope) (scope : Scope) → old ≡ [] → scope ≡ [] → scope ≡ innermost (reverse old)
none_is_taken old scope none is = is ∙ sym (ap (λ (l : List Scope). innermost (reverse l)) none)

pub none_closes : (old new : List Scope) → old ≡ [] → new ≡ old → reverse new ≡ outer_scopes (reverse old)
none_closes old new none same = ap reverse (same ∙ none) ∙ sym (ap (λ (l : List Scope). outer_scopes (reverse l)) none)

-- one more table hides those before it
pub one_more_table : (name : List ℕ) (tables : List Scope) (k : ℕ) (scope : Scope) → k < length tables → get_or tables k scope ≡ scope →
    binding_named name (reverse (take (suc k) tables)) ≡ or_outer (entry_named name scope) (binding_named name (reverse (take k tables)))
one_more_table name tables k scope within is =
    ap (λ (l : List Scope). binding_named name (reverse l)) (take-suc tables k scope within ∙ ap (λ (s : Scope). take k tables ++ s ∷ []) is) ∙
    ap (binding_named name) (reverse-append (take k tables) (scope ∷ []))
