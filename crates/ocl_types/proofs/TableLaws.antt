-- Looking up and adding a name in the table and in the list.
use Rattle.std.proofs.Common.{◌≡◌, ℕ, List, [], ◌∷◌, ◌++◌, None, refl, sym, ap, ◌∙◌}
use Rattle.std.specs.Borrow.{Bor}
use Rattle.std.specs.Str.{bytes_eq}
use Rattle.std.specs.Map.{lookup}
use Rattle.std.specs.Prelude.{map, Option, option_map, slice_get}
use Rattle.std.proofs.lemmas.List.{map-append}
use Rattle.std.proofs.lemmas.Option.{slice_get-map}
use Rattle.ocl_ast.specs.Shapes.{function_tree}
use Rattle.ocl_ast.specs.Trees.{FunctionTree}
use Rattle.ocl_ast.specs.declared.units.Function.{Function}
use Rattle.indexmap.specs.IndexMap.{IndexMap, insert_entry}
use Rattle.indexmap.proofs.CallerLemmas.{insert_entry-new}
use Rattle.ocl_types.specs.declared.names.Binding.{Binding}
use Rattle.ocl_types.specs.Names.{Scope, entry_named}
use Rattle.ocl_types.specs.Tables.{scope_of, trees_of}

pub entry_is_looked_up : (name : List ℕ) (entries : List (Bor (List ℕ) × Binding)) →
    entry_named name (scope_of entries) ≡ lookup (λ (k : Bor (List ℕ)). bytes_eq name k.now) entries
entry_is_looked_up name [] = refl
entry_is_looked_up name (e ∷ es) = rw (entry_is_looked_up name es) refl

pub entry_is_added : {S : Type 0} (table : IndexMap (Bor (List ℕ)) Binding S) (entries : List (Bor (List ℕ) × Binding)) (old : Scope) (name : Bor (List ℕ)) (binding : Binding) →
    old ≡ scope_of table.entries → entry_named name.now old ≡ None →
    entries ≡ insert_entry (λ (q k : Bor (List ℕ)). bytes_eq q.now k.now) table.entries name binding →
    scope_of entries ≡ old ++ (name.now, binding) ∷ []
entry_is_added table entries old name binding seen absent inserted =
    let same : entry_named name.now (scope_of table.entries) ≡ entry_named name.now old = ap (entry_named name.now) (sym seen) in
    let none : lookup (λ (k : Bor (List ℕ)). bytes_eq name.now k.now) table.entries ≡ None = sym (entry_is_looked_up name.now table.entries) ∙ same ∙ absent in
    let last : entries ≡ table.entries ++ (name, binding) ∷ [] = inserted ∙ insert_entry-new (λ (q k : Bor (List ℕ)). bytes_eq q.now k.now) table name binding none in
    let behind : scope_of (table.entries ++ (name, binding) ∷ []) ≡ scope_of table.entries ++ (name.now, binding) ∷ [] = map-append (λ (e : Bor (List ℕ) × Binding). (e.0.now, e.1)) table.entries ((name, binding) ∷ []) in
    ap scope_of last ∙ behind ∙ ap (λ (l : Scope). l ++ (name.now, binding) ∷ []) (sym seen)

-- the tree of a function is that of its place
pub function_at : (functions : List Function) (k : ℕ) (found : Option Function) → found ≡ slice_get functions k → option_map function_tree found ≡ slice_get (trees_of functions) k
function_at functions k found is = ap (option_map function_tree) is ∙ sym (slice_get-map function_tree functions k)
