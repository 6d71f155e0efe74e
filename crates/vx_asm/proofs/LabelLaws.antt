-- Looking up and adding a label in the table and in the list.
use Rattle.std.proofs.Common.{◌≡◌, ℕ, List, [], ◌∷◌, ◌++◌, None, refl, sym, ap, ◌∙◌}
use Rattle.std.specs.Bool.{one_answer}
use Rattle.std.specs.Borrow.{Bor}
use Rattle.std.specs.Str.{bytes_eq}
use Rattle.std.specs.Map.{lookup}
use Rattle.std.proofs.lemmas.Slice.Eq.{bytes_eq-Decides}
use Rattle.std.proofs.lemmas.List.{map-append}
use Rattle.indexmap.specs.IndexMap.{IndexMap, insert_entry}
use Rattle.indexmap.proofs.CallerLemmas.{insert_entry-new}
use Rattle.asm_text.specs.AsmTexts.{place_of}
use Rattle.vx_asm.specs.Labels.{Labels, labels_in}

same_bytes : (a b : List ℕ) → bytes_eq a b ≡ bytes_eq b a
same_bytes a b =
    one_answer (bytes_eq a b) (bytes_eq b a) (bytes_eq-Decides a b)
    (λ t. sym ((bytes_eq-Decides b a).0 t), λ e. (bytes_eq-Decides b a).1 (sym e))

pub place_is_looked_up : (name : List ℕ) (entries : List (Bor (List ℕ) × ℕ)) → place_of name (labels_in entries) ≡ lookup (λ (k : Bor (List ℕ)). bytes_eq name k.now) entries
unfolding place_of
place_is_looked_up name [] = refl
place_is_looked_up name (e ∷ es) = rw (same_bytes e.0.now name, place_is_looked_up name es) refl

pub label_is_added : {S : Type 0} (table : IndexMap (Bor (List ℕ)) ℕ S) (entries : List (Bor (List ℕ) × ℕ)) (old : Labels) (name : Bor (List ℕ)) (word : ℕ) → old ≡ labels_in table.entries
    → place_of name.now old ≡ None → entries ≡ insert_entry (λ (q k : Bor (List ℕ)). bytes_eq q.now k.now) table.entries name word → labels_in entries ≡ old ++ (name.now, word) ∷ []
label_is_added table entries old name word seen absent inserted =
    let same : place_of name.now (labels_in table.entries) ≡ place_of name.now old = ap (place_of name.now) (sym seen) in
    let none : lookup (λ (k : Bor (List ℕ)). bytes_eq name.now k.now) table.entries ≡ None = sym (place_is_looked_up name.now table.entries) ∙ same ∙ absent in
    let last : entries ≡ table.entries ++ (name, word) ∷ [] = inserted ∙ insert_entry-new (λ (q k : Bor (List ℕ)). bytes_eq q.now k.now) table name word none in
    let behind : labels_in (table.entries ++ (name, word) ∷ []) ≡ labels_in table.entries ++ (name.now, word) ∷ [] = map-append (λ (e : Bor (List ℕ) × ℕ). (e.0.now, e.1)) table.entries ((name, word) ∷ []) in
    ap labels_in last ∙ behind ∙ ap (λ (l : Labels). l ++ (name.now, word) ∷ []) (sym seen)
