-- The table of a map of names is looked up, changed and cut as the map is.
use Rattle.std.proofs.Common.{◌≡◌, ℕ, ◌+◌, ◌-◌, Bool, true, false, cond, nat_lt, List, [], ◌∷◌, map, length, take, slice_set, slice_index_or, swap_remove, position, Option, Some, None, refl, ap, sym, ◌∙◌}
use Rattle.std.proofs.Math.ListN.{get_or-map}
use Rattle.std.proofs.lemmas.List.{length-map, map-set, take-map}
use Rattle.std.specs.List.{position_or_len}
use Rattle.std.specs.Option.{option_map, option_map_or}
use Rattle.std.specs.Str.{bytes_eq}
use Rattle.std.specs.Map.{keys_of, lookup}
use Rattle.indexmap.specs.IndexMap.{insert_entry, swap_remove_entry}
use Rattle.std.specs.declared.alloc.Global.{Global}
use Rattle.std.specs.declared.vec.Vec.{Vec}
use Rattle.ocl_lex.specs.declared.parts.Lexeme.{Lexeme}
use Rattle.ocl_lex.specs.Tables.{table_of}

abbrev pub Entries : Type 0
Entries = List (Vec ℕ Global × Vec Lexeme Global)

abbrev pub same_key : Vec ℕ Global → Vec ℕ Global → Bool
same_key x y = bytes_eq x.items y.items

pub by_test : {P : Type 0} (t : Bool) → (t ≡ true → P) → (t ≡ false → P) → P
by_test true if_true if_false = if_true refl
by_test false if_true if_false = if_false refl

abbrev pub items_of : Option (Vec Lexeme Global) → Option (List Lexeme)
items_of o = option_map (λ v. v.items) o

pub lookup_table : (name : List ℕ) (es : Entries) → lookup (bytes_eq name) (table_of es) ≡ items_of (lookup (λ k. bytes_eq name k.items) es)
lookup_table name [] = refl
lookup_table name (e ∷ es) = by_test (bytes_eq name e.0.items)
    (λ t. rw t refl)
    (λ t. rw t (lookup_table name es))

pub insert_table : (key : Vec ℕ Global) (body : Vec Lexeme Global) (es : Entries)
    → table_of (insert_entry same_key es key body) ≡ insert_entry bytes_eq (table_of es) key.items body.items
insert_table key body [] = refl
insert_table key body (e ∷ es) = by_test (bytes_eq key.items e.0.items)
    (λ t. rw t refl)
    (λ t. rw t (ap (λ rest. (e.0.items, e.1.items) ∷ rest) (insert_table key body es)))

-- the entry of a table for one of the map
abbrev row : Vec ℕ Global × Vec Lexeme Global → List ℕ × List Lexeme
row e = (e.0.items, e.1.items)

table_keys : (es : Entries) → keys_of (table_of es) ≡ map (λ k. k.items) (keys_of es)
table_keys [] = refl
table_keys (e ∷ es) = ap (λ ks. e.0.items ∷ ks) (table_keys es)

first_key : (name : List ℕ) (ks : List (Vec ℕ Global)) → position_or_len (bytes_eq name) (map (λ k. k.items) ks) ≡ position_or_len (λ k. bytes_eq name k.items) ks
first_key name [] = refl
first_key name (k ∷ ks) = by_test (bytes_eq name k.items)
    (λ t. rw t refl)
    (λ t. rw t (ap (λ (n : ℕ). 1 + n) (first_key name ks)))

-- where a name stands in the table
key_place : (name : List ℕ) (es : Entries) → position (bytes_eq name) (keys_of (table_of es)) ≡ position (λ k. bytes_eq name k.items) (keys_of es)
key_place name es =
    let ks : List (Vec ℕ Global) = keys_of es in
    let there : position (bytes_eq name) (keys_of (table_of es)) ≡ position (bytes_eq name) (map (λ k. k.items) ks) = ap (position (bytes_eq name)) (table_keys es) in
    let first : position_or_len (bytes_eq name) (map (λ k. k.items) ks) ≡ position_or_len (λ k. bytes_eq name k.items) ks = first_key name ks in
    let long : length (map (λ (k : Vec ℕ Global). k.items) ks) ≡ length ks = length-map ks (λ k. k.items) in
    there ∙ ap (λ (p : ℕ). cond (nat_lt p (length (map (λ (k : Vec ℕ Global). k.items) ks))) (Some p) None) first
    ∙ ap (λ (n : ℕ). cond (nat_lt (position_or_len (λ k. bytes_eq name k.items) ks) n) (Some (position_or_len (λ k. bytes_eq name k.items) ks)) None) long

swap_table : (es : Entries) (i : ℕ) (e : Vec ℕ Global × Vec Lexeme Global) → table_of (swap_remove es i e) ≡ swap_remove (table_of es) i (row e)
swap_table es i e =
    let last : slice_index_or (map row es) (length es - 1) (row e) ≡ row (slice_index_or es (length es - 1) e) = get_or-map row es (length es - 1) e in
    let long : length (map row es) ≡ length es = length-map es row in
    sym (take-map row (length es - 1) (slice_set es i (slice_index_or es (length es - 1) e)))
    ∙ ap (take (length es - 1)) (map-set row es i (slice_index_or es (length es - 1) e) ∙ ap (slice_set (map row es) i) (sym last))
    ∙ ap (λ (n : ℕ). take (n - 1) (slice_set (map row es) i (slice_index_or (map row es) (n - 1) (row e)))) (sym long)

at_place : (es : Entries) (e : Vec ℕ Global × Vec Lexeme Global) (o : Option ℕ)
    → table_of (option_map_or (λ i. swap_remove es i e) o es) ≡ option_map_or (λ i. swap_remove (table_of es) i (row e)) o (table_of es)
at_place es e None = refl
at_place es e (Some i) = swap_table es i e

pub remove_table : (name : List ℕ) (es : Entries) → table_of (swap_remove_entry (λ k. bytes_eq name k.items) es) ≡ swap_remove_entry (bytes_eq name) (table_of es)
remove_table name [] = refl
remove_table name (e ∷ es) =
    at_place (e ∷ es) e (position (λ k. bytes_eq name k.items) (keys_of (e ∷ es)))
    ∙ ap (λ (o : Option ℕ). option_map_or (λ i. swap_remove (table_of (e ∷ es)) i (row e)) o (table_of (e ∷ es))) (sym (key_place name (e ∷ es)))
