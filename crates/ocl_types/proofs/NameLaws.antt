-- The table of the functions' names, one more function at a time.
use Rattle.std.proofs.Common.{◌≡◌, ℕ, zero, suc, ◌+◌, ◌||◌, Bool, true, false, cond, if◌then◌else◌, List, [], ◌∷◌, ◌++◌, length, take, drop, get_or, Option, None, Some, is_some, Result, Ok, Err, refl, sym, ap, ◌∙◌, arith}
use Rattle.std.specs.Borrow.{Bor}
use Rattle.std.specs.Str.{bytes_eq}
use Rattle.std.specs.Map.{lookup}
use Rattle.indexmap.specs.IndexMap.{IndexMap, insert_entry}
use Rattle.indexmap.proofs.CallerLemmas.{insert_entry-new}
use Rattle.ocl_ast.specs.Trees.{FunctionTree}
use Rattle.ocl_types.specs.Names.{builtin_named, function_from}
use Rattle.ocl_types.specs.Functions.{names_from}
use Rattle.ocl_types.specs.Tables.{NumbersOf}
use Rattle.ocl_types.specs.declared.faults.TypeFault.TheVariants.{Twice}

abbrev or_else : {A : Type 0} → Option A → Option A → Option A
or_else None other = other
or_else (Some x) other = Some x

lookup_push : {K X : Type 0} (test : K → Bool) (entries : List (K × X)) (e : K × X) → lookup test (entries ++ e ∷ []) ≡ or_else (lookup test entries) (cond (test e.0) (Some e.1) None)
lookup_push test [] e = refl
lookup_push test (x ∷ xs) e =
    elim (test x.0) as (λ b. cond b (Some x.1) (lookup test (xs ++ e ∷ [])) ≡ or_else (cond b (Some x.1) (lookup test xs)) (cond (test e.0) (Some e.1) None)) [ true ↦ refl | false ↦ lookup_push test xs e ]

from_push : (n : ℕ) (name : List ℕ) (earlier : List FunctionTree) (f : FunctionTree) →
    function_from n name (earlier ++ f ∷ []) ≡ or_else (function_from n name earlier) (cond (bytes_eq name f.name.text) (Some (n + length earlier)) None)
from_push n name [] f = let e : n ≡ n + 0 = omega arith in ap (λ m. cond (bytes_eq name f.name.text) (Some m) None) e
from_push n name (g ∷ gs) f =
    let e : n + 1 + length gs ≡ n + length (g ∷ gs) = omega arith in
    let more = from_push (n + 1) name gs f ∙ ap (λ m. or_else (function_from (n + 1) name gs) (cond (bytes_eq name f.name.text) (Some m) None)) e in
    elim (bytes_eq name g.name.text) as (λ b. cond b (Some n) (function_from (n + 1) name (gs ++ f ∷ [])) ≡ or_else (cond b (Some n) (function_from (n + 1) name gs)) (cond (bytes_eq name f.name.text) (Some (n + length (g ∷ gs))) None)) [ true ↦ refl | false ↦ more ]

plain : (n : ℕ) → n ≡ 0 + n
plain n = omega arith

pub none_numbered : (entries : List (Bor (List ℕ) × ℕ)) → entries ≡ [] → NumbersOf entries []
none_numbered entries none name = ap (lookup (λ (k : Bor (List ℕ)). bytes_eq name k.now)) none

pub number_added : {S : Type 0} (table : IndexMap (Bor (List ℕ)) ℕ S) (entries : List (Bor (List ℕ) × ℕ)) (earlier : List FunctionTree) (f : FunctionTree) (name : Bor (List ℕ)) (number : ℕ) →
    NumbersOf table.entries earlier → lookup (λ (k : Bor (List ℕ)). bytes_eq name.now k.now) table.entries ≡ None → name.now ≡ f.name.text → number ≡ length earlier →
    entries ≡ insert_entry (λ (q k : Bor (List ℕ)). bytes_eq q.now k.now) table.entries name number →
    NumbersOf entries (earlier ++ f ∷ [])
number_added table entries earlier f name number numbers absent named counted inserted q =
    let test = λ (k : Bor (List ℕ)). bytes_eq q k.now in
    let last : entries ≡ table.entries ++ (name, number) ∷ [] = inserted ∙ insert_entry-new (λ (a b : Bor (List ℕ)). bytes_eq a.now b.now) table name number absent in
    ap (lookup test) last ∙ lookup_push test table.entries (name, number) ∙
    ap (λ found. or_else found (cond (bytes_eq q name.now) (Some number) None)) (numbers q) ∙
    ap (λ text. or_else (function_from 0 q earlier) (cond (bytes_eq q text) (Some number) None)) named ∙
    ap (λ m. or_else (function_from 0 q earlier) (cond (bytes_eq q f.name.text) (Some m) None)) (counted ∙ plain (length earlier)) ∙
    sym (from_push 0 q earlier f)

-- one more function whose name is free
pub one_name_more : (earlier more : List FunctionTree) (f : FunctionTree) → is_some (function_from 0 f.name.text earlier) || is_some (builtin_named f.name.text) ≡ false →
    names_from earlier (f ∷ more) ≡ names_from (earlier ++ f ∷ []) more
one_name_more earlier more f free = ap (λ b. if b then Err (Twice f.name.pos) else names_from (earlier ++ f ∷ []) more) free

-- a name that is taken
pub name_twice : (earlier more : List FunctionTree) (f : FunctionTree) → is_some (function_from 0 f.name.text earlier) || is_some (builtin_named f.name.text) ≡ true →
    names_from earlier (f ∷ more) ≡ Err (Twice f.name.pos)
name_twice earlier more f taken = ap (λ b. if b then Err (Twice f.name.pos) else names_from (earlier ++ f ∷ []) more) taken

pub none_found : {A : Type 0} (o : Option A) (b : Bool) → is_some o || b ≡ false → o ≡ None
none_found None b h = refl
none_found (Some x) b h = cc
