-- A file has at most as many functions as tokens.
use Rattle.std.proofs.Common.{◌≡◌, ◌≤◌, ◌+◌, subst, arith, ℕ, suc, List, [], ◌∷◌, ◌++◌, map, length, Option, Some}
use Rattle.std.proofs.lemmas.List.{length-append, length-map}
use Rattle.ocl_ast.specs.Shapes.{function_tree}
use Rattle.ocl_ast.specs.Trees.{FunctionTree}
use Rattle.ocl_ast.specs.declared.units.Function.{Function}
use Rattle.ocl_tokens.specs.declared.tokens.Token.{Token}
use Rattle.ocl_parser.specs.Runs.{ended, go_on, run}
use Rattle.ocl_parser.specs.Units.{Derives}
use Rattle.ocl_parser.specs.UnitSteps.{UnitNext, Reads, Adds, Fails, unit_step}
use Rattle.ocl_parser.specs.declared.states.UnitFocus.{UnitFocus}
use Rattle.ocl_parser.specs.declared.states.UnitFocus.TheVariants.{Outside, AtEnd}
use Rattle.ocl_parser.proofs.UnitComplete.{unit_complete}
use Rattle.ocl_parser.proofs.UnitSound.{none_some, some_same}

at_end : (focus : UnitFocus) (fs gs : List FunctionTree) → ended focus fs ≡ Some gs → length gs ≤ length fs + 0
at_end AtEnd fs gs e = subst (λ xs. length xs ≤ length fs + 0) (some_same e) (omega arith)
at_end _ fs gs e = absurd (none_some e)

-- a token ends at most one function
goes : (k : ℕ) (fs gs : List FunctionTree) (next : UnitNext) (further : UnitFocus → List FunctionTree → Option (List FunctionTree)) →
    ((focus : UnitFocus) (all : List FunctionTree) → further focus all ≡ Some gs → length gs ≤ length all + k) →
    go_on next fs further ≡ Some gs → length gs ≤ length fs + suc k
goes k fs gs (Reads focus) further h e = let few : length gs ≤ length fs + k = h focus fs e in omega arith
goes k fs gs (Adds f) further h e =
    let few : length gs ≤ length (fs ++ (f ∷ [])) + k = h Outside (fs ++ (f ∷ [])) e in
    let one : length (fs ++ (f ∷ [])) ≡ length fs + 1 = length-append fs (f ∷ []) in
    omega arith
goes k fs gs Fails further h e = absurd (none_some e)

run_few : (ts : List Token) (gs : List FunctionTree) (focus : UnitFocus) (fs : List FunctionTree) → run focus fs ts ≡ Some gs → length gs ≤ length fs + length ts
run_few [] gs focus fs e = at_end focus fs gs e
run_few (t ∷ ts) gs focus fs e =
    goes (length ts) fs gs (unit_step t.kind t.pos focus) (λ next all. run next all ts) (run_few ts gs) e

-- The functions that derive from tokens are at most as many.
pub derived_few : (tokens : List Token) (fs : List FunctionTree) → Derives tokens fs → length fs ≤ length tokens
derived_few tokens fs d =
    let few : length fs ≤ 0 + length tokens = run_few tokens fs Outside [] (unit_complete tokens fs d) in
    omega arith

pub read_few : (tokens : List Token) (functions : List Function) → run Outside [] tokens ≡ Some (map function_tree functions) → length functions ≤ length tokens
read_few tokens functions e =
    let few : length (map function_tree functions) ≤ 0 + length tokens = run_few tokens (map function_tree functions) Outside [] e in
    let same : length (map function_tree functions) ≡ length functions = length-map functions function_tree in
    omega arith
