-- The functions of a program are typed.
use Rattle.std.proofs.Common.{◌≡◌, refl, sym, ap, ◌∙◌, subst, ℕ, ◌+◌, ◌<◌, ◌≤◌, nat_lt, Bool, true, false, if◌then◌else◌, List, [], ◌∷◌, ◌++◌, map, length, slice_get, Option, None, Some, option_map, Ok, arith}
use Rattle.std.proofs.lemmas.List.{length-map}
use Rattle.std.proofs.lemmas.List.FromFn.{length-range_with_len}
use Rattle.std.proofs.lemmas.Option.{slice_get-map}
use Rattle.ocl_ast.specs.Trees.{FunctionTree}
use Rattle.ocl_program.specs.declared.functions.CallSite.{CallSite}
use Rattle.ocl_program.specs.Measures.{at_call, callees, measured, own_nodes}
use Rattle.ocl_program.specs.Nodes.{FunctionNode}
use Rattle.ocl_sem.specs.Source.{callee_of}
use Rattle.ocl_types.specs.Stmts.{Place, typed_stmts}
use Rattle.ocl_types.specs.Functions.{IsProgram, at_start, bare_call, made_of, placed, typed_function, typed_functions, with_params}
use Rattle.program_laws.specs.Formed.{IsFormed, IsSmall, stmts_arrays, stmts_calls}
use Rattle.program_laws.proofs.Bodies.{Based, Made, Typing, based, program_made}
use Rattle.program_laws.proofs.Forming.{small_formed}
use Rattle.program_laws.proofs.Limits.{params_few}
use Rattle.program_laws.proofs.NoRecursion.{placed_callees}
use Rattle.program_laws.proofs.Passing.{passing, ok_is, answered}
use Rattle.program_laws.proofs.Pieces.{most}
use Rattle.program_laws.proofs.Settling.{measures_settle}
use Rattle.program_laws.proofs.Weights.{body_load, counted_by_weight, weight}
use Rattle.flat_typing.specs.Typed.{Frame, Head, IsTypedFunction, frame_of, head_of}
use Rattle.flat_typing.proofs.Gains.{EndsAt, gains_this, head_at, tree_head}
use Rattle.flat_typing.proofs.Params.{Named, params_named}
use Rattle.flat_typing.proofs.StmtGains.{StmtsGain, stmts_gain}

-- ---- the functions of a file in order

-- a typed function takes what its tree says
function_head : (functions : List FunctionTree) (tree : FunctionTree) (f : FunctionNode) → typed_function functions tree ≡ Ok f → head_of f ≡ tree_head tree
function_head functions tree f h =
    let st = passing (with_params 0 at_start tree.params) h in
    let d = passing (typed_stmts (record { functions = functions; gives = tree.gives; in_loop = false; outermost = tree.kernel }) [] st.value tree.body) st.rest in
    sym (ap head_of (ok_is d.rest))

heads_behind : (before : List FunctionNode) (f : FunctionNode) (rest : List Head) → map head_of (before ++ f ∷ []) ++ rest ≡ map head_of before ++ (head_of f ∷ rest)
heads_behind [] f rest = refl
heads_behind (g ∷ before) f rest = ap (λ (hs : List Head). head_of g ∷ hs) (heads_behind before f rest)

heads_end : (before : List FunctionNode) → map head_of before ≡ map head_of before ++ []
heads_end [] = refl
heads_end (f ∷ before) = ap (λ (hs : List Head). head_of f ∷ hs) (heads_end before)

functions_headed : (functions : List FunctionTree) (before : List FunctionNode) (more : List FunctionTree) (all : List FunctionNode) → typed_functions functions before more ≡ Ok all
    → map head_of all ≡ map head_of before ++ map tree_head more
functions_headed functions before [] all h = answered (λ (x : List FunctionNode). map head_of x ≡ map head_of before ++ []) h (heads_end before)
functions_headed functions before (f ∷ more) all h =
    let node = passing (typed_function functions f) h in
    functions_headed functions (before ++ node.value ∷ []) more all node.rest ∙ heads_behind before node.value (map tree_head more)
    ∙ ap (λ (x : Head). map head_of before ++ (x ∷ map tree_head more)) (function_head functions f node.value node.first)

-- ---- limits

-- a small function has few calls and arrays
record IsFew (f : FunctionNode) : Type 0 where
  calls : length (callees f) < most
  arrays : length f.arrays < most

small_few : (program : List FunctionNode) → IsProgram program → (k : ℕ) (f : FunctionNode) → IsSmall program k → slice_get program k ≡ Some f → IsFew f
small_few program p k f small at =
    let formed : IsFormed program f = small_formed program p k f small at in
    let nodes : measured own_nodes program k ≡ own_nodes f (measured own_nodes program) = (measures_settle program p).nodes k f at in
    let few_nodes : measured own_nodes program k ≤ 16384 = small.1 in
    let load = body_load (at_call f (measured own_nodes program)) f.body in
    let calls : length (stmts_calls f.body) ≤ weight (at_call f (measured own_nodes program)) (stmts_calls f.body) = counted_by_weight (at_call f (measured own_nodes program)) (stmts_calls f.body) in
    let written : length (stmts_calls f.body) ≡ length f.calls = ap (λ (ns : List ℕ). length ns) formed.calls ∙ length-range_with_len 0 (length f.calls) in
    let declared : length (stmts_arrays f.body) ≡ length f.arrays = ap (λ (ns : List ℕ). length ns) formed.arrays ∙ length-range_with_len 0 (length f.arrays) in
    let listed : length (callees f) ≡ length f.calls = length-map f.calls (λ (c : CallSite). c.callee) in
    record { calls = omega arith; arrays = omega arith }

-- ---- one function

bare_callees : (ks : List ℕ) → map (λ (c : CallSite). c.callee) (map bare_call ks) ≡ ks
bare_callees [] = refl
bare_callees (k ∷ ks) = ap (λ (xs : List ℕ). k ∷ xs) (bare_callees ks)

-- a call leads to the function that it was typed by
site_leads : (program : List FunctionNode) (functions : List FunctionTree) → ((k : ℕ) → option_map head_of (slice_get program k) ≡ head_at functions k)
    → (k : ℕ) (found : Option CallSite) → option_map (λ (c : CallSite). c.callee) found ≡ Some k → option_map head_of (callee_of program found) ≡ head_at functions k
site_leads program functions heads k None e = cc
site_leads program functions heads k (Some site) e = let same : site.callee ≡ k = cc in heads site.callee ∙ ap (head_at functions) same

made_typed : (program : List FunctionNode) (made : Made program) → ((k : ℕ) → option_map head_of (slice_get program k) ≡ head_at made.functions k)
    → (node : FunctionNode) (typing : Typing made.functions node) → length typing.tree.params ≤ 16 → IsFew (placed made.base (made_of typing.tree typing.made))
    → IsTypedFunction program (placed made.base (made_of typing.tree typing.made))
made_typed program made heads node typing few_params few =
    let f : FunctionNode = placed made.base (made_of typing.tree typing.made) in
    let frame : Frame = frame_of program f in
    let listed : callees f ≡ typing.made.1.calls = placed_callees made.base (made_of typing.tree typing.made) ∙ bare_callees typing.made.1.calls in
    let place : Place = record { functions = made.functions; gives = typing.tree.gives; in_loop = false; outermost = typing.tree.kernel } in
    let named : Named frame at_start typing.start = params_named frame 0 typing.tree.params at_start typing.start (omega arith)
    (λ i p e. let number : i ≡ 0 + i = omega arith in ap (λ (n : ℕ). slice_get typing.tree.params n) (sym number) ∙ e) typing.params in
    let gains : StmtsGain made.functions typing.tree.kernel typing.start typing.made =
    stmts_gain place typing.start [] typing.start typing.tree.body typing.made (gains_this typing.start (λ fr scopes. tt)) typing.body in
    let few_calls : length typing.made.1.calls < most = subst (λ (ks : List ℕ). length ks < most) listed few.calls in
    let ends : EndsAt made.functions frame typing.made.1 = record {
      same_arrays = λ i array e. e;
      same_calls = λ i k e.
          let there : option_map (λ (c : CallSite). c.callee) (slice_get f.calls i) ≡ Some k =
          sym (slice_get-map (λ (c : CallSite). c.callee) f.calls i) ∙ ap (λ (ks : List ℕ). slice_get ks i) listed ∙ e in
          site_leads program made.functions heads k (slice_get f.calls i) there;
      few_arrays = few.arrays;
      few_calls = few_calls;
    } in
    record {
      body = gains.holds frame ends (named.scopes (tt, tt));
      arrays = λ helper. gains.arrays helper ∙ named.arrays;
    }

-- ---- the law

-- each function has the head of its tree
heads_at : (program : List FunctionNode) (made : Made program) (k : ℕ) → option_map head_of (slice_get program k) ≡ head_at made.functions k
heads_at program made k =
    let heads : map head_of made.base ≡ [] ++ map tree_head made.functions = functions_headed made.functions [] made.functions made.base made.typed in
    let same : map head_of program ≡ map tree_head made.functions = ap (map head_of) (sym made.is) ∙ placed_heads made.base made.base ∙ heads in
    sym (slice_get-map head_of program k) ∙ ap (λ (hs : List Head). slice_get hs k) same ∙ slice_get-map tree_head made.functions k
  where
    placed_heads : (base fs : List FunctionNode) → map head_of (map (placed base) fs) ≡ map head_of fs
    placed_heads base [] = refl
    placed_heads base (f ∷ fs) = ap (λ (hs : List Head). head_of f ∷ hs) (placed_heads base fs)

pub function_typed : (program : List FunctionNode) → IsProgram program → (k : ℕ) (f : FunctionNode) → IsSmall program k → slice_get program k ≡ Some f → IsTypedFunction program f
function_typed program p k f small at =
    let made = program_made program p in
    let b : Based program made k f = based program made k f at in
    let is : placed made.base (made_of b.typing.tree b.typing.made) ≡ f = ap (placed made.base) b.typing.is ∙ b.is in
    let few_params : length f.params ≤ 16 = params_few program p k f at in
    let same_params : b.typing.tree.params ≡ f.params = ap (λ (x : FunctionNode). x.params) is in
    subst (IsTypedFunction program) is
    (made_typed program made (heads_at program made) b.node b.typing (subst (λ ps. length ps ≤ 16) (sym same_params) few_params) (subst IsFew (sym is) (small_few program p k f small at)))
