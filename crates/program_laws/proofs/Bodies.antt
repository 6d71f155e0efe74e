-- The functions of a program as they are typed, each by itself.
use Rattle.std.proofs.Common.{◌≡◌, refl, sym, ap, ◌∙◌, subst, ℕ, zero, suc, ◌+◌, ◌<◌, ◌≤◌, Bool, false, is_some, if◌then◌else◌, List, [], ◌∷◌, ◌++◌, map, length, slice_get, Option, None, Some, option_map, Ok, arith}
use Rattle.std.specs.Prelude.{count_by}
use Rattle.std.proofs.lemmas.List.{length-append}
use Rattle.std.proofs.lemmas.List.Sums.{sum_by-cons}
use Rattle.std.proofs.lemmas.Option.{slice_get-map}
use Rattle.vx_base.specs.declared.types.ParamKind.{ParamKind}
use Rattle.vx_base.specs.declared.types.ParamKind.TheVariants.{Scalar, Pointer}
use Rattle.ocl_ast.specs.Trees.{FunctionTree}
use Rattle.ocl_ast.specs.declared.units.Param.{Param}
use Rattle.ocl_program.specs.declared.exprs.ArrayRef.TheVariants.{Parameter}
use Rattle.ocl_program.specs.declared.functions.LocalArray.{LocalArray}
use Rattle.ocl_program.specs.Measures.{cut}
use Rattle.ocl_program.specs.Nodes.{FunctionNode, StmtNode}
use Rattle.ocl_sem.specs.Source.{is_scalar, is_scalar_kind}
use Rattle.ocl_types.specs.declared.names.Binding.{Binding}
use Rattle.ocl_types.specs.declared.names.Binding.TheVariants.{Scalar as ScalarBinding, Array as ArrayBinding}
use Rattle.ocl_types.specs.Names.{entry_named, is_fixed}
use Rattle.ocl_types.specs.Stmts.{Place, Standing, innermost, with_entry, typed_stmts}
use Rattle.ocl_types.specs.Functions.{IsProgram, at_start, with_param, with_params, made_of, typed_function, typed_functions, names_from, bodies_of, within_limits, placed}
use Rattle.program_laws.proofs.Passing.{passing, ok_is, answered, not_tested}
use Rattle.program_laws.proofs.Pieces.{none, named, orders_none, most, AreSmall, Moves, moves_none, moves_both}
use Rattle.program_laws.proofs.StmtMoves.{entry_behind, declared_is, name_declared, StmtsMove, stmts_move}

-- ---- parameters

-- parameters, of which some are scalars, and what the function has behind them
record ParamsMove (n : ℕ) (st : Standing) (scalars : ℕ) (behind : Standing) : Type 0 where
  names : List ℕ
  moves : Moves n st (named names) behind
  each : length names ≡ scalars
  counted : behind.variables < most → st.variables + scalars ≤ behind.variables

array_named : (n : ℕ) (name : List ℕ) (array : _) (space : _) (elem : _) (readonly : Bool) (st : Standing)
    → Moves n st none (record st { scopes = with_entry name (ArrayBinding array space elem readonly) st.scopes })
array_named n name array space elem readonly st = record {
  small = λ h. h;
  callees = λ h. h;
  calls = orders_none (cut (length st.calls));
  sites = orders_none st.sites;
  arrays = orders_none (cut (length st.arrays));
  variables = λ within. record {
    more = omega arith;
    scopes = λ below. entry_behind st.variables st.scopes name (ArrayBinding array space elem readonly) below tt;
    below = λ below. tt;
  };
  declared = omega arith;
}

below_itself : (v bound : ℕ) → v < bound → v < bound
below_itself v bound h = h

-- how many variables a parameter is
abbrev scalars_of : ParamKind → ℕ
scalars_of kind = if is_scalar_kind kind then 1 else 0

param_moves : (n k : ℕ) (p : Param) (kind : ParamKind) (st now : Standing) → with_param k p kind st ≡ Ok now → ParamsMove n st (scalars_of kind) now
param_moves n k p (Scalar elem) st now h =
    let binding : ℕ → Binding = λ variable. ScalarBinding variable elem p.constant in
    subst (λ (x : Standing). ParamsMove n st 1 x) (declared_is p.name binding st now h)
    (record { names = 0 ∷ []; moves = name_declared n p.name binding st 0 below_itself; each = refl; counted = λ within. omega arith })
param_moves n k p (Pointer space elem readonly) st now h =
    answered (ParamsMove n st 0) (not_tested (is_some (entry_named p.name.text (innermost st.scopes))) _ _ h)
    (record { names = []; moves = array_named n p.name.text (Parameter (cut k)) space elem (is_fixed space readonly) st; each = refl; counted = λ within. omega arith })

params_move : (n k : ℕ) (st : Standing) (ps : List Param) (now : Standing) → with_params k st ps ≡ Ok now → ParamsMove n st (count_by is_scalar ps) now
params_move n k st [] now h = answered (ParamsMove n st 0) h (record { names = []; moves = moves_none n st; each = refl; counted = λ within. omega arith })
params_move n k st (p ∷ ps) now h =
    let one = passing (with_param k p p.kind st) h in
    let first : ParamsMove n st (scalars_of p.kind) one.value = param_moves n k p p.kind st one.value one.first in
    let rest : ParamsMove n one.value (count_by is_scalar ps) now = params_move n (k + 1) one.value ps now one.rest in
    let whole : count_by is_scalar (p ∷ ps) ≡ scalars_of p.kind + count_by is_scalar ps = sum_by-cons (λ (x : Param). scalars_of x.kind) p ps in
    let names : length (first.names ++ rest.names) ≡ length first.names + length rest.names = length-append first.names rest.names in
    let one_each : length first.names ≡ scalars_of p.kind = first.each in
    let more_each : length rest.names ≡ count_by is_scalar ps = rest.each in
    record {
      names = first.names ++ rest.names;
      moves = moves_both first.moves rest.moves;
      each = omega arith;
      counted = λ within.
          let later : one.value.variables + count_by is_scalar ps ≤ now.variables = rest.counted within in
          let sooner : st.variables + scalars_of p.kind ≤ one.value.variables = first.counted (omega arith) in
          omega arith;
    }

-- ---- one function

-- how the body of a function is typed
pub record Typing (functions : List FunctionTree) (f : FunctionNode) : Type 0 where
  pub tree : FunctionTree
  pub start : Standing
  pub params : with_params 0 at_start tree.params ≡ Ok start
  pub made : List StmtNode × Standing
  pub body : typed_stmts (record { functions = functions; gives = tree.gives; in_loop = false; outermost = tree.kernel }) [] start tree.body ≡ Ok made
  pub is : made_of tree made ≡ f

function_typing : (functions : List FunctionTree) (tree : FunctionTree) (f : FunctionNode) → typed_function functions tree ≡ Ok f → Typing functions f
function_typing functions tree f h =
    let st = passing (with_params 0 at_start tree.params) h in
    let d = passing (typed_stmts (record { functions = functions; gives = tree.gives; in_loop = false; outermost = tree.kernel }) [] st.value tree.body) st.rest in
    record { tree = tree; start = st.value; params = st.first; made = d.value; body = d.first; is = ok_is d.rest }

-- ---- all functions

-- each of some functions has this
abbrev pub Each : {A : Type 0} → (A → Type 0) → List A → Type 0
Each P [] = Unit {0}
Each P (x ∷ xs) = P x × Each P xs

pub each_behind : {A : Type 0} (P : A → Type 0) (xs : List A) (y : A) → Each P xs → P y → Each P (xs ++ y ∷ [])
each_behind P [] y h k = (k, tt)
each_behind P (x ∷ xs) y h k = (h.0, each_behind P xs y h.1 k)

some_is : {A : Type 0} (P : A → Type 0) (x y : A) → Some x ≡ Some y → P x → P y
some_is P x y e h = let same : x ≡ y = cc in subst P same h

pub each_at : {A : Type 0} (P : A → Type 0) (xs : List A) (k : ℕ) (x : A) → Each P xs → slice_get xs k ≡ Some x → P x
each_at P [] k x h e = cc
each_at P (y ∷ ys) zero x h e = some_is P y x e h.0
each_at P (y ∷ ys) (suc k) x h e = each_at P ys k x h.1 e

functions_typing : (functions : List FunctionTree) (before : List FunctionNode) (more : List FunctionTree) (all : List FunctionNode) → Each (Typing functions) before
    → typed_functions functions before more ≡ Ok all → Each (Typing functions) all
functions_typing functions before [] all each h = answered (Each (Typing functions)) h each
functions_typing functions before (f ∷ more) all each h =
    let node = passing (typed_function functions f) h in
    functions_typing functions (before ++ node.value ∷ []) more all (each_behind (Typing functions) before node.value each (function_typing functions f node.value node.first)) node.rest

functions_counted : (functions : List FunctionTree) (before : List FunctionNode) (more : List FunctionTree) (all : List FunctionNode)
    → typed_functions functions before more ≡ Ok all → length all ≡ length before + length more
functions_counted functions before [] all h = answered (λ (x : List FunctionNode). length x ≡ length before + 0) h (omega arith)
functions_counted functions before (f ∷ more) all h =
    let node = passing (typed_function functions f) h in
    let rest : length all ≡ length (before ++ node.value ∷ []) + length more = functions_counted functions (before ++ node.value ∷ []) more all node.rest in
    let longer : length (before ++ node.value ∷ []) ≡ length before + 1 = length-append before (node.value ∷ []) in
    omega arith

-- the functions of a program before their calls are placed
pub record Made (program : List FunctionNode) : Type 0 where
  pub functions : List FunctionTree
  pub base : List FunctionNode
  pub typed : typed_functions functions [] functions ≡ Ok base
  pub typings : Each (Typing functions) base
  pub counted : length base ≡ length functions
  pub limits : within_limits base ≡ Ok tt
  pub is : map (placed base) base ≡ program

pub program_made : (program : List FunctionNode) → IsProgram program → Made program
program_made program p =
    let bodies = passing (bodies_of p.functions) p.typed in
    let within = passing (within_limits bodies.value) bodies.rest in
    let names = passing (names_from [] p.functions) bodies.first in
    let all : length bodies.value ≡ 0 + length p.functions = functions_counted p.functions [] p.functions bodies.value names.rest in
    record {
      functions = p.functions;
      base = bodies.value;
      typed = names.rest;
      typings = functions_typing p.functions [] p.functions bodies.value tt names.rest;
      counted = omega arith;
      limits = within.first;
      is = ok_is within.rest;
    }

-- ---- a function of a program

-- the typed function that a function of the program is, but for where its calls begin
pub record Based (program : List FunctionNode) (made : Made program) (k : ℕ) (f : FunctionNode) : Type 0 where
  pub node : FunctionNode
  pub at : slice_get made.base k ≡ Some node
  pub typing : Typing made.functions node
  pub is : placed made.base node ≡ f

placed_at : (base : List FunctionNode) (k : ℕ) (f : FunctionNode) (functions : List FunctionTree) → Each (Typing functions) base → (found : Option FunctionNode) → slice_get base k ≡ found
    → option_map (placed base) found ≡ Some f → (g : FunctionNode) × (slice_get base k ≡ Some g) × (placed base g ≡ f)
placed_at base k f functions each None at h = cc
placed_at base k f functions each (Some g) at h = (g, at, cc)

pub based : (program : List FunctionNode) (made : Made program) (k : ℕ) (f : FunctionNode) → slice_get program k ≡ Some f → Based program made k f
based program made k f h =
    let inside : slice_get (map (placed made.base) made.base) k ≡ Some f = ap (λ (fs : List FunctionNode). slice_get fs k) made.is ∙ h in
    let found = placed_at made.base k f made.functions made.typings (slice_get made.base k) refl (sym (slice_get-map (placed made.base) made.base k) ∙ inside) in
    record { node = found.0; at = found.1; typing = each_at (Typing made.functions) made.base k found.0 made.typings found.1; is = found.2 }

-- what the parameters and the body of a function do
pub record Behind (functions : List FunctionTree) (f : FunctionNode) (typing : Typing functions f) : Type 0 where
  pub names : List ℕ
  pub params : Moves (length functions) at_start (named names) typing.start
  pub each : length names ≡ count_by is_scalar typing.tree.params
  pub body : StmtsMove (length functions) typing.start typing.made
  pub scalars : typing.start.variables < most → count_by is_scalar typing.tree.params ≤ typing.start.variables

pub behind_of : (functions : List FunctionTree) (f : FunctionNode) (typing : Typing functions f) → Behind functions f typing
behind_of functions f typing =
    let start : ParamsMove (length functions) at_start (count_by is_scalar typing.tree.params) typing.start = params_move (length functions) 0 at_start typing.tree.params typing.start typing.params in
    let place : Place = record { functions = functions; gives = typing.tree.gives; in_loop = false; outermost = typing.tree.kernel } in
    record {
      names = start.names;
      params = start.moves;
      each = start.each;
      body = stmts_move place typing.start [] typing.start typing.tree.body typing.made (moves_none (length functions) typing.start) typing.body;
      scalars = λ within. let all : 0 + count_by is_scalar typing.tree.params ≤ typing.start.variables = start.counted within in omega arith;
    }

-- ---- arrays

small_at : (arrays : List LocalArray) (i : ℕ) (array : LocalArray) → AreSmall arrays → slice_get arrays i ≡ Some array → (1 ≤ array.count) × (array.count ≤ 262144)
small_at [] i array h e = cc
small_at (a ∷ more) zero array h e = some_is (λ (x : LocalArray). (1 ≤ x.count) × (x.count ≤ 262144)) a array e (h.0, h.1)
small_at (a ∷ more) (suc i) array h e = small_at more i array h.2 e

pub arrays_small : (program : List FunctionNode) → IsProgram program → (k i : ℕ) (f : FunctionNode) (array : LocalArray)
    → slice_get program k ≡ Some f → slice_get f.arrays i ≡ Some array → (1 ≤ array.count) × (array.count ≤ 262144)
arrays_small program p k i f array at h =
    let made = program_made program p in
    let b = based program made k f at in
    let all = behind_of made.functions b.node b.typing in
    let small : AreSmall b.typing.made.1.arrays = all.body.small (all.params.small tt) in
    let same : b.typing.made.1.arrays ≡ f.arrays = ap (λ (x : FunctionNode). x.arrays) b.typing.is ∙ ap (λ (x : FunctionNode). x.arrays) b.is in
    small_at f.arrays i array (subst AreSmall same small) h
