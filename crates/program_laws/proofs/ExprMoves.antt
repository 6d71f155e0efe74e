-- What the typing of an expression does to what the function has so far.
use Rattle.std.proofs.Common.{◌≡◌, refl, sym, ap, ◌∙◌, subst, ℕ, ◌+◌, ◌<◌, ◌==◌, Bool, true, false, if◌then◌else◌, List, [], ◌∷◌, ◌++◌, length, slice_get, Option, None, Some, Result, Ok, Err, append_assoc, arith}
use Rattle.std.specs.Str.{bytes_eq}
use Rattle.std.proofs.lemmas.List.{append-nil, length-append}
use Rattle.std.proofs.lemmas.Option.{slice_get_within}
use Rattle.vx_base.specs.declared.types.Pos.{Pos}
use Rattle.ocl_ast.specs.Trees.{ExprTree, NumberTree, NameTree, UnaryTree, BinaryTree, BothTree, EitherTree, ChooseTree, CastTree, IndexTree, CallTree, ParenTree, ArgTrees, NoArgs as NoArgTrees, AndArg, FunctionTree}
use Rattle.ocl_ast.specs.declared.exprs.Ident.{Ident}
use Rattle.ocl_ast.specs.declared.units.Gives.{Gives}
use Rattle.ocl_ast.specs.declared.units.Gives.TheVariants.{Nothing, Value}
use Rattle.ocl_program.specs.Measures.{cut}
use Rattle.ocl_program.specs.Nodes.{ExprNode, CallNode, ArgNodes, NoArgs, ValueArg, ArrayArg, ArgNode, ValueNode, ArrayNode, arg_nodes}
use Rattle.ocl_types.specs.declared.faults.TypeFault.{TypeFault}
use Rattle.ocl_types.specs.declared.names.Binding.{Binding}
use Rattle.ocl_types.specs.declared.names.Binding.TheVariants.{Scalar as ScalarBinding, Array as ArrayBinding}
use Rattle.ocl_types.specs.declared.names.FoundArray.{FoundArray}
use Rattle.ocl_types.specs.declared.names.Meaning.{Meaning}
use Rattle.ocl_types.specs.declared.names.Meaning.TheVariants.{Bound, Function, Builtin as BuiltinMeaning, Unknown as UnknownMeaning}
use Rattle.ocl_types.specs.Names.{Scope, entry_named, or_outer, binding_named, builtin_meaning, builtin_named, function_from, function_meaning, bound_meaning, meaning_of}
use Rattle.ocl_types.specs.Exprs.{Typed, MaybeTyped, variable_of, array_of, Callee, Helper, BuiltinCallee, helper_of, callee_of, wanted, pointer_at, first_pos, ArgsSofar, bare_array, with_argument, stranger, TypedCall, call_made, unless_stranger, whole_call, value_of, typed, typed_args, typed_call, typed_option}
use Rattle.ocl_types.specs.Stmts.{Standing, with_calls}
use Rattle.program_laws.specs.Formed.{expr_calls, args_calls, expr_variables, args_variables}
use Rattle.program_laws.proofs.Passing.{passing, ok_is, answered, tested, not_tested}
use Rattle.program_laws.proofs.Pieces.{joined, one_variable, one_call, in_expr, in_args, in_option, below_both, IsBelow, ScopeBelow, ScopesBelow, orders_none, orders_one, most, Moves, moves_none, moves_both, moves_as}

-- ---- names

-- what is found under a name is one of those that are less
abbrev pub FoundBelow : ℕ → Option Binding → Type 0
FoundBelow bound None = Unit {0}
FoundBelow bound (Some binding) = IsBelow bound binding

abbrev pub MeaningBelow : ℕ → Meaning → Type 0
MeaningBelow bound (Bound binding) = IsBelow bound binding
MeaningBelow bound (Function k) = Unit {0}
MeaningBelow bound (BuiltinMeaning b) = Unit {0}
MeaningBelow bound UnknownMeaning = Unit {0}

chosen_below : (bound : ℕ) (test : Bool) (binding : Binding) (found : Option Binding) → IsBelow bound binding → FoundBelow bound found → FoundBelow bound (if test then Some binding else found)
chosen_below bound true binding found h k = h
chosen_below bound false binding found h k = k

entry_below : (bound : ℕ) (name : List ℕ) (scope : Scope) → ScopeBelow bound scope → FoundBelow bound (entry_named name scope)
entry_below bound name [] h = tt
entry_below bound name (entry ∷ more) h = chosen_below bound (bytes_eq name entry.0) entry.1 (entry_named name more) h.0 (entry_below bound name more h.1)

outer_below : (bound : ℕ) (found other : Option Binding) → FoundBelow bound found → FoundBelow bound other → FoundBelow bound (or_outer found other)
outer_below bound None other h k = k
outer_below bound (Some binding) other h k = h

binding_below : (bound : ℕ) (name : List ℕ) (scopes : List Scope) → ScopesBelow bound scopes → FoundBelow bound (binding_named name scopes)
binding_below bound name [] h = tt
binding_below bound name (scope ∷ outer) h =
    outer_below bound (entry_named name scope) (binding_named name outer) (entry_below bound name scope h.0) (binding_below bound name outer h.1)

builtin_below : (bound : ℕ) (found : _) → MeaningBelow bound (builtin_meaning found)
builtin_below bound None = tt
builtin_below bound (Some b) = tt

function_below : (bound : ℕ) (name : List ℕ) (found : Option ℕ) → MeaningBelow bound (function_meaning name found)
function_below bound name None = builtin_below bound (builtin_named name)
function_below bound name (Some k) = tt

bound_below : (bound : ℕ) (fs : List FunctionTree) (name : List ℕ) (found : Option Binding) → FoundBelow bound found → MeaningBelow bound (bound_meaning fs name found)
bound_below bound fs name None h = function_below bound name (function_from 0 name fs)
bound_below bound fs name (Some binding) h = h

pub meaning_below : (bound : ℕ) (fs : List FunctionTree) (scopes : List Scope) (name : List ℕ) → ScopesBelow bound scopes → MeaningBelow bound (meaning_of fs scopes name)
meaning_below bound fs scopes name h = bound_below bound fs name (binding_named name scopes) (binding_below bound name scopes h)

-- ---- steps

-- a variable is named
pub variable_named : (n : ℕ) (st : Standing) (v : ℕ) → (st.variables < most → ScopesBelow st.variables st.scopes → v < st.variables) → Moves n st (one_variable v) st
variable_named n st v below = record {
  small = λ h. h;
  callees = λ h. h;
  calls = orders_none (cut (length st.calls));
  sites = orders_none st.sites;
  arrays = orders_none (cut (length st.arrays));
  variables = λ within. record { more = omega arith; scopes = λ h. h; below = λ h. (below within h, tt) };
  declared = omega arith;
}

one_more_call : (calls : List ℕ) (k n : ℕ) → cut (length calls) ≡ cut n → cut (length (calls ++ k ∷ [])) ≡ cut (n + 1)
one_more_call calls k n same = let longer : length (calls ++ k ∷ []) ≡ length calls + 1 = length-append calls (k ∷ []) in omega arith

-- function k is called
pub called : (n : ℕ) (st : Standing) (k : ℕ) → k < n → Moves n st (one_call (cut (length st.calls))) (with_calls (st.calls ++ k ∷ []) st)
called n st k within = record {
  small = λ h. h;
  callees = λ h. below_both n st.calls (k ∷ []) h (within, tt);
  calls = orders_one (cut (length st.calls)) (cut (length (st.calls ++ k ∷ []))) (one_more_call st.calls k);
  sites = orders_none st.sites;
  arrays = orders_none (cut (length st.arrays));
  variables = λ h. record { more = omega arith; scopes = λ below. below; below = λ below. tt };
  declared = omega arith;
}

-- ---- parts

abbrev pub ExprMoves : ℕ → Standing → Typed → Type 0
ExprMoves n st t = Moves n st (in_expr t.expr) (with_calls t.calls st)

abbrev pub ArgsMove : ℕ → Standing → ArgsSofar → Type 0
ArgsMove n st sofar = Moves n st (in_args (arg_nodes sofar.args)) (with_calls sofar.calls st)

abbrev pub CallMoves : ℕ → Standing → TypedCall → Type 0
CallMoves n st call = Moves n st (in_expr call.expr) (with_calls call.calls st)

abbrev pub OptionMoves : ℕ → Standing → MaybeTyped → Type 0
OptionMoves n st v = Moves n st (in_option v.expr) (with_calls v.calls st)

name_moves : (n : ℕ) (st : Standing) (pos : Pos) (meaning : Meaning) (t : Typed) → (ScopesBelow st.variables st.scopes → MeaningBelow st.variables meaning)
    → variable_of pos st.calls meaning ≡ Ok t → ExprMoves n st t
name_moves n st pos (Bound (ScalarBinding variable elem constant)) t below h = answered (ExprMoves n st) h (variable_named n st variable (λ within. below))
name_moves n st pos (Bound (ArrayBinding array space elem readonly)) t below h = cc
name_moves n st pos (Function k) t below h = cc
name_moves n st pos (BuiltinMeaning b) t below h = cc
name_moves n st pos UnknownMeaning t below h = cc

-- ---- calls

abbrev CalleeBelow : ℕ → Callee → Type 0
CalleeBelow n (Helper k params gives) = k < n
CalleeBelow n (BuiltinCallee b) = Unit {0}

helper_below : (fs : List FunctionTree) (pos : Pos) (k : ℕ) (found : Option FunctionTree) (callee : Callee) → slice_get fs k ≡ found
    → helper_of pos k found ≡ Ok callee → CalleeBelow (length fs) callee
helper_below fs pos k None callee e h = cc
helper_below fs pos k (Some f) callee e h = answered (CalleeBelow (length fs)) (not_tested f.kernel _ _ h) (slice_get_within fs k f e)

callee_below : (fs : List FunctionTree) (pos : Pos) (meaning : Meaning) (callee : Callee) → callee_of fs pos meaning ≡ Ok callee → CalleeBelow (length fs) callee
callee_below fs pos (Bound binding) callee h = cc
callee_below fs pos (Function k) callee h = helper_below fs pos k (slice_get fs k) callee refl h
callee_below fs pos (BuiltinMeaning b) callee h = answered (CalleeBelow (length fs)) h tt
callee_below fs pos UnknownMeaning callee h = cc

made_moves : (n : ℕ) (st : Standing) (callee : Callee) (sofar : ArgsSofar) → CalleeBelow n callee → ArgsMove n st sofar → CallMoves n st (call_made callee sofar)
made_moves n st (Helper k params gives) sofar below h =
    let whole : joined (in_args (arg_nodes sofar.args)) (one_call (cut (length sofar.calls))) ≡ in_expr (CallNode (cut (length sofar.calls)) (arg_nodes sofar.args)) =
    ap (λ (vs : List ℕ). record { calls = args_calls (arg_nodes sofar.args) ++ cut (length sofar.calls) ∷ []; sites = []; variables = vs; arrays = []; declared = [] }) (append-nil (args_variables (arg_nodes sofar.args))) in
    moves_as whole (moves_both h (called n (with_calls sofar.calls st) k below))
made_moves n st (BuiltinCallee b) sofar below h = h

no_stranger : (found : Option Pos) (made call : TypedCall) → unless_stranger found made ≡ Ok call → made ≡ call
no_stranger None made call h = ok_is h
no_stranger (Some pos) made call h = cc

whole_moves : (n : ℕ) (st : Standing) (pos : Pos) (callee : Callee) (sofar : ArgsSofar) (call : TypedCall) → CalleeBelow n callee → ArgsMove n st sofar
    → whole_call pos callee sofar ≡ Ok call → CallMoves n st call
whole_moves n st pos callee sofar call below h is =
    subst (CallMoves n st) (no_stranger (stranger callee sofar.given) (call_made callee sofar) call (tested (length sofar.given == wanted callee) _ _ is)) (made_moves n st callee sofar below h)

value_moves : (n : ℕ) (st : Standing) (pos : Pos) (call : TypedCall) (gives : Gives) (t : Typed) → value_of pos call gives ≡ Ok t → CallMoves n st call → ExprMoves n st t
value_moves n st pos call Nothing t h moves = cc
value_moves n st pos call (Value elem) t h moves = answered (ExprMoves n st) h moves

-- one more argument
numbers_behind : (numbers : ExprNode → List ℕ) (of_args : ArgNodes → List ℕ) → of_args NoArgs ≡ [] → ((e : ExprNode) (more : ArgNodes) → of_args (ValueArg e more) ≡ numbers e ++ of_args more)
    → ((array : _) (more : ArgNodes) → of_args (ArrayArg array more) ≡ of_args more)
    → (args : List ArgNode) (last : ArgNodes) (tail : List ArgNode) → arg_nodes tail ≡ last → of_args (arg_nodes (args ++ tail)) ≡ of_args (arg_nodes args) ++ of_args last
numbers_behind numbers of_args nothing value array [] last tail is = ap of_args is ∙ ap (λ (xs : List ℕ). xs ++ of_args last) (sym nothing)
numbers_behind numbers of_args nothing value array (ValueNode e ∷ args) last tail is =
    value e (arg_nodes (args ++ tail)) ∙ ap (λ (xs : List ℕ). numbers e ++ xs) (numbers_behind numbers of_args nothing value array args last tail is)
    ∙ sym (append_assoc (numbers e) (of_args (arg_nodes args)) (of_args last)) ∙ ap (λ (xs : List ℕ). xs ++ of_args last) (sym (value e (arg_nodes args)))
numbers_behind numbers of_args nothing value array (ArrayNode a ∷ args) last tail is =
    array a (arg_nodes (args ++ tail)) ∙ numbers_behind numbers of_args nothing value array args last tail is ∙ ap (λ (xs : List ℕ). xs ++ of_args last) (sym (array a (arg_nodes args)))

pieces_behind : (args tail : List ArgNode) → joined (in_args (arg_nodes args)) (in_args (arg_nodes tail)) ≡ in_args (arg_nodes (args ++ tail))
pieces_behind args tail =
    let calls : args_calls (arg_nodes (args ++ tail)) ≡ args_calls (arg_nodes args) ++ args_calls (arg_nodes tail) =
    numbers_behind expr_calls args_calls refl (λ e more. refl) (λ a more. refl) args (arg_nodes tail) tail refl in
    let variables : args_variables (arg_nodes (args ++ tail)) ≡ args_variables (arg_nodes args) ++ args_variables (arg_nodes tail) =
    numbers_behind expr_variables args_variables refl (λ e more. refl) (λ a more. refl) args (arg_nodes tail) tail refl in
    sym (λ i. record { calls = calls i; sites = []; variables = variables i; arrays = []; declared = [] })

-- the pieces of one argument
value_piece : (e : ExprNode) → in_expr e ≡ in_args (arg_nodes (ValueNode e ∷ []))
value_piece e = sym (λ i. record { calls = append-nil (expr_calls e) i; sites = []; variables = append-nil (expr_variables e) i; arrays = []; declared = [] })

argument_moves : (n : ℕ) (st : Standing) (pos : Pos) (sofar : ArgsSofar) (found : Option FoundArray) (made : Result Typed TypeFault) (next : ArgsSofar) → ArgsMove n st sofar
    → ((t : Typed) → made ≡ Ok t → ExprMoves n (with_calls sofar.calls st) t) → with_argument pos sofar found made ≡ Ok next → ArgsMove n st next
argument_moves n st pos sofar (Some a) made next h typing is =
    answered (ArgsMove n st) is (moves_as (pieces_behind sofar.args (ArrayNode a.array ∷ [])) (moves_both h (moves_none n (with_calls sofar.calls st))))
argument_moves n st pos sofar None (Ok t) next h typing is =
    answered (ArgsMove n st) is (moves_as (pieces_behind sofar.args (ValueNode t.expr ∷ [])) (moves_both h (moves_as (value_piece t.expr) (typing t refl))))
argument_moves n st pos sofar None (Err fault) next h typing is = cc

-- ---- expressions

mutual
  pub expr_moves : (fs : List FunctionTree) (st : Standing) (e : ExprTree) (t : Typed) → typed fs st.scopes st.calls e ≡ Ok t → ExprMoves (length fs) st t
  expr_moves fs st (NumberTree value unsigned pos) t h = answered (ExprMoves (length fs) st) h (moves_none (length fs) st)
  expr_moves fs st (NameTree name) t h =
      name_moves (length fs) st name.pos (meaning_of fs st.scopes name.text) t (λ below. meaning_below st.variables fs st.scopes name.text below) h
  expr_moves fs st (UnaryTree op part pos) t h =
      let p = passing (typed fs st.scopes st.calls part) h in
      answered (ExprMoves (length fs) st) p.rest (expr_moves fs st part p.value p.first)
  expr_moves fs st (BinaryTree op left right pos) t h =
      let l = passing (typed fs st.scopes st.calls left) h in let r = passing (typed fs st.scopes l.value.calls right) l.rest in
      answered (ExprMoves (length fs) st) r.rest (moves_both (expr_moves fs st left l.value l.first) (expr_moves fs (with_calls l.value.calls st) right r.value r.first))
  expr_moves fs st (BothTree left right pos) t h =
      let l = passing (typed fs st.scopes st.calls left) h in let r = passing (typed fs st.scopes l.value.calls right) l.rest in
      answered (ExprMoves (length fs) st) r.rest (moves_both (expr_moves fs st left l.value l.first) (expr_moves fs (with_calls l.value.calls st) right r.value r.first))
  expr_moves fs st (EitherTree left right pos) t h =
      let l = passing (typed fs st.scopes st.calls left) h in let r = passing (typed fs st.scopes l.value.calls right) l.rest in
      answered (ExprMoves (length fs) st) r.rest (moves_both (expr_moves fs st left l.value l.first) (expr_moves fs (with_calls l.value.calls st) right r.value r.first))
  expr_moves fs st (ChooseTree test one other pos) t h =
      let c = passing (typed fs st.scopes st.calls test) h in let y = passing (typed fs st.scopes c.value.calls one) c.rest in
      let n = passing (typed fs st.scopes y.value.calls other) y.rest in
      answered (ExprMoves (length fs) st) n.rest (moves_both (expr_moves fs st test c.value c.first)
      (moves_both (expr_moves fs (with_calls c.value.calls st) one y.value y.first) (expr_moves fs (with_calls y.value.calls st) other n.value n.first)))
  expr_moves fs st (CastTree elem part pos) t h =
      let p = passing (typed fs st.scopes st.calls part) h in
      answered (ExprMoves (length fs) st) p.rest (expr_moves fs st part p.value p.first)
  expr_moves fs st (IndexTree array place pos) t h =
      let a = passing (array_of array.pos (meaning_of fs st.scopes array.text)) h in let p = passing (typed fs st.scopes st.calls place) a.rest in
      answered (ExprMoves (length fs) st) p.rest (expr_moves fs st place p.value p.first)
  expr_moves fs st (CallTree name args) t h =
      let c = passing (callee_of fs name.pos (meaning_of fs st.scopes name.text)) h in
      let s = passing (typed_args fs st.scopes c.value (record { args = []; given = []; calls = st.calls }) args) c.rest in
      let w = passing (whole_call name.pos c.value s.value) s.rest in
      value_moves (length fs) st name.pos w.value w.value.gives t w.rest
      (whole_moves (length fs) st name.pos c.value s.value w.value (callee_below fs name.pos (meaning_of fs st.scopes name.text) c.value c.first)
      (args_move fs st c.value (record { args = []; given = []; calls = st.calls }) args s.value (moves_none (length fs) st) s.first) w.first)
  expr_moves fs st (ParenTree part pos) t h =
      let p = passing (typed fs st.scopes st.calls part) h in
      answered (ExprMoves (length fs) st) p.rest (expr_moves fs st part p.value p.first)

  pub args_move : (fs : List FunctionTree) (st : Standing) (callee : Callee) (sofar : ArgsSofar) (args : ArgTrees) (all : ArgsSofar) → ArgsMove (length fs) st sofar
      → typed_args fs st.scopes callee sofar args ≡ Ok all → ArgsMove (length fs) st all
  args_move fs st callee sofar NoArgTrees all moves h = answered (ArgsMove (length fs) st) h moves
  args_move fs st callee sofar (AndArg arg args) all moves h =
      let found = bare_array fs st.scopes (pointer_at callee (length sofar.given)) arg in
      let a = passing (with_argument (first_pos arg) sofar (bare_array fs st.scopes (pointer_at callee (length sofar.given)) arg) (typed fs st.scopes sofar.calls arg)) h in
      args_move fs st callee a.value args all
      (argument_moves (length fs) st (first_pos arg) sofar found (typed fs st.scopes sofar.calls arg) a.value moves (λ t e. expr_moves fs (with_calls sofar.calls st) arg t e) a.first) a.rest

-- a call whose value is not used
pub call_moves : (fs : List FunctionTree) (st : Standing) (name : Ident) (args : ArgTrees) (call : TypedCall) → typed_call fs st.scopes st.calls name args ≡ Ok call → CallMoves (length fs) st call
call_moves fs st name args call h =
    let c = passing (callee_of fs name.pos (meaning_of fs st.scopes name.text)) h in
    let s = passing (typed_args fs st.scopes c.value (record { args = []; given = []; calls = st.calls }) args) c.rest in
    whole_moves (length fs) st name.pos c.value s.value call (callee_below fs name.pos (meaning_of fs st.scopes name.text) c.value c.first)
    (args_move fs st c.value (record { args = []; given = []; calls = st.calls }) args s.value (moves_none (length fs) st) s.first) s.rest

pub option_moves : (fs : List FunctionTree) (st : Standing) (value : Option ExprTree) (v : MaybeTyped) → typed_option fs st.scopes st.calls value ≡ Ok v → OptionMoves (length fs) st v
option_moves fs st None v h = answered (OptionMoves (length fs) st) h (moves_none (length fs) st)
option_moves fs st (Some e) v h =
    let t = passing (typed fs st.scopes st.calls e) h in
    answered (OptionMoves (length fs) st) t.rest (expr_moves fs st e t.value t.first)
