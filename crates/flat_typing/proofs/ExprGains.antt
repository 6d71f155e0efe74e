-- What the typing of an expression adds to what the function has so far, and that the expression is typed.
use Rattle.std.proofs.Common.{◌≡◌, refl, sym, ap, ◌∙◌, subst, ℕ, ◌+◌, ◌<◌, ◌==◌, Bool, true, false, if◌then◌else◌, List, [], ◌∷◌, ◌++◌, length, slice_get, Option, None, Some, option_map, Result, Ok, Err, arith, eqb-true}
use Rattle.std.proofs.lemmas.List.{length-append}
use Rattle.vx_base.specs.declared.types.Pos.{Pos}
use Rattle.ocl_ast.specs.Trees.{ExprTree, NumberTree, NameTree, UnaryTree, BinaryTree, BothTree, EitherTree, ChooseTree, CastTree, IndexTree, CallTree, ParenTree, ArgTrees, NoArgs as NoArgTrees, AndArg, FunctionTree}
use Rattle.ocl_ast.specs.declared.exprs.Ident.{Ident}
use Rattle.ocl_ast.specs.declared.units.Gives.{Gives}
use Rattle.ocl_ast.specs.declared.units.Gives.TheVariants.{Nothing, Value}
use Rattle.ocl_ast.specs.declared.units.Param.{Param}
use Rattle.ocl_program.specs.Measures.{cut}
use Rattle.ocl_program.specs.Nodes.{ValueNode, ArrayNode, arg_nodes}
use Rattle.ocl_types.specs.declared.faults.TypeFault.{TypeFault}
use Rattle.ocl_types.specs.declared.names.Binding.TheVariants.{Scalar as ScalarBinding, Array as ArrayBinding}
use Rattle.ocl_types.specs.declared.names.FoundArray.{FoundArray}
use Rattle.ocl_types.specs.declared.names.Given.{Given}
use Rattle.ocl_types.specs.declared.names.Given.TheVariants.{Value as ValueGiven, Array as ArrayGiven}
use Rattle.ocl_types.specs.declared.names.Meaning.{Meaning}
use Rattle.ocl_types.specs.declared.names.Meaning.TheVariants.{Bound, Function, Builtin as BuiltinMeaning, Unknown as UnknownMeaning}
use Rattle.ocl_types.specs.Names.{Scope, meaning_of}
use Rattle.ocl_types.specs.Exprs.{Typed, MaybeTyped, variable_of, array_of, Callee, Helper, BuiltinCallee, helper_of, callee_of, wanted, pointer_at, first_pos, ArgsSofar, array_meant, bare_name, bare_array, with_argument, stranger, TypedCall, call_made, unless_stranger, whole_call, value_of, typed, typed_args, typed_call, typed_option}
use Rattle.ocl_types.specs.Stmts.{Standing, with_calls}
use Rattle.program_laws.proofs.Passing.{passing, ok_is, answered, tested, not_tested, test_held}
use Rattle.program_laws.proofs.Pieces.{most}
use Rattle.flat_typing.specs.Typed.{ArrayKind, Fits, Frame, Head, IsCall, IsOf, IsTypedExpr, IsTypedValue, named_kind}
use Rattle.flat_typing.proofs.Gains.{AreScopes, Gains, gains_as, gains_both, gains_this, gains_three, get_before, get_behind, head_at, tree_head}
use Rattle.flat_typing.proofs.Names.{IsMeaning, meaning_is}
use Rattle.flat_typing.proofs.Passing.{AreGiven, GivesValues, given_behind, given_fits, given_typed, given_values, values_behind}

-- ---- parts

abbrev pub ExprGains : List FunctionTree → Bool → Standing → Typed → Type 0
ExprGains fs outermost st t = Gains fs outermost st (λ frame. IsTypedExpr frame t.expr) (with_calls t.calls st)

abbrev pub CallGains : List FunctionTree → Bool → Standing → TypedCall → Type 0
CallGains fs outermost st call = Gains fs outermost st (λ frame. IsTypedExpr frame call.expr) (with_calls call.calls st)

abbrev pub OptionGains : List FunctionTree → Bool → Standing → MaybeTyped → Type 0
OptionGains fs outermost st v = Gains fs outermost st (λ frame. IsTypedValue frame v.expr) (with_calls v.calls st)

-- the arguments of a built-in function are values
abbrev AreFor : Callee → List Given → Type 0
AreFor (Helper k params gives) given = Unit {0}
AreFor (BuiltinCallee b) given = GivesValues given

abbrev ArgsGain : List FunctionTree → Bool → Standing → Callee → ArgsSofar → Type 0
ArgsGain fs outermost st callee sofar = Gains fs outermost st (λ frame. AreGiven frame sofar.args sofar.given × AreFor callee sofar.given) (with_calls sofar.calls st)

-- ---- names

-- an array that a name finds is of the kind that is told of it
abbrev pub IsArray : Frame → FoundArray → Type 0
IsArray frame a = named_kind frame a.array ≡ Some (record { space = a.space; elem = a.elem; fixed = a.readonly })

array_found : (frame : Frame) (pos : Pos) (meaning : Meaning) (a : FoundArray) → array_of pos meaning ≡ Ok a → IsMeaning frame meaning → IsArray frame a
array_found frame pos (Bound (ScalarBinding variable elem constant)) a h is = cc
array_found frame pos (Bound (ArrayBinding array space elem readonly)) a h is = answered (IsArray frame) h is
array_found frame pos (Function k) a h is = cc
array_found frame pos (BuiltinMeaning b) a h is = cc
array_found frame pos UnknownMeaning a h is = cc

pub of_kind : (found : Option ArrayKind) (kind : ArrayKind) → found ≡ Some kind → IsOf found kind.elem
of_kind found kind e = subst (λ (x : Option ArrayKind). IsOf x kind.elem) (sym e) refl

name_gains : (fs : List FunctionTree) (outermost : Bool) (st : Standing) (pos : Pos) (meaning : Meaning) (t : Typed) → variable_of pos st.calls meaning ≡ Ok t → ExprGains fs outermost st t
name_gains fs outermost st pos (Bound (ScalarBinding variable elem constant)) t h = answered (ExprGains fs outermost st) h (gains_this st (λ frame scopes. tt))
name_gains fs outermost st pos (Bound (ArrayBinding array space elem readonly)) t h = cc
name_gains fs outermost st pos (Function k) t h = cc
name_gains fs outermost st pos (BuiltinMeaning b) t h = cc
name_gains fs outermost st pos UnknownMeaning t h = cc

found_is : (frame : Frame) (a b : FoundArray) → Some a ≡ Some b → IsArray frame a → IsArray frame b
found_is frame a b e h = let same : a ≡ b = cc in subst (IsArray frame) same h

meant_is : (frame : Frame) (meaning : Meaning) (a : FoundArray) → array_meant meaning ≡ Some a → IsMeaning frame meaning → IsArray frame a
meant_is frame (Bound (ScalarBinding variable elem constant)) a h is = cc
meant_is frame (Bound (ArrayBinding array space elem readonly)) a h is = found_is frame (record { array = array; space = space; elem = elem; readonly = readonly }) a h is
meant_is frame (Function k) a h is = cc
meant_is frame (BuiltinMeaning b) a h is = cc
meant_is frame UnknownMeaning a h is = cc

name_meant : (frame : Frame) (fs : List FunctionTree) (ss : List Scope) (arg : ExprTree) (a : FoundArray) → AreScopes frame ss → bare_name fs ss arg ≡ Some a → IsArray frame a
name_meant frame fs ss (NameTree name) a scopes h = meant_is frame (meaning_of fs ss name.text) a h (meaning_is frame fs ss name.text scopes)
name_meant frame fs ss (NumberTree value unsigned pos) a scopes h = cc
name_meant frame fs ss (UnaryTree op part pos) a scopes h = cc
name_meant frame fs ss (BinaryTree op left right pos) a scopes h = cc
name_meant frame fs ss (BothTree left right pos) a scopes h = cc
name_meant frame fs ss (EitherTree left right pos) a scopes h = cc
name_meant frame fs ss (ChooseTree test one other pos) a scopes h = cc
name_meant frame fs ss (CastTree elem part pos) a scopes h = cc
name_meant frame fs ss (IndexTree array place pos) a scopes h = cc
name_meant frame fs ss (CallTree name args) a scopes h = cc
name_meant frame fs ss (ParenTree part pos) a scopes h = cc

bare_meant : (frame : Frame) (fs : List FunctionTree) (ss : List Scope) (pointer : Bool) (arg : ExprTree) (a : FoundArray) → AreScopes frame ss → bare_array fs ss pointer arg ≡ Some a → IsArray frame a
bare_meant frame fs ss true arg a scopes h = name_meant frame fs ss arg a scopes h
bare_meant frame fs ss false arg a scopes h = cc

-- ---- calls

-- a helper that is called is one of the functions
abbrev IsCallee : List FunctionTree → Callee → Type 0
IsCallee fs (Helper k params gives) = head_at fs k ≡ Some (record { kernel = false; params = params })
IsCallee fs (BuiltinCallee b) = Unit {0}

pub untested_false : {A : Type 0} (test : Bool) (m : Result A TypeFault) (fault : TypeFault) {y : A} → (if test then Err fault else m) ≡ Ok y → test ≡ false
untested_false true m fault h = cc
untested_false false m fault h = refl

helper_is : (fs : List FunctionTree) (pos : Pos) (k : ℕ) (found : Option FunctionTree) (callee : Callee) → slice_get fs k ≡ found → helper_of pos k found ≡ Ok callee → IsCallee fs callee
helper_is fs pos k None callee e h = cc
helper_is fs pos k (Some f) callee e h =
    answered (IsCallee fs) (not_tested f.kernel _ _ h)
    (ap (option_map tree_head) e ∙ ap (λ (kernel : Bool). Some (record { kernel = kernel; params = f.params })) (untested_false f.kernel (Ok (Helper k f.params f.gives)) _ h))

callee_is : (fs : List FunctionTree) (pos : Pos) (meaning : Meaning) (callee : Callee) → callee_of fs pos meaning ≡ Ok callee → IsCallee fs callee
callee_is fs pos (Bound binding) callee h = cc
callee_is fs pos (Function k) callee h = helper_is fs pos k (slice_get fs k) callee refl h
callee_is fs pos (BuiltinMeaning b) callee h = answered (IsCallee fs) h tt
callee_is fs pos UnknownMeaning callee h = cc

-- function k is called
called : (fs : List FunctionTree) (outermost : Bool) (st : Standing) (k : ℕ)
    → Gains fs outermost st (λ frame. frame.callees (cut (length st.calls)) ≡ head_at fs k) (with_calls (st.calls ++ k ∷ []) st)
called fs outermost st k =
    let longer : length (st.calls ++ k ∷ []) ≡ length st.calls + 1 = length-append st.calls (k ∷ []) in record {
      ends = λ frame ends. let few : length (st.calls ++ k ∷ []) < most = ends.few_calls in record {
        same_arrays = ends.same_arrays;
        same_calls = λ i n e. ends.same_calls i n (get_before st.calls (k ∷ []) i n e);
        few_arrays = ends.few_arrays;
        few_calls = omega arith;
      };
      scopes = λ frame ends scopes. scopes;
      holds = λ frame ends scopes.
          let few : length (st.calls ++ k ∷ []) < most = ends.few_calls in
          let whole : cut (length st.calls) ≡ length st.calls = omega arith in
          ap frame.callees whole ∙ ends.same_calls (length st.calls) k (get_behind st.calls k);
      arrays = λ inner. refl;
    }

call_is : (frame : Frame) (found : Option Head) (params : List Param) (args : _) → found ≡ Some (record { kernel = false; params = params }) → Fits frame params args → IsCall frame found args
call_is frame found params args e fits = subst (λ (x : Option Head). IsCall frame x args) (sym e) (refl, fits)

-- no argument of a helper's call is of a wrong kind
made_gains : (fs : List FunctionTree) (outermost : Bool) (st : Standing) (callee : Callee) (sofar : ArgsSofar) → IsCallee fs callee → ArgsGain fs outermost st callee sofar
    → length sofar.given ≡ wanted callee → stranger callee sofar.given ≡ None → CallGains fs outermost st (call_made callee sofar)
made_gains fs outermost st (Helper k params gives) sofar is h count none =
    gains_as (λ frame p. (
      call_is frame (frame.callees (cut (length sofar.calls))) params (arg_nodes sofar.args) (p.1 ∙ is) (given_fits frame params sofar.args sofar.given p.0.0 count none),
      given_typed frame sofar.args sofar.given p.0.0,
    )) (gains_both h (called fs outermost (with_calls sofar.calls st) k))
made_gains fs outermost st (BuiltinCallee b) sofar is h count none =
    gains_as (λ frame p. (given_values frame sofar.args sofar.given (wanted (BuiltinCallee b)) p.0 p.1 count, given_typed frame sofar.args sofar.given p.0)) h

-- a call that is accepted has no argument of a wrong kind
record Accepted (found : Option Pos) (made call : TypedCall) : Type 0 where
  none : found ≡ None
  same : made ≡ call

accepted_of : (found : Option Pos) (made call : TypedCall) → unless_stranger found made ≡ Ok call → Accepted found made call
accepted_of None made call h = record { none = refl; same = ok_is h }
accepted_of (Some pos) made call h = cc

whole_gains : (fs : List FunctionTree) (outermost : Bool) (st : Standing) (pos : Pos) (callee : Callee) (sofar : ArgsSofar) (call : TypedCall) → IsCallee fs callee → ArgsGain fs outermost st callee sofar
    → whole_call pos callee sofar ≡ Ok call → CallGains fs outermost st call
whole_gains fs outermost st pos callee sofar call is h made =
    let accepted = accepted_of (stranger callee sofar.given) (call_made callee sofar) call (tested (length sofar.given == wanted callee) _ _ made) in
    let count : length sofar.given ≡ wanted callee =
    eqb-true (length sofar.given) (wanted callee) (test_held (length sofar.given == wanted callee) (unless_stranger (stranger callee sofar.given) (call_made callee sofar)) _ made) in
    subst (CallGains fs outermost st) accepted.same (made_gains fs outermost st callee sofar is h count accepted.none)

value_gains : (fs : List FunctionTree) (outermost : Bool) (st : Standing) (pos : Pos) (call : TypedCall) (gives : Gives) (t : Typed) → value_of pos call gives ≡ Ok t → CallGains fs outermost st call
    → ExprGains fs outermost st t
value_gains fs outermost st pos call Nothing t h gains = cc
value_gains fs outermost st pos call (Value elem) t h gains = answered (ExprGains fs outermost st) h gains

-- ---- arguments

-- an array stands for no argument of a built-in function
array_for : (fs : List FunctionTree) (ss : List Scope) (callee : Callee) (n : ℕ) (arg : ExprTree) (a : FoundArray) (given : List Given) (one : Given) → bare_array fs ss (pointer_at callee n) arg ≡ Some a
    → AreFor callee (given ++ one ∷ [])
array_for fs ss (Helper k params gives) n arg a given one e = tt
array_for fs ss (BuiltinCallee b) n arg a given one e = cc

value_for : (callee : Callee) (given : List Given) (elem : _) (pos : Pos) → AreFor callee given → AreFor callee (given ++ ValueGiven elem pos ∷ [])
value_for (Helper k params gives) given elem pos h = tt
value_for (BuiltinCallee b) given elem pos h = values_behind given elem pos h

argument_gains : (fs : List FunctionTree) (outermost : Bool) (st : Standing) (callee : Callee) (arg : ExprTree) (sofar : ArgsSofar) (found : Option FoundArray) (made : Result Typed TypeFault) (next : ArgsSofar)
    → ArgsGain fs outermost st callee sofar → bare_array fs st.scopes (pointer_at callee (length sofar.given)) arg ≡ found
    → ((t : Typed) → made ≡ Ok t → ExprGains fs outermost (with_calls sofar.calls st) t) → with_argument (first_pos arg) sofar found made ≡ Ok next → ArgsGain fs outermost st callee next
argument_gains fs outermost st callee arg sofar (Some a) made next h e typing is =
    answered (ArgsGain fs outermost st callee) is
    (gains_as (λ frame p. (
      given_behind frame sofar.args sofar.given (ArrayNode a.array) (ArrayGiven a.space a.elem a.readonly (first_pos arg)) p.0.0 p.1,
      array_for fs st.scopes callee (length sofar.given) arg a sofar.given (ArrayGiven a.space a.elem a.readonly (first_pos arg)) e,
    )) (gains_both h (gains_this {P = λ frame. IsArray frame a} (with_calls sofar.calls st) (λ frame scopes. bare_meant frame fs st.scopes (pointer_at callee (length sofar.given)) arg a scopes e))))
argument_gains fs outermost st callee arg sofar None (Ok t) next h e typing is =
    answered (ArgsGain fs outermost st callee) is
    (gains_as (λ frame p. (
      given_behind frame sofar.args sofar.given (ValueNode t.expr) (ValueGiven t.elem (first_pos arg)) p.0.0 p.1,
      value_for callee sofar.given t.elem (first_pos arg) p.0.1,
    )) (gains_both h (typing t refl)))
argument_gains fs outermost st callee arg sofar None (Err fault) next h e typing is = cc

no_args : (fs : List FunctionTree) (outermost : Bool) (st : Standing) (callee : Callee) → ArgsGain fs outermost st callee (record { args = []; given = []; calls = st.calls })
no_args fs outermost st (Helper k params gives) = gains_this st (λ frame scopes. (tt, tt))
no_args fs outermost st (BuiltinCallee b) = gains_this st (λ frame scopes. (tt, tt))

-- ---- expressions

mutual
  pub expr_gains : (fs : List FunctionTree) (outermost : Bool) (st : Standing) (e : ExprTree) (t : Typed) → typed fs st.scopes st.calls e ≡ Ok t → ExprGains fs outermost st t
  expr_gains fs outermost st (NumberTree value unsigned pos) t h = answered (ExprGains fs outermost st) h (gains_this st (λ frame scopes. tt))
  expr_gains fs outermost st (NameTree name) t h = name_gains fs outermost st name.pos (meaning_of fs st.scopes name.text) t h
  expr_gains fs outermost st (UnaryTree op part pos) t h =
      let p = passing (typed fs st.scopes st.calls part) h in
      answered (ExprGains fs outermost st) p.rest (expr_gains fs outermost st part p.value p.first)
  expr_gains fs outermost st (BinaryTree op left right pos) t h =
      let l = passing (typed fs st.scopes st.calls left) h in let r = passing (typed fs st.scopes l.value.calls right) l.rest in
      answered (ExprGains fs outermost st) r.rest (gains_both (expr_gains fs outermost st left l.value l.first) (expr_gains fs outermost (with_calls l.value.calls st) right r.value r.first))
  expr_gains fs outermost st (BothTree left right pos) t h =
      let l = passing (typed fs st.scopes st.calls left) h in let r = passing (typed fs st.scopes l.value.calls right) l.rest in
      answered (ExprGains fs outermost st) r.rest (gains_both (expr_gains fs outermost st left l.value l.first) (expr_gains fs outermost (with_calls l.value.calls st) right r.value r.first))
  expr_gains fs outermost st (EitherTree left right pos) t h =
      let l = passing (typed fs st.scopes st.calls left) h in let r = passing (typed fs st.scopes l.value.calls right) l.rest in
      answered (ExprGains fs outermost st) r.rest (gains_both (expr_gains fs outermost st left l.value l.first) (expr_gains fs outermost (with_calls l.value.calls st) right r.value r.first))
  expr_gains fs outermost st (ChooseTree test one other pos) t h =
      let c = passing (typed fs st.scopes st.calls test) h in let y = passing (typed fs st.scopes c.value.calls one) c.rest in
      let n = passing (typed fs st.scopes y.value.calls other) y.rest in
      answered (ExprGains fs outermost st) n.rest (gains_three (expr_gains fs outermost st test c.value c.first)
      (expr_gains fs outermost (with_calls c.value.calls st) one y.value y.first) (expr_gains fs outermost (with_calls y.value.calls st) other n.value n.first))
  expr_gains fs outermost st (CastTree elem part pos) t h =
      let p = passing (typed fs st.scopes st.calls part) h in
      answered (ExprGains fs outermost st) p.rest (expr_gains fs outermost st part p.value p.first)
  expr_gains fs outermost st (IndexTree array place pos) t h =
      let a = passing (array_of array.pos (meaning_of fs st.scopes array.text)) h in let p = passing (typed fs st.scopes st.calls place) a.rest in
      answered (ExprGains fs outermost st) p.rest (gains_both (gains_this {P = λ frame. IsOf (named_kind frame a.value.array) a.value.elem} st
      (λ frame scopes. of_kind (named_kind frame a.value.array) (record { space = a.value.space; elem = a.value.elem; fixed = a.value.readonly }) (array_found frame array.pos (meaning_of fs st.scopes array.text) a.value a.first (meaning_is frame fs st.scopes array.text scopes))))
      (expr_gains fs outermost st place p.value p.first))
  expr_gains fs outermost st (CallTree name args) t h =
      let c = passing (callee_of fs name.pos (meaning_of fs st.scopes name.text)) h in
      let s = passing (typed_args fs st.scopes c.value (record { args = []; given = []; calls = st.calls }) args) c.rest in
      let w = passing (whole_call name.pos c.value s.value) s.rest in
      value_gains fs outermost st name.pos w.value w.value.gives t w.rest
      (whole_gains fs outermost st name.pos c.value s.value w.value (callee_is fs name.pos (meaning_of fs st.scopes name.text) c.value c.first)
      (args_gain fs outermost st c.value (record { args = []; given = []; calls = st.calls }) args s.value (no_args fs outermost st c.value) s.first) w.first)
  expr_gains fs outermost st (ParenTree part pos) t h =
      let p = passing (typed fs st.scopes st.calls part) h in
      answered (ExprGains fs outermost st) p.rest (expr_gains fs outermost st part p.value p.first)

  args_gain : (fs : List FunctionTree) (outermost : Bool) (st : Standing) (callee : Callee) (sofar : ArgsSofar) (args : ArgTrees) (all : ArgsSofar) → ArgsGain fs outermost st callee sofar
      → typed_args fs st.scopes callee sofar args ≡ Ok all → ArgsGain fs outermost st callee all
  args_gain fs outermost st callee sofar NoArgTrees all gains h = answered (ArgsGain fs outermost st callee) h gains
  args_gain fs outermost st callee sofar (AndArg arg args) all gains h =
      let a = passing (with_argument (first_pos arg) sofar (bare_array fs st.scopes (pointer_at callee (length sofar.given)) arg) (typed fs st.scopes sofar.calls arg)) h in
      args_gain fs outermost st callee a.value args all
      (argument_gains fs outermost st callee arg sofar (bare_array fs st.scopes (pointer_at callee (length sofar.given)) arg) (typed fs st.scopes sofar.calls arg) a.value gains refl
      (λ t e. expr_gains fs outermost (with_calls sofar.calls st) arg t e) a.first) a.rest

-- a call whose value is not used
pub call_gains : (fs : List FunctionTree) (outermost : Bool) (st : Standing) (name : Ident) (args : ArgTrees) (call : TypedCall) → typed_call fs st.scopes st.calls name args ≡ Ok call → CallGains fs outermost st call
call_gains fs outermost st name args call h =
    let c = passing (callee_of fs name.pos (meaning_of fs st.scopes name.text)) h in
    let s = passing (typed_args fs st.scopes c.value (record { args = []; given = []; calls = st.calls }) args) c.rest in
    whole_gains fs outermost st name.pos c.value s.value call (callee_is fs name.pos (meaning_of fs st.scopes name.text) c.value c.first)
    (args_gain fs outermost st c.value (record { args = []; given = []; calls = st.calls }) args s.value (no_args fs outermost st c.value) s.first) s.rest

pub option_gains : (fs : List FunctionTree) (outermost : Bool) (st : Standing) (value : Option ExprTree) (v : MaybeTyped) → typed_option fs st.scopes st.calls value ≡ Ok v → OptionGains fs outermost st v
option_gains fs outermost st None v h = answered (OptionGains fs outermost st) h (gains_this st (λ frame scopes. tt))
option_gains fs outermost st (Some e) v h =
    let t = passing (typed fs st.scopes st.calls e) h in
    answered (OptionGains fs outermost st) t.rest (expr_gains fs outermost st e t.value t.first)
