-- What the parts of a function are expanded to, one after another, and that each part is smaller than the whole.
use Rattle.std.proofs.Common.{◌≡◌, ℕ, zero, suc, ◌+◌, ◌*◌, ◌<◌, ◌≤◌, cond, count_by, Bool, List, [], ◌∷◌, ◌++◌, map, length, take, drop, get_or, slice_get, Option, None, Some, Vec, Box, Global, Bor, refl, sym, ap, ◌∙◌, arith}
use Rattle.std.specs.Option.{IfSome, MatchOption, option_copied, option_map}
use Rattle.std.proofs.lemmas.List.{drop_more}
use Rattle.std.proofs.lemmas.Option.{slice_get_past}
use Rattle.std.proofs.lemmas.List.Sums.{sum_by-cons}
use Rattle.vx_base.specs.declared.types.ParamKind.{ParamKind}
use Rattle.vx_base.specs.declared.types.ParamKind.TheVariants.{Scalar, Pointer}
use Rattle.ocl_ast.specs.declared.units.Param.{Param}
use Rattle.ocl_program.specs.declared.exprs.Argument.{Argument, Value, Array}
use Rattle.ocl_program.specs.declared.exprs.Builtin.{Builtin as Which}
use Rattle.ocl_program.specs.declared.exprs.TypedExpr.{TypedExpr, Call, Builtin}
use Rattle.ocl_program.specs.declared.functions.CallSite.{CallSite}
use Rattle.ocl_program.specs.declared.functions.TypedFunction.{TypedFunction}
use Rattle.ocl_program.specs.declared.stmts.TypedStmt.{TypedStmt, For, Block}
use Rattle.ocl_program.specs.Measures.{cut}
use Rattle.ocl_program.specs.Nodes.{ArgNodes, NoArgs, ValueArg, ArrayArg, ArgNode, ValueNode, ArrayNode, CallNode, BuiltinNode, BlockNode, ForNode, FunctionNode, StmtNodes, NoStmts, AndStmt, arg_nodes}
use Rattle.ocl_program.specs.Shapes.{argument_node, function_node, node_of, stmt_node, typed_stmts}
use Rattle.ocl_program.proofs.Rows.{call_node, builtin_node, block_node, for_node}
use Rattle.ocl_sem.specs.declared.scopes.Scope.{Scope}
use Rattle.ocl_sem.specs.Source.{Scope as AnyScope, callee_of, is_scalar, is_scalar_kind, scope_at, site_of, variable_in}
use Rattle.ocl_sem.specs.Views.{scope_of}
use Rattle.ocl_inline.specs.declared.trees.Binding.{Binding}
use Rattle.ocl_inline.specs.declared.trees.FlatArgument.{FlatArgument}
use Rattle.ocl_inline.specs.declared.trees.FlatStmt.{FlatStmt}
use Rattle.ocl_inline.specs.Expanding.{args_in, argument_in, bodies_in, call_in, stmt_in, stmts_in, value_in, variable_behind, variable_behind_kind}
use Rattle.ocl_inline.specs.Expansion.{binding_at, binding_by, call_flat, expanded, flat_stmt, flat_stmts}
use Rattle.ocl_inline.specs.Shapes.{flat_arguments, flat_trees, stmt_of, with_arg}
use Rattle.ocl_inline.specs.Sizes.{arg_size, args_size, bodies_size, stmt_size, stmts_size}
use Rattle.ocl_inline.specs.Trees.{FlatArgs, FlatExpr, FlatStmt as Tree, FlatStmts, FlatValue, ForFlat, NoFlats, AndFlat, CallFlat, LostFlat}
use Rattle.ocl_inline.proofs.Onto.{all_arguments, all_trees, arguments_onto, one_argument_more, one_tree_more, trees_onto}

none_left : {A : Type 0} (k : ℕ) → drop {A = A} k [] ≡ []
none_left zero = refl
none_left (suc k) = refl

-- behind the last nothing is left
all_left : {A : Type 0} (xs : List A) (k : ℕ) → length xs ≤ k → drop k xs ≡ []
all_left [] k past = none_left k
all_left (x ∷ xs) zero past = absurd (omega arith)
all_left (x ∷ xs) (suc k) past = all_left xs k (omega arith)

next_left : {A : Type 0} (xs : List A) (k : ℕ) (x : A) → k < length xs → x ≡ get_or xs k x → drop k xs ≡ x ∷ drop (k + 1) xs
next_left xs k x within is = drop_more xs k x within ∙ ap (λ y. y ∷ drop (k + 1) xs) (sym is)

-- ---- arguments

arguments_from : (n : ℕ) (program : List TypedFunction) (scope : Scope) (first : ℕ) (params : _) (k : ℕ) (arg : Argument) (more : List Argument)
    → args_in n program scope first params k (arg ∷ more) ≡ argument_in n program scope (binding_at first params k) arg (args_in n program scope first params (k + 1) more)
arguments_from n program scope first params k (Value e) more = refl
arguments_from n program scope first params k (Array array) more = refl

slice_get_at : (params : List Param) (k : ℕ) (x : Param) → k < length params → x ≡ get_or params k x → slice_get params k ≡ Some x
slice_get_at [] k x within is = absurd (omega arith)
slice_get_at (p ∷ ps) zero x within is = ap Some (sym is)
slice_get_at (p ∷ ps) (suc k) x within is = slice_get_at ps k x (omega arith) is

-- the parameter that a look-up finds
pub param_at : (Q : Bor Param → Type 0) (params : List Param) (k : ℕ) (found : Option (Bor Param)) → MatchOption found (length params ≤ k) (λ x. (k < length params) × Q x)
    → IfSome found (λ x. x.now ≡ get_or params k x.now) → option_copied found ≡ slice_get params k
param_at Q params k None past is = sym (slice_get_past params k past)
param_at Q params k (Some x) within is = sym (slice_get_at params k x.now within.0 is)

-- one argument more is expanded
pub argument_more : (n : ℕ) (program : List TypedFunction) (scope : Scope) (first : ℕ) (params : List Param) (k : ℕ) (args : List Argument) (arg : Argument) (bound : Binding) (items : List FlatArgument) (flat : FlatArgument) (whole : FlatArgs)
    → k < length args → arg ≡ get_or args k arg
    → bound ≡ binding_at first params k → ((more : FlatArgs) → with_arg flat more ≡ argument_in n program scope bound arg more)
    → arguments_onto items (args_in n program scope first params k (drop k args)) ≡ whole
    → arguments_onto (items ++ flat ∷ []) (args_in n program scope first params (k + 1) (drop (k + 1) args)) ≡ whole
argument_more n program scope first params k args arg bound items flat whole within is at same known =
    let rest = args_in n program scope first params (k + 1) (drop (k + 1) args) in
    one_argument_more items flat rest
    ∙ ap (arguments_onto items) (same rest ∙ ap (λ b. argument_in n program scope b arg rest) at ∙ sym (arguments_from n program scope first params k arg (drop (k + 1) args)))
    ∙ ap (λ left. arguments_onto items (args_in n program scope first params k left)) (sym (next_left args k arg within is))
    ∙ known

-- what is done with the next argument
pub binding_is : (first : ℕ) (params : List Param) (k variable : ℕ) (param : Option Param) (bound : Binding) → variable ≡ cut (first + count_by is_scalar (take k params)) → param ≡ slice_get params k
    → bound ≡ binding_by variable param → bound ≡ binding_at first params k
binding_is first params k variable param bound at found is = is ∙ ap (λ v. binding_by v param) at ∙ ap (binding_by (cut (first + count_by is_scalar (take k params)))) found

-- all are expanded
pub arguments_done : (n : ℕ) (program : List TypedFunction) (scope : Scope) (first : ℕ) (params : List Param) (k : ℕ) (args : List Argument) (items : List FlatArgument) (whole : FlatArgs)
    → length args ≤ k → arguments_onto items (args_in n program scope first params k (drop k args)) ≡ whole → flat_arguments items ≡ whole
arguments_done n program scope first params k args items whole past known =
    sym (all_arguments items) ∙ ap (λ left. arguments_onto items (args_in n program scope first params k left)) (sym (all_left args k past)) ∙ known

behind_scalar : (first count : ℕ) (b : Bool) (kind : ParamKind) → is_scalar_kind kind ≡ b → variable_behind_kind (cut (first + count)) kind ≡ cut (first + (count + cond b 1 0))
behind_scalar first count b (Scalar elem) e = let one : cond {A = ℕ} b 1 0 ≡ 1 = ap (λ x. cond x 1 0) (sym e) in omega arith
behind_scalar first count b (Pointer space elem readonly) e = let none : cond {A = ℕ} b 1 0 ≡ 0 = ap (λ x. cond x 1 0) (sym e) in omega arith

abbrev scalars_at : Option Param → ℕ
scalars_at None = 0
scalars_at (Some param) = cond (is_scalar param) 1 0

counted : (params : List Param) (k : ℕ) → count_by is_scalar (take (suc k) params) ≡ count_by is_scalar (take k params) + scalars_at (slice_get params k)
counted [] zero = refl
counted [] (suc k) = refl
counted (p ∷ ps) zero = omega arith
counted (p ∷ ps) (suc k) =
    let inner = counted ps k in
    let one : count_by is_scalar (take (suc (suc k)) (p ∷ ps)) ≡ cond {A = ℕ} (is_scalar p) 1 0 + count_by is_scalar (take (suc k) ps) = sum_by-cons (λ x. cond (is_scalar x) 1 0) p (take (suc k) ps) in
    let two : count_by is_scalar (take (suc k) (p ∷ ps)) ≡ cond {A = ℕ} (is_scalar p) 1 0 + count_by is_scalar (take k ps) = sum_by-cons (λ x. cond (is_scalar x) 1 0) p (take k ps) in
    omega arith

behind_param : (first count : ℕ) (param : Option Param) → variable_behind (cut (first + count)) param ≡ cut (first + (count + scalars_at param))
behind_param first count None = omega arith
behind_param first count (Some param) = behind_scalar first count (is_scalar param) param.kind refl

suc_is : (k : ℕ) → suc k ≡ k + 1
suc_is k = omega arith

-- the variable of the next scalar parameter
pub variable_more : (first : ℕ) (params : List Param) (k variable next : ℕ) (param : Option Param) → variable ≡ cut (first + count_by is_scalar (take k params)) → param ≡ slice_get params k
    → next ≡ variable_behind variable param → next ≡ cut (first + count_by is_scalar (take (k + 1) params))
variable_more first params k variable next param at found is =
    is ∙ ap (λ v. variable_behind v param) at ∙ ap (variable_behind (cut (first + count_by is_scalar (take k params)))) found
    ∙ behind_param first (count_by is_scalar (take k params)) (slice_get params k)
    ∙ ap (λ n. cut (first + n)) (sym (counted params k) ∙ ap (λ j. count_by is_scalar (take j params)) (suc_is k))

-- ---- statements

-- one statement more is expanded
pub stmt_more : (n : ℕ) (program : List TypedFunction) (scope : Scope) (k : ℕ) (stmts : List TypedStmt) (stmt : TypedStmt) (items : List FlatStmt) (flat : FlatStmt) (whole : FlatStmts)
    → k < length stmts → stmt ≡ get_or stmts k stmt → stmt_of flat ≡ stmt_in n program scope stmt
    → trees_onto items (stmts_in n program scope (drop k stmts)) ≡ whole
    → trees_onto (items ++ flat ∷ []) (stmts_in n program scope (drop (k + 1) stmts)) ≡ whole
stmt_more n program scope k stmts stmt items flat whole within is same known =
    let rest = stmts_in n program scope (drop (k + 1) stmts) in
    one_tree_more items flat rest
    ∙ ap (λ s. trees_onto items (AndFlat s rest)) same
    ∙ ap (λ left. trees_onto items (stmts_in n program scope left)) (sym (next_left stmts k stmt within is))
    ∙ known

pub stmts_done : (n : ℕ) (program : List TypedFunction) (scope : Scope) (k : ℕ) (stmts : List TypedStmt) (items : List FlatStmt) (whole : FlatStmts)
    → length stmts ≤ k → trees_onto items (stmts_in n program scope (drop k stmts)) ≡ whole → flat_trees items ≡ whole
stmts_done n program scope k stmts items whole past known =
    sym (all_trees items) ∙ ap (λ left. trees_onto items (stmts_in n program scope left)) (sym (all_left stmts k past)) ∙ known

-- ---- sizes

-- there is no size 0
args_positive : (args : ArgNodes) → 0 < args_size args
args_positive NoArgs = omega arith
args_positive (ValueArg e more) = omega arith
args_positive (ArrayArg array more) = omega arith

stmts_positive : (ss : StmtNodes) → 0 < stmts_size ss
stmts_positive NoStmts = omega arith
stmts_positive (AndStmt s ss) = omega arith

first_size : (arg : ArgNode) (more : List ArgNode) → args_size (arg_nodes (arg ∷ more)) ≡ arg_size arg + args_size (arg_nodes more)
first_size (ValueNode e) more = refl
first_size (ArrayNode array) more = refl

-- an argument is smaller than all of them
pub argument_smaller : (args : List Argument) (k : ℕ) (arg : Argument) → k < length args → arg ≡ get_or args k arg → arg_size (argument_node arg) < args_size (arg_nodes (map argument_node args))
argument_smaller [] k arg within is = absurd (omega arith)
argument_smaller (a ∷ args) zero arg within is =
    let same : arg_size (argument_node arg) ≡ arg_size (argument_node a) = ap (λ (x : Argument). arg_size (argument_node x)) is in
    let whole = first_size (argument_node a) (map argument_node args) in
    let some = args_positive (arg_nodes (map argument_node args)) in
    omega arith
argument_smaller (a ∷ args) (suc k) arg within is =
    let inner = argument_smaller args k arg (omega arith) is in
    let whole = first_size (argument_node a) (map argument_node args) in
    omega arith

-- a statement of some is smaller than all of them
pub stmt_smaller : (stmts : List TypedStmt) (k : ℕ) (s : TypedStmt) → k < length stmts → s ≡ get_or stmts k s → stmt_size (stmt_node s) < stmts_size (typed_stmts stmts)
stmt_smaller [] k s within is = absurd (omega arith)
stmt_smaller (t ∷ ts) zero s within is =
    let same : stmt_size (stmt_node s) ≡ stmt_size (stmt_node t) = ap (λ (x : TypedStmt). stmt_size (stmt_node x)) is in
    omega arith
stmt_smaller (t ∷ ts) (suc k) s within is =
    let inner = stmt_smaller ts k s (omega arith) is in
    omega arith

bodies_positive : (program : List FunctionNode) → 0 < bodies_size program
bodies_positive [] = omega arith
bodies_positive (f ∷ fs) = let some = stmts_positive f.body in omega arith

-- the body of a function is smaller than all bodies
pub body_smaller : (program : List FunctionNode) (k : ℕ) (f : FunctionNode) → slice_get program k ≡ Some f → stmts_size f.body < bodies_size program
body_smaller [] k f e = absurd (cc)
body_smaller (g ∷ fs) zero f e =
    let same : g ≡ f = some_same e in
    let size : stmts_size f.body ≡ stmts_size g.body = ap (λ (h : FunctionNode). stmts_size h.body) (sym same) in
    let some = bodies_positive fs in
    omega arith
  where
    some_same : Some g ≡ Some f → g ≡ f
    some_same h = cc
body_smaller (g ∷ fs) (suc k) f e = let inner = body_smaller fs k f e in omega arith

-- a level less makes up for a body
pub level_less : (levels less size all rest : ℕ) → levels ≡ less + 1 → size < all → less * all + size < levels * all + rest
level_less levels less size all rest e smaller =
    let one : (less + 1) * all ≡ less * all + all = omega arith in
    let more : levels * all ≡ (less + 1) * all = ap (λ n. n * all) e in
    omega arith

-- ---- nodes

pub call_is : (expr : TypedExpr) (call : ℕ) (args : Vec Argument Global) (seen : List Argument) → expr ≡ Call call args → seen ≡ args.items
    → node_of expr ≡ CallNode call (arg_nodes (map argument_node seen))
call_is expr call args seen e e' = ap node_of e ∙ call_node call args ∙ ap (λ xs. CallNode call (arg_nodes (map argument_node xs))) (sym e')

pub builtin_is : (expr : TypedExpr) (which : Which) (unsigned : Bool) (args : Vec Argument Global) (seen : List Argument) → expr ≡ Builtin which unsigned args → seen ≡ args.items
    → node_of expr ≡ BuiltinNode which unsigned (arg_nodes (map argument_node seen))
builtin_is expr which unsigned args seen e e' =
    ap node_of e ∙ builtin_node which unsigned args ∙ ap (λ xs. BuiltinNode which unsigned (arg_nodes (map argument_node xs))) (sym e')

pub block_is : (stmt : TypedStmt) (items : Vec TypedStmt Global) (seen : List TypedStmt) → stmt ≡ Block items → seen ≡ items.items → stmt_node stmt ≡ BlockNode (typed_stmts seen)
block_is stmt items seen e e' = ap stmt_node e ∙ block_node items ∙ ap (λ xs. BlockNode (typed_stmts xs)) (sym e')

pub for_is : (stmt : TypedStmt) (first : Vec TypedStmt Global) (test : Option TypedExpr) (step : Vec TypedStmt Global) (body : Box TypedStmt Global) (one two : List TypedStmt) (turn : TypedStmt)
    → stmt ≡ For first test step body → one ≡ first.items → two ≡ step.items → turn ≡ body.value
    → stmt_node stmt ≡ ForNode (typed_stmts one) (option_map node_of test) (typed_stmts two) (stmt_node turn)
for_is stmt first test step body one two turn e e1 e2 e3 =
    ap stmt_node e ∙ for_node first test step body
    ∙ ap (λ xs. ForNode (typed_stmts xs) (option_map node_of test) (typed_stmts step.items) (stmt_node body.value)) (sym e1)
    ∙ ap (λ xs. ForNode (typed_stmts one) (option_map node_of test) (typed_stmts xs) (stmt_node body.value)) (sym e2)
    ∙ ap (λ s. ForNode (typed_stmts one) (option_map node_of test) (typed_stmts two) (stmt_node s)) (sym e3)

-- ---- calls

-- a call that leads to a function
pub call_expanded : (n : ℕ) (program : List TypedFunction) (scope : Scope) (call : ℕ) (args : List Argument) (site : CallSite) (f : FunctionNode) (bound : FlatArgs) (body : FlatStmts)
    → site_of (scope_of scope) call ≡ Some site → callee_of (map function_node program) (Some site) ≡ Some f
    → bound ≡ args_in n program scope (variable_in (scope_of scope) site.variables) f.params 0 args
    → body ≡ bodies_in n program (scope_at (scope_of scope) site f (arg_nodes (map argument_node args)))
    → CallFlat bound body ≡ call_in n program scope call args
call_expanded n program scope call args site f bound body e e' args_are body_is =
    let nodes = arg_nodes (map argument_node args) in
    let with_site : AnyScope → Option CallSite → FlatExpr =
    λ s found. call_flat (bodies_in n program) s found (callee_of (map function_node program) found) nodes (λ first params. args_in n program scope first params 0 args) in
    let by_callee : Option FunctionNode → FlatExpr =
    λ found. call_flat (bodies_in n program) (scope_of scope) (Some site) found nodes (λ first params. args_in n program scope first params 0 args) in
    ap (λ b. CallFlat b body) args_are ∙ ap (CallFlat (args_in n program scope (variable_in (scope_of scope) site.variables) f.params 0 args)) body_is
    ∙ ap by_callee (sym e') ∙ ap (with_site (scope_of scope)) (sym e)

-- one that leads to none
pub call_lost : (n : ℕ) (program : List TypedFunction) (scope : Scope) (call : ℕ) (args : List Argument)
    → callee_of (map function_node program) (site_of (scope_of scope) call) ≡ None → LostFlat (args_in n program scope 0 [] 0 args) ≡ call_in n program scope call args
call_lost n program scope call args e =
    sym (lost_at (site_of (scope_of scope) call) _ e)
  where
    lost_at : (site : Option CallSite) (found : Option FunctionNode) → found ≡ None →
        call_flat (bodies_in n program) (scope_of scope) site found (arg_nodes (map argument_node args)) (λ first params. args_in n program scope first params 0 args)
        ≡ LostFlat (args_in n program scope 0 [] 0 args)
    lost_at None found h = refl
    lost_at (Some site) None h = refl
    lost_at (Some site) (Some f) h = absurd (cc)

-- the body of a call where a level is left, and where none is
pub body_expanded : (n less : ℕ) (program : List TypedFunction) (inner at : AnyScope) (body : FlatStmts) → n ≡ less + 1 → inner ≡ at
    → body ≡ flat_stmts (expanded less (map function_node program)) (map function_node program) inner at.function.body → body ≡ bodies_in n program at
unfolding expanded
body_expanded n less program inner at body e e' is =
    is ∙ ap (λ (s : AnyScope). flat_stmts (expanded less (map function_node program)) (map function_node program) s at.function.body) e'
    ∙ ap (λ m. expanded m (map function_node program) at) (suc_is less ∙ sym e)

pub body_left_out : (n : ℕ) (program : List TypedFunction) (at : AnyScope) → n ≡ 0 → NoFlats ≡ bodies_in n program at
unfolding expanded
body_left_out n program at e = ap (λ m. expanded m (map function_node program) at) (sym e)

-- what a `for` is expanded to
pub for_expanded : (n : ℕ) (program : List TypedFunction) (scope : Scope) (stmt : TypedStmt) (test : Option TypedExpr) (one two : List TypedStmt) (turn : TypedStmt) (first step : FlatStmts) (tested : FlatValue) (body : Tree)
    → stmt_node stmt ≡ ForNode (typed_stmts one) (option_map node_of test) (typed_stmts two) (stmt_node turn)
    → first ≡ stmts_in n program scope one → tested ≡ value_in n program scope test → step ≡ stmts_in n program scope two → body ≡ stmt_in n program scope turn
    → ForFlat first tested step body ≡ stmt_in n program scope stmt
for_expanded n program scope stmt test one two turn first step tested body node e1 e2 e3 e4 =
    ap (λ x. ForFlat x tested step body) e1 ∙ ap (λ x. ForFlat (stmts_in n program scope one) x step body) e2
    ∙ ap (λ x. ForFlat (stmts_in n program scope one) (value_in n program scope test) x body) e3
    ∙ ap (λ x. ForFlat (stmts_in n program scope one) (value_in n program scope test) (stmts_in n program scope two) x) e4
    ∙ ap (flat_stmt (bodies_in n program) (map function_node program) (scope_of scope)) (sym node)
