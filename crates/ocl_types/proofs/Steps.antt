-- What a part answers gives what the whole answers.
use Rattle.std.proofs.Common.{◌≡◌, ◌⊎◌, inl, inr, refl, ap, sym, subst, ◌∙◌, ℕ, List, [], MatchResult, Vec, Global, length, Result, Ok, Err}
use Rattle.vx_base.specs.declared.types.Elem.{Elem}
use Rattle.ocl_ast.proofs.Rows.{call_tree}
use Rattle.ocl_ast.specs.Shapes.{tree_of, arg_trees}
use Rattle.ocl_ast.specs.Trees.{ExprTree, CallTree, ArgTrees, AndArg, FunctionTree}
use Rattle.ocl_ast.specs.declared.exprs.Expr.{Expr, Call, Name}
use Rattle.ocl_ast.specs.declared.exprs.Ident.{Ident}
use Rattle.ocl_program.specs.Nodes.{ExprNode}
use Rattle.ocl_program.specs.Shapes.{node_of}
use Rattle.ocl_types.specs.declared.faults.TypeFault.{TypeFault}
use Rattle.ocl_types.specs.declared.faults.TypeFault.TheVariants.{Memory}
use Rattle.ocl_types.specs.declared.parts.TypedPart.{TypedPart}
use Rattle.ocl_types.specs.declared.names.Meaning.{Meaning}
use Rattle.ocl_types.specs.Names.{Scope, meaning_of}
use Rattle.ocl_types.specs.Exprs.{◌>>=◌, Typed, ArgsSofar, Callee, callee_of, variable_of, value_call, typed, typed_args, with_argument, bare_array, pointer_at, first_pos}
use Rattle.ocl_types.specs.Answers.{Faults, TypesTo, Makes, typed_part}

-- a fault of the first part is the fault of the whole
pub fault_onward : {A B : Type 0} (fault : TypeFault) (m : Result A TypeFault) (f : A → Result B TypeFault) → Faults fault m → Faults fault (m >>= f)
fault_onward fault m f (inl memory) = inl memory
fault_onward fault m f (inr is) = inr (ap (λ r. r >>= f) is)

-- behind a part that is typed the fault is that of what follows
pub fault_behind : {A B : Type 0} (fault : TypeFault) (m : Result A TypeFault) (f : A → Result B TypeFault) (x : A) → m ≡ Ok x → Faults fault (f x) → Faults fault (m >>= f)
fault_behind fault m f x typed (inl memory) = inl memory
fault_behind fault m f x typed (inr is) = inr (ap (λ r. r >>= f) typed ∙ is)

-- behind a part that is typed the answer is that of what follows
pub types_behind : {A : Type 0} (r : Result TypedPart TypeFault) (calls : List ℕ) (m : Result A TypeFault) (f : A → Result Typed TypeFault) (x : A) →
    m ≡ Ok x → TypesTo r calls (f x) → TypesTo r calls (m >>= f)
types_behind (Ok part) calls m f x typed is = ap (λ r. r >>= f) typed ∙ is
types_behind (Err fault) calls m f x typed is = fault_behind fault m f x typed is

-- an expression made of typed parts is the answer
pub types_made : (r : Result TypedPart TypeFault) (calls : List ℕ) (expr : ExprNode) (elem : Elem) →
    Makes r expr elem → TypesTo r calls (Ok (record { expr = expr; elem = elem; calls = calls }))
types_made (Ok part) calls expr elem made =
    ap (λ e. Ok (record { expr = e; elem = elem; calls = calls })) (sym made.0) ∙ ap (λ t. Ok (record { expr = node_of part.expr; elem = t; calls = calls })) (sym made.1)
types_made (Err fault) calls expr elem made = inl made

-- the arguments of a call are those of the list
pub call_seen : (name : Ident) (args : Vec Expr Global) → tree_of (Call name args) ≡ CallTree name (arg_trees args.items)
call_seen name args = call_tree name args

-- an argument that is taken leaves the others
pub one_taken : (fs : List FunctionTree) (ss : List Scope) (callee : Callee) (sofar next : ArgsSofar) (arg : ExprTree) (rest : ArgTrees) →
    with_argument (first_pos arg) sofar (bare_array fs ss (pointer_at callee (length sofar.given)) arg) (typed fs ss sofar.calls arg) ≡ Ok next →
    typed_args fs ss callee sofar (AndArg arg rest) ≡ typed_args fs ss callee next rest
one_taken fs ss callee sofar next arg rest taken = ap (λ r. r >>= λ (n : ArgsSofar). typed_args fs ss callee n rest) taken

-- a fault of an argument is the fault of the call
pub one_refused : (fs : List FunctionTree) (ss : List Scope) (callee : Callee) (sofar : ArgsSofar) (fault : TypeFault) (arg : ExprTree) (rest : ArgTrees) →
    with_argument (first_pos arg) sofar (bare_array fs ss (pointer_at callee (length sofar.given)) arg) (typed fs ss sofar.calls arg) ≡ Err fault →
    typed_args fs ss callee sofar (AndArg arg rest) ≡ Err fault
one_refused fs ss callee sofar fault arg rest refused = ap (λ r. r >>= λ (n : ArgsSofar). typed_args fs ss callee n rest) refused

-- a name that is used as a variable
pub name_typed : (r : Result TypedPart TypeFault) (fs : List FunctionTree) (ss : List Scope) (calls : List ℕ) (expr : Expr) (name : Ident) (text : List ℕ) (meaning : Meaning) →
    expr ≡ Name name → text ≡ name.text → meaning ≡ meaning_of fs ss text →
    MatchResult r (λ part. variable_of name.pos calls meaning ≡ Ok (typed_part part calls)) (λ fault. variable_of name.pos calls meaning ≡ Err fault) → TypesTo r calls (typed fs ss calls (tree_of expr))
name_typed (Ok part) fs ss calls expr name text meaning is read means made =
    ap (λ e. typed fs ss calls (tree_of e)) is ∙ sym (ap (variable_of name.pos calls) (means ∙ ap (meaning_of fs ss) read)) ∙ made
name_typed (Err fault) fs ss calls expr name text meaning is read means made =
    inr (ap (λ e. typed fs ss calls (tree_of e)) is ∙ sym (ap (variable_of name.pos calls) (means ∙ ap (meaning_of fs ss) read)) ∙ made)

abbrev no_args : List ℕ → ArgsSofar
no_args calls = record { args = []; given = []; calls = calls }

-- what a call is, by what its name stands for
call_is : (fs : List FunctionTree) (ss : List Scope) (calls : List ℕ) (expr : Expr) (name : Ident) (args : Vec Expr Global) (slice : List Expr) → expr ≡ Call name args → slice ≡ args.items →
    typed fs ss calls (tree_of expr) ≡ typed fs ss calls (CallTree name (arg_trees slice))
call_is fs ss calls expr name args slice is read =
    ap (λ e. typed fs ss calls (tree_of e)) is ∙ ap (typed fs ss calls) (call_seen name args) ∙ sym (ap (λ xs. typed fs ss calls (CallTree name (arg_trees xs))) read)

callee_is : (fs : List FunctionTree) (ss : List Scope) (name : Ident) (text : List ℕ) (meaning : Meaning) (callee : Callee) → text ≡ name.text → meaning ≡ meaning_of fs ss text →
    callee_of fs name.pos meaning ≡ Ok callee → callee_of fs name.pos (meaning_of fs ss name.text) ≡ Ok callee
callee_is fs ss name text meaning callee read means made = sym (ap (callee_of fs name.pos) (means ∙ ap (meaning_of fs ss) read)) ∙ made

-- a fault of a call's arguments
pub call_fault : (fs : List FunctionTree) (ss : List Scope) (calls : List ℕ) (expr : Expr) (name : Ident) (args : Vec Expr Global) (slice : List Expr) (text : List ℕ) (meaning : Meaning) (callee : Callee) (fault : TypeFault) →
    expr ≡ Call name args → text ≡ name.text → meaning ≡ meaning_of fs ss text → callee_of fs name.pos meaning ≡ Ok callee → slice ≡ args.items →
    Faults fault (typed_args fs ss callee (no_args calls) (arg_trees slice)) → Faults fault (typed fs ss calls (tree_of expr))
call_fault fs ss calls expr name args slice text meaning callee fault is read means found seen faults =
    let onward = fault_onward fault (typed_args fs ss callee (no_args calls) (arg_trees slice)) (λ (sofar : ArgsSofar). value_call name.pos callee sofar) faults in
    let whole : Faults fault (typed fs ss calls (CallTree name (arg_trees slice))) =
    fault_behind fault (callee_of fs name.pos (meaning_of fs ss name.text)) (λ (k : Callee). typed_args fs ss k (no_args calls) (arg_trees slice) >>= λ (sofar : ArgsSofar). value_call name.pos k sofar) callee
    (callee_is fs ss name text meaning callee read means found) onward in
    subst (λ judged. Faults fault judged) (sym (call_is fs ss calls expr name args slice is seen)) whole

-- a call whose arguments are typed
pub call_typed : (r : Result TypedPart TypeFault) (after : List ℕ) (fs : List FunctionTree) (ss : List Scope) (calls : List ℕ) (expr : Expr) (name : Ident) (args : Vec Expr Global) (slice : List Expr) (text : List ℕ) (meaning : Meaning) (callee : Callee) (sofar : ArgsSofar) →
    expr ≡ Call name args → text ≡ name.text → meaning ≡ meaning_of fs ss text → callee_of fs name.pos meaning ≡ Ok callee → slice ≡ args.items →
    typed_args fs ss callee (no_args calls) (arg_trees slice) ≡ Ok sofar → TypesTo r after (value_call name.pos callee sofar) → TypesTo r after (typed fs ss calls (tree_of expr))
call_typed r after fs ss calls expr name args slice text meaning callee sofar is read means found seen all made =
    let behind = types_behind r after (typed_args fs ss callee (no_args calls) (arg_trees slice)) (λ (s : ArgsSofar). value_call name.pos callee s) sofar all made in
    let whole : TypesTo r after (typed fs ss calls (CallTree name (arg_trees slice))) =
    types_behind r after (callee_of fs name.pos (meaning_of fs ss name.text)) (λ (k : Callee). typed_args fs ss k (no_args calls) (arg_trees slice) >>= λ (s : ArgsSofar). value_call name.pos k s) callee
    (callee_is fs ss name text meaning callee read means found) behind in
    subst (λ judged. TypesTo r after judged) (sym (call_is fs ss calls expr name args slice is seen)) whole
