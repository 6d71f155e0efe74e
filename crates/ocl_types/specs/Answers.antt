-- What a part of the typing answers: what the judgement gives, or its fault, or that memory ran out.
use Rattle.std.specs.Prelude.{◌≡◌, ◌⊎◌, ℕ, List, [], length, map, option_map, zip, Result, Ok, Err}
use Rattle.std.specs.declared.alloc.Global.{Global}
use Rattle.std.specs.declared.vec.Vec.{Vec}
use Rattle.vx_base.specs.declared.types.Elem.{Elem}
use Rattle.ocl_ast.specs.Trees.{FunctionTree}
use Rattle.ocl_ast.specs.declared.units.Function.{Function}
use Rattle.ocl_program.specs.Nodes.{ExprNode, StmtNode, FunctionNode}
use Rattle.ocl_program.specs.Shapes.{node_of, argument_node, stmt_node, typed_stmts}
use Rattle.ocl_program.specs.declared.stmts.TypedStmt.{TypedStmt}
use Rattle.ocl_types.specs.declared.args.Args.{Args}
use Rattle.ocl_types.specs.declared.calls.CallPart.{CallPart}
use Rattle.ocl_types.specs.declared.parts.TypedPart.{TypedPart}
use Rattle.ocl_types.specs.declared.faults.TypeFault.{TypeFault}
use Rattle.ocl_types.specs.declared.faults.TypeFault.TheVariants.{Memory}
use Rattle.ocl_types.specs.declared.bodies.TypedBody.{TypedBody}
use Rattle.ocl_types.specs.declared.changes.Changed.{Changed as ChangedOf}
use Rattle.ocl_types.specs.declared.changes.Changed.TheVariants.{Variable as VariableOf, Element as ElementOf}
use Rattle.ocl_types.specs.declared.changes.ChangedPart.{ChangedPart}
use Rattle.ocl_types.specs.declared.counts.CountPart.{CountPart}
use Rattle.ocl_types.specs.declared.exprs.MaybePart.{MaybePart}
use Rattle.ocl_types.specs.declared.functions.Functions.{Functions}
use Rattle.ocl_types.specs.declared.standing.Place.{Place as PlaceOf}
use Rattle.ocl_types.specs.declared.standing.Standing.{Standing as StandingOf}
use Rattle.ocl_types.specs.declared.uses.Callee.{Callee as CalleeOf}
use Rattle.ocl_types.specs.declared.uses.Callee.TheVariants.{Helper as HelperOf, Builtin as BuiltinOf}
use Rattle.ocl_types.specs.Exprs.{Typed, MaybeTyped, TypedCall, ArgsSofar, Callee, Helper, BuiltinCallee}
use Rattle.ocl_types.specs.Functions.{bare_call, names_from}
use Rattle.ocl_types.specs.Tables.{NumbersOf, trees_of}
use Rattle.ocl_types.specs.Stmts.{Place, Standing, Changed, Variable, Element, TypedTarget, count_value}

-- want of memory, or the judgement's fault
abbrev pub Faults : {A : Type 0} → TypeFault → Result A TypeFault → Type 0
Faults fault judged = (fault ≡ Memory) ⊎ (judged ≡ Err fault)

-- a typed expression, where the callees so far are now these
abbrev pub typed_part : TypedPart → List ℕ → Typed
typed_part part calls = record { expr = node_of part.expr; elem = part.elem; calls = calls }

abbrev pub TypesTo : Result TypedPart TypeFault → List ℕ → Result Typed TypeFault → Type 0
TypesTo (Ok part) calls judged = judged ≡ Ok (typed_part part calls)
TypesTo (Err fault) calls judged = Faults fault judged

-- the arguments so far, where the callees so far are now these
abbrev pub args_sofar : Args → List ℕ → ArgsSofar
args_sofar args calls = record { args = map argument_node args.args.items; given = args.given.items; calls = calls }

abbrev pub TakesTo : Result Args TypeFault → List ℕ → Result ArgsSofar TypeFault → Type 0
TakesTo (Ok args) calls judged = judged ≡ Ok (args_sofar args calls)
TakesTo (Err fault) calls judged = Faults fault judged

-- an expression made of typed parts: want of memory is the one fault
abbrev pub Makes : Result TypedPart TypeFault → ExprNode → Elem → Type 0
Makes (Ok part) expr elem = (node_of part.expr ≡ expr) × (part.elem ≡ elem)
Makes (Err fault) expr elem = fault ≡ Memory

-- what a call's name stands for
abbrev pub callee_in : CalleeOf → Callee
callee_in (HelperOf number params gives) = Helper number params.now gives
callee_in (BuiltinOf which) = BuiltinCallee which

-- a typed call, where the callees so far are now these
abbrev pub CallsTo : Result CallPart TypeFault → List ℕ → Result TypedCall TypeFault → Type 0
CallsTo (Ok call) calls judged = judged ≡ Ok (record { expr = node_of call.expr; gives = call.gives; calls = calls })
CallsTo (Err fault) calls judged = Faults fault judged

-- an expression that may be left out
abbrev pub maybe_part : MaybePart → List ℕ → MaybeTyped
maybe_part part calls = record { expr = option_map node_of part.expr; elem = part.elem; calls = calls }

abbrev pub MaybeTo : Result MaybePart TypeFault → List ℕ → Result MaybeTyped TypeFault → Type 0
MaybeTo (Ok part) calls judged = judged ≡ Ok (maybe_part part calls)
MaybeTo (Err fault) calls judged = Faults fault judged

-- what an assignment changes
abbrev pub changed_in : ChangedOf → Changed
changed_in (VariableOf variable) = Variable variable
changed_in (ElementOf array place pos) = Element array (node_of place) pos

abbrev pub changed_part : ChangedPart → List ℕ → TypedTarget
changed_part part calls = record { what = changed_in part.what; elem = part.elem; calls = calls }

abbrev pub TargetTo : Result ChangedPart TypeFault → List ℕ → Result TypedTarget TypeFault → Type 0
TargetTo (Ok part) calls judged = judged ≡ Ok (changed_part part calls)
TargetTo (Err fault) calls judged = Faults fault judged

-- the count of an array, with its value
abbrev pub CountTo : Result CountPart TypeFault → Result ExprNode TypeFault → Type 0
CountTo (Ok count) judged = (judged ≡ Ok (node_of count.expr)) × (count.value ≡ count_value (node_of count.expr))
CountTo (Err fault) judged = Faults fault judged

-- where a statement stands, and what its function has so far
abbrev pub placed_in : List FunctionTree → PlaceOf → Place
placed_in functions place = record { functions = functions; gives = place.gives; in_loop = place.in_loop; outermost = place.outermost }

abbrev pub standing_of : StandingOf → Standing
standing_of st = record { scopes = st.scopes; variables = st.variables; sites = st.sites; arrays = st.arrays.items; calls = st.calls.items }

abbrev pub StepsTo : {A : Type 0} → Result A TypeFault → Standing → Result Standing TypeFault → Type 0
StepsTo (Ok done) after judged = judged ≡ Ok after
StepsTo (Err fault) after judged = Faults fault judged

-- a typed statement, behind which a function has this
abbrev pub StmtTo : Result TypedStmt TypeFault → Standing → Result (StmtNode × Standing) TypeFault → Type 0
StmtTo (Ok stmt) after judged = judged ≡ Ok (stmt_node stmt, after)
StmtTo (Err fault) after judged = Faults fault judged

abbrev pub StmtsTo : Result (Vec TypedStmt Global) TypeFault → Standing → Result (List StmtNode × Standing) TypeFault → Type 0
StmtsTo (Ok stmts) after judged = judged ≡ Ok (map stmt_node stmts.items, after)
StmtsTo (Err fault) after judged = Faults fault judged

-- the functions of a file by name
abbrev pub NamesTo : Result Functions TypeFault → List Function → Type 0
NamesTo (Ok fs) functions = (names_from [] (trees_of functions) ≡ Ok tt) × (fs.functions.now ≡ functions) × NumbersOf fs.numbers.entries (trees_of functions)
NamesTo (Err fault) functions = Faults fault (names_from [] (trees_of functions))

-- the function of a tree whose block is typed
abbrev pub with_body : FunctionTree → TypedBody → FunctionNode
with_body f body = record {
  kernel = f.kernel;
  name = f.name;
  gives = f.gives;
  params = f.params;
  variables = body.variables;
  sites = body.sites;
  arrays = body.arrays.items;
  calls = map bare_call body.calls.items;
  body = typed_stmts body.items.items;
}

abbrev pub BodyTo : Result TypedBody TypeFault → FunctionTree → Result FunctionNode TypeFault → Type 0
BodyTo (Ok body) f judged = judged ≡ Ok (with_body f body)
BodyTo (Err fault) f judged = Faults fault judged

-- the functions of trees whose blocks are typed
abbrev pub with_bodies : List FunctionTree → List TypedBody → List FunctionNode
with_bodies fs bodies = map (λ (p : FunctionTree × TypedBody). with_body p.0 p.1) (zip fs bodies)

abbrev pub BodiesTo : Result (Vec TypedBody Global) TypeFault → List FunctionTree → Result (List FunctionNode) TypeFault → Type 0
BodiesTo (Ok bodies) fs judged = (judged ≡ Ok (with_bodies fs bodies.items)) × (length bodies.items ≡ length fs)
BodiesTo (Err fault) fs judged = Faults fault judged
