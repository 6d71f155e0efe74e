-- One more parameter, statement or function of those that are left.
use Rattle.std.proofs.Common.{◌≡◌, ◌⊎◌, inl, inr, ℕ, zero, suc, ◌+◌, ◌<◌, ◌≤◌, false, List, [], ◌∷◌, ◌++◌, map, zip, length, take, drop, get_or, Result, Ok, Err, refl, sym, ap, subst, ◌∙◌, arith}
use Rattle.std.proofs.lemmas.List.{map-append}
use Rattle.ocl_ast.specs.Shapes.{function_tree, stmt_tree, stmt_trees}
use Rattle.ocl_ast.specs.Trees.{FunctionTree}
use Rattle.ocl_ast.specs.declared.stmts.Stmt.{Stmt}
use Rattle.ocl_ast.specs.declared.units.Function.{Function}
use Rattle.ocl_ast.specs.declared.units.Param.{Param}
use Rattle.ocl_program.specs.Nodes.{FunctionNode, StmtNode, StmtNodes}
use Rattle.ocl_program.specs.Shapes.{stmt_node, typed_stmts as typed_items}
use Rattle.ocl_program.specs.declared.stmts.TypedStmt.{TypedStmt}
use Rattle.ocl_types.specs.declared.bodies.TypedBody.{TypedBody}
use Rattle.ocl_types.specs.declared.faults.TypeFault.{TypeFault}
use Rattle.ocl_types.specs.Answers.{Faults, with_bodies, with_body}
use Rattle.ocl_types.specs.Exprs.{◌>>=◌}
use Rattle.ocl_types.specs.Functions.{at_start, made_of, typed_function, typed_functions, with_param, with_params}
use Rattle.ocl_types.specs.Stmts.{Place, Standing, typed_stmt, typed_stmts}
use Rattle.ocl_types.specs.Tables.{trees_of}
use Rattle.ocl_types.proofs.Lists.{next_left, next_taken, none_left}
use Rattle.ocl_types.proofs.Rules.{nodes_seen}
use Rattle.ocl_types.proofs.Steps.{fault_onward}

left_from : {A : Type 0} (xs : List A) (i : ℕ) (x : A) → i < length xs → x ≡ get_or xs i x → drop i xs ≡ x ∷ drop (suc i) xs
left_from [] i x within is = absurd (omega arith)
left_from (y ∷ ys) zero x within is = ap (λ z. z ∷ ys) (sym is)
left_from (y ∷ ys) (suc i) x within is = left_from ys i x (omega arith) is

suc_is : (i : ℕ) → suc i ≡ i + 1
suc_is i = omega arith

item_left : {A : Type 0} (xs : List A) (i : ℕ) (x : A) → i < length xs → x ≡ get_or xs i x → drop i xs ≡ x ∷ drop (i + 1) xs
item_left xs i x within is = left_from xs i x within is ∙ ap (λ j. x ∷ drop j xs) (suc_is i)

nothing_left : {A : Type 0} (xs : List A) (i : ℕ) → length xs ≤ i → drop i xs ≡ []
nothing_left [] zero past = refl
nothing_left [] (suc i) past = refl
nothing_left (y ∷ ys) zero past = absurd (omega arith)
nothing_left (y ∷ ys) (suc i) past = nothing_left ys i (omega arith)

-- a fault of the whole, by an equation of what is judged
faults_along : {A : Type 0} (fault : TypeFault) (judged whole : Result A TypeFault) → judged ≡ whole → Faults fault judged → Faults fault whole
faults_along fault judged whole is faults = subst (λ j. Faults fault j) is faults

-- ---- parameters

pub param_taken : (k : ℕ) (st now : Standing) (params : List Param) (p : Param) (whole : Result Standing TypeFault) → k < length params → p ≡ get_or params k p → with_param k p p.kind st ≡ Ok now →
    with_params k st (drop k params) ≡ whole → with_params (k + 1) now (drop (k + 1) params) ≡ whole
param_taken k st now params p whole within is taken known =
    sym (ap (λ r. r >>= λ (s : Standing). with_params (k + 1) s (drop (k + 1) params)) taken) ∙ sym (ap (with_params k st) (item_left params k p within is)) ∙ known

pub param_refused : (k : ℕ) (st : Standing) (params : List Param) (p : Param) (fault : TypeFault) (whole : Result Standing TypeFault) → k < length params → p ≡ get_or params k p → Faults fault (with_param k p p.kind st) →
    with_params k st (drop k params) ≡ whole → Faults fault whole
param_refused k st params p fault whole within is faults known =
    faults_along fault (with_params k st (p ∷ drop (k + 1) params)) whole (sym (ap (with_params k st) (item_left params k p within is)) ∙ known)
    (fault_onward fault (with_param k p p.kind st) (λ (s : Standing). with_params (k + 1) s (drop (k + 1) params)) faults)

pub params_done : (k : ℕ) (st : Standing) (params : List Param) (whole : Result Standing TypeFault) → length params ≤ k → with_params k st (drop k params) ≡ whole → whole ≡ Ok st
params_done k st params whole past known = sym known ∙ ap (with_params k st) (nothing_left params k past)

-- ---- statements

pub stmt_taken : (place : Place) (st now : Standing) (stmts : List Stmt) (i : ℕ) (s : Stmt) (t : TypedStmt) (done more : List TypedStmt) (whole : Result (List StmtNode × Standing) TypeFault) → i < length stmts → s ≡ get_or stmts i s →
    typed_stmt place st (stmt_tree s) ≡ Ok (stmt_node t, now) → more ≡ done ++ t ∷ [] →
    typed_stmts place (map stmt_node done) st (stmt_trees (drop i stmts)) ≡ whole → typed_stmts place (map stmt_node more) now (stmt_trees (drop (i + 1) stmts)) ≡ whole
stmt_taken place st now stmts i s t done more whole within is typed pushed known =
    ap (λ l. typed_stmts place l now (stmt_trees (drop (i + 1) stmts))) (ap (map stmt_node) pushed ∙ map-append stmt_node done (t ∷ [])) ∙
    sym (ap (λ r. r >>= λ (d : StmtNode × Standing). typed_stmts place (map stmt_node done ++ d.0 ∷ []) d.1 (stmt_trees (drop (i + 1) stmts))) typed) ∙
    sym (ap (λ l. typed_stmts place (map stmt_node done) st (stmt_trees l)) (item_left stmts i s within is)) ∙ known

pub stmt_refused : (place : Place) (st : Standing) (stmts : List Stmt) (i : ℕ) (s : Stmt) (done : List TypedStmt) (fault : TypeFault) (whole : Result (List StmtNode × Standing) TypeFault) → i < length stmts → s ≡ get_or stmts i s →
    Faults fault (typed_stmt place st (stmt_tree s)) → typed_stmts place (map stmt_node done) st (stmt_trees (drop i stmts)) ≡ whole → Faults fault whole
stmt_refused place st stmts i s done fault whole within is faults known =
    faults_along fault (typed_stmts place (map stmt_node done) st (stmt_trees (s ∷ drop (i + 1) stmts))) whole (sym (ap (λ l. typed_stmts place (map stmt_node done) st (stmt_trees l)) (item_left stmts i s within is)) ∙ known)
    (fault_onward fault (typed_stmt place st (stmt_tree s)) (λ (d : StmtNode × Standing). typed_stmts place (map stmt_node done ++ d.0 ∷ []) d.1 (stmt_trees (drop (i + 1) stmts))) faults)

pub stmts_done : (place : Place) (st : Standing) (stmts : List Stmt) (i : ℕ) (done : List TypedStmt) (whole : Result (List StmtNode × Standing) TypeFault) → length stmts ≤ i →
    typed_stmts place (map stmt_node done) st (stmt_trees (drop i stmts)) ≡ whole → whole ≡ Ok (map stmt_node done, st)
stmts_done place st stmts i done whole past known = sym known ∙ ap (λ l. typed_stmts place (map stmt_node done) st (stmt_trees l)) (nothing_left stmts i past)

-- ---- functions

zip_more : (fs : List FunctionTree) (bodies : List TypedBody) (f : FunctionTree) (body : TypedBody) → length bodies ≡ length fs → with_bodies (fs ++ f ∷ []) (bodies ++ body ∷ []) ≡ with_bodies fs bodies ++ with_body f body ∷ []
zip_more [] [] f body same = refl
zip_more [] (b ∷ bs) f body same = absurd (omega arith)
zip_more (g ∷ gs) [] f body same = absurd (omega arith)
zip_more (g ∷ gs) (b ∷ bs) f body same = ap (λ l. with_body g b ∷ l) (zip_more gs bs f body (omega arith))

pub body_taken : (fs : List FunctionTree) (functions : List Function) (i : ℕ) (f : Function) (body : TypedBody) (bodies more : List TypedBody) (whole : Result (List FunctionNode) TypeFault) → i < length functions → f ≡ get_or functions i f →
    length bodies ≡ length (take i (trees_of functions)) → more ≡ bodies ++ body ∷ [] → typed_function fs (function_tree f) ≡ Ok (with_body (function_tree f) body) →
    typed_functions fs (with_bodies (take i (trees_of functions)) bodies) (drop i (trees_of functions)) ≡ whole →
    typed_functions fs (with_bodies (take (i + 1) (trees_of functions)) more) (drop (i + 1) (trees_of functions)) ≡ whole
body_taken fs functions i f body bodies more whole within is counted pushed typed known =
    let before = with_bodies (take i (trees_of functions)) bodies in
    ap (λ l. typed_functions fs (with_bodies (take (i + 1) (trees_of functions)) l) (drop (i + 1) (trees_of functions))) pushed ∙
    ap (λ l. typed_functions fs (with_bodies l (bodies ++ body ∷ [])) (drop (i + 1) (trees_of functions))) (next_taken function_tree functions i f within is) ∙
    ap (λ l. typed_functions fs l (drop (i + 1) (trees_of functions))) (zip_more (take i (trees_of functions)) bodies (function_tree f) body counted) ∙
    sym (ap (λ r. r >>= λ (node : FunctionNode). typed_functions fs (before ++ node ∷ []) (drop (i + 1) (trees_of functions))) typed) ∙
    sym (ap (typed_functions fs before) (next_left function_tree functions i f within is)) ∙ known

pub body_refused : (fs : List FunctionTree) (functions : List Function) (i : ℕ) (f : Function) (fault : TypeFault) (before : List FunctionNode) (whole : Result (List FunctionNode) TypeFault) → i < length functions → f ≡ get_or functions i f →
    Faults fault (typed_function fs (function_tree f)) → typed_functions fs before (drop i (trees_of functions)) ≡ whole → Faults fault whole
body_refused fs functions i f fault before whole within is faults known =
    faults_along fault (typed_functions fs before (function_tree f ∷ drop (i + 1) (trees_of functions))) whole (sym (ap (typed_functions fs before) (next_left function_tree functions i f within is)) ∙ known)
    (fault_onward fault (typed_function fs (function_tree f)) (λ (node : FunctionNode). typed_functions fs (before ++ node ∷ []) (drop (i + 1) (trees_of functions))) faults)

pub bodies_done : (fs : List FunctionTree) (functions : List Function) (i : ℕ) (before : List FunctionNode) (whole : Result (List FunctionNode) TypeFault) → length functions ≤ i →
    typed_functions fs before (drop i (trees_of functions)) ≡ whole → whole ≡ Ok before
bodies_done fs functions i before whole past known = sym known ∙ ap (typed_functions fs before) (none_left function_tree functions i past)

-- a function whose parameters and block are typed
pub body_made : (fs : List FunctionTree) (f : Function) (start st after : Standing) (params : List Param) (stmts : List Stmt) (items : List TypedStmt) →
    start ≡ at_start → params ≡ f.params → with_params 0 start params ≡ Ok st → stmts ≡ f.body.items →
    typed_stmts (record { functions = fs; gives = f.gives; in_loop = false; outermost = f.kernel }) [] st (stmt_trees stmts) ≡ Ok (map stmt_node items, after) →
    typed_function fs (function_tree f) ≡ Ok (record (made_of (function_tree f) (map stmt_node items, after)) { body = typed_items items })
body_made fs f start st after params stmts items new read declared seen typed =
    let place : Place = record { functions = fs; gives = f.gives; in_loop = false; outermost = f.kernel } in
    let first : with_params 0 at_start f.params ≡ Ok st = ap (λ s. with_params 0 s f.params) (sym new) ∙ ap (with_params 0 start) (sym read) ∙ declared in
    let second : typed_stmts place [] st (stmt_trees f.body.items) ≡ Ok (map stmt_node items, after) = ap (λ l. typed_stmts place [] st (stmt_trees l)) (sym seen) ∙ typed in
    ap (λ (r : Result Standing TypeFault). r >>= λ (s : Standing). typed_stmts place [] s (stmt_trees f.body.items) >>= λ (d : List StmtNode × Standing). Ok (made_of (function_tree f) d)) first ∙
    ap (λ (r : Result (List StmtNode × Standing) TypeFault). r >>= λ (d : List StmtNode × Standing). Ok (made_of (function_tree f) d)) second ∙
    ap (λ (b : StmtNodes). Ok (record (made_of (function_tree f) (map stmt_node items, after)) { body = b })) (sym (nodes_seen items))
