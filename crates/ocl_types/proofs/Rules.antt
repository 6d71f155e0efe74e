-- What the parts of a statement answer gives what the statement answers.
use Rattle.std.proofs.Common.{◌≡◌, ◌⊎◌, inl, inr, refl, ap, sym, subst, ◌∙◌, ℕ, List, [], ◌∷◌, ◌++◌, map, Option, Vec, Box, Global, MatchResult, Result, Ok, Err}
use Rattle.std.specs.Option.{option_map}
use Rattle.ocl_ast.proofs.Rows.{block_tree, for_tree}
use Rattle.ocl_ast.specs.Shapes.{target_tree, tree_of, stmt_tree, stmt_trees}
use Rattle.ocl_ast.specs.Trees.{BlockTree, DoTree, ExprTree, ForTree, FunctionTree, StmtTree, StmtTrees}
use Rattle.ocl_ast.specs.declared.exprs.Expr.{Expr}
use Rattle.ocl_ast.specs.declared.exprs.Ident.{Ident}
use Rattle.ocl_ast.specs.declared.stmts.Target.{Target}
use Rattle.ocl_ast.specs.declared.stmts.Target.TheVariants.{Name as NameOf}
use Rattle.ocl_ast.specs.declared.stmts.Stmt.{Stmt, Block, Do, For}
use Rattle.ocl_program.specs.Nodes.{StmtNode, AndStmt, DoNode, ForNode, stmt_nodes}
use Rattle.ocl_program.specs.Shapes.{stmt_node, typed_stmts as typed_items}
use Rattle.ocl_program.specs.declared.stmts.TypedStmt.{TypedStmt}
use Rattle.ocl_types.specs.declared.changes.ChangedPart.{ChangedPart}
use Rattle.ocl_types.specs.declared.faults.TypeFault.{TypeFault}
use Rattle.ocl_types.specs.declared.names.Meaning.{Meaning}
use Rattle.ocl_types.specs.Names.{Scope, meaning_of}
use Rattle.ocl_types.specs.Exprs.{◌>>=◌, MaybeTyped, Typed}
use Rattle.ocl_types.specs.Stmts.{Place, Standing, assigned_name, closed, expr_in, in_turn, inner, opened, option_in, typed_stmt, typed_stmts, typed_target, with_calls}
use Rattle.ocl_types.specs.Answers.{Faults, StepsTo, StmtTo, TargetTo, changed_part}
use Rattle.ocl_types.proofs.Steps.{fault_behind, fault_onward}

-- behind a part that is typed the answer is that of what follows
pub stmt_behind : {A : Type 0} (r : Result TypedStmt TypeFault) (after : Standing) (m : Result A TypeFault) (f : A → Result (StmtNode × Standing) TypeFault) (x : A) →
    m ≡ Ok x → StmtTo r after (f x) → StmtTo r after (m >>= f)
stmt_behind (Ok stmt) after m f x typed is = ap (λ r. r >>= f) typed ∙ is
stmt_behind (Err fault) after m f x typed is = fault_behind fault m f x typed is

pub steps_behind : {A B : Type 0} (r : Result B TypeFault) (after : Standing) (m : Result A TypeFault) (f : A → Result Standing TypeFault) (x : A) →
    m ≡ Ok x → StepsTo r after (f x) → StepsTo r after (m >>= f)
steps_behind (Ok done) after m f x typed is = ap (λ r. r >>= f) typed ∙ is
steps_behind (Err fault) after m f x typed is = fault_behind fault m f x typed is

-- the items of a block and of a `for` are those of the lists
pub block_seen : (items : Vec Stmt Global) → stmt_tree (Block items) ≡ BlockTree (stmt_trees items.items)
block_seen items = block_tree items

pub for_seen : (first : Vec Stmt Global) (test : Option Expr) (step : Vec Stmt Global) (body : Box Stmt Global) →
    stmt_tree (For first test step body) ≡ ForTree (stmt_trees first.items) (option_map tree_of test) (stmt_trees step.items) (stmt_tree body.value)
for_seen first test step body = for_tree first test step body

-- typed statements in order
pub nodes_seen : (stmts : List TypedStmt) → typed_items stmts ≡ stmt_nodes (map stmt_node stmts)
nodes_seen [] = refl
nodes_seen (s ∷ ss) = ap (λ more. AndStmt (stmt_node s) more) (nodes_seen ss)

-- a name that is assigned
pub target_named : (r : Result ChangedPart TypeFault) (fs : List FunctionTree) (ss : List Scope) (calls : List ℕ) (target : Target) (name : Ident) (text : List ℕ) (meaning : Meaning) →
    target ≡ NameOf name → text ≡ name.text → meaning ≡ meaning_of fs ss text →
    MatchResult r (λ part. assigned_name name.pos calls meaning ≡ Ok (changed_part part calls)) (λ fault. assigned_name name.pos calls meaning ≡ Err fault) → TargetTo r calls (typed_target fs ss calls (target_tree target))
target_named (Ok part) fs ss calls target name text meaning is read means made =
    ap (λ t. typed_target fs ss calls (target_tree t)) is ∙ sym (ap (assigned_name name.pos calls) (means ∙ ap (meaning_of fs ss) read)) ∙ made
target_named (Err fault) fs ss calls target name text meaning is read means made =
    inr (ap (λ t. typed_target fs ss calls (target_tree t)) is ∙ sym (ap (assigned_name name.pos calls) (means ∙ ap (meaning_of fs ss) read)) ∙ made)

-- ---- `do` and `for`

pub do_is : (stmt : Stmt) (body : Box Stmt Global) (test : Expr) (inside : Stmt) → stmt ≡ Do body test → inside ≡ body.value → stmt_tree stmt ≡ DoTree (stmt_tree inside) (tree_of test)
do_is stmt body test inside is seen = ap stmt_tree is ∙ sym (ap (λ s. DoTree (stmt_tree s) (tree_of test)) seen)

-- a fault of the test of a `do`
pub do_test_fault : (place : Place) (st after : Standing) (b : StmtNode) (tree body : StmtTree) (test : ExprTree) (fault : TypeFault) → tree ≡ DoTree body test →
    typed_stmt (in_turn place) st body ≡ Ok (b, after) → Faults fault (expr_in place after test) → Faults fault (typed_stmt place st tree)
do_test_fault place st after b tree body test fault is typed faults =
    let whole : Faults fault (typed_stmt place st (DoTree body test)) =
    fault_behind fault (typed_stmt (in_turn place) st body) (λ (b : StmtNode × Standing). expr_in place b.1 test >>= λ (t : Typed). Ok (DoNode b.0 t.expr, with_calls t.calls b.1)) (b, after) typed
    (fault_onward fault (expr_in place after test) (λ (t : Typed). Ok (DoNode b t.expr, with_calls t.calls after)) faults) in
    subst (λ (t : StmtTree). Faults fault (typed_stmt place st t)) (sym is) whole

pub for_is : (stmt : Stmt) (first : Vec Stmt Global) (test : Option Expr) (step : Vec Stmt Global) (body : Box Stmt Global) (firsts steps : List Stmt) (inside : Stmt) → stmt ≡ For first test step body →
    firsts ≡ first.items → steps ≡ step.items → inside ≡ body.value → stmt_tree stmt ≡ ForTree (stmt_trees firsts) (option_map tree_of test) (stmt_trees steps) (stmt_tree inside)
for_is stmt first test step body firsts steps inside is one two three =
    ap stmt_tree is ∙ for_seen first test step body ∙
    sym (ap (λ l. ForTree (stmt_trees l) (option_map tree_of test) (stmt_trees step.items) (stmt_tree body.value)) one) ∙
    sym (ap (λ l. ForTree (stmt_trees firsts) (option_map tree_of test) (stmt_trees l) (stmt_tree body.value)) two) ∙
    sym (ap (λ s. ForTree (stmt_trees firsts) (option_map tree_of test) (stmt_trees steps) (stmt_tree s)) three)

abbrev Listed : Type 0
Listed = List StmtNode × Standing

-- what follows in a `for` behind its first part, behind its test, and behind its step
abbrev with_turn : Place → StmtTree → Listed → MaybeTyped → Listed → Result (StmtNode × Standing) TypeFault
with_turn place body f t s = typed_stmt (in_turn place) s.1 body >>= λ (b : StmtNode × Standing). Ok (ForNode (stmt_nodes f.0) t.expr (stmt_nodes s.0) b.0, closed b.1)

abbrev with_step : Place → StmtTrees → StmtTree → Listed → MaybeTyped → Result (StmtNode × Standing) TypeFault
with_step place step body f t = typed_stmts (inner place) [] (with_calls t.calls f.1) step >>= λ (s : Listed). with_turn place body f t s

abbrev with_test : Place → Option ExprTree → StmtTrees → StmtTree → Listed → Result (StmtNode × Standing) TypeFault
with_test place test step body f = option_in place f.1 test >>= λ (t : MaybeTyped). with_step place step body f t

pub for_step_fault : (place : Place) (st : Standing) (tree : StmtTree) (first : StmtTrees) (test : Option ExprTree) (step : StmtTrees) (body : StmtTree) (f : Listed) (t : MaybeTyped) (fault : TypeFault) → tree ≡ ForTree first test step body →
    typed_stmts (inner place) [] (opened st) first ≡ Ok f → option_in place f.1 test ≡ Ok t → Faults fault (typed_stmts (inner place) [] (with_calls t.calls f.1) step) → Faults fault (typed_stmt place st tree)
for_step_fault place st tree first test step body f t fault is one two faults =
    subst (λ (x : StmtTree). Faults fault (typed_stmt place st x)) (sym is)
    (fault_behind fault (typed_stmts (inner place) [] (opened st) first) (λ (f : Listed). with_test place test step body f) f one
    (fault_behind fault (option_in place f.1 test) (λ (t : MaybeTyped). with_step place step body f t) t two
    (fault_onward fault (typed_stmts (inner place) [] (with_calls t.calls f.1) step) (λ (s : Listed). with_turn place body f t s) faults)))

pub for_body_fault : (place : Place) (st : Standing) (tree : StmtTree) (first : StmtTrees) (test : Option ExprTree) (step : StmtTrees) (body : StmtTree) (f s : Listed) (t : MaybeTyped) (fault : TypeFault) → tree ≡ ForTree first test step body →
    typed_stmts (inner place) [] (opened st) first ≡ Ok f → option_in place f.1 test ≡ Ok t → typed_stmts (inner place) [] (with_calls t.calls f.1) step ≡ Ok s → Faults fault (typed_stmt (in_turn place) s.1 body) → Faults fault (typed_stmt place st tree)
for_body_fault place st tree first test step body f s t fault is one two three faults =
    subst (λ (x : StmtTree). Faults fault (typed_stmt place st x)) (sym is)
    (fault_behind fault (typed_stmts (inner place) [] (opened st) first) (λ (f : Listed). with_test place test step body f) f one
    (fault_behind fault (option_in place f.1 test) (λ (t : MaybeTyped). with_step place step body f t) t two
    (fault_behind fault (typed_stmts (inner place) [] (with_calls t.calls f.1) step) (λ (s : Listed). with_turn place body f t s) s three
    (fault_onward fault (typed_stmt (in_turn place) s.1 body) (λ (b : StmtNode × Standing). Ok (ForNode (stmt_nodes f.0) t.expr (stmt_nodes s.0) b.0, closed b.1)) faults))))

pub for_typed : (place : Place) (st : Standing) (tree : StmtTree) (first : StmtTrees) (test : Option ExprTree) (step : StmtTrees) (body : StmtTree) (f s : Listed) (t : MaybeTyped) (b : StmtNode × Standing) → tree ≡ ForTree first test step body →
    typed_stmts (inner place) [] (opened st) first ≡ Ok f → option_in place f.1 test ≡ Ok t → typed_stmts (inner place) [] (with_calls t.calls f.1) step ≡ Ok s → typed_stmt (in_turn place) s.1 body ≡ Ok b →
    typed_stmt place st tree ≡ Ok (ForNode (stmt_nodes f.0) t.expr (stmt_nodes s.0) b.0, closed b.1)
for_typed place st tree first test step body f s t b is one two three four =
    ap (typed_stmt place st) is ∙
    ap (λ (r : Result Listed TypeFault). r >>= λ (f : Listed). with_test place test step body f) one ∙
    ap (λ (r : Result MaybeTyped TypeFault). r >>= λ (t : MaybeTyped). with_step place step body f t) two ∙
    ap (λ (r : Result Listed TypeFault). r >>= λ (s : Listed). with_turn place body f t s) three ∙
    ap (λ (r : Result (StmtNode × Standing) TypeFault). r >>= λ (b : StmtNode × Standing). Ok (ForNode (stmt_nodes f.0) t.expr (stmt_nodes s.0) b.0, closed b.1)) four

-- the same fault behind a state that is the same
pub along : {A : Type 0} (fault : TypeFault) (judged : Standing → Result A TypeFault) (one other : Standing) → one ≡ other → Faults fault (judged one) → Faults fault (judged other)
along fault judged one other same faults = subst (λ (s : Standing). Faults fault (judged s)) same faults
