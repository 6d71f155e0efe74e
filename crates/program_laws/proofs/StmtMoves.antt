-- What the typing of a statement does to what the function has so far.
use Rattle.std.proofs.Common.{◌≡◌, refl, sym, ap, ◌∙◌, subst, ℕ, ◌+◌, ◌<◌, ◌≤◌, nat_le, Bool, true, false, ◌&&◌, is_some, List, [], ◌∷◌, ◌++◌, length, Option, Ok, append_assoc, arith, leb-true}
use Rattle.std.proofs.lemmas.List.{append-nil, length-append}
use Rattle.vx_base.specs.declared.types.Pos.{Pos}
use Rattle.vx_base.specs.declared.types.Space.TheVariants.{Local}
use Rattle.ocl_ast.specs.Trees.{ExprTree, NumberTree, NameTree, UnaryTree, BinaryTree, BothTree, EitherTree, ChooseTree, CastTree, IndexTree, CallTree, ParenTree, TargetTree, NameTarget, IndexTarget, StmtTree, DeclareTree, LocalArrayTree, AssignTree, CallStmtTree, BarrierTree, IfTree, IfElseTree, WhileTree, DoTree, ForTree, BreakTree, ContinueTree, ReturnTree, BlockTree, EmptyTree, StmtTrees, NoStmts as NoStmtTrees, AndStmt as AndStmtTree, FunctionTree}
use Rattle.ocl_ast.specs.declared.exprs.Ident.{Ident}
use Rattle.ocl_ast.specs.declared.stmts.AssignOp.{AssignOp}
use Rattle.ocl_program.specs.declared.exprs.ArrayRef.TheVariants.{Declared}
use Rattle.ocl_program.specs.declared.functions.LocalArray.{LocalArray}
use Rattle.ocl_program.specs.Measures.{cut}
use Rattle.ocl_program.specs.Nodes.{ExprNode, StmtNode, DeclareNode, LocalArrayNode, DoNode, BreakNode, ContinueNode, StmtNodes, NoStmts, AndStmt, stmt_nodes}
use Rattle.ocl_types.specs.declared.names.Binding.{Binding}
use Rattle.ocl_types.specs.declared.names.Binding.TheVariants.{Scalar as ScalarBinding, Array as ArrayBinding}
use Rattle.ocl_types.specs.declared.names.Meaning.{Meaning}
use Rattle.ocl_types.specs.declared.names.Meaning.TheVariants.{Bound, Function, Builtin as BuiltinMeaning, Unknown as UnknownMeaning}
use Rattle.ocl_types.specs.Names.{Scope, entry_named, meaning_of}
use Rattle.ocl_types.specs.Exprs.{Typed, MaybeTyped, typed, typed_call, typed_option}
use Rattle.ocl_types.specs.Stmts.{Place, Standing, innermost, outer_scopes, with_entry, declared, one_more, declared_variable, opened, closed, with_calls, is_count, count_value, most_elements, typed_count, Changed, Variable, Element, TypedTarget, assigned_name, assigned_array, typed_target, change_node, jump_in, returned, inner, in_turn, expr_in, option_in, typed_stmt, typed_stmts}
use Rattle.program_laws.specs.Formed.{expr_calls, expr_variables, stmt_calls, stmts_calls, stmt_sites, stmts_sites, stmt_variables, stmts_variables, stmt_arrays, stmts_arrays, stmt_declared, stmts_declared}
use Rattle.program_laws.proofs.Passing.{passing, ok_is, answered, tested, not_tested, test_held}
use Rattle.program_laws.proofs.Pieces.{Pieces, none, joined, one_variable, one_site, one_array, named, in_expr, in_option, in_stmt, in_stmts, IsBelow, ScopeBelow, ScopesBelow, scopes_more, orders_none, orders_one, AreSmall, Moves, moves_none, moves_both, moves_as}
use Rattle.program_laws.proofs.ExprMoves.{MeaningBelow, meaning_below, variable_named, expr_moves, call_moves, option_moves}

-- ---- scopes

scope_behind : (bound : ℕ) (scope : Scope) (name : List ℕ) (binding : Binding) → ScopeBelow bound scope → IsBelow bound binding → ScopeBelow bound (scope ++ (name, binding) ∷ [])
scope_behind bound [] name binding h is = (is, tt)
scope_behind bound (entry ∷ more) name binding h is = (h.0, scope_behind bound more name binding h.1 is)

pub entry_behind : (bound : ℕ) (scopes : List Scope) (name : List ℕ) (binding : Binding) → ScopesBelow bound scopes → IsBelow bound binding → ScopesBelow bound (with_entry name binding scopes)
entry_behind bound [] name binding h is = ((is, tt), tt)
entry_behind bound (scope ∷ outer) name binding h is = (scope_behind bound scope name binding h.0 is, h.1)

outer_below : (bound : ℕ) (scopes : List Scope) → ScopesBelow bound scopes → ScopesBelow bound (outer_scopes scopes)
outer_below bound [] h = tt
outer_below bound (scope ∷ outer) h = h.1

pub moves_opened : {n : ℕ} {st behind : Standing} {p : Pieces} → Moves n (opened st) p behind → Moves n st p behind
moves_opened h = record {
  small = h.small;
  callees = h.callees;
  calls = h.calls;
  sites = h.sites;
  arrays = h.arrays;
  variables = λ within. let counts = h.variables within in record { more = counts.more; scopes = λ below. counts.scopes (tt, below); below = λ below. counts.below (tt, below) };
  declared = h.declared;
}

pub moves_closed : {n : ℕ} {st behind : Standing} {p : Pieces} → Moves n st p behind → Moves n st p (closed behind)
moves_closed {behind = behind} h = record {
  small = h.small;
  callees = h.callees;
  calls = h.calls;
  sites = h.sites;
  arrays = h.arrays;
  variables = λ within. let counts = h.variables within in
      record { more = counts.more; scopes = λ below. outer_below behind.variables behind.scopes (counts.scopes below); below = counts.below };
  declared = h.declared;
}

-- ---- names that are declared

abbrev pub with_name : Ident → (ℕ → Binding) → Standing → Standing
with_name name binding st = record st { scopes = with_entry name.text (binding st.variables) st.scopes; variables = one_more st.variables }

pub declared_is : (name : Ident) (binding : ℕ → Binding) (st now : Standing) → declared_variable name binding st ≡ Ok now → with_name name binding st ≡ now
declared_is name binding st now h =
    let e = passing (declared name (binding st.variables) st) h in
    ap (λ (x : Standing). record x { variables = one_more x.variables }) (ok_is (not_tested (is_some (entry_named name.text (innermost st.scopes))) _ _ e.first)) ∙ ok_is e.rest

pub name_declared : (n : ℕ) (name : Ident) (binding : ℕ → Binding) (st : Standing) (number : ℕ) → ((v bound : ℕ) → v < bound → IsBelow bound (binding v))
    → Moves n st (named (number ∷ [])) (with_name name binding st)
name_declared n name binding st number is_below = record {
  small = λ h. h;
  callees = λ h. h;
  calls = orders_none (cut (length st.calls));
  sites = orders_none st.sites;
  arrays = orders_none (cut (length st.arrays));
  variables = λ within. record {
    more = omega arith;
    scopes = λ below. entry_behind (one_more st.variables) st.scopes name.text (binding st.variables) (scopes_more st.scopes (omega arith) below) (is_below st.variables (one_more st.variables) (omega arith));
    below = λ below. tt;
  };
  declared = omega arith;
}

-- ---- arrays

pub small_both : (xs ys : List LocalArray) → AreSmall xs → AreSmall ys → AreSmall (xs ++ ys)
small_both [] ys h k = k
small_both (x ∷ xs) ys h k = (h.0, h.1, small_both xs ys h.2 k)

one_more_array : (arrays : List LocalArray) (a : LocalArray) (n : ℕ) → cut (length arrays) ≡ cut n → cut (length (arrays ++ a ∷ [])) ≡ cut (n + 1)
one_more_array arrays a n same = let longer : length (arrays ++ a ∷ []) ≡ length arrays + 1 = length-append arrays (a ∷ []) in omega arith

array_declared : (n : ℕ) (st : Standing) (a : LocalArray) → 1 ≤ a.count → a.count ≤ 262144 → Moves n st (one_array (cut (length st.arrays))) (record st { arrays = st.arrays ++ a ∷ [] })
array_declared n st a least greatest = record {
  small = λ h. small_both st.arrays (a ∷ []) h (least, greatest, tt);
  callees = λ h. h;
  calls = orders_none (cut (length st.calls));
  sites = orders_none st.sites;
  arrays = orders_one (cut (length st.arrays)) (cut (length (st.arrays ++ a ∷ []))) (one_more_array st.arrays a);
  variables = λ h. record { more = omega arith; scopes = λ below. below; below = λ below. tt };
  declared = omega arith;
}

-- ---- barriers

site_made : (n : ℕ) (st : Standing) → Moves n st (one_site st.sites) (record st { sites = one_more st.sites })
site_made n st = record {
  small = λ h. h;
  callees = λ h. h;
  calls = orders_none (cut (length st.calls));
  sites = orders_one st.sites (one_more st.sites) (λ k is. omega arith);
  arrays = orders_none (cut (length st.arrays));
  variables = λ h. record { more = omega arith; scopes = λ below. below; below = λ below. tt };
  declared = omega arith;
}

-- ---- counts

pub left_true : (a b : Bool) → a && b ≡ true → a ≡ true
left_true true b h = refl
left_true false b h = cc

pub right_true : (a b : Bool) → a && b ≡ true → b ≡ true
right_true true b h = h
right_true false b h = cc

both_plain : (left right : ExprNode) → in_expr left ≡ none → in_expr right ≡ none → joined (in_expr left) (in_expr right) ≡ none
both_plain left right h k = λ i. joined (h i) (k i)

-- no name stands in a count
count_plain : (fs : List FunctionTree) (ss : List Scope) (calls : List ℕ) (e : ExprTree) (t : Typed) → is_count e ≡ true → typed fs ss calls e ≡ Ok t → in_expr t.expr ≡ none
count_plain fs ss calls (NumberTree value unsigned pos) t is h = answered (λ (x : Typed). in_expr x.expr ≡ none) h refl
count_plain fs ss calls (NameTree name) t is h = cc
count_plain fs ss calls (UnaryTree op part pos) t is h =
    let p = passing (typed fs ss calls part) h in answered (λ (x : Typed). in_expr x.expr ≡ none) p.rest (count_plain fs ss calls part p.value is p.first)
count_plain fs ss calls (BinaryTree op left right pos) t is h =
    let l = passing (typed fs ss calls left) h in let r = passing (typed fs ss l.value.calls right) l.rest in
    answered (λ (x : Typed). in_expr x.expr ≡ none) r.rest
    (both_plain l.value.expr r.value.expr (count_plain fs ss calls left l.value (left_true (is_count left) (is_count right) is) l.first) (count_plain fs ss l.value.calls right r.value (right_true (is_count left) (is_count right) is) r.first))
count_plain fs ss calls (BothTree left right pos) t is h =
    let l = passing (typed fs ss calls left) h in let r = passing (typed fs ss l.value.calls right) l.rest in
    answered (λ (x : Typed). in_expr x.expr ≡ none) r.rest
    (both_plain l.value.expr r.value.expr (count_plain fs ss calls left l.value (left_true (is_count left) (is_count right) is) l.first) (count_plain fs ss l.value.calls right r.value (right_true (is_count left) (is_count right) is) r.first))
count_plain fs ss calls (EitherTree left right pos) t is h =
    let l = passing (typed fs ss calls left) h in let r = passing (typed fs ss l.value.calls right) l.rest in
    answered (λ (x : Typed). in_expr x.expr ≡ none) r.rest
    (both_plain l.value.expr r.value.expr (count_plain fs ss calls left l.value (left_true (is_count left) (is_count right) is) l.first) (count_plain fs ss l.value.calls right r.value (right_true (is_count left) (is_count right) is) r.first))
count_plain fs ss calls (ChooseTree test one other pos) t is h = cc
count_plain fs ss calls (CastTree elem part pos) t is h = cc
count_plain fs ss calls (IndexTree array place pos) t is h = cc
count_plain fs ss calls (CallTree name args) t is h = cc
count_plain fs ss calls (ParenTree part pos) t is h =
    let p = passing (typed fs ss calls part) h in answered (λ (x : Typed). in_expr x.expr ≡ none) p.rest (count_plain fs ss calls part p.value is p.first)

-- a count that is accepted
pub record IsSized (c : ExprNode) : Type 0 where
  pub plain : in_expr c ≡ none
  pub least : 1 ≤ count_value c
  pub greatest : count_value c ≤ 262144

pub count_sized : (place : Place) (pos : Pos) (count : ExprTree) (c : ExprNode) → typed_count place pos count ≡ Ok c → IsSized c
count_sized place pos count c h =
    let t = passing (typed place.functions [] [] count) (tested (is_count count) _ _ h) in
    let fits : place.outermost && (nat_le 1 (count_value t.value.expr) && nat_le (count_value t.value.expr) most_elements) ≡ true =
    test_held (place.outermost && (nat_le 1 (count_value t.value.expr) && nat_le (count_value t.value.expr) most_elements)) _ _ t.rest in
    let range = right_true place.outermost (nat_le 1 (count_value t.value.expr) && nat_le (count_value t.value.expr) most_elements) fits in
    answered IsSized (tested (place.outermost && (nat_le 1 (count_value t.value.expr) && nat_le (count_value t.value.expr) most_elements)) _ _ t.rest) (record {
      plain = count_plain place.functions [] [] count t.value (test_held (is_count count) _ _ h) t.first;
      least = leb-true 1 (count_value t.value.expr) (left_true (nat_le 1 (count_value t.value.expr)) (nat_le (count_value t.value.expr) most_elements) range);
      greatest = leb-true (count_value t.value.expr) 262144 (right_true (nat_le 1 (count_value t.value.expr)) (nat_le (count_value t.value.expr) most_elements) range);
    })

-- ---- parts of statements

abbrev in_changed : Changed → Pieces
in_changed (Variable v) = one_variable v
in_changed (Element array place pos) = in_expr place

abbrev TargetMoves : ℕ → Standing → TypedTarget → Type 0
TargetMoves n st t = Moves n st (in_changed t.what) (with_calls t.calls st)

name_moves : (n : ℕ) (st : Standing) (pos : Pos) (meaning : Meaning) (t : TypedTarget) → (ScopesBelow st.variables st.scopes → MeaningBelow st.variables meaning)
    → assigned_name pos st.calls meaning ≡ Ok t → TargetMoves n st t
name_moves n st pos (Bound (ScalarBinding variable elem constant)) t below h =
    answered (TargetMoves n st) (not_tested constant _ _ h) (variable_named n st variable (λ within. below))
name_moves n st pos (Bound (ArrayBinding array space elem readonly)) t below h = cc
name_moves n st pos (Function k) t below h = cc
name_moves n st pos (BuiltinMeaning b) t below h = cc
name_moves n st pos UnknownMeaning t below h = cc

target_moves : (fs : List FunctionTree) (st : Standing) (target : TargetTree) (t : TypedTarget) → typed_target fs st.scopes st.calls target ≡ Ok t → TargetMoves (length fs) st t
target_moves fs st (NameTarget name) t h =
    name_moves (length fs) st name.pos (meaning_of fs st.scopes name.text) t (λ below. meaning_below st.variables fs st.scopes name.text below) h
target_moves fs st (IndexTarget array place pos) t h =
    let a = passing (assigned_array array.pos (meaning_of fs st.scopes array.text)) h in let p = passing (typed fs st.scopes st.calls place) a.rest in
    answered (TargetMoves (length fs) st) p.rest (expr_moves fs st place p.value p.first)

change_pieces : (t : TypedTarget) (op : AssignOp) (v : MaybeTyped) (what : Changed) → joined (in_changed what) (in_option v.expr) ≡ in_stmt (change_node t op v what)
change_pieces t op v (Variable variable) = refl
change_pieces t op v (Element array place pos) = refl

pub numbers_behind : (of_one : StmtNode → List ℕ) (of_all : StmtNodes → List ℕ) → of_all NoStmts ≡ [] → ((s : StmtNode) (ss : StmtNodes) → of_all (AndStmt s ss) ≡ of_one s ++ of_all ss)
    → (before : List StmtNode) (s : StmtNode) → of_all (stmt_nodes before) ++ of_one s ≡ of_all (stmt_nodes (before ++ s ∷ []))
numbers_behind of_one of_all nothing more [] s =
    ap (λ (xs : List ℕ). xs ++ of_one s) nothing ∙ sym (append-nil (of_one s)) ∙ ap (λ (xs : List ℕ). of_one s ++ xs) (sym nothing) ∙ sym (more s NoStmts)
numbers_behind of_one of_all nothing more (b ∷ before) s =
    ap (λ (xs : List ℕ). xs ++ of_one s) (more b (stmt_nodes before)) ∙ append_assoc (of_one b) (of_all (stmt_nodes before)) (of_one s)
    ∙ ap (λ (xs : List ℕ). of_one b ++ xs) (numbers_behind of_one of_all nothing more before s) ∙ sym (more b (stmt_nodes (before ++ s ∷ [])))

stmts_behind : (before : List StmtNode) (s : StmtNode) → joined (in_stmts (stmt_nodes before)) (in_stmt s) ≡ in_stmts (stmt_nodes (before ++ s ∷ []))
stmts_behind before s =
    let calls = numbers_behind stmt_calls stmts_calls refl (λ s ss. refl) before s in
    let sites = numbers_behind stmt_sites stmts_sites refl (λ s ss. refl) before s in
    let variables = numbers_behind stmt_variables stmts_variables refl (λ s ss. refl) before s in
    let arrays = numbers_behind stmt_arrays stmts_arrays refl (λ s ss. refl) before s in
    let declared = numbers_behind stmt_declared stmts_declared refl (λ s ss. refl) before s in
    λ i. record { calls = calls i; sites = sites i; variables = variables i; arrays = arrays i; declared = declared i }

abbrev pub StmtMoves : ℕ → Standing → StmtNode × Standing → Type 0
StmtMoves n st d = Moves n st (in_stmt d.0) d.1

abbrev pub StmtsMove : ℕ → Standing → List StmtNode × Standing → Type 0
StmtsMove n st d = Moves n st (in_stmts (stmt_nodes d.0)) d.1

jump_moves : (n : ℕ) (st : Standing) (in_loop : Bool) (pos : Pos) (jump : StmtNode) (d : StmtNode × Standing) → none ≡ in_stmt jump → jump_in in_loop pos jump st ≡ Ok d → StmtMoves n st d
jump_moves n st in_loop pos jump d plain h = answered (StmtMoves n st) (tested in_loop _ _ h) (moves_as plain (moves_none n st))

is_scalar : (v bound : ℕ) → v < bound → v < bound
is_scalar v bound h = h

declare_moves : (place : Place) (st : Standing) (elem : _) (constant : Bool) (name : Ident) (value : Option ExprTree) (d : StmtNode × Standing)
    → typed_stmt place st (DeclareTree elem constant name value) ≡ Ok d → StmtMoves (length place.functions) st d
declare_moves place st elem constant name value d h =
    let made = with_name name (λ variable. ScalarBinding variable elem constant) st in
    let now = passing (declared_variable name (λ variable. ScalarBinding variable elem constant) st) h in
    let v = passing (option_in place now.value value) now.rest in
    let same : made ≡ now.value = declared_is name (λ variable. ScalarBinding variable elem constant) st now.value now.first in
    answered (StmtMoves (length place.functions) st) v.rest
    (subst (λ (x : Standing). typed_option place.functions x.scopes x.calls value ≡ Ok v.value → Moves (length place.functions) st (in_stmt (DeclareNode st.variables elem v.value.expr)) (with_calls v.value.calls x)) same
    (λ typing. moves_both (name_declared (length place.functions) name (λ variable. ScalarBinding variable elem constant) st st.variables is_scalar)
    (moves_both (variable_named (length place.functions) made st.variables (λ within below. omega arith)) (option_moves place.functions made value v.value typing)))
    v.first)

array_moves : (place : Place) (st : Standing) (elem : _) (name : Ident) (count : ExprTree) (d : StmtNode × Standing)
    → typed_stmt place st (LocalArrayTree elem name count) ≡ Ok d → StmtMoves (length place.functions) st d
array_moves place st elem name count d h =
    let binding : ℕ → Binding = λ variable. ArrayBinding (Declared (cut (length st.arrays))) Local elem false in
    let now = passing (declared_variable name (λ variable. ArrayBinding (Declared (cut (length st.arrays))) Local elem false) st) h in
    let c = passing (typed_count place name.pos count) now.rest in
    let sized = count_sized place name.pos count c.value c.first in
    let added : LocalArray = record { elem = elem; count = count_value c.value } in
    let plain : joined (named (cut (length st.arrays) ∷ [])) (one_array (cut (length st.arrays))) ≡ in_stmt (LocalArrayNode (cut (length st.arrays)) c.value) =
    sym (λ i. record { calls = (sized.plain i).calls; sites = []; variables = (sized.plain i).variables; arrays = cut (length st.arrays) ∷ []; declared = cut (length st.arrays) ∷ [] }) in
    answered (StmtMoves (length place.functions) st) c.rest
    (subst (λ (x : Standing). Moves (length place.functions) st (in_stmt (LocalArrayNode (cut (length st.arrays)) c.value)) (record x { arrays = x.arrays ++ added ∷ [] })) (declared_is name binding st now.value now.first)
    (moves_as plain (moves_both (name_declared (length place.functions) name binding st (cut (length st.arrays)) (λ v bound h. tt)) (array_declared (length place.functions) (with_name name binding st) added sized.least sized.greatest))))

-- ---- statements

mutual
  pub stmt_moves : (place : Place) (st : Standing) (s : StmtTree) (d : StmtNode × Standing) → typed_stmt place st s ≡ Ok d → StmtMoves (length place.functions) st d
  stmt_moves place st (DeclareTree elem constant name value) d h = declare_moves place st elem constant name value d h
  stmt_moves place st (LocalArrayTree elem name count) d h = array_moves place st elem name count d h
  stmt_moves place st (AssignTree target op value pos) d h =
      let t = passing (typed_target place.functions st.scopes st.calls target) h in let v = passing (typed_option place.functions st.scopes t.value.calls value) t.rest in
      answered (StmtMoves (length place.functions) st) v.rest (moves_as (change_pieces t.value op v.value t.value.what)
      (moves_both (target_moves place.functions st target t.value t.first) (option_moves place.functions (with_calls t.value.calls st) value v.value v.first)))
  stmt_moves place st (CallStmtTree name args) d h =
      let c = passing (typed_call place.functions st.scopes st.calls name args) h in
      answered (StmtMoves (length place.functions) st) c.rest (call_moves place.functions st name args c.value c.first)
  stmt_moves place st (BarrierTree pos) d h = answered (StmtMoves (length place.functions) st) h (site_made (length place.functions) st)
  stmt_moves place st (IfTree test one) d h =
      let t = passing (expr_in place st test) h in let a = passing (typed_stmt (inner place) (with_calls t.value.calls st) one) t.rest in
      answered (StmtMoves (length place.functions) st) a.rest
      (moves_both (expr_moves place.functions st test t.value t.first) (stmt_moves (inner place) (with_calls t.value.calls st) one a.value a.first))
  stmt_moves place st (IfElseTree test one other) d h =
      let t = passing (expr_in place st test) h in let a = passing (typed_stmt (inner place) (with_calls t.value.calls st) one) t.rest in
      let b = passing (typed_stmt (inner place) a.value.1 other) a.rest in
      answered (StmtMoves (length place.functions) st) b.rest
      (moves_both (expr_moves place.functions st test t.value t.first)
      (moves_both (stmt_moves (inner place) (with_calls t.value.calls st) one a.value a.first) (stmt_moves (inner place) a.value.1 other b.value b.first)))
  stmt_moves place st (WhileTree test body) d h =
      let t = passing (expr_in place st test) h in let b = passing (typed_stmt (in_turn place) (with_calls t.value.calls st) body) t.rest in
      answered (StmtMoves (length place.functions) st) b.rest
      (moves_both (expr_moves place.functions st test t.value t.first) (stmt_moves (in_turn place) (with_calls t.value.calls st) body b.value b.first))
  stmt_moves place st (DoTree body test) d h =
      let b = passing (typed_stmt (in_turn place) st body) h in let t = passing (expr_in place b.value.1 test) b.rest in
      let plain : joined (in_stmt b.value.0) (in_expr t.value.expr) ≡ in_stmt (DoNode b.value.0 t.value.expr) =
      λ i. record { calls = stmt_calls b.value.0 ++ expr_calls t.value.expr; sites = append-nil (stmt_sites b.value.0) i; variables = stmt_variables b.value.0 ++ expr_variables t.value.expr; arrays = append-nil (stmt_arrays b.value.0) i; declared = append-nil (stmt_declared b.value.0) i } in
      answered (StmtMoves (length place.functions) st) t.rest
      (moves_as plain (moves_both (stmt_moves (in_turn place) st body b.value b.first) (expr_moves place.functions b.value.1 test t.value t.first)))
  stmt_moves place st (ForTree first test step body) d h =
      let f = passing (typed_stmts (inner place) [] (opened st) first) h in let t = passing (option_in place f.value.1 test) f.rest in
      let s = passing (typed_stmts (inner place) [] (with_calls t.value.calls f.value.1) step) t.rest in let b = passing (typed_stmt (in_turn place) s.value.1 body) s.rest in
      answered (StmtMoves (length place.functions) st) b.rest
      (moves_closed (moves_opened (moves_both (stmts_move (inner place) (opened st) [] (opened st) first f.value (moves_none (length place.functions) (opened st)) f.first)
      (moves_both (option_moves place.functions f.value.1 test t.value t.first)
      (moves_both (stmts_move (inner place) (with_calls t.value.calls f.value.1) [] (with_calls t.value.calls f.value.1) step s.value (moves_none (length place.functions) (with_calls t.value.calls f.value.1)) s.first)
      (stmt_moves (in_turn place) s.value.1 body b.value b.first))))))
  stmt_moves place st (BreakTree pos) d h = jump_moves (length place.functions) st place.in_loop pos BreakNode d refl h
  stmt_moves place st (ContinueTree pos) d h = jump_moves (length place.functions) st place.in_loop pos ContinueNode d refl h
  stmt_moves place st (ReturnTree value pos) d h =
      let r = passing (returned place.gives pos value) h in let v = passing (option_in place st value) r.rest in
      answered (StmtMoves (length place.functions) st) v.rest (option_moves place.functions st value v.value v.first)
  stmt_moves place st (BlockTree items) d h =
      let b = passing (typed_stmts (inner place) [] (opened st) items) h in
      answered (StmtMoves (length place.functions) st) b.rest
      (moves_closed (moves_opened (stmts_move (inner place) (opened st) [] (opened st) items b.value (moves_none (length place.functions) (opened st)) b.first)))
  stmt_moves place st EmptyTree d h = answered (StmtMoves (length place.functions) st) h (moves_none (length place.functions) st)

  -- statements behind those before them
  pub stmts_move : (place : Place) (start : Standing) (before : List StmtNode) (st : Standing) (ss : StmtTrees) (d : List StmtNode × Standing)
      → Moves (length place.functions) start (in_stmts (stmt_nodes before)) st → typed_stmts place before st ss ≡ Ok d → StmtsMove (length place.functions) start d
  stmts_move place start before st NoStmtTrees d moves h = answered (StmtsMove (length place.functions) start) h moves
  stmts_move place start before st (AndStmtTree s ss) d moves h =
      let x = passing (typed_stmt place st s) h in
      stmts_move place start (before ++ x.value.0 ∷ []) x.value.1 ss d
      (moves_as (stmts_behind before x.value.0) (moves_both moves (stmt_moves place st s x.value x.first))) x.rest
