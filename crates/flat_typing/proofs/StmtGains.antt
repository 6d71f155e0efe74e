-- What the typing of a statement adds to what the function has so far, and that the statement is typed.
use Rattle.std.proofs.Common.{◌≡◌, refl, sym, ap, ◌∙◌, subst, ℕ, ◌+◌, ◌<◌, nat_le, Bool, true, false, ◌&&◌, List, [], ◌∷◌, ◌++◌, length, slice_get, Option, Some, Ok, arith}
use Rattle.std.proofs.lemmas.List.{length-append}
use Rattle.vx_base.specs.declared.types.Pos.{Pos}
use Rattle.vx_base.specs.declared.types.Space.TheVariants.{Local}
use Rattle.ocl_ast.specs.Trees.{ExprTree, TargetTree, NameTarget, IndexTarget, StmtTree, DeclareTree, LocalArrayTree, AssignTree, CallStmtTree, BarrierTree, IfTree, IfElseTree, WhileTree, DoTree, ForTree, BreakTree, ContinueTree, ReturnTree, BlockTree, EmptyTree, StmtTrees, NoStmts as NoStmtTrees, AndStmt as AndStmtTree, FunctionTree}
use Rattle.ocl_ast.specs.declared.exprs.Ident.{Ident}
use Rattle.ocl_ast.specs.declared.stmts.AssignOp.{AssignOp}
use Rattle.ocl_program.specs.declared.exprs.ArrayRef.TheVariants.{Declared}
use Rattle.ocl_program.specs.declared.functions.LocalArray.{LocalArray}
use Rattle.ocl_program.specs.Measures.{cut}
use Rattle.ocl_program.specs.Nodes.{StmtNode, BreakNode, ContinueNode, stmt_nodes}
use Rattle.ocl_types.specs.declared.changes.WritableArray.{WritableArray}
use Rattle.ocl_types.specs.declared.names.Binding.{Binding}
use Rattle.ocl_types.specs.declared.names.Binding.TheVariants.{Scalar as ScalarBinding, Array as ArrayBinding}
use Rattle.ocl_types.specs.declared.names.Meaning.{Meaning}
use Rattle.ocl_types.specs.declared.names.Meaning.TheVariants.{Bound, Function, Builtin as BuiltinMeaning, Unknown as UnknownMeaning}
use Rattle.ocl_types.specs.Names.{meaning_of}
use Rattle.ocl_types.specs.Exprs.{MaybeTyped, typed, typed_call, typed_option}
use Rattle.ocl_types.specs.Stmts.{Place, Standing, declared_variable, opened, with_calls, is_count, count_value, most_elements, typed_count, Changed, Variable, Element, TypedTarget, assigned_name, assigned_array, typed_target, change_node, jump_in, returned, inner, in_turn, expr_in, option_in, one_more, typed_stmt, typed_stmts}
use Rattle.program_laws.proofs.Passing.{passing, answered, tested, not_tested, test_held}
use Rattle.program_laws.specs.Formed.{expr_calls}
use Rattle.program_laws.proofs.Pieces.{Pieces, most}
use Rattle.program_laws.proofs.StmtMoves.{with_name, count_sized, declared_is, left_true}
use Rattle.flat_typing.specs.Typed.{ArrayKind, AreTypedStmts, Frame, IsOf, IsOpen, IsTypedExpr, IsTypedStmt, IsTypedValue, local_kind, named_kind}
use Rattle.flat_typing.proofs.Gains.{Gains, IsBinding, gains_as, gains_both, gains_closed, gains_opened, gains_this, gains_three, gains_within, get_before, get_behind}
use Rattle.flat_typing.proofs.Names.{IsMeaning, entry_behind, meaning_is}
use Rattle.flat_typing.proofs.ExprGains.{call_gains, expr_gains, of_kind, option_gains, untested_false}

-- ---- parts

abbrev pub StmtGains : List FunctionTree → Bool → Standing → StmtNode × Standing → Type 0
StmtGains fs outermost st d = Gains fs outermost st (λ frame. IsTypedStmt frame d.0) d.1

abbrev pub StmtsGain : List FunctionTree → Bool → Standing → List StmtNode × Standing → Type 0
StmtsGain fs outermost st d = Gains fs outermost st (λ frame. AreTypedStmts frame (stmt_nodes d.0)) d.1

-- ---- assignments

-- what is changed accepts it
abbrev IsTypedChange : Frame → TypedTarget → Changed → Type 0
IsTypedChange frame t (Variable variable) = Unit {0}
IsTypedChange frame t (Element array place pos) = IsOf (named_kind frame array) t.elem × IsOpen (named_kind frame array) × IsTypedExpr frame place

abbrev TargetGains : List FunctionTree → Bool → Standing → TypedTarget → Type 0
TargetGains fs outermost st t = Gains fs outermost st (λ frame. IsTypedChange frame t t.what) (with_calls t.calls st)

name_gains : (fs : List FunctionTree) (outermost : Bool) (st : Standing) (pos : Pos) (meaning : Meaning) (t : TypedTarget) → assigned_name pos st.calls meaning ≡ Ok t → TargetGains fs outermost st t
name_gains fs outermost st pos (Bound (ScalarBinding variable elem constant)) t h = answered (TargetGains fs outermost st) (not_tested constant _ _ h) (gains_this st (λ frame scopes. tt))
name_gains fs outermost st pos (Bound (ArrayBinding array space elem readonly)) t h = cc
name_gains fs outermost st pos (Function k) t h = cc
name_gains fs outermost st pos (BuiltinMeaning b) t h = cc
name_gains fs outermost st pos UnknownMeaning t h = cc

-- an array of which an element is assigned
abbrev IsWritable : Frame → WritableArray → Type 0
IsWritable frame a = IsOf (named_kind frame a.array) a.elem × IsOpen (named_kind frame a.array)

open_kind : (found : Option ArrayKind) (kind : ArrayKind) → found ≡ Some kind → kind.fixed ≡ false → IsOpen found
open_kind found kind e accepts = subst IsOpen (sym e) accepts

array_written : (frame : Frame) (pos : Pos) (meaning : Meaning) (a : WritableArray) → assigned_array pos meaning ≡ Ok a → IsMeaning frame meaning → IsWritable frame a
array_written frame pos (Bound (ScalarBinding variable elem constant)) a h is = cc
array_written frame pos (Bound (ArrayBinding array space elem readonly)) a h is =
    answered (IsWritable frame) (not_tested readonly _ _ h) (
      of_kind (named_kind frame array) (record { space = space; elem = elem; fixed = readonly }) is,
      open_kind (named_kind frame array) (record { space = space; elem = elem; fixed = readonly }) is (untested_false readonly (Ok (record { array = array; elem = elem })) _ h),
    )
array_written frame pos (Function k) a h is = cc
array_written frame pos (BuiltinMeaning b) a h is = cc
array_written frame pos UnknownMeaning a h is = cc

target_gains : (fs : List FunctionTree) (outermost : Bool) (st : Standing) (target : TargetTree) (t : TypedTarget) → typed_target fs st.scopes st.calls target ≡ Ok t → TargetGains fs outermost st t
target_gains fs outermost st (NameTarget name) t h = name_gains fs outermost st name.pos (meaning_of fs st.scopes name.text) t h
target_gains fs outermost st (IndexTarget array place pos) t h =
    let a = passing (assigned_array array.pos (meaning_of fs st.scopes array.text)) h in let p = passing (typed fs st.scopes st.calls place) a.rest in
    answered (TargetGains fs outermost st) p.rest
    (gains_as (λ frame p. (p.0.0, p.0.1, p.1)) (gains_both (gains_this {P = λ frame. IsWritable frame a.value} st
    (λ frame scopes. array_written frame array.pos (meaning_of fs st.scopes array.text) a.value a.first (meaning_is frame fs st.scopes array.text scopes)))
    (expr_gains fs outermost st place p.value p.first)))

change_typed : (frame : Frame) (t : TypedTarget) (op : AssignOp) (v : MaybeTyped) (what : Changed) → IsTypedChange frame t what → IsTypedValue frame v.expr
    → IsTypedStmt frame (change_node t op v what)
change_typed frame t op v (Variable variable) h value = value
change_typed frame t op v (Element array place pos) h value = (h.0, h.1, h.2, value)

-- ---- declarations

named : (fs : List FunctionTree) (outermost : Bool) (name : Ident) (binding : ℕ → Binding) (st : Standing) → ((frame : Frame) (variable : ℕ) → IsBinding frame (binding variable))
    → Gains fs outermost st (λ frame. Unit {0}) (with_name name binding st)
named fs outermost name binding st is = record {
  ends = λ frame ends. ends;
  scopes = λ frame ends scopes. entry_behind frame st.scopes name.text (binding st.variables) scopes (is frame st.variables);
  holds = λ frame ends scopes. tt;
  arrays = λ inner. refl;
}

declare_gains : (place : Place) (st : Standing) (elem : _) (constant : Bool) (name : Ident) (value : Option ExprTree) (d : StmtNode × Standing)
    → typed_stmt place st (DeclareTree elem constant name value) ≡ Ok d → StmtGains place.functions place.outermost st d
declare_gains place st elem constant name value d h =
    let binding : ℕ → Binding = λ variable. ScalarBinding variable elem constant in
    let now = passing (declared_variable name (λ variable. ScalarBinding variable elem constant) st) h in
    let v = passing (option_in place now.value value) now.rest in
    let same : with_name name binding st ≡ now.value = declared_is name binding st now.value now.first in
    answered (StmtGains place.functions place.outermost st) v.rest
    (gains_as (λ frame p. p.1) (gains_both
    (subst (λ (x : Standing). Gains place.functions place.outermost st (λ frame. Unit {0}) x) same (named place.functions place.outermost name binding st (λ frame variable. tt)))
    (option_gains place.functions place.outermost now.value value v.value v.first)))

-- the new array is behind those before it
local_named : (fs : List FunctionTree) (outermost : Bool) (name : Ident) (st : Standing) (elem : _) (count : ℕ) → outermost ≡ true
    → Gains fs outermost st (λ frame. Unit {0})
    (record (with_name name (λ variable. ArrayBinding (Declared (cut (length st.arrays))) Local elem false) st) { arrays = st.arrays ++ record { elem = elem; count = count } ∷ [] })
local_named fs outermost name st elem count is =
    let added : LocalArray = record { elem = elem; count = count } in
    let binding : ℕ → Binding = λ variable. ArrayBinding (Declared (cut (length st.arrays))) Local elem false in
    let longer : length (st.arrays ++ added ∷ []) ≡ length st.arrays + 1 = length-append st.arrays (added ∷ []) in record {
      ends = λ frame ends. let few : length (st.arrays ++ added ∷ []) < most = ends.few_arrays in record {
        same_arrays = λ i array e. ends.same_arrays i array (get_before st.arrays (added ∷ []) i array e);
        same_calls = ends.same_calls;
        few_arrays = omega arith;
        few_calls = ends.few_calls;
      };
      scopes = λ frame ends scopes.
          let few : length (st.arrays ++ added ∷ []) < most = ends.few_arrays in
          let whole : cut (length st.arrays) ≡ length st.arrays = omega arith in
          let there : slice_get frame.arrays (cut (length st.arrays)) ≡ Some added =
          ap (λ (n : ℕ). slice_get frame.arrays n) whole ∙ ends.same_arrays (length st.arrays) added (get_behind st.arrays added) in
          entry_behind frame st.scopes name.text (binding st.variables) scopes (ap local_kind there);
      holds = λ frame ends scopes. tt;
      arrays = λ inner. absurd (true_is_false (sym is ∙ inner));
    }
  where
    true_is_false : true ≡ false → ⊥
    true_is_false e = cc

array_gains : (place : Place) (st : Standing) (elem : _) (name : Ident) (count : ExprTree) (d : StmtNode × Standing)
    → typed_stmt place st (LocalArrayTree elem name count) ≡ Ok d → StmtGains place.functions place.outermost st d
array_gains place st elem name count d h =
    let binding : ℕ → Binding = λ variable. ArrayBinding (Declared (cut (length st.arrays))) Local elem false in
    let now = passing (declared_variable name (λ variable. ArrayBinding (Declared (cut (length st.arrays))) Local elem false) st) h in
    let c = passing (typed_count place name.pos count) now.rest in
    let t = passing (typed place.functions [] [] count) (tested (is_count count) _ _ c.first) in
    let fits : place.outermost && (nat_le 1 (count_value t.value.expr) && nat_le (count_value t.value.expr) most_elements) ≡ true =
    test_held (place.outermost && (nat_le 1 (count_value t.value.expr) && nat_le (count_value t.value.expr) most_elements)) _ _ t.rest in
    let outer : place.outermost ≡ true = left_true place.outermost (nat_le 1 (count_value t.value.expr) && nat_le (count_value t.value.expr) most_elements) fits in
    let plain : expr_calls c.value ≡ [] = ap (λ (p : Pieces). p.calls) (count_sized place name.pos count c.value c.first).plain in
    answered (StmtGains place.functions place.outermost st) c.rest
    (gains_as (λ frame none. plain) (subst (λ (x : Standing). Gains place.functions place.outermost st (λ frame. Unit {0}) (record x { arrays = x.arrays ++ record { elem = elem; count = count_value c.value } ∷ [] }))
    (declared_is name binding st now.value now.first) (local_named place.functions place.outermost name st elem (count_value c.value) outer)))

-- ---- statements

jump_gains : (fs : List FunctionTree) (outermost : Bool) (st : Standing) (in_loop : Bool) (pos : Pos) (jump : StmtNode) (d : StmtNode × Standing) → ((frame : Frame) → IsTypedStmt frame jump)
    → jump_in in_loop pos jump st ≡ Ok d → StmtGains fs outermost st d
jump_gains fs outermost st in_loop pos jump d plain h = answered (StmtGains fs outermost st) (tested in_loop _ _ h) (gains_this st (λ frame scopes. plain frame))

site_gains : (fs : List FunctionTree) (outermost : Bool) (st : Standing) → Gains fs outermost st (λ frame. Unit {0}) (record st { sites = one_more st.sites })
site_gains fs outermost st = record { ends = λ frame ends. ends; scopes = λ frame ends scopes. scopes; holds = λ frame ends scopes. tt; arrays = λ inner. refl }

stmts_behind : (frame : Frame) (before : List StmtNode) (s : StmtNode) → AreTypedStmts frame (stmt_nodes before) → IsTypedStmt frame s → AreTypedStmts frame (stmt_nodes (before ++ s ∷ []))
stmts_behind frame [] s h is = (is, tt)
stmts_behind frame (b ∷ before) s h is = (h.0, stmts_behind frame before s h.1 is)

mutual
  pub stmt_gains : (place : Place) (st : Standing) (s : StmtTree) (d : StmtNode × Standing) → typed_stmt place st s ≡ Ok d → StmtGains place.functions place.outermost st d
  stmt_gains place st (DeclareTree elem constant name value) d h = declare_gains place st elem constant name value d h
  stmt_gains place st (LocalArrayTree elem name count) d h = array_gains place st elem name count d h
  stmt_gains place st (AssignTree target op value pos) d h =
      let t = passing (typed_target place.functions st.scopes st.calls target) h in let v = passing (typed_option place.functions st.scopes t.value.calls value) t.rest in
      answered (StmtGains place.functions place.outermost st) v.rest (gains_as (λ frame p. change_typed frame t.value op v.value t.value.what p.0 p.1)
      (gains_both (target_gains place.functions place.outermost st target t.value t.first) (option_gains place.functions place.outermost (with_calls t.value.calls st) value v.value v.first)))
  stmt_gains place st (CallStmtTree name args) d h =
      let c = passing (typed_call place.functions st.scopes st.calls name args) h in
      answered (StmtGains place.functions place.outermost st) c.rest (call_gains place.functions place.outermost st name args c.value c.first)
  stmt_gains place st (BarrierTree pos) d h = answered (StmtGains place.functions place.outermost st) h (site_gains place.functions place.outermost st)
  stmt_gains place st (IfTree test one) d h =
      let t = passing (expr_in place st test) h in let a = passing (typed_stmt (inner place) (with_calls t.value.calls st) one) t.rest in
      answered (StmtGains place.functions place.outermost st) a.rest
      (gains_both (expr_gains place.functions place.outermost st test t.value t.first) (gains_within (stmt_gains (inner place) (with_calls t.value.calls st) one a.value a.first)))
  stmt_gains place st (IfElseTree test one other) d h =
      let t = passing (expr_in place st test) h in let a = passing (typed_stmt (inner place) (with_calls t.value.calls st) one) t.rest in
      let b = passing (typed_stmt (inner place) a.value.1 other) a.rest in
      answered (StmtGains place.functions place.outermost st) b.rest
      (gains_three (expr_gains place.functions place.outermost st test t.value t.first)
      (gains_within (stmt_gains (inner place) (with_calls t.value.calls st) one a.value a.first)) (gains_within (stmt_gains (inner place) a.value.1 other b.value b.first)))
  stmt_gains place st (WhileTree test body) d h =
      let t = passing (expr_in place st test) h in let b = passing (typed_stmt (in_turn place) (with_calls t.value.calls st) body) t.rest in
      answered (StmtGains place.functions place.outermost st) b.rest
      (gains_both (expr_gains place.functions place.outermost st test t.value t.first) (gains_within (stmt_gains (in_turn place) (with_calls t.value.calls st) body b.value b.first)))
  stmt_gains place st (DoTree body test) d h =
      let b = passing (typed_stmt (in_turn place) st body) h in let t = passing (expr_in place b.value.1 test) b.rest in
      answered (StmtGains place.functions place.outermost st) t.rest
      (gains_both (gains_within (stmt_gains (in_turn place) st body b.value b.first)) (expr_gains place.functions place.outermost b.value.1 test t.value t.first))
  stmt_gains place st (ForTree first test step body) d h =
      let f = passing (typed_stmts (inner place) [] (opened st) first) h in let t = passing (option_in place f.value.1 test) f.rest in
      let s = passing (typed_stmts (inner place) [] (with_calls t.value.calls f.value.1) step) t.rest in let b = passing (typed_stmt (in_turn place) s.value.1 body) s.rest in
      answered (StmtGains place.functions place.outermost st) b.rest
      (gains_within (gains_closed (gains_opened (gains_as (λ frame p. (p.0, p.1.0, p.1.1, p.1.2))
      (gains_both (stmts_gain (inner place) (opened st) [] (opened st) first f.value (gains_this (opened st) (λ frame scopes. tt)) f.first)
      (gains_three (option_gains place.functions false f.value.1 test t.value t.first)
      (stmts_gain (inner place) (with_calls t.value.calls f.value.1) [] (with_calls t.value.calls f.value.1) step s.value (gains_this (with_calls t.value.calls f.value.1) (λ frame scopes. tt)) s.first)
      (stmt_gains (in_turn place) s.value.1 body b.value b.first)))))))
  stmt_gains place st (BreakTree pos) d h = jump_gains place.functions place.outermost st place.in_loop pos BreakNode d (λ frame. tt) h
  stmt_gains place st (ContinueTree pos) d h = jump_gains place.functions place.outermost st place.in_loop pos ContinueNode d (λ frame. tt) h
  stmt_gains place st (ReturnTree value pos) d h =
      let r = passing (returned place.gives pos value) h in let v = passing (option_in place st value) r.rest in
      answered (StmtGains place.functions place.outermost st) v.rest (option_gains place.functions place.outermost st value v.value v.first)
  stmt_gains place st (BlockTree items) d h =
      let b = passing (typed_stmts (inner place) [] (opened st) items) h in
      answered (StmtGains place.functions place.outermost st) b.rest
      (gains_within (gains_closed (gains_opened (stmts_gain (inner place) (opened st) [] (opened st) items b.value (gains_this (opened st) (λ frame scopes. tt)) b.first))))
  stmt_gains place st EmptyTree d h = answered (StmtGains place.functions place.outermost st) h (gains_this st (λ frame scopes. tt))

  -- statements behind those before them
  pub stmts_gain : (place : Place) (start : Standing) (before : List StmtNode) (st : Standing) (ss : StmtTrees) (d : List StmtNode × Standing)
      → Gains place.functions place.outermost start (λ frame. AreTypedStmts frame (stmt_nodes before)) st → typed_stmts place before st ss ≡ Ok d → StmtsGain place.functions place.outermost start d
  stmts_gain place start before st NoStmtTrees d gains h = answered (StmtsGain place.functions place.outermost start) h gains
  stmts_gain place start before st (AndStmtTree s ss) d gains h =
      let x = passing (typed_stmt place st s) h in
      stmts_gain place start (before ++ x.value.0 ∷ []) x.value.1 ss d
      (gains_as (λ frame p. stmts_behind frame before x.value.0 p.0 p.1) (gains_both gains (stmt_gains place st s x.value x.first))) x.rest
