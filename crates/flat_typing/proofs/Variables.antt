-- A function has no more variables than nodes and scalar parameters, its callees' among them: each variable that is no parameter is
-- declared, and an argument stands for each scalar parameter of a call.
use Rattle.std.proofs.Common.{◌≡◌, refl, sym, ap, ◌∙◌, subst, ℕ, zero, suc, ◌+◌, ◌≤◌, if◌then◌else◌, inl, inr, List, [], ◌∷◌, ◌++◌, map, sum, length, slice_get, Option, None, Some, option_map, arith}
use Rattle.std.specs.Prelude.{count_by}
use Rattle.std.specs.List.{range_with_len}
use Rattle.std.proofs.lemmas.Bool.{cases_Bool}
use Rattle.std.proofs.lemmas.List.{length-append, length-map}
use Rattle.std.proofs.lemmas.List.Sums.{sum_by-cons}
use Rattle.std.proofs.lemmas.Option.{slice_get-map}
use Rattle.ocl_ast.specs.declared.units.Param.{Param}
use Rattle.ocl_program.specs.declared.functions.CallSite.{CallSite}
use Rattle.ocl_program.specs.Measures.{where_some, args_nodes, at_call, callees, expanded, measured, nodes, of_function, own_nodes, own_variables, stmt_size, stmts_size}
use Rattle.ocl_program.specs.Nodes.{ExprNode, NumberNode, VariableNode, UnaryNode, BinaryNode, BothNode, EitherNode, ChooseNode, CastNode, LoadNode, CallNode, BuiltinNode, ParenNode, ArgNodes, NoArgs, ValueArg, ArrayArg, StmtNode, DeclareNode, LocalArrayNode, SetVariableNode, SetElementNode, CallStmtNode, BarrierNode, IfNode, IfElseNode, WhileNode, DoNode, ForNode, BreakNode, ContinueNode, ReturnNode, BlockNode, EmptyNode, StmtNodes, NoStmts, AndStmt, FunctionNode}
use Rattle.ocl_sem.specs.Source.{callee_of, is_scalar}
use Rattle.ocl_types.specs.Functions.{IsProgram}
use Rattle.program_laws.specs.Formed.{IsSmall, args_calls, counted_up, expr_calls, stmt_calls, stmt_declared, stmts_calls, stmts_declared, where_written}
use Rattle.program_laws.proofs.Forming.{small_formed}
use Rattle.program_laws.proofs.Limits.{callee_small}
use Rattle.ocl_inline.proofs.Counts.{sum_weight, weight, weight_append}
use Rattle.flat_typing.specs.Typed.{AreTypedArgs, AreTypedStmts, Fits, Frame, Head, IsCall, IsTypedExpr, IsTypedStmt, IsTypedValue, frame_of, head_of}
use Rattle.flat_typing.proofs.Bodies.{function_typed}

-- ---- arguments

one_at_most : (p : Param) → (if is_scalar p then 1 else 0) ≤ 1
one_at_most p = elim (cases_Bool (is_scalar p)) [ inl scalar ↦ rw scalar (omega arith) | inr other ↦ rw other (omega arith) ]

-- how many scalars are given to what a call leads to
abbrev given : Option Head → ℕ
given None = 0
given (Some head) = count_by is_scalar head.params

abbrev counted : ArgNodes → ℕ
counted NoArgs = 0
counted (ValueArg e more) = 1 + counted more
counted (ArrayArg array more) = 1 + counted more

-- each parameter has an argument
fits_given : (frame : Frame) (params : List Param) (args : ArgNodes) → Fits frame params args → count_by is_scalar params ≤ counted args
fits_given frame [] NoArgs h = omega arith
fits_given frame [] (ValueArg e more) h = absurd h
fits_given frame [] (ArrayArg array more) h = absurd h
fits_given frame (p ∷ ps) NoArgs h = absurd h
fits_given frame (p ∷ ps) (ValueArg e more) h =
    let whole : count_by is_scalar (p ∷ ps) ≡ (if is_scalar p then 1 else 0) + count_by is_scalar ps = sum_by-cons (λ (x : Param). if is_scalar x then 1 else 0) p ps in
    let one = one_at_most p in let rest = fits_given frame ps more h.1 in omega arith
fits_given frame (p ∷ ps) (ArrayArg array more) h =
    let whole : count_by is_scalar (p ∷ ps) ≡ (if is_scalar p then 1 else 0) + count_by is_scalar ps = sum_by-cons (λ (x : Param). if is_scalar x then 1 else 0) p ps in
    let one = one_at_most p in let rest = fits_given frame ps more h.1 in omega arith

call_given : (frame : Frame) (head : Option Head) (args : ArgNodes) → IsCall frame head args → given head ≤ counted args
call_given frame None args h = absurd h
call_given frame (Some head) args h = fits_given frame head.params args h.1

-- ---- expressions

-- what some calls have, with the scalars that they are given
abbrev called : Frame → (ℕ → ℕ) → List ℕ → ℕ
called frame inner ks = weight (λ k. inner k + given (frame.callees k)) ks

both : (frame : Frame) (inner : ℕ → ℕ) (xs ys : List ℕ) → called frame inner (xs ++ ys) ≡ called frame inner xs + called frame inner ys
both frame inner xs ys = weight_append (λ k. inner k + given (frame.callees k)) xs ys

mutual
  -- an expression has one node more, which an argument gives away
  expr_room : (frame : Frame) (inner : ℕ → ℕ) (e : ExprNode) → IsTypedExpr frame e → called frame inner (expr_calls e) + 1 ≤ nodes inner e
  expr_room frame inner (NumberNode value unsigned) h = omega arith
  expr_room frame inner (VariableNode variable elem) h = omega arith
  expr_room frame inner (UnaryNode op part) h = let p = expr_room frame inner part h in omega arith
  expr_room frame inner (BinaryNode op unsigned left right) h =
      let all = both frame inner (expr_calls left) (expr_calls right) in let l = expr_room frame inner left h.0 in let r = expr_room frame inner right h.1 in omega arith
  expr_room frame inner (BothNode left right) h =
      let all = both frame inner (expr_calls left) (expr_calls right) in let l = expr_room frame inner left h.0 in let r = expr_room frame inner right h.1 in omega arith
  expr_room frame inner (EitherNode left right) h =
      let all = both frame inner (expr_calls left) (expr_calls right) in let l = expr_room frame inner left h.0 in let r = expr_room frame inner right h.1 in omega arith
  expr_room frame inner (ChooseNode unsigned test one other) h =
      let all = both frame inner (expr_calls test) (expr_calls one ++ expr_calls other) in let two = both frame inner (expr_calls one) (expr_calls other) in
      let t = expr_room frame inner test h.0 in let y = expr_room frame inner one h.1 in let n = expr_room frame inner other h.2 in omega arith
  expr_room frame inner (CastNode elem part) h = let p = expr_room frame inner part h in omega arith
  expr_room frame inner (LoadNode array elem place pos) h = let p = expr_room frame inner place h.1 in omega arith
  expr_room frame inner (CallNode call args) h =
      let all = both frame inner (args_calls args) (call ∷ []) in let a = args_room frame inner args h.1 in
      let g : given (frame.callees call) ≤ counted args = call_given frame (frame.callees call) args h.0 in omega arith
  expr_room frame inner (BuiltinNode which unsigned args) h = let a = args_room frame inner args h.1 in omega arith
  expr_room frame inner (ParenNode part) h = expr_room frame inner part h

  args_room : (frame : Frame) (inner : ℕ → ℕ) (args : ArgNodes) → AreTypedArgs frame args → called frame inner (args_calls args) + counted args ≤ args_nodes inner args
  args_room frame inner NoArgs h = omega arith
  args_room frame inner (ValueArg e more) h =
      let all = both frame inner (expr_calls e) (args_calls more) in let one = expr_room frame inner e h.0 in let rest = args_room frame inner more h.1 in omega arith
  args_room frame inner (ArrayArg array more) h = let rest = args_room frame inner more h in omega arith

option_room : (frame : Frame) (inner : ℕ → ℕ) (value : Option ExprNode) → IsTypedValue frame value → called frame inner (where_written expr_calls value) ≤ where_some (nodes inner) value
option_room frame inner None h = omega arith
option_room frame inner (Some e) h = let one = expr_room frame inner e h in omega arith

-- ---- statements

-- and what is declared
abbrev held : Frame → (ℕ → ℕ) → List ℕ → List ℕ → ℕ
held frame inner declared ks = length declared + called frame inner ks

joined : (frame : Frame) (inner : ℕ → ℕ) (ds ds' ks ks' : List ℕ) → held frame inner (ds ++ ds') (ks ++ ks') ≡ held frame inner ds ks + held frame inner ds' ks'
joined frame inner ds ds' ks ks' =
    let names : length (ds ++ ds') ≡ length ds + length ds' = length-append ds ds' in let all = both frame inner ks ks' in omega arith

mutual
  stmt_room : (frame : Frame) (inner : ℕ → ℕ) (s : StmtNode) → IsTypedStmt frame s → held frame inner (stmt_declared s) (stmt_calls s) ≤ stmt_size inner s
  stmt_room frame inner (DeclareNode variable elem value) h = let v = option_room frame inner value h in omega arith
  stmt_room frame inner (LocalArrayNode array count) h =
      let none : called frame inner (expr_calls count) ≡ 0 = ap (called frame inner) h in omega arith
  stmt_room frame inner (SetVariableNode variable elem op unsigned value) h = let v = option_room frame inner value h in omega arith
  stmt_room frame inner (SetElementNode array elem place op unsigned value pos) h =
      let all = both frame inner (expr_calls place) (where_written expr_calls value) in let p = expr_room frame inner place h.2 in
      let v = option_room frame inner value h.3 in omega arith
  stmt_room frame inner (CallStmtNode call) h = let c = expr_room frame inner call h in omega arith
  stmt_room frame inner (BarrierNode site) h = omega arith
  stmt_room frame inner (IfNode test one) h =
      let all = both frame inner (expr_calls test) (stmt_calls one) in let t = expr_room frame inner test h.0 in let a = stmt_room frame inner one h.1 in omega arith
  stmt_room frame inner (IfElseNode test one other) h =
      let all = both frame inner (expr_calls test) (stmt_calls one ++ stmt_calls other) in
      let two = joined frame inner (stmt_declared one) (stmt_declared other) (stmt_calls one) (stmt_calls other) in
      let t = expr_room frame inner test h.0 in let a = stmt_room frame inner one h.1 in let b = stmt_room frame inner other h.2 in omega arith
  stmt_room frame inner (WhileNode test body) h =
      let all = both frame inner (expr_calls test) (stmt_calls body) in let t = expr_room frame inner test h.0 in let b = stmt_room frame inner body h.1 in omega arith
  stmt_room frame inner (DoNode body test) h =
      let all = both frame inner (stmt_calls body) (expr_calls test) in let b = stmt_room frame inner body h.0 in let t = expr_room frame inner test h.1 in omega arith
  stmt_room frame inner (ForNode first test step body) h =
      let all = joined frame inner (stmts_declared first) (stmts_declared step ++ stmt_declared body) (stmts_calls first) (where_written expr_calls test ++ (stmts_calls step ++ stmt_calls body)) in
      let three = both frame inner (where_written expr_calls test) (stmts_calls step ++ stmt_calls body) in
      let two = joined frame inner (stmts_declared step) (stmt_declared body) (stmts_calls step) (stmt_calls body) in
      let f = stmts_room frame inner first h.0 in let t = option_room frame inner test h.1 in let s = stmts_room frame inner step h.2 in
      let b = stmt_room frame inner body h.3 in omega arith
  stmt_room frame inner BreakNode h = omega arith
  stmt_room frame inner ContinueNode h = omega arith
  stmt_room frame inner (ReturnNode value) h = let v = option_room frame inner value h in omega arith
  stmt_room frame inner (BlockNode items) h = stmts_room frame inner items h
  stmt_room frame inner EmptyNode h = omega arith

  stmts_room : (frame : Frame) (inner : ℕ → ℕ) (ss : StmtNodes) → AreTypedStmts frame ss → held frame inner (stmts_declared ss) (stmts_calls ss) ≤ stmts_size inner ss
  stmts_room frame inner NoStmts h = omega arith
  stmts_room frame inner (AndStmt s ss) h =
      let all = joined frame inner (stmt_declared s) (stmts_declared ss) (stmt_calls s) (stmts_calls ss) in
      let one = stmt_room frame inner s h.0 in let rest = stmts_room frame inner ss h.1 in omega arith

-- ---- the calls of a table

rows_within : (one w : ℕ → ℕ) (a : ℕ) (ks : List ℕ) → ((i k : ℕ) → slice_get ks i ≡ Some k → one k ≤ w (a + i)) → weight one ks ≤ weight w (range_with_len a (length ks))
rows_within one w a [] within = omega arith
rows_within one w a (k ∷ ks) within =
    let number : a + 0 ≡ a = omega arith in
    let first : one k ≤ w a = subst (λ (i : ℕ). one k ≤ w i) number (within 0 k refl) in
    let rest : weight one ks ≤ weight w (range_with_len (a + 1) (length ks)) =
    rows_within one w (a + 1) ks (λ i k' there. let next : a + suc i ≡ (a + 1) + i = omega arith in subst (λ (j : ℕ). one k' ≤ w j) next (within (suc i) k' there)) in
    omega arith

-- the scalar parameters of a function
abbrev scalars_at : List FunctionNode → ℕ → ℕ
scalars_at program k = given (option_map head_of (slice_get program k))

leads : (program : List FunctionNode) (found : Option CallSite) (callee : ℕ) → option_map (λ (c : CallSite). c.callee) found ≡ Some callee
    → given (option_map head_of (callee_of program found)) ≡ scalars_at program callee
leads program None callee e = cc
leads program (Some site) callee e = let same : site.callee ≡ callee = cc in ap (scalars_at program) same

-- ---- the law

-- at each number of levels of calls
variables_within : (program : List FunctionNode) → IsProgram program → (n k : ℕ) (found : Option FunctionNode) → slice_get program k ≡ found → IsSmall program k
    → expanded own_variables program n k ≤ expanded own_nodes program n k + scalars_at program k
unfolding expanded
variables_within program p zero k found at small = omega arith
variables_within program p (suc n) k None at small =
    let variables : of_function own_variables (expanded own_variables program n) (slice_get program k) ≡ 0 = ap (of_function own_variables (expanded own_variables program n)) at in
    omega arith
variables_within program p (suc n) k (Some f) at small =
    let frame : Frame = frame_of program f in
    let variables : of_function own_variables (expanded own_variables program n) (slice_get program k) ≡ own_variables f (expanded own_variables program n) =
    ap (of_function own_variables (expanded own_variables program n)) at in
    let nodes_are : of_function own_nodes (expanded own_nodes program n) (slice_get program k) ≡ own_nodes f (expanded own_nodes program n) =
    ap (of_function own_nodes (expanded own_nodes program n)) at in
    let scalars : scalars_at program k ≡ count_by is_scalar f.params = ap (λ (found : Option FunctionNode). given (option_map head_of found)) at in
    let formed = small_formed program p k f small at in
    let declared : f.variables ≤ count_by is_scalar f.params + length (stmts_declared f.body) = formed.declared in
    let long : length f.calls ≡ length (callees f) = sym (length-map f.calls (λ (c : CallSite). c.callee)) in
    let room = stmts_room (frame_of program f) (at_call f (expanded own_nodes program n)) f.body (function_typed program p k f small at).body in
    let written : called (frame_of program f) (at_call f (expanded own_nodes program n)) (stmts_calls f.body) ≡ called (frame_of program f) (at_call f (expanded own_nodes program n)) (range_with_len 0 (length (callees f))) =
    ap (called (frame_of program f) (at_call f (expanded own_nodes program n))) (formed.calls ∙ ap (counted_up 0) long) in
    let callees_have : weight (expanded own_variables program n) (callees f) ≤ called (frame_of program f) (at_call f (expanded own_nodes program n)) (range_with_len 0 (length (callees f))) =
    rows_within (expanded own_variables program n) (λ i. at_call f (expanded own_nodes program n) i + given (frame.callees i)) 0 (callees f) (λ i callee there.
    let number : 0 + i ≡ i = omega arith in
    let inner : at_call f (expanded own_nodes program n) i ≡ expanded own_nodes program n callee = ap (where_some (expanded own_nodes program n)) there in
    let taken : given (frame.callees i) ≡ scalars_at program callee =
    leads program (slice_get f.calls i) callee (sym (slice_get-map (λ (c : CallSite). c.callee) f.calls i) ∙ there) in
    let callee_has : expanded own_variables program n callee ≤ expanded own_nodes program n callee + scalars_at program callee =
    variables_within program p n callee (slice_get program callee) refl (callee_small program p k i f callee small at there) in
    subst (λ (j : ℕ). expanded own_variables program n callee ≤ at_call f (expanded own_nodes program n) j + given (frame.callees j)) (sym number) (omega arith)) in
    let sums : sum (map (expanded own_variables program n) (callees f)) ≡ weight (expanded own_variables program n) (callees f) = sum_weight (expanded own_variables program n) (callees f) in
    omega arith

pub variables_few : (program : List FunctionNode) → IsProgram program → (k : ℕ) (f : FunctionNode) → IsSmall program k → slice_get program k ≡ Some f
    → measured own_variables program k ≤ measured own_nodes program k + count_by is_scalar f.params
variables_few program p k f small at =
    let scalars : scalars_at program k ≡ count_by is_scalar f.params = ap (λ (found : Option FunctionNode). given (option_map head_of found)) at in
    let all = variables_within program p (length program) k (slice_get program k) refl small in
    omega arith
