-- A function's calls stand within one another no more than its expressions have levels.
use Rattle.std.proofs.Common.{◌≡◌, refl, sym, ap, ◌∙◌, ℕ, zero, suc, ◌+◌, ◌≤◌, max, List, [], ◌∷◌, ◌++◌, map, length, slice_get, Option, None, Some, arith}
use Rattle.std.specs.List.{range_with_len}
use Rattle.std.proofs.lemmas.List.{length-map}
use Rattle.ocl_program.specs.declared.functions.CallSite.{CallSite}
use Rattle.ocl_program.specs.Measures.{where_some, args_depth, at_call, callees, depth, expanded, greatest, measured, of_function, own_calls, own_depth, stmt_depth, stmts_depth}
use Rattle.ocl_program.specs.Nodes.{ExprNode, NumberNode, VariableNode, UnaryNode, BinaryNode, BothNode, EitherNode, ChooseNode, CastNode, LoadNode, CallNode, BuiltinNode, ParenNode, ArgNodes, NoArgs, ValueArg, ArrayArg, StmtNode, DeclareNode, LocalArrayNode, SetVariableNode, SetElementNode, CallStmtNode, BarrierNode, IfNode, IfElseNode, WhileNode, DoNode, ForNode, BreakNode, ContinueNode, ReturnNode, BlockNode, EmptyNode, StmtNodes, NoStmts, AndStmt, FunctionNode}
use Rattle.ocl_types.specs.Functions.{IsProgram}
use Rattle.program_laws.specs.Formed.{IsSmall, args_calls, counted_up, expr_calls, stmt_calls, stmts_calls, where_written}
use Rattle.program_laws.proofs.Forming.{small_formed}
use Rattle.program_laws.proofs.Limits.{callee_small}

-- how deep the deepest of some calls is
abbrev deepest : (ℕ → ℕ) → List ℕ → ℕ
deepest inner [] = 0
deepest inner (k ∷ ks) = max (inner k + 1) (deepest inner ks)

both : (inner : ℕ → ℕ) (xs ys : List ℕ) → deepest inner (xs ++ ys) ≡ max (deepest inner xs) (deepest inner ys)
both inner [] ys = omega arith
both inner (x ∷ xs) ys = let rest = both inner xs ys in omega arith

-- ---- expressions

mutual
  expr_levels : (inner : ℕ → ℕ) (e : ExprNode) → deepest inner (expr_calls e) ≤ depth inner e
  expr_levels inner (NumberNode value unsigned) = omega arith
  expr_levels inner (VariableNode variable elem) = omega arith
  expr_levels inner (UnaryNode op part) = let p = expr_levels inner part in omega arith
  expr_levels inner (BinaryNode op unsigned left right) =
      let all = both inner (expr_calls left) (expr_calls right) in let l = expr_levels inner left in let r = expr_levels inner right in omega arith
  expr_levels inner (BothNode left right) =
      let all = both inner (expr_calls left) (expr_calls right) in let l = expr_levels inner left in let r = expr_levels inner right in omega arith
  expr_levels inner (EitherNode left right) =
      let all = both inner (expr_calls left) (expr_calls right) in let l = expr_levels inner left in let r = expr_levels inner right in omega arith
  expr_levels inner (ChooseNode unsigned test one other) =
      let all = both inner (expr_calls test) (expr_calls one ++ expr_calls other) in let two = both inner (expr_calls one) (expr_calls other) in
      let t = expr_levels inner test in let y = expr_levels inner one in let n = expr_levels inner other in omega arith
  expr_levels inner (CastNode elem part) = let p = expr_levels inner part in omega arith
  expr_levels inner (LoadNode array elem place pos) = let p = expr_levels inner place in omega arith
  expr_levels inner (CallNode call args) = let all = both inner (args_calls args) (call ∷ []) in let a = args_levels inner args in omega arith
  expr_levels inner (BuiltinNode which unsigned args) = let a = args_levels inner args in omega arith
  expr_levels inner (ParenNode part) = let p = expr_levels inner part in omega arith

  args_levels : (inner : ℕ → ℕ) (args : ArgNodes) → deepest inner (args_calls args) ≤ args_depth inner args
  args_levels inner NoArgs = omega arith
  args_levels inner (ValueArg e more) =
      let all = both inner (expr_calls e) (args_calls more) in let one = expr_levels inner e in let rest = args_levels inner more in omega arith
  args_levels inner (ArrayArg array more) = let rest = args_levels inner more in omega arith

option_levels : (inner : ℕ → ℕ) (value : Option ExprNode) → deepest inner (where_written expr_calls value) ≤ where_some (depth inner) value
option_levels inner None = omega arith
option_levels inner (Some e) = expr_levels inner e

-- ---- statements

mutual
  stmt_levels : (inner : ℕ → ℕ) (s : StmtNode) → deepest inner (stmt_calls s) ≤ stmt_depth inner s
  stmt_levels inner (DeclareNode variable elem value) = option_levels inner value
  stmt_levels inner (LocalArrayNode array count) = expr_levels inner count
  stmt_levels inner (SetVariableNode variable elem op unsigned value) = option_levels inner value
  stmt_levels inner (SetElementNode array elem place op unsigned value pos) =
      let all = both inner (expr_calls place) (where_written expr_calls value) in let p = expr_levels inner place in let v = option_levels inner value in omega arith
  stmt_levels inner (CallStmtNode call) = expr_levels inner call
  stmt_levels inner (BarrierNode site) = omega arith
  stmt_levels inner (IfNode test one) =
      let all = both inner (expr_calls test) (stmt_calls one) in let t = expr_levels inner test in let a = stmt_levels inner one in omega arith
  stmt_levels inner (IfElseNode test one other) =
      let all = both inner (expr_calls test) (stmt_calls one ++ stmt_calls other) in let two = both inner (stmt_calls one) (stmt_calls other) in
      let t = expr_levels inner test in let a = stmt_levels inner one in let b = stmt_levels inner other in omega arith
  stmt_levels inner (WhileNode test body) =
      let all = both inner (expr_calls test) (stmt_calls body) in let t = expr_levels inner test in let b = stmt_levels inner body in omega arith
  stmt_levels inner (DoNode body test) =
      let all = both inner (stmt_calls body) (expr_calls test) in let t = expr_levels inner test in let b = stmt_levels inner body in omega arith
  stmt_levels inner (ForNode first test step body) =
      let all = both inner (stmts_calls first) (where_written expr_calls test ++ (stmts_calls step ++ stmt_calls body)) in
      let three = both inner (where_written expr_calls test) (stmts_calls step ++ stmt_calls body) in let two = both inner (stmts_calls step) (stmt_calls body) in
      let f = stmts_levels inner first in let t = option_levels inner test in let s = stmts_levels inner step in let b = stmt_levels inner body in omega arith
  stmt_levels inner BreakNode = omega arith
  stmt_levels inner ContinueNode = omega arith
  stmt_levels inner (ReturnNode value) = option_levels inner value
  stmt_levels inner (BlockNode items) = stmts_levels inner items
  stmt_levels inner EmptyNode = omega arith

  stmts_levels : (inner : ℕ → ℕ) (ss : StmtNodes) → deepest inner (stmts_calls ss) ≤ stmts_depth inner ss
  stmts_levels inner NoStmts = omega arith
  stmts_levels inner (AndStmt s ss) =
      let all = both inner (stmt_calls s) (stmts_calls ss) in let one = stmt_levels inner s in let rest = stmts_levels inner ss in omega arith

-- ---- the calls of a table

shifted : (inner : ℕ → ℕ) (n a : ℕ) → deepest inner (range_with_len (suc a) n) ≡ deepest (λ i. inner (suc i)) (range_with_len a n)
shifted inner zero a = refl
shifted inner (suc n) a =
    let next : suc a + 1 ≡ suc (a + 1) = omega arith in
    ap (λ (b : ℕ). max (inner (suc a) + 1) (deepest inner (range_with_len b n))) next ∙ ap (λ (w : ℕ). max (inner (suc a) + 1) w) (shifted inner n (a + 1))

listed : (inner : ℕ → ℕ) (ks : List ℕ) → deepest (λ i. where_some inner (slice_get ks i)) (range_with_len 0 (length ks)) ≡ greatest (map (λ (callee : ℕ). inner callee + 1) ks)
listed inner [] = refl
listed inner (k ∷ ks) =
    ap (λ (w : ℕ). max (inner k + 1) w) (shifted (λ i. where_some inner (slice_get (k ∷ ks) i)) (length ks) 0 ∙ listed inner ks)

greatest_within : (one other : ℕ → ℕ) (ks : List ℕ) → ((i k : ℕ) → slice_get ks i ≡ Some k → one k ≤ other k)
    → greatest (map (λ (callee : ℕ). one callee + 1) ks) ≤ greatest (map (λ (callee : ℕ). other callee + 1) ks)
greatest_within one other [] within = omega arith
greatest_within one other (k ∷ ks) within =
    let rest = greatest_within one other ks (λ i k there. within (suc i) k there) in let first = within 0 k refl in omega arith

-- ---- the law

-- at each number of levels of calls
calls_within : (program : List FunctionNode) → IsProgram program → (n k : ℕ) (found : Option FunctionNode) → slice_get program k ≡ found → IsSmall program k
    → expanded own_calls program n k ≤ expanded own_depth program n k
unfolding expanded
calls_within program p zero k found at small = omega arith
calls_within program p (suc n) k None at small =
    let calls : of_function own_calls (expanded own_calls program n) (slice_get program k) ≡ 0 = ap (of_function own_calls (expanded own_calls program n)) at in
    omega arith
calls_within program p (suc n) k (Some f) at small =
    let calls : of_function own_calls (expanded own_calls program n) (slice_get program k) ≡ own_calls f (expanded own_calls program n) = ap (of_function own_calls (expanded own_calls program n)) at in
    let levels : of_function own_depth (expanded own_depth program n) (slice_get program k) ≡ own_depth f (expanded own_depth program n) = ap (of_function own_depth (expanded own_depth program n)) at in
    let long : length f.calls ≡ length (callees f) = sym (length-map f.calls (λ (c : CallSite). c.callee)) in
    let written : deepest (at_call f (expanded own_depth program n)) (stmts_calls f.body) ≡ deepest (at_call f (expanded own_depth program n)) (counted_up 0 (length (callees f))) =
    ap (deepest (at_call f (expanded own_depth program n))) ((small_formed program p k f small at).calls ∙ ap (counted_up 0) long) in
    let all : deepest (at_call f (expanded own_depth program n)) (counted_up 0 (length (callees f))) ≡ greatest (map (λ (callee : ℕ). expanded own_depth program n callee + 1) (callees f)) =
    listed (expanded own_depth program n) (callees f) in
    let body = stmts_levels (at_call f (expanded own_depth program n)) f.body in
    let callees_have : greatest (map (λ (callee : ℕ). expanded own_calls program n callee + 1) (callees f)) ≤ greatest (map (λ (callee : ℕ). expanded own_depth program n callee + 1) (callees f)) =
    greatest_within (expanded own_calls program n) (expanded own_depth program n) (callees f) (λ i callee there.
    calls_within program p n callee (slice_get program callee) refl (callee_small program p k i f callee small at there)) in
    omega arith

pub calls_are_levels : (program : List FunctionNode) → IsProgram program → (k : ℕ) → IsSmall program k → measured own_calls program k ≤ measured own_depth program k
calls_are_levels program p k small = calls_within program p (length program) k (slice_get program k) refl small
