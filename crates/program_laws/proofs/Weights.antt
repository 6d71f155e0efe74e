-- A body has at least as many nodes as calls, barriers and arrays, and those of each callee besides.
use Rattle.std.proofs.Common.{◌≡◌, refl, sym, ap, ◌∙◌, ℕ, zero, suc, ◌+◌, ◌<◌, ◌≤◌, nat_eq, ◌⊎◌, inl, inr, List, [], ◌∷◌, ◌++◌, map, sum, length, slice_get, Option, None, Some, arith, eqb-true, eq-eqb}
use Rattle.std.proofs.lemmas.Bool.{cases_Bool, false≢true}
use Rattle.std.specs.List.{range_with_len}
use Rattle.std.proofs.lemmas.List.{length-append}
use Rattle.std.proofs.lemmas.List.Sums.{sum_by-cons}
use Rattle.ocl_program.specs.Measures.{where_some, nodes, args_nodes, stmt_size, stmts_size}
use Rattle.ocl_program.specs.Nodes.{ExprNode, NumberNode, VariableNode, UnaryNode, BinaryNode, BothNode, EitherNode, ChooseNode, CastNode, LoadNode, CallNode, BuiltinNode, ParenNode, ArgNodes, NoArgs, ValueArg, ArrayArg, StmtNode, DeclareNode, LocalArrayNode, SetVariableNode, SetElementNode, CallStmtNode, BarrierNode, IfNode, IfElseNode, WhileNode, DoNode, ForNode, BreakNode, ContinueNode, ReturnNode, BlockNode, EmptyNode, StmtNodes, NoStmts, AndStmt}
use Rattle.program_laws.specs.Formed.{where_written, expr_calls, args_calls, stmt_calls, stmts_calls, stmt_sites, stmts_sites, stmt_arrays, stmts_arrays}

-- ---- weights

abbrev pub weight : (ℕ → ℕ) → List ℕ → ℕ
weight inner [] = 0
weight inner (k ∷ ks) = inner k + 1 + weight inner ks

weight_both : (inner : ℕ → ℕ) (xs ys : List ℕ) → weight inner (xs ++ ys) ≡ weight inner xs + weight inner ys
weight_both inner [] ys = omega arith
weight_both inner (x ∷ xs) ys = let rest = weight_both inner xs ys in omega arith

pub counted_by_weight : (inner : ℕ → ℕ) (xs : List ℕ) → length xs ≤ weight inner xs
counted_by_weight inner [] = omega arith
counted_by_weight inner (x ∷ xs) = let rest : length xs ≤ weight inner xs = counted_by_weight inner xs in omega arith

at_or_behind : (a k : ℕ) → a ≤ k → (a ≡ k) ⊎ (a + 1 ≤ k)
at_or_behind a k least = elim (cases_Bool (nat_eq a k)) [
  | inl same ↦ inl (eqb-true a k same)
  | inr other ↦ inr (omega (arith, λ (same : a ≡ k). false≢true (sym other ∙ eq-eqb a k same)))
]

pub part_of_weight : (inner : ℕ → ℕ) (n a k : ℕ) → a ≤ k → k < a + n → inner k ≤ weight inner (range_with_len a n)
part_of_weight inner zero a k least within = absurd (omega arith)
part_of_weight inner (suc n) a k least within = elim (at_or_behind a k least) [
  | inl here ↦ let same : inner k ≡ inner a = ap inner (sym here) in omega arith
  | inr behind ↦ let rest : inner k ≤ weight inner (range_with_len (a + 1) n) = part_of_weight inner n (a + 1) k behind (omega arith) in omega arith
]

pub part_of_sum : (inner : ℕ → ℕ) (ks : List ℕ) (i k : ℕ) → slice_get ks i ≡ Some k → inner k ≤ sum (map inner ks)
part_of_sum inner [] i k e = cc
part_of_sum inner (x ∷ ks) zero k e =
    let whole : sum (map inner (x ∷ ks)) ≡ inner x + sum (map inner ks) = sum_by-cons (λ (n : ℕ). n) (inner x) (map inner ks) in
    let there : x ≡ k = cc in let same : inner x ≡ inner k = ap inner there in omega arith
part_of_sum inner (x ∷ ks) (suc i) k e =
    let whole : sum (map inner (x ∷ ks)) ≡ inner x + sum (map inner ks) = sum_by-cons (λ (n : ℕ). n) (inner x) (map inner ks) in
    let rest : inner k ≤ sum (map inner ks) = part_of_sum inner ks i k e in omega arith

-- the weight of the calls, and how many barriers and arrays
pub load : (ℕ → ℕ) → List ℕ → List ℕ → List ℕ → ℕ
load inner calls sites arrays = weight inner calls + length sites + length arrays

pub load_is : (inner : ℕ → ℕ) (calls sites arrays : List ℕ) → load inner calls sites arrays ≡ weight inner calls + length sites + length arrays
unfolding load
load_is inner calls sites arrays = refl

load_both : (inner : ℕ → ℕ) (c c' s s' a a' : List ℕ) → load inner (c ++ c') (s ++ s') (a ++ a') ≡ load inner c s a + load inner c' s' a'
unfolding load
load_both inner c c' s s' a a' =
    let calls : weight inner (c ++ c') ≡ weight inner c + weight inner c' = weight_both inner c c' in
    let sites : length (s ++ s') ≡ length s + length s' = length-append s s' in
    let arrays : length (a ++ a') ≡ length a + length a' = length-append a a' in
    omega arith

load_first : (inner : ℕ → ℕ) (c c' s a : List ℕ) → load inner (c ++ c') s a ≡ load inner c s a + load inner c' [] []
unfolding load
load_first inner c c' s a = let calls : weight inner (c ++ c') ≡ weight inner c + weight inner c' = weight_both inner c c' in omega arith

load_none : (inner : ℕ → ℕ) → load inner [] [] [] ≡ 0
unfolding load
load_none inner = omega arith

load_call : (inner : ℕ → ℕ) (k : ℕ) → load inner (k ∷ []) [] [] ≡ inner k + 1
unfolding load
load_call inner k = omega arith

load_site : (inner : ℕ → ℕ) (k : ℕ) → load inner [] (k ∷ []) [] ≡ 1
unfolding load
load_site inner k = omega arith

load_array : (inner : ℕ → ℕ) (c : List ℕ) (k : ℕ) → load inner c [] (k ∷ []) ≡ load inner c [] [] + 1
unfolding load
load_array inner c k = omega arith

-- ---- expressions

abbrev in_calls : (ℕ → ℕ) → List ℕ → ℕ
in_calls inner calls = load inner calls [] []

two_calls : (inner : ℕ → ℕ) (c c' : List ℕ) → in_calls inner (c ++ c') ≡ in_calls inner c + in_calls inner c'
two_calls inner c c' = load_both inner c c' [] [] [] []

mutual
  expr_load : (inner : ℕ → ℕ) (e : ExprNode) → in_calls inner (expr_calls e) ≤ nodes inner e
  expr_load inner (NumberNode value unsigned) = let none = load_none inner in omega arith
  expr_load inner (VariableNode variable elem) = let none = load_none inner in omega arith
  expr_load inner (UnaryNode op part) = let p = expr_load inner part in omega arith
  expr_load inner (BinaryNode op unsigned left right) =
      let both = two_calls inner (expr_calls left) (expr_calls right) in let l = expr_load inner left in let r = expr_load inner right in omega arith
  expr_load inner (BothNode left right) =
      let both = two_calls inner (expr_calls left) (expr_calls right) in let l = expr_load inner left in let r = expr_load inner right in omega arith
  expr_load inner (EitherNode left right) =
      let both = two_calls inner (expr_calls left) (expr_calls right) in let l = expr_load inner left in let r = expr_load inner right in omega arith
  expr_load inner (ChooseNode unsigned test one other) =
      let all = two_calls inner (expr_calls test) (expr_calls one ++ expr_calls other) in let both = two_calls inner (expr_calls one) (expr_calls other) in
      let t = expr_load inner test in let y = expr_load inner one in let n = expr_load inner other in omega arith
  expr_load inner (CastNode elem part) = let p = expr_load inner part in omega arith
  expr_load inner (LoadNode array elem place pos) = let p = expr_load inner place in omega arith
  expr_load inner (CallNode call args) =
      let both = two_calls inner (args_calls args) (call ∷ []) in let one = load_call inner call in let a = args_load inner args in omega arith
  expr_load inner (BuiltinNode which unsigned args) = let a = args_load inner args in omega arith
  expr_load inner (ParenNode part) = expr_load inner part

  args_load : (inner : ℕ → ℕ) (args : ArgNodes) → in_calls inner (args_calls args) ≤ args_nodes inner args
  args_load inner NoArgs = let none = load_none inner in omega arith
  args_load inner (ValueArg e more) =
      let both = two_calls inner (expr_calls e) (args_calls more) in let one = expr_load inner e in let rest = args_load inner more in omega arith
  args_load inner (ArrayArg array more) = let rest = args_load inner more in omega arith

option_load : (inner : ℕ → ℕ) (value : Option ExprNode) → in_calls inner (where_written expr_calls value) ≤ where_some (nodes inner) value
option_load inner None = let none = load_none inner in omega arith
option_load inner (Some e) = expr_load inner e

-- ---- statements

abbrev in_stmt : (ℕ → ℕ) → StmtNode → ℕ
in_stmt inner s = load inner (stmt_calls s) (stmt_sites s) (stmt_arrays s)

abbrev in_stmts : (ℕ → ℕ) → StmtNodes → ℕ
in_stmts inner ss = load inner (stmts_calls ss) (stmts_sites ss) (stmts_arrays ss)

behind_calls : (inner : ℕ → ℕ) (c c' s a : List ℕ) → load inner (c ++ c') s a ≡ in_calls inner c + load inner c' s a
behind_calls inner c c' s a = load_both inner c c' [] s [] a

mutual
  stmt_load : (inner : ℕ → ℕ) (s : StmtNode) → in_stmt inner s ≤ stmt_size inner s
  stmt_load inner (DeclareNode variable elem value) = let v = option_load inner value in omega arith
  stmt_load inner (LocalArrayNode array count) = let one = load_array inner (expr_calls count) array in let c = expr_load inner count in omega arith
  stmt_load inner (SetVariableNode variable elem op unsigned value) = let v = option_load inner value in omega arith
  stmt_load inner (SetElementNode array elem place op unsigned value pos) =
      let both = two_calls inner (expr_calls place) (where_written expr_calls value) in let p = expr_load inner place in let v = option_load inner value in omega arith
  stmt_load inner (CallStmtNode call) = expr_load inner call
  stmt_load inner (BarrierNode site) = let one = load_site inner site in omega arith
  stmt_load inner (IfNode test one) =
      let both = behind_calls inner (expr_calls test) (stmt_calls one) (stmt_sites one) (stmt_arrays one) in
      let t = expr_load inner test in let a = stmt_load inner one in omega arith
  stmt_load inner (IfElseNode test one other) =
      let all = behind_calls inner (expr_calls test) (stmt_calls one ++ stmt_calls other) (stmt_sites one ++ stmt_sites other) (stmt_arrays one ++ stmt_arrays other) in
      let both = load_both inner (stmt_calls one) (stmt_calls other) (stmt_sites one) (stmt_sites other) (stmt_arrays one) (stmt_arrays other) in
      let t = expr_load inner test in let a = stmt_load inner one in let b = stmt_load inner other in omega arith
  stmt_load inner (WhileNode test body) =
      let both = behind_calls inner (expr_calls test) (stmt_calls body) (stmt_sites body) (stmt_arrays body) in
      let t = expr_load inner test in let b = stmt_load inner body in omega arith
  stmt_load inner (DoNode body test) =
      let both = load_first inner (stmt_calls body) (expr_calls test) (stmt_sites body) (stmt_arrays body) in
      let t = expr_load inner test in let b = stmt_load inner body in omega arith
  stmt_load inner (ForNode first test step body) =
      let all = load_both inner (stmts_calls first) (where_written expr_calls test ++ (stmts_calls step ++ stmt_calls body)) (stmts_sites first) (stmts_sites step ++ stmt_sites body) (stmts_arrays first) (stmts_arrays step ++ stmt_arrays body) in
      let rest = behind_calls inner (where_written expr_calls test) (stmts_calls step ++ stmt_calls body) (stmts_sites step ++ stmt_sites body) (stmts_arrays step ++ stmt_arrays body) in
      let both = load_both inner (stmts_calls step) (stmt_calls body) (stmts_sites step) (stmt_sites body) (stmts_arrays step) (stmt_arrays body) in
      let f = stmts_load inner first in let t = option_load inner test in let s = stmts_load inner step in let b = stmt_load inner body in omega arith
  stmt_load inner BreakNode = let none = load_none inner in omega arith
  stmt_load inner ContinueNode = let none = load_none inner in omega arith
  stmt_load inner (ReturnNode value) = let v = option_load inner value in omega arith
  stmt_load inner (BlockNode items) = stmts_load inner items
  stmt_load inner EmptyNode = let none = load_none inner in omega arith

  stmts_load : (inner : ℕ → ℕ) (ss : StmtNodes) → in_stmts inner ss ≤ stmts_size inner ss
  stmts_load inner NoStmts = let none = load_none inner in omega arith
  stmts_load inner (AndStmt s ss) =
      let both = load_both inner (stmt_calls s) (stmts_calls ss) (stmt_sites s) (stmts_sites ss) (stmt_arrays s) (stmts_arrays ss) in
      let one = stmt_load inner s in let rest = stmts_load inner ss in omega arith

-- what a body has is among its nodes
pub body_load : (inner : ℕ → ℕ) (body : StmtNodes) → weight inner (stmts_calls body) + length (stmts_sites body) + length (stmts_arrays body) ≤ stmts_size inner body
body_load inner body =
    let whole = stmts_load inner body in let is = load_is inner (stmts_calls body) (stmts_sites body) (stmts_arrays body) in omega arith
