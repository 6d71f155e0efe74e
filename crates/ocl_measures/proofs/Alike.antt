-- Two expansions whose callees are alike up to the cut are alike.
use Rattle.std.proofs.Common.{◌≡◌, ℕ, suc, ◌+◌, max, List, [], ◌∷◌, map, sum, fold, slice_get, Option, None, Some, refl, sym, ◌∙◌, arith}
use Rattle.ocl_program.specs.Nodes.{ExprNode, NumberNode, VariableNode, UnaryNode, BinaryNode, BothNode, EitherNode, ChooseNode, CastNode, LoadNode, CallNode, BuiltinNode, ParenNode, ArgNodes, NoArgs, ValueArg, ArrayArg, StmtNode, DeclareNode, LocalArrayNode, SetVariableNode, SetElementNode, CallStmtNode, BarrierNode, IfNode, IfElseNode, WhileNode, DoNode, ForNode, BreakNode, ContinueNode, ReturnNode, BlockNode, EmptyNode, StmtNodes, NoStmts, AndStmt, FunctionNode}
use Rattle.ocl_program.specs.Measures.{cut, where_some, nodes, args_nodes, stmt_size, stmts_size, depth, args_depth, stmt_depth, stmts_depth, control, args_control, stmt_control, stmts_control, greatest, callees, at_call, own_variables, own_sites, own_nodes, own_depth, own_control, own_calls}

-- the same up to the cut
pub record Alike (a b : ℕ) : Type 0 where
  pub same : cut a ≡ cut b

pub alike_self : {a : ℕ} → Alike a a
alike_self = record { same = refl }

pub alike_back : {a b : ℕ} → Alike a b → Alike b a
alike_back h = record { same = sym h.same }

pub alike_then : {a b c : ℕ} → Alike a b → Alike b c → Alike a c
alike_then h k = record { same = h.same ∙ k.same }

pub plus_alike : {a b c d : ℕ} → Alike a b → Alike c d → Alike (a + c) (b + d)
plus_alike h k = let p = h.same in let q = k.same in record { same = omega arith }

pub max_alike : {a b c d : ℕ} → Alike a b → Alike c d → Alike (max a c) (max b d)
max_alike h k = let p = h.same in let q = k.same in record { same = omega arith }

option_alike : (f g : ExprNode → ℕ) → ((e : ExprNode) → Alike (f e) (g e)) → (value : Option ExprNode) → Alike (where_some f value) (where_some g value)
option_alike f g same None = alike_self
option_alike f g same (Some e) = same e

mutual
  pub nodes_alike : (f g : ℕ → ℕ) → ((k : ℕ) → Alike (f k) (g k)) → (t : ExprNode) → Alike (nodes f t) (nodes g t)
  nodes_alike f g same (NumberNode value unsigned) = alike_self
  nodes_alike f g same (VariableNode variable elem) = alike_self
  nodes_alike f g same (UnaryNode op part) = plus_alike (nodes_alike f g same part) alike_self
  nodes_alike f g same (BinaryNode op unsigned left right) = plus_alike (plus_alike (nodes_alike f g same left) (nodes_alike f g same right)) alike_self
  nodes_alike f g same (BothNode left right) = plus_alike (plus_alike (nodes_alike f g same left) (nodes_alike f g same right)) alike_self
  nodes_alike f g same (EitherNode left right) = plus_alike (plus_alike (nodes_alike f g same left) (nodes_alike f g same right)) alike_self
  nodes_alike f g same (ChooseNode unsigned test one other) = plus_alike (plus_alike (plus_alike (nodes_alike f g same test) (nodes_alike f g same one)) (nodes_alike f g same other)) alike_self
  nodes_alike f g same (CastNode elem part) = plus_alike (nodes_alike f g same part) alike_self
  nodes_alike f g same (LoadNode array elem place pos) = plus_alike (nodes_alike f g same place) alike_self
  nodes_alike f g same (CallNode call args) = plus_alike (plus_alike (args_nodes_alike f g same args) (same call)) alike_self
  nodes_alike f g same (BuiltinNode which unsigned args) = plus_alike (args_nodes_alike f g same args) alike_self
  nodes_alike f g same (ParenNode part) = nodes_alike f g same part

  pub args_nodes_alike : (f g : ℕ → ℕ) → ((k : ℕ) → Alike (f k) (g k)) → (t : ArgNodes) → Alike (args_nodes f t) (args_nodes g t)
  args_nodes_alike f g same NoArgs = alike_self
  args_nodes_alike f g same (ValueArg e more) = plus_alike (nodes_alike f g same e) (args_nodes_alike f g same more)
  args_nodes_alike f g same (ArrayArg array more) = plus_alike alike_self (args_nodes_alike f g same more)

mutual
  pub stmt_size_alike : (f g : ℕ → ℕ) → ((k : ℕ) → Alike (f k) (g k)) → (t : StmtNode) → Alike (stmt_size f t) (stmt_size g t)
  stmt_size_alike f g same (DeclareNode variable elem value) = plus_alike (option_alike (nodes f) (nodes g) (λ e. nodes_alike f g same e) value) alike_self
  stmt_size_alike f g same (LocalArrayNode array count) = plus_alike (nodes_alike f g same count) alike_self
  stmt_size_alike f g same (SetVariableNode variable elem op unsigned value) = plus_alike (option_alike (nodes f) (nodes g) (λ e. nodes_alike f g same e) value) alike_self
  stmt_size_alike f g same (SetElementNode array elem place op unsigned value pos) = plus_alike (plus_alike (nodes_alike f g same place) (option_alike (nodes f) (nodes g) (λ e. nodes_alike f g same e) value)) alike_self
  stmt_size_alike f g same (CallStmtNode call) = nodes_alike f g same call
  stmt_size_alike f g same (BarrierNode site) = alike_self
  stmt_size_alike f g same (IfNode test one) = plus_alike (plus_alike (nodes_alike f g same test) (stmt_size_alike f g same one)) alike_self
  stmt_size_alike f g same (IfElseNode test one other) = plus_alike (plus_alike (plus_alike (nodes_alike f g same test) (stmt_size_alike f g same one)) (stmt_size_alike f g same other)) alike_self
  stmt_size_alike f g same (WhileNode test body) = plus_alike (plus_alike (nodes_alike f g same test) (stmt_size_alike f g same body)) alike_self
  stmt_size_alike f g same (DoNode body test) = plus_alike (plus_alike (stmt_size_alike f g same body) (nodes_alike f g same test)) alike_self
  stmt_size_alike f g same (ForNode first test step body) = plus_alike (plus_alike (plus_alike (plus_alike (stmts_size_alike f g same first) (option_alike (nodes f) (nodes g) (λ e. nodes_alike f g same e) test)) (stmts_size_alike f g same step)) (stmt_size_alike f g same body)) alike_self
  stmt_size_alike f g same BreakNode = alike_self
  stmt_size_alike f g same ContinueNode = alike_self
  stmt_size_alike f g same (ReturnNode value) = plus_alike (option_alike (nodes f) (nodes g) (λ e. nodes_alike f g same e) value) alike_self
  stmt_size_alike f g same (BlockNode items) = stmts_size_alike f g same items
  stmt_size_alike f g same EmptyNode = alike_self

  pub stmts_size_alike : (f g : ℕ → ℕ) → ((k : ℕ) → Alike (f k) (g k)) → (t : StmtNodes) → Alike (stmts_size f t) (stmts_size g t)
  stmts_size_alike f g same NoStmts = alike_self
  stmts_size_alike f g same (AndStmt s ss) = plus_alike (stmt_size_alike f g same s) (stmts_size_alike f g same ss)

mutual
  pub depth_alike : (f g : ℕ → ℕ) → ((k : ℕ) → Alike (f k) (g k)) → (t : ExprNode) → Alike (depth f t) (depth g t)
  depth_alike f g same (NumberNode value unsigned) = alike_self
  depth_alike f g same (VariableNode variable elem) = alike_self
  depth_alike f g same (UnaryNode op part) = plus_alike (depth_alike f g same part) alike_self
  depth_alike f g same (BinaryNode op unsigned left right) = max_alike (depth_alike f g same left) (plus_alike (depth_alike f g same right) alike_self)
  depth_alike f g same (BothNode left right) = max_alike (depth_alike f g same left) (plus_alike (depth_alike f g same right) alike_self)
  depth_alike f g same (EitherNode left right) = max_alike (depth_alike f g same left) (plus_alike (depth_alike f g same right) alike_self)
  depth_alike f g same (ChooseNode unsigned test one other) = plus_alike (max_alike (depth_alike f g same test) (max_alike (depth_alike f g same one) (depth_alike f g same other))) alike_self
  depth_alike f g same (CastNode elem part) = plus_alike (depth_alike f g same part) alike_self
  depth_alike f g same (LoadNode array elem place pos) = plus_alike (depth_alike f g same place) alike_self
  depth_alike f g same (CallNode call args) = plus_alike (max_alike (args_depth_alike f g same args) (same call)) alike_self
  depth_alike f g same (BuiltinNode which unsigned args) = plus_alike (args_depth_alike f g same args) alike_self
  depth_alike f g same (ParenNode part) = plus_alike (depth_alike f g same part) alike_self

  pub args_depth_alike : (f g : ℕ → ℕ) → ((k : ℕ) → Alike (f k) (g k)) → (t : ArgNodes) → Alike (args_depth f t) (args_depth g t)
  args_depth_alike f g same NoArgs = alike_self
  args_depth_alike f g same (ValueArg e more) = max_alike (depth_alike f g same e) (args_depth_alike f g same more)
  args_depth_alike f g same (ArrayArg array more) = max_alike alike_self (args_depth_alike f g same more)

mutual
  pub stmt_depth_alike : (f g : ℕ → ℕ) → ((k : ℕ) → Alike (f k) (g k)) → (t : StmtNode) → Alike (stmt_depth f t) (stmt_depth g t)
  stmt_depth_alike f g same (DeclareNode variable elem value) = option_alike (depth f) (depth g) (λ e. depth_alike f g same e) value
  stmt_depth_alike f g same (LocalArrayNode array count) = depth_alike f g same count
  stmt_depth_alike f g same (SetVariableNode variable elem op unsigned value) = option_alike (depth f) (depth g) (λ e. depth_alike f g same e) value
  stmt_depth_alike f g same (SetElementNode array elem place op unsigned value pos) = max_alike (plus_alike (depth_alike f g same place) alike_self) (option_alike (depth f) (depth g) (λ e. depth_alike f g same e) value)
  stmt_depth_alike f g same (CallStmtNode call) = depth_alike f g same call
  stmt_depth_alike f g same (BarrierNode site) = alike_self
  stmt_depth_alike f g same (IfNode test one) = max_alike (depth_alike f g same test) (stmt_depth_alike f g same one)
  stmt_depth_alike f g same (IfElseNode test one other) = max_alike (depth_alike f g same test) (max_alike (stmt_depth_alike f g same one) (stmt_depth_alike f g same other))
  stmt_depth_alike f g same (WhileNode test body) = max_alike (depth_alike f g same test) (stmt_depth_alike f g same body)
  stmt_depth_alike f g same (DoNode body test) = max_alike (stmt_depth_alike f g same body) (depth_alike f g same test)
  stmt_depth_alike f g same (ForNode first test step body) = max_alike (stmts_depth_alike f g same first) (max_alike (option_alike (depth f) (depth g) (λ e. depth_alike f g same e) test) (max_alike (stmts_depth_alike f g same step) (stmt_depth_alike f g same body)))
  stmt_depth_alike f g same BreakNode = alike_self
  stmt_depth_alike f g same ContinueNode = alike_self
  stmt_depth_alike f g same (ReturnNode value) = option_alike (depth f) (depth g) (λ e. depth_alike f g same e) value
  stmt_depth_alike f g same (BlockNode items) = stmts_depth_alike f g same items
  stmt_depth_alike f g same EmptyNode = alike_self

  pub stmts_depth_alike : (f g : ℕ → ℕ) → ((k : ℕ) → Alike (f k) (g k)) → (t : StmtNodes) → Alike (stmts_depth f t) (stmts_depth g t)
  stmts_depth_alike f g same NoStmts = alike_self
  stmts_depth_alike f g same (AndStmt s ss) = max_alike (stmt_depth_alike f g same s) (stmts_depth_alike f g same ss)

mutual
  pub control_alike : (f g : ℕ → ℕ) → ((k : ℕ) → Alike (f k) (g k)) → (t : ExprNode) → Alike (control f t) (control g t)
  control_alike f g same (NumberNode value unsigned) = alike_self
  control_alike f g same (VariableNode variable elem) = alike_self
  control_alike f g same (UnaryNode op part) = control_alike f g same part
  control_alike f g same (BinaryNode op unsigned left right) = max_alike (control_alike f g same left) (control_alike f g same right)
  control_alike f g same (BothNode left right) = max_alike (control_alike f g same left) (plus_alike (control_alike f g same right) alike_self)
  control_alike f g same (EitherNode left right) = max_alike (control_alike f g same left) (plus_alike (control_alike f g same right) alike_self)
  control_alike f g same (ChooseNode unsigned test one other) = max_alike (control_alike f g same test) (plus_alike (max_alike (control_alike f g same one) (control_alike f g same other)) alike_self)
  control_alike f g same (CastNode elem part) = control_alike f g same part
  control_alike f g same (LoadNode array elem place pos) = control_alike f g same place
  control_alike f g same (CallNode call args) = max_alike (args_control_alike f g same args) (same call)
  control_alike f g same (BuiltinNode which unsigned args) = args_control_alike f g same args
  control_alike f g same (ParenNode part) = control_alike f g same part

  pub args_control_alike : (f g : ℕ → ℕ) → ((k : ℕ) → Alike (f k) (g k)) → (t : ArgNodes) → Alike (args_control f t) (args_control g t)
  args_control_alike f g same NoArgs = alike_self
  args_control_alike f g same (ValueArg e more) = max_alike (control_alike f g same e) (args_control_alike f g same more)
  args_control_alike f g same (ArrayArg array more) = args_control_alike f g same more

mutual
  pub stmt_control_alike : (f g : ℕ → ℕ) → ((k : ℕ) → Alike (f k) (g k)) → (t : StmtNode) → Alike (stmt_control f t) (stmt_control g t)
  stmt_control_alike f g same (DeclareNode variable elem value) = option_alike (control f) (control g) (λ e. control_alike f g same e) value
  stmt_control_alike f g same (LocalArrayNode array count) = control_alike f g same count
  stmt_control_alike f g same (SetVariableNode variable elem op unsigned value) = option_alike (control f) (control g) (λ e. control_alike f g same e) value
  stmt_control_alike f g same (SetElementNode array elem place op unsigned value pos) = max_alike (control_alike f g same place) (option_alike (control f) (control g) (λ e. control_alike f g same e) value)
  stmt_control_alike f g same (CallStmtNode call) = control_alike f g same call
  stmt_control_alike f g same (BarrierNode site) = alike_self
  stmt_control_alike f g same (IfNode test one) = max_alike (control_alike f g same test) (plus_alike (stmt_control_alike f g same one) alike_self)
  stmt_control_alike f g same (IfElseNode test one other) = max_alike (control_alike f g same test) (plus_alike (max_alike (stmt_control_alike f g same one) (stmt_control_alike f g same other)) alike_self)
  stmt_control_alike f g same (WhileNode test body) = plus_alike (max_alike (control_alike f g same test) (stmt_control_alike f g same body)) alike_self
  stmt_control_alike f g same (DoNode body test) = plus_alike (max_alike (stmt_control_alike f g same body) (control_alike f g same test)) alike_self
  stmt_control_alike f g same (ForNode first test step body) = max_alike (stmts_control_alike f g same first) (plus_alike (max_alike (option_alike (control f) (control g) (λ e. control_alike f g same e) test) (max_alike (stmts_control_alike f g same step) (stmt_control_alike f g same body))) alike_self)
  stmt_control_alike f g same BreakNode = alike_self
  stmt_control_alike f g same ContinueNode = alike_self
  stmt_control_alike f g same (ReturnNode value) = option_alike (control f) (control g) (λ e. control_alike f g same e) value
  stmt_control_alike f g same (BlockNode items) = stmts_control_alike f g same items
  stmt_control_alike f g same EmptyNode = alike_self

  pub stmts_control_alike : (f g : ℕ → ℕ) → ((k : ℕ) → Alike (f k) (g k)) → (t : StmtNodes) → Alike (stmts_control f t) (stmts_control g t)
  stmts_control_alike f g same NoStmts = alike_self
  stmts_control_alike f g same (AndStmt s ss) = max_alike (stmt_control_alike f g same s) (stmts_control_alike f g same ss)

-- ---- what a function has, where what its callees have is alike

abbrev pub AlikeIn : List ℕ → (ℕ → ℕ) → (ℕ → ℕ) → Type 0
AlikeIn ks g h = (i k : ℕ) → slice_get ks i ≡ Some k → Alike (g k) (h k)

adds_alike : (f g : ℕ → ℕ) (ks : List ℕ) → AlikeIn ks f g → (a b : ℕ) → Alike a b → Alike (fold (λ s x. s + x) a (map f ks)) (fold (λ s x. s + x) b (map g ks))
adds_alike f g [] same a b h = h
adds_alike f g (k ∷ ks) same a b h = adds_alike f g ks (λ i j e. same (suc i) j e) (a + f k) (b + g k) (plus_alike h (same 0 k refl))

pub sum_alike : (f g : ℕ → ℕ) (ks : List ℕ) → AlikeIn ks f g → Alike (sum (map f ks)) (sum (map g ks))
sum_alike f g ks same = adds_alike f g ks same 0 0 alike_self

pub greatest_alike : (f g : ℕ → ℕ) (ks : List ℕ) → AlikeIn ks f g → Alike (greatest (map (λ k. f k + 1) ks)) (greatest (map (λ k. g k + 1) ks))
greatest_alike f g [] same = alike_self
greatest_alike f g (k ∷ ks) same = max_alike (plus_alike (same 0 k refl) alike_self) (greatest_alike f g ks (λ i j e. same (suc i) j e))

called_alike : (g h : ℕ → ℕ) (found : Option ℕ) → ((k : ℕ) → found ≡ Some k → Alike (g k) (h k)) → Alike (where_some g found) (where_some h found)
called_alike g h None same = alike_self
called_alike g h (Some k) same = same k refl

-- that what a function has depends on its callees alone, up to the cut
abbrev pub Respects : (FunctionNode → (ℕ → ℕ) → ℕ) → Type 0
Respects own = (f : FunctionNode) (g h : ℕ → ℕ) → AlikeIn (callees f) g h → Alike (own f g) (own f h)

pub variables_respect : Respects own_variables
variables_respect f g h same = plus_alike alike_self (sum_alike g h (callees f) same)

pub sites_respect : Respects own_sites
sites_respect f g h same = plus_alike alike_self (sum_alike g h (callees f) same)

pub calls_respect : Respects own_calls
calls_respect f g h same = greatest_alike g h (callees f) same

pub nodes_respect : Respects own_nodes
nodes_respect f g h same = stmts_size_alike (at_call f g) (at_call f h) (λ k. called_alike g h (slice_get (callees f) k) (λ c e. same k c e)) f.body

pub depth_respect : Respects own_depth
depth_respect f g h same = stmts_depth_alike (at_call f g) (at_call f h) (λ k. called_alike g h (slice_get (callees f) k) (λ c e. same k c e)) f.body

pub control_respect : Respects own_control
control_respect f g h same = stmts_control_alike (at_call f g) (at_call f h) (λ k. called_alike g h (slice_get (callees f) k) (λ c e. same k c e)) f.body
