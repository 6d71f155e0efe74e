-- Where no function reaches a call of itself, as many levels of calls as there are functions expand all of them.
use Rattle.std.proofs.Common.{◌≡◌, refl, sym, ap, ◌∙◌, subst, ℕ, zero, suc, ◌+◌, ◌<◌, ◌≤◌, ◌==◌, nat_eq, Bool, true, false, ◌||◌, inl, inr, ◌-◌, if◌then◌else◌, List, [], ◌∷◌, length, slice_get, Option, None, Some, arith, eqb-true, eq-eqb}
use Rattle.std.specs.List.{list_any}
use Rattle.ocl_ast.specs.declared.units.Param.{Param}
use Rattle.std.proofs.lemmas.Bool.{cond_both, cases_Bool, false≢true, or_cases, or_left, or_right}
use Rattle.std.proofs.lemmas.Option.{slice_get_within}
use Rattle.ocl_program.specs.declared.functions.CallSite.{CallSite}
use Rattle.ocl_program.specs.Nodes.{ExprNode, NumberNode, VariableNode, UnaryNode, BinaryNode, BothNode, EitherNode, ChooseNode, CastNode, LoadNode, CallNode, BuiltinNode, ParenNode, ArgNodes, NoArgs, ValueArg, ArrayArg, StmtNode, DeclareNode, LocalArrayNode, SetVariableNode, SetElementNode, CallStmtNode, BarrierNode, IfNode, IfElseNode, WhileNode, DoNode, ForNode, BreakNode, ContinueNode, ReturnNode, BlockNode, EmptyNode, StmtNodes, NoStmts, AndStmt, FunctionNode}
use Rattle.ocl_measures.specs.Recursion.{calls_at, leads, some_leads}
use Rattle.ocl_sem.specs.Source.{Scope, scope_at, site_of, callee_of, variable_in, array_in}
use Rattle.ocl_inline.specs.Trees.{FlatArgs, UnaryFlat, BinaryFlat, BothFlat, EitherFlat, ChooseFlat, CastFlat, LoadFlat, CallFlat, LostFlat, BuiltinFlat, ParenFlat, NumberArg, NamedArg, SomeFlat, DeclareFlat, LocalArrayFlat, SetVariableFlat, SetElementFlat, CallStmtFlat, IfFlat, IfElseFlat, WhileFlat, DoFlat, ForFlat, ReturnFlat, BlockFlat, AndFlat}
use Rattle.ocl_inline.specs.Expansion.{Bodies, call_flat, flat_expr, flat_args, flat_value, flat_stmt, flat_stmts, expanded, binding_at}
use Rattle.program_laws.specs.Laws.{HaveNoRecursion}
use Rattle.ocl_inline.specs.Laws.{AreBodies}

pub both_alike : {A B C : Type 0} (f : A → B → C) (a a' : A) (b b' : B) → a ≡ a' → b ≡ b' → f a b ≡ f a' b'
both_alike f a a' b b' e e' = ap (λ x. f x b) e ∙ ap (λ y. f a' y) e'

-- ---- a body is expanded by the bodies at its calls alone

-- two ways to expand agree at each call of an active call's function
abbrev pub AgreeIn : Bodies → Bodies → List FunctionNode → Scope → Type 0
AgreeIn one other program scope =
    (call : ℕ) (args : ArgNodes) (site : CallSite) (callee : FunctionNode) → site_of scope call ≡ Some site → slice_get program site.callee ≡ Some callee
    → one (scope_at scope site callee args) ≡ other (scope_at scope site callee args)

pub call_agrees : (one other : Bodies) (program : List FunctionNode) (scope : Scope) → AgreeIn one other program scope → (call : ℕ) (args : ArgNodes)
    (site : Option CallSite) (callee : Option FunctionNode) → site_of scope call ≡ site → callee_of program site ≡ callee
    → (bound bound' : ℕ → List Param → FlatArgs) → ((first : ℕ) (params : List Param) → bound first params ≡ bound' first params)
    → call_flat one scope site callee args bound ≡ call_flat other scope site callee args bound'
call_agrees one other program scope agree call args None callee e e' bound bound' same = ap LostFlat (same 0 [])
call_agrees one other program scope agree call args (Some site) None e e' bound bound' same = ap LostFlat (same 0 [])
call_agrees one other program scope agree call args (Some site) (Some callee) e e' bound bound' same =
    both_alike CallFlat _ _ _ _ (same (scope_at scope site callee args).variables callee.params) (agree call args site callee e e')

abbrev mutual
  pub expr_agrees : (one other : Bodies) (program : List FunctionNode) (scope : Scope) → AgreeIn one other program scope → (e : ExprNode)
      → flat_expr one program scope e ≡ flat_expr other program scope e
  expr_agrees one other program scope agree (NumberNode value unsigned) = refl
  expr_agrees one other program scope agree (VariableNode variable elem) = refl
  expr_agrees one other program scope agree (UnaryNode op part) = ap (UnaryFlat op) (expr_agrees one other program scope agree part)
  expr_agrees one other program scope agree (BinaryNode op unsigned left right) =
      both_alike (BinaryFlat op unsigned) _ _ _ _ (expr_agrees one other program scope agree left) (expr_agrees one other program scope agree right)
  expr_agrees one other program scope agree (BothNode left right) =
      both_alike BothFlat _ _ _ _ (expr_agrees one other program scope agree left) (expr_agrees one other program scope agree right)
  expr_agrees one other program scope agree (EitherNode left right) =
      both_alike EitherFlat _ _ _ _ (expr_agrees one other program scope agree left) (expr_agrees one other program scope agree right)
  expr_agrees one other program scope agree (ChooseNode unsigned test chosen left_out) =
      both_alike (λ t y. ChooseFlat unsigned t y (flat_expr one program scope left_out)) _ _ _ _ (expr_agrees one other program scope agree test) (expr_agrees one other program scope agree chosen)
      ∙ ap (λ n. ChooseFlat unsigned (flat_expr other program scope test) (flat_expr other program scope chosen) n) (expr_agrees one other program scope agree left_out)
  expr_agrees one other program scope agree (CastNode elem part) = ap (CastFlat elem) (expr_agrees one other program scope agree part)
  expr_agrees one other program scope agree (LoadNode array elem place pos) =
      ap (λ x. LoadFlat (array_in scope array) elem x pos) (expr_agrees one other program scope agree place)
  expr_agrees one other program scope agree (CallNode call args) =
      call_agrees one other program scope agree call args (site_of scope call) (callee_of program (site_of scope call)) refl refl
      (λ first params. flat_args one program scope first params 0 args) (λ first params. flat_args other program scope first params 0 args)
      (λ first params. args_agree one other program scope agree first params 0 args)
  expr_agrees one other program scope agree (BuiltinNode which unsigned args) = ap (BuiltinFlat which unsigned) (args_agree one other program scope agree 0 [] 0 args)
  expr_agrees one other program scope agree (ParenNode part) = ap ParenFlat (expr_agrees one other program scope agree part)

  pub args_agree : (one other : Bodies) (program : List FunctionNode) (scope : Scope) → AgreeIn one other program scope → (first : ℕ) (params : List Param) (k : ℕ) (args : ArgNodes)
      → flat_args one program scope first params k args ≡ flat_args other program scope first params k args
  args_agree one other program scope agree first params k NoArgs = refl
  args_agree one other program scope agree first params k (ValueArg e more) =
      both_alike (λ x y. NumberArg x (binding_at first params k) y) _ _ _ _ (expr_agrees one other program scope agree e) (args_agree one other program scope agree first params (k + 1) more)
  args_agree one other program scope agree first params k (ArrayArg array more) =
      ap (NamedArg (array_in scope array)) (args_agree one other program scope agree first params (k + 1) more)

pub value_agrees : (one other : Bodies) (program : List FunctionNode) (scope : Scope) → AgreeIn one other program scope → (value : Option ExprNode)
    → flat_value one program scope value ≡ flat_value other program scope value
value_agrees one other program scope agree None = refl
value_agrees one other program scope agree (Some e) = ap SomeFlat (expr_agrees one other program scope agree e)

abbrev mutual
  pub stmt_agrees : (one other : Bodies) (program : List FunctionNode) (scope : Scope) → AgreeIn one other program scope → (s : StmtNode)
      → flat_stmt one program scope s ≡ flat_stmt other program scope s
  stmt_agrees one other program scope agree (DeclareNode variable elem value) = ap (DeclareFlat (variable_in scope variable) elem) (value_agrees one other program scope agree value)
  stmt_agrees one other program scope agree (LocalArrayNode array count) = ap (LocalArrayFlat array) (expr_agrees one other program scope agree count)
  stmt_agrees one other program scope agree (SetVariableNode variable elem op unsigned value) =
      ap (SetVariableFlat (variable_in scope variable) elem op unsigned) (value_agrees one other program scope agree value)
  stmt_agrees one other program scope agree (SetElementNode array elem place op unsigned value pos) =
      both_alike (λ x y. SetElementFlat (array_in scope array) elem x op unsigned y pos) _ _ _ _ (expr_agrees one other program scope agree place) (value_agrees one other program scope agree value)
  stmt_agrees one other program scope agree (CallStmtNode call) = ap CallStmtFlat (expr_agrees one other program scope agree call)
  stmt_agrees one other program scope agree (BarrierNode site) = refl
  stmt_agrees one other program scope agree (IfNode test chosen) = both_alike IfFlat _ _ _ _ (expr_agrees one other program scope agree test) (stmt_agrees one other program scope agree chosen)
  stmt_agrees one other program scope agree (IfElseNode test chosen left_out) =
      both_alike (λ t y. IfElseFlat t y (flat_stmt one program scope left_out)) _ _ _ _ (expr_agrees one other program scope agree test) (stmt_agrees one other program scope agree chosen)
      ∙ ap (λ n. IfElseFlat (flat_expr other program scope test) (flat_stmt other program scope chosen) n) (stmt_agrees one other program scope agree left_out)
  stmt_agrees one other program scope agree (WhileNode test body) = both_alike WhileFlat _ _ _ _ (expr_agrees one other program scope agree test) (stmt_agrees one other program scope agree body)
  stmt_agrees one other program scope agree (DoNode body test) = both_alike DoFlat _ _ _ _ (stmt_agrees one other program scope agree body) (expr_agrees one other program scope agree test)
  stmt_agrees one other program scope agree (ForNode first test step body) =
      both_alike (λ x y. ForFlat x y (flat_stmts one program scope step) (flat_stmt one program scope body)) _ _ _ _ (stmts_agree one other program scope agree first) (value_agrees one other program scope agree test)
      ∙ both_alike (λ x y. ForFlat (flat_stmts other program scope first) (flat_value other program scope test) x y) _ _ _ _ (stmts_agree one other program scope agree step) (stmt_agrees one other program scope agree body)
  stmt_agrees one other program scope agree BreakNode = refl
  stmt_agrees one other program scope agree ContinueNode = refl
  stmt_agrees one other program scope agree (ReturnNode value) = ap (ReturnFlat scope.function.gives) (value_agrees one other program scope agree value)
  stmt_agrees one other program scope agree (BlockNode items) = ap BlockFlat (stmts_agree one other program scope agree items)
  stmt_agrees one other program scope agree EmptyNode = refl

  pub stmts_agree : (one other : Bodies) (program : List FunctionNode) (scope : Scope) → AgreeIn one other program scope → (ss : StmtNodes)
      → flat_stmts one program scope ss ≡ flat_stmts other program scope ss
  stmts_agree one other program scope agree NoStmts = refl
  stmts_agree one other program scope agree (AndStmt s ss) = both_alike AndFlat _ _ _ _ (stmt_agrees one other program scope agree s) (stmts_agree one other program scope agree ss)

-- ---- how many numbers are left

abbrev pub counted : (ℕ → Bool) → ℕ → ℕ
counted some zero = 0
counted some (suc n) = (if some n then 1 else 0) + counted some n

abbrev pub without : ℕ → (ℕ → Bool) → ℕ → Bool
without k some i = if nat_eq i k then false else some i

all_counted : (n : ℕ) → counted (λ _. true) n ≤ n
all_counted zero = omega arith
all_counted (suc n) = let h : counted (λ _. true) n ≤ n = all_counted n in omega arith

fewer : (some : ℕ → Bool) (k n : ℕ) → counted (without k some) n ≤ counted some n
fewer some k zero = omega arith
fewer some k (suc n) =
    let h : counted (without k some) n ≤ counted some n = fewer some k n in
    let P : Bool → Type 0 = λ b. (if b then 1 else 0) + counted (without k some) n ≤ (if some n then 1 else 0) + counted some n in
    cond_both (nat_eq n k) false (some n) P
    (λ e. cond_both (some n) 1 0 (λ x. 0 + counted (without k some) n ≤ x + counted some n) (λ _. omega arith) (λ _. omega arith))
    (λ e. omega arith)

one_fewer : (some : ℕ → Bool) (k n : ℕ) → k < n → some k ≡ true → counted (without k some) n + 1 ≤ counted some n
one_fewer some k zero below here = absurd (omega arith)
one_fewer some k (suc n) below here =
    let h : counted (without k some) n ≤ counted some n = fewer some k n in
    let P : Bool → Type 0 = λ b. (if b then 1 else 0) + counted (without k some) n + 1 ≤ (if some n then 1 else 0) + counted some n in
    cond_both (nat_eq n k) false (some n) P
    (λ e. let there : some n ≡ true = ap some (eqb-true n k e) ∙ here in rw there (omega arith))
    (λ e.
    let less : k < n = omega (arith, λ (same : n ≡ k). false≢true (sym e ∙ eq-eqb n k same)) in
    let more : counted (without k some) n + 1 ≤ counted some n = one_fewer some k n less here in
    omega arith)

-- ---- calls that lead on

any_more : (p q : CallSite → Bool) → ((c : CallSite) → p c ≡ true → q c ≡ true) → (cs : List CallSite) → list_any p cs ≡ true → list_any q cs ≡ true
any_more p q more [] e = absurd (false≢true e)
any_more p q more (c ∷ cs) e = elim (or_cases (p c) (list_any p cs) e) [
  | inl here ↦ or_left (q c) (list_any q cs) (more c here)
  | inr there ↦ or_right (q c) (list_any q cs) (any_more p q more cs there)
]

any_at : (q : CallSite → Bool) (cs : List CallSite) (i : ℕ) (c : CallSite) → slice_get cs i ≡ Some c → q c ≡ true → list_any q cs ≡ true
any_at q [] i c e here = cc
any_at q (x ∷ cs) zero c e here = let same : x ≡ c = cc in or_left (q x) (list_any q cs) (ap q same ∙ here)
any_at q (x ∷ cs) (suc i) c e here = or_right (q x) (list_any q cs) (any_at q cs i c e here)

-- one call leads to its callee
first_call : (program : List FunctionNode) (n k i : ℕ) (f : FunctionNode) (site : CallSite) → slice_get program k ≡ Some f → slice_get f.calls i ≡ Some site
    → leads program site.callee (suc n) k ≡ true
unfolding leads
first_call program n k i f site e e' =
    ap (λ found. some_leads (leads program site.callee n) site.callee (calls_at found)) e
    ∙ any_at (λ c. (c.callee == site.callee) || leads program site.callee n c.callee) f.calls i site e' (or_left _ (leads program site.callee n site.callee) (eq-eqb site.callee site.callee refl))

-- as many calls as lead there, and one more
leads_more : (program : List FunctionNode) (to n from : ℕ) → leads program to n from ≡ true → leads program to (suc n) from ≡ true
unfolding leads
leads_more program to zero from e = absurd (false≢true e)
leads_more program to (suc n) from e =
    any_more (λ c. (c.callee == to) || leads program to n c.callee) (λ c. (c.callee == to) || leads program to (suc n) c.callee)
    (λ c h. elim (or_cases (c.callee == to) (leads program to n c.callee) h) [
      | inl here ↦ or_left (c.callee == to) (leads program to (suc n) c.callee) here
      | inr there ↦ or_right (c.callee == to) (leads program to (suc n) c.callee) (leads_more program to n c.callee there)
    ]) (calls_at (slice_get program from)) e

leads_by : (program : List FunctionNode) (to d n from : ℕ) → leads program to n from ≡ true → leads program to (d + n) from ≡ true
leads_by program to zero n from e = let same : n ≡ 0 + n = omega arith in subst (λ x. leads program to x from ≡ true) same e
leads_by program to (suc d) n from e =
    let same : suc (d + n) ≡ suc d + n = omega arith in
    subst (λ x. leads program to x from ≡ true) same (leads_more program to (d + n) from (leads_by program to d n from e))

leads_within : (program : List FunctionNode) (to n m from : ℕ) → n ≤ m → leads program to n from ≡ true → leads program to m from ≡ true
leads_within program to n m from le e =
    let same : (m - n) + n ≡ m = omega arith in
    subst (λ x. leads program to x from ≡ true) same (leads_by program to (m - n) n from e)

-- what leads to a function leads to what it calls
leads_on : (program : List FunctionNode) (n k i from : ℕ) (f : FunctionNode) (site : CallSite) → slice_get program k ≡ Some f → slice_get f.calls i ≡ Some site
    → leads program k n from ≡ true → leads program site.callee (suc n) from ≡ true
unfolding leads
leads_on program zero k i from f site e e' h = absurd (false≢true h)
leads_on program (suc n) k i from f site e e' h =
    any_more (λ c. (c.callee == k) || leads program k n c.callee) (λ c. (c.callee == site.callee) || leads program site.callee (suc n) c.callee)
    (λ c here. elim (or_cases (c.callee == k) (leads program k n c.callee) here) [
      | inl at ↦ or_right (c.callee == site.callee) (leads program site.callee (suc n) c.callee)
          (subst (λ x. leads program site.callee (suc n) x ≡ true) (sym (eqb-true c.callee k at)) (first_call program n k i f site e e'))
      | inr there ↦ or_right (c.callee == site.callee) (leads program site.callee (suc n) c.callee) (leads_on program n k i c.callee f site e e' there)
    ]) (calls_at (slice_get program from)) h

-- ---- as many levels as there are functions

-- The functions that may still be called: all but those that lead to this one.
still_allowed : (program : List FunctionNode) → HaveNoRecursion program → (m n : ℕ) (some : ℕ → Bool) → n + m ≤ length program → (k : ℕ) → k < length program
    → ((a : ℕ) → some a ≡ false → leads program k n a ≡ true) → some k ≡ true
still_allowed program none m n some room k below led = elim (cases_Bool (some k)) [
  | inl allowed ↦ allowed
  | inr not_allowed ↦ absurd (false≢true (sym (none k below) ∙ leads_within program k n (length program) k (omega arith) (led k not_allowed)))
]

pub deep_enough : (program : List FunctionNode) → HaveNoRecursion program → (m n : ℕ) (some : ℕ → Bool) → counted some (length program) ≤ m → n + m ≤ length program
    → (k : ℕ) (scope : Scope) → slice_get program k ≡ Some scope.function → ((a : ℕ) → some a ≡ false → leads program k n a ≡ true)
    → expanded m program scope ≡ expanded (suc m) program scope
unfolding expanded
deep_enough program none zero n some few room k scope e led =
    let below : k < length program = slice_get_within program k scope.function e in
    let less : counted (without k some) (length program) + 1 ≤ counted some (length program) =
    one_fewer some k (length program) below (still_allowed program none zero n some room k below led) in
    absurd (omega arith)
deep_enough program none (suc m) n some few room k scope e led =
    let below : k < length program = slice_get_within program k scope.function e in
    let less : counted (without k some) (length program) + 1 ≤ counted some (length program) =
    one_fewer some k (length program) below (still_allowed program none (suc m) n some room k below led) in
    stmts_agree (expanded m program) (expanded (suc m) program) program scope
    (λ call args site callee e' e''. deep_enough program none m (suc n) (without k some) (omega arith) (omega arith) site.callee (scope_at scope site callee args) e''
    (λ a gone. elim (cases_Bool (nat_eq a k)) [
      | inl at ↦ subst (λ x. leads program site.callee (suc n) x ≡ true) (sym (eqb-true a k at)) (first_call program n k call scope.function site e e')
      | inr other ↦ leads_on program n k call a scope.function site e e' (led a (ap (λ b. if b then false else some a) (sym other) ∙ gone))
    ]))
    scope.function.body

pub bodies_expanded : (program : List FunctionNode) → HaveNoRecursion program → AreBodies (expanded (length program) program) program
unfolding expanded
bodies_expanded program none scope k e =
    deep_enough program none (length program) 0 (λ _. true) (all_counted (length program)) (omega arith) k scope e (λ a h. absurd (false≢true (sym h)))
