-- Each barrier of the normal form is one of the flat kernel's, and stands no more often.
use Rattle.std.proofs.Common.{◌≡◌, ℕ, suc, ◌+◌, ◌≤◌, ◌==◌, Bool, true, false, List, [], ◌++◌, refl, arith}
use Rattle.std.specs.List.{count_by}
use Rattle.vx_base.specs.declared.types.Elem.{Elem}
use Rattle.vx_base.specs.declared.types.Pos.{Pos}
use Rattle.ocl_ast.specs.declared.exprs.BinOp.{BinOp}
use Rattle.ocl_ast.specs.declared.exprs.BinOp.TheVariants.{Add, Sub}
use Rattle.ocl_ast.specs.declared.exprs.UnOp.{UnOp}
use Rattle.ocl_ast.specs.declared.stmts.AssignOp.{AssignOp}
use Rattle.ocl_ast.specs.declared.stmts.AssignOp.TheVariants as assign
use Rattle.ocl_ast.specs.declared.units.Gives.{Gives}
use Rattle.ocl_ast.specs.declared.units.Gives.TheVariants.{Nothing, Value}
use Rattle.ocl_program.specs.declared.exprs.ArrayRef.{ArrayRef}
use Rattle.ocl_program.specs.declared.exprs.Builtin.{Builtin}
use Rattle.ocl_program.specs.declared.exprs.Builtin.TheVariants.{Min, Max}
use Rattle.kir.specs.Measures.{sites}
use Rattle.kir.specs.Trees.{Operand, VariableOf, NumberOf, Set, Fit, If, Loop, Return, Call, Ops, NoOps, AndOp}
use Rattle.ocl_inline.specs.FlatNumbers.{AreDifferent, flat_expr_sites, flat_value_sites, flat_args_sites, flat_stmt_sites, flat_sites}
use Rattle.ocl_inline.specs.Trees.{FlatValue, NoFlat, SomeFlat, FlatExpr, NumberFlat, VariableFlat, UnaryFlat, BinaryFlat, BothFlat, EitherFlat, ChooseFlat, CastFlat, LoadFlat, CallFlat, LostFlat, BuiltinFlat, ParenFlat, FlatArgs, NoFlatArgs, NumberArg, NamedArg, FlatStmt, DeclareFlat, LocalArrayFlat, SetVariableFlat, SetElementFlat, CallStmtFlat, BarrierFlat, IfFlat, IfElseFlat, WhileFlat, DoFlat, ForFlat, BreakFlat, ContinueFlat, ReturnFlat, BlockFlat, EmptyFlat, FlatStmts, NoFlats, AndFlat, FlatKernel}
use Rattle.ocl_inline.specs.declared.trees.Binding.{Binding}
use Rattle.ocl_inline.specs.declared.trees.Binding.TheVariants.{Variable as ToVariable, Dropped}
use Rattle.ocl_inline.proofs.Meetings.{met, met_append, met_counts, are_different, met_once}
use Rattle.ocl_norm.specs.Normal.{Fragment, calls, right_calls, right_branches, pair_ops, bound_ops, load_ops, store_ops, restore_ops, combined_variable, assigned_variable, changed_element, assigned_element, given_ops, value_ops, builtin_ops, args_ops, right_ops, declared_ops, return_ops, loop_ops, stmt_ops, stmts_ops, normal_kernel}
use Rattle.ocl_norm.specs.Operators.{truth_ops, unary_ops, binary_ops, one_ops, two_ops}
use Rattle.ocl_norm.specs.Standings.{Standing, Named, standing, right_standing, operand_at, copied, held_at, above, settled}
use Rattle.ocl_norm.proofs.InFront.{InFront, truth_in, unary_in, binary_in, one_in, two_in, copied_in, settled_in}

-- how often the barrier n stands in operations
abbrev pub seen : ℕ → Ops → ℕ
seen n x = met n (sites x)

-- ---- operations

-- operations among which the barrier stands so often
abbrev pub IsSeen : ℕ → ℕ → Ops → Type 0
IsSeen n times x = seen n x ≡ times

front_seen : (n times d : ℕ) → InFront (IsSeen n times) d
front_seen n times d = record {
  set = λ j a x more e. e;
  calculate = λ j op a b x more e. e;
  fit = λ j elem a x more e. e;
  id = λ j which a x more e. e;
}

if_seen : (n : ℕ) (test : Operand) (one other c : Ops) → seen n (AndOp (If test one other) c) ≡ seen n one + seen n other + seen n c
if_seen n test one other c =
    let h : met n ((sites one ++ sites other) ++ sites c) ≡ met n (sites one ++ sites other) + met n (sites c) = met_append n (sites one ++ sites other) (sites c) in
    let k : met n (sites one ++ sites other) ≡ met n (sites one) + met n (sites other) = met_append n (sites one) (sites other) in omega arith

loop_seen : (n : ℕ) (head : Ops) (test : Operand) (body st c : Ops)
    → seen n (AndOp (Loop head test body st) c) ≡ seen n head + seen n body + seen n st + seen n c
loop_seen n head test body st c =
    let h : met n ((sites head ++ (sites body ++ sites st)) ++ sites c) ≡ met n (sites head ++ (sites body ++ sites st)) + met n (sites c) =
    met_append n (sites head ++ (sites body ++ sites st)) (sites c) in
    let k : met n (sites head ++ (sites body ++ sites st)) ≡ met n (sites head) + met n (sites body ++ sites st) = met_append n (sites head) (sites body ++ sites st) in
    let j : met n (sites body ++ sites st) ≡ met n (sites body) + met n (sites st) = met_append n (sites body) (sites st) in omega arith

call_seen : (n : ℕ) (body c : Ops) → seen n (AndOp (Call body) c) ≡ seen n body + seen n c
call_seen n body c = met_append n (sites body) (sites c)

-- ---- parts

-- A part in which the barrier stands at most so often, in front of others.
abbrev pub Few : ℕ → ℕ → Fragment → Type 0
Few n times part = (d : ℕ) (c : Ops) → seen n (part d c) ≤ times + seen n c

-- and one that has none
abbrev pub Without : ℕ → Fragment → Type 0
Without n part = (d : ℕ) (c : Ops) → seen n (part d c) ≡ seen n c

more_few : (n times times' : ℕ) (part : Fragment) → times ≤ times' → Few n times part → Few n times' part
more_few n times times' part le few d c = let h : seen n (part d c) ≤ times + seen n c = few d c in omega arith

truth_seen : (n : ℕ) (a : Operand) → Without n (truth_ops a)
truth_seen n a d c = truth_in (IsSeen n (seen n c)) d (front_seen n (seen n c) d) a c refl

unary_seen : (n : ℕ) (op : UnOp) (a : Operand) → Without n (unary_ops op a)
unary_seen n op a d c = unary_in (IsSeen n (seen n c)) d (front_seen n (seen n c) d) op a c refl

binary_seen : (n : ℕ) (op : BinOp) (unsigned : Bool) (a b : Operand) → Without n (binary_ops op unsigned a b)
binary_seen n op unsigned a b d c = binary_in (IsSeen n (seen n c)) d (front_seen n (seen n c) d) op unsigned a b c refl

one_seen : (n : ℕ) (which : Builtin) (unsigned : Bool) (a : Operand) → Without n (one_ops which unsigned a)
one_seen n which unsigned a d c = one_in (IsSeen n (seen n c)) d (front_seen n (seen n c) d) which unsigned a c refl

two_seen : (n : ℕ) (which : Builtin) (unsigned : Bool) (a b : Operand) → Without n (two_ops which unsigned a b)
two_seen n which unsigned a b d c = two_in (IsSeen n (seen n c)) d (front_seen n (seen n c) d) which unsigned a b c refl

copied_seen : (n : ℕ) (calls : Bool) (s : Standing) → Without n (copied calls s)
copied_seen n calls s d c = copied_in (IsSeen n (seen n c)) d (front_seen n (seen n c) d) calls s c refl

settled_seen : (n : ℕ) (s : Standing) → Without n (settled s)
settled_seen n s d c = settled_in (IsSeen n (seen n c)) d (front_seen n (seen n c) d) s c refl

bound_seen : (n : ℕ) (binding : Binding) (a : Operand) (c : Ops) → seen n (bound_ops binding a c) ≡ seen n c
bound_seen n (ToVariable variable elem) a c = refl
bound_seen n Dropped a c = refl

given_seen : (n : ℕ) (gives : Gives) (a : Operand) (result : ℕ) (c : Ops) → seen n (given_ops gives a result c) ≡ seen n c
given_seen n Nothing a result c = refl
given_seen n (Value elem) a result c = refl

restore_seen : (n : ℕ) (checks : Bool) (array : ArrayRef) (elem : Elem) (pos : Pos) (place value : Operand) (c : Ops)
    → seen n (restore_ops checks array elem pos place value c) ≡ seen n c
restore_seen n true array elem pos place value c = refl
restore_seen n false array elem pos place value c = refl

pair_seen : (n t t' : ℕ) (left : Fragment) (s : Standing) (right : Fragment) (s' : Standing) (calls : Bool) (join : Operand → Operand → ℕ → Ops → Ops) → Few n t left → Few n t' right
    → ((a b : Operand) → Without n (join a b)) → Few n (t + t') (pair_ops left s right s' calls join)
pair_seen n t t' left s right s' calls join one other joins d c =
    let y : Ops = join (held_at calls s d) (operand_at s' (above calls s d)) d c in
    let x : Ops = right (above calls s d) y in
    let h1 : seen n (left d (copied calls s d x)) ≤ t + seen n (copied calls s d x) = one d (copied calls s d x) in
    let h2 : seen n (copied calls s d x) ≡ seen n x = copied_seen n calls s d x in
    let h3 : seen n x ≤ t' + seen n y = other (above calls s d) y in
    let h4 : seen n y ≡ seen n c = joins (held_at calls s d) (operand_at s' (above calls s d)) d c in omega arith

combined_variable_seen : (n t : ℕ) (op : BinOp) (unsigned : Bool) (variable : ℕ) (elem : Elem) (right : Fragment) (s : Standing) (calls : Bool) → Few n t right
    → Few n t (combined_variable op unsigned variable elem right s calls)
combined_variable_seen n t op unsigned variable elem right s calls few d c =
    let x : Ops = AndOp (Fit variable elem (VariableOf d)) c in
    let h : seen n (pair_ops (λ first after. after) (Named variable) right s calls (binary_ops op unsigned) d x) ≤ 0 + t + seen n x =
    pair_seen n 0 t (λ first after. after) (Named variable) right s calls (binary_ops op unsigned) (λ first after. omega arith) few (binary_seen n op unsigned) d x in omega arith

assigned_variable_seen : (n t : ℕ) (op : AssignOp) (unsigned : Bool) (variable : ℕ) (elem : Elem) (right : Fragment) (s : Standing) (calls : Bool) → Few n t right
    → Few n t (assigned_variable op unsigned variable elem right s calls)
assigned_variable_seen n t assign.Set unsigned variable elem right s calls few d c = few d (AndOp (Fit variable elem (operand_at s d)) c)
assigned_variable_seen n t (assign.With op) unsigned variable elem right s calls few d c = combined_variable_seen n t op unsigned variable elem right s calls few d c
assigned_variable_seen n t assign.Up unsigned variable elem right s calls few d c = combined_variable_seen n t Add unsigned variable elem right s calls few d c
assigned_variable_seen n t assign.Down unsigned variable elem right s calls few d c = combined_variable_seen n t Sub unsigned variable elem right s calls few d c

changed_element_seen : (n t t' : ℕ) (op : BinOp) (unsigned : Bool) (array : ArrayRef) (elem : Elem) (pos : Pos) (place : Fragment) (p : Standing) (right : Fragment) (s : Standing)
    (calls checks : Bool) → Few n t place → Few n t' right → Few n (t + t') (changed_element op unsigned array elem pos place p right s calls checks)
changed_element_seen n t t' op unsigned array elem pos place p right s calls checks one other d c =
    let q : ℕ = above calls p d in
    let z : Ops = restore_ops checks array elem pos (held_at calls p d) (VariableOf q) c in
    let y : Ops = binary_ops op unsigned (VariableOf q) (operand_at s (suc q)) q z in
    let x : Ops = load_ops array elem pos (held_at calls p d) q (right (suc q) y) in
    let h1 : seen n (place d (copied calls p d x)) ≤ t + seen n (copied calls p d x) = one d (copied calls p d x) in
    let h2 : seen n (copied calls p d x) ≡ seen n x = copied_seen n calls p d x in
    let h3 : seen n (right (suc q) y) ≤ t' + seen n y = other (suc q) y in
    let h4 : seen n y ≡ seen n z = binary_seen n op unsigned (VariableOf q) (operand_at s (suc q)) q z in
    let h5 : seen n z ≡ seen n c = restore_seen n checks array elem pos (held_at calls p d) (VariableOf q) c in omega arith

assigned_element_seen : (n t t' : ℕ) (op : AssignOp) (unsigned : Bool) (array : ArrayRef) (elem : Elem) (pos : Pos) (place : Fragment) (p : Standing) (right : Fragment) (s : Standing)
    (calls checks : Bool) → Few n t place → Few n t' right → Few n (t + t') (assigned_element op unsigned array elem pos place p right s calls checks)
assigned_element_seen n t t' assign.Set unsigned array elem pos place p right s calls checks one other d c =
    pair_seen n t t' place p right s calls (λ a b first after. store_ops array elem pos a b after) one other (λ a b first after. refl) d c
assigned_element_seen n t t' (assign.With op) unsigned array elem pos place p right s calls checks one other d c =
    changed_element_seen n t t' op unsigned array elem pos place p right s calls checks one other d c
assigned_element_seen n t t' assign.Up unsigned array elem pos place p right s calls checks one other d c =
    changed_element_seen n t t' Add unsigned array elem pos place p right s calls checks one other d c
assigned_element_seen n t t' assign.Down unsigned array elem pos place p right s calls checks one other d c =
    changed_element_seen n t t' Sub unsigned array elem pos place p right s calls checks one other d c

-- ---- the whole

two_met : (n : ℕ) (xs ys : List ℕ) → met n xs + met n ys ≤ met n (xs ++ ys)
two_met n xs ys = let h : met n (xs ++ ys) ≡ met n xs + met n ys = met_append n xs ys in omega arith

mutual
  pub value_seen : (e : FlatExpr) (n : ℕ) → Few n (met n (flat_expr_sites e)) (value_ops e)
  value_seen (NumberFlat v unsigned) n d c = omega arith
  value_seen (VariableFlat v) n d c = omega arith
  value_seen (UnaryFlat op part) n d c =
      let a : Operand = operand_at (standing part) d in
      let h : seen n (value_ops part d (unary_ops op a d c)) ≤ met n (flat_expr_sites part) + seen n (unary_ops op a d c) = value_seen part n d (unary_ops op a d c) in
      let k : seen n (unary_ops op a d c) ≡ seen n c = unary_seen n op a d c in omega arith
  value_seen (BinaryFlat op unsigned left right) n d c =
      more_few n (met n (flat_expr_sites left) + met n (flat_expr_sites right)) (met n (flat_expr_sites left ++ flat_expr_sites right))
      (pair_ops (value_ops left) (standing left) (value_ops right) (standing right) (calls right) (binary_ops op unsigned)) (two_met n (flat_expr_sites left) (flat_expr_sites right))
      (pair_seen n (met n (flat_expr_sites left)) (met n (flat_expr_sites right)) (value_ops left) (standing left) (value_ops right) (standing right) (calls right)
      (binary_ops op unsigned) (value_seen left n) (value_seen right n) (binary_seen n op unsigned)) d c
  value_seen (BothFlat left right) n d c =
      let x : Ops = truth_ops (operand_at (standing right) (suc d)) d NoOps in
      let one : Ops = value_ops right (suc d) x in
      let y : Ops = AndOp (If (VariableOf d) one NoOps) c in
      let z : Ops = truth_ops (operand_at (standing left) d) d y in
      let h1 : seen n (value_ops left d z) ≤ met n (flat_expr_sites left) + seen n z = value_seen left n d z in
      let h2 : seen n z ≡ seen n y = truth_seen n (operand_at (standing left) d) d y in
      let h3 : seen n y ≡ seen n one + seen n NoOps + seen n c = if_seen n (VariableOf d) one NoOps c in
      let h4 : seen n one ≤ met n (flat_expr_sites right) + seen n x = value_seen right n (suc d) x in
      let h5 : seen n x ≡ 0 = truth_seen n (operand_at (standing right) (suc d)) d NoOps in
      let h6 : met n (flat_expr_sites left) + met n (flat_expr_sites right) ≤ met n (flat_expr_sites left ++ flat_expr_sites right) =
      two_met n (flat_expr_sites left) (flat_expr_sites right) in omega arith
  value_seen (EitherFlat left right) n d c =
      let x : Ops = truth_ops (operand_at (standing right) (suc d)) d NoOps in
      let one : Ops = value_ops right (suc d) x in
      let y : Ops = AndOp (If (VariableOf d) NoOps one) c in
      let z : Ops = truth_ops (operand_at (standing left) d) d y in
      let h1 : seen n (value_ops left d z) ≤ met n (flat_expr_sites left) + seen n z = value_seen left n d z in
      let h2 : seen n z ≡ seen n y = truth_seen n (operand_at (standing left) d) d y in
      let h3 : seen n y ≡ seen n NoOps + seen n one + seen n c = if_seen n (VariableOf d) NoOps one c in
      let h4 : seen n one ≤ met n (flat_expr_sites right) + seen n x = value_seen right n (suc d) x in
      let h5 : seen n x ≡ 0 = truth_seen n (operand_at (standing right) (suc d)) d NoOps in
      let h6 : met n (flat_expr_sites left) + met n (flat_expr_sites right) ≤ met n (flat_expr_sites left ++ flat_expr_sites right) =
      two_met n (flat_expr_sites left) (flat_expr_sites right) in omega arith
  value_seen (ChooseFlat unsigned test one other) n d c =
      let x : Ops = settled (standing one) d NoOps in
      let y : Ops = settled (standing other) d NoOps in
      let v : Ops = value_ops one d x in
      let w : Ops = value_ops other d y in
      let z : Ops = AndOp (If (operand_at (standing test) d) v w) c in
      let h1 : seen n (value_ops test d z) ≤ met n (flat_expr_sites test) + seen n z = value_seen test n d z in
      let h2 : seen n z ≡ seen n v + seen n w + seen n c = if_seen n (operand_at (standing test) d) v w c in
      let h3 : seen n v ≤ met n (flat_expr_sites one) + seen n x = value_seen one n d x in
      let h4 : seen n w ≤ met n (flat_expr_sites other) + seen n y = value_seen other n d y in
      let h5 : seen n x ≡ 0 = settled_seen n (standing one) d NoOps in
      let h6 : seen n y ≡ 0 = settled_seen n (standing other) d NoOps in
      let h7 : met n (flat_expr_sites one) + met n (flat_expr_sites other) ≤ met n (flat_expr_sites one ++ flat_expr_sites other) =
      two_met n (flat_expr_sites one) (flat_expr_sites other) in
      let h8 : met n (flat_expr_sites test) + met n (flat_expr_sites one ++ flat_expr_sites other) ≤ met n (flat_expr_sites test ++ (flat_expr_sites one ++ flat_expr_sites other)) =
      two_met n (flat_expr_sites test) (flat_expr_sites one ++ flat_expr_sites other) in omega arith
  value_seen (CastFlat elem part) n d c = value_seen part n d (AndOp (Fit d elem (operand_at (standing part) d)) c)
  value_seen (LoadFlat array elem place pos) n d c = value_seen place n d (load_ops array elem pos (operand_at (standing place) d) d c)
  value_seen (CallFlat args body) n d c =
      let b : Ops = stmts_ops body d NoOps in
      let x : Ops = AndOp (Set d (NumberOf 0)) (AndOp (Call b) c) in
      let h1 : seen n (args_ops args d x) ≤ met n (flat_args_sites args) + seen n x = args_seen args n d x in
      let h2 : seen n (AndOp (Call b) c) ≡ seen n b + seen n c = call_seen n b c in
      let h3 : seen n b ≤ met n (flat_sites body) + 0 = stmts_seen body n d NoOps in
      let h4 : met n (flat_args_sites args) + met n (flat_sites body) ≤ met n (flat_args_sites args ++ flat_sites body) = two_met n (flat_args_sites args) (flat_sites body) in
      omega arith
  value_seen (LostFlat args) n d c = omega arith
  value_seen (BuiltinFlat which unsigned args) n d c = builtin_seen args n which unsigned d c
  value_seen (ParenFlat part) n d c = value_seen part n d c

  pub builtin_seen : (args : FlatArgs) (n : ℕ) (which : Builtin) (unsigned : Bool) → Few n (met n (flat_args_sites args)) (builtin_ops which unsigned args)
  builtin_seen NoFlatArgs n which unsigned d c = omega arith
  builtin_seen (NamedArg array more) n which unsigned d c = omega arith
  builtin_seen (NumberArg x b NoFlatArgs) n which unsigned d c =
      let a : Operand = operand_at (standing x) d in
      let h : seen n (value_ops x d (one_ops which unsigned a d c)) ≤ met n (flat_expr_sites x) + seen n (one_ops which unsigned a d c) =
      value_seen x n d (one_ops which unsigned a d c) in
      let k : seen n (one_ops which unsigned a d c) ≡ seen n c = one_seen n which unsigned a d c in
      let j : met n (flat_expr_sites x) + 0 ≤ met n (flat_expr_sites x ++ []) = two_met n (flat_expr_sites x) [] in omega arith
  builtin_seen (NumberArg x b (NamedArg array more)) n which unsigned d c = omega arith
  builtin_seen (NumberArg x b (NumberArg y b' NoFlatArgs)) n which unsigned d c =
      let h : seen n (builtin_ops which unsigned (NumberArg x b (NumberArg y b' NoFlatArgs)) d c) ≤ met n (flat_expr_sites x) + met n (flat_expr_sites y) + seen n c =
      pair_seen n (met n (flat_expr_sites x)) (met n (flat_expr_sites y)) (value_ops x) (standing x) (value_ops y) (standing y) (calls y) (two_ops which unsigned)
      (value_seen x n) (value_seen y n) (two_seen n which unsigned) d c in
      let j : met n (flat_expr_sites x) + met n (flat_expr_sites y ++ []) ≤ met n (flat_expr_sites x ++ (flat_expr_sites y ++ [])) =
      two_met n (flat_expr_sites x) (flat_expr_sites y ++ []) in
      let j' : met n (flat_expr_sites y) + 0 ≤ met n (flat_expr_sites y ++ []) = two_met n (flat_expr_sites y) [] in omega arith
  builtin_seen (NumberArg x b (NumberArg y b' (NamedArg array more))) n which unsigned d c = omega arith
  builtin_seen (NumberArg x b (NumberArg y b' (NumberArg z b'' more))) n which unsigned d c =
      let v : Ops = two_ops Min unsigned (VariableOf d) (operand_at (standing z) (suc d)) d c in
      let w : Ops = value_ops z (suc d) v in
      let rest : List ℕ = flat_args_sites more in
      let h1 : seen n (builtin_ops which unsigned (NumberArg x b (NumberArg y b' (NumberArg z b'' more))) d c) ≤ met n (flat_expr_sites x) + met n (flat_expr_sites y) + seen n w =
      pair_seen n (met n (flat_expr_sites x)) (met n (flat_expr_sites y)) (value_ops x) (standing x) (value_ops y) (standing y) (calls y) (two_ops Max unsigned)
      (value_seen x n) (value_seen y n) (two_seen n Max unsigned) d w in
      let h2 : seen n w ≤ met n (flat_expr_sites z) + seen n v = value_seen z n (suc d) v in
      let h3 : seen n v ≡ seen n c = two_seen n Min unsigned (VariableOf d) (operand_at (standing z) (suc d)) d c in
      let j : met n (flat_expr_sites x) + met n (flat_expr_sites y ++ (flat_expr_sites z ++ rest)) ≤ met n (flat_expr_sites x ++ (flat_expr_sites y ++ (flat_expr_sites z ++ rest))) =
      two_met n (flat_expr_sites x) (flat_expr_sites y ++ (flat_expr_sites z ++ rest)) in
      let j' : met n (flat_expr_sites y) + met n (flat_expr_sites z ++ rest) ≤ met n (flat_expr_sites y ++ (flat_expr_sites z ++ rest)) =
      two_met n (flat_expr_sites y) (flat_expr_sites z ++ rest) in
      let j'' : met n (flat_expr_sites z) + met n rest ≤ met n (flat_expr_sites z ++ rest) = two_met n (flat_expr_sites z) rest in omega arith

  pub args_seen : (args : FlatArgs) (n : ℕ) → Few n (met n (flat_args_sites args)) (args_ops args)
  args_seen NoFlatArgs n d c = omega arith
  args_seen (NumberArg e binding more) n d c =
      let x : Ops = args_ops more d c in
      let y : Ops = bound_ops binding (operand_at (standing e) d) x in
      let h1 : seen n (value_ops e d y) ≤ met n (flat_expr_sites e) + seen n y = value_seen e n d y in
      let h2 : seen n y ≡ seen n x = bound_seen n binding (operand_at (standing e) d) x in
      let h3 : seen n x ≤ met n (flat_args_sites more) + seen n c = args_seen more n d c in
      let h4 : met n (flat_expr_sites e) + met n (flat_args_sites more) ≤ met n (flat_expr_sites e ++ flat_args_sites more) =
      two_met n (flat_expr_sites e) (flat_args_sites more) in omega arith
  args_seen (NamedArg array more) n d c = args_seen more n d c

  pub right_seen : (value : FlatValue) (n : ℕ) → Few n (met n (flat_value_sites value)) (right_ops value)
  right_seen NoFlat n d c = omega arith
  right_seen (SomeFlat e) n d c = value_seen e n d c

  pub declared_seen : (value : FlatValue) (n variable : ℕ) (elem : Elem) → Few n (met n (flat_value_sites value)) (declared_ops variable elem value)
  declared_seen NoFlat n variable elem d c = omega arith
  declared_seen (SomeFlat e) n variable elem d c = value_seen e n d (AndOp (Fit variable elem (operand_at (standing e) d)) c)

  pub return_seen : (value : FlatValue) (n : ℕ) (gives : Gives) → Few n (met n (flat_value_sites value)) (return_ops gives value)
  return_seen NoFlat n gives result c = omega arith
  return_seen (SomeFlat e) n gives result c =
      let a : Operand = operand_at (standing e) (suc result) in
      let x : Ops = given_ops gives a result (AndOp Return c) in
      let h : seen n (value_ops e (suc result) x) ≤ met n (flat_expr_sites e) + seen n x = value_seen e n (suc result) x in
      let k : seen n x ≡ seen n c = given_seen n gives a result (AndOp Return c) in omega arith

  pub test_seen : (test : FlatValue) (n : ℕ) (body st : Ops) → Few n (met n (flat_value_sites test) + seen n body + seen n st) (loop_ops test body st)
  test_seen NoFlat n body st d c =
      let h : seen n (AndOp (Loop NoOps (NumberOf 1) body st) c) ≡ 0 + seen n body + seen n st + seen n c = loop_seen n NoOps (NumberOf 1) body st c in omega arith
  test_seen (SomeFlat e) n body st d c =
      let x : Ops = value_ops e d NoOps in
      let h : seen n (AndOp (Loop x (operand_at (standing e) d) body st) c) ≡ seen n x + seen n body + seen n st + seen n c = loop_seen n x (operand_at (standing e) d) body st c in
      let k : seen n x ≤ met n (flat_expr_sites e) + 0 = value_seen e n d NoOps in omega arith

  pub stmt_seen : (s : FlatStmt) (n : ℕ) → Few n (met n (flat_stmt_sites s)) (stmt_ops s)
  stmt_seen (DeclareFlat variable elem value) n result c = declared_seen value n variable elem (suc result) c
  stmt_seen (LocalArrayFlat array count) n result c = omega arith
  stmt_seen (SetVariableFlat variable elem op unsigned value) n result c =
      assigned_variable_seen n (met n (flat_value_sites value)) op unsigned variable elem (right_ops value) (right_standing value) (right_calls value) (right_seen value n) (suc result) c
  stmt_seen (SetElementFlat array elem place op unsigned value pos) n result c =
      more_few n (met n (flat_expr_sites place) + met n (flat_value_sites value)) (met n (flat_expr_sites place ++ flat_value_sites value))
      (assigned_element op unsigned array elem pos (value_ops place) (standing place) (right_ops value) (right_standing value) (right_calls value) (right_branches value))
      (two_met n (flat_expr_sites place) (flat_value_sites value))
      (assigned_element_seen n (met n (flat_expr_sites place)) (met n (flat_value_sites value)) op unsigned array elem pos (value_ops place) (standing place) (right_ops value)
      (right_standing value) (right_calls value) (right_branches value) (value_seen place n) (right_seen value n)) (suc result) c
  stmt_seen (CallStmtFlat call) n result c = value_seen call n (suc result) c
  stmt_seen (BarrierFlat site) n result c = omega arith
  stmt_seen (IfFlat test one) n result c =
      let a : Operand = operand_at (standing test) (suc result) in
      let v : Ops = stmt_ops one result NoOps in
      let z : Ops = AndOp (If a v NoOps) c in
      let h1 : seen n (value_ops test (suc result) z) ≤ met n (flat_expr_sites test) + seen n z = value_seen test n (suc result) z in
      let h2 : seen n z ≡ seen n v + 0 + seen n c = if_seen n a v NoOps c in
      let h3 : seen n v ≤ met n (flat_stmt_sites one) + 0 = stmt_seen one n result NoOps in
      let h4 : met n (flat_expr_sites test) + met n (flat_stmt_sites one) ≤ met n (flat_expr_sites test ++ flat_stmt_sites one) =
      two_met n (flat_expr_sites test) (flat_stmt_sites one) in omega arith
  stmt_seen (IfElseFlat test one other) n result c =
      let a : Operand = operand_at (standing test) (suc result) in
      let v : Ops = stmt_ops one result NoOps in
      let w : Ops = stmt_ops other result NoOps in
      let z : Ops = AndOp (If a v w) c in
      let h1 : seen n (value_ops test (suc result) z) ≤ met n (flat_expr_sites test) + seen n z = value_seen test n (suc result) z in
      let h2 : seen n z ≡ seen n v + seen n w + seen n c = if_seen n a v w c in
      let h3 : seen n v ≤ met n (flat_stmt_sites one) + 0 = stmt_seen one n result NoOps in
      let h4 : seen n w ≤ met n (flat_stmt_sites other) + 0 = stmt_seen other n result NoOps in
      let h5 : met n (flat_stmt_sites one) + met n (flat_stmt_sites other) ≤ met n (flat_stmt_sites one ++ flat_stmt_sites other) =
      two_met n (flat_stmt_sites one) (flat_stmt_sites other) in
      let h6 : met n (flat_expr_sites test) + met n (flat_stmt_sites one ++ flat_stmt_sites other) ≤ met n (flat_expr_sites test ++ (flat_stmt_sites one ++ flat_stmt_sites other)) =
      two_met n (flat_expr_sites test) (flat_stmt_sites one ++ flat_stmt_sites other) in omega arith
  stmt_seen (WhileFlat test body) n result c =
      let x : Ops = value_ops test (suc result) NoOps in
      let b : Ops = stmt_ops body result NoOps in
      let a : Operand = operand_at (standing test) (suc result) in
      let h1 : seen n (AndOp (Loop x a b NoOps) c) ≡ seen n x + seen n b + 0 + seen n c = loop_seen n x a b NoOps c in
      let h2 : seen n x ≤ met n (flat_expr_sites test) + 0 = value_seen test n (suc result) NoOps in
      let h3 : seen n b ≤ met n (flat_stmt_sites body) + 0 = stmt_seen body n result NoOps in
      let h4 : met n (flat_expr_sites test) + met n (flat_stmt_sites body) ≤ met n (flat_expr_sites test ++ flat_stmt_sites body) =
      two_met n (flat_expr_sites test) (flat_stmt_sites body) in omega arith
  stmt_seen (DoFlat body test) n result c =
      let y : Ops = settled (standing test) (suc result) NoOps in
      let x : Ops = value_ops test (suc result) y in
      let b : Ops = stmt_ops body result NoOps in
      let h1 : seen n (AndOp (Loop NoOps (VariableOf (suc result)) b x) c) ≡ 0 + seen n b + seen n x + seen n c = loop_seen n NoOps (VariableOf (suc result)) b x c in
      let h2 : seen n x ≤ met n (flat_expr_sites test) + seen n y = value_seen test n (suc result) y in
      let h3 : seen n y ≡ 0 = settled_seen n (standing test) (suc result) NoOps in
      let h4 : seen n b ≤ met n (flat_stmt_sites body) + 0 = stmt_seen body n result NoOps in
      let h5 : met n (flat_stmt_sites body) + met n (flat_expr_sites test) ≤ met n (flat_stmt_sites body ++ flat_expr_sites test) =
      two_met n (flat_stmt_sites body) (flat_expr_sites test) in omega arith
  stmt_seen (ForFlat first test st body) n result c =
      let b : Ops = stmt_ops body result NoOps in
      let x : Ops = stmts_ops st result NoOps in
      let z : Ops = loop_ops test b x (suc result) c in
      let h1 : seen n (stmts_ops first result z) ≤ met n (flat_sites first) + seen n z = stmts_seen first n result z in
      let h2 : seen n z ≤ met n (flat_value_sites test) + seen n b + seen n x + seen n c = test_seen test n b x (suc result) c in
      let h3 : seen n b ≤ met n (flat_stmt_sites body) + 0 = stmt_seen body n result NoOps in
      let h4 : seen n x ≤ met n (flat_sites st) + 0 = stmts_seen st n result NoOps in
      let h5 : met n (flat_sites st) + met n (flat_stmt_sites body) ≤ met n (flat_sites st ++ flat_stmt_sites body) = two_met n (flat_sites st) (flat_stmt_sites body) in
      let h6 : met n (flat_value_sites test) + met n (flat_sites st ++ flat_stmt_sites body) ≤ met n (flat_value_sites test ++ (flat_sites st ++ flat_stmt_sites body)) =
      two_met n (flat_value_sites test) (flat_sites st ++ flat_stmt_sites body) in
      let h7 : met n (flat_sites first) + met n (flat_value_sites test ++ (flat_sites st ++ flat_stmt_sites body)) ≤ met n
      (flat_sites first ++ (flat_value_sites test ++ (flat_sites st ++ flat_stmt_sites body))) =
      two_met n (flat_sites first) (flat_value_sites test ++ (flat_sites st ++ flat_stmt_sites body)) in omega arith
  stmt_seen BreakFlat n result c = omega arith
  stmt_seen ContinueFlat n result c = omega arith
  stmt_seen (ReturnFlat gives value) n result c = return_seen value n gives result c
  stmt_seen (BlockFlat items) n result c = stmts_seen items n result c
  stmt_seen EmptyFlat n result c = omega arith

  pub stmts_seen : (ss : FlatStmts) (n : ℕ) → Few n (met n (flat_sites ss)) (stmts_ops ss)
  stmts_seen NoFlats n result c = omega arith
  stmts_seen (AndFlat s ss) n result c =
      let x : Ops = stmts_ops ss result c in
      let h1 : seen n (stmt_ops s result x) ≤ met n (flat_stmt_sites s) + seen n x = stmt_seen s n result x in
      let h2 : seen n x ≤ met n (flat_sites ss) + seen n c = stmts_seen ss n result c in
      let h3 : met n (flat_stmt_sites s) + met n (flat_sites ss) ≤ met n (flat_stmt_sites s ++ flat_sites ss) = two_met n (flat_stmt_sites s) (flat_sites ss) in omega arith

-- ---- kernels

kernel_seen : (flat : FlatKernel) (n : ℕ) → met n (sites (normal_kernel flat).ops) ≤ met n (flat_sites flat.body)
kernel_seen flat n = let h : seen n (stmts_ops flat.body flat.variables NoOps) ≤ met n (flat_sites flat.body) + 0 = stmts_seen flat.body n flat.variables NoOps in omega arith

-- each barrier of the code is one of the flat kernel's
pub kernel_counts : (flat : FlatKernel) (n : ℕ) → count_by (λ (k : ℕ). n == k) (sites (normal_kernel flat).ops) ≤ count_by (λ (k : ℕ). n == k) (flat_sites flat.body)
kernel_counts flat n =
    let h : met n (sites (normal_kernel flat).ops) ≤ met n (flat_sites flat.body) = kernel_seen flat n in
    let k : count_by (λ (j : ℕ). n == j) (sites (normal_kernel flat).ops) ≡ met n (sites (normal_kernel flat).ops) = met_counts n (sites (normal_kernel flat).ops) in
    let k' : count_by (λ (j : ℕ). n == j) (flat_sites flat.body) ≡ met n (flat_sites flat.body) = met_counts n (flat_sites flat.body) in omega arith

-- and barriers that differ do so still
pub kernel_different : (flat : FlatKernel) → AreDifferent (flat_sites flat.body) → AreDifferent (sites (normal_kernel flat).ops)
kernel_different flat different =
    are_different (sites (normal_kernel flat).ops) (λ n.
    let h : met n (sites (normal_kernel flat).ops) ≤ met n (flat_sites flat.body) = kernel_seen flat n in
    let k : met n (flat_sites flat.body) ≤ 1 = met_once (flat_sites flat.body) n different in omega arith)
