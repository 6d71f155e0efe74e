-- How many variables the parts of a kernel use at most, by its measures.
use Rattle.std.proofs.Common.{ℕ, suc, ◌+◌, ◌*◌, ◌≤◌, max, Bool, true, false, arith}
use Rattle.ocl_ast.specs.declared.stmts.AssignOp.{AssignOp}
use Rattle.ocl_ast.specs.declared.stmts.AssignOp.TheVariants as assign
use Rattle.ocl_program.specs.declared.exprs.Builtin.{Builtin}
use Rattle.ocl_program.specs.declared.exprs.Builtin.TheVariants as builtin
use Rattle.ocl_inline.specs.FlatMeasures.{flat_expr_depth, flat_value_depth, flat_args_depth, flat_stmt_depth, flat_depth, flat_expr_calls, flat_value_calls, flat_args_calls, flat_stmt_calls, flat_calls}
use Rattle.ocl_inline.specs.Trees.{FlatValue, NoFlat, SomeFlat, FlatExpr, NumberFlat, VariableFlat, UnaryFlat, BinaryFlat, BothFlat, EitherFlat, ChooseFlat, CastFlat, LoadFlat, CallFlat, LostFlat, BuiltinFlat, ParenFlat, FlatArgs, NoFlatArgs, NumberArg, NamedArg, FlatStmt, DeclareFlat, LocalArrayFlat, SetVariableFlat, SetElementFlat, CallStmtFlat, BarrierFlat, IfFlat, IfElseFlat, WhileFlat, DoFlat, ForFlat, BreakFlat, ContinueFlat, ReturnFlat, BlockFlat, EmptyFlat, FlatStmts, NoFlats, AndFlat, FlatKernel}
use Rattle.ocl_norm.specs.Normal.{normal_kernel}
use Rattle.ocl_norm.specs.Occurrences.{calls, right_calls}
use Rattle.ocl_norm.specs.Rooms.{one_room, two_room, assigned_room, value_room, builtin_room, args_room, right_room, stmt_room, stmts_room}
use Rattle.ocl_norm.specs.Standings.{Standing, Fixed, Named, Made, standing, above}

-- ---- parts

pub above_most : (calls : Bool) (s : Standing) (n : ℕ) → above calls s n ≤ suc n
above_most true (Fixed k) n = omega arith
above_most false (Fixed k) n = omega arith
above_most true (Named k) n = omega arith
above_most false (Named k) n = omega arith
above_most true Made n = omega arith
above_most false Made n = omega arith

pub one_most : (which : Builtin) → one_room which ≤ 2
one_most builtin.WorkDim = omega arith
one_most builtin.GlobalId = omega arith
one_most builtin.LocalId = omega arith
one_most builtin.GroupId = omega arith
one_most builtin.GlobalSize = omega arith
one_most builtin.LocalSize = omega arith
one_most builtin.NumGroups = omega arith
one_most builtin.GlobalOffset = omega arith
one_most builtin.Min = omega arith
one_most builtin.Max = omega arith
one_most builtin.Clamp = omega arith
one_most builtin.Abs = omega arith
one_most builtin.MulHi = omega arith

pub two_most : (which : Builtin) → two_room which ≤ 3
two_most builtin.WorkDim = omega arith
two_most builtin.GlobalId = omega arith
two_most builtin.LocalId = omega arith
two_most builtin.GroupId = omega arith
two_most builtin.GlobalSize = omega arith
two_most builtin.LocalSize = omega arith
two_most builtin.NumGroups = omega arith
two_most builtin.GlobalOffset = omega arith
two_most builtin.Min = omega arith
two_most builtin.Max = omega arith
two_most builtin.Clamp = omega arith
two_most builtin.Abs = omega arith
two_most builtin.MulHi = omega arith

pub assigned_most : (op : AssignOp) (a b n : ℕ) → a ≤ n → b ≤ n → assigned_room op a b ≤ n
assigned_most assign.Set a b n le le' = le
assigned_most (assign.With op) a b n le le' = le'
assigned_most assign.Up a b n le le' = le'
assigned_most assign.Down a b n le le' = le'

-- each expression has a level of its own
some_depth : (e : FlatExpr) → 1 ≤ flat_expr_depth e
some_depth (NumberFlat n unsigned) = omega arith
some_depth (VariableFlat k) = omega arith
some_depth (UnaryFlat op part) = omega arith
some_depth (BinaryFlat op unsigned left right) = omega arith
some_depth (BothFlat left right) = omega arith
some_depth (EitherFlat left right) = omega arith
some_depth (ChooseFlat unsigned test one other) = omega arith
some_depth (CastFlat elem part) = omega arith
some_depth (LoadFlat array elem place pos) = omega arith
some_depth (CallFlat args body) = omega arith
some_depth (LostFlat args) = omega arith
some_depth (BuiltinFlat which unsigned args) = omega arith
some_depth (ParenFlat part) = omega arith

-- ---- sums of these numbers

-- an expression of this depth, with calls so deep within one another
abbrev pub room : ℕ → ℕ → ℕ
room depth calls = depth + 2 * calls + 1

pair_sum : (a b q l k l' k' : ℕ) → a ≤ room l k → b ≤ room l' k' → q ≤ suc b → max a q ≤ room (max l (l' + 1)) (max k k')
pair_sum a b q l k l' k' e e' e'' = omega arith

binary_sum : (a b q l k l' k' : ℕ) → a ≤ room l k → b ≤ room l' k' → q ≤ suc b → max 1 (max a q) ≤ room (max l (l' + 1)) (max k k')
binary_sum a b q l k l' k' e e' e'' = omega arith

choose_sum : (a b c l k l' k' l'' k'' : ℕ) → a ≤ room l k → b ≤ room l' k' → c ≤ room l'' k''
    → max a (max 1 (max b c)) ≤ room (max l (max l' l'') + 1) (max k (max k' k''))
choose_sum a b c l k l' k' l'' k'' e e' e'' = omega arith

call_sum : (a b l k l' k' : ℕ) → a ≤ room l k → b ≤ l' + 2 * k' + 4 → max a (max 1 b) ≤ room (max l l' + 1) (max k (k' + 1))
call_sum a b l k l' k' e e' = omega arith

two_sum : (t a b q l k l' k' : ℕ) → t ≤ 3 → 1 ≤ l → a ≤ room l k → b ≤ room l' k' → q ≤ suc b → max t (max a q) ≤ room (max l (max l' 0) + 1) (max k (max k' 0))
two_sum t a b q l k l' k' three some e e' e'' = omega arith

clamp_sum : (a b c q l k l' k' l'' k'' m j : ℕ) → 1 ≤ l → a ≤ room l k → b ≤ room l' k' → q ≤ suc b → c ≤ room l'' k''
    → max 3 (max (max a q) (suc c)) ≤ room (max l (max l' (max l'' m)) + 1) (max k (max k' (max k'' j)))
clamp_sum a b c q l k l' k' l'' k'' m j some e e' e'' e''' = omega arith

-- ---- the whole

mutual
  pub value_room_most : (e : FlatExpr) → value_room e ≤ room (flat_expr_depth e) (flat_expr_calls e)
  value_room_most (NumberFlat n unsigned) = omega arith
  value_room_most (VariableFlat k) = omega arith
  value_room_most (UnaryFlat op part) = let h : value_room part ≤ room (flat_expr_depth part) (flat_expr_calls part) = value_room_most part in omega arith
  value_room_most (BinaryFlat op unsigned left right) =
      binary_sum (value_room left) (value_room right) (above (calls right) (standing left) (value_room right)) (flat_expr_depth left) (flat_expr_calls left) (flat_expr_depth right)
      (flat_expr_calls right) (value_room_most left) (value_room_most right) (above_most (calls right) (standing left) (value_room right))
  value_room_most (BothFlat left right) =
      pair_sum (value_room left) (value_room right) (suc (value_room right)) (flat_expr_depth left) (flat_expr_calls left) (flat_expr_depth right) (flat_expr_calls right)
      (value_room_most left) (value_room_most right) (omega arith)
  value_room_most (EitherFlat left right) =
      pair_sum (value_room left) (value_room right) (suc (value_room right)) (flat_expr_depth left) (flat_expr_calls left) (flat_expr_depth right) (flat_expr_calls right)
      (value_room_most left) (value_room_most right) (omega arith)
  value_room_most (ChooseFlat unsigned test one other) =
      choose_sum (value_room test) (value_room one) (value_room other) (flat_expr_depth test) (flat_expr_calls test) (flat_expr_depth one) (flat_expr_calls one)
      (flat_expr_depth other) (flat_expr_calls other) (value_room_most test) (value_room_most one) (value_room_most other)
  value_room_most (CastFlat elem part) = let h : value_room part ≤ room (flat_expr_depth part) (flat_expr_calls part) = value_room_most part in omega arith
  value_room_most (LoadFlat array elem place pos) = let h : value_room place ≤ room (flat_expr_depth place) (flat_expr_calls place) = value_room_most place in omega arith
  value_room_most (CallFlat args body) =
      call_sum (args_room args) (stmts_room body) (flat_args_depth args) (flat_args_calls args) (flat_depth body) (flat_calls body) (args_room_most args) (stmts_room_most body)
  value_room_most (LostFlat args) = omega arith
  value_room_most (BuiltinFlat which unsigned args) = builtin_room_most args which
  value_room_most (ParenFlat part) = let h : value_room part ≤ room (flat_expr_depth part) (flat_expr_calls part) = value_room_most part in omega arith

  builtin_room_most : (args : FlatArgs) (which : Builtin) → builtin_room which args ≤ room (flat_args_depth args + 1) (flat_args_calls args)
  builtin_room_most NoFlatArgs which = omega arith
  builtin_room_most (NamedArg array more) which = omega arith
  builtin_room_most (NumberArg x b NoFlatArgs) which =
      let h : value_room x ≤ room (flat_expr_depth x) (flat_expr_calls x) = value_room_most x in
      let k : one_room which ≤ 2 = one_most which in omega arith
  builtin_room_most (NumberArg x b (NamedArg array more)) which = omega arith
  builtin_room_most (NumberArg x b (NumberArg y b' NoFlatArgs)) which =
      two_sum (two_room which) (value_room x) (value_room y) (above (calls y) (standing x) (value_room y)) (flat_expr_depth x) (flat_expr_calls x) (flat_expr_depth y)
      (flat_expr_calls y) (two_most which) (some_depth x) (value_room_most x) (value_room_most y) (above_most (calls y) (standing x) (value_room y))
  builtin_room_most (NumberArg x b (NumberArg y b' (NamedArg array more))) which = omega arith
  builtin_room_most (NumberArg x b (NumberArg y b' (NumberArg z b'' more))) which =
      clamp_sum (value_room x) (value_room y) (value_room z) (above (calls y) (standing x) (value_room y)) (flat_expr_depth x) (flat_expr_calls x) (flat_expr_depth y)
      (flat_expr_calls y) (flat_expr_depth z) (flat_expr_calls z) (flat_args_depth more) (flat_args_calls more) (some_depth x) (value_room_most x) (value_room_most y)
      (above_most (calls y) (standing x) (value_room y)) (value_room_most z)

  args_room_most : (args : FlatArgs) → args_room args ≤ room (flat_args_depth args) (flat_args_calls args)
  args_room_most NoFlatArgs = omega arith
  args_room_most (NumberArg e binding more) =
      let h : value_room e ≤ room (flat_expr_depth e) (flat_expr_calls e) = value_room_most e in
      let k : args_room more ≤ room (flat_args_depth more) (flat_args_calls more) = args_room_most more in omega arith
  args_room_most (NamedArg array more) = let h : args_room more ≤ room (flat_args_depth more) (flat_args_calls more) = args_room_most more in omega arith

  right_room_most : (value : FlatValue) → right_room value ≤ room (flat_value_depth value) (flat_value_calls value)
  right_room_most NoFlat = omega arith
  right_room_most (SomeFlat e) = value_room_most e

  pub stmt_room_most : (s : FlatStmt) → stmt_room s ≤ flat_stmt_depth s + 2 * flat_stmt_calls s + 4
  stmt_room_most (DeclareFlat variable elem value) = let h : right_room value ≤ room (flat_value_depth value) (flat_value_calls value) = right_room_most value in omega arith
  stmt_room_most (LocalArrayFlat array count) = omega arith
  stmt_room_most (SetVariableFlat variable elem op unsigned value) =
      let h : right_room value ≤ room (flat_value_depth value) (flat_value_calls value) = right_room_most value in
      let a : above (right_calls value) (Named variable) (right_room value) ≤ suc (right_room value) = above_most (right_calls value) (Named variable) (right_room value) in
      let k : assigned_room op (right_room value) (max 1 (above (right_calls value) (Named variable) (right_room value))) ≤ suc (right_room value) =
      assigned_most op (right_room value) (max 1 (above (right_calls value) (Named variable) (right_room value))) (suc (right_room value)) (omega arith) (omega arith) in
      omega arith
  stmt_room_most (SetElementFlat array elem place op unsigned value pos) =
      let h : right_room value ≤ room (flat_value_depth value) (flat_value_calls value) = right_room_most value in
      let h' : value_room place ≤ room (flat_expr_depth place) (flat_expr_calls place) = value_room_most place in
      let a : above (right_calls value) (standing place) (right_room value) ≤ suc (right_room value) = above_most (right_calls value) (standing place) (right_room value) in
      let a' : above (right_calls value) (standing place) (suc (right_room value)) ≤ suc (suc (right_room value)) =
      above_most (right_calls value) (standing place) (suc (right_room value)) in
      let one : ℕ = max (value_room place) (above (right_calls value) (standing place) (right_room value)) in
      let other : ℕ = max (value_room place) (above (right_calls value) (standing place) (suc (right_room value))) in
      let k : assigned_room op one other ≤ max (value_room place) (suc (suc (right_room value))) =
      assigned_most op one other (max (value_room place) (suc (suc (right_room value)))) (omega arith) (omega arith) in omega arith
  stmt_room_most (CallStmtFlat call) = let h : value_room call ≤ room (flat_expr_depth call) (flat_expr_calls call) = value_room_most call in omega arith
  stmt_room_most (BarrierFlat site) = omega arith
  stmt_room_most (IfFlat test one) =
      let h : value_room test ≤ room (flat_expr_depth test) (flat_expr_calls test) = value_room_most test in
      let k : stmt_room one ≤ flat_stmt_depth one + 2 * flat_stmt_calls one + 4 = stmt_room_most one in omega arith
  stmt_room_most (IfElseFlat test one other) =
      let h : value_room test ≤ room (flat_expr_depth test) (flat_expr_calls test) = value_room_most test in
      let k : stmt_room one ≤ flat_stmt_depth one + 2 * flat_stmt_calls one + 4 = stmt_room_most one in
      let j : stmt_room other ≤ flat_stmt_depth other + 2 * flat_stmt_calls other + 4 = stmt_room_most other in omega arith
  stmt_room_most (WhileFlat test body) =
      let h : value_room test ≤ room (flat_expr_depth test) (flat_expr_calls test) = value_room_most test in
      let k : stmt_room body ≤ flat_stmt_depth body + 2 * flat_stmt_calls body + 4 = stmt_room_most body in omega arith
  stmt_room_most (DoFlat body test) =
      let h : value_room test ≤ room (flat_expr_depth test) (flat_expr_calls test) = value_room_most test in
      let k : stmt_room body ≤ flat_stmt_depth body + 2 * flat_stmt_calls body + 4 = stmt_room_most body in omega arith
  stmt_room_most (ForFlat first test st body) =
      let h : stmts_room first ≤ flat_depth first + 2 * flat_calls first + 4 = stmts_room_most first in
      let k : right_room test ≤ room (flat_value_depth test) (flat_value_calls test) = right_room_most test in
      let j : stmts_room st ≤ flat_depth st + 2 * flat_calls st + 4 = stmts_room_most st in
      let i : stmt_room body ≤ flat_stmt_depth body + 2 * flat_stmt_calls body + 4 = stmt_room_most body in omega arith
  stmt_room_most BreakFlat = omega arith
  stmt_room_most ContinueFlat = omega arith
  stmt_room_most (ReturnFlat gives value) = let h : right_room value ≤ room (flat_value_depth value) (flat_value_calls value) = right_room_most value in omega arith
  stmt_room_most (BlockFlat items) = stmts_room_most items
  stmt_room_most EmptyFlat = omega arith

  pub stmts_room_most : (ss : FlatStmts) → stmts_room ss ≤ flat_depth ss + 2 * flat_calls ss + 4
  stmts_room_most NoFlats = omega arith
  stmts_room_most (AndFlat s ss) =
      let h : stmt_room s ≤ flat_stmt_depth s + 2 * flat_stmt_calls s + 4 = stmt_room_most s in
      let k : stmts_room ss ≤ flat_depth ss + 2 * flat_calls ss + 4 = stmts_room_most ss in omega arith

-- ---- calls are no deeper than expressions

mutual
  value_calls_most : (e : FlatExpr) → flat_expr_calls e ≤ flat_expr_depth e
  value_calls_most (NumberFlat n unsigned) = omega arith
  value_calls_most (VariableFlat k) = omega arith
  value_calls_most (UnaryFlat op part) = let h : flat_expr_calls part ≤ flat_expr_depth part = value_calls_most part in omega arith
  value_calls_most (BinaryFlat op unsigned left right) =
      let h : flat_expr_calls left ≤ flat_expr_depth left = value_calls_most left in
      let k : flat_expr_calls right ≤ flat_expr_depth right = value_calls_most right in omega arith
  value_calls_most (BothFlat left right) =
      let h : flat_expr_calls left ≤ flat_expr_depth left = value_calls_most left in
      let k : flat_expr_calls right ≤ flat_expr_depth right = value_calls_most right in omega arith
  value_calls_most (EitherFlat left right) =
      let h : flat_expr_calls left ≤ flat_expr_depth left = value_calls_most left in
      let k : flat_expr_calls right ≤ flat_expr_depth right = value_calls_most right in omega arith
  value_calls_most (ChooseFlat unsigned test one other) =
      let h : flat_expr_calls test ≤ flat_expr_depth test = value_calls_most test in
      let k : flat_expr_calls one ≤ flat_expr_depth one = value_calls_most one in
      let j : flat_expr_calls other ≤ flat_expr_depth other = value_calls_most other in omega arith
  value_calls_most (CastFlat elem part) = let h : flat_expr_calls part ≤ flat_expr_depth part = value_calls_most part in omega arith
  value_calls_most (LoadFlat array elem place pos) = let h : flat_expr_calls place ≤ flat_expr_depth place = value_calls_most place in omega arith
  value_calls_most (CallFlat args body) =
      let h : flat_args_calls args ≤ flat_args_depth args = args_calls_most args in
      let k : flat_calls body ≤ flat_depth body = stmts_calls_most body in omega arith
  value_calls_most (LostFlat args) = let h : flat_args_calls args ≤ flat_args_depth args = args_calls_most args in omega arith
  value_calls_most (BuiltinFlat which unsigned args) = let h : flat_args_calls args ≤ flat_args_depth args = args_calls_most args in omega arith
  value_calls_most (ParenFlat part) = let h : flat_expr_calls part ≤ flat_expr_depth part = value_calls_most part in omega arith

  args_calls_most : (args : FlatArgs) → flat_args_calls args ≤ flat_args_depth args
  args_calls_most NoFlatArgs = omega arith
  args_calls_most (NumberArg e binding more) =
      let h : flat_expr_calls e ≤ flat_expr_depth e = value_calls_most e in
      let k : flat_args_calls more ≤ flat_args_depth more = args_calls_most more in omega arith
  args_calls_most (NamedArg array more) = let h : flat_args_calls more ≤ flat_args_depth more = args_calls_most more in omega arith

  right_calls_most : (value : FlatValue) → flat_value_calls value ≤ flat_value_depth value
  right_calls_most NoFlat = omega arith
  right_calls_most (SomeFlat e) = value_calls_most e

  stmt_calls_most : (s : FlatStmt) → flat_stmt_calls s ≤ flat_stmt_depth s
  stmt_calls_most (DeclareFlat variable elem value) = right_calls_most value
  stmt_calls_most (LocalArrayFlat array count) = value_calls_most count
  stmt_calls_most (SetVariableFlat variable elem op unsigned value) = right_calls_most value
  stmt_calls_most (SetElementFlat array elem place op unsigned value pos) =
      let h : flat_expr_calls place ≤ flat_expr_depth place = value_calls_most place in
      let k : flat_value_calls value ≤ flat_value_depth value = right_calls_most value in omega arith
  stmt_calls_most (CallStmtFlat call) = value_calls_most call
  stmt_calls_most (BarrierFlat site) = omega arith
  stmt_calls_most (IfFlat test one) =
      let h : flat_expr_calls test ≤ flat_expr_depth test = value_calls_most test in
      let k : flat_stmt_calls one ≤ flat_stmt_depth one = stmt_calls_most one in omega arith
  stmt_calls_most (IfElseFlat test one other) =
      let h : flat_expr_calls test ≤ flat_expr_depth test = value_calls_most test in
      let k : flat_stmt_calls one ≤ flat_stmt_depth one = stmt_calls_most one in
      let j : flat_stmt_calls other ≤ flat_stmt_depth other = stmt_calls_most other in omega arith
  stmt_calls_most (WhileFlat test body) =
      let h : flat_expr_calls test ≤ flat_expr_depth test = value_calls_most test in
      let k : flat_stmt_calls body ≤ flat_stmt_depth body = stmt_calls_most body in omega arith
  stmt_calls_most (DoFlat body test) =
      let h : flat_expr_calls test ≤ flat_expr_depth test = value_calls_most test in
      let k : flat_stmt_calls body ≤ flat_stmt_depth body = stmt_calls_most body in omega arith
  stmt_calls_most (ForFlat first test st body) =
      let h : flat_calls first ≤ flat_depth first = stmts_calls_most first in
      let k : flat_value_calls test ≤ flat_value_depth test = right_calls_most test in
      let j : flat_calls st ≤ flat_depth st = stmts_calls_most st in
      let i : flat_stmt_calls body ≤ flat_stmt_depth body = stmt_calls_most body in omega arith
  stmt_calls_most BreakFlat = omega arith
  stmt_calls_most ContinueFlat = omega arith
  stmt_calls_most (ReturnFlat gives value) = right_calls_most value
  stmt_calls_most (BlockFlat items) = stmts_calls_most items
  stmt_calls_most EmptyFlat = omega arith

  pub stmts_calls_most : (ss : FlatStmts) → flat_calls ss ≤ flat_depth ss
  stmts_calls_most NoFlats = omega arith
  stmts_calls_most (AndFlat s ss) =
      let h : flat_stmt_calls s ≤ flat_stmt_depth s = stmt_calls_most s in
      let k : flat_calls ss ≤ flat_depth ss = stmts_calls_most ss in omega arith

-- ---- kernels

pub kernel_room : (flat : FlatKernel) → (normal_kernel flat).variables ≤ flat.variables + (flat_depth flat.body + 2 * flat_calls flat.body + 4)
kernel_room flat = let h : stmts_room flat.body ≤ flat_depth flat.body + 2 * flat_calls flat.body + 4 = stmts_room_most flat.body in omega arith
