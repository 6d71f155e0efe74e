-- The variables of the normal form are numbered below their count, and its numbers are words.
use Rattle.std.proofs.Common.{◌≡◌, ℕ, suc, ◌+◌, ◌≤◌, ◌<◌, ◌^◌, max, Bool, true, false, List, refl, arith}
use Rattle.vx_base.specs.declared.types.Alu.{Alu}
use Rattle.vx_base.specs.declared.types.Alu.TheVariants as alu
use Rattle.vx_base.specs.declared.types.Elem.{Elem}
use Rattle.vx_base.specs.declared.types.Pos.{Pos}
use Rattle.ocl_ast.specs.declared.exprs.BinOp.{BinOp}
use Rattle.ocl_ast.specs.declared.exprs.BinOp.TheVariants.{Mul, Div, Rem, Add, Sub, Shl, Shr, Lt, Gt, Le, Ge, Eq, Ne, And, Xor, Or}
use Rattle.ocl_ast.specs.declared.exprs.UnOp.{UnOp}
use Rattle.ocl_ast.specs.declared.exprs.UnOp.TheVariants.{Plus, Minus, Not, Flip}
use Rattle.ocl_ast.specs.declared.stmts.AssignOp.{AssignOp}
use Rattle.ocl_ast.specs.declared.stmts.AssignOp.TheVariants as assign
use Rattle.ocl_ast.specs.declared.units.Gives.{Gives}
use Rattle.ocl_ast.specs.declared.units.Gives.TheVariants.{Nothing, Value}
use Rattle.ocl_ast.specs.declared.units.Param.{Param}
use Rattle.ocl_program.specs.Values.{by_type}
use Rattle.ocl_program.specs.declared.exprs.ArrayRef.{ArrayRef}
use Rattle.ocl_program.specs.declared.exprs.Builtin.{Builtin}
use Rattle.ocl_program.specs.declared.exprs.Builtin.TheVariants as builtin
use Rattle.ocl_program.specs.declared.functions.LocalArray.{LocalArray}
use Rattle.kir.specs.Numbered.{IsBelow, AreBelow}
use Rattle.kir.specs.Trees.{Operand, VariableOf, NumberOf, Set, Calculate, Fit, Id, If, Return, Call, Ops, NoOps, AndOp}
use Rattle.ocl_inline.specs.Trees.{FlatValue, NoFlat, SomeFlat, FlatExpr, NumberFlat, VariableFlat, UnaryFlat, BinaryFlat, BothFlat, EitherFlat, ChooseFlat, CastFlat, LoadFlat, CallFlat, LostFlat, BuiltinFlat, ParenFlat, FlatArgs, NoFlatArgs, NumberArg, NamedArg, FlatStmt, DeclareFlat, LocalArrayFlat, SetVariableFlat, SetElementFlat, CallStmtFlat, BarrierFlat, IfFlat, IfElseFlat, WhileFlat, DoFlat, ForFlat, BreakFlat, ContinueFlat, ReturnFlat, BlockFlat, EmptyFlat, FlatStmts, NoFlats, AndFlat, FlatKernel}
use Rattle.ocl_inline.specs.declared.trees.Binding.{Binding}
use Rattle.ocl_inline.specs.declared.trees.Binding.TheVariants.{Variable as ToVariable, Dropped}
use Rattle.ocl_norm.specs.Normal.{Fragment, calls, right_calls, right_branches, pair_ops, bound_ops, load_ops, store_ops, restore_ops, combined_variable, assigned_variable, changed_element, assigned_element, given_ops, value_ops, builtin_ops, args_ops, right_ops, declared_ops, return_ops, loop_ops, stmt_ops, stmts_ops, normal_kernel}
use Rattle.ocl_norm.specs.Operators.{truth_ops, unary_ops, less_ops, binary_ops, picked_ops, magnitude_ops, one_ops, two_ops}
use Rattle.ocl_inline.specs.Proper.{IsBound, IsProperKernel}
use Rattle.ocl_norm.proofs.ProperParts.{ProperArgs, ProperExpr, ProperStmt, ProperStmts, ProperValue, body_proper}
use Rattle.ocl_norm.specs.Rooms.{one_room, two_room, pair_room, assigned_room, value_room, builtin_room, args_room, right_room, stmt_room, stmts_room}
use Rattle.ocl_norm.specs.Standings.{Standing, Fixed, Named, Made, standing, right_standing, operand_at, copied, held_at, above, settled}
use Rattle.ocl_norm.proofs.ValuesAlong.{above_from}

-- ---- where values stand

-- A value that stands among so many variables of the kernel, or in the first of so many of its own.
abbrev pub Stands : ℕ → ℕ → Standing → Type 0
Stands count room (Fixed n) = n < 2 ^ 32
Stands count room (Named k) = k < count
Stands count room Made = 1 ≤ room

operand_below : (few count room d : ℕ) (s : Standing) → Stands few room s → few ≤ d → d + room ≤ count → IsBelow count (operand_at s d)
operand_below few count room d (Fixed n) stands le fits = stands
operand_below few count room d (Named k) stands le fits = omega arith
operand_below few count room d Made stands le fits = omega arith

one_some : (which : Builtin) → 1 ≤ one_room which
one_some builtin.WorkDim = omega arith
one_some builtin.GlobalId = omega arith
one_some builtin.LocalId = omega arith
one_some builtin.GroupId = omega arith
one_some builtin.GlobalSize = omega arith
one_some builtin.LocalSize = omega arith
one_some builtin.NumGroups = omega arith
one_some builtin.GlobalOffset = omega arith
one_some builtin.Min = omega arith
one_some builtin.Max = omega arith
one_some builtin.Clamp = omega arith
one_some builtin.Abs = omega arith
one_some builtin.MulHi = omega arith

two_some : (which : Builtin) → 1 ≤ two_room which
two_some builtin.WorkDim = omega arith
two_some builtin.GlobalId = omega arith
two_some builtin.LocalId = omega arith
two_some builtin.GroupId = omega arith
two_some builtin.GlobalSize = omega arith
two_some builtin.LocalSize = omega arith
two_some builtin.NumGroups = omega arith
two_some builtin.GlobalOffset = omega arith
two_some builtin.Min = omega arith
two_some builtin.Max = omega arith
two_some builtin.Clamp = omega arith
two_some builtin.Abs = omega arith
two_some builtin.MulHi = omega arith

builtin_some : (which : Builtin) (args : FlatArgs) → 1 ≤ builtin_room which args
builtin_some which NoFlatArgs = omega arith
builtin_some which (NamedArg array more) = omega arith
builtin_some which (NumberArg x b NoFlatArgs) = let h : 1 ≤ one_room which = one_some which in omega arith
builtin_some which (NumberArg x b (NamedArg array more)) = omega arith
builtin_some which (NumberArg x b (NumberArg y b' NoFlatArgs)) = let h : 1 ≤ two_room which = two_some which in omega arith
builtin_some which (NumberArg x b (NumberArg y b' (NamedArg array more))) = omega arith
builtin_some which (NumberArg x b (NumberArg y b' (NumberArg z b'' more))) = omega arith

stands_so : (params : List Param) (arrays : List LocalArray) (few : ℕ) (e : FlatExpr) → ProperExpr params arrays few e → Stands few (value_room e) (standing e)
stands_so params arrays few (NumberFlat n unsigned) proper = proper
stands_so params arrays few (VariableFlat k) proper = proper
stands_so params arrays few (UnaryFlat op part) proper = omega arith
stands_so params arrays few (BinaryFlat op unsigned left right) proper = omega arith
stands_so params arrays few (BothFlat left right) proper = omega arith
stands_so params arrays few (EitherFlat left right) proper = omega arith
stands_so params arrays few (ChooseFlat unsigned test one other) proper = omega arith
stands_so params arrays few (CastFlat elem part) proper = omega arith
stands_so params arrays few (LoadFlat array elem place pos) proper = omega arith
stands_so params arrays few (CallFlat args body) proper = omega arith
stands_so params arrays few (LostFlat args) proper = omega arith
stands_so params arrays few (BuiltinFlat which unsigned args) proper = builtin_some which args
stands_so params arrays few (ParenFlat part) proper = stands_so params arrays few part proper

right_stands_so : (params : List Param) (arrays : List LocalArray) (few : ℕ) (value : FlatValue) → ProperValue params arrays few value
    → Stands few (right_room value) (right_standing value)
right_stands_so params arrays few NoFlat proper = omega arith
right_stands_so params arrays few (SomeFlat e) proper = stands_so params arrays few e proper

-- the first variable of the other part, and what is left from there on
above_on : (calls : Bool) (s : Standing) (d room : ℕ) → above calls s d + room ≡ d + above calls s room
above_on true (Fixed n) d room = refl
above_on false (Fixed n) d room = refl
above_on true (Named k) d room = omega arith
above_on false (Named k) d room = refl
above_on true Made d room = omega arith
above_on false Made d room = omega arith

held_below : (few count room room' d : ℕ) (calls : Bool) (s : Standing) → Stands few room s → few ≤ d → d + above calls s room' ≤ count → IsBelow count (held_at calls s d)
held_below few count room room' d true (Fixed n) stands le fits = stands
held_below few count room room' d false (Fixed n) stands le fits = stands
held_below few count room room' d true (Named k) stands le fits = omega arith
held_below few count room room' d false (Named k) stands le fits = omega arith
held_below few count room room' d true Made stands le fits = omega arith
held_below few count room room' d false Made stands le fits = omega arith

copied_below : (few count room room' d : ℕ) (calls : Bool) (s : Standing) (c : Ops) → Stands few room s → few ≤ d → d + above calls s room' ≤ count → AreBelow count c
    → AreBelow count (copied calls s d c)
copied_below few count room room' d true (Fixed n) c stands le fits below = below
copied_below few count room room' d false (Fixed n) c stands le fits below = below
copied_below few count room room' d true (Named k) c stands le fits below = ((omega arith, omega arith), below)
copied_below few count room room' d false (Named k) c stands le fits below = below
copied_below few count room room' d true Made c stands le fits below = below
copied_below few count room room' d false Made c stands le fits below = below

settled_below : (few count room d : ℕ) (s : Standing) (c : Ops) → Stands few room s → few ≤ d → d + max 1 room ≤ count → AreBelow count c → AreBelow count (settled s d c)
settled_below few count room d (Fixed n) c stands le fits below = ((omega arith, stands), below)
settled_below few count room d (Named k) c stands le fits below = ((omega arith, omega arith), below)
settled_below few count room d Made c stands le fits below = below

-- ---- operators

-- one operation on two values
calculate_below : (count d : ℕ) (op : Alu) (a b : Operand) (c : Ops) → d < count → IsBelow count a → IsBelow count b → AreBelow count c
    → AreBelow count (AndOp (Calculate d op a b) c)
calculate_below count d op a b c less x y below = ((less, x, y), below)

truth_below : (count : ℕ) (a : Operand) (d : ℕ) (c : Ops) → IsBelow count a → d < count → AreBelow count c → AreBelow count (truth_ops a d c)
truth_below count a d c x less below = ((less, omega arith, x), below)

unary_below : (count : ℕ) (op : UnOp) (a : Operand) (d : ℕ) (c : Ops) → IsBelow count a → d < count → AreBelow count c → AreBelow count (unary_ops op a d c)
unary_below count Plus a d c x less below = ((less, x), below)
unary_below count Minus a d c x less below = ((less, omega arith, x), below)
unary_below count Not a d c x less below = ((less, x, omega arith), below)
unary_below count Flip a d c x less below = ((less, x, omega arith), below)

binary_below : (count : ℕ) (op : BinOp) (unsigned : Bool) (a b : Operand) (d : ℕ) (c : Ops) → IsBelow count a → IsBelow count b → d < count → AreBelow count c
    → AreBelow count (binary_ops op unsigned a b d c)
binary_below count Mul unsigned a b d c x y less below = ((less, x, y), below)
binary_below count Div unsigned a b d c x y less below = ((less, x, y), below)
binary_below count Rem unsigned a b d c x y less below = ((less, x, y), below)
binary_below count Add unsigned a b d c x y less below = ((less, x, y), below)
binary_below count Sub unsigned a b d c x y less below = ((less, x, y), below)
binary_below count Shl unsigned a b d c x y less below = ((less, x, y), below)
binary_below count Shr unsigned a b d c x y less below = ((less, x, y), below)
binary_below count Lt unsigned a b d c x y less below = ((less, x, y), below)
binary_below count Gt unsigned a b d c x y less below = ((less, y, x), below)
binary_below count Le unsigned a b d c x y less below = ((less, y, x), ((less, less, omega arith), below))
binary_below count Ge unsigned a b d c x y less below = ((less, x, y), ((less, less, omega arith), below))
binary_below count Eq unsigned a b d c x y less below = ((less, x, y), ((less, less, omega arith), below))
binary_below count Ne unsigned a b d c x y less below = ((less, x, y), ((less, omega arith, less), below))
binary_below count And unsigned a b d c x y less below = ((less, x, y), below)
binary_below count Xor unsigned a b d c x y less below = ((less, x, y), below)
binary_below count Or unsigned a b d c x y less below = ((less, x, y), below)

-- ---- built-in functions

least_below : (count : ℕ) (unsigned : Bool) (x y a b : Operand) (d : ℕ) (c : Ops) → IsBelow count x → IsBelow count y → IsBelow count a → IsBelow count b → d + 3 ≤ count
    → AreBelow count c → AreBelow count (less_ops unsigned x y (suc (suc d)) (picked_ops a b d c))
least_below count unsigned x y a b d c p q p' q' fits below =
    let one : d < count = omega arith in
    let two : suc d < count = omega arith in
    let three : suc (suc d) < count = omega arith in
    ((three, p, q), ((three, omega arith, three), ((two, p', q'), ((two, two, three), ((one, p', two), below)))))

high_below : (count : ℕ) (unsigned : Bool) (a b : Operand) (d : ℕ) (c : Ops) → IsBelow count a → IsBelow count b → d + 1 ≤ count → AreBelow count c
    → AreBelow count (AndOp (Calculate d (by_type unsigned alu.Mulhu alu.Mulh) a b) c)
high_below count unsigned a b d c p q fits below = ((omega arith, p, q), below)

two_below : (count : ℕ) (which : Builtin) (unsigned : Bool) (a b : Operand) (d : ℕ) (c : Ops) → IsBelow count a → IsBelow count b → d + two_room which ≤ count → AreBelow count c
    → AreBelow count (two_ops which unsigned a b d c)
two_below count builtin.Min unsigned a b d c p q fits below = least_below count unsigned b a a b d c q p p q fits below
two_below count builtin.Max unsigned a b d c p q fits below = least_below count unsigned a b a b d c p q p q fits below
two_below count builtin.WorkDim unsigned a b d c p q fits below = high_below count unsigned a b d c p q fits below
two_below count builtin.GlobalId unsigned a b d c p q fits below = high_below count unsigned a b d c p q fits below
two_below count builtin.LocalId unsigned a b d c p q fits below = high_below count unsigned a b d c p q fits below
two_below count builtin.GroupId unsigned a b d c p q fits below = high_below count unsigned a b d c p q fits below
two_below count builtin.GlobalSize unsigned a b d c p q fits below = high_below count unsigned a b d c p q fits below
two_below count builtin.LocalSize unsigned a b d c p q fits below = high_below count unsigned a b d c p q fits below
two_below count builtin.NumGroups unsigned a b d c p q fits below = high_below count unsigned a b d c p q fits below
two_below count builtin.GlobalOffset unsigned a b d c p q fits below = high_below count unsigned a b d c p q fits below
two_below count builtin.Clamp unsigned a b d c p q fits below = high_below count unsigned a b d c p q fits below
two_below count builtin.MulHi unsigned a b d c p q fits below = high_below count unsigned a b d c p q fits below
two_below count builtin.Abs unsigned a b d c p q fits below = high_below count unsigned a b d c p q fits below

magnitude_below : (count : ℕ) (unsigned : Bool) (a : Operand) (d : ℕ) (c : Ops) → IsBelow count a → d + 2 ≤ count → AreBelow count c → AreBelow count (magnitude_ops unsigned a d c)
magnitude_below count true a d c p fits below = ((omega arith, p), below)
magnitude_below count false a d c p fits below =
    let one : d < count = omega arith in
    let two : suc d < count = omega arith in
    ((two, p, omega arith), ((one, p, two), ((one, one, two), below)))

id_below : (count : ℕ) (which : Builtin) (a : Operand) (d : ℕ) (c : Ops) → IsBelow count a → d + 1 ≤ count → AreBelow count c → AreBelow count (AndOp (Id d which a) c)
id_below count which a d c p fits below = ((omega arith, p), below)

one_below : (count : ℕ) (which : Builtin) (unsigned : Bool) (a : Operand) (d : ℕ) (c : Ops) → IsBelow count a → d + one_room which ≤ count → AreBelow count c
    → AreBelow count (one_ops which unsigned a d c)
one_below count builtin.Abs unsigned a d c p fits below = magnitude_below count unsigned a d c p fits below
one_below count builtin.WorkDim unsigned a d c p fits below = id_below count builtin.WorkDim a d c p fits below
one_below count builtin.GlobalId unsigned a d c p fits below = id_below count builtin.GlobalId a d c p fits below
one_below count builtin.LocalId unsigned a d c p fits below = id_below count builtin.LocalId a d c p fits below
one_below count builtin.GroupId unsigned a d c p fits below = id_below count builtin.GroupId a d c p fits below
one_below count builtin.GlobalSize unsigned a d c p fits below = id_below count builtin.GlobalSize a d c p fits below
one_below count builtin.LocalSize unsigned a d c p fits below = id_below count builtin.LocalSize a d c p fits below
one_below count builtin.NumGroups unsigned a d c p fits below = id_below count builtin.NumGroups a d c p fits below
one_below count builtin.GlobalOffset unsigned a d c p fits below = id_below count builtin.GlobalOffset a d c p fits below
one_below count builtin.Min unsigned a d c p fits below = id_below count builtin.Min a d c p fits below
one_below count builtin.Max unsigned a d c p fits below = id_below count builtin.Max a d c p fits below
one_below count builtin.Clamp unsigned a d c p fits below = id_below count builtin.Clamp a d c p fits below
one_below count builtin.MulHi unsigned a d c p fits below = id_below count builtin.MulHi a d c p fits below

-- ---- parts

-- A part behind so many variables of the kernel, which uses so many of its own.
abbrev pub PartBelow : ℕ → ℕ → ℕ → Fragment → Type 0
PartBelow few count room part = (d : ℕ) (c : Ops) → few ≤ d → d + room ≤ count → AreBelow count c → AreBelow count (part d c)

bound_below : (few count : ℕ) (binding : Binding) (a : Operand) (c : Ops) → few ≤ count → IsBound few binding → IsBelow count a → AreBelow count c
    → AreBelow count (bound_ops binding a c)
bound_below few count (ToVariable variable elem) a c le bound p below = ((omega arith, p), below)
bound_below few count Dropped a c le bound p below = below

given_below : (count : ℕ) (gives : Gives) (a : Operand) (result : ℕ) (c : Ops) → result < count → IsBelow count a → AreBelow count c → AreBelow count (given_ops gives a result c)
given_below count Nothing a result c less p below = ((less, p), below)
given_below count (Value elem) a result c less p below = ((less, p), below)

load_below : (count : ℕ) (array : ArrayRef) (elem : Elem) (pos : Pos) (place : Operand) (d : ℕ) (c : Ops) → IsBelow count place → d < count → AreBelow count c
    → AreBelow count (load_ops array elem pos place d c)
load_below count array elem pos place d c p less below = (p, ((less, p), below))

store_below : (count : ℕ) (array : ArrayRef) (elem : Elem) (pos : Pos) (place value : Operand) (c : Ops) → IsBelow count place → IsBelow count value → AreBelow count c
    → AreBelow count (store_ops array elem pos place value c)
store_below count array elem pos place value c p q below = (p, ((p, q), below))

restore_below : (count : ℕ) (checks : Bool) (array : ArrayRef) (elem : Elem) (pos : Pos) (place value : Operand) (c : Ops) → IsBelow count place → IsBelow count value
    → AreBelow count c → AreBelow count (restore_ops checks array elem pos place value c)
restore_below count true array elem pos place value c p q below = store_below count array elem pos place value c p q below
restore_below count false array elem pos place value c p q below = ((p, q), below)

pair_below : (few count room room' : ℕ) (left : Fragment) (s : Standing) (right : Fragment) (s' : Standing) (calls : Bool) (join : Operand → Operand → ℕ → Ops → Ops)
    → Stands few room s → Stands few room' s' → PartBelow few count room left → PartBelow few count room' right
    → (d : ℕ) (c : Ops) → ((a b : Operand) → IsBelow count a → IsBelow count b → AreBelow count (join a b d c)) → few ≤ d → d + pair_room room s room' calls ≤ count
    → AreBelow count (pair_ops left s right s' calls join d c)
pair_below few count room room' left s right s' calls join stands stands' one other d c joins le fits =
    let q : ℕ = above calls s d in
    let shift : q + room' ≡ d + above calls s room' = above_on calls s d room' in
    let from : d ≤ q = above_from calls s d in
    let a : Operand = held_at calls s d in
    let b : Operand = operand_at s' q in
    let first : d + room ≤ count = omega arith in
    let second : d + above calls s room' ≤ count = omega arith in
    let third : q + room' ≤ count = omega arith in
    let x : AreBelow count (join a b d c) =
    joins a b (held_below few count room room' d calls s stands le second) (operand_below few count room' q s' stands' (omega arith) third) in
    one d (copied calls s d (right q (join a b d c))) le first
    (copied_below few count room room' d calls s (right q (join a b d c)) stands le second (other q (join a b d c) (omega arith) third x))

-- ---- assignments

combined_variable_below : (few count room : ℕ) (op : BinOp) (unsigned : Bool) (variable : ℕ) (elem : Elem) (right : Fragment) (s : Standing) (calls : Bool) → variable < few
    → Stands few room s → PartBelow few count room right
    → PartBelow few count (max 1 (above calls (Named variable) room)) (combined_variable op unsigned variable elem right s calls)
combined_variable_below few count room op unsigned variable elem right s calls less stands part d c le fits below =
    let first : d < count = omega arith in
    pair_below few count 0 room (λ first after. after) (Named variable) right s calls (binary_ops op unsigned) less stands (λ d' c' le' fits' below'. below') part d
    (AndOp (Fit variable elem (VariableOf d)) c) (λ a b p q. binary_below count op unsigned a b d (AndOp (Fit variable elem (VariableOf d)) c) p q first ((omega arith, first), below))
    le (omega arith)

assigned_variable_below : (few count room : ℕ) (op : AssignOp) (unsigned : Bool) (variable : ℕ) (elem : Elem) (right : Fragment) (s : Standing) (calls : Bool) → variable < few
    → Stands few room s → PartBelow few count room right
    → PartBelow few count (assigned_room op room (max 1 (above calls (Named variable) room))) (assigned_variable op unsigned variable elem right s calls)
assigned_variable_below few count room assign.Set unsigned variable elem right s calls less stands part d c le fits below =
    part d (AndOp (Fit variable elem (operand_at s d)) c) le fits ((omega arith, operand_below few count room d s stands le fits), below)
assigned_variable_below few count room (assign.With op) unsigned variable elem right s calls less stands part d c le fits below =
    combined_variable_below few count room op unsigned variable elem right s calls less stands part d c le fits below
assigned_variable_below few count room assign.Up unsigned variable elem right s calls less stands part d c le fits below =
    combined_variable_below few count room Add unsigned variable elem right s calls less stands part d c le fits below
assigned_variable_below few count room assign.Down unsigned variable elem right s calls less stands part d c le fits below =
    combined_variable_below few count room Sub unsigned variable elem right s calls less stands part d c le fits below

changed_element_below : (few count room room' : ℕ) (op : BinOp) (unsigned : Bool) (array : ArrayRef) (elem : Elem) (pos : Pos) (place : Fragment) (p : Standing) (right : Fragment)
    (s : Standing) (calls checks : Bool) → Stands few room p → Stands few room' s → PartBelow few count room place → PartBelow few count room' right
    → PartBelow few count (pair_room room p (suc room') calls) (changed_element op unsigned array elem pos place p right s calls checks)
changed_element_below few count room room' op unsigned array elem pos place p right s calls checks stands stands' one other d c le fits below =
    let q : ℕ = above calls p d in
    let shift : q + suc room' ≡ d + above calls p (suc room') = above_on calls p d (suc room') in
    let from : d ≤ q = above_from calls p d in
    let a : Operand = held_at calls p d in
    let b : Operand = operand_at s (suc q) in
    let first : d + room ≤ count = omega arith in
    let second : d + above calls p (suc room') ≤ count = omega arith in
    let third : suc q + room' ≤ count = omega arith in
    let here : q < count = omega arith in
    let z : Ops = restore_ops checks array elem pos a (VariableOf q) c in
    let y : Ops = binary_ops op unsigned (VariableOf q) b q z in
    let v : Ops = right (suc q) y in
    let held : IsBelow count a = held_below few count room (suc room') d calls p stands le second in
    let zs : AreBelow count z = restore_below count checks array elem pos a (VariableOf q) c held here below in
    let ys : AreBelow count y = binary_below count op unsigned (VariableOf q) b q z here (operand_below few count room' (suc q) s stands' (omega arith) third) here zs in
    let vs : AreBelow count v = other (suc q) y (omega arith) third ys in
    one d (copied calls p d (load_ops array elem pos a q v)) le first
    (copied_below few count room (suc room') d calls p (load_ops array elem pos a q v) stands le second (load_below count array elem pos a q v held here vs))

assigned_element_below : (few count room room' : ℕ) (op : AssignOp) (unsigned : Bool) (array : ArrayRef) (elem : Elem) (pos : Pos) (place : Fragment) (p : Standing) (right : Fragment)
    (s : Standing) (calls checks : Bool) → Stands few room p → Stands few room' s → PartBelow few count room place → PartBelow few count room' right
    → PartBelow few count (assigned_room op (pair_room room p room' calls) (pair_room room p (suc room') calls))
    (assigned_element op unsigned array elem pos place p right s calls checks)
assigned_element_below few count room room' assign.Set unsigned array elem pos place p right s calls checks stands stands' one other d c le fits below =
    pair_below few count room room' place p right s calls (λ a b first after. store_ops array elem pos a b after) stands stands' one other d c
    (λ a b x y. store_below count array elem pos a b c x y below) le fits
assigned_element_below few count room room' (assign.With op) unsigned array elem pos place p right s calls checks stands stands' one other d c le fits below =
    changed_element_below few count room room' op unsigned array elem pos place p right s calls checks stands stands' one other d c le fits below
assigned_element_below few count room room' assign.Up unsigned array elem pos place p right s calls checks stands stands' one other d c le fits below =
    changed_element_below few count room room' Add unsigned array elem pos place p right s calls checks stands stands' one other d c le fits below
assigned_element_below few count room room' assign.Down unsigned array elem pos place p right s calls checks stands stands' one other d c le fits below =
    changed_element_below few count room room' Sub unsigned array elem pos place p right s calls checks stands stands' one other d c le fits below

-- ---- the whole

mutual
  pub value_below : (params : List Param) (arrays : List LocalArray) (few count : ℕ) (e : FlatExpr) → ProperExpr params arrays few e
      → PartBelow few count (value_room e) (value_ops e)
  value_below params arrays few count (NumberFlat n unsigned) proper d c le fits below = below
  value_below params arrays few count (VariableFlat k) proper d c le fits below = below
  value_below params arrays few count (UnaryFlat op part) proper d c le fits below =
      let a : Operand = operand_at (standing part) d in
      let own : d + value_room part ≤ count = omega arith in
      let first : d < count = omega arith in
      value_below params arrays few count part proper d (unary_ops op a d c) le own
      (unary_below count op a d c (operand_below few count (value_room part) d (standing part) (stands_so params arrays few part proper) le own) first below)
  value_below params arrays few count (BinaryFlat op unsigned left right) proper d c le fits below =
      let first : d < count = omega arith in
      pair_below few count (value_room left) (value_room right) (value_ops left) (standing left) (value_ops right) (standing right) (calls right) (binary_ops op unsigned)
      (stands_so params arrays few left proper.0) (stands_so params arrays few right proper.1) (value_below params arrays few count left proper.0)
      (value_below params arrays few count right proper.1) d c (λ a b p q. binary_below count op unsigned a b d c p q first below) le (omega arith)
  value_below params arrays few count (BothFlat left right) proper d c le fits below =
      let first : d < count = omega arith in
      let own : d + value_room left ≤ count = omega arith in
      let own' : suc d + value_room right ≤ count = omega arith in
      let x : Ops = truth_ops (operand_at (standing right) (suc d)) d NoOps in
      let y : Ops = AndOp (If (VariableOf d) (value_ops right (suc d) x) NoOps) c in
      let z : Ops = truth_ops (operand_at (standing left) d) d y in
      value_below params arrays few count left proper.0 d z le own
      (truth_below count (operand_at (standing left) d) d y (operand_below few count (value_room left) d (standing left) (stands_so params arrays few left proper.0) le own) first (
        (
          first,
          value_below params arrays few count right proper.1 (suc d) x (omega arith) own'
              (truth_below count (operand_at (standing right) (suc d)) d NoOps
              (operand_below few count (value_room right) (suc d) (standing right) (stands_so params arrays few right proper.1) (omega arith) own') first tt),
          tt,
        ),
        below,
      ))
  value_below params arrays few count (EitherFlat left right) proper d c le fits below =
      let first : d < count = omega arith in
      let own : d + value_room left ≤ count = omega arith in
      let own' : suc d + value_room right ≤ count = omega arith in
      let x : Ops = truth_ops (operand_at (standing right) (suc d)) d NoOps in
      let y : Ops = AndOp (If (VariableOf d) NoOps (value_ops right (suc d) x)) c in
      let z : Ops = truth_ops (operand_at (standing left) d) d y in
      value_below params arrays few count left proper.0 d z le own
      (truth_below count (operand_at (standing left) d) d y (operand_below few count (value_room left) d (standing left) (stands_so params arrays few left proper.0) le own) first (
        (
          first,
          tt,
          value_below params arrays few count right proper.1 (suc d) x (omega arith) own'
              (truth_below count (operand_at (standing right) (suc d)) d NoOps
              (operand_below few count (value_room right) (suc d) (standing right) (stands_so params arrays few right proper.1) (omega arith) own') first tt),
        ),
        below,
      ))
  value_below params arrays few count (ChooseFlat unsigned test one other) proper d c le fits below =
      let own : d + value_room test ≤ count = omega arith in
      let own' : d + value_room one ≤ count = omega arith in
      let own'' : d + value_room other ≤ count = omega arith in
      let a : Operand = operand_at (standing test) d in
      let x : Ops = settled (standing one) d NoOps in
      let y : Ops = settled (standing other) d NoOps in
      value_below params arrays few count test proper.0 d (AndOp (If a (value_ops one d x) (value_ops other d y)) c) le own (
        (
          operand_below few count (value_room test) d (standing test) (stands_so params arrays few test proper.0) le own,
          value_below params arrays few count one proper.1 d x le own'
              (settled_below few count (value_room one) d (standing one) NoOps (stands_so params arrays few one proper.1) le (omega arith) tt),
          value_below params arrays few count other proper.2 d y le own''
              (settled_below few count (value_room other) d (standing other) NoOps (stands_so params arrays few other proper.2) le (omega arith) tt),
        ),
        below,
      )
  value_below params arrays few count (CastFlat elem part) proper d c le fits below =
      let a : Operand = operand_at (standing part) d in
      let own : d + value_room part ≤ count = omega arith in
      value_below params arrays few count part proper d (AndOp (Fit d elem a) c) le own
      ((omega arith, operand_below few count (value_room part) d (standing part) (stands_so params arrays few part proper) le own), below)
  value_below params arrays few count (LoadFlat array elem place pos) proper d c le fits below =
      let a : Operand = operand_at (standing place) d in
      let own : d + value_room place ≤ count = omega arith in
      value_below params arrays few count place proper.1 d (load_ops array elem pos a d c) le own
      (load_below count array elem pos a d c (operand_below few count (value_room place) d (standing place) (stands_so params arrays few place proper.1) le own) (omega arith) below)
  value_below params arrays few count (CallFlat args body) proper d c le fits below =
      let b : Ops = stmts_ops body d NoOps in
      args_below params arrays few count args proper.0 d (AndOp (Set d (NumberOf 0)) (AndOp (Call b) c)) le (omega arith)
      ((omega arith, omega arith), (stmts_below params arrays few count body proper.1 d NoOps le (omega arith) tt, below))
  value_below params arrays few count (LostFlat args) proper d c le fits below = below
  value_below params arrays few count (BuiltinFlat which unsigned args) proper d c le fits below = builtin_below params arrays few count args proper.1 which unsigned d c le fits below
  value_below params arrays few count (ParenFlat part) proper d c le fits below = value_below params arrays few count part proper d c le fits below

  builtin_below : (params : List Param) (arrays : List LocalArray) (few count : ℕ) (args : FlatArgs) → ProperArgs params arrays few args → (which : Builtin) (unsigned : Bool)
      → PartBelow few count (builtin_room which args) (builtin_ops which unsigned args)
  builtin_below params arrays few count NoFlatArgs proper which unsigned d c le fits below = id_below count which (NumberOf 0) d c (omega arith) fits below
  builtin_below params arrays few count (NamedArg array more) proper which unsigned d c le fits below = id_below count which (NumberOf 0) d c (omega arith) fits below
  builtin_below params arrays few count (NumberArg x b NoFlatArgs) proper which unsigned d c le fits below =
      let a : Operand = operand_at (standing x) d in
      let own : d + value_room x ≤ count = omega arith in
      value_below params arrays few count x proper.0 d (one_ops which unsigned a d c) le own
      (one_below count which unsigned a d c (operand_below few count (value_room x) d (standing x) (stands_so params arrays few x proper.0) le own) (omega arith) below)
  builtin_below params arrays few count (NumberArg x b (NamedArg array more)) proper which unsigned d c le fits below =
      id_below count which (NumberOf 0) d c (omega arith) fits below
  builtin_below params arrays few count (NumberArg x b (NumberArg y b' NoFlatArgs)) proper which unsigned d c le fits below =
      pair_below few count (value_room x) (value_room y) (value_ops x) (standing x) (value_ops y) (standing y) (calls y) (two_ops which unsigned)
      (stands_so params arrays few x proper.0) (stands_so params arrays few y proper.2.0) (value_below params arrays few count x proper.0)
      (value_below params arrays few count y proper.2.0) d c (λ a b p q. two_below count which unsigned a b d c p q (omega arith) below) le (omega arith)
  builtin_below params arrays few count (NumberArg x b (NumberArg y b' (NamedArg array more))) proper which unsigned d c le fits below =
      id_below count which (NumberOf 0) d c (omega arith) fits below
  builtin_below params arrays few count (NumberArg x b (NumberArg y b' (NumberArg z b'' more))) proper which unsigned d c le fits below =
      let a : Operand = operand_at (standing z) (suc d) in
      let v : Ops = two_ops builtin.Min unsigned (VariableOf d) a d c in
      let w : Ops = value_ops z (suc d) v in
      let three : d + 3 ≤ count = omega arith in
      let own : suc d + value_room z ≤ count = omega arith in
      let vs : AreBelow count v = two_below count builtin.Min unsigned (VariableOf d) a d c (omega arith)
      (operand_below few count (value_room z) (suc d) (standing z) (stands_so params arrays few z proper.2.2.0) (omega arith) own) three below in
      let ws : AreBelow count w = value_below params arrays few count z proper.2.2.0 (suc d) v (omega arith) own vs in
      pair_below few count (value_room x) (value_room y) (value_ops x) (standing x) (value_ops y) (standing y) (calls y) (two_ops builtin.Max unsigned)
      (stands_so params arrays few x proper.0) (stands_so params arrays few y proper.2.0) (value_below params arrays few count x proper.0)
      (value_below params arrays few count y proper.2.0) d w (λ a' b' p q. two_below count builtin.Max unsigned a' b' d w p q three ws) le (omega arith)

  args_below : (params : List Param) (arrays : List LocalArray) (few count : ℕ) (args : FlatArgs) → ProperArgs params arrays few args
      → PartBelow few count (args_room args) (args_ops args)
  args_below params arrays few count NoFlatArgs proper d c le fits below = below
  args_below params arrays few count (NumberArg e binding more) proper d c le fits below =
      let a : Operand = operand_at (standing e) d in
      let x : Ops = args_ops more d c in
      let own : d + value_room e ≤ count = omega arith in
      value_below params arrays few count e proper.0 d (bound_ops binding a x) le own
      (bound_below few count binding a x (omega arith) proper.1 (operand_below few count (value_room e) d (standing e) (stands_so params arrays few e proper.0) le own)
      (args_below params arrays few count more proper.2 d c le (omega arith) below))
  args_below params arrays few count (NamedArg array more) proper d c le fits below = args_below params arrays few count more proper d c le fits below

  right_below : (params : List Param) (arrays : List LocalArray) (few count : ℕ) (value : FlatValue) → ProperValue params arrays few value
      → PartBelow few count (right_room value) (right_ops value)
  right_below params arrays few count NoFlat proper d c le fits below = below
  right_below params arrays few count (SomeFlat e) proper d c le fits below = value_below params arrays few count e proper d c le fits below

  declared_below : (params : List Param) (arrays : List LocalArray) (few count : ℕ) (value : FlatValue) → ProperValue params arrays few value → (variable : ℕ) (elem : Elem)
      → variable < few → PartBelow few count (right_room value) (declared_ops variable elem value)
  declared_below params arrays few count NoFlat proper variable elem less d c le fits below = ((omega arith, omega arith), below)
  declared_below params arrays few count (SomeFlat e) proper variable elem less d c le fits below =
      let a : Operand = operand_at (standing e) d in
      let here : variable < count = omega arith in (
        (here, omega arith),
        value_below params arrays few count e proper d (AndOp (Fit variable elem a) c) le fits
            ((here, operand_below few count (value_room e) d (standing e) (stands_so params arrays few e proper) le fits), below),
      )

  return_below : (params : List Param) (arrays : List LocalArray) (few count : ℕ) (value : FlatValue) → ProperValue params arrays few value → (gives : Gives)
      → PartBelow few count (suc (right_room value)) (return_ops gives value)
  return_below params arrays few count NoFlat proper gives result c le fits below = (tt, below)
  return_below params arrays few count (SomeFlat e) proper gives result c le fits below =
      let a : Operand = operand_at (standing e) (suc result) in
      let own : suc result + value_room e ≤ count = omega arith in
      value_below params arrays few count e proper (suc result) (given_ops gives a result (AndOp Return c)) (omega arith) own
      (given_below count gives a result (AndOp Return c) (omega arith)
      (operand_below few count (value_room e) (suc result) (standing e) (stands_so params arrays few e proper) (omega arith) own) (tt, below))

  test_below : (params : List Param) (arrays : List LocalArray) (few count : ℕ) (test : FlatValue) → ProperValue params arrays few test → (body st : Ops) → AreBelow count body
      → AreBelow count st → PartBelow few count (right_room test) (loop_ops test body st)
  test_below params arrays few count NoFlat proper body st one other d c le fits below = ((omega arith, tt, one, other), below)
  test_below params arrays few count (SomeFlat e) proper body st one other d c le fits below = (
    (
      operand_below few count (value_room e) d (standing e) (stands_so params arrays few e proper) le fits,
      value_below params arrays few count e proper d NoOps le fits tt,
      one,
      other,
    ),
    below,
  )

  pub stmt_below : (params : List Param) (arrays : List LocalArray) (few count : ℕ) (s : FlatStmt) → ProperStmt params arrays few s → PartBelow few count (stmt_room s) (stmt_ops s)
  stmt_below params arrays few count (DeclareFlat variable elem value) proper result c le fits below =
      declared_below params arrays few count value proper.1 variable elem proper.0 (suc result) c (omega arith) (omega arith) below
  stmt_below params arrays few count (LocalArrayFlat array size) proper result c le fits below = below
  stmt_below params arrays few count (SetVariableFlat variable elem op unsigned value) proper result c le fits below =
      assigned_variable_below few count (right_room value) op unsigned variable elem (right_ops value) (right_standing value) (right_calls value) proper.0
      (right_stands_so params arrays few value proper.1) (right_below params arrays few count value proper.1) (suc result) c (omega arith) (omega arith) below
  stmt_below params arrays few count (SetElementFlat array elem place op unsigned value pos) proper result c le fits below =
      assigned_element_below few count (value_room place) (right_room value) op unsigned array elem pos (value_ops place) (standing place) (right_ops value) (right_standing value)
      (right_calls value) (right_branches value) (stands_so params arrays few place proper.2) (right_stands_so params arrays few value proper.3)
      (value_below params arrays few count place proper.2) (right_below params arrays few count value proper.3) (suc result) c (omega arith) (omega arith) below
  stmt_below params arrays few count (CallStmtFlat call) proper result c le fits below =
      value_below params arrays few count call proper (suc result) c (omega arith) (omega arith) below
  stmt_below params arrays few count (BarrierFlat site) proper result c le fits below = (tt, below)
  stmt_below params arrays few count (IfFlat test one) proper result c le fits below =
      let a : Operand = operand_at (standing test) (suc result) in
      let v : Ops = stmt_ops one result NoOps in
      let own : suc result + value_room test ≤ count = omega arith in
      value_below params arrays few count test proper.0 (suc result) (AndOp (If a v NoOps) c) (omega arith) own (
        (
          operand_below few count (value_room test) (suc result) (standing test) (stands_so params arrays few test proper.0) (omega arith) own,
          stmt_below params arrays few count one proper.1 result NoOps le (omega arith) tt,
          tt,
        ),
        below,
      )
  stmt_below params arrays few count (IfElseFlat test one other) proper result c le fits below =
      let a : Operand = operand_at (standing test) (suc result) in
      let v : Ops = stmt_ops one result NoOps in
      let w : Ops = stmt_ops other result NoOps in
      let own : suc result + value_room test ≤ count = omega arith in
      value_below params arrays few count test proper.0 (suc result) (AndOp (If a v w) c) (omega arith) own (
        (
          operand_below few count (value_room test) (suc result) (standing test) (stands_so params arrays few test proper.0) (omega arith) own,
          stmt_below params arrays few count one proper.1 result NoOps le (omega arith) tt,
          stmt_below params arrays few count other proper.2 result NoOps le (omega arith) tt,
        ),
        below,
      )
  stmt_below params arrays few count (WhileFlat test body) proper result c le fits below =
      let own : suc result + value_room test ≤ count = omega arith in (
        (
          operand_below few count (value_room test) (suc result) (standing test) (stands_so params arrays few test proper.0) (omega arith) own,
          value_below params arrays few count test proper.0 (suc result) NoOps (omega arith) own tt,
          stmt_below params arrays few count body proper.1 result NoOps le (omega arith) tt,
          tt,
        ),
        below,
      )
  stmt_below params arrays few count (DoFlat body test) proper result c le fits below =
      let x : Ops = settled (standing test) (suc result) NoOps in
      let first : suc result < count = omega arith in
      let own : suc result + value_room test ≤ count = omega arith in (
        (first, omega arith),
        (
          (
            first,
            tt,
            stmt_below params arrays few count body proper.0 result NoOps le (omega arith) tt,
            value_below params arrays few count test proper.1 (suc result) x (omega arith) own
                (settled_below few count (value_room test) (suc result) (standing test) NoOps (stands_so params arrays few test proper.1) (omega arith) (omega arith) tt),
          ),
          below,
        ),
      )
  stmt_below params arrays few count (ForFlat first test st body) proper result c le fits below =
      let b : Ops = stmt_ops body result NoOps in
      let x : Ops = stmts_ops st result NoOps in
      stmts_below params arrays few count first proper.0 result (loop_ops test b x (suc result) c) le (omega arith)
      (test_below params arrays few count test proper.1 b x (stmt_below params arrays few count body proper.3 result NoOps le (omega arith) tt)
      (stmts_below params arrays few count st proper.2 result NoOps le (omega arith) tt) (suc result) c (omega arith) (omega arith) below)
  stmt_below params arrays few count BreakFlat proper result c le fits below = (tt, below)
  stmt_below params arrays few count ContinueFlat proper result c le fits below = (tt, below)
  stmt_below params arrays few count (ReturnFlat gives value) proper result c le fits below = return_below params arrays few count value proper gives result c le fits below
  stmt_below params arrays few count (BlockFlat items) proper result c le fits below = stmts_below params arrays few count items proper result c le fits below
  stmt_below params arrays few count EmptyFlat proper result c le fits below = below

  pub stmts_below : (params : List Param) (arrays : List LocalArray) (few count : ℕ) (ss : FlatStmts) → ProperStmts params arrays few ss
      → PartBelow few count (stmts_room ss) (stmts_ops ss)
  stmts_below params arrays few count NoFlats proper result c le fits below = below
  stmts_below params arrays few count (AndFlat s ss) proper result c le fits below =
      stmt_below params arrays few count s proper.0 result (stmts_ops ss result c) le (omega arith)
      (stmts_below params arrays few count ss proper.1 result c le (omega arith) below)

-- ---- kernels

-- the code of a proper kernel has no variable from its count on, and no number that is no word
pub kernel_below : (flat : FlatKernel) → IsProperKernel flat → AreBelow (normal_kernel flat).variables (normal_kernel flat).ops
kernel_below flat proper =
    stmts_below flat.params flat.arrays flat.variables (normal_kernel flat).variables flat.body (body_proper flat proper) flat.variables NoOps (omega arith) (omega arith) tt
