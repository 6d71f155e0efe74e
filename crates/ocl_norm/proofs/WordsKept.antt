-- How many words of code the normal form comes to at most once jumps are flags, and how many variables it takes besides: so many for each
-- node of the flat kernel.
use Rattle.std.proofs.Common.{ℕ, suc, ◌+◌, ◌-◌, ◌*◌, ◌≤◌, max, Bool, true, false, arith}
use Rattle.vx_base.specs.declared.types.Elem.{Elem}
use Rattle.vx_base.specs.declared.types.Pos.{Pos}
use Rattle.ocl_ast.specs.declared.exprs.BinOp.{BinOp}
use Rattle.ocl_ast.specs.declared.exprs.BinOp.TheVariants.{Add, Sub}
use Rattle.ocl_ast.specs.declared.stmts.AssignOp.{AssignOp}
use Rattle.ocl_ast.specs.declared.stmts.AssignOp.TheVariants as assign
use Rattle.ocl_ast.specs.declared.units.Gives.{Gives}
use Rattle.ocl_program.specs.declared.exprs.ArrayRef.{ArrayRef}
use Rattle.ocl_program.specs.declared.exprs.Builtin.{Builtin}
use Rattle.ocl_program.specs.declared.exprs.Builtin.TheVariants.{Min, Max}
use Rattle.kir.specs.FlaggedWords.{flagged_words}
use Rattle.kir.specs.Measures.{runs}
use Rattle.kir.specs.Trees.{Operand, VariableOf, NumberOf, Set, Fit, Id, If, Loop, Return, Call, Ops, NoOps, AndOp}
use Rattle.kir.specs.Weights.{operand_words, test_words}
use Rattle.ocl_inline.specs.FlatMeasures.{flat_expr_nodes, flat_value_nodes, flat_args_nodes, flat_stmt_nodes, flat_nodes, flat_expr_control, flat_value_control, flat_args_control, flat_stmt_control, flat_control, flat_expr_calls, flat_value_calls, flat_args_calls, flat_stmt_calls, flat_calls}
use Rattle.ocl_inline.specs.Trees.{FlatValue, NoFlat, SomeFlat, FlatExpr, NumberFlat, VariableFlat, UnaryFlat, BinaryFlat, BothFlat, EitherFlat, ChooseFlat, CastFlat, LoadFlat, CallFlat, LostFlat, BuiltinFlat, ParenFlat, FlatArgs, NoFlatArgs, NumberArg, NamedArg, FlatStmt, DeclareFlat, LocalArrayFlat, SetVariableFlat, SetElementFlat, CallStmtFlat, BarrierFlat, IfFlat, IfElseFlat, WhileFlat, DoFlat, ForFlat, BreakFlat, ContinueFlat, ReturnFlat, BlockFlat, EmptyFlat, FlatStmts, NoFlats, AndFlat, FlatKernel}
use Rattle.ocl_inline.specs.declared.trees.Binding.{Binding}
use Rattle.ocl_norm.specs.Normal.{Fragment, calls, right_calls, right_branches, pair_ops, bound_ops, load_ops, store_ops, restore_ops, combined_variable, assigned_variable, changed_element, assigned_element, given_ops, value_ops, builtin_ops, args_ops, right_ops, loop_ops, stmt_ops, stmts_ops, normal_kernel}
use Rattle.ocl_norm.specs.Operators.{truth_ops, unary_ops, binary_ops, one_ops, two_ops}
use Rattle.ocl_norm.specs.Rooms.{one_room, two_room, pair_room, assigned_room, value_room, args_room, right_room, stmt_room, stmts_room}
use Rattle.ocl_norm.specs.Standings.{Standing, Fixed, Named, Made, standing, right_standing, operand_at, copied, held_at, above, settled}
use Rattle.ocl_norm.proofs.FewNested.{value_few, args_few}
use Rattle.ocl_norm.proofs.PartWords.{Adds, operand_most, test_most, truth_adds, unary_adds, binary_adds, two_adds, least_adds, one_adds, id_adds, set_adds, fit_adds, bound_adds, given_adds, load_adds, store_adds, restore_adds, restore_words, copied_adds, settled_adds, runs_fewer}
use Rattle.ocl_norm.proofs.RoomKept.{above_most, two_most, assigned_most}

-- ---- expressions

-- the variables that an expression takes: its own, one for each call within another, and four for each branch or loop
abbrev pub taken : FlatExpr → ℕ
taken e = value_room e + flat_expr_calls e + 4 * flat_expr_control e

-- what its nodes allow
abbrev pub allowed : FlatExpr → ℕ
allowed e = 38 * flat_expr_nodes e

-- Of what is allowed 16 words are left.
abbrev pub ExprWords : FlatExpr → Type 0
ExprWords e = (d : ℕ) (c : Ops) → flagged_words (value_ops e d c) + taken e + 16 ≤ allowed e + flagged_words c

behind_words : (e : FlatExpr) → ExprWords e → (part : Fragment) (w : ℕ) → Adds w part → (d : ℕ) (c : Ops)
    → flagged_words (value_ops e d (part d c)) + taken e + 16 ≤ allowed e + w + flagged_words c
behind_words e words part w adds d c =
    let h : flagged_words (value_ops e d (part d c)) + taken e + 16 ≤ allowed e + flagged_words (part d c) = words d (part d c) in
    let k : flagged_words (part d c) ≤ w + flagged_words c = adds d c in omega arith

made_copied : (calls : Bool) → Adds 0 (copied calls Made)
made_copied true d c = omega arith
made_copied false d c = omega arith

-- What follows may need more where the value is a number or a variable of the kernel.
ends_words : (e : FlatExpr) → ExprWords e → (f : Standing → Fragment) (w : ℕ) → Adds w (f Made) → ((n : ℕ) → Adds (w + 22) (f (Fixed n))) → ((k : ℕ) → Adds (w + 22) (f (Named k)))
    → (d : ℕ) (c : Ops) → flagged_words (value_ops e d (f (standing e) d c)) + taken e + 16 ≤ allowed e + w + flagged_words c
ends_words (NumberFlat n unsigned) words f w made fixed named d c =
    let h : flagged_words (f (Fixed n) d c) ≤ w + 22 + flagged_words c = fixed n d c in omega arith
ends_words (VariableFlat k) words f w made fixed named d c =
    let h : flagged_words (f (Named k) d c) ≤ w + 22 + flagged_words c = named k d c in omega arith
ends_words (LostFlat args) words f w made fixed named d c =
    let h : flagged_words (f (Fixed 0) d c) ≤ w + 22 + flagged_words c = fixed 0 d c in
    let k : flat_args_calls args + 4 * flat_args_control args ≤ 5 * flat_args_nodes args = args_few args in omega arith
ends_words (ParenFlat part) words f w made fixed named d c = ends_words part words f w made fixed named d c
ends_words (UnaryFlat op part) words f w made fixed named d c = behind_words (UnaryFlat op part) words (f Made) w made d c
ends_words (BinaryFlat op unsigned left right) words f w made fixed named d c = behind_words (BinaryFlat op unsigned left right) words (f Made) w made d c
ends_words (BothFlat left right) words f w made fixed named d c = behind_words (BothFlat left right) words (f Made) w made d c
ends_words (EitherFlat left right) words f w made fixed named d c = behind_words (EitherFlat left right) words (f Made) w made d c
ends_words (ChooseFlat unsigned test one other) words f w made fixed named d c = behind_words (ChooseFlat unsigned test one other) words (f Made) w made d c
ends_words (CastFlat elem part) words f w made fixed named d c = behind_words (CastFlat elem part) words (f Made) w made d c
ends_words (LoadFlat array elem place pos) words f w made fixed named d c = behind_words (LoadFlat array elem place pos) words (f Made) w made d c
ends_words (CallFlat args body) words f w made fixed named d c = behind_words (CallFlat args body) words (f Made) w made d c
ends_words (BuiltinFlat which unsigned args) words f w made fixed named d c = behind_words (BuiltinFlat which unsigned args) words (f Made) w made d c

-- a value that is held, one that has to stand in the first variable, an index, and what goes into a variable
held_words : (e : FlatExpr) → ExprWords e → (calls : Bool) (d : ℕ) (c : Ops) → flagged_words (value_ops e d (copied calls (standing e) d c)) + taken e + 16 ≤ allowed e + flagged_words c
held_words e words calls d c =
    let h : flagged_words (value_ops e d (copied calls (standing e) d c)) + taken e + 16 ≤ allowed e + 0 + flagged_words c =
    ends_words e words (copied calls) 0 (made_copied calls) (λ n d' c'. let k : flagged_words (copied calls (Fixed n) d' c') ≤ 11 + flagged_words c' = copied_adds calls (Fixed n) d' c' in omega arith)
    (λ k d' c'. let j : flagged_words (copied calls (Named k) d' c') ≤ 11 + flagged_words c' = copied_adds calls (Named k) d' c' in omega arith) d c in omega arith

settled_words : (e : FlatExpr) → ExprWords e → (d : ℕ) (c : Ops) → flagged_words (value_ops e d (settled (standing e) d c)) + taken e + 16 ≤ allowed e + flagged_words c
settled_words e words d c =
    let h : flagged_words (value_ops e d (settled (standing e) d c)) + taken e + 16 ≤ allowed e + 0 + flagged_words c =
    ends_words e words settled 0 (λ d' c'. omega arith) (λ n d' c'. let k : flagged_words (settled (Fixed n) d' c') ≤ 12 + flagged_words c' = settled_adds (Fixed n) d' c' in omega arith)
    (λ k d' c'. let j : flagged_words (settled (Named k) d' c') ≤ 12 + flagged_words c' = settled_adds (Named k) d' c' in omega arith) d c in omega arith

load_words : (e : FlatExpr) → ExprWords e → (array : ArrayRef) (elem : Elem) (pos : Pos) (d : ℕ) (c : Ops)
    → flagged_words (value_ops e d (load_ops array elem pos (operand_at (standing e) d) d c)) + taken e + 16 ≤ allowed e + 37 + flagged_words c
load_words e words array elem pos d c =
    ends_words e words (λ s d' c'. load_ops array elem pos (operand_at s d') d' c') 37 (λ d' c'. load_adds array elem pos (VariableOf d') d' c')
    (λ n d' c'. let h : flagged_words (load_ops array elem pos (NumberOf n) d' c') ≤ 39 + flagged_words c' = load_adds array elem pos (NumberOf n) d' c' in omega arith)
    (λ k d' c'. let h : flagged_words (load_ops array elem pos (VariableOf k) d' c') ≤ 37 + flagged_words c' = load_adds array elem pos (VariableOf k) d' c' in omega arith) d c

argument_words : (e : FlatExpr) → ExprWords e → (binding : Binding) (d : ℕ) (c : Ops)
    → flagged_words (value_ops e d (bound_ops binding (operand_at (standing e) d) c)) + taken e + 16 ≤ allowed e + 15 + flagged_words c
argument_words e words binding d c =
    ends_words e words (λ s d' c'. bound_ops binding (operand_at s d') c') 15 (λ d' c'. bound_adds binding (VariableOf d') c')
    (λ n d' c'. let h : flagged_words (bound_ops binding (NumberOf n) c') ≤ 16 + flagged_words c' = bound_adds binding (NumberOf n) c' in omega arith)
    (λ k d' c'. let h : flagged_words (bound_ops binding (VariableOf k) c') ≤ 15 + flagged_words c' = bound_adds binding (VariableOf k) c' in omega arith) d c

-- ---- two parts

pair_words : (x y : FlatExpr) → ExprWords x → ExprWords y → (join : Operand → Operand → ℕ → Ops → Ops) (w : ℕ) → ((a b : Operand) → Adds w (join a b)) → (d : ℕ) (c : Ops)
    → flagged_words (pair_ops (value_ops x) (standing x) (value_ops y) (standing y) (calls y) join d c) + (taken x + taken y) + 32 ≤ allowed x + allowed y + w + flagged_words c
pair_words x y words words' join w adds d c =
    let q : ℕ = above (calls y) (standing x) d in
    let v : Ops = join (held_at (calls y) (standing x) d) (operand_at (standing y) q) d c in
    let u : Ops = value_ops y q v in
    let h1 : flagged_words (value_ops x d (copied (calls y) (standing x) d u)) + taken x + 16 ≤ allowed x + flagged_words u = held_words x words (calls y) d u in
    let h2 : flagged_words u + taken y + 16 ≤ allowed y + flagged_words v = words' q v in
    let h3 : flagged_words v ≤ w + flagged_words c = adds (held_at (calls y) (standing x) d) (operand_at (standing y) q) d c in omega arith

-- the variables of two parts
pair_room_most : (x y : FlatExpr) → pair_room (value_room x) (standing x) (value_room y) (calls y) ≤ value_room x + suc (value_room y)
pair_room_most x y =
    let h : above (calls y) (standing x) (value_room y) ≤ suc (value_room y) = above_most (calls y) (standing x) (value_room y) in omega arith

-- ---- statements

-- what a statement takes, but for the result of its call
abbrev pub stmt_taken : FlatStmt → ℕ
stmt_taken s = stmt_room s - 1 + flat_stmt_calls s + 4 * flat_stmt_control s

abbrev pub stmt_allowed : FlatStmt → ℕ
stmt_allowed s = 38 * flat_stmt_nodes s

abbrev pub StmtWords : FlatStmt → Type 0
StmtWords s = (d : ℕ) (c : Ops) → flagged_words (stmt_ops s d c) + stmt_taken s ≤ stmt_allowed s + flagged_words c

abbrev pub stmts_taken : FlatStmts → ℕ
stmts_taken ss = stmts_room ss - 1 + flat_calls ss + 4 * flat_control ss

abbrev pub stmts_allowed : FlatStmts → ℕ
stmts_allowed ss = 38 * flat_nodes ss

abbrev pub StmtsWords : FlatStmts → Type 0
StmtsWords ss = (d : ℕ) (c : Ops) → flagged_words (stmts_ops ss d c) + stmts_taken ss ≤ stmts_allowed ss + flagged_words c

abbrev pub args_taken : FlatArgs → ℕ
args_taken args = args_room args + flat_args_calls args + 4 * flat_args_control args

abbrev pub args_allowed : FlatArgs → ℕ
args_allowed args = 38 * flat_args_nodes args

abbrev pub ArgsWords : FlatArgs → Type 0
ArgsWords args = (d : ℕ) (c : Ops) → flagged_words (args_ops args d c) + args_taken args ≤ args_allowed args + flagged_words c

abbrev pub value_taken : FlatValue → ℕ
value_taken value = right_room value + flat_value_calls value + 4 * flat_value_control value

abbrev pub value_allowed : FlatValue → ℕ
value_allowed value = 38 * flat_value_nodes value

-- words that are left of a right side
abbrev pub spare : FlatValue → ℕ
spare NoFlat = 0
spare (SomeFlat e) = 16

abbrev pub RightWords : FlatValue → Type 0
RightWords value = (d : ℕ) (c : Ops) → flagged_words (right_ops value d c) + value_taken value + spare value ≤ value_allowed value + flagged_words c

-- ---- assignments

combined_variable_words : (op : BinOp) (unsigned : Bool) (variable : ℕ) (elem : Elem) (value : FlatValue) → RightWords value → (d : ℕ) (c : Ops)
    → flagged_words (combined_variable op unsigned variable elem (right_ops value) (right_standing value) (right_calls value) d c) + value_taken value ≤ value_allowed value + 46 + flagged_words c
combined_variable_words op unsigned variable elem value words d c =
    let q : ℕ = above (right_calls value) (Named variable) d in
    let x : Ops = AndOp (Fit variable elem (VariableOf d)) c in
    let a : Operand = held_at (right_calls value) (Named variable) d in
    let b : Operand = operand_at (right_standing value) q in
    let v : Ops = binary_ops op unsigned a b d x in
    let u : Ops = right_ops value q v in
    let h1 : flagged_words (copied (right_calls value) (Named variable) d u) ≤ 11 + flagged_words u = copied_adds (right_calls value) (Named variable) d u in
    let h2 : flagged_words u + value_taken value + spare value ≤ value_allowed value + flagged_words v = words q v in
    let h3 : flagged_words v ≤ 20 + flagged_words x = binary_adds op unsigned a b d x in
    let h4 : flagged_words x ≤ 15 + flagged_words c = fit_adds variable elem (VariableOf d) c in omega arith

assigned_variable_words : (op : AssignOp) (unsigned : Bool) (variable : ℕ) (elem : Elem) (value : FlatValue) → RightWords value → (d : ℕ) (c : Ops)
    → flagged_words (assigned_variable op unsigned variable elem (right_ops value) (right_standing value) (right_calls value) d c) + value_taken value ≤ value_allowed value + 46 + flagged_words c
assigned_variable_words assign.Set unsigned variable elem value words d c =
    let x : Ops = AndOp (Fit variable elem (operand_at (right_standing value) d)) c in
    let h : flagged_words (right_ops value d x) + value_taken value + spare value ≤ value_allowed value + flagged_words x = words d x in
    let k : flagged_words x ≤ 14 + operand_words (operand_at (right_standing value) d) + flagged_words c = fit_adds variable elem (operand_at (right_standing value) d) c in
    let o : operand_words (operand_at (right_standing value) d) ≤ 2 = operand_most (operand_at (right_standing value) d) in omega arith
assigned_variable_words (assign.With op) unsigned variable elem value words d c = combined_variable_words op unsigned variable elem value words d c
assigned_variable_words assign.Up unsigned variable elem value words d c = combined_variable_words Add unsigned variable elem value words d c
assigned_variable_words assign.Down unsigned variable elem value words d c = combined_variable_words Sub unsigned variable elem value words d c

-- where the element is checked again there is a right side, of which words are left
restored_most : (value : FlatValue) → restore_words (right_branches value) ≤ 24 + spare value
restored_most NoFlat = omega arith
restored_most (SomeFlat e) = restore_most (right_branches (SomeFlat e))
  where
    restore_most : (b : Bool) → restore_words b ≤ 40
    restore_most true = omega arith
    restore_most false = omega arith

changed_element_words : (op : BinOp) (unsigned : Bool) (array : ArrayRef) (elem : Elem) (pos : Pos) (place : FlatExpr) (value : FlatValue) → ExprWords place → RightWords value
    → (d : ℕ) (c : Ops)
    → flagged_words (changed_element op unsigned array elem pos (value_ops place) (standing place) (right_ops value) (right_standing value) (right_calls value) (right_branches value) d c)
    + (taken place + value_taken value) ≤ allowed place + value_allowed value + 67 + flagged_words c
changed_element_words op unsigned array elem pos place value words words' d c =
    let q : ℕ = above (right_calls value) (standing place) d in
    let a : Operand = held_at (right_calls value) (standing place) d in
    let b : Operand = operand_at (right_standing value) (suc q) in
    let z : Ops = restore_ops (right_branches value) array elem pos a (VariableOf q) c in
    let y : Ops = binary_ops op unsigned (VariableOf q) b q z in
    let v : Ops = right_ops value (suc q) y in
    let u : Ops = load_ops array elem pos a q v in
    let h1 : flagged_words (value_ops place d (copied (right_calls value) (standing place) d u)) + taken place + 16 ≤ allowed place + flagged_words u =
    held_words place words (right_calls value) d u in
    let h2 : flagged_words u ≤ 35 + 2 * operand_words a + flagged_words v = load_adds array elem pos a q v in
    let o : operand_words a ≤ 2 = operand_most a in
    let h3 : flagged_words v + value_taken value + spare value ≤ value_allowed value + flagged_words y = words' (suc q) y in
    let h4 : flagged_words y ≤ 20 + flagged_words z = binary_adds op unsigned (VariableOf q) b q z in
    let h5 : flagged_words z ≤ restore_words (right_branches value) + flagged_words c = restore_adds (right_branches value) array elem pos a (VariableOf q) c in
    let h6 : restore_words (right_branches value) ≤ 24 + spare value = restored_most value in omega arith

assigned_element_words : (op : AssignOp) (unsigned : Bool) (array : ArrayRef) (elem : Elem) (pos : Pos) (place : FlatExpr) (value : FlatValue) → ExprWords place → RightWords value
    → (d : ℕ) (c : Ops)
    → flagged_words (assigned_element op unsigned array elem pos (value_ops place) (standing place) (right_ops value) (right_standing value) (right_calls value) (right_branches value) d c)
    + (taken place + value_taken value) ≤ allowed place + value_allowed value + 67 + flagged_words c
assigned_element_words assign.Set unsigned array elem pos place value words words' d c =
    let q : ℕ = above (right_calls value) (standing place) d in
    let a : Operand = held_at (right_calls value) (standing place) d in
    let b : Operand = operand_at (right_standing value) q in
    let v : Ops = store_ops array elem pos a b c in
    let u : Ops = right_ops value q v in
    let h1 : flagged_words (value_ops place d (copied (right_calls value) (standing place) d u)) + taken place + 16 ≤ allowed place + flagged_words u =
    held_words place words (right_calls value) d u in
    let h2 : flagged_words u + value_taken value + spare value ≤ value_allowed value + flagged_words v = words' q v in
    let h3 : flagged_words v ≤ 40 + flagged_words c = store_adds array elem pos a b c in omega arith
assigned_element_words (assign.With op) unsigned array elem pos place value words words' d c = changed_element_words op unsigned array elem pos place value words words' d c
assigned_element_words assign.Up unsigned array elem pos place value words words' d c = changed_element_words Add unsigned array elem pos place value words words' d c
assigned_element_words assign.Down unsigned array elem pos place value words words' d c = changed_element_words Sub unsigned array elem pos place value words words' d c

-- ---- the whole

mutual
  pub value_words : (e : FlatExpr) → ExprWords e
  value_words (NumberFlat n unsigned) d c = omega arith
  value_words (VariableFlat k) d c = omega arith
  value_words (UnaryFlat op part) d c =
      let a : Operand = operand_at (standing part) d in
      let h : flagged_words (value_ops part d (unary_ops op a d c)) + taken part + 16 ≤ allowed part + flagged_words (unary_ops op a d c) =
      value_words part d (unary_ops op a d c) in
      let k : flagged_words (unary_ops op a d c) ≤ 15 + flagged_words c = unary_adds op a d c in omega arith
  value_words (BinaryFlat op unsigned left right) d c =
      let h : flagged_words (value_ops (BinaryFlat op unsigned left right) d c) + (taken left + taken right) + 32 ≤ allowed left + allowed right + 20 + flagged_words c =
      pair_words left right (value_words left) (value_words right) (binary_ops op unsigned) 20 (binary_adds op unsigned) d c in
      let k : pair_room (value_room left) (standing left) (value_room right) (calls right) ≤ value_room left + suc (value_room right) = pair_room_most left right in omega arith
  value_words (BothFlat left right) d c =
      let x : Ops = truth_ops (operand_at (standing right) (suc d)) d NoOps in
      let one : Ops = value_ops right (suc d) x in
      let y : Ops = AndOp (If (VariableOf d) one NoOps) c in
      let z : Ops = truth_ops (operand_at (standing left) d) d y in
      let h1 : flagged_words (value_ops left d z) + taken left + 16 ≤ allowed left + flagged_words z = value_words left d z in
      let h2 : flagged_words z ≤ 15 + flagged_words y = truth_adds (operand_at (standing left) d) d y in
      let h3 : flagged_words one + taken right + 16 ≤ allowed right + flagged_words x = value_words right (suc d) x in
      let h4 : flagged_words x ≤ 15 + 0 = truth_adds (operand_at (standing right) (suc d)) d NoOps in omega arith
  value_words (EitherFlat left right) d c =
      let x : Ops = truth_ops (operand_at (standing right) (suc d)) d NoOps in
      let one : Ops = value_ops right (suc d) x in
      let y : Ops = AndOp (If (VariableOf d) NoOps one) c in
      let z : Ops = truth_ops (operand_at (standing left) d) d y in
      let h1 : flagged_words (value_ops left d z) + taken left + 16 ≤ allowed left + flagged_words z = value_words left d z in
      let h2 : flagged_words z ≤ 15 + flagged_words y = truth_adds (operand_at (standing left) d) d y in
      let h3 : flagged_words one + taken right + 16 ≤ allowed right + flagged_words x = value_words right (suc d) x in
      let h4 : flagged_words x ≤ 15 + 0 = truth_adds (operand_at (standing right) (suc d)) d NoOps in omega arith
  value_words (ChooseFlat unsigned test one other) d c =
      let v : Ops = value_ops one d (settled (standing one) d NoOps) in
      let w : Ops = value_ops other d (settled (standing other) d NoOps) in
      let a : Operand = operand_at (standing test) d in
      let z : Ops = AndOp (If a v w) c in
      let h1 : flagged_words (value_ops test d z) + taken test + 16 ≤ allowed test + flagged_words z = value_words test d z in
      let h2 : flagged_words v + taken one + 16 ≤ allowed one + 0 = settled_words one (value_words one) d NoOps in
      let h3 : flagged_words w + taken other + 16 ≤ allowed other + 0 = settled_words other (value_words other) d NoOps in
      let t : test_words a ≤ 3 = test_most a in omega arith
  value_words (CastFlat elem part) d c =
      let a : Operand = operand_at (standing part) d in
      let h : flagged_words (value_ops part d (AndOp (Fit d elem a) c)) + taken part + 16 ≤ allowed part + flagged_words (AndOp (Fit d elem a) c) =
      value_words part d (AndOp (Fit d elem a) c) in
      let k : flagged_words (AndOp (Fit d elem a) c) ≤ 14 + operand_words a + flagged_words c = fit_adds d elem a c in
      let o : operand_words a ≤ 2 = operand_most a in omega arith
  value_words (LoadFlat array elem place pos) d c =
      let h : flagged_words (value_ops (LoadFlat array elem place pos) d c) + taken place + 16 ≤ allowed place + 37 + flagged_words c =
      load_words place (value_words place) array elem pos d c in omega arith
  value_words (CallFlat args body) d c =
      let b : Ops = stmts_ops body d NoOps in
      let x : Ops = AndOp (Call b) c in
      let y : Ops = AndOp (Set d (NumberOf 0)) x in
      let h1 : flagged_words (args_ops args d y) + args_taken args ≤ args_allowed args + flagged_words y = args_words args d y in
      let h2 : flagged_words y ≤ 12 + flagged_words x = set_adds d (NumberOf 0) x in
      let h3 : flagged_words b + stmts_taken body ≤ stmts_allowed body + 0 = stmts_words body d NoOps in omega arith
  value_words (LostFlat args) d c =
      let k : flat_args_calls args + 4 * flat_args_control args ≤ 5 * flat_args_nodes args = args_few args in omega arith
  value_words (BuiltinFlat which unsigned args) d c = builtin_words args which unsigned d c
  value_words (ParenFlat part) d c = value_words part d c

  builtin_words : (args : FlatArgs) (which : Builtin) (unsigned : Bool) → ExprWords (BuiltinFlat which unsigned args)
  builtin_words NoFlatArgs which unsigned d c =
      let h : flagged_words (AndOp (Id d which (NumberOf 0)) c) ≤ 12 + flagged_words c = id_adds which d c in omega arith
  builtin_words (NamedArg array more) which unsigned d c =
      let h : flagged_words (AndOp (Id d which (NumberOf 0)) c) ≤ 12 + flagged_words c = id_adds which d c in
      let k : flat_args_calls more + 4 * flat_args_control more ≤ 5 * flat_args_nodes more = args_few more in omega arith
  builtin_words (NumberArg x b NoFlatArgs) which unsigned d c =
      let v : Ops = one_ops which unsigned (operand_at (standing x) d) d c in
      let h : flagged_words (value_ops x d v) + taken x + 16 ≤ allowed x + flagged_words v = value_words x d v in
      let k : flagged_words v + one_room which ≤ 38 + flagged_words c = one_adds which unsigned (standing x) d c in omega arith
  builtin_words (NumberArg x b (NamedArg array more)) which unsigned d c =
      let h : flagged_words (AndOp (Id d which (NumberOf 0)) c) ≤ 12 + flagged_words c = id_adds which d c in
      let j : flat_expr_calls x + 4 * flat_expr_control x ≤ 5 * flat_expr_nodes x = value_few x in
      let k : flat_args_calls more + 4 * flat_args_control more ≤ 5 * flat_args_nodes more = args_few more in omega arith
  builtin_words (NumberArg x b (NumberArg y b' NoFlatArgs)) which unsigned d c =
      let h : flagged_words (builtin_ops which unsigned (NumberArg x b (NumberArg y b' NoFlatArgs)) d c) + (taken x + taken y) + 32 ≤ allowed x + allowed y + 35 + flagged_words c =
      pair_words x y (value_words x) (value_words y) (two_ops which unsigned) 35 (two_adds which unsigned) d c in
      let k : pair_room (value_room x) (standing x) (value_room y) (calls y) ≤ value_room x + suc (value_room y) = pair_room_most x y in
      let t : two_room which ≤ 3 = two_most which in omega arith
  builtin_words (NumberArg x b (NumberArg y b' (NamedArg array more))) which unsigned d c =
      let h : flagged_words (AndOp (Id d which (NumberOf 0)) c) ≤ 12 + flagged_words c = id_adds which d c in
      let j : flat_expr_calls x + 4 * flat_expr_control x ≤ 5 * flat_expr_nodes x = value_few x in
      let j' : flat_expr_calls y + 4 * flat_expr_control y ≤ 5 * flat_expr_nodes y = value_few y in
      let k : flat_args_calls more + 4 * flat_args_control more ≤ 5 * flat_args_nodes more = args_few more in omega arith
  builtin_words (NumberArg x b (NumberArg y b' (NumberArg z b'' more))) which unsigned d c =
      let a : Operand = operand_at (standing z) (suc d) in
      let v : Ops = two_ops Min unsigned (VariableOf d) a d c in
      let w : Ops = value_ops z (suc d) v in
      let h1 : flagged_words (builtin_ops which unsigned (NumberArg x b (NumberArg y b' (NumberArg z b'' more))) d c) + (taken x + taken y) + 32
      ≤ allowed x + allowed y + 35 + flagged_words w =
      pair_words x y (value_words x) (value_words y) (two_ops Max unsigned) 35 (two_adds Max unsigned) d w in
      let h2 : flagged_words w + taken z + 16 ≤ allowed z + flagged_words v = value_words z (suc d) v in
      let h3 : flagged_words v ≤ 32 + flagged_words c = least_adds unsigned d a d c in
      let k : pair_room (value_room x) (standing x) (value_room y) (calls y) ≤ value_room x + suc (value_room y) = pair_room_most x y in
      let j : flat_args_calls more + 4 * flat_args_control more ≤ 5 * flat_args_nodes more = args_few more in omega arith

  args_words : (args : FlatArgs) → ArgsWords args
  args_words NoFlatArgs d c = omega arith
  args_words (NumberArg e binding more) d c =
      let x : Ops = args_ops more d c in
      let h : flagged_words (value_ops e d (bound_ops binding (operand_at (standing e) d) x)) + taken e + 16 ≤ allowed e + 15 + flagged_words x =
      argument_words e (value_words e) binding d x in
      let k : flagged_words x + args_taken more ≤ args_allowed more + flagged_words c = args_words more d c in omega arith
  args_words (NamedArg array more) d c = let k : flagged_words (args_ops more d c) + args_taken more ≤ args_allowed more + flagged_words c = args_words more d c in omega arith

  right_words : (value : FlatValue) → RightWords value
  right_words NoFlat d c = omega arith
  right_words (SomeFlat e) d c = value_words e d c

  declared_words : (value : FlatValue) (variable : ℕ) (elem : Elem) → StmtWords (DeclareFlat variable elem value)
  declared_words NoFlat variable elem result c =
      let h : flagged_words (AndOp (Set variable (NumberOf 0)) c) ≤ 12 + flagged_words c = set_adds variable (NumberOf 0) c in omega arith
  declared_words (SomeFlat e) variable elem result c =
      let a : Operand = operand_at (standing e) (suc result) in
      let x : Ops = AndOp (Fit variable elem a) c in
      let y : Ops = value_ops e (suc result) x in
      let h1 : flagged_words (AndOp (Set variable (NumberOf 0)) y) ≤ 12 + flagged_words y = set_adds variable (NumberOf 0) y in
      let h2 : flagged_words y + taken e + 16 ≤ allowed e + flagged_words x = value_words e (suc result) x in
      let h3 : flagged_words x ≤ 14 + operand_words a + flagged_words c = fit_adds variable elem a c in
      let o : operand_words a ≤ 2 = operand_most a in omega arith

  return_words : (value : FlatValue) (gives : Gives) → StmtWords (ReturnFlat gives value)
  return_words NoFlat gives result c = omega arith
  return_words (SomeFlat e) gives result c =
      let a : Operand = operand_at (standing e) (suc result) in
      let x : Ops = given_ops gives a result (AndOp Return c) in
      let h1 : flagged_words (value_ops e (suc result) x) + taken e + 16 ≤ allowed e + flagged_words x = value_words e (suc result) x in
      let h2 : flagged_words x ≤ 16 + flagged_words (AndOp Return c) = given_adds gives a result (AndOp Return c) in omega arith

  test_words_most : (test : FlatValue) (body st : Ops) (d : ℕ) (c : Ops)
      → flagged_words (loop_ops test body st d c) + value_taken test ≤ value_allowed test + 34 + (flagged_words body + flagged_words st) + flagged_words c
  test_words_most NoFlat body st d c = omega arith
  test_words_most (SomeFlat e) body st d c =
      let a : Operand = operand_at (standing e) d in
      let h : flagged_words (value_ops e d NoOps) + taken e + 16 ≤ allowed e + 0 = value_words e d NoOps in
      let t : test_words a ≤ 3 = test_most a in omega arith

  pub stmt_words : (s : FlatStmt) → StmtWords s
  stmt_words (DeclareFlat variable elem value) result c = declared_words value variable elem result c
  stmt_words (LocalArrayFlat array count) result c =
      let h : flat_expr_calls count + 4 * flat_expr_control count ≤ 5 * flat_expr_nodes count = value_few count in omega arith
  stmt_words (SetVariableFlat variable elem op unsigned value) result c =
      let room : ℕ = max 1 (above (right_calls value) (Named variable) (right_room value)) in
      let h : flagged_words (stmt_ops (SetVariableFlat variable elem op unsigned value) result c) + value_taken value ≤ value_allowed value + 46 + flagged_words c =
      assigned_variable_words op unsigned variable elem value (right_words value) (suc result) c in
      let a : above (right_calls value) (Named variable) (right_room value) ≤ suc (right_room value) = above_most (right_calls value) (Named variable) (right_room value) in
      let k : assigned_room op (right_room value) room ≤ suc (right_room value) = assigned_most op (right_room value) room (suc (right_room value)) (omega arith) (omega arith) in
      omega arith
  stmt_words (SetElementFlat array elem place op unsigned value pos) result c =
      let one : ℕ = pair_room (value_room place) (standing place) (right_room value) (right_calls value) in
      let other : ℕ = pair_room (value_room place) (standing place) (suc (right_room value)) (right_calls value) in
      let h : flagged_words (stmt_ops (SetElementFlat array elem place op unsigned value pos) result c) + (taken place + value_taken value)
      ≤ allowed place + value_allowed value + 67 + flagged_words c =
      assigned_element_words op unsigned array elem pos place value (value_words place) (right_words value) (suc result) c in
      let a : above (right_calls value) (standing place) (right_room value) ≤ suc (right_room value) = above_most (right_calls value) (standing place) (right_room value) in
      let a' : above (right_calls value) (standing place) (suc (right_room value)) ≤ suc (suc (right_room value)) =
      above_most (right_calls value) (standing place) (suc (right_room value)) in
      let k : assigned_room op one other ≤ value_room place + suc (suc (right_room value)) =
      assigned_most op one other (value_room place + suc (suc (right_room value))) (omega arith) (omega arith) in omega arith
  stmt_words (CallStmtFlat call) result c =
      let h : flagged_words (value_ops call (suc result) c) + taken call + 16 ≤ allowed call + flagged_words c = value_words call (suc result) c in omega arith
  stmt_words (BarrierFlat site) result c = let r : runs true c ≤ runs false c = runs_fewer c in omega arith
  stmt_words (IfFlat test one) result c =
      let a : Operand = operand_at (standing test) (suc result) in
      let v : Ops = stmt_ops one result NoOps in
      let z : Ops = AndOp (If a v NoOps) c in
      let h1 : flagged_words (value_ops test (suc result) z) + taken test + 16 ≤ allowed test + flagged_words z = value_words test (suc result) z in
      let h2 : flagged_words v + stmt_taken one ≤ stmt_allowed one + 0 = stmt_words one result NoOps in
      let t : test_words a ≤ 3 = test_most a in omega arith
  stmt_words (IfElseFlat test one other) result c =
      let a : Operand = operand_at (standing test) (suc result) in
      let v : Ops = stmt_ops one result NoOps in
      let w : Ops = stmt_ops other result NoOps in
      let z : Ops = AndOp (If a v w) c in
      let h1 : flagged_words (value_ops test (suc result) z) + taken test + 16 ≤ allowed test + flagged_words z = value_words test (suc result) z in
      let h2 : flagged_words v + stmt_taken one ≤ stmt_allowed one + 0 = stmt_words one result NoOps in
      let h3 : flagged_words w + stmt_taken other ≤ stmt_allowed other + 0 = stmt_words other result NoOps in
      let t : test_words a ≤ 3 = test_most a in omega arith
  stmt_words (WhileFlat test body) result c =
      let a : Operand = operand_at (standing test) (suc result) in
      let x : Ops = value_ops test (suc result) NoOps in
      let b : Ops = stmt_ops body result NoOps in
      let h1 : flagged_words x + taken test + 16 ≤ allowed test + 0 = value_words test (suc result) NoOps in
      let h2 : flagged_words b + stmt_taken body ≤ stmt_allowed body + 0 = stmt_words body result NoOps in
      let t : test_words a ≤ 3 = test_most a in omega arith
  stmt_words (DoFlat body test) result c =
      let x : Ops = value_ops test (suc result) (settled (standing test) (suc result) NoOps) in
      let b : Ops = stmt_ops body result NoOps in
      let z : Ops = AndOp (Loop NoOps (VariableOf (suc result)) b x) c in
      let h1 : flagged_words (AndOp (Set (suc result) (NumberOf 1)) z) ≤ 12 + flagged_words z = set_adds (suc result) (NumberOf 1) z in
      let h2 : flagged_words x + taken test + 16 ≤ allowed test + 0 = settled_words test (value_words test) (suc result) NoOps in
      let h3 : flagged_words b + stmt_taken body ≤ stmt_allowed body + 0 = stmt_words body result NoOps in omega arith
  stmt_words (ForFlat first test st body) result c =
      let b : Ops = stmt_ops body result NoOps in
      let x : Ops = stmts_ops st result NoOps in
      let z : Ops = loop_ops test b x (suc result) c in
      let h1 : flagged_words (stmts_ops first result z) + stmts_taken first ≤ stmts_allowed first + flagged_words z = stmts_words first result z in
      let h2 : flagged_words z + value_taken test ≤ value_allowed test + 34 + (flagged_words b + flagged_words x) + flagged_words c = test_words_most test b x (suc result) c in
      let h3 : flagged_words b + stmt_taken body ≤ stmt_allowed body + 0 = stmt_words body result NoOps in
      let h4 : flagged_words x + stmts_taken st ≤ stmts_allowed st + 0 = stmts_words st result NoOps in omega arith
  stmt_words BreakFlat result c = omega arith
  stmt_words ContinueFlat result c = omega arith
  stmt_words (ReturnFlat gives value) result c = return_words value gives result c
  stmt_words (BlockFlat items) result c = stmts_words items result c
  stmt_words EmptyFlat result c = omega arith

  pub stmts_words : (ss : FlatStmts) → StmtsWords ss
  stmts_words NoFlats result c = omega arith
  stmts_words (AndFlat s ss) result c =
      let x : Ops = stmts_ops ss result c in
      let h : flagged_words (stmt_ops s result x) + stmt_taken s ≤ stmt_allowed s + flagged_words x = stmt_words s result x in
      let k : flagged_words x + stmts_taken ss ≤ stmts_allowed ss + flagged_words c = stmts_words ss result c in omega arith

-- ---- kernels

-- the words and the variables of the code of a kernel
pub kernel_words : (flat : FlatKernel) → flagged_words (normal_kernel flat).ops + (stmts_room flat.body - 1 + flat_calls flat.body + 4 * flat_control flat.body)
    ≤ 38 * flat_nodes flat.body
kernel_words flat =
    let h : flagged_words (stmts_ops flat.body flat.variables NoOps) + stmts_taken flat.body ≤ stmts_allowed flat.body + 0 = stmts_words flat.body flat.variables NoOps in omega arith
