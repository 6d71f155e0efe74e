-- Measures of small flat kernels and of their normal forms.
use Rattle.std.proofs.Common.{◌≡◌, refl, ℕ, zero, suc, true, false, List, [], ◌∷◌}
use Rattle.vx_base.specs.declared.types.Elem.TheVariants.{Int}
use Rattle.ocl_ast.specs.declared.exprs.BinOp.TheVariants as op
use Rattle.ocl_ast.specs.declared.stmts.AssignOp.TheVariants as assign
use Rattle.ocl_program.specs.declared.exprs.ArrayRef.TheVariants.{Parameter}
use Rattle.ocl_program.specs.declared.exprs.Builtin.TheVariants.{GlobalId}
use Rattle.kir.specs.FlaggedWords.{flagged_words}
use Rattle.kir.specs.Loops.{loop_nesting}
use Rattle.kir.specs.Measures.{IsChecked, branching, nesting, sites}
use Rattle.kir.specs.Numbered.{AreBelow}
use Rattle.kir.specs.Trees.{Ops, NoOps}
use Rattle.kir.specs.Typing.{AreTyped}
use Rattle.ocl_inline.specs.declared.trees.Binding.TheVariants.{Dropped}
use Rattle.ocl_inline.specs.FlatMeasures.{flat_calls, flat_control, flat_depth, flat_nodes}
use Rattle.ocl_inline.specs.FlatNumbers.{flat_sites}
use Rattle.ocl_inline.specs.Trees.{NoFlat, SomeFlat, FlatExpr, BothFlat, CallFlat, BuiltinFlat, NoFlatArgs, NumberArg, FlatStmt, SetVariableFlat, SetElementFlat, CallStmtFlat, BarrierFlat, IfFlat, ForFlat, EmptyFlat, FlatStmts}
use Rattle.ocl_norm.specs.Normal.{normal_kernel, stmts_ops}
use Rattle.ocl_norm.specs.Rooms.{stmts_room}
use Rattle.ocl_norm.proofs.NormalMeasures.{normal_measures}
use Rattle.ocl_norm.proofs.WorkedNormal.{here, items, kernel, kernel_proper, x}

-- statements in a kernel of eight variables
abbrev ops : List FlatStmt → Ops
ops ss = stmts_ops (items ss) 8 NoOps

-- a call of a helper with one barrier
abbrev waits : ℕ → FlatStmt
waits site = CallStmtFlat (CallFlat NoFlatArgs (items (BarrierFlat site ∷ [])))

-- ---- barriers: those of the step of a `for` stand behind those of its body

abbrev stepped : List FlatStmt
stepped = ForFlat (items (waits 0 ∷ [])) NoFlat (items (waits 1 ∷ [])) (waits 2) ∷ []

sites_before : flat_sites (items stepped) ≡ 0 ∷ 1 ∷ 2 ∷ []
sites_before = refl

sites_behind : sites (ops stepped) ≡ 0 ∷ 2 ∷ 1 ∷ []
sites_behind = refl

-- ---- nesting: `&&` in a test stands beside the `if`, and one in its branch within it

abbrev both : FlatExpr
both = BothFlat (x 0) (x 1)

abbrev branched : List FlatStmt
branched = IfFlat both (SetVariableFlat 2 Int assign.Set false (SomeFlat both)) ∷ []

two_levels : flat_control (items branched) ≡ 2
two_levels = refl

two_nested : nesting (ops branched) ≡ 2
two_nested = refl

two_branches : branching (ops branched) ≡ 2
two_branches = refl

no_loops : loop_nesting (ops branched) ≡ 0
no_loops = refl

-- ---- variables: `p[i] += f()` whose helper has such a statement, five calls deep, takes more than one for each call

abbrev added : FlatExpr → FlatStmt
added e = SetElementFlat (Parameter 0) Int (x 0) (assign.With op.Add) false (SomeFlat e) here

abbrev adding : ℕ → FlatStmts
adding zero = items (added (x 1) ∷ [])
adding (suc n) = items (added (CallFlat NoFlatArgs (adding n)) ∷ [])

room_of_five : stmts_room (adding 5) ≡ 17
room_of_five = refl

depth_of_five : flat_depth (adding 5) ≡ 7
depth_of_five = refl

calls_of_five : flat_calls (adding 5) ≡ 5
calls_of_five = refl

-- ---- words: no loop needs more than `for (;;) ;`, whose one node pays for its flags too

abbrev endless : List FlatStmt
endless = ForFlat (items []) NoFlat (items []) EmptyFlat ∷ []

endless_words : flagged_words (ops endless) ≡ 34
endless_words = refl

endless_node : flat_nodes (items endless) ≡ 1
endless_node = refl

endless_level : flat_control (items endless) ≡ 1
endless_level = refl

-- a dimension that is computed from another, thirty times: each has one node, and takes 28 words
abbrev of_dimension : ℕ → FlatExpr
of_dimension zero = x 0
of_dimension (suc n) = BuiltinFlat GlobalId true (NumberArg (of_dimension n) Dropped NoFlatArgs)

abbrev by_dimension : List FlatStmt
by_dimension = SetVariableFlat 1 Int assign.Set false (SomeFlat (of_dimension 30)) ∷ []

by_dimension_nodes : flat_nodes (items by_dimension) ≡ 33
by_dimension_nodes = refl

by_dimension_words : flagged_words (ops by_dimension) ≡ 855
by_dimension_words = refl

-- ---- checks, types and numbers: those of a proper kernel

kernel_checked : IsChecked (normal_kernel kernel).ops
kernel_checked = (normal_measures kernel).checked kernel_proper

kernel_typed : AreTyped (normal_kernel kernel).params (normal_kernel kernel).arrays (normal_kernel kernel).ops
kernel_typed = (normal_measures kernel).typed kernel_proper.typed

kernel_below : AreBelow (normal_kernel kernel).variables (normal_kernel kernel).ops
kernel_below = (normal_measures kernel).below kernel_proper

-- but not where a variable of the flat kernel has the number of one that the normal form adds: the index is overwritten by the element
abbrev overwritten : Ops
overwritten = stmts_ops (items (SetElementFlat (Parameter 0) Int (x 1) (assign.With op.Add) false (SomeFlat (x 0)) here ∷ [])) 0 NoOps

not_checked : IsChecked overwritten → ⊥
not_checked h = h.1.1.1.0
