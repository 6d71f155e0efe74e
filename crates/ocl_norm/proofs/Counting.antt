-- Counts of variables, kept up to the greatest number of their type, and words among arguments.
use Rattle.std.proofs.Common.{◌≡◌, ℕ, suc, ◌+◌, ◌-◌, ◌≤◌, max, min, Bool, true, false, List, [], ◌∷◌, length, take, drop, arith}
use Rattle.std.proofs.lemmas.List.{length-drop, take_all}
use Rattle.ocl_ast.specs.declared.stmts.AssignOp.{AssignOp}
use Rattle.ocl_ast.specs.declared.stmts.AssignOp.TheVariants as assign
use Rattle.ocl_program.specs.declared.exprs.Builtin.{Builtin}
use Rattle.ocl_program.specs.declared.exprs.Builtin.TheVariants as builtin
use Rattle.ocl_inline.specs.declared.trees.FlatArgument.{FlatArgument, Array}
use Rattle.ocl_inline.specs.declared.trees.FlatArgument as argument
use Rattle.ocl_inline.specs.Shapes.{flat_arguments}
use Rattle.ocl_inline.specs.Trees.{FlatExpr}
use Rattle.ocl_norm.specs.Arguments.{Values, NoValue, OneValue, TwoValues, ThreeValues, values_in}
use Rattle.ocl_norm.specs.Counting.{counted}
use Rattle.ocl_inline.specs.Proper.{ArgsWords, ExprWords}
use Rattle.ocl_norm.specs.Rooms.{assigned_room, one_room, pair_room, two_room}
use Rattle.ocl_norm.specs.Sizes.{args_size}
use Rattle.ocl_norm.specs.Standings.{Standing, Fixed, Named, Made, above}

-- ---- counts

-- the greater of a small number and a count
pub counted_first : (a b m n : ℕ) → a ≡ m → m ≤ 3 → b ≡ counted n → max a b ≡ counted (max m n)
counted_first a b m n e small e' = omega arith

-- two parts, the right one behind the left one
pub counted_pair : (s : Standing) (calls : Bool) (left right behind m n : ℕ) → left ≡ counted m → right ≡ counted n → behind ≡ counted (above calls s right)
    → max left behind ≡ counted (pair_room m s n calls)
counted_pair (Fixed k) true left right behind m n e e' e'' = omega arith
counted_pair (Fixed k) false left right behind m n e e' e'' = omega arith
counted_pair (Named k) true left right behind m n e e' e'' = omega arith
counted_pair (Named k) false left right behind m n e e' e'' = omega arith
counted_pair Made true left right behind m n e e' e'' = omega arith
counted_pair Made false left right behind m n e e' e'' = omega arith

-- one of two counts, and one more
pub counted_assigned : (op : AssignOp) (one other m n : ℕ) → one ≡ counted m → other ≡ counted n
    → min (assigned_room op one other + 1) 18446744073709551615 ≡ counted (suc (assigned_room op m n))
counted_assigned assign.Set one other m n e e' = omega arith
counted_assigned (assign.With op) one other m n e e' = omega arith
counted_assigned assign.Up one other m n e e' = omega arith
counted_assigned assign.Down one other m n e e' = omega arith

pub counted_more : (a n : ℕ) → a ≡ counted n → min (a + 1) 18446744073709551615 ≡ counted (suc n)
counted_more a n e = omega arith

pub counted_alone : (a b n : ℕ) → a ≡ 0 → b ≡ counted n → max a b ≡ counted n
counted_alone a b n e e' = omega arith

pub one_small : (which : Builtin) → one_room which ≤ 3
one_small builtin.WorkDim = omega arith
one_small builtin.GlobalId = omega arith
one_small builtin.LocalId = omega arith
one_small builtin.GroupId = omega arith
one_small builtin.GlobalSize = omega arith
one_small builtin.LocalSize = omega arith
one_small builtin.NumGroups = omega arith
one_small builtin.GlobalOffset = omega arith
one_small builtin.Min = omega arith
one_small builtin.Max = omega arith
one_small builtin.Clamp = omega arith
one_small builtin.Abs = omega arith
one_small builtin.MulHi = omega arith

pub two_small : (which : Builtin) → two_room which ≤ 3
two_small builtin.WorkDim = omega arith
two_small builtin.GlobalId = omega arith
two_small builtin.LocalId = omega arith
two_small builtin.GroupId = omega arith
two_small builtin.GlobalSize = omega arith
two_small builtin.LocalSize = omega arith
two_small builtin.NumGroups = omega arith
two_small builtin.GlobalOffset = omega arith
two_small builtin.Min = omega arith
two_small builtin.Max = omega arith
two_small builtin.Clamp = omega arith
two_small builtin.Abs = omega arith
two_small builtin.MulHi = omega arith

-- ---- three values at least

pub three_long : (args : List FlatArgument) (x y z : FlatExpr) → values_in (flat_arguments args) ≡ ThreeValues x y z → 3 ≤ length args
three_long [] x y z e = absurd (cc)
three_long (Array a ∷ more) x y z e = absurd (cc)
three_long (argument.Number v b ∷ []) x y z e = absurd (cc)
three_long (argument.Number v b ∷ (Array a ∷ more)) x y z e = absurd (cc)
three_long (argument.Number v b ∷ (argument.Number v' b' ∷ [])) x y z e = absurd (cc)
three_long (argument.Number v b ∷ (argument.Number v' b' ∷ (Array a ∷ more))) x y z e = absurd (cc)
three_long (argument.Number v b ∷ (argument.Number v' b' ∷ (argument.Number v'' b'' ∷ more))) x y z e = omega arith

-- the code's part of them is what stands behind the third one
pub behind_three : (args : List FlatArgument) → take (length args - 3) (drop 3 args) ≡ drop 3 args
behind_three args = take_all (length args - 3) (drop 3 args) (omega (arith, length-drop 3 args))

-- and it is smaller
pub three_smaller : (args : List FlatArgument) (x y z : FlatExpr) → values_in (flat_arguments args) ≡ ThreeValues x y z → args_size (flat_arguments (drop 3 args)) ≤ args_size (flat_arguments args)
three_smaller [] x y z e = absurd (cc)
three_smaller (Array a ∷ more) x y z e = absurd (cc)
three_smaller (argument.Number v b ∷ []) x y z e = absurd (cc)
three_smaller (argument.Number v b ∷ (Array a ∷ more)) x y z e = absurd (cc)
three_smaller (argument.Number v b ∷ (argument.Number v' b' ∷ [])) x y z e = absurd (cc)
three_smaller (argument.Number v b ∷ (argument.Number v' b' ∷ (Array a ∷ more))) x y z e = absurd (cc)
three_smaller (argument.Number v b ∷ (argument.Number v' b' ∷ (argument.Number v'' b'' ∷ more))) x y z e = omega arith

-- all numbers are words
abbrev pub ValuesWords : Values → Type 0
ValuesWords NoValue = Unit {0}
ValuesWords (OneValue x) = ExprWords x
ValuesWords (TwoValues x y) = ExprWords x × ExprWords y
ValuesWords (ThreeValues x y z) = ExprWords x × ExprWords y × ExprWords z

pub three_words : (args : List FlatArgument) (x y z : FlatExpr) → values_in (flat_arguments args) ≡ ThreeValues x y z → ValuesWords (values_in (flat_arguments args))
    → ArgsWords (flat_arguments (drop 3 args)) → ArgsWords (flat_arguments args)
three_words [] x y z e words rest = absurd (cc)
three_words (Array a ∷ more) x y z e words rest = absurd (cc)
three_words (argument.Number v b ∷ []) x y z e words rest = absurd (cc)
three_words (argument.Number v b ∷ (Array a ∷ more)) x y z e words rest = absurd (cc)
three_words (argument.Number v b ∷ (argument.Number v' b' ∷ [])) x y z e words rest = absurd (cc)
three_words (argument.Number v b ∷ (argument.Number v' b' ∷ (Array a ∷ more))) x y z e words rest = absurd (cc)
three_words (argument.Number v b ∷ (argument.Number v' b' ∷ (argument.Number v'' b'' ∷ more))) x y z e words rest = (words.0, (words.1, (words.2, rest)))
