-- What has been expanded, in front of what is left.
use Rattle.std.proofs.Common.{◌≡◌, refl, ap, List, [], ◌∷◌, ◌++◌}
use Rattle.ocl_inline.specs.declared.trees.FlatArgument.{FlatArgument}
use Rattle.ocl_inline.specs.declared.trees.FlatStmt.{FlatStmt}
use Rattle.ocl_inline.specs.Shapes.{flat_arguments, flat_trees, stmt_of, with_arg}
use Rattle.ocl_inline.specs.Trees.{FlatArgs, FlatStmts, NoFlatArgs, NoFlats, AndFlat}

abbrev pub arguments_onto : List FlatArgument → FlatArgs → FlatArgs
arguments_onto [] rest = rest
arguments_onto (arg ∷ args) rest = with_arg arg (arguments_onto args rest)

abbrev pub trees_onto : List FlatStmt → FlatStmts → FlatStmts
trees_onto [] rest = rest
trees_onto (s ∷ ss) rest = AndFlat (stmt_of s) (trees_onto ss rest)

pub one_argument_more : (args : List FlatArgument) (arg : FlatArgument) (rest : FlatArgs) → arguments_onto (args ++ arg ∷ []) rest ≡ arguments_onto args (with_arg arg rest)
one_argument_more [] arg rest = refl
one_argument_more (x ∷ args) arg rest = ap (with_arg x) (one_argument_more args arg rest)

pub one_tree_more : (ss : List FlatStmt) (s : FlatStmt) (rest : FlatStmts) → trees_onto (ss ++ s ∷ []) rest ≡ trees_onto ss (AndFlat (stmt_of s) rest)
one_tree_more [] s rest = refl
one_tree_more (x ∷ ss) s rest = ap (AndFlat (stmt_of x)) (one_tree_more ss s rest)

pub all_arguments : (args : List FlatArgument) → arguments_onto args NoFlatArgs ≡ flat_arguments args
all_arguments [] = refl
all_arguments (arg ∷ args) = ap (with_arg arg) (all_arguments args)

pub all_trees : (ss : List FlatStmt) → trees_onto ss NoFlats ≡ flat_trees ss
all_trees [] = refl
all_trees (s ∷ ss) = ap (AndFlat (stmt_of s)) (all_trees ss)
