-- The innermost frame of a stack, and the levels that it counts.
use Rattle.std.proofs.Common.{◌≡◌, ◌-◌, ◌≤◌, refl, sym, ap, arith, ◌∙◌, max, length, reverse, List, [], ◌∷◌, ◌++◌, Some, None}
use Rattle.std.proofs.lemmas.List.{reverse-append, reverse-reverse, length-append, length-reverse}
use Rattle.std.specs.Prelude.{slice_get}
use Rattle.ocl_ast.specs.Measures.{height, args_height}
use Rattle.ocl_ast.specs.Shapes.{tree_of, arg_trees}
use Rattle.ocl_ast.specs.declared.exprs.Expr.{Expr}
use Rattle.ocl_parser.specs.Levels.{beside, levels_around}
use Rattle.ocl_parser.specs.Rooms.{left_height, last_height}
use Rattle.ocl_parser.specs.declared.states.ExprFrame.{ExprFrame}
use Rattle.ocl_parser.specs.declared.states.StmtFrame.{StmtFrame}
use Rattle.ocl_parser.specs.declared.states.StmtFrame.TheVariants.{Block as BlockFrame, Then as ThenFrame, Else as ElseFrame, While as WhileFrame, Do as DoFrame, For as ForFrame}
use Rattle.ocl_parser.proofs.ExprLimits.{args_more}
use Rattle.ocl_parser.proofs.Lists.{arg_trees_push}

-- the last element is the first of the list in reverse
get_last : {X : Type 0} (xs : List X) (x : X) → slice_get (xs ++ (x ∷ [])) (length xs) ≡ Some x
get_last [] x = refl
get_last (y ∷ xs) x = get_last xs x

last_of_front : {X : Type 0} (xs : List X) (x : X) → slice_get (xs ++ (x ∷ [])) (length (xs ++ (x ∷ [])) - 1) ≡ Some x
last_of_front xs x =
    let n : length (xs ++ (x ∷ [])) - 1 ≡ length xs = omega (arith, length-append xs (x ∷ [])) in
    ap (slice_get (xs ++ (x ∷ []))) n ∙ get_last xs x

last_reversed : {X : Type 0} (ys : List X) → slice_get (reverse ys) (length (reverse ys) - 1) ≡ slice_get ys 0
last_reversed [] = refl
last_reversed (y ∷ ys) =
    let e : reverse (y ∷ ys) ≡ reverse ys ++ (y ∷ []) = reverse-append (y ∷ []) ys in
    ap (λ zs. slice_get zs (length zs - 1)) e ∙ last_of_front (reverse ys) y

pub last_first : {X : Type 0} (xs : List X) → slice_get xs (length xs - 1) ≡ slice_get (reverse xs) 0
last_first xs = ap (λ zs. slice_get zs (length zs - 1)) (sym (reverse-reverse xs)) ∙ last_reversed (reverse xs)

-- what the innermost frame says
pub height_some : (K : List ExprFrame) (f : ExprFrame) → Some f ≡ slice_get K 0 → last_height K ≡ left_height f
height_some [] f e = cc
height_some (g ∷ K) f e = let h : g ≡ f = cc in ap left_height h

pub height_none : (K : List ExprFrame) → None ≡ slice_get K 0 → last_height K ≡ 0
height_none [] e = refl
height_none (g ∷ K) e = cc

alone : (f : StmtFrame) (K : List StmtFrame) → beside (f ∷ K) ≡ beside (f ∷ [])
alone (BlockFrame items) K = refl
alone (ThenFrame test) K = refl
alone (ElseFrame test one) K = refl
alone (WhileFrame test) K = refl
alone DoFrame K = refl
alone (ForFrame first test step) K = refl

beside_most : (K : List StmtFrame) → beside K ≤ 1
beside_most [] = omega arith
beside_most (BlockFrame items ∷ K) = omega arith
beside_most (ThenFrame test ∷ K) = omega arith
beside_most (ElseFrame test one ∷ K) = omega arith
beside_most (WhileFrame test ∷ K) = omega arith
beside_most (DoFrame ∷ K) = omega arith
beside_most (ForFrame first test step ∷ K) = omega arith

beside_some : (K : List StmtFrame) (f : StmtFrame) → Some f ≡ slice_get K 0 → beside K ≡ beside (f ∷ [])
beside_some [] f e = cc
beside_some (g ∷ K) f e = let h : g ≡ f = cc in alone g K ∙ ap (λ x. beside (x ∷ [])) h

beside_empty : (K : List StmtFrame) → None ≡ slice_get K 0 → beside K ≡ 0
beside_empty [] e = refl
beside_empty (g ∷ K) e = cc

-- the same of a list whose last element is the innermost frame
pub beside_last : (xs : List StmtFrame) (f : StmtFrame) → Some f ≡ slice_get xs (length xs - 1) → beside (reverse xs) ≡ beside (f ∷ [])
beside_last xs f e = beside_some (reverse xs) f (e ∙ last_first xs)

pub beside_none : (xs : List StmtFrame) → None ≡ slice_get xs (length xs - 1) → beside (reverse xs) ≡ 0
beside_none xs e = beside_empty (reverse xs) (e ∙ last_first xs)

-- no more levels than frames
levels_most : (K : List StmtFrame) → levels_around K ≤ length K
levels_most [] = omega arith
levels_most (BlockFrame items ∷ K) = omega (arith, levels_most K, beside_most K)
levels_most (ThenFrame test ∷ K) = omega (arith, levels_most K)
levels_most (ElseFrame test one ∷ K) = omega (arith, levels_most K)
levels_most (WhileFrame test ∷ K) = omega (arith, levels_most K)
levels_most (DoFrame ∷ K) = omega (arith, levels_most K)
levels_most (ForFrame first test step ∷ K) = omega (arith, levels_most K)

pub levels_fit : (xs : List StmtFrame) → levels_around (reverse xs) ≤ length xs
levels_fit xs = omega (arith, levels_most (reverse xs), length-reverse xs)

-- the greatest height with one argument more
pub push_height : (es : List Expr) (e : Expr) → args_height (arg_trees (es ++ (e ∷ []))) ≡ max (args_height (arg_trees es)) (height (tree_of e))
push_height es e = ap args_height (arg_trees_push es e) ∙ args_more (arg_trees es) (tree_of e)
