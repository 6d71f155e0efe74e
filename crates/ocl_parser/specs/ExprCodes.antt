-- Plain expressions as lists of nodes behind their parts, by which a proof may store them in a model.
use Rattle.std.specs.Prelude.{◌≡◌, ℕ, Bool, false, List, [], ◌∷◌, refl}
use Rattle.std.specs.Coded.{Coded, code_by}
use Rattle.std.proofs.Common.{◌∙◌, ap}
use Rattle.vx_base.specs.declared.types.Elem.{Elem}
use Rattle.vx_base.specs.declared.types.Pos.{Pos}
use Rattle.ocl_ast.specs.declared.exprs.BinOp.{BinOp}
use Rattle.ocl_ast.specs.declared.exprs.Ident.{Ident}
use Rattle.ocl_ast.specs.declared.exprs.UnOp.{UnOp}
use Rattle.ocl_ast.specs.Trees.{ExprTree, NumberTree, NameTree, UnaryTree, BinaryTree, BothTree, EitherTree, ChooseTree, CastTree, IndexTree, CallTree, ParenTree, ArgTrees, NoArgs, AndArg}

pub data ExprNode : Type 0 where
  NumberNode : ℕ → Bool → Pos → ExprNode
  NameNode : Ident → ExprNode
  UnaryNode : UnOp → Pos → ExprNode
  BinaryNode : BinOp → Pos → ExprNode
  BothNode : Pos → ExprNode
  EitherNode : Pos → ExprNode
  ChooseNode : Pos → ExprNode
  CastNode : Elem → Pos → ExprNode
  IndexNode : Ident → Pos → ExprNode
  CallNode : Ident → ExprNode
  ParenNode : Pos → ExprNode
  NoArgsNode : ExprNode
  AndArgNode : ExprNode

pub data ExprPart : Type 0 where
  OneExpr : ExprTree → ExprPart
  SomeArgs : ArgTrees → ExprPart

abbrev mutual
  pub expr_nodes : ExprTree → List ExprNode → List ExprNode
  expr_nodes (NumberTree value unsigned pos) rest = NumberNode value unsigned pos ∷ rest
  expr_nodes (NameTree n) rest = NameNode n ∷ rest
  expr_nodes (UnaryTree op part pos) rest = expr_nodes part (UnaryNode op pos ∷ rest)
  expr_nodes (BinaryTree op left right pos) rest = expr_nodes left (expr_nodes right (BinaryNode op pos ∷ rest))
  expr_nodes (BothTree left right pos) rest = expr_nodes left (expr_nodes right (BothNode pos ∷ rest))
  expr_nodes (EitherTree left right pos) rest = expr_nodes left (expr_nodes right (EitherNode pos ∷ rest))
  expr_nodes (ChooseTree test one other pos) rest = expr_nodes test (expr_nodes one (expr_nodes other (ChooseNode pos ∷ rest)))
  expr_nodes (CastTree elem part pos) rest = expr_nodes part (CastNode elem pos ∷ rest)
  expr_nodes (IndexTree array place pos) rest = expr_nodes place (IndexNode array pos ∷ rest)
  expr_nodes (CallTree n args) rest = args_nodes args (CallNode n ∷ rest)
  expr_nodes (ParenTree part pos) rest = expr_nodes part (ParenNode pos ∷ rest)

  pub args_nodes : ArgTrees → List ExprNode → List ExprNode
  args_nodes NoArgs rest = NoArgsNode ∷ rest
  args_nodes (AndArg arg args) rest = expr_nodes arg (args_nodes args (AndArgNode ∷ rest))

abbrev pub with_expr : ExprNode → List ExprPart → List ExprPart
with_expr (NumberNode value unsigned pos) parts = OneExpr (NumberTree value unsigned pos) ∷ parts
with_expr (NameNode n) parts = OneExpr (NameTree n) ∷ parts
with_expr (UnaryNode op pos) (OneExpr e ∷ parts) = OneExpr (UnaryTree op e pos) ∷ parts
with_expr (BinaryNode op pos) (OneExpr r ∷ OneExpr l ∷ parts) = OneExpr (BinaryTree op l r pos) ∷ parts
with_expr (BothNode pos) (OneExpr r ∷ OneExpr l ∷ parts) = OneExpr (BothTree l r pos) ∷ parts
with_expr (EitherNode pos) (OneExpr r ∷ OneExpr l ∷ parts) = OneExpr (EitherTree l r pos) ∷ parts
with_expr (ChooseNode pos) (OneExpr o ∷ OneExpr y ∷ OneExpr t ∷ parts) = OneExpr (ChooseTree t y o pos) ∷ parts
with_expr (CastNode elem pos) (OneExpr e ∷ parts) = OneExpr (CastTree elem e pos) ∷ parts
with_expr (IndexNode array pos) (OneExpr e ∷ parts) = OneExpr (IndexTree array e pos) ∷ parts
with_expr (CallNode n) (SomeArgs args ∷ parts) = OneExpr (CallTree n args) ∷ parts
with_expr (ParenNode pos) (OneExpr e ∷ parts) = OneExpr (ParenTree e pos) ∷ parts
with_expr NoArgsNode parts = SomeArgs NoArgs ∷ parts
with_expr AndArgNode (SomeArgs args ∷ OneExpr arg ∷ parts) = SomeArgs (AndArg arg args) ∷ parts
with_expr _ parts = parts

abbrev pub with_exprs : List ExprNode → List ExprPart → List ExprPart
with_exprs [] parts = parts
with_exprs (node ∷ nodes) parts = with_exprs nodes (with_expr node parts)

abbrev mutual
  expr_again : (e : ExprTree) (rest : List ExprNode) (parts : List ExprPart) → with_exprs (expr_nodes e rest) parts ≡ with_exprs rest (OneExpr e ∷ parts)
  expr_again (NumberTree value unsigned pos) rest parts = refl
  expr_again (NameTree n) rest parts = refl
  expr_again (UnaryTree op part pos) rest parts = expr_again part (UnaryNode op pos ∷ rest) parts
  expr_again (BinaryTree op l r pos) rest parts =
      expr_again l (expr_nodes r (BinaryNode op pos ∷ rest)) parts ∙ expr_again r (BinaryNode op pos ∷ rest) (OneExpr l ∷ parts)
  expr_again (BothTree l r pos) rest parts =
      expr_again l (expr_nodes r (BothNode pos ∷ rest)) parts ∙ expr_again r (BothNode pos ∷ rest) (OneExpr l ∷ parts)
  expr_again (EitherTree l r pos) rest parts =
      expr_again l (expr_nodes r (EitherNode pos ∷ rest)) parts ∙ expr_again r (EitherNode pos ∷ rest) (OneExpr l ∷ parts)
  expr_again (ChooseTree t y o pos) rest parts =
      (expr_again t (expr_nodes y (expr_nodes o (ChooseNode pos ∷ rest))) parts ∙
      expr_again y (expr_nodes o (ChooseNode pos ∷ rest)) (OneExpr t ∷ parts)) ∙
      expr_again o (ChooseNode pos ∷ rest) (OneExpr y ∷ OneExpr t ∷ parts)
  expr_again (CastTree elem part pos) rest parts = expr_again part (CastNode elem pos ∷ rest) parts
  expr_again (IndexTree array place pos) rest parts = expr_again place (IndexNode array pos ∷ rest) parts
  expr_again (CallTree n args) rest parts = args_again args (CallNode n ∷ rest) parts
  expr_again (ParenTree part pos) rest parts = expr_again part (ParenNode pos ∷ rest) parts

  args_again : (a : ArgTrees) (rest : List ExprNode) (parts : List ExprPart) → with_exprs (args_nodes a rest) parts ≡ with_exprs rest (SomeArgs a ∷ parts)
  args_again NoArgs rest parts = refl
  args_again (AndArg arg args) rest parts =
      expr_again arg (args_nodes args (AndArgNode ∷ rest)) parts ∙ args_again args (AndArgNode ∷ rest) (OneExpr arg ∷ parts)

abbrev pub first_expr : List ExprPart → ExprTree
first_expr (OneExpr e ∷ parts) = e
first_expr _ = NumberTree 0 false (record { line = 0; col = 0 })

abbrev pub first_args : List ExprPart → ArgTrees
first_args (SomeArgs args ∷ parts) = args
first_args _ = NoArgs

abbrev pub expr_code : Coded (List ExprNode) → Coded ExprTree
expr_code c = code_by (List ExprNode) c (λ e. expr_nodes e []) (λ nodes. first_expr (with_exprs nodes [])) (λ e. ap first_expr (expr_again e [] []))

abbrev pub args_code : Coded (List ExprNode) → Coded ArgTrees
args_code c = code_by (List ExprNode) c (λ a. args_nodes a []) (λ nodes. first_args (with_exprs nodes [])) (λ a. ap first_args (args_again a [] []))
