-- The operations inside an operation, read as the list of the `Vec` that holds them.
use Rattle.std.proofs.Common.{◌≡◌, refl, ap, sym, ◌∙◌, List, Vec, Global}
use mathlib.Core.Former.{Count}
use Rattle.kir.specs.Shapes.{op_of, operand_of, ops_of, row_ops}
use Rattle.kir.specs.Trees as tree
use Rattle.kir.specs.declared.ops.Op.{Op, If, If', Loop, Loop', Call, Call', Row_of-Op, end_of-Op, more_of-Op, items-the_row-Op, items_hidden-the_row-Op-0}
use Rattle.kir.specs.declared.ops.Operand.{Operand}

row_items : (n : _) (row : Row_of-Op n) → row_ops row ≡ ops_of (items-the_row-Op n row)
row_items n end_of-Op = refl
row_items n (more_of-Op op rest) = ap (tree.AndOp (op_of op)) (row_items _ rest)

abbrev first_of : Op → (n : Count) × Row_of-Op n
first_of (If' _ _ one _ _) = (_, one)
first_of (Loop' _ head _ _ _ _ _) = (_, head)
first_of (Call' _ body) = (_, body)
first_of _ = (_, end_of-Op)

abbrev second_of : Op → (n : Count) × Row_of-Op n
second_of (If' _ _ _ _ other) = (_, other)
second_of (Loop' _ _ _ _ body _ _) = (_, body)
second_of _ = (_, end_of-Op)

abbrev third_of : Op → (n : Count) × Row_of-Op n
third_of (Loop' _ _ _ _ _ _ step) = (_, step)
third_of _ = (_, end_of-Op)

-- what a branch is
pub if_node : (test : Operand) (one other : Vec Op Global) → op_of (If test one other) ≡ tree.If (operand_of test) (ops_of one.items) (ops_of other.items)
if_node test one other =
    let first = first_of (If test one other) in
    let second = second_of (If test one other) in
    let first_is = row_items first.0 first.1 ∙ ap ops_of (items_hidden-the_row-Op-0 one) in
    let second_is = row_items second.0 second.1 ∙ ap ops_of (items_hidden-the_row-Op-0 other) in
    ap (λ x. tree.If (operand_of test) x (row_ops second.1)) first_is ∙
    ap (λ x. tree.If (operand_of test) (ops_of one.items) x) second_is

-- what a loop is
pub loop_node : (head : Vec Op Global) (test : Operand) (body step : Vec Op Global)
    → op_of (Loop head test body step) ≡ tree.Loop (ops_of head.items) (operand_of test) (ops_of body.items) (ops_of step.items)
loop_node head test body step =
    let first = first_of (Loop head test body step) in
    let second = second_of (Loop head test body step) in
    let third = third_of (Loop head test body step) in
    let first_is = row_items first.0 first.1 ∙ ap ops_of (items_hidden-the_row-Op-0 head) in
    let second_is = row_items second.0 second.1 ∙ ap ops_of (items_hidden-the_row-Op-0 body) in
    let third_is = row_items third.0 third.1 ∙ ap ops_of (items_hidden-the_row-Op-0 step) in
    ap (λ x. tree.Loop x (operand_of test) (row_ops second.1) (row_ops third.1)) first_is ∙
    ap (λ x. tree.Loop (ops_of head.items) (operand_of test) x (row_ops third.1)) second_is ∙
    ap (λ x. tree.Loop (ops_of head.items) (operand_of test) (ops_of body.items) x) third_is

-- what a call is
pub call_node : (body : Vec Op Global) → op_of (Call body) ≡ tree.Call (ops_of body.items)
call_node body =
    let first = first_of (Call body) in
    ap tree.Call (row_items first.0 first.1 ∙ ap ops_of (items_hidden-the_row-Op-0 body))

-- the same, where the lists are seen as slices
pub if_seen : (op : Op) (test : Operand) (one other : Vec Op Global) (one' other' : List Op) → op ≡ If test one other → one' ≡ one.items → other' ≡ other.items
    → op_of op ≡ tree.If (operand_of test) (ops_of one') (ops_of other')
if_seen op test one other one' other' e p q =
    ap op_of e ∙ if_node test one other ∙ ap (λ xs. tree.If (operand_of test) (ops_of xs) (ops_of other.items)) (sym p)
    ∙ ap (λ xs. tree.If (operand_of test) (ops_of one') (ops_of xs)) (sym q)

pub loop_seen : (op : Op) (head : Vec Op Global) (test : Operand) (body step : Vec Op Global) (head' body' step' : List Op)
    → op ≡ Loop head test body step → head' ≡ head.items → body' ≡ body.items → step' ≡ step.items
    → op_of op ≡ tree.Loop (ops_of head') (operand_of test) (ops_of body') (ops_of step')
loop_seen op head test body step head' body' step' e p q r =
    ap op_of e ∙ loop_node head test body step
    ∙ ap (λ xs. tree.Loop (ops_of xs) (operand_of test) (ops_of body.items) (ops_of step.items)) (sym p)
    ∙ ap (λ xs. tree.Loop (ops_of head') (operand_of test) (ops_of xs) (ops_of step.items)) (sym q)
    ∙ ap (λ xs. tree.Loop (ops_of head') (operand_of test) (ops_of body') (ops_of xs)) (sym r)

pub call_seen : (op : Op) (body : Vec Op Global) (body' : List Op) → op ≡ Call body → body' ≡ body.items → op_of op ≡ tree.Call (ops_of body')
call_seen op body body' e p = ap op_of e ∙ call_node body ∙ ap (λ xs. tree.Call (ops_of xs)) (sym p)
