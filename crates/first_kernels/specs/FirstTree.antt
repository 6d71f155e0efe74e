use Rattle.std.specs.Prelude.{ℕ, suc, max, List, map}
use Rattle.first_kernels.specs.declared.tree.Operator.{Operator}
use Rattle.first_kernels.specs.declared.tree.Sum.{Sum, Number, GlobalId, Element, Group', Operation'}
use Rattle.first_kernels.specs.declared.tree.Assignment.{Assignment}
use Rattle.first_kernels.specs.declared.tree.Kernel.{Kernel}

-- a sum, without where it lies in memory
pub data Tree : Type 0 where
  Literal : ℕ → Tree
  OwnId : Tree
  OwnElement : ℕ → Tree
  Grouped : Tree → Tree
  Applied : Operator → Tree → Tree → Tree

-- an assignment: the number of the parameter, and what its element becomes
pub record Assigns : Type 0 where
  pub parameter : ℕ
  pub value : Tree

-- a kernel, without where it lies in memory: how many parameters it has, and its assignments
pub record Form : Type 0 where
  pub parameters : ℕ
  pub assignments : List Assigns

abbrev pub tree_of : Sum → Tree
tree_of (Number n) = Literal n
tree_of GlobalId = OwnId
tree_of (Element p) = OwnElement p
tree_of (Group' p s) = Grouped (tree_of s)
tree_of (Operation' op p l q r) = Applied op (tree_of l) (tree_of r)

abbrev pub assigns_of : Assignment → Assigns
assigns_of a = record { parameter = a.parameter; value = tree_of a.value }

abbrev pub form_of : Kernel → Form
form_of k = record { parameters = k.parameters; assignments = map assigns_of k.assignments }

-- The height of a sum: a number has 1, the item's id 2 for its call and argument, an element 3 for its index besides,
-- and each other node, parentheses included, one more than the higher of its parts.
abbrev pub height : Tree → ℕ
height (Literal n) = 1
height OwnId = 2
height (OwnElement p) = 3
height (Grouped t) = suc (height t)
height (Applied op l r) = suc (max (height l) (height r))
