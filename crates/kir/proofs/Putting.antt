-- Operations that are put one behind another.
use Rattle.std.proofs.Common.{◌≡◌, List, [], ◌∷◌, ◌++◌, refl, sym, ap, ◌∙◌}
use Rattle.kir.specs.declared.ops.Op.{Op as HeldOp}
use Rattle.kir.specs.Lists.{Puts, onto}
use Rattle.kir.specs.Shapes.{op_of, ops_of}
use Rattle.kir.specs.Trees.{Ops, NoOps, AndOp}

-- one operation more behind others
pub onto_push : (ops : List HeldOp) (op : HeldOp) (c : Ops) → onto (ops ++ op ∷ []) c ≡ onto ops (AndOp (op_of op) c)
onto_push [] op c = refl
onto_push (x ∷ xs) op c = ap (AndOp (op_of x)) (onto_push xs op c)

pub onto_none : (ops : List HeldOp) → onto ops NoOps ≡ ops_of ops
onto_none [] = refl
onto_none (x ∷ xs) = ap (AndOp (op_of x)) (onto_none xs)

-- a list that is begun, and then put into
pub made_of : (old new : List HeldOp) (g : Ops → Ops) → old ≡ [] → Puts old new g → ops_of new ≡ g NoOps
made_of old new g none puts = sym (onto_none new) ∙ puts NoOps ∙ ap (λ xs. onto xs (g NoOps)) none

pub made_on : (old mid new : List HeldOp) (f g : Ops → Ops) → old ≡ [] → Puts old mid f → Puts mid new g → ops_of new ≡ f (g NoOps)
made_on old mid new f g none first second = sym (onto_none new) ∙ second NoOps ∙ first (g NoOps) ∙ ap (λ xs. onto xs (f (g NoOps))) none
