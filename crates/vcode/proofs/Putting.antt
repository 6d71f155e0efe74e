-- Operations that are put one behind another.
use Rattle.std.proofs.Common.{◌≡◌, List, [], ◌∷◌, ◌++◌, refl, sym, ap, ◌∙◌}
use Rattle.vcode.specs.declared.ops.VOp.{VOp as HeldOp}
use Rattle.vcode.specs.Code.{VOp}
use Rattle.vcode.specs.Shapes.{Puts, onto, vop_of, vops_of}

-- one operation more behind others
pub onto_push : (ops : List HeldOp) (op : HeldOp) (c : List VOp) → onto (ops ++ op ∷ []) c ≡ onto ops (vop_of op ∷ c)
onto_push [] op c = refl
onto_push (x ∷ xs) op c = ap (λ c'. vop_of x ∷ c') (onto_push xs op c)

pub onto_none : (ops : List HeldOp) → onto ops [] ≡ vops_of ops
onto_none [] = refl
onto_none (x ∷ xs) = ap (λ c'. vop_of x ∷ c') (onto_none xs)

-- a list that is begun, and then put into
pub made_of : (old new : List HeldOp) (f : List VOp → List VOp) → old ≡ [] → Puts old new f → vops_of new ≡ f []
made_of old new f none puts = sym (onto_none new) ∙ puts [] ∙ ap (λ xs. onto xs (f [])) none
