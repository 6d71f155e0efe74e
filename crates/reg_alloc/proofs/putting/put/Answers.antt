use Rattle.std.proofs.Common.{[], ◌∷◌, ◌++◌, ap, ◌∙◌}
use Rattle.std.proofs.lemmas.List.{append_assoc}
use Rattle.reg_alloc.proofs.putting.put.Goals as goal

pub returns : goal.returns
returns c = λ rest. ap (λ xs. xs ++ rest) c.in_ok-push.ensures.items ∙ append_assoc c.args.out.now.items (c.args.i ∷ []) rest
