use Rattle.std.proofs.Common.{[], ◌∷◌, ◌∙◌}
use Rattle.vx_isa.specs.declared.instr.Instr.TheVariants as instr
use Rattle.reg_alloc.specs.Plain.{GetBlock, left, right}
use Rattle.reg_alloc.proofs.Chains.{on_done}
use Rattle.reg_alloc.proofs.blocks.put_bar.Goals as goal

pub returns : goal.returns
returns c =
    on_done c.put-2.result
    (λ h rest. h rest ∙ c.in_ok-put.ensures (instr.Bar left right ∷ rest) ∙ c.in_ok-put_pair.ensures (GetBlock right 0 ∷ []) (instr.Bar left right ∷ rest)) c.put-2.ensures
