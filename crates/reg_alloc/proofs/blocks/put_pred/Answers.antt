use Rattle.std.proofs.Common.{[], ◌∷◌, ◌++◌, ap, ◌∙◌}
use Rattle.kir.specs.Shapes.{operand_of}
use Rattle.vx_isa.specs.declared.instr.Instr.TheVariants as instr
use Rattle.reg_alloc.specs.Plain.{GetSlot, left, right}
use Rattle.reg_alloc.specs.Blocks.{register_of}
use Rattle.reg_alloc.proofs.Chains.{on_done}
use Rattle.reg_alloc.proofs.blocks.put_pred.Goals as goal

pub returns : goal.returns
returns c =
    let acting = instr.Pred (register_of left (operand_of c.args.test)) right in
    on_done c.put.result
    (λ h rest. h rest ∙ ap (λ r. c.put_slot_read.new.out.items ++ instr.Pred r right ∷ rest) c.register_of-rs1.ensures
    ∙ c.in_ok-put_slot_read.ensures [] (acting ∷ rest)
    ∙ c.in_ok-put_operand.ensures (GetSlot right c.args.mask ∷ []) (acting ∷ rest)) c.put.ensures
