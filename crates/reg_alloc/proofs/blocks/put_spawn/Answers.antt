use Rattle.std.proofs.Common.{[], ◌∷◌, ◌++◌, ap, ◌∙◌}
use Rattle.kir.specs.Shapes.{operand_of}
use Rattle.vx_isa.specs.declared.instr.Instr.TheVariants as instr
use Rattle.reg_alloc.specs.Plain.{left, right}
use Rattle.reg_alloc.specs.Blocks.{address_of_word, pair_before, register_of}
use Rattle.reg_alloc.specs.Layout.{plain_onto}
use Rattle.reg_alloc.proofs.Chains.{on_done}
use Rattle.reg_alloc.proofs.blocks.put_spawn.Goals as goal

pub returns : goal.returns
returns c =
    let acting = instr.Wspawn (register_of left (operand_of c.args.count)) right in
    on_done c.put.result
    (λ h rest. h rest ∙ ap (λ r. c.put_pair.new.out.items ++ instr.Wspawn r right ∷ rest) c.register_of-rs1.ensures
    ∙ c.in_ok-put_pair.ensures [] (acting ∷ rest)
    ∙ ap (λ n. c.put_operand.new.out.items ++ plain_onto (pair_before right n []) (acting ∷ rest)) c.address.ensures
    ∙ c.in_ok-put_operand.ensures (pair_before right (address_of_word c.args.word) []) (acting ∷ rest)) c.put.ensures
