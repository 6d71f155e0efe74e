use Rattle.std.proofs.Common.{List, [], ◌∷◌, ◌*◌, ◌∙◌}
use Rattle.vx_base.specs.declared.types.Alu.TheVariants as alu
use Rattle.vx_isa.specs.declared.instr.Instr.TheVariants as instr
use Rattle.reg_alloc.specs.Plain.{Plain, AddTo, Calculate, GetLane, High, left, right}
use Rattle.reg_alloc.proofs.Chains.{on_done}
use Rattle.reg_alloc.proofs.blocks.put_fresh.Goals as goal

pub returns : goal.returns
returns c =
    let last : List Plain = AddTo right 0 (4 * c.args.slots) ∷ Calculate alu.Mul left left right ∷ High right 0x10080 ∷ [] in
    let acting = instr.Add 4 left right in
    on_done c.put_frame.result
    (λ h rest. h rest ∙ c.in_ok-put_lane_before.ensures last (acting ∷ rest)
    ∙ c.in_ok-put_lanes_before.ensures (GetLane right ∷ Calculate alu.Add left left right ∷ last) (acting ∷ rest)) c.put_frame.ensures
