use Rattle.std.proofs.Common.{◌≡◌, ◌≤◌, List, length, map, Some, ap, sym, subst, ◌∙◌, arith}
use Rattle.vx_isa.specs.Rows.{row_of}
use Rattle.vx_isa.specs.declared.instr.Instr.{Instr}
use Rattle.vcode.specs.Shapes.{vops_of}
use Rattle.vcode.specs.Words.{words}
use Rattle.vcode.specs.declared.ops.VOp.{VOp as HeldOp}
use Rattle.reg_alloc.specs.Layout.{instrs_of, words_of}
use Rattle.reg_alloc.proofs.Decoding.{all_read, words_decode}
use Rattle.reg_alloc.specs.Laws.{StandIn}
use Rattle.reg_alloc.proofs.Standing.{words_are_counted, words_stand}
use Rattle.reg_alloc.proofs.allocation.allocate.Goals as goal

pub returns-clause-counted : goal.returns-clause-counted
returns-clause-counted c =
    ap length c.in_ok-made.ensures.words ∙ words_are_counted c.args.code.now.registers (vops_of c.as_slice.result.now)
    ∙ ap (λ (os : List HeldOp). words (vops_of os)) c.as_slice.ensures.value

pub returns-clause-decoded : goal.returns-clause-decoded
returns-clause-decoded c =
    let slots = c.args.code.now.registers in
    let ops = vops_of c.args.code.now.ops.items in
    let same : vops_of c.as_slice.result.now ≡ ops = ap vops_of c.as_slice.ensures.value in
    let off = c.if-code-gt256.false in
    let few : slots ≤ 256 = omega (arith, off) in
    ap (map row_of) (c.in_ok-made.ensures.words ∙ ap (words_of slots) same)
    ∙ all_read (instrs_of slots ops) (λ k i e. (words_decode slots ops few c.requires.registers c.requires.words k i e).1)
    ∙ sym (ap (λ n. map (λ (i : Instr). Some i) (instrs_of n ops)) c.in_ok-made.ensures.slots)

pub returns-clause-stand : goal.returns-clause-stand
returns-clause-stand c =
    let slots = c.args.code.now.registers in
    let ops = vops_of c.args.code.now.ops.items in
    let same : vops_of c.as_slice.result.now ≡ ops = ap vops_of c.as_slice.ensures.value in
    subst (λ n. StandIn n ops c.in_ok-made.made.words) (sym c.in_ok-made.ensures.slots)
    (subst (StandIn slots ops) (sym (c.in_ok-made.ensures.words ∙ ap (words_of slots) same)) (words_stand slots ops))
