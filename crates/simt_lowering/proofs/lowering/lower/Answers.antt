use Rattle.std.proofs.Common.{◌≤◌, List, length, ap, sym, subst}
use Rattle.kir.specs.Shapes.{code_of}
use Rattle.uniformity.specs.Marks.{marked}
use Rattle.vcode.specs.Code.{Code, VOp}
use Rattle.vcode.specs.Shapes.{vops_of}
use Rattle.vcode.specs.Words.{words}
use Rattle.simt_lowering.specs.Bounds.{AreWithin, LeadWithin, most_words}
use Rattle.simt_lowering.specs.InArrays.{AccessArrays}
use Rattle.simt_lowering.specs.InBlock.{ReadBlock}
use Rattle.simt_lowering.specs.Kept.{AreKept}
use Rattle.simt_lowering.specs.Partings.{PartsAt}
use Rattle.simt_lowering.specs.WithoutItems.{EndWithout}
use Rattle.simt_lowering.specs.WrittenFirst.{AreWrittenFirst}
use Rattle.simt_lowering.proofs.BlockWords.{in_block}
use Rattle.simt_lowering.proofs.Kernels.{kernel_kept}
use Rattle.simt_lowering.proofs.LaneAccesses.{in_arrays}
use Rattle.simt_lowering.proofs.LanesWithoutItems.{without_items}
use Rattle.simt_lowering.proofs.Leading.{leads_to_places}
use Rattle.simt_lowering.proofs.PartingsAt.{parts_at_tests}
use Rattle.simt_lowering.proofs.Putting.{held_length}
use Rattle.simt_lowering.proofs.Registers.{registers_within}
use Rattle.simt_lowering.proofs.Weighing.{words_within}
use Rattle.simt_lowering.proofs.WrittenBefore.{written_first}
use Rattle.simt_lowering.proofs.lowering.lower.Goals as goal

pub returns-clause-kept : goal.returns-clause-kept
returns-clause-kept c =
    let code = code_of c.args.code.now in
    let marks = marked c.args.marks.now in
    subst (AreKept code marks) (sym (ap (λ (x : Code). x.ops) c.in_ok-made.ensures)) (kernel_kept code marks)

pub returns-clause-parts : goal.returns-clause-parts
returns-clause-parts c =
    let code = code_of c.args.code.now in
    let marks = marked c.args.marks.now in
    subst (PartsAt code marks) (sym (ap (λ (x : Code). x.ops) c.in_ok-made.ensures)) (parts_at_tests code marks)

pub returns-clause-words : goal.returns-clause-words
returns-clause-words c =
    let code = code_of c.args.code.now in
    let marks = marked c.args.marks.now in
    subst (λ (ops : List VOp). words ops ≤ most_words code) (sym (ap (λ (x : Code). x.ops) c.in_ok-made.ensures)) (words_within code marks)

pub returns-clause-registers : goal.returns-clause-registers
returns-clause-registers c =
    let code = code_of c.args.code.now in
    let marks = marked c.args.marks.now in
    subst (λ (x : Code). AreWithin x.registers x.ops) (sym c.in_ok-made.ensures) (registers_within code marks c.requires.limited)

pub returns-clause-places : goal.returns-clause-places
returns-clause-places c =
    let code = code_of c.args.code.now in
    let marks = marked c.args.marks.now in
    let ops = c.in_ok-made.made.ops.items in
    subst (λ n. LeadWithin n (vops_of ops)) (held_length ops)
    (subst (λ (c' : List VOp). LeadWithin (length c') c') (sym (ap (λ (x : Code). x.ops) c.in_ok-made.ensures)) (leads_to_places code marks))

pub returns-clause-written : goal.returns-clause-written
returns-clause-written c =
    let code = code_of c.args.code.now in
    let marks = marked c.args.marks.now in
    subst AreWrittenFirst (sym (ap (λ (x : Code). x.ops) c.in_ok-made.ensures)) (written_first code marks c.requires.limited)

pub returns-clause-accesses : goal.returns-clause-accesses
returns-clause-accesses c =
    let code = code_of c.args.code.now in
    let marks = marked c.args.marks.now in
    subst (AccessArrays code) (sym (ap (λ (x : Code). x.ops) c.in_ok-made.ensures)) (in_arrays code marks)

pub returns-clause-block : goal.returns-clause-block
returns-clause-block c =
    let code = code_of c.args.code.now in
    let marks = marked c.args.marks.now in
    subst ReadBlock (sym (ap (λ (x : Code). x.ops) c.in_ok-made.ensures)) (in_block code marks c.requires.limited)

pub returns-clause-ends : goal.returns-clause-ends
returns-clause-ends c =
    let code = code_of c.args.code.now in
    let marks = marked c.args.marks.now in
    subst EndWithout (sym (ap (λ (x : Code). x.ops) c.in_ok-made.ensures)) (without_items code marks)
