use Rattle.std.proofs.Common.{◌≡◌, length, [], arith}
use Rattle.std.proofs.lemmas.Bool.Decides.{nat_tests}
use Rattle.std.proofs.lemmas.Result.{err_from_is_err_and}
use Rattle.asm_text.specs.Lines.{lines}
use Rattle.asm_text.specs.AsmTexts.{labels_from, words_from}
use Rattle.vx_asm.proofs.TextLaws.{labels_begin, labels_go_on, labels_are_refused, labels_end, words_go_on, words_end, words_begin}
use Rattle.vx_asm.proofs.listing.list_text.Goals as goal

pub loop-rest-init : goal.loop-rest-init
loop-rest-init c = (
  omega arith,
  omega arith,
  omega arith,
  labels_begin (lines c.args.text.now) c.new-2.result.items c.new.result c.new-2.ensures.items c.new.ensures,
  words_begin (lines c.args.text.now) c.new-2.result.items c.new-2.ensures.items,
)

pub list_line-requires-clause-short : goal.list_line-requires-clause-short
list_line-requires-clause-short c = omega (arith, c.cut_line.ensures.within, c.loop-rest.invariant)

pub returns-in_err-list_line-clause-fault : goal.returns-in_err-list_line-clause-fault
returns-in_err-list_line-clause-fault c =
    let p = err_from_is_err_and c.from_residual.result c.from_residual.ensures.1 in
    rw (p.1, p.2) (labels_are_refused c.loop-rest.number c.loop-rest.rest.now c.cut_line.result.0.now c.cut_line.result.1.now (length c.loop-rest.listing.statements.items) c.loop-rest.listing.labels c.in_err-list_line.field-0.0 (labels_from 1 (lines c.args.text.now) 0 []) c.cut_line.ensures.cut c.in_err-list_line.ensures.fault c.loop-rest.invariant.3)

pub loop-rest-preserved : goal.loop-rest-preserved
loop-rest-preserved c = (
  omega arith,
  omega (arith, c.cut_line.ensures.shorter, c.loop-rest.invariant),
  c.in_ok-list_line.ensures.room,
  labels_go_on c.loop-rest.number c.loop-rest.rest.now c.cut_line.result.0.now c.cut_line.result.1.now (length c.loop-rest.listing.statements.items) (length c.list_line.new.listing.statements.items) c.loop-rest.listing.labels c.list_line.new.listing.labels (labels_from 1 (lines c.args.text.now) 0 []) c.cut_line.ensures.cut c.in_ok-list_line.ensures.counted c.loop-rest.invariant.3,
  words_go_on c.loop-rest.number c.loop-rest.rest.now c.cut_line.result.0.now c.cut_line.result.1.now c.loop-rest.listing.statements.items c.list_line.new.listing.statements.items c.loop-rest.listing.labels c.list_line.new.listing.labels (λ labels. words_from 1 (lines c.args.text.now) labels 0) c.cut_line.ensures.cut c.in_ok-list_line.ensures.counted c.in_ok-list_line.ensures.words c.loop-rest.invariant.4,
)

pub returns-clause-labels : goal.returns-clause-labels
returns-clause-labels c =
    let none : length c.loop-rest.rest.now ≡ 0 = grind (arith, nat_tests) in
    labels_end c.loop-rest.number c.loop-rest.rest.now (length c.loop-rest.listing.statements.items) c.loop-rest.listing.labels (labels_from 1 (lines c.args.text.now) 0 []) none c.loop-rest.invariant.3

pub returns-clause-words : goal.returns-clause-words
returns-clause-words c =
    let none : length c.loop-rest.rest.now ≡ 0 = grind (arith, nat_tests) in
    words_end c.loop-rest.number c.loop-rest.rest.now c.loop-rest.listing.statements.items (length c.loop-rest.listing.statements.items) (λ labels. words_from 1 (lines c.args.text.now) labels 0) none c.loop-rest.invariant.4
