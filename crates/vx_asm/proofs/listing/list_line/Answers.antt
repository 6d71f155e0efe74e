use Rattle.std.proofs.Common.{inr, sym, length, arith}
use Rattle.std.proofs.lemmas.Result.{err_from_is_err_and}
use Rattle.vx_asm.proofs.ListingLaws.{line_is_refused, label_fault, word_fault, line_counts, line_is_noted}
use Rattle.vx_asm.proofs.listing.list_line.Goals as goal

pub returns-in_err-said-clause-fault : goal.returns-in_err-said-clause-fault
returns-in_err-said-clause-fault c =
    let p = err_from_is_err_and c.from_residual.result c.from_residual.ensures.1 in
    rw (p.1, p.2) (inr (line_is_refused c.args.number c.args.line.now (length c.args.listing.now.statements.items) c.args.listing.now.labels c.in_err-said.field-0.0 (sym c.in_err-said.ensures.said)))

pub returns-in_err-note_label-clause-fault : goal.returns-in_err-note_label-clause-fault
returns-in_err-note_label-clause-fault c =
    let p = err_from_is_err_and c.from_residual-in_err-note_label.result c.from_residual-in_err-note_label.ensures.1 in
    rw (p.1, p.2) (label_fault c.args.number c.args.line.now (length c.args.listing.now.statements.items) c.len-word.result c.args.listing.now.labels c.in_ok-said.said c.in_err-note_label.field-0.0 (omega arith) (sym c.in_ok-said.ensures.said) c.in_err-note_label.ensures.fault)

pub returns-in_err-note_statement-clause-fault : goal.returns-in_err-note_statement-clause-fault
returns-in_err-note_statement-clause-fault c =
    let p = err_from_is_err_and c.from_residual-in_err-note_statement.result c.from_residual-in_err-note_statement.ensures.1 in
    rw (p.1, p.2) (word_fault c.args.number c.args.line.now (length c.args.listing.now.statements.items) c.len-word.result c.args.listing.now.labels c.note_label.new.labels c.in_ok-said.said c.in_err-note_statement.field-0.0 (omega arith) (sym c.in_ok-said.ensures.said) c.in_ok-note_label.ensures.noted c.in_err-note_statement.ensures.fault)

pub returns-clause-counted : goal.returns-clause-counted
returns-clause-counted c =
    line_counts c.args.number c.args.line.now (length c.args.listing.now.statements.items) c.len-word.result c.args.listing.now.labels c.note_label.new.labels c.in_ok-said.said (length c.note_statement.new.statements.items) (omega arith) (sym c.in_ok-said.ensures.said) c.in_ok-note_label.ensures.noted c.in_ok-note_statement.ensures.counted

pub returns-clause-words : goal.returns-clause-words
returns-clause-words c =
    line_is_noted c.args.number c.args.line.now c.in_ok-said.said c.args.listing.now.statements.items c.note_statement.new.statements.items (sym c.in_ok-said.ensures.said) c.in_ok-note_statement.ensures.words
