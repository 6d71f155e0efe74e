use Rattle.std.proofs.Common.{sym, ◌∙◌}
use Rattle.ocl_lex.specs.Doing.{state_of}
use Rattle.ocl_lex.specs.Lines.{directive_line, plain_line}
use Rattle.ocl_lex.proofs.DoingLaws.{does_same, hash_line, nothing_read, plain_read, silently_does}
use Rattle.ocl_lex.proofs.reading.read_line.Goals as goal

pub returns-in_default : goal.returns-in_default
returns-in_default c = nothing_read (tt {0}) c.args.text.now (state_of c.args.context.now) c.args.line.now c.args.out.now c.in_default.ensures.cases

pub returns-then-is_hash : goal.returns-then-is_hash
returns-then-is_hash c =
    let s = state_of c.args.context.now in
    let e = directive_line c.args.text.now c.in-Some.first.now c.in-Some.rest.now s in
    does_same c.directive_line.result c.args.out.now c.args.out.now _ e (state_of c.directive_line.new.self)
    (hash_line c.args.text.now s c.args.line.now c.in-Some.rest.now c.in-Some.first.now c.in-Some.ensures.cases.0 (sym c.is_hash.ensures ∙ c.if-is_hash.true))
    (silently_does c.directive_line.result c.args.out.now e (state_of c.directive_line.new.self) c.directive_line.ensures)

pub returns-else-is_hash : goal.returns-else-is_hash
returns-else-is_hash c =
    let s = state_of c.args.context.now in
    does_same c.read_plain.result c.args.out.now c.read_plain.new.out _ (plain_line c.args.text.now s c.args.line.now) s
    (plain_read c.args.text.now s c.args.line.now c.in-Some.rest.now c.in-Some.first.now c.in-Some.ensures.cases.0 (sym c.is_hash.ensures ∙ c.if-is_hash.false))
    c.read_plain.ensures
