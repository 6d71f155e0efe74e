use Rattle.vx_asm.proofs.ListingLaws.{statement_is_noted}
use Rattle.vx_asm.proofs.listing.note_statement.Goals as goal

pub returns-clause-words : goal.returns-clause-words
returns-clause-words c = statement_is_noted c.args.number c.args.line.now c.args.statements.now.items c.push.new.self.items c.list_statement.result c.in-Some.read c.args.statement c.in-Some.is c.in_ok-push.ensures.items c.list_statement.ensures
