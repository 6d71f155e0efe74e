use Rattle.std.proofs.Common.{inr, arith, sym}
use Rattle.std.proofs.lemmas.Result.{err_from_is_err_and}
use Rattle.vx_asm.specs.declared.listing.Listed.TheVariants.{Word}
use Rattle.vx_asm.specs.Listing.{words_of_listed}
use Rattle.vx_asm.proofs.ListingLaws.{listed_goes_on, listed_is_refused, listed_ends}
use Rattle.vx_asm.proofs.assembly.resolve.Goals as goal

pub returns-in_err-word-clause-fault : goal.returns-in_err-word-clause-fault
returns-in_err-word-clause-fault c =
    let p = err_from_is_err_and c.from_residual.result c.from_residual.ensures.1 in
    rw (p.1, p.2) (inr (listed_is_refused c.args.listing.now.labels c.loop-listed.listed-index c.len-number.result c.deref-listed-items.result.now (Word 0) c.loop-listed.items.items c.in_err-word.field-0.0 (words_of_listed c.args.listing.now.labels 0 c.args.listing.now.statements.items) (omega arith) (omega arith) (sym c.in_err-word.ensures) c.loop-listed.invariant.1))

pub loop-listed-preserved : goal.loop-listed-preserved
loop-listed-preserved c = (
  omega (arith, c.in_ok-push.ensures.len),
  listed_goes_on c.args.listing.now.labels c.loop-listed.listed-index c.len-number.result c.deref-listed-items.result.now (Word 0) c.loop-listed.items.items c.push.new.self.items c.in_ok-word.word (words_of_listed c.args.listing.now.labels 0 c.args.listing.now.statements.items) (omega arith) (omega arith) c.in_ok-push.ensures.items (sym c.in_ok-word.ensures) c.loop-listed.invariant.1,
)

pub returns-clause-words : goal.returns-clause-words
returns-clause-words c =
    listed_ends c.args.listing.now.labels c.loop-listed.listed-index c.deref-listed-items.result.now c.loop-listed.items.items (words_of_listed c.args.listing.now.labels 0 c.args.listing.now.statements.items) (omega arith) c.loop-listed.invariant.1
