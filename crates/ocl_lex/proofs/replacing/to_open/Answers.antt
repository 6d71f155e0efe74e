use Rattle.std.proofs.Common.{◌≡◌, sym, ◌∙◌, true, false}
use Rattle.ocl_lex.specs.Frames.{is_open}
use Rattle.ocl_lex.proofs.FrameLaws.{found_closed, found_open, named_by}
use Rattle.ocl_lex.proofs.replacing.to_open.Goals as goal

pub returns-then-contains_key-clause-opens : goal.returns-then-contains_key-clause-opens
returns-then-contains_key-clause-opens c =
    let there : is_open c.between-name.result.now c.args.frames.now.entries ≡ true = sym c.if-contains_key.ensures in
    found_open c.args.text.now c.args.macros.now c.args.frames.now.entries c.args.part c.in-Name.start c.in-Name.end c.between-name.result.now c.in-Name.is c.between-name.ensures there

pub returns-in-Some-clause-opens : goal.returns-in-Some-clause-opens
returns-in-Some-clause-opens c =
    let closed : is_open c.between-name.result.now c.args.frames.now.entries ≡ false = sym c.if-contains_key.ensures in (
      found_closed c.args.text.now c.args.macros.now c.args.frames.now.entries c.args.part c.in-Name.start c.in-Name.end c.between-name.result.now c.in-Name.is c.between-name.ensures closed ∙ sym c.in-Some.ensures,
      named_by c.args.text.now c.args.part c.in-Name.start c.in-Name.end c.between-name.result.now c.in-Name.is c.between-name.ensures,
    )

pub returns-in-Some-clause-closed : goal.returns-in-Some-clause-closed
returns-in-Some-clause-closed c = sym c.if-contains_key.ensures

pub returns-in-None-clause-opens : goal.returns-in-None-clause-opens
returns-in-None-clause-opens c =
    let closed : is_open c.between-name.result.now c.args.frames.now.entries ≡ false = sym c.if-contains_key.ensures in
    found_closed c.args.text.now c.args.macros.now c.args.frames.now.entries c.args.part c.in-Name.start c.in-Name.end c.between-name.result.now c.in-Name.is c.between-name.ensures closed ∙ sym c.in-None.ensures
