use Rattle.vx_words.proofs.Refusals.{refused}
use Rattle.vx_words.proofs.FurtherTexts.{not_launch}
use Rattle.vx_words.proofs.further.read_further.Goals as goal

pub returns-in_err-read_launch : goal.returns-in_err-read_launch
returns-in_err-read_launch c = refused c.from_residual-in_err-read_launch.result c.in_err-read_launch.field-0.0 _ _ _ c.from_residual-in_err-read_launch.ensures.1 c.in_err-read_launch.ensures
    (not_launch c.args.word.now c.in-Some-behind.rest.now c.in-Some-behind.ensures)
