use Rattle.std.proofs.lemmas.Str.Pattern.{split_parts}
use Rattle.vx_words.proofs.Texts.{lacks_by_place}
use Rattle.vx_words.proofs.Refusals.{MatchOption-weaker}
use Rattle.vx_words.proofs.further.cut.Goals as goal

pub returns : goal.returns
returns c =
    MatchOption-weaker c.split_once.result _ _ _ _ (lacks_by_place c.args.mark c.args.text.now) (λ x p. (p.0, lacks_by_place c.args.mark x.0.now p.1))
    (split_parts c.args.mark c.args.text.now c.split_once.result c.split_once.ensures.cases c.requires)
