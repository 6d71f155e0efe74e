use Rattle.std.proofs.lemmas.Str.Pattern.{split_parts}
use Rattle.command_words.proofs.CutTexts.{MatchOption-weaker, cut_none, cut_some}
use Rattle.command_words.proofs.names.cut.Goals as goal

pub returns : goal.returns
returns c =
    MatchOption-weaker c.split_once.result _ _ _ _ (cut_none c.args.mark c.args.text.now) (λ x p. cut_some c.args.mark c.args.text.now x.0.now x.1.now p)
    (split_parts c.args.mark c.args.text.now c.split_once.result c.split_once.ensures.cases c.requires)
