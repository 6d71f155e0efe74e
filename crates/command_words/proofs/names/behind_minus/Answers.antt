use Rattle.std.proofs.Common.{lit<}
use Rattle.std.proofs.lemmas.Str.Pattern.{strip_prefix_char}
use Rattle.command_words.proofs.CutTexts.{MatchOption-weaker, minus_none, minus_some}
use Rattle.command_words.proofs.names.behind_minus.Goals as goal

pub returns : goal.returns
returns c =
    MatchOption-weaker c.strip_prefix.result _ _ _ _ (minus_none c.args.text.now) (λ x p. minus_some c.args.text.now x.now p)
    (strip_prefix_char 45 c.args.text.now c.strip_prefix.result c.strip_prefix.ensures.cases (lit< tt))
