use Rattle.std.proofs.Common.{ap, ◌∙◌, arith}
use Rattle.std.specs.String.{string_bytes}
use Rattle.vx_words.specs.Words.{word_text}
use Rattle.vx_words.specs.WordForms.{IsFurther}
use Rattle.vx_words.proofs.Refusals.{refused}
use Rattle.vx_words.proofs.Lists.{refused_at}
use Rattle.vx_words.proofs.form.read_each.Goals as goal

pub returns-in_err-read_further : goal.returns-in_err-read_further
returns-in_err-read_further c = refused c.from_residual.result c.in_err-read_further.field-0.0 _ _ _ c.from_residual.ensures.1 c.in_err-read_further.ensures (λ none further h.
    refused_at string_bytes word_text IsFurther c.args.words.now further c.loop-word.word-index c.word-item.result (omega arith) h.texts h.each (λ f is e. none f is (c.as_str.ensures.value ∙ ap string_bytes c.word-item.is ∙ e)))
