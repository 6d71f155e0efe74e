use Rattle.std.proofs.Common.{refl}
use Rattle.vx_words.specs.Words.{arguments_text}
use Rattle.vx_words.proofs.Refusals.{refused}
use Rattle.vx_words.proofs.LaunchTexts.{launch_has_slash, launch_has_two, launch_front, launch_count, launch_again, launch_arguments}
use Rattle.vx_words.proofs.further.read_launch.Goals as goal

pub returns-in_default : goal.returns-in_default
returns-in_default c = (refl, refl, λ d h. launch_has_slash c.args.text.now d.entry (arguments_text d.names) d.items h.0 h.2 h.4 c.in_default.ensures)

pub returns-in_default-cut : goal.returns-in_default-cut
returns-in_default-cut c = (
  refl,
  refl,
  λ d h.
      launch_has_two c.args.text.now d.entry (arguments_text d.names) d.items h.0 h.2 h.4 c.in-Some.entry.now c.in-Some.rest.now c.in-Some.ensures c.in_default-cut.ensures,
)

pub returns-in_default-behind : goal.returns-in_default-behind
returns-in_default-behind c = (
  refl,
  refl,
  λ d h.
      c.in_default-behind.ensures (arguments_text d.names)
      (launch_again c.args.text.now d.entry (arguments_text d.names) d.items h.0 h.2 h.4 c.in-Some.entry.now c.in-Some.rest.now c.in-Some.ensures c.in-Some-cut.count.now c.in-Some-cut.rest.now c.in-Some-cut.ensures),
)

pub returns-in_err-entry : goal.returns-in_err-entry
returns-in_err-entry c = refused c.from_residual.result c.in_err-entry.field-0.0 _ _ _ c.from_residual.ensures.1 c.in_err-entry.ensures (λ none d h.
    none d.entry (h.0, launch_front c.args.text.now d.entry (arguments_text d.names) d.items h.0 h.2 h.4 c.in-Some.entry.now c.in-Some.rest.now c.in-Some.ensures))

pub returns-in_err-items : goal.returns-in_err-items
returns-in_err-items c = refused c.from_residual-in_err-items.result c.in_err-items.field-0.0 _ _ _ c.from_residual-in_err-items.ensures.1 c.in_err-items.ensures (λ none d h.
    none d.items (h.1, h.2, launch_count c.args.text.now d.entry (arguments_text d.names) d.items h.0 h.2 h.4 c.in-Some.entry.now c.in-Some.rest.now c.in-Some.ensures c.in-Some-cut.count.now c.in-Some-cut.rest.now c.in-Some-cut.ensures))

pub returns-in_err-names : goal.returns-in_err-names
returns-in_err-names c = refused c.from_residual-in_err-names.result c.in_err-names.field-0.0 _ _ _ c.from_residual-in_err-names.ensures.1 c.in_err-names.ensures (λ none d h.
    none d.names (h.3, launch_arguments c.args.text.now d.entry (arguments_text d.names) d.items h.0 h.2 h.4 c.in-Some.entry.now c.in-Some.rest.now c.in-Some.ensures c.in-Some-cut.count.now c.in-Some-cut.rest.now c.in-Some-cut.ensures c.in-Some-behind.arguments.now c.in-Some-behind.ensures))
