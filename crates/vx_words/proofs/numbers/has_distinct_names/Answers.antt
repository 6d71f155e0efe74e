use Rattle.std.proofs.Common.{◌≡◌, refl, true, not, eqb, Some, sym, ap, ◌∙◌, arith}
use Rattle.std.proofs.lemmas.List.{length-map}
use Rattle.std.specs.Option.{option_eq}
use Rattle.std.proofs.lemmas.Bool.{false≢true, eq-eqb}
use Rattle.vx_words.proofs.NumberedNames.{name_at, not_first, distinct_from_first, names_of}
use Rattle.vx_words.proofs.numbers.has_distinct_names.Goals as goal

pub returns-then-ne : goal.returns-then-ne
returns-then-ne c = (
  λ e. absurd (false≢true e),
  λ distinct. absurd (not_first (names_of c.args.buffers.now) _ c.loop-number.number c.index-buffers-number.result.name c.number_of.result (name_at c.args.buffers.now c.loop-number.number c.index-buffers-number.result (omega arith) c.index-buffers-number.is) c.number_of.ensures (λ e.
      let same : option_eq eqb c.number_of.result (Some c.loop-number.number) ≡ true = ap (λ o. option_eq eqb o (Some c.loop-number.number)) e ∙ eq-eqb c.loop-number.number c.loop-number.number refl in
      let differs = c.if-ne.ensures in
      false≢true (sym (ap not same) ∙ sym differs)) distinct),
)

pub returns : goal.returns
returns c = (λ _. distinct_from_first (names_of c.args.buffers.now) c.loop-number.number (omega (arith, length-map c.args.buffers.now (λ b. b.name))) c.loop-number.invariant, λ _. refl)
