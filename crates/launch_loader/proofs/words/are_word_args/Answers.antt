use Rattle.std.proofs.Common.{rules, ℕ, ◌<◌, length, slice_get, sym, subst, inl, inr}
use Rattle.std.proofs.lemmas.Bool.{cases_lt}
use Rattle.std.proofs.lemmas.Option.{slice_get_past}
use Rattle.launch_loader.specs.Words.{IsWordIn}
use Rattle.launch_loader.proofs.Steps.{one_more}
use Rattle.launch_loader.proofs.words.are_word_args.Goals as goal

-- the places so far and one more
pub loop-place-preserved : goal.loop-place-preserved
loop-place-preserved c =
    let here : IsWordIn (slice_get c.args.args.now c.loop-place.place) = search rules in
    one_more (λ k. IsWordIn (slice_get c.args.args.now k)) c.loop-place.place c.loop-place.invariant here

pub returns : goal.returns
returns c k =
    let before : (j : ℕ) → j < length c.args.args.now → IsWordIn (slice_get c.args.args.now j) = search rules in
    elim (cases_lt k (length c.args.args.now)) [
      | inl less ↦ before k less
      | inr more ↦ subst IsWordIn (sym (slice_get_past c.args.args.now k more)) tt
    ]
