-- That the premises of the law can be met: a small kernel in a small launch.
use Rattle.std.proofs.Common.{ℕ, zero, suc, ◌<◌, ◌^◌, [], ◌∷◌, arith}
use Rattle.std.specs.Prelude.{slice_index}
use Rattle.item_acts.specs.declared.acts.Bound.TheVariants.{Array}
use Rattle.step_machine.specs.Alike.{AskAlike}
use Rattle.kir.specs.Machine.{code_setting, cost, kir_start, step}
use Rattle.kir_flow.specs.Flagging.{flags}
use Rattle.kir.specs.Numbered.{AreBelow, GivesWords}
use Rattle.kir_flow.proofs.WorkedFlags.{eight, kernel_of, ops_of, stores}
use Rattle.kir_flow.proofs.WordsGiven.{gives_words}
use Rattle.kir_flow.proofs.FlagsKeep.{flags_keep}

stores_below : AreBelow 3 (ops_of stores)
stores_below = ((omega arith, (tt, tt), tt), (omega arith, ((omega arith, omega arith), tt)))

eight_words : (d : ℕ) → slice_index (8 ∷ 1 ∷ 1 ∷ []) d < 2 ^ 32
eight_words zero = omega arith
eight_words (suc zero) = omega arith
eight_words (suc (suc zero)) = omega arith
eight_words (suc (suc (suc zero))) = omega arith
eight_words (suc (suc (suc (suc d)))) = omega arith

two_words : (d : ℕ) → slice_index (2 ∷ 1 ∷ 1 ∷ []) d < 2 ^ 32
two_words zero = omega arith
two_words (suc zero) = omega arith
two_words (suc (suc zero)) = omega arith
two_words (suc (suc (suc zero))) = omega arith
two_words (suc (suc (suc (suc d)))) = omega arith

eight_gives : GivesWords (code_setting (kernel_of stores) eight (Array 7 4 ∷ []) 5)
eight_gives = gives_words (kernel_of stores) eight (Array 7 4 ∷ []) 5 (omega arith) eight_words two_words (omega arith)

stores_alike : AskAlike (step (code_setting (kernel_of stores) eight (Array 7 4 ∷ []) 5)) (step (code_setting (kernel_of stores) eight (Array 7 4 ∷ []) 5)) cost cost
    (kir_start (kernel_of stores) (Array 7 4 ∷ [])) (kir_start (flags (kernel_of stores)) (Array 7 4 ∷ []))
stores_alike = (flags_keep (kernel_of stores)).asks stores_below eight (Array 7 4 ∷ []) 5 eight_gives
