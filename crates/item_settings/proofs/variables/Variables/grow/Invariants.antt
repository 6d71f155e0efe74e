use Rattle.std.proofs.Common.{◌≡◌, ℕ, suc, ◌-◌, vec_len}
use Rattle.std.specs.Prelude.{slice_index}
use Rattle.item_settings.proofs.variables.Variables.grow.Given as goal

abbrev pub invariant-loop-self : goal.invariant-loop-self
invariant-loop-self l = (k : ℕ) → slice_index l.self.items.items k ≡ slice_index l.initial.self.items.items k

abbrev pub decreases-loop-self : goal.decreases-loop-self
decreases-loop-self l = suc l.at - vec_len l.self.items
