use Rattle.std.proofs.Common.{◌≡◌, take}
use Rattle.item_settings.proofs.params.copied_params.Given as goal

abbrev pub invariant-loop-param : goal.invariant-loop-param
invariant-loop-param l = l.items.items ≡ take l.param-index l.params
