use Rattle.std.proofs.Common.{ℕ, ◌<◌, ◌≤◌}
use Rattle.item_acts.specs.Worlds.{launch_of, state_of, WaitsWithin}
use Rattle.item_acts.proofs.world.World.all_wait_at.Given as goal

abbrev pub invariant-loop-item : goal.invariant-loop-item
invariant-loop-item g l = (k : ℕ) → l.first ≤ k → k < l.item
    → WaitsWithin (launch_of (g.C.ItemCode.next_of l.self.code) l.self.held) (state_of l.self.held) l.self.fuel k l.point
