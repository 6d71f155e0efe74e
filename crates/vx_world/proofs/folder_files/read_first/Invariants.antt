use Rattle.std.proofs.Common.{◌≤◌, length}
use Rattle.vx_world.proofs.SourceBytes.{HasGiven}
use Rattle.vx_world.proofs.folder_files.read_first.Given as goal

abbrev pub invariant-loop : goal.invariant-loop
invariant-loop g l =
    (length l.bytes.items ≤ l.most)
    × HasGiven (g.S.Read.remaining l.initial.source) (g.S.Read.remaining l.source) l.bytes.items
