use Rattle.std.proofs.Common.{sym, ◌∙◌}
use Rattle.kir.specs.Shapes.{ops_of}
use Rattle.kir_flow.specs.Flagging.{singles}
use Rattle.kir_flow.proofs.Reading.{singles_done, singles_end}
use Rattle.kir_flow.proofs.singles.copy_singles.Goals as goal

pub returns-then-not-is_single : goal.returns-then-not-is_single
returns-then-not-is_single c =
    singles_end c.loop-k.copy.items c.args.ops.now c.loop-k.k c.index-ops-k.result (singles (ops_of c.args.ops.now)) c.loop-k-test.true c.index-ops-k.is
    (sym c.is_single.ensures ∙ c.if-not-is_single.true) c.loop-k.invariant

pub returns : goal.returns
returns c = singles_done c.loop-k.copy.items c.args.ops.now c.loop-k.k (singles (ops_of c.args.ops.now)) c.loop-k-test.false c.loop-k.invariant
