-- All that flags keep.
use Rattle.std.proofs.Common.{refl}
use Rattle.kir.specs.Trees.{KirCode}
use Rattle.kir_flow.specs.Flagging.{flags}
use Rattle.kir_flow.specs.WithoutJumps.{WithoutJumps}
use Rattle.kir_flow.proofs.FlagsAlike.{flags_alike}
use Rattle.kir_flow.proofs.NoJumps.{flags_jumps}
use Rattle.kir_flow.proofs.SitesKept.{flags_sites}
use Rattle.kir_flow.proofs.NestingKept.{flags_nesting, flags_branching}
use Rattle.kir_flow.proofs.LoopsKept.{flags_loops}
use Rattle.kir_flow.proofs.TypesKept.{flags_typed}
use Rattle.kir_flow.proofs.RoomKept.{flags_variables, flags_below}
use Rattle.kir_flow.proofs.ChecksKept.{flags_checked}
use Rattle.kir_flow.proofs.WordsKept.{flags_weight}

pub flags_keep : (code : KirCode) → WithoutJumps code (flags code)
flags_keep code = record {
  same_params = refl;
  same_arrays = refl;
  no_jumps = flags_jumps code;
  same_sites = flags_sites code;
  nested = flags_nesting code;
  branched = flags_branching code;
  looped = flags_loops code;
  counted = flags_variables code;
  words = flags_weight code;
  typed = flags_typed code;
  checked = flags_checked code;
  below = flags_below code;
  asks = λ below range bounds item gives. flags_alike code range bounds item below gives;
}
