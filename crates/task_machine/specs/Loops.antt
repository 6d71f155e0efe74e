-- Loops, over expressions V and statements T.
use Rattle.std.specs.Prelude.{Option}

-- A loop: its test, which holds where none is written, what runs behind each turn, and the turn.
pub record Loop (V T : Type 0) : Type 0 where
  pub test : Option V
  pub step : T
  pub body : T
