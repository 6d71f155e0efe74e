-- What stands round a place of lowered code.
use Rattle.std.specs.Prelude.{ℕ, Bool, List}
use Rattle.kir.specs.Trees.{Operand}
use Rattle.vcode.specs.Code.{VOp}

-- One that stands round a place. The two sides of a split at place q by an operand: the second begins at e, and both meet at j. A loop
-- that begins at s and is left to x, and one whose lanes register m keeps, and which lanes leave at place p by an operand.
pub data Frame : Type 0 where
  First : (q e j : ℕ) → Operand → Frame
  Second : (q e j : ℕ) → Operand → Frame
  Round : (s x : ℕ) → Frame
  Turning : (s p x m : ℕ) → Operand → Frame

-- A place: straight on; the branch behind a split; the test behind the operation that leaves only some lanes; where two sides meet; or one
-- that is never reached.
pub data Shape : Type 0 where
  Straight : List Frame → Shape
  Sides : (q e j : ℕ) → Operand → List Frame → Shape
  Test : (s p x m : ℕ) → Operand → List Frame → Shape
  Meet : (q e j : ℕ) → Operand → List Frame → Shape
  Nowhere : Shape

-- A place with its operation, its shape, the registers in which active lanes agree there, and whether what is read there is the same for all
-- lanes that read at one address.
pub record Spot : Type 0 where
  pub op : VOp
  pub shape : Shape
  pub agree : ℕ → Bool
  pub shared : Bool
