-- The words of the laws: launches that are orderly, and lists of launches, of which each runs on what the ones before it leave.
use Rattle.std.specs.Prelude.{◌≡◌, ℕ, ◌<◌, List, [], ◌∷◌, ◌++◌}
use Rattle.vx_base.specs.declared.types.Pos.{Pos}
use Rattle.item_acts.specs.declared.acts.Action.{Action}
use Rattle.item_acts.specs.declared.acts.Asked.TheVariants.{Act}
use Rattle.item_acts.specs.declared.acts.Action.TheVariants.{Fault}
use Rattle.item_acts.specs.Launches.{Launch, group_of, State, Going, start, Turn, Does, Allowed, run}
use Rattle.item_acts.specs.Tame.{IsTameWithin, LaunchLeaves}
use Rattle.item_acts.specs.OneResult.{IsSettled, IsFaultFree, InBounds}
use Rattle.launch_order.specs.Events.{Event, CoreEnd, AllDone}
use Rattle.launch_order.specs.Cores.{CoreEvents}

-- More small steps never change what an item asks for, groups have items, the launch is tame over these bytes within n, and
-- items ask for bytes of the launch alone.
pub record IsOrderlyWithin (l : Launch) (given : ℕ → ℕ → ℕ) (n : ℕ) : Type 0 where
  pub settled : IsSettled l
  pub positive : 0 < l.local
  pub tame : IsTameWithin l (start given) n
  pub bounds : InBounds l (start given)

-- such within some n
abbrev pub IsOrderly : Launch → (ℕ → ℕ → ℕ) → Type 0
IsOrderly l given = (n : ℕ) × IsOrderlyWithin l given n

-- some interleaving without an earlier fault ends in this item's fault at this position
pub record FaultComes (l : Launch) (given : ℕ → ℕ → ℕ) (item : ℕ) (pos : Pos) : Type 0 where
  pub turns : List Turn
  pub allowed : Allowed l (start given) (turns ++ Does item (Fault pos) ∷ [])
  pub free : IsFaultFree turns

-- The items of the core's groups stand as behind some interleaving without a fault, and each that goes on asks for its next
-- action within n small steps.
pub record IsReached (l : Launch) (given : ℕ → ℕ → ℕ) (n : ℕ) (core_of : ℕ → ℕ) (core : ℕ) (own : State) : Type 0 where
  pub turns : List Turn
  pub allowed : Allowed l (start given) turns
  pub free : IsFaultFree turns
  pub answers : (item : ℕ) → core_of (group_of l item) ≡ core → own.answers item ≡ (run l (start given) turns).answers item
  pub standing : (item : ℕ) → core_of (group_of l item) ≡ core → own.standing item ≡ (run l (start given) turns).standing item
  pub soon : (item : ℕ) → item < l.items → core_of (group_of l item) ≡ core → own.standing item ≡ Going
      → (a : Action) × (l.asks item (own.answers item) n ≡ Act a)

-- what some launches leave, each on what the ones before it leave
abbrev pub LaunchesLeave : List Launch → (ℕ → ℕ → ℕ) → (ℕ → ℕ → ℕ) → Type 0
LaunchesLeave [] given left = (buffer byte : ℕ) → left buffer byte ≡ given buffer byte
LaunchesLeave (l ∷ launches) given left = (between : ℕ → ℕ → ℕ) × LaunchLeaves l given between × LaunchesLeave launches between left

-- each launch is orderly on what the ones before it leave
abbrev pub AreOrderly : List Launch → (ℕ → ℕ → ℕ) → Type 0
AreOrderly [] given = Unit {0}
AreOrderly (l ∷ launches) given = IsOrderly l given × ((between : ℕ → ℕ → ℕ) → LaunchLeaves l given between → AreOrderly launches between)

-- some cores ran a launch from the given bytes to the final ones, and each of them was done
pub record RanToEnd (l : Launch) (given final : ℕ → ℕ → ℕ) : Type 0 where
  pub cores : ℕ
  pub events : ℕ → List Event
  pub ends : ℕ → CoreEnd
  pub known : CoreEvents l given final cores events ends
  pub done : (core : ℕ) → core < cores → ends core ≡ AllDone

-- so they ran launch after launch
abbrev pub RanThrough : List Launch → (ℕ → ℕ → ℕ) → (ℕ → ℕ → ℕ) → Type 0
RanThrough [] given final = (buffer byte : ℕ) → final buffer byte ≡ given buffer byte
RanThrough (l ∷ launches) given final = (between : ℕ → ℕ → ℕ) × RanToEnd l given between × RanThrough launches between final

-- They ran through some launches, and in the next one a core came to this end.
pub record CameTo (before : List Launch) (l : Launch) (given : ℕ → ℕ → ℕ) (end : CoreEnd) : Type 0 where
  pub between : ℕ → ℕ → ℕ
  pub through : RanThrough before given between
  pub final : ℕ → ℕ → ℕ
  pub cores : ℕ
  pub events : ℕ → List Event
  pub ends : ℕ → CoreEnd
  pub known : CoreEvents l between final cores events ends
  pub core : ℕ
  pub exists : core < cores
  pub came : ends core ≡ end

-- the fault of an item comes on what some launches leave
pub record FaultComesBehind (before : List Launch) (l : Launch) (given : ℕ → ℕ → ℕ) (item : ℕ) (pos : Pos) : Type 0 where
  pub between : ℕ → ℕ → ℕ
  pub leave : LaunchesLeave before given between
  pub comes : FaultComes l between item pos
