-- What the items of small launches ask for, by how many answers they have.
use Rattle.std.specs.Prelude.{ℕ, ◌==◌, if◌then◌else◌, []}
use Rattle.vx_base.specs.declared.types.Size.TheVariants.{One}
use Rattle.item_acts.specs.declared.acts.Place.TheVariants.{Global, Local}
use Rattle.item_acts.specs.declared.acts.Point.{Point}
use Rattle.item_acts.specs.declared.acts.Action.TheVariants.{Load, Store, Barrier, Fault, End}
use Rattle.item_acts.specs.declared.acts.Asked.{Asked}
use Rattle.item_acts.specs.declared.acts.Asked.TheVariants.{Act, Running}

-- an item stores its number to a byte of its own, and ends
abbrev pub own_byte : ℕ → ℕ → Asked
own_byte item count = if count == 0 then Act (Store (Global 0 item) One item) else (if count == 1 then Act End else Running)

-- an item stores its number to the first byte, and ends
abbrev pub first_byte : ℕ → ℕ → Asked
first_byte item count = if count == 0 then Act (Store (Global 0 0) One item) else (if count == 1 then Act End else Running)

-- item 0 waits at a barrier and ends, item 1 ends, item 2 stops at a fault, and item 3 loads from a buffer that is not there
abbrev pub unlike : ℕ → ℕ → Asked
unlike item count = if item == 0 then (if count == 0 then Act (Barrier (record { site = 1; turns = [] })) else Act End)
    else (if item == 1 then Act End
    else (if item == 2 then Act (Fault (record { line = 3; col = 4 })) else Act (Load (Global 9 0) One)))

-- an item stores its number to a local array, waits at a barrier, and ends
abbrev pub waiting : ℕ → ℕ → Asked
waiting item count = if count == 0 then Act (Store (Local 0 0 item) One item)
    else (if count == 1 then Act (Barrier (record { site = 1; turns = [] })) else Act End)
