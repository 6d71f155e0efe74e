-- What the items of a launch ask for, and that more steps never change it.
use Rattle.std.specs.Prelude.{◌≡◌, ℕ, ◌+◌, List}
use Rattle.item_acts.specs.declared.acts.Action.{Action}
use Rattle.item_acts.specs.declared.acts.Asked.{Asked}
use Rattle.item_acts.specs.declared.acts.Asked.TheVariants.{Act}
use Rattle.item_acts.specs.declared.acts.Bound.{Bound}
use Rattle.item_acts.specs.declared.acts.Range.{Range}
use Rattle.item_acts.proofs.Machine.{settles}
use Rattle.kir.specs.declared.items.KirItems.{KirItems}
use Rattle.kir.specs.Machine.{code_setting, kir_asks, kir_start, step}
use Rattle.kir.specs.Shapes.{code_of}
use Rattle.kir.specs.Trees.{KirCode}

-- more small steps never change what is asked
pub kir_settles : (code : KirCode) (range : Range) (bounds : List Bound) (item : ℕ) (answers : List ℕ) (fuel more : ℕ) (action : Action)
    → kir_asks code range bounds item answers fuel ≡ Act action → kir_asks code range bounds item answers (fuel + more) ≡ Act action
kir_settles code range bounds item answers fuel more action e =
    settles (step (code_setting code range bounds item)) fuel more (kir_start code bounds) answers action e

-- the same of a launch in the code
abbrev pub items_ask : KirItems → ℕ → List ℕ → ℕ → Asked
items_ask items item answers fuel = kir_asks (code_of items.code.now) items.range items.bounds item answers fuel

pub items_settle : (items : KirItems) (item : ℕ) (answers : List ℕ) (fuel more : ℕ) (action : Action)
    → items_ask items item answers fuel ≡ Act action → items_ask items item answers (fuel + more) ≡ Act action
items_settle items item answers fuel more action e = kir_settles (code_of items.code.now) items.range items.bounds item answers fuel more action e
