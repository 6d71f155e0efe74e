-- The places of a core's deeds never fall.
use Rattle.std.proofs.Common.{ℕ, zero, suc, ◌+◌, ◌≤◌, Bool, true, false, nat_eq, if◌then◌else◌, List, [], ◌∷◌, length, arith}
use Rattle.memory_banks.specs.declared.entry.BusEntry.{BusEntry}
use Rattle.core_bytes.specs.BusRuns.{RisesFrom, loads, place_after, places, places_from}
use Rattle.core_bytes.specs.Deeds.{Deed}

-- more entries of a port end no earlier
pub place_after-more : (port : ℕ) (history : List BusEntry) (m n : ℕ) → m ≤ n → place_after port history m ≤ place_after port history n
place_after-more port [] zero n le = omega arith
place_after-more port (e ∷ history) zero n le = omega arith
place_after-more port [] (suc m) zero le = omega (arith, le)
place_after-more port (e ∷ history) (suc m) zero le = omega (arith, le)
place_after-more port [] (suc m) (suc n) le = omega arith
place_after-more port (e ∷ history) (suc m) (suc n) le =
    by_port (nat_eq e.port port) (place_after-more port history m n (omega (arith, le))) (place_after-more port history (suc m) (suc n) le)
  where
    by_port : (own : Bool) → place_after port history m ≤ place_after port history n → place_after port history (suc m) ≤ place_after port history (suc n)
        → suc (if own then place_after port history m else place_after port history (suc m)) ≤ suc (if own then place_after port history n else place_after port history (suc n))
    by_port true here other = omega (arith, here)
    by_port false here other = omega (arith, other)

-- the place of a deed is where some of its core's entries end, no earlier than that of the deed before it
one_rises : (port : ℕ) (history : List BusEntry) (m n : ℕ) (b : Bool) (rest : ℕ → List ℕ) → m ≤ n
    → RisesFrom (place_after port history n) (rest (place_after port history n)) → RisesFrom (place_after port history m) (rest (place_after port history m))
    → (place_after port history m ≤ (if b then place_after port history n else place_after port history m)) × RisesFrom (if b then place_after port history n else place_after port history m) (rest (if b then place_after port history n else place_after port history m))
one_rises port history m n true rest le later here = (place_after-more port history m n le, later)
one_rises port history m n false rest le later here = (omega arith, here)

rises : (port : ℕ) (history : List BusEntry) (made m : ℕ) (deeds : List Deed) → m ≤ made → RisesFrom (place_after port history m) (places_from port history made (place_after port history m) deeds)
rises port history made m [] le = tt
rises port history made m (d ∷ deeds) le =
    let next : ℕ = made + length d.entries in
    one_rises port history m next (loads d.act d.entries) (λ before. places_from port history next before deeds) (omega (arith, le))
    (rises port history next next deeds (omega arith))
    (rises port history next m deeds (omega (arith, le)))

pub rising : (port : ℕ) (history : List BusEntry) (deeds : List Deed) → RisesFrom 0 (places port history deeds)
rising port history deeds = rises port history 0 0 deeds (omega arith)
