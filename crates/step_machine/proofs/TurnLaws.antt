-- Numbers of turns below a number.
use Rattle.std.proofs.Common.{◌≡◌, ℕ, suc, ◌<◌, ◌≤◌, List, [], ◌∷◌, refl, sym, subst, arith}
use Rattle.step_machine.specs.Stacks.{under}
use Rattle.step_machine.specs.Turns.{EachBelow, risen}

pub below_more : (k m : ℕ) (ns : List ℕ) → k ≤ m → EachBelow k ns → EachBelow m ns
below_more k m [] le low = tt
below_more k m (n ∷ ns) le low =
    let first : n < k = low.0 in
    (omega arith, below_more k m ns le low.1)

-- a step leaves them as they are
pub below_next : (k : ℕ) (ns : List ℕ) → EachBelow k ns → EachBelow (suc k) ns
below_next k ns low = below_more k (suc k) ns (omega arith) low

-- a loop is left
pub below_left : (k : ℕ) (ns : List ℕ) → EachBelow k ns → EachBelow k (under ns)
below_left k [] low = tt
below_left k (n ∷ ns) low = low.1

-- a loop is entered
pub below_entered : (k : ℕ) (ns : List ℕ) → EachBelow k ns → EachBelow (suc k) (0 ∷ ns)
below_entered k ns low = (omega arith, below_next k ns low)

-- a turn is over
pub below_risen : (k : ℕ) (ns : List ℕ) → EachBelow k ns → EachBelow (suc k) (risen ns)
below_risen k [] low = tt
below_risen k (n ∷ ns) low =
    let first : n < k = low.0 in
    (omega arith, below_next k ns low.1)

-- the number on top
pub first_below : (k : ℕ) (old : List ℕ) (n : ℕ) (rest : List ℕ) → EachBelow k old → old ≡ n ∷ rest → n < k
first_below k old n rest low e = (subst (EachBelow k) e low).0

-- no loop has been entered
pub none_below : (k : ℕ) (ns : List ℕ) → ns ≡ [] → EachBelow k ns
none_below k [] e = tt
none_below k (n ∷ ns) e = subst (λ ms. EachBelow k ms) (sym e) tt

-- a turn does not leave its loop
pub under_risen : (ns : List ℕ) → under (risen ns) ≡ under ns
under_risen [] = refl
under_risen (n ∷ ns) = refl
