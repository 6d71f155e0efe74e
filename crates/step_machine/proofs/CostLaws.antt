-- More steps never cost less, and nothing is spent once an action is asked for.
use Rattle.std.proofs.Common.{◌≡◌, ℕ, zero, suc, ◌+◌, ◌≤◌, List, [], ◌∷◌, refl, ap, arith, add-zero, add-suc}
use Rattle.item_acts.specs.declared.acts.Action.{Action}
use Rattle.item_acts.specs.declared.acts.Asked.{Asked}
use Rattle.item_acts.specs.declared.acts.Asked.TheVariants.{Act}
use Rattle.item_acts.specs.Machine.{Step, Go, Ask, Stop, asked_at_once, asked_behind, asked}
use Rattle.step_machine.specs.Costs.{spent_behind, spent}

behind_no_less : {S : Type 0} (f g : S → List ℕ → ℕ) → ((s : S) (answers : List ℕ) → f s answers ≤ g s answers)
    → (cost : ℕ) (x : Step S) (answers : List ℕ) → spent_behind f cost x answers ≤ spent_behind g cost x answers
behind_no_less f g less cost (Go s) answers = let h : f s answers ≤ g s answers = less s answers in omega arith
behind_no_less f g less cost (Ask a s) [] = omega arith
behind_no_less f g less cost (Ask a s) (answer ∷ answers) = let h : f (s answer) answers ≤ g (s answer) answers = less (s answer) answers in omega arith
behind_no_less f g less cost (Stop a) answers = omega arith

-- one more step costs no less
pub spent_suc : {S : Type 0} (step : S → Step S) (cost : S → ℕ) (n : ℕ) (s : S) (answers : List ℕ)
    → spent step cost n s answers ≤ spent step cost (suc n) s answers
spent_suc step cost zero s answers = omega arith
spent_suc step cost (suc n) s answers = behind_no_less (spent step cost n) (spent step cost (suc n)) (spent_suc step cost n) (cost s) (step s) answers

-- more steps cost no less
pub spent_more : {S : Type 0} (step : S → Step S) (cost : S → ℕ) (n more : ℕ) (s : S) (answers : List ℕ)
    → spent step cost n s answers ≤ spent step cost (n + more) s answers
spent_more step cost n zero s answers = rw add-zero (omega arith)
spent_more step cost n (suc more) s answers =
    let one : spent step cost n s answers ≤ spent step cost (n + more) s answers = spent_more step cost n more s answers in
    let other : spent step cost (n + more) s answers ≤ spent step cost (suc (n + more)) s answers = spent_suc step cost (n + more) s answers in
    rw add-suc (omega arith)

-- where a step asks at once, nothing is spent
at_once_free : {S : Type 0} (next : S → List ℕ → ℕ) (cost : ℕ) (x : Step S) (answers : List ℕ) (a : Action)
    → asked_at_once x answers ≡ Act a → spent_behind next cost x answers ≡ 0
at_once_free next cost (Go s) answers a e = absurd (cc)
at_once_free next cost (Ask b f) [] a e = refl
at_once_free next cost (Ask b f) (answer ∷ answers) a e = absurd (cc)
at_once_free next cost (Stop b) answers a e = refl

behind_settled : {S : Type 0} (f g : S → List ℕ → ℕ) (h : S → List ℕ → Asked)
    → ((s : S) (answers : List ℕ) (a : Action) → h s answers ≡ Act a → g s answers ≡ f s answers)
    → (cost : ℕ) (x : Step S) (answers : List ℕ) (a : Action) → asked_behind h x answers ≡ Act a
    → spent_behind g cost x answers ≡ spent_behind f cost x answers
behind_settled f g h same cost (Go s) answers a e = ap (λ n. cost + n) (same s answers a e)
behind_settled f g h same cost (Ask b k) [] a e = refl
behind_settled f g h same cost (Ask b k) (answer ∷ answers) a e = ap (λ n. cost + n) (same (k answer) answers a e)
behind_settled f g h same cost (Stop b) answers a e = refl

-- once an action is asked for, one more step spends nothing
pub spent_settles : {S : Type 0} (step : S → Step S) (cost : S → ℕ) (n : ℕ) (s : S) (answers : List ℕ) (a : Action)
    → asked step n s answers ≡ Act a → spent step cost (suc n) s answers ≡ spent step cost n s answers
spent_settles step cost zero s answers a e = at_once_free (spent step cost zero) (cost s) (step s) answers a e
spent_settles step cost (suc n) s answers a e =
    behind_settled (spent step cost n) (spent step cost (suc n)) (asked step n) (spent_settles step cost n) (cost s) (step s) answers a e
