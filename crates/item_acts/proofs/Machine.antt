-- Laws of the generic machine: more small steps never change what is asked, what is asked is unique, and a machine that has
-- taken some answers goes on like the state that they lead to.
use Rattle.std.proofs.Common.{◌≡◌, ℕ, zero, suc, ◌+◌, ◌-◌, ◌≤◌, List, [], ◌∷◌, ◌++◌, refl, ap, sym, ◌∙◌, subst, arith, append_assoc, append-nil, add_assoc, zero-add, suc-add, add-suc, add-zero}
use Rattle.item_acts.specs.declared.acts.Action.{Action}
use Rattle.item_acts.specs.declared.acts.Asked.{Asked}
use Rattle.item_acts.specs.declared.acts.Asked.TheVariants.{Act}
use Rattle.item_acts.specs.Machine.{Step, Go, Ask, Stop, asked_at_once, asked_behind, asked, Asks}

-- what is asked at once is asked behind the step
at_once_behind : {S : Type 0} (next : S → List ℕ → Asked) (x : Step S) (answers : List ℕ) (a : Action)
    → asked_at_once x answers ≡ Act a → asked_behind next x answers ≡ Act a
at_once_behind next (Go s) answers a e = absurd (cc)
at_once_behind next (Ask b f) [] a e = e
at_once_behind next (Ask b f) (answer ∷ answers) a e = absurd (cc)
at_once_behind next (Stop b) [] a e = e
at_once_behind next (Stop b) (answer ∷ answers) a e = absurd (cc)

-- behind a step more is asked where more is asked from each state
behind_more : {S : Type 0} (f g : S → List ℕ → Asked)
    → ((s : S) (answers : List ℕ) (a : Action) → f s answers ≡ Act a → g s answers ≡ Act a)
    → (x : Step S) (answers : List ℕ) (a : Action) → asked_behind f x answers ≡ Act a → asked_behind g x answers ≡ Act a
behind_more f g more (Go s) answers a e = more s answers a e
behind_more f g more (Ask b h) [] a e = e
behind_more f g more (Ask b h) (answer ∷ answers) a e = more (h answer) answers a e
behind_more f g more (Stop b) [] a e = e
behind_more f g more (Stop b) (answer ∷ answers) a e = absurd (cc)

-- one more step never changes what is asked
pub settles_suc : {S : Type 0} (step : S → Step S) (n : ℕ) (s : S) (answers : List ℕ) (a : Action)
    → asked step n s answers ≡ Act a → asked step (suc n) s answers ≡ Act a
settles_suc step zero s answers a e = at_once_behind (asked step zero) (step s) answers a e
settles_suc step (suc n) s answers a e = behind_more (asked step n) (asked step (suc n)) (settles_suc step n) (step s) answers a e

-- more steps never change what is asked
pub settles : {S : Type 0} (step : S → Step S) (n more : ℕ) (s : S) (answers : List ℕ) (a : Action)
    → asked step n s answers ≡ Act a → asked step (n + more) s answers ≡ Act a
settles step n zero s answers a e = rw add-zero e
settles step n (suc more) s answers a e = rw add-suc (settles_suc step (n + more) s answers a (settles step n more s answers a e))

-- the same with the greater number of steps as it stands
pub settles_le : {S : Type 0} (step : S → Step S) (n m : ℕ) → n ≤ m → (s : S) (answers : List ℕ) (a : Action)
    → asked step n s answers ≡ Act a → asked step m s answers ≡ Act a
settles_le step n m le s answers a e =
    let sum : n + (m - n) ≡ m = omega arith in
    subst (λ (k : ℕ). asked step k s answers ≡ Act a) sum (settles step n (m - n) s answers a e)

-- an action is asked for once: by any two numbers of steps it is the same
pub asked_once : {S : Type 0} (step : S → Step S) (n m : ℕ) (s : S) (answers : List ℕ) (a b : Action)
    → asked step n s answers ≡ Act a → asked step m s answers ≡ Act b → a ≡ b
asked_once step n m s answers a b e e' =
    let one : asked step (n + m) s answers ≡ Act a = settles_le step n (n + m) (omega arith) s answers a e in
    let other : asked step (n + m) s answers ≡ Act b = settles_le step m (n + m) (omega arith) s answers b e' in
    cc

-- what an item asks for after its answers is one action
pub asks_once : {S : Type 0} (step : S → Step S) (s : S) (answers : List ℕ) (a b : Action)
    → Asks step s answers a → Asks step s answers b → a ≡ b
asks_once step s answers a b (n, e) (m, e') = asked_once step n m s answers a b e e'

-- some action
abbrev pub IsAsked : Asked → Type 0
IsAsked asked = (a : Action) × (asked ≡ Act a)

-- behind a step, what is asked after more answers was asked for before
behind_before : {S : Type 0} (f : S → List ℕ → Asked) (answer : ℕ) (more : List ℕ)
    → ((s : S) (answers : List ℕ) → IsAsked (f s (answers ++ answer ∷ more)) → IsAsked (f s answers))
    → (x : Step S) (answers : List ℕ) → IsAsked (asked_behind f x (answers ++ answer ∷ more)) → IsAsked (asked_behind f x answers)
behind_before f answer more before (Go s) answers h = before s answers h
behind_before f answer more before (Ask b g) [] h = (b, refl)
behind_before f answer more before (Ask b g) (first ∷ answers) h = before (g first) answers h
behind_before f answer more before (Stop b) [] h = (b, refl)
behind_before f answer more before (Stop b) (first ∷ answers) (a, e) = absurd (cc)

-- and where no further step is made
at_once_before : {S : Type 0} (answer : ℕ) (more : List ℕ) (x : Step S) (answers : List ℕ)
    → IsAsked (asked_at_once x (answers ++ answer ∷ more)) → IsAsked (asked_at_once x answers)
at_once_before answer more (Go s) answers (a, e) = absurd (cc)
at_once_before answer more (Ask b g) [] h = (b, refl)
at_once_before answer more (Ask b g) (first ∷ answers) (a, e) = absurd (cc)
at_once_before answer more (Stop b) [] h = (b, refl)
at_once_before answer more (Stop b) (first ∷ answers) (a, e) = absurd (cc)

-- an item that asks after more answers has asked after the first of them
pub asked_before : {S : Type 0} (step : S → Step S) (n : ℕ) (s : S) (answers : List ℕ) (answer : ℕ) (more : List ℕ)
    → IsAsked (asked step n s (answers ++ answer ∷ more)) → IsAsked (asked step n s answers)
asked_before step zero s answers answer more h = at_once_before answer more (step s) answers h
asked_before step (suc n) s answers answer more h =
    behind_before (asked step n) answer more (λ t front. asked_before step n t front answer more) (step s) answers h

-- The machine takes these answers in that many steps: from then on it asks for what it asks for from the other state.
pub record Leads {S : Type 0} (step : S → Step S) (steps : ℕ) (s : S) (answers : List ℕ) (t : S) : Type 0 where
  pub goes : (n : ℕ) (more : List ℕ) → asked step (steps + n) s (answers ++ more) ≡ asked step n t more

-- a state leads to itself
pub leads_none : {S : Type 0} (step : S → Step S) (s : S) → Leads step 0 s [] s
leads_none step s = record { goes = λ n more. rw zero-add refl }

-- a state leads where the state behind its inner step leads
pub leads_go : {S : Type 0} (step : S → Step S) (k : ℕ) (s s' t : S) (answers : List ℕ)
    → step s ≡ Go s' → Leads step k s' answers t → Leads step (suc k) s answers t
leads_go step k s s' t answers e h = record { goes = λ n more. rw suc-add (ap (λ x. asked_behind (asked step (k + n)) x (answers ++ more)) e ∙ h.goes n more) }

-- a state that asks leads, by an answer, where the state for that answer leads
pub leads_answer : {S : Type 0} (step : S → Step S) (k : ℕ) (s t : S) (a : Action) (f : ℕ → S) (answer : ℕ) (answers : List ℕ)
    → step s ≡ Ask a f → Leads step k (f answer) answers t → Leads step (suc k) s (answer ∷ answers) t
leads_answer step k s t a f answer answers e h = record {
  goes = λ n more. rw suc-add (ap (λ x. asked_behind (asked step (k + n)) x (answer ∷ answers ++ more)) e ∙ h.goes n more);
}

-- one way after another
pub leads_on : {S : Type 0} (step : S → Step S) (k k' : ℕ) (s t u : S) (answers answers' : List ℕ)
    → Leads step k s answers t → Leads step k' t answers' u → Leads step (k + k') s (answers ++ answers') u
leads_on step k k' s t u answers answers' h h' = record {
  goes = λ n more. rw (add_assoc, append_assoc) (h.goes (k' + n) (answers' ++ more) ∙ h'.goes n more);
}

-- what is asked for where the answers lead is asked for after them
pub asks_along : {S : Type 0} (step : S → Step S) (k : ℕ) (s t : S) (answers : List ℕ)
    → Leads step k s answers t → (n : ℕ) (a : Action) → asked step n t [] ≡ Act a → asked step (k + n) s answers ≡ Act a
asks_along step k s t answers h n a e =
    let along : asked step (k + n) s (answers ++ []) ≡ asked step n t [] = h.goes n [] in
    ap (asked step (k + n) s) (sym (append-nil answers)) ∙ along ∙ e

-- what is asked for after the answers is asked for where they lead
pub asks_there : {S : Type 0} (step : S → Step S) (k : ℕ) (s t : S) (answers : List ℕ)
    → Leads step k s answers t → (n : ℕ) (a : Action) → asked step n s answers ≡ Act a → asked step n t [] ≡ Act a
asks_there step k s t answers h n a e =
    let along : asked step (k + n) s (answers ++ []) ≡ asked step n t [] = h.goes n [] in
    let later : asked step (k + n) s answers ≡ Act a = settles_le step n (k + n) (omega arith) s answers a e in
    sym along ∙ ap (asked step (k + n) s) (append-nil answers) ∙ later
