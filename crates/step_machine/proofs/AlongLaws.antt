-- Machines that go along with one another, however many steps are looked at, ask alike.
use Rattle.std.proofs.Common.{◌≡◌, ℕ, zero, suc, ◌+◌, ◌<◌, ◌≤◌, List, [], ◌∷◌, refl, ap, sym, ◌∙◌, subst, arith}
use Rattle.item_acts.specs.declared.acts.Action.{Action}
use Rattle.item_acts.specs.declared.acts.Asked.TheVariants.{Act, Running}
use Rattle.item_acts.specs.Machine.{Step, Go, Ask, Stop, asked_at_once, asked_behind, asked, Asks}
use Rattle.step_machine.specs.Costs.{spent_behind, spent}
use Rattle.step_machine.specs.Alike.{AsksWithin, AskAlike}
use Rattle.step_machine.specs.Sims.{GoAlong, Unseen, FirstGoes, SecondGoes, BothGo, BothTurn, BothAsk, BothStop}

-- fewer steps are looked at
pub fewer : {S T : Type 0} (f : S → Step S) (g : T → Step T) (cost : S → ℕ) (cost' : T → ℕ) (m n : ℕ) (s : S) (t : T) → n ≤ m → GoAlong f g cost cost' m s t → GoAlong f g cost cost' n s t
fewer f g cost cost' m zero s t le along = Unseen s t
fewer f g cost cost' m (suc n) s t le (Unseen s' t') = absurd (omega arith)
fewer f g cost cost' m (suc n) s t le (FirstGoes m' s1 s' t1 e rest) = FirstGoes (suc n) s s' t e (fewer f g cost cost' m (suc n) s' t le rest)
fewer f g cost cost' m (suc n) s t le (SecondGoes m' s1 t1 t' e free rest) = SecondGoes (suc n) s t t' e free (fewer f g cost cost' m (suc n) s t' le rest)
fewer f g cost cost' m (suc n) s t le (BothGo m' s1 s' t1 t' e e' less rest) = BothGo (suc n) s s' t t' e e' less (fewer f g cost cost' m (suc n) s' t' le rest)
fewer f g cost cost' m (suc n) s t le (BothTurn m' s1 s' t1 t' e e' less rest) = BothTurn n s s' t t' e e' less (fewer f g cost cost' m' n s' t' (omega arith) rest)
fewer f g cost cost' m (suc n) s t le (BothAsk m' s1 t1 a h k e e' less rest) = BothAsk (suc n) s t a h k e e' less (λ answer. fewer f g cost cost' m (suc n) (h answer) (k answer) le (rest answer))
fewer f g cost cost' m (suc n) s t le (BothStop m' s1 t1 a e e') = BothStop (suc n) s t a e e'

-- ---- what is asked is kept

-- an inner step before what is asked
go_before : {T : Type 0} (g : T → Step T) (cost : T → ℕ) (t t' : T) (answers : List ℕ) (a : Action) (free most : ℕ) → g t ≡ Go t' → cost t ≤ free
    → AsksWithin g cost t' answers a most → AsksWithin g cost t answers a (free + most)
go_before g cost t t' answers a free most e less there = record {
  steps = suc there.steps;
  asks = ap (λ x. asked_behind (asked g there.steps) x answers) e ∙ there.asks;
  within =
      let sum : spent g cost (suc there.steps) t answers ≡ cost t + spent g cost there.steps t' answers = ap (λ x. spent_behind (spent g cost there.steps) (cost t) x answers) e in
      let most_of : spent g cost there.steps t' answers ≤ most = there.within in
      omega arith;
}

more_within : {T : Type 0} (g : T → Step T) (cost : T → ℕ) (t : T) (answers : List ℕ) (a : Action) (few most : ℕ) → few ≤ most → AsksWithin g cost t answers a few → AsksWithin g cost t answers a most
more_within g cost t answers a few most less there = record {
  steps = there.steps;
  asks = there.asks;
  within = let h : spent g cost there.steps t answers ≤ few = there.within in omega arith;
}

answer_before : {T : Type 0} (g : T → Step T) (cost : T → ℕ) (t : T) (b : Action) (k : ℕ → T) (answer : ℕ) (answers : List ℕ) (a : Action) (free most : ℕ) → g t ≡ Ask b k → cost t ≤ free
    → AsksWithin g cost (k answer) answers a most → AsksWithin g cost t (answer ∷ answers) a (free + most)
answer_before g cost t b k answer answers a free most e less there = record {
  steps = suc there.steps;
  asks = ap (λ x. asked_behind (asked g there.steps) x (answer ∷ answers)) e ∙ there.asks;
  within =
      let sum : spent g cost (suc there.steps) t (answer ∷ answers) ≡ cost t + spent g cost there.steps (k answer) answers =
      ap (λ x. spent_behind (spent g cost there.steps) (cost t) x (answer ∷ answers)) e in
      let most_of : spent g cost there.steps (k answer) answers ≤ most = there.within in
      omega arith;
}

running_differs : {P : Type 0} (a : Action) → Running ≡ Act a → P
running_differs a e = absurd (cc)

-- an action asked for behind an inner step is asked for by one step less
behind_go : {S : Type 0} (f : S → Step S) (s s' : S) (k : ℕ) (answers : List ℕ) (a : Action) → f s ≡ Go s' → asked f (suc k) s answers ≡ Act a → asked f k s' answers ≡ Act a
behind_go f s s' k answers a e asks = sym (ap (λ x. asked_behind (asked f k) x answers) e) ∙ asks

no_step : {S P : Type 0} (f : S → Step S) (s s' : S) (answers : List ℕ) (a : Action) → f s ≡ Go s' → asked f 0 s answers ≡ Act a → P
no_step f s s' answers a e asks = running_differs a (sym (ap (λ x. asked_at_once x answers) e) ∙ asks)

spent_go : {S : Type 0} (f : S → Step S) (cost : S → ℕ) (s s' : S) (k : ℕ) (answers : List ℕ) → f s ≡ Go s' → spent f cost (suc k) s answers ≡ cost s + spent f cost k s' answers
spent_go f cost s s' k answers e = ap (λ x. spent_behind (spent f cost k) (cost s) x answers) e

asked_now : {S : Type 0} (f : S → Step S) (s : S) (b : Action) (h : ℕ → S) (n : ℕ) → f s ≡ Ask b h → asked f n s [] ≡ Act b
asked_now f s b h zero e = ap (λ x. asked_at_once x []) e
asked_now f s b h (suc n) e = ap (λ x. asked_behind (asked f n) x []) e

stopped : {S : Type 0} (f : S → Step S) (s : S) (b : Action) (n : ℕ) (answers : List ℕ) → f s ≡ Stop b → asked f n s answers ≡ asked_at_once {S = S} (Stop b) answers
stopped f s b zero answers e = ap (λ x. asked_at_once x answers) e
stopped f s b (suc n) [] e = ap (λ x. asked_behind (asked f n) x []) e
stopped f s b (suc n) (answer ∷ answers) e = ap (λ x. asked_behind (asked f n) x (answer ∷ answers)) e

stop_free : {T : Type 0} (g : T → Step T) (cost : T → ℕ) (t : T) (b : Action) (n : ℕ) (answers : List ℕ) → g t ≡ Stop b → spent g cost n t answers ≡ 0
stop_free g cost t b zero answers e = refl
stop_free g cost t b (suc n) answers e = ap (λ x. spent_behind (spent g cost n) (cost t) x answers) e

pub kept_by : {S T : Type 0} (f : S → Step S) (g : T → Step T) (cost : S → ℕ) (cost' : T → ℕ) (m : ℕ) (s : S) (t : T) → GoAlong f g cost cost' m s t
    → (n : ℕ) → n < m → (answers : List ℕ) (a : Action) → asked f n s answers ≡ Act a → AsksWithin g cost' t answers a (spent f cost n s answers)
kept_by f g cost cost' m s t (Unseen s1 t1) n below answers a asks = absurd (omega arith)
kept_by f g cost cost' m s t (FirstGoes m1 s1 s' t1 e rest) zero below answers a asks = no_step f s s' answers a e asks
kept_by f g cost cost' m s t (FirstGoes m1 s1 s' t1 e rest) (suc n) below answers a asks =
    let sum : spent f cost (suc n) s answers ≡ cost s + spent f cost n s' answers = spent_go f cost s s' n answers e in
    more_within g cost' t answers a (spent f cost n s' answers) (spent f cost (suc n) s answers) (omega arith)
    (kept_by f g cost cost' m s' t rest n (omega arith) answers a (behind_go f s s' n answers a e asks))
kept_by f g cost cost' m s t (SecondGoes m1 s1 t1 t' e free rest) n below answers a asks =
    more_within g cost' t answers a (0 + spent f cost n s answers) (spent f cost n s answers) (omega arith)
    (go_before g cost' t t' answers a 0 (spent f cost n s answers) e (omega arith) (kept_by f g cost cost' m s t' rest n below answers a asks))
kept_by f g cost cost' m s t (BothGo m1 s1 s' t1 t' e e' less rest) zero below answers a asks = no_step f s s' answers a e asks
kept_by f g cost cost' m s t (BothGo m1 s1 s' t1 t' e e' less rest) (suc n) below answers a asks =
    subst (AsksWithin g cost' t answers a) (sym (spent_go f cost s s' n answers e))
    (go_before g cost' t t' answers a (cost s) (spent f cost n s' answers) e' less (kept_by f g cost cost' m s' t' rest n (omega arith) answers a (behind_go f s s' n answers a e asks)))
kept_by f g cost cost' m s t (BothTurn m1 s1 s' t1 t' e e' less rest) zero below answers a asks = no_step f s s' answers a e asks
kept_by f g cost cost' m s t (BothTurn m1 s1 s' t1 t' e e' less rest) (suc n) below answers a asks =
    subst (AsksWithin g cost' t answers a) (sym (spent_go f cost s s' n answers e))
    (go_before g cost' t t' answers a (cost s) (spent f cost n s' answers) e' less (kept_by f g cost cost' m1 s' t' rest n (omega arith) answers a (behind_go f s s' n answers a e asks)))
kept_by f g cost cost' m s t (BothAsk m1 s1 t1 b h k e e' less rest) n below [] a asks =
    record { steps = 0; asks = ap (λ x. asked_at_once x []) e' ∙ sym (asked_now f s b h n e) ∙ asks; within = omega arith }
kept_by f g cost cost' m s t (BothAsk m1 s1 t1 b h k e e' less rest) zero below (answer ∷ answers) a asks =
    running_differs a (sym (ap (λ x. asked_at_once x (answer ∷ answers)) e) ∙ asks)
kept_by f g cost cost' m s t (BothAsk m1 s1 t1 b h k e e' less rest) (suc n) below (answer ∷ answers) a asks =
    subst (AsksWithin g cost' t (answer ∷ answers) a) (sym (ap (λ x. spent_behind (spent f cost n) (cost s) x (answer ∷ answers)) e))
    (answer_before g cost' t b k answer answers a (cost s) (spent f cost n (h answer) answers) e' less
    (kept_by f g cost cost' m (h answer) (k answer) (rest answer) n (omega arith) answers a (sym (ap (λ x. asked_behind (asked f n) x (answer ∷ answers)) e) ∙ asks)))
kept_by f g cost cost' m s t (BothStop m1 s1 t1 b e e') n below answers a asks =
    record {
      steps = n;
      asks = stopped g t b n answers e' ∙ sym (stopped f s b n answers e) ∙ asks;
      within = let none : spent g cost' n t answers ≡ 0 = stop_free g cost' t b n answers e' in omega arith;
    }

-- ---- nothing else is asked

pub no_more_by : {S T : Type 0} (f : S → Step S) (g : T → Step T) (cost : S → ℕ) (cost' : T → ℕ) (m : ℕ) (s : S) (t : T) → GoAlong f g cost cost' m s t
    → (n : ℕ) → n < m → (answers : List ℕ) (a : Action) → asked g n t answers ≡ Act a → Asks f s answers a
no_more_by f g cost cost' m s t (Unseen s1 t1) n below answers a asks = absurd (omega arith)
no_more_by f g cost cost' m s t (FirstGoes m1 s1 s' t1 e rest) n below answers a asks =
    let there = no_more_by f g cost cost' m s' t rest n below answers a asks in
    (suc there.0, ap (λ x. asked_behind (asked f there.0) x answers) e ∙ there.1)
no_more_by f g cost cost' m s t (SecondGoes m1 s1 t1 t' e free rest) zero below answers a asks = no_step g t t' answers a e asks
no_more_by f g cost cost' m s t (SecondGoes m1 s1 t1 t' e free rest) (suc n) below answers a asks =
    no_more_by f g cost cost' m s t' rest n (omega arith) answers a (behind_go g t t' n answers a e asks)
no_more_by f g cost cost' m s t (BothGo m1 s1 s' t1 t' e e' less rest) zero below answers a asks = no_step g t t' answers a e' asks
no_more_by f g cost cost' m s t (BothGo m1 s1 s' t1 t' e e' less rest) (suc n) below answers a asks =
    let there = no_more_by f g cost cost' m s' t' rest n (omega arith) answers a (behind_go g t t' n answers a e' asks) in
    (suc there.0, ap (λ x. asked_behind (asked f there.0) x answers) e ∙ there.1)
no_more_by f g cost cost' m s t (BothTurn m1 s1 s' t1 t' e e' less rest) zero below answers a asks = no_step g t t' answers a e' asks
no_more_by f g cost cost' m s t (BothTurn m1 s1 s' t1 t' e e' less rest) (suc n) below answers a asks =
    let there = no_more_by f g cost cost' m1 s' t' rest n (omega arith) answers a (behind_go g t t' n answers a e' asks) in
    (suc there.0, ap (λ x. asked_behind (asked f there.0) x answers) e ∙ there.1)
no_more_by f g cost cost' m s t (BothAsk m1 s1 t1 b h k e e' less rest) n below [] a asks =
    (0, asked_now f s b h 0 e ∙ sym (asked_now g t b k n e') ∙ asks)
no_more_by f g cost cost' m s t (BothAsk m1 s1 t1 b h k e e' less rest) zero below (answer ∷ answers) a asks =
    running_differs a (sym (ap (λ x. asked_at_once x (answer ∷ answers)) e') ∙ asks)
no_more_by f g cost cost' m s t (BothAsk m1 s1 t1 b h k e e' less rest) (suc n) below (answer ∷ answers) a asks =
    let there = no_more_by f g cost cost' m (h answer) (k answer) (rest answer) n (omega arith) answers a (sym (ap (λ x. asked_behind (asked g n) x (answer ∷ answers)) e') ∙ asks) in
    (suc there.0, ap (λ x. asked_behind (asked f there.0) x (answer ∷ answers)) e ∙ there.1)
no_more_by f g cost cost' m s t (BothStop m1 s1 t1 b e e') n below answers a asks =
    (n, stopped f s b n answers e ∙ sym (stopped g t b n answers e') ∙ asks)

-- machines that go along however many steps are looked at ask alike
pub along_alike : {S T : Type 0} (f : S → Step S) (g : T → Step T) (cost : S → ℕ) (cost' : T → ℕ) (s : S) (t : T) → ((n : ℕ) → GoAlong f g cost cost' n s t) → AskAlike f g cost cost' s t
along_alike f g cost cost' s t along = record {
  kept = λ n answers a asks. kept_by f g cost cost' (suc n) s t (along (suc n)) n (omega arith) answers a asks;
  no_more = λ answers a asks. no_more_by f g cost cost' (suc asks.0) s t (along (suc asks.0)) asks.0 (omega arith) answers a asks.1;
}
