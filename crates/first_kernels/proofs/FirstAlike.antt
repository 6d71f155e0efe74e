-- A kernel of assignments asks, as a resolved program, for what its form asks for.
use Rattle.std.proofs.Common.{◌≡◌, ℕ, zero, suc, List, [], ◌∷◌, refl, sym, ap, ◌∙◌}
use Rattle.item_acts.specs.declared.acts.Action.{Action}
use Rattle.item_acts.specs.declared.acts.Asked.{Asked}
use Rattle.item_acts.specs.declared.acts.Asked.TheVariants.{Act, Running}
use Rattle.item_acts.specs.Machine.{Step, Go, Ask, Stop, asked_at_once, asked_behind, asked, Asks}

-- The first machine asks for what the second asks for, and the other way round.
pub record IsAlike {S T : Type 0} (step : S → Step S) (step' : T → Step T) (s : S) (t : T) : Type 0 where
  pub there : (answers : List ℕ) (a : Action) → Asks step s answers a → Asks step' t answers a
  pub back : (answers : List ℕ) (a : Action) → Asks step' t answers a → Asks step s answers a

-- behind an inner step the same is asked for
steps_on : {S : Type 0} (step : S → Step S) (s s' : S) → step s ≡ Go s' → (answers : List ℕ) (a : Action) → Asks step s' answers a → Asks step s answers a
steps_on step s s' e answers a (n, h) = (suc n, ap (λ x. asked_behind (asked step n) x answers) e ∙ h)

steps_back : {S : Type 0} (step : S → Step S) (s s' : S) → step s ≡ Go s' → (answers : List ℕ) (a : Action) → Asks step s answers a → Asks step s' answers a
steps_back step s s' e answers a (zero, h) = absurd (running (sym (ap (λ x. asked_at_once x answers) e) ∙ h))
  where
    running : Running ≡ Act a → ⊥
    running q = absurd cc
steps_back step s s' e answers a (suc n, h) = (n, sym (ap (λ x. asked_behind (asked step n) x answers) e) ∙ h)

module _ {S T : Type 0} (step : S → Step S) (step' : T → Step T) where
  -- both make an inner step
  pub alike_both : (s s' : S) (t t' : T) → step s ≡ Go s' → step' t ≡ Go t' → IsAlike step step' s' t' → IsAlike step step' s t
  alike_both s s' t t' e e' h = record {
    there = λ answers a asks. steps_on step' t t' e' answers a (h.there answers a (steps_back step s s' e answers a asks));
    back = λ answers a asks. steps_on step s s' e answers a (h.back answers a (steps_back step' t t' e' answers a asks));
  }

  -- the second makes an inner step
  pub alike_second : (s : S) (t t' : T) → step' t ≡ Go t' → IsAlike step step' s t' → IsAlike step step' s t
  alike_second s t t' e' h = record {
    there = λ answers a asks. steps_on step' t t' e' answers a (h.there answers a asks);
    back = λ answers a asks. h.back answers a (steps_back step' t t' e' answers a asks);
  }

  -- both ask for the same, and go on alike for each answer
  ask_there : {S T : Type 0} (step : S → Step S) (step' : T → Step T) (s : S) (t : T) (act : Action) (f : ℕ → S) (g : ℕ → T) → step s ≡ Ask act f → step' t ≡ Ask act g
      → ((answer : ℕ) (answers : List ℕ) (a : Action) → Asks step (f answer) answers a → Asks step' (g answer) answers a)
      → (answers : List ℕ) (a : Action) → Asks step s answers a → Asks step' t answers a
  ask_there step step' s t act f g e e' on [] a (zero, h) = (zero, ap (λ x. asked_at_once x []) e' ∙ sym (ap (λ x. asked_at_once x []) e) ∙ h)
  ask_there step step' s t act f g e e' on [] a (suc n, h) = (zero, ap (λ x. asked_at_once x []) e' ∙ sym (ap (λ x. asked_behind (asked step n) x []) e) ∙ h)
  ask_there step step' s t act f g e e' on (answer ∷ answers) a (zero, h) = absurd (running (sym (ap (λ x. asked_at_once x (answer ∷ answers)) e) ∙ h))
    where
      running : Running ≡ Act a → ⊥
      running q = absurd cc
  ask_there step step' s t act f g e e' on (answer ∷ answers) a (suc n, h) =
      let further = on answer answers a (n, sym (ap (λ x. asked_behind (asked step n) x (answer ∷ answers)) e) ∙ h) in
      (suc further.0, ap (λ x. asked_behind (asked step' further.0) x (answer ∷ answers)) e' ∙ further.1)

  pub alike_ask : (s : S) (t : T) (act : Action) (f : ℕ → S) (g : ℕ → T) → step s ≡ Ask act f → step' t ≡ Ask act g
      → ((answer : ℕ) → IsAlike step step' (f answer) (g answer)) → IsAlike step step' s t
  alike_ask s t act f g e e' h = record {
    there = ask_there step step' s t act f g e e' (λ answer. (h answer).there);
    back = ask_there step' step t s act g f e' e (λ answer. (h answer).back);
  }

  stop_same : {S T : Type 0} (f : S → List ℕ → Asked) (g : T → List ℕ → Asked) (act : Action) (answers : List ℕ) → asked_behind g (Stop act) answers ≡ asked_behind f (Stop act) answers
  stop_same f g act [] = refl
  stop_same f g act (answer ∷ answers) = refl

  stop_there : {S T : Type 0} (step : S → Step S) (step' : T → Step T) (s : S) (t : T) (act : Action) → step s ≡ Stop act → step' t ≡ Stop act
      → (answers : List ℕ) (a : Action) → Asks step s answers a → Asks step' t answers a
  stop_there step step' s t act e e' answers a (zero, h) = (zero, ap (λ x. asked_at_once x answers) e' ∙ at_once answers ∙ sym (ap (λ x. asked_at_once x answers) e) ∙ h)
    where
      at_once : (answers : List ℕ) → asked_at_once {S = T} (Stop act) answers ≡ asked_at_once {S = S} (Stop act) answers
      at_once [] = refl
      at_once (answer ∷ answers) = refl
  stop_there step step' s t act e e' answers a (suc n, h) =
      (suc n, ap (λ x. asked_behind (asked step' n) x answers) e' ∙ stop_same (asked step n) (asked step' n) act answers ∙ sym (ap (λ x. asked_behind (asked step n) x answers) e) ∙ h)

  -- both stop for the same
  pub alike_stop : (s : S) (t : T) (act : Action) → step s ≡ Stop act → step' t ≡ Stop act → IsAlike step step' s t
  alike_stop s t act e e' = record {
    there = stop_there step step' s t act e e';
    back = stop_there step' step t s act e' e;
  }
