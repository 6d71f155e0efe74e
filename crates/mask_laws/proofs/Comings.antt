-- What a machine asks for once it has come to a state, it asks for from the start after the answers that it took on the way.
use Rattle.std.proofs.Common.{◌≡◌, ℕ, zero, suc, List, ◌∷◌, ◌++◌, ap, sym, ◌∙◌}
use Rattle.item_acts.specs.declared.acts.Action.{Action}
use Rattle.item_acts.specs.declared.acts.Asked.TheVariants.{Act, Running}
use Rattle.item_acts.specs.Machine.{Step, Go, Ask, asked, asked_at_once, asked_behind, Asks}
use Rattle.warp_code.specs.Runs.{Comes, Stays, Goes, Takes}

module _ {S : Type 0} (step : S → Step S) where
  -- one step in front
  behind_go : (s s' : S) (answers : List ℕ) (x : Action) → step s ≡ Go s' → Asks step s' answers x → Asks step s answers x
  behind_go s s' answers x goes asks = (suc asks.0, ap (λ st. asked_behind (asked step asks.0) st answers) goes ∙ asks.1)

  behind_ask : (s : S) (a : Action) (next : ℕ → S) (answer : ℕ) (answers : List ℕ) (x : Action) → step s ≡ Ask a next → Asks step (next answer) answers x → Asks step s (answer ∷ answers) x
  behind_ask s a next answer answers x takes asks = (suc asks.0, ap (λ st. asked_behind (asked step asks.0) st (answer ∷ answers)) takes ∙ asks.1)

  -- from where it has come, back to the start
  pub asks_from_start : {s t : S} {answers : List ℕ} (later : List ℕ) (x : Action) → Comes step s answers t → Asks step t later x → Asks step s (answers ++ later) x
  asks_from_start later x (Stays s) asks = asks
  asks_from_start later x (Goes s s' t answers goes comes) asks = behind_go s s' (answers ++ later) x goes (asks_from_start later x comes asks)
  asks_from_start later x (Takes s a next answer t rest takes comes) asks = behind_ask s a next answer (rest ++ later) x takes (asks_from_start later x comes asks)

  -- and from the start on to where it has come
  not_running : (x : Action) → Running ≡ Act x → ⊥
  not_running x e = absurd (cc)

  past_go : (s s' : S) (answers : List ℕ) (x : Action) (n : ℕ) → step s ≡ Go s' → asked step n s answers ≡ Act x → Asks step s' answers x
  past_go s s' answers x zero goes e = absurd (not_running x (sym (ap (λ st. asked_at_once st answers) goes) ∙ e))
  past_go s s' answers x (suc n) goes e = (n, sym (ap (λ st. asked_behind (asked step n) st answers) goes) ∙ e)

  past_ask : (s : S) (a : Action) (next : ℕ → S) (answer : ℕ) (answers : List ℕ) (x : Action) (n : ℕ) → step s ≡ Ask a next → asked step n s (answer ∷ answers) ≡ Act x → Asks step (next answer) answers x
  past_ask s a next answer answers x zero takes e = absurd (not_running x (sym (ap (λ st. asked_at_once st (answer ∷ answers)) takes) ∙ e))
  past_ask s a next answer answers x (suc n) takes e = (n, sym (ap (λ st. asked_behind (asked step n) st (answer ∷ answers)) takes) ∙ e)

  pub asks_from_there : {s t : S} {answers : List ℕ} (later : List ℕ) (x : Action) → Comes step s answers t → Asks step s (answers ++ later) x → Asks step t later x
  asks_from_there later x (Stays s) asks = asks
  asks_from_there later x (Goes s s' t answers goes comes) asks = asks_from_there later x comes (past_go s s' (answers ++ later) x asks.0 goes asks.1)
  asks_from_there later x (Takes s a next answer t rest takes comes) asks = asks_from_there later x comes (past_ask s a next answer (rest ++ later) x asks.0 takes asks.1)
