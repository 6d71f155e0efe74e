-- When a translated program goes along with its source, and asks for the same: a relation between the states of two machines, by how
-- many steps are looked at.
use Rattle.std.specs.Prelude.{◌≡◌, ℕ, suc, ◌≤◌}
use Rattle.item_acts.specs.declared.acts.Action.{Action}
use Rattle.item_acts.specs.Machine.{Step, Go, Ask, Stop}

-- The first machine makes an inner step, or the second one at no cost, or both, and they go on so; or both ask for the same action and go on
-- so behind each answer; or both stop with the same. Behind steps of both one step less may be looked at; nothing is said where none is.
pub data GoAlong {S T : Type 0} (first : S → Step S) (second : T → Step T) (cost : S → ℕ) (cost' : T → ℕ) : ℕ → S → T → Type 0 where
  Unseen : (s : S) (t : T) → GoAlong first second cost cost' 0 s t
  FirstGoes : (n : ℕ) (s s' : S) (t : T) → first s ≡ Go s' → GoAlong first second cost cost' n s' t → GoAlong first second cost cost' n s t
  SecondGoes : (n : ℕ) (s : S) (t t' : T) → second t ≡ Go t' → cost' t ≡ 0 → GoAlong first second cost cost' n s t' → GoAlong first second cost cost' n s t
  BothGo : (n : ℕ) (s s' : S) (t t' : T) → first s ≡ Go s' → second t ≡ Go t' → cost' t ≤ cost s → GoAlong first second cost cost' n s' t'
      → GoAlong first second cost cost' n s t
  BothTurn : (n : ℕ) (s s' : S) (t t' : T) → first s ≡ Go s' → second t ≡ Go t' → cost' t ≤ cost s → GoAlong first second cost cost' n s' t'
      → GoAlong first second cost cost' (suc n) s t
  BothAsk : (n : ℕ) (s : S) (t : T) (a : Action) (behind : ℕ → S) (behind' : ℕ → T) → first s ≡ Ask a behind → second t ≡ Ask a behind' → cost' t ≤ cost s
      → ((answer : ℕ) → GoAlong first second cost cost' n (behind answer) (behind' answer)) → GoAlong first second cost cost' n s t
  BothStop : (n : ℕ) (s : S) (t : T) (a : Action) → first s ≡ Stop a → second t ≡ Stop a → GoAlong first second cost cost' n s t
