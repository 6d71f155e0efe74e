-- A machine whose barriers are bare asks for what words hold of what the machine itself asks for.
use Rattle.std.proofs.Common.{◌≡◌, ℕ, zero, suc, List, [], ◌∷◌, ap, sym, ◌∙◌, refl}
use Rattle.item_acts.specs.declared.acts.Action.{Action}
use Rattle.item_acts.specs.declared.acts.Asked.{Asked}
use Rattle.item_acts.specs.declared.acts.Asked.TheVariants.{Act, Running}
use Rattle.item_acts.specs.Machine.{Step, Go, Ask, Stop, asked_at_once, asked_behind, asked}
use Rattle.step_machine.specs.Alike.{AskAlike}
use Rattle.reg_alloc.specs.Keeping.{AsksBare, bare}

abbrev pub bared : {S : Type 0} → Step S → Step S
bared (Go s) = Go s
bared (Ask a next) = Ask (bare a) next
bared (Stop a) = Stop (bare a)

abbrev bare_asked : Asked → Asked
bare_asked Running = Running
bare_asked (Act a) = Act (bare a)

at_once : {S : Type 0} (x : Step S) (answers : List ℕ) → asked_at_once (bared x) answers ≡ bare_asked (asked_at_once x answers)
at_once (Go s) answers = refl
at_once (Ask a next) [] = refl
at_once (Ask a next) (answer ∷ answers) = refl
at_once (Stop a) [] = refl
at_once (Stop a) (answer ∷ answers) = refl

behind : {S : Type 0} (f g : S → List ℕ → Asked) (x : Step S) (answers : List ℕ) → ((s : S) (more : List ℕ) → g s more ≡ bare_asked (f s more))
    → asked_behind g (bared x) answers ≡ bare_asked (asked_behind f x answers)
behind f g (Go s) answers same = same s answers
behind f g (Ask a next) [] same = refl
behind f g (Ask a next) (answer ∷ answers) same = same (next answer) answers
behind f g (Stop a) [] same = refl
behind f g (Stop a) (answer ∷ answers) same = refl

asked_bare : {S : Type 0} (f : S → Step S) (n : ℕ) (s : S) (answers : List ℕ) → asked (λ (x : S). bared (f x)) n s answers ≡ bare_asked (asked f n s answers)
asked_bare f zero s answers = at_once (f s) answers
asked_bare {S} f (suc n) s answers = behind (asked f n) (asked (λ (x : S). bared (f x)) n) (f s) answers (λ x more. asked_bare f n x more)

was_bare : (x : Asked) (a : Action) → bare_asked x ≡ Act a → (b : Action) × ((x ≡ Act b) × (bare b ≡ a))
was_bare Running a e = absurd (cc)
was_bare (Act b) a e = let same : bare b ≡ a = cc in (b, (refl, same))

pub alike_bare : {S T : Type 0} (f : S → Step S) (g : T → Step T) (s : S) (t : T) → AskAlike (λ (x : S). bared (f x)) g (λ (x : S). 0) (λ (x : T). 0) s t → AsksBare f g s t
alike_bare f g s t alike = record {
  kept = λ answers a asks.
      let there = alike.kept asks.0 answers (bare a) (asked_bare f asks.0 s answers ∙ ap bare_asked asks.1) in
      (there.steps, there.asks);
  no_more = λ answers a asks.
      let there = alike.no_more answers a asks in
      let was = was_bare (asked f there.0 s answers) a (sym (asked_bare f there.0 s answers) ∙ there.1) in
      (was.0, ((there.0, was.1.0), was.1.1));
}
