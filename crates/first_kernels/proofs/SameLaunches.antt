-- Two launches whose items ask for the same leave the same bytes.
use Rattle.std.proofs.Common.{◌≡◌, ℕ, ◌<◌, List, [], ◌∷◌, refl, sym, ap, subst, ◌∙◌}
use Rattle.item_acts.specs.declared.acts.Action.{Action}
use Rattle.item_acts.specs.declared.acts.Action.TheVariants.{Load, Store, Barrier, Fault, End}
use Rattle.item_acts.specs.declared.acts.Asked.{Asked}
use Rattle.item_acts.specs.declared.acts.Place.{Place}
use Rattle.item_acts.specs.declared.acts.Place.TheVariants.{Global, Local}
use Rattle.item_acts.specs.declared.acts.Point.{Point}
use Rattle.item_acts.specs.Launches.{Launch, ItemAsks, State, Turn, Does, Passes, start, after, IsInside, IsTurn, MayDo, MayPass, May, run}
use Rattle.item_acts.specs.Tame.{IsFirst, RunsFirst, LaunchLeaves}

-- the launch with items that ask so
abbrev pub asking : (ℕ → List ℕ → ℕ → Asked) → Launch → Launch
asking asks l = record { items = l.items; local = l.local; asks = asks; buffers = l.buffers; locals = l.locals }

-- each item of the first launch asks for no more than it does in the second
abbrev pub AsksAsIn : Launch → Launch → Type 0
AsksAsIn l m = (item : ℕ) → item < l.items → (answers : List ℕ) (a : Action) → ItemAsks l item answers a → ItemAsks m item answers a

module _ (asks : ℕ → List ℕ → ℕ → Asked) (l : Launch) where
  inside_same : (place : Place) (n : ℕ) → IsInside l place n ≡ IsInside (asking asks l) place n
  inside_same (Global buffer byte) n = refl
  inside_same (Local group array byte) n = refl

  turn_same : (a : Action) → IsTurn l a ≡ IsTurn (asking asks l) a
  turn_same (Load place size) = inside_same place _
  turn_same (Store place size value) = inside_same place _
  turn_same (Barrier point) = refl
  turn_same (Fault pos) = refl
  turn_same End = refl

  after_same : (s : State) (t : Turn) → after l s t ≡ after (asking asks l) s t
  after_same s (Does item a) = refl
  after_same s (Passes group point) = refl

  run_same : (s : State) (ts : List Turn) → run l s ts ≡ run (asking asks l) s ts
  run_same s [] = refl
  run_same s (t ∷ ts) = run_same (after l s t) ts ∙ ap (λ x. run (asking asks l) x ts) (after_same s t)

  does_there : AsksAsIn l (asking asks l) → (s : State) (item : ℕ) (a : Action) → MayDo l s item a → MayDo (asking asks l) s item a
  does_there there s item a h = record { exists = h.exists; going = h.going; asks = there item h.exists (s.answers item) a h.asks; turn = subst (λ X. X) (turn_same a) h.turn }

  does_back : AsksAsIn (asking asks l) l → (s : State) (item : ℕ) (a : Action) → MayDo (asking asks l) s item a → MayDo l s item a
  does_back back s item a h = record { exists = h.exists; going = h.going; asks = back item h.exists (s.answers item) a h.asks; turn = subst (λ X. X) (sym (turn_same a)) h.turn }

  passes_there : AsksAsIn l (asking asks l) → (s : State) (group : ℕ) (point : Point) → MayPass l s group point → MayPass (asking asks l) s group point
  passes_there there s group point h = record {
    exists = h.exists;
    waits = λ item below of_group. let w = h.waits item below of_group in record { going = w.going; asks = there item below (s.answers item) (Barrier point) w.asks };
  }

  passes_back : AsksAsIn (asking asks l) l → (s : State) (group : ℕ) (point : Point) → MayPass (asking asks l) s group point → MayPass l s group point
  passes_back back s group point h = record {
    exists = h.exists;
    waits = λ item below of_group. let w = h.waits item below of_group in record { going = w.going; asks = back item below (s.answers item) (Barrier point) w.asks };
  }

  module _ (there : AsksAsIn l (asking asks l)) (back : AsksAsIn (asking asks l) l) where
    may_there : (s : State) (t : Turn) → May l s t → May (asking asks l) s t
    may_there s (Does item a) h = does_there there s item a h
    may_there s (Passes group point) h = passes_there there s group point h

    first_there : (s : State) (t : Turn) → IsFirst l s t → IsFirst (asking asks l) s t
    first_there s (Does item a) h = λ item' a' may. h item' a' (does_back back s item' a' may)
    first_there s (Passes group point) h =
        ((λ item' a' may. h.0 item' a' (does_back back s item' a' may)), (λ group' point' may. h.1 group' point' (passes_back back s group' point' may)))

    runs_there : (s : State) (ts : List Turn) → RunsFirst l s ts → RunsFirst (asking asks l) s ts
    runs_there s [] h = tt
    runs_there s (t ∷ ts) h =
        (may_there s t h.0, first_there s t h.1, subst (λ x. RunsFirst (asking asks l) x ts) (after_same s t) (runs_there (after l s t) ts h.2))

    -- and so it leaves the same
    pub leaves_there : (given left : ℕ → ℕ → ℕ) → LaunchLeaves l given left → LaunchLeaves (asking asks l) given left
    leaves_there given left h = record {
      turns = h.turns;
      first = runs_there (start given) h.turns h.first;
      complete = λ item below. ap (λ (x : State). x.standing item) (sym (run_same (start given) h.turns)) ∙ h.complete item below;
      bytes = λ buffer byte. h.bytes buffer byte ∙ ap (λ (x : State). x.bytes (Global buffer byte)) (run_same (start given) h.turns);
    }
