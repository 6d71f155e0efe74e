-- What a core has seen of its own items and of the bytes that no other core stores is what all cores together have made of
-- them.
use Rattle.std.proofs.Common.{◌≡◌, ◌≢◌, ℕ, ◌-◌, true, false, cond, nat_eq, List, [], ◌∷◌, ◌++◌, refl, ap, sym, ◌∙◌, subst, inl, inr}
use Rattle.std.proofs.lemmas.Bool.{cases_eq, cond-false, false_from_ne_true}
use Rattle.vx_base.specs.Bytes.{bytes_of, byte_of}
use Rattle.item_acts.specs.declared.acts.Place.{Place}
use Rattle.item_acts.specs.Launches.{Launch, group_of, State, covers, byte_at, standing_after}
use Rattle.item_acts.proofs.Launches.{put_at_other}
use Rattle.launch_order.specs.Events.{Loaded, Stored, Finished, action_of, answers_of, Happening, Did, Released, Event, happened, led, stores}
use Rattle.launch_order.specs.Cores.{StoresFrom}
use Rattle.launch_order.proofs.Merged.{Tagged, project, untagged, Each, project_here, project_past}

-- the events of two lists, one behind the other
pub untagged_append : (xs ys : List Tagged) → untagged (xs ++ ys) ≡ untagged xs ++ untagged ys
untagged_append [] ys = refl
untagged_append (x ∷ xs) ys = ap (λ zs. x.event ∷ zs) (untagged_append xs ys)

-- one more event leads one step further
pub led_append : (s : State) (before : List Event) (behind : List Event) → led s (before ++ behind) ≡ led (led s before) behind
led_append s [] behind = refl
led_append s (e ∷ before) behind = led_append (happened s e.what) before behind

-- what happened changes how the item stands or what it was told
abbrev pub Moves : Happening → ℕ → Type 0
Moves (Did i deed) item = i ≡ item
Moves (Released group stood) item = stood item ≡ true

-- an event changes items of its core's groups alone
abbrev pub IsHome : Launch → (ℕ → ℕ) → Tagged → Type 0
IsHome l core_of x = (item : ℕ) → Moves x.event.what item → core_of (group_of l item) ≡ x.core

-- the item stands alike and was told the same
pub record SameItem (s t : State) (item : ℕ) : Type 0 where
  pub answers : s.answers item ≡ t.answers item
  pub standing : s.standing item ≡ t.standing item

-- it does so behind what happened in both
same_item_both : (s t : State) (h : Happening) (item : ℕ) → SameItem s t item → SameItem (happened s h) (happened t h) item
same_item_both s t (Did i deed) item same = record {
  answers = elim (cases_eq i item) [
    | inl e ↦
        let there : s.answers i ≡ t.answers i = subst (λ k. s.answers k ≡ t.answers k) (sym e) same.answers in
        ap (λ z. cond (nat_eq item i) (z ++ answers_of deed) (s.answers item)) there
        ∙ ap (λ z. cond (nat_eq item i) (t.answers i ++ answers_of deed) z) same.answers
    | inr differ ↦
        put_at_other i _ s.answers item (λ e. differ (sym e)) ∙ same.answers ∙ sym (put_at_other i _ t.answers item (λ e. differ (sym e)))
  ];
  standing = ap (λ z. cond (nat_eq item i) (standing_after (action_of deed)) z) same.standing;
}
same_item_both s t (Released group stood) item same =
    record { answers = ap (λ z. cond (stood item) (z ++ 0 ∷ []) z) same.answers; standing = same.standing }

-- and behind what did not move it
same_item_past : (s : State) (h : Happening) (item : ℕ) → (Moves h item → ⊥) → SameItem s (happened s h) item
same_item_past s (Did i deed) item not = record {
  answers = sym (put_at_other i _ s.answers item (λ e. not (sym e)));
  standing = sym (put_at_other i _ s.standing item (λ e. not (sym e)));
}
same_item_past s (Released group stood) item not =
    record { answers = sym (cond-false (stood item) _ _ (false_from_ne_true (stood item) not)); standing = refl }

same_item_then : (s t u : State) (item : ℕ) → SameItem s t item → SameItem t u item → SameItem s u item
same_item_then s t u item a b = record { answers = a.answers ∙ b.answers; standing = a.standing ∙ b.standing }

-- a core has seen its items as they stand
pub seen_item : (l : Launch) (core_of : ℕ → ℕ) (core item : ℕ) → core_of (group_of l item) ≡ core → (xs : List Tagged) → Each (IsHome l core_of) xs
    → (s t : State) → SameItem s t item → SameItem (led s (project core xs)) (led t (untagged xs)) item
seen_item l core_of core item here [] home s t same = same
seen_item l core_of core item here (x ∷ xs) home s t same =
    elim (cases_eq x.core core) [
      | inl e ↦
          subst (λ events. SameItem (led s events) (led t (untagged (x ∷ xs))) item) (sym (project_here core x xs e))
          (seen_item l core_of core item here xs home.1 (happened s x.event.what) (happened t x.event.what) (same_item_both s t x.event.what item same))
      | inr differ ↦
          let not : Moves x.event.what item → ⊥ = λ m. differ (sym (home.0 item m) ∙ here) in
          subst (λ events. SameItem (led s events) (led t (untagged (x ∷ xs))) item) (sym (project_past core x xs differ))
          (seen_item l core_of core item here xs home.1 s (happened t x.event.what)
          (same_item_then s t (happened t x.event.what) item same (same_item_past t x.event.what item not)))
    ]

-- a byte that is alike in two states is so behind what happened in both
same_byte_both : (s t : State) (h : Happening) (byte : Place) → s.bytes byte ≡ t.bytes byte → (happened s h).bytes byte ≡ (happened t h).bytes byte
same_byte_both s t (Did i (Loaded p size answer)) byte same = same
same_byte_both s t (Did i (Stored p size v)) byte same = ap (λ z. cond (covers p (bytes_of size) byte) (byte_of v (byte_at byte - byte_at p)) z) same
same_byte_both s t (Did i Finished) byte same = same
same_byte_both s t (Released group stood) byte same = same

-- and behind what did not store it
pub same_byte_past : (s : State) (h : Happening) (byte : Place) → stores h byte ≡ false → (happened s h).bytes byte ≡ s.bytes byte
same_byte_past s (Did i (Loaded p size answer)) byte e = refl
same_byte_past s (Did i (Stored p size v)) byte e = cond-false _ _ _ e
same_byte_past s (Did i Finished) byte e = refl
same_byte_past s (Released group stood) byte e = refl

-- a core has seen each byte that no other core has stored as it is
pub seen_byte : (core : ℕ) (byte : Place) (xs : List Tagged) → Each (λ x. x.core ≢ core → stores x.event.what byte ≡ false) xs
    → (s t : State) → s.bytes byte ≡ t.bytes byte → (led s (project core xs)).bytes byte ≡ (led t (untagged xs)).bytes byte
seen_byte core byte [] alone s t same = same
seen_byte core byte (x ∷ xs) alone s t same =
    elim (cases_eq x.core core) [
      | inl e ↦
          subst (λ events. (led s events).bytes byte ≡ (led t (untagged (x ∷ xs))).bytes byte) (sym (project_here core x xs e))
          (seen_byte core byte xs alone.1 (happened s x.event.what) (happened t x.event.what) (same_byte_both s t x.event.what byte same))
      | inr differ ↦
          subst (λ events. (led s events).bytes byte ≡ (led t (untagged (x ∷ xs))).bytes byte) (sym (project_past core x xs differ))
          (seen_byte core byte xs alone.1 s (happened t x.event.what) (same ∙ sym (same_byte_past t x.event.what byte (alone.0 differ))))
    ]

-- which of the events of one core store a byte, by the events of all
pub stores_of_project : (place : ℕ) (byte : Place) (core : ℕ) (xs : List Tagged)
    → Each (λ y. y.core ≡ core → StoresFrom place byte (y.event ∷ [])) xs → StoresFrom place byte (project core xs)
stores_of_project place byte core [] each = tt
stores_of_project place byte core (y ∷ ys) each =
    elim (cases_eq y.core core) [
      | inl e ↦ subst (StoresFrom place byte) (sym (project_here core y ys e)) ((each.0 e).0, stores_of_project place byte core ys each.1)
      | inr differ ↦ subst (StoresFrom place byte) (sym (project_past core y ys differ)) (stores_of_project place byte core ys each.1)
    ]
