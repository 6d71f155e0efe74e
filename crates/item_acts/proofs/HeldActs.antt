-- Each action on the lists that a world holds leads where the definition of a turn leads.
use Rattle.std.proofs.Common.{◌≡◌, ℕ, ◌+◌, ◌/◌, ◌<◌, ◌≤◌, Bool, true, false, cond, nat_eq, List, [], ◌∷◌, ◌++◌, length, map, get_or, set, refl, ap, sym, ◌∙◌, inl, inr, arith, length-append}
use Rattle.std.proofs.Math.Path.{fun_ext}
use Rattle.std.proofs.Math.Seq.{map-set_same}
use Rattle.std.proofs.Math.ListN.{length-set}
use Rattle.std.proofs.lemmas.Bool.{cases_eq}
use Rattle.std.proofs.lemmas.List.{get_or-set_same, get_or-set_other, map-append, append-nil}
use Rattle.vx_base.specs.Bytes.{bytes_of, with_field}
use Rattle.vx_base.specs.declared.types.Pos.{Pos}
use Rattle.vx_base.specs.declared.types.Size.{Size}
use Rattle.vx_base.proofs.FieldLaws.{length-with_field}
use Rattle.item_acts.specs.declared.acts.Place.{Place}
use Rattle.item_acts.specs.declared.acts.Place.TheVariants.{Global, Local}
use Rattle.item_acts.specs.declared.acts.Action.TheVariants.{Load, Store, Fault, End}
use Rattle.item_acts.specs.declared.acts.Asked.{Asked}
use Rattle.item_acts.specs.declared.races.LogEntry.{LogEntry}
use Rattle.item_acts.specs.declared.held.Held.{Held}
use Rattle.item_acts.specs.declared.held.Progress.{Progress}
use Rattle.item_acts.specs.declared.held.Progress.TheVariants.{Going as GoesOn, Ended as HasEnded, Faulted as HasFaulted}
use Rattle.item_acts.specs.Launches.{Standing, Going, field_at, put_at, IsInside}
use Rattle.item_acts.specs.Worlds.{access_from, standing_of, array_in, group_in, bytes_held, launch_of, shape_of, IsHeld, entry_of, logged, answered, stood, stored, ActsAs}
use Rattle.item_acts.proofs.Swaps.{same_state}
use Rattle.item_acts.proofs.RaceTests.{bytes_of-pos}
use Rattle.item_acts.proofs.HeldLaws.{size_at, bytes_same, set_put, put_own, bytes_stored}

-- what is inside does not turn on what items ask for
inside_any : (asks : ℕ → List ℕ → ℕ → Asked) (h : Held) (p : Place) (n : ℕ) → IsInside (shape_of h) p n → IsInside (launch_of asks h) p n
inside_any asks h (Global b x) n inside = inside
inside_any asks h (Local g a x) n inside = inside

-- one more answer, as a family
answers_put : (h : Held) (item v : ℕ) → item < length h.answers
    → (λ (k : ℕ). get_or (set h.answers item (get_or h.answers item [] ++ v ∷ [])) k []) ≡ put_at item (get_or h.answers item [] ++ v ∷ []) (λ k. get_or h.answers k [])
answers_put h item v within = set_put h.answers item (get_or h.answers item [] ++ v ∷ []) [] within

-- an item that goes on and still goes on
going_put : (h : Held) (item : ℕ) → get_or h.progress item GoesOn ≡ GoesOn
    → (λ (k : ℕ). standing_of (get_or h.progress k GoesOn)) ≡ put_at item Going (λ k. standing_of (get_or h.progress k GoesOn))
going_put h item going = put_own item Going (λ k. standing_of (get_or h.progress k GoesOn)) (ap standing_of going)

-- a load
pub loaded : (h : Held) → IsHeld h → (item : ℕ) → item < h.items → get_or h.progress item GoesOn ≡ GoesOn → (p : Place) (size : Size) (v : ℕ)
    → IsInside (shape_of h) p (bytes_of size) → v ≡ field_at (bytes_held h) p (bytes_of size)
    → (asks : ℕ → List ℕ → ℕ → Asked) → ActsAs (launch_of asks h) h (answered (logged h (entry_of h item p size false)) item v) item (Load p size)
loaded h held item exists going p size v inside e asks = record {
  turn = inside_any asks h p (bytes_of size) inside;
  state = same_state
      (bytes_same h (answered (logged h (entry_of h item p size false)) item v) refl refl)
      (answers_put h item v (let answers = held.answers in omega arith) ∙ ap (λ x. put_at item (get_or h.answers item [] ++ x ∷ []) (λ k. get_or h.answers k [])) e)
      (going_put h item going)
      refl;
  log = map-append access_from h.log (entry_of h item p size false ∷ []);
}

-- a store
pub put_there : (h : Held) → IsHeld h → (item : ℕ) → item < h.items → get_or h.progress item GoesOn ≡ GoesOn → (p : Place) (size : Size) (v : ℕ)
    → IsInside (shape_of h) p (bytes_of size)
    → (asks : ℕ → List ℕ → ℕ → Asked) → ActsAs (launch_of asks h) h (stored (answered (logged h (entry_of h item p size true)) item 0) p (bytes_of size) v) item (Store p size v)
put_there h held item exists going p size v inside asks = record {
  turn = inside_any asks h p (bytes_of size) inside;
  state = same_state
      (bytes_same (stored h p (bytes_of size) v) (stored (answered (logged h (entry_of h item p size true)) item 0) p (bytes_of size) v) refl refl
      ∙ bytes_stored h held p (bytes_of size) v (bytes_of-pos size) inside)
      (answers_put h item 0 (let answers = held.answers in omega arith))
      (going_put h item going)
      refl;
  log = map-append access_from h.log (entry_of h item p size true ∷ []);
}

-- an item that tells nothing more keeps its answers
answers_own : (h : Held) (item : ℕ) → (λ (k : ℕ). get_or h.answers k []) ≡ put_at item (get_or h.answers item [] ++ []) (λ k. get_or h.answers k [])
answers_own h item = put_own item (get_or h.answers item [] ++ []) (λ k. get_or h.answers k []) (sym (append-nil (get_or h.answers item [])))

-- an item that stands otherwise, as a family
stood_put : (h : Held) (item : ℕ) (p : Progress) → item < length h.progress
    → (λ (k : ℕ). standing_of (get_or (set h.progress item p) k GoesOn)) ≡ put_at item (standing_of p) (λ k. standing_of (get_or h.progress k GoesOn))
stood_put h item p within =
    ap {B = ℕ → Standing} (λ (f : ℕ → Progress). λ (k : ℕ). standing_of (f k)) (set_put h.progress item p GoesOn within)
    ∙ fun_ext (λ k. cond_moves (nat_eq k item) p (get_or h.progress k GoesOn))
  where
    cond_moves : (b : Bool) (p q : Progress) → standing_of (cond b p q) ≡ cond b (standing_of p) (standing_of q)
    cond_moves true p q = refl
    cond_moves false p q = refl

-- a fault
pub faulted : (h : Held) → IsHeld h → (item : ℕ) → item < h.items → (pos : Pos)
    → (asks : ℕ → List ℕ → ℕ → Asked) → ActsAs (launch_of asks h) h (stood h item (HasFaulted pos)) item (Fault pos)
faulted h held item exists pos asks = record {
  turn = tt;
  state = same_state (bytes_same h (stood h item (HasFaulted pos)) refl refl) (answers_own h item) (stood_put h item (HasFaulted pos) (let progress = held.progress in omega arith)) refl;
  log = sym (append-nil (map access_from h.log));
}

-- an end
pub ended : (h : Held) → IsHeld h → (item : ℕ) → item < h.items
    → (asks : ℕ → List ℕ → ℕ → Asked) → ActsAs (launch_of asks h) h (stood h item HasEnded) item End
ended h held item exists asks = record {
  turn = tt;
  state = same_state (bytes_same h (stood h item HasEnded) refl refl) (answers_own h item) (stood_put h item HasEnded (let progress = held.progress in omega arith)) refl;
  log = sym (append-nil (map access_from h.log));
}

-- the lists still fit with one more entry
pub held_logged : (h : Held) (e : LogEntry) → IsHeld h → IsHeld (logged h e)
held_logged h e held = record {
  positive = held.positive;
  whole = held.whole;
  answers = held.answers;
  progress = held.progress;
  epochs = held.epochs;
  groups = held.groups;
  arrays = held.arrays;
  passed = held.passed;
}

-- with an item that stands otherwise
pub held_stood : (h : Held) (item : ℕ) (p : Progress) → IsHeld h → IsHeld (stood h item p)
held_stood h item p held = record {
  positive = held.positive;
  whole = held.whole;
  answers = held.answers;
  progress = length-set h.progress item p ∙ held.progress;
  epochs = held.epochs;
  groups = held.groups;
  arrays = held.arrays;
  passed = held.passed;
}

-- an item's answers grow by the one
grown : (h : Held) (item v k : ℕ) → item < length h.answers → length (get_or h.answers k []) ≤ length (get_or (set h.answers item (get_or h.answers item [] ++ v ∷ [])) k [])
grown h item v k within =
    elim (cases_eq k item) [
      | inl e ↦
          let here : get_or (set h.answers item (get_or h.answers item [] ++ v ∷ [])) k [] ≡ get_or h.answers item [] ++ v ∷ [] =
          ap (λ (j : ℕ). get_or (set h.answers item (get_or h.answers item [] ++ v ∷ [])) j []) e ∙ get_or-set_same h.answers item _ [] within in
          let old = ap (λ (j : ℕ). length (get_or h.answers j [])) e in
          omega (arith, ap length here, length-append (get_or h.answers item []) (v ∷ []))
      | inr differ ↦
          let here = ap length (get_or-set_other h.answers item k (get_or h.answers item [] ++ v ∷ []) [] differ) in
          omega arith
    ]

-- with one more answer of an item
pub held_answered : (h : Held) (item v : ℕ) → item < h.items → IsHeld h → IsHeld (answered h item v)
held_answered h item v exists held = record {
  positive = held.positive;
  whole = held.whole;
  answers = length-set h.answers item (get_or h.answers item [] ++ v ∷ []) ∙ held.answers;
  progress = held.progress;
  epochs = held.epochs;
  groups = held.groups;
  arrays = held.arrays;
  passed = λ k below. let few = held.passed k below in let answers = held.answers in let more = grown h item v k (omega arith) in omega arith;
}

-- the sizes of some arrays do not change where a field is written
pub sizes_kept : (arrays : List (List ℕ)) (b x n v : ℕ) → x + n ≤ length (array_in arrays b) → map length (set arrays b (with_field (array_in arrays b) x n v)) ≡ map length arrays
sizes_kept arrays b x n v fits = map-set_same length arrays b (with_field (array_in arrays b) x n v) [] (length-with_field (array_in arrays b) x n v fits)

-- and with a number in a field
pub held_stored : (h : Held) (p : Place) (n v : ℕ) → IsInside (shape_of h) p n → IsHeld h → IsHeld (stored h p n v)
held_stored h (Global b x) n v inside held = record {
  positive = held.positive;
  whole = held.whole;
  answers = held.answers;
  progress = held.progress;
  epochs = held.epochs;
  groups = held.groups;
  arrays = held.arrays;
  passed = held.passed;
}
held_stored h (Local g a x) n v inside held = record {
  positive = held.positive;
  whole = held.whole;
  answers = held.answers;
  progress = held.progress;
  epochs = held.epochs;
  groups = length-set h.arrays g _ ∙ held.groups;
  arrays = λ k below. group_sizes h held g a x n v inside k below;
  passed = held.passed;
}
  where
    group_sizes : (h : Held) → IsHeld h → (g a x n v : ℕ) → IsInside (shape_of h) (Local g a x) n → (k : ℕ) → k < h.items / h.local
        → map length (group_in (set h.arrays g (set (group_in h.arrays g) a (with_field (array_in (group_in h.arrays g) a) x n v))) k) ≡ h.sizes
    group_sizes h held g a x n v inside k below =
        elim (cases_eq k g) [
          | inl e ↦
              let groups = held.groups in
              let within : g < length h.arrays = omega arith in
              let size = size_at (group_in h.arrays g) a in
              let sizes = ap (λ (xs : List ℕ). get_or xs a 0) (held.arrays g (omega arith)) in
              let here : group_in (set h.arrays g (set (group_in h.arrays g) a (with_field (array_in (group_in h.arrays g) a) x n v))) k ≡ set (group_in h.arrays g) a (with_field (array_in (group_in h.arrays g) a) x n v) =
              ap (λ (j : ℕ). group_in (set h.arrays g (set (group_in h.arrays g) a (with_field (array_in (group_in h.arrays g) a) x n v))) j) e ∙ get_or-set_same h.arrays g _ [] within in
              ap (map length) here ∙ sizes_kept (group_in h.arrays g) a x n v (omega (arith, inside.1)) ∙ held.arrays g (omega arith)
          | inr differ ↦ ap (map length) (get_or-set_other h.arrays g k _ [] differ) ∙ held.arrays k below
        ]

-- the launch stays the same where a field is written
pub launch_stored : (h : Held) (p : Place) (n v : ℕ) → IsInside (shape_of h) p n → (asks : ℕ → List ℕ → ℕ → Asked) → launch_of asks (stored h p n v) ≡ launch_of asks h
launch_stored h (Global b x) n v inside asks =
    let e = sizes_kept h.buffers b x n v (let size = size_at h.buffers b in omega arith) in
    λ i. record { items = h.items; local = h.local; asks = asks; buffers = e i; locals = h.sizes }
launch_stored h (Local g a x) n v inside asks = refl
