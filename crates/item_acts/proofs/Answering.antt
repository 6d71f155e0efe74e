-- Answering some items once more, one after the other, and taking it back.
use Rattle.std.proofs.Common.{◌≡◌, ◌≢◌, ℕ, suc, ◌+◌, ◌*◌, ◌/◌, ◌%◌, ◌<◌, ◌≤◌, ◌⊎◌, cond, List, [], ◌∷◌, ◌++◌, length, get_or, set, refl, ap, sym, ◌∙◌, inl, inr, arith, eq-eqb, ne_eqb, lt-ltb, length-append}
use Rattle.std.proofs.Math.Path.{fun_ext}
use Rattle.std.proofs.Math.Nat.{mul-le-mul_left, div-eq_of_lt-le, mul-div_left}
use Rattle.std.proofs.Math.ListN.{length-set}
use Rattle.std.proofs.lemmas.Bool.{cases_eq, cases_lt, and_from, and_right, cond-true, cond-false}
use Rattle.std.proofs.lemmas.List.{get_or-set_same, get_or-set_other, ext_get_or}
use Rattle.item_acts.specs.declared.acts.Asked.{Asked}
use Rattle.item_acts.specs.declared.acts.Point.{Point}
use Rattle.item_acts.specs.declared.held.Held.{Held}
use Rattle.item_acts.specs.Launches.{is_in_group, put_at, after, Passes}
use Rattle.item_acts.specs.Worlds.{HaveAnswered, IsHeld, launch_of, state_of}
use Rattle.item_acts.proofs.Swaps.{same_state}
use Rattle.item_acts.proofs.HeldLaws.{bytes_same, set_put}

-- at first none is answered
pub answered_none : (first : ℕ) (old : List (List ℕ)) → HaveAnswered first 0 old old
answered_none first old = record {
  same_length = refl;
  inside = λ item from below. absurd (omega arith);
  outside = λ item out. refl;
}

-- one more item is answered
pub answered_more : (first k k' : ℕ) (old now : List (List ℕ)) → HaveAnswered first k old now → first + k < length old → k' ≡ k + 1
    → HaveAnswered first k' old (set now (first + k) (get_or now (first + k) [] ++ 0 ∷ []))
answered_more first k k' old now done within e =
    let same = done.same_length in
    record {
      same_length = length-set now (first + k) (get_or now (first + k) [] ++ 0 ∷ []) ∙ done.same_length;
      inside = λ item from below.
          elim (cases_eq item (first + k)) [
            | inl here ↦
                ap (λ (j : ℕ). get_or (set now (first + k) (get_or now (first + k) [] ++ 0 ∷ [])) j []) here
                ∙ get_or-set_same now (first + k) (get_or now (first + k) [] ++ 0 ∷ []) [] (omega arith)
                ∙ ap (λ (l : List ℕ). l ++ 0 ∷ []) (done.outside (first + k) (inr (omega arith)))
                ∙ ap (λ (j : ℕ). get_or old j [] ++ 0 ∷ []) (sym here)
            | inr differ ↦
                get_or-set_other now (first + k) item (get_or now (first + k) [] ++ 0 ∷ []) [] differ ∙ done.inside item from (omega arith)
          ];
      outside = λ item out.
          let differ : item ≢ first + k = elim out [ inl before ↦ λ same. omega arith | inr behind ↦ λ same. omega arith ] in
          let out' : (item < first) ⊎ (first + k ≤ item) = elim out [ inl before ↦ inl before | inr behind ↦ inr (omega arith) ] in
          get_or-set_other now (first + k) item (get_or now (first + k) [] ++ 0 ∷ []) [] differ ∙ done.outside item out';
    }

-- the first answer is taken back
pub answered_less : (first k k' first' : ℕ) (old now : List (List ℕ)) → HaveAnswered first k old now → first < length now → k ≡ suc k' → first' ≡ suc first
    → HaveAnswered first' k' old (set now first (get_or old first []))
answered_less first k k' first' old now done within e e' = record {
  same_length = length-set now first (get_or old first []) ∙ done.same_length;
  inside = λ item from below.
      let differ : item ≢ first = λ same. omega arith in
      get_or-set_other now first item (get_or old first []) [] differ ∙ done.inside item (omega arith) (omega arith);
  outside = λ item out.
      elim (cases_eq item first) [
        | inl here ↦
            ap (λ (j : ℕ). get_or (set now first (get_or old first [])) j []) here
            ∙ get_or-set_same now first (get_or old first []) [] within
            ∙ ap (λ (j : ℕ). get_or old j []) (sym here)
        | inr differ ↦
            let out' : (item < first) ⊎ (first + k ≤ item) = elim out [ inl before ↦ inl (omega arith) | inr behind ↦ inr (omega arith) ] in
            get_or-set_other now first item (get_or old first []) [] differ ∙ done.outside item out'
      ];
}

-- where no item is answered all is as it was
pub answered_all_back : (first k : ℕ) (old now : List (List ℕ)) → HaveAnswered first k old now → k ≡ 0 → now ≡ old
answered_all_back first k old now done e =
    ext_get_or [] now old done.same_length
    (λ i within. done.outside i (elim (cases_lt i first) [ inl before ↦ inl before | inr behind ↦ inr (omega arith) ]))

-- a whole group that begins before the end lies before it
pub group_within : (items local g : ℕ) → 0 < local → items % local ≡ 0 → g * local < items → g * local + local ≤ items
group_within items local g positive whole begins =
    elim (cases_lt g (items / local)) [
      | inl below ↦ let more = mul-le-mul_left local below in omega arith
      | inr behind ↦ let more = mul-le-mul_left local behind in absurd (omega arith)
    ]

-- a group that begins before the end is one of the groups
pub group_exists : (items local g : ℕ) → 0 < local → items % local ≡ 0 → g * local < items → g < items / local
group_exists items local g positive whole begins =
    elim (cases_lt g (items / local)) [
      | inl below ↦ below
      | inr behind ↦ let more = mul-le-mul_left local behind in absurd (omega arith)
    ]

-- the group of an item, by where it lies
pub in_group_by : (local g i : ℕ) → 0 < local → g * local ≤ i → i < g * local + local → i / local ≡ g
in_group_by local g i positive from below = div-eq_of_lt-le local from (omega arith)

-- an item of a group lies in it
pub lies_in_group : (local g i : ℕ) → 0 < local → i / local ≡ g → (g * local ≤ i) × (i < g * local + local)
lies_in_group local g i positive e = let f = ap (λ (q : ℕ). q * local) e in (omega arith, omega arith)

-- an item of another group lies outside
out_of_group : (local g i : ℕ) → 0 < local → (i / local ≡ g → ⊥) → (i < g * local) ⊎ (g * local + local ≤ i)
out_of_group local g i positive differ =
    elim (cases_lt i (g * local)) [
      | inl before ↦ inl before
      | inr from ↦
          elim (cases_lt i (g * local + local)) [
            | inl below ↦ absurd (differ (in_group_by local g i positive from below))
            | inr behind ↦ inr behind
          ]
    ]

-- the answers behind a pass
passed_answers : (h : Held) → IsHeld h → (asks : ℕ → List ℕ → ℕ → Asked) (g : ℕ) (now : List (List ℕ)) → g * h.local < h.items
    → HaveAnswered (g * h.local) h.local h.answers now → (k : ℕ)
    → get_or now k [] ≡ cond (is_in_group (launch_of asks h) g k) (get_or h.answers k [] ++ 0 ∷ []) (get_or h.answers k [])
passed_answers h held asks g now begins done k =
    let within = group_within h.items h.local g held.positive held.whole begins in
    elim (cases_eq (k / h.local) g) [
      | inl e ↦
          let lies = lies_in_group h.local g k held.positive e in
          done.inside k lies.0 lies.1
          ∙ sym (cond-true _ _ _ (and_from _ _ (lt-ltb k h.items (omega (arith, lies.1))) (eq-eqb (k / h.local) g e)))
      | inr differ ↦
          done.outside k (out_of_group h.local g k held.positive differ) ∙ sym (cond-false _ _ _ (and_right _ _ (ne_eqb (k / h.local) g differ)))
    ]

-- the lists behind a pass
abbrev pub passed : Held → ℕ → List (List ℕ) → Held
passed h g now = record h { answers = now; epochs = set h.epochs g (get_or h.epochs g 0 + 1) }

-- they stand for the state behind it
pub passed_state : (h : Held) → IsHeld h → (g : ℕ) (now : List (List ℕ)) → g * h.local < h.items → HaveAnswered (g * h.local) h.local h.answers now
    → (asks : ℕ → List ℕ → ℕ → Asked) (point : Point) → state_of (passed h g now) ≡ after (launch_of asks h) (state_of h) (Passes g point)
passed_state h held g now begins done asks point =
    let epochs = held.epochs in
    let e : get_or h.epochs g 0 + 1 ≡ suc (get_or h.epochs g 0) = omega arith in
    same_state
    (bytes_same h (passed h g now) refl refl)
    (fun_ext (passed_answers h held asks g now begins done))
    refl
    (set_put h.epochs g (get_or h.epochs g 0 + 1) 0 (let below = group_exists h.items h.local g held.positive held.whole begins in omega arith)
    ∙ ap (λ (v : ℕ). put_at g v (λ k. get_or h.epochs k 0)) e)

-- and fit
pub passed_held : (h : Held) → IsHeld h → (g : ℕ) (now : List (List ℕ)) → g * h.local < h.items → HaveAnswered (g * h.local) h.local h.answers now → IsHeld (passed h g now)
passed_held h held g now begins done = record {
  positive = held.positive;
  whole = held.whole;
  answers = done.same_length ∙ held.answers;
  progress = held.progress;
  epochs = length-set h.epochs g (get_or h.epochs g 0 + 1) ∙ held.epochs;
  groups = held.groups;
  arrays = held.arrays;
  passed = λ item below. passed_more h held g now begins done item below;
}
  where
    passed_more : (h : Held) → IsHeld h → (g : ℕ) (now : List (List ℕ)) → g * h.local < h.items → HaveAnswered (g * h.local) h.local h.answers now → (item : ℕ) → item < h.items
        → get_or (set h.epochs g (get_or h.epochs g 0 + 1)) (item / h.local) 0 ≤ length (get_or now item [])
    passed_more h held g now begins done item below =
        elim (cases_eq (item / h.local) g) [
          | inl e ↦
              let lies = lies_in_group h.local g item held.positive e in
              let answers = ap length (done.inside item lies.0 lies.1) in
              let few = held.passed item below in
              let old = ap (λ (j : ℕ). get_or h.epochs j 0) e in
              let there : get_or (set h.epochs g (get_or h.epochs g 0 + 1)) (item / h.local) 0 ≡ get_or h.epochs g 0 + 1 =
              ap (λ (j : ℕ). get_or (set h.epochs g (get_or h.epochs g 0 + 1)) j 0) e ∙ get_or-set_same h.epochs g (get_or h.epochs g 0 + 1) 0 (let epochs = held.epochs in let below' = group_exists h.items h.local g held.positive held.whole begins in omega arith) in
              omega (arith, length-append (get_or h.answers item []) (0 ∷ []))
          | inr differ ↦
              let there = get_or-set_other h.epochs g (item / h.local) (get_or h.epochs g 0 + 1) 0 differ in
              let few = held.passed item below in
              let answers = ap length (done.outside item (out_of_group h.local g item held.positive differ)) in
              omega arith
        ]

-- a group whose items have one more answer may have passed one more barrier
pub epoch_room : (h : Held) → IsHeld h → (g : ℕ) (now : List (List ℕ)) → g * h.local < h.items → HaveAnswered (g * h.local) h.local h.answers now
    → get_or h.epochs g 0 < length (get_or now (g * h.local) [])
epoch_room h held g now begins done =
    let positive = held.positive in
    let few = held.passed (g * h.local) begins in
    let own : g * h.local / h.local ≡ g = mul-div_left g positive in
    let epoch = ap (λ (j : ℕ). get_or h.epochs j 0) own in
    let answers = ap length (done.inside (g * h.local) (omega arith) (omega arith)) in
    omega (arith, length-append (get_or h.answers (g * h.local) []) (0 ∷ []))
