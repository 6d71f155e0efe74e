-- A search for a function that calls itself.
use Rattle.std.proofs.Common.{◌≡◌, refl, sym, ap, ◌∙◌, subst, ℕ, zero, suc, ◌+◌, ◌<◌, ◌≤◌, Bool, true, false, if◌then◌else◌, ◌⊎◌, inl, inr, List, [], ◌∷◌, ◌++◌, length, map, set, slice_get, replicate, Some, option_map, arith}
use Rattle.std.proofs.lemmas.Bool.{false≢true}
use Rattle.std.proofs.lemmas.List.{length-map, length-set}
use Rattle.std.proofs.lemmas.Option.{slice_get-map, slice_get_past, slice_get_within}
use Rattle.std.specs.Option.{unwrap_or}
use Rattle.ocl_program.specs.Nodes.{FunctionNode}
use Rattle.ocl_program.specs.Measures.{callees}
use Rattle.ocl_program.specs.Shapes.{function_node}
use Rattle.ocl_program.specs.declared.functions.TypedFunction.{TypedFunction}
use Rattle.ocl_measures.specs.Recursion.{IsFirstRecursive, IsRecursive, is_recursive}
use Rattle.ocl_measures.specs.Search.{Calls, From, IsReached, IsTaken, Reaches, callees_in, met_at}
use Rattle.ocl_measures.proofs.Beginning.{many_replicated, no_callee, replicated}
use Rattle.ocl_measures.proofs.Reaching.{le_or_lt, never_itself, no_calls, reaches_first, reaches_on, reaches_within}
use Rattle.ocl_measures.proofs.Stacks.{behind, equal_or_not, front, get_else, get_here, only, parted}

-- ---- what is taken from the end

-- that what is left has all that has not been met
pub record IsTaking (met : List Bool) (todo left : List ℕ) : Type 0 where
  pub fewer : (v : ℕ) → From 0 left v → From 0 todo v
  pub others : (v : ℕ) → From 0 todo v → (met_at met v ≡ true) ⊎ From 0 left v

pub none_taken : (met : List Bool) (todo : List ℕ) → IsTaking met todo todo
none_taken met todo = record { fewer = λ v from. from; others = λ v from. inr from }

in_front : (left : List ℕ) (c v : ℕ) → From 0 left v → From 0 (left ++ c ∷ []) v
in_front left c v from = (from.0, from.1, front left (c ∷ []) from.0 v from.2)

front_or_last : (left : List ℕ) (c v : ℕ) → From 0 (left ++ c ∷ []) v → (v ≡ c) ⊎ From 0 left v
front_or_last left c v from = elim (parted left (c ∷ []) from.0 v from.2) [
  | inl here ↦ inr (from.0, from.1, here)
  | inr later ↦ inl (only c (length left) from.0 v later).same
]

taking_more : (met : List Bool) (todo left : List ℕ) (c : ℕ) → IsTaking met todo (left ++ c ∷ []) → met_at met c ≡ true → IsTaking met todo left
taking_more met todo left c t is = record {
  fewer = λ v from. t.fewer v (in_front left c v from);
  others = λ v from. elim (t.others v from) [
    | inl before ↦ inl before
    | inr there ↦ elim (front_or_last left c v there) [
      | inl same ↦ inl (subst (λ x. met_at met x ≡ true) (sym same) is)
      | inr here ↦ inr here
    ]
  ];
}

-- one that has been met
pub one_taken : (met : List Bool) (todo left left' : List ℕ) (c : ℕ) → IsTaking met todo left → left ≡ left' ++ c ∷ [] → met_at met c ≡ true → IsTaking met todo left'
one_taken met todo left left' c t is old = taking_more met todo left' c (subst (λ l. IsTaking met todo l) is t) old

new_one : (met : List Bool) (todo left : List ℕ) (c : ℕ) → IsTaking met todo (left ++ c ∷ []) → met_at met c ≡ false → IsTaken met todo left c
new_one met todo left c t is = record {
  new = is;
  there = t.fewer c (length left, omega arith, behind left (c ∷ []) (length left) 0 c (omega arith) refl);
  fewer = λ v from. t.fewer v (in_front left c v from);
  others = λ v from. elim (t.others v from) [
    | inl before ↦ inl before
    | inr there ↦ inr (front_or_last left c v there)
  ];
}

-- one that has not
pub new_taken : (met : List Bool) (todo left left' : List ℕ) (c : ℕ) → IsTaking met todo left → left ≡ left' ++ c ∷ [] → met_at met c ≡ false → IsTaken met todo left' c
new_taken met todo left left' c t is new = new_one met todo left' c (subst (λ l. IsTaking met todo l) is t) new

-- none is left
pub all_met : (met : List Bool) (todo left : List ℕ) → IsTaking met todo left → length left ≡ 0 → (v : ℕ) → From 0 todo v → met_at met v ≡ true
all_met met todo left t none v from = elim (t.others v from) [
  | inl is ↦ is
  | inr there ↦ let inside = slice_get_within left there.0 v there.2 in absurd (omega arith)
]

-- ---- how many have not been met

abbrev pub unmet : List Bool → ℕ
unmet [] = 0
unmet (m ∷ ms) = (if m then 0 else 1) + unmet ms

pub one_met : (met : List Bool) (k : ℕ) → met_at met k ≡ false → unmet (set met k true) < unmet met
one_met [] k is = absurd (false≢true (sym is))
one_met (m ∷ ms) zero is =
    let was : unmet (m ∷ ms) ≡ 1 + unmet ms = ap (λ b. (if b then 0 else 1) + unmet ms) is in
    let now : unmet (set (m ∷ ms) 0 true) ≡ 0 + unmet ms = refl in
    omega arith
one_met (m ∷ ms) (suc k) is = let less : unmet (set ms k true) < unmet ms = one_met ms k is in omega arith

-- ---- what the search keeps

met_here : (met : List Bool) (k : ℕ) → k < length met → met_at (set met k true) k ≡ true
met_here met k below = ap (λ found. unwrap_or found true) (get_here met k true below)

met_else : (met : List Bool) (k j : ℕ) → (j ≡ k → ⊥) → met_at (set met k true) j ≡ met_at met j
met_else met k j other = ap (λ found. unwrap_or found true) (get_else met k j true other)

-- one that has not been met is there
pub met_within : (met : List Bool) (k : ℕ) → met_at met k ≡ false → k < length met
met_within met k is = elim (le_or_lt (length met) k) [
  | inl past ↦ absurd (false≢true (sym is ∙ ap (λ found. unwrap_or found true) (slice_get_past met k past)))
  | inr below ↦ below
]

stays_met : (met : List Bool) (k : ℕ) → k < length met → (j : ℕ) → met_at met j ≡ true → met_at (set met k true) j ≡ true
stays_met met k below j is = elim (equal_or_not j k) [
  | inl same ↦ subst (λ x. met_at (set met k true) x ≡ true) (sym same) (met_here met k below)
  | inr other ↦ met_else met k j other ∙ is
]

unmet_replicated : (n k : ℕ) → k < n → met_at (replicate n false) k ≡ false
unmet_replicated n k below = ap (λ found. unwrap_or found true) (replicated n false k below)

met_past : (n k : ℕ) → met_at (replicate n false) k ≡ true → n ≤ k
met_past n k is = elim (le_or_lt n k) [
  | inl past ↦ past
  | inr below ↦ absurd (false≢true (sym (unmet_replicated n k below) ∙ is))
]

called_by : (program : List FunctionNode) (k : ℕ) (f : FunctionNode) → slice_get program k ≡ Some f → (i c : ℕ) → slice_get (callees f) i ≡ Some c → Calls program k c
called_by program k f there i c e = (i, ap (λ found. slice_get (callees_in found) i) there ∙ e)

callee_of : (program : List FunctionNode) (k : ℕ) (f : FunctionNode) → slice_get program k ≡ Some f → (c : ℕ) → Calls program k c → From 0 (callees f) c
callee_of program k f there c calls = (calls.0, omega arith, sym (ap (λ found. slice_get (callees_in found) calls.0) there) ∙ calls.1)

reaching : (program : List FunctionNode) (k : ℕ) (f : FunctionNode) → slice_get program k ≡ Some f → IsReached program k (replicate (length program) false) (callees f)
reaching program k f there = record {
  many = many_replicated (length program) false;
  apart = λ below. unmet_replicated (length program) k below;
  reached = λ c from. reaches_first program k c (called_by program k f there from.0 c from.2);
  first = λ c calls. inr (callee_of program k f there c calls);
  closed = λ j is c calls. absurd (no_callee program j c (met_past (length program) j is) calls);
}

-- before the first is met
pub reached_first : (program : List FunctionNode) (k : ℕ) (f : FunctionNode) (met : List Bool) (todo : List ℕ) (n : ℕ) → slice_get program k ≡ Some f → n ≡ length program
    → met ≡ replicate n false → todo ≡ [] ++ callees f → IsReached program k met todo
reached_first program k f met todo n there count none is =
    subst (λ ms. IsReached program k ms todo) (sym (none ∙ ap (λ m. replicate m false) count)) (subst (λ l. IsReached program k (replicate (length program) false) l) (sym is) (reaching program k f there))

-- one more is met
reached_one : (program : List FunctionNode) (k c : ℕ) (f : FunctionNode) (met : List Bool) (todo left : List ℕ) → IsReached program k met todo → IsTaken met todo left c → (c ≡ k → ⊥)
    → slice_get program c ≡ Some f → IsReached program k (set met c true) (left ++ callees f)
reached_one program k c f met todo left s t other there =
    let below : c < length met = met_within met c t.new in
    let old : (v : ℕ) → From 0 left v → From 0 (left ++ callees f) v = λ v from. (from.0, from.1, front left (callees f) from.0 v from.2) in
    let new : (v : ℕ) → From 0 (callees f) v → From 0 (left ++ callees f) v = λ v from. (length left + from.0, omega arith, behind left (callees f) (length left + from.0) from.0 v refl from.2) in
    let goes_on : (v : ℕ) → (met_at met v ≡ true) ⊎ From 0 todo v → (met_at (set met c true) v ≡ true) ⊎ From 0 (left ++ callees f) v = λ v is. elim is [
      | inl before ↦ inl (stays_met met c below v before)
      | inr from ↦ elim (t.others v from) [
        | inl before ↦ inl (stays_met met c below v before)
        | inr rest ↦ elim rest [
          | inl same ↦ inl (subst (λ x. met_at (set met c true) x ≡ true) (sym same) (met_here met c below))
          | inr here ↦ inr (old v here)
        ]
      ]
    ] in
    record {
      many = length-set met c true ∙ s.many;
      apart = λ within. met_else met c k (λ same. other (sym same)) ∙ s.apart within;
      reached = λ v from. elim (parted left (callees f) from.0 v from.2) [
        | inl here ↦ s.reached v (t.fewer v (from.0, omega arith, here))
        | inr later ↦ reaches_on program k c v (s.reached c t.there) (called_by program c f there later.place v later.there)
      ];
      first = λ v calls. goes_on v (s.first v calls);
      closed = λ j is v calls. elim (equal_or_not j c) [
        | inl same ↦ inr (new v (callee_of program c f there v (subst (λ x. Calls program x v) same calls)))
        | inr apart ↦ goes_on v (s.closed j (sym (met_else met c j apart) ∙ is) v calls)
      ];
    }

pub reached_more : (program : List FunctionNode) (k c : ℕ) (f : FunctionNode) (met met' : List Bool) (todo left todo' : List ℕ) → IsReached program k met todo → IsTaken met todo left c → (c ≡ k → ⊥)
    → slice_get program c ≡ Some f → met' ≡ set met c true → todo' ≡ left ++ callees f → IsReached program k met' todo'
reached_more program k c f met met' todo left todo' s t other there now_met now_todo =
    subst (λ ms. IsReached program k ms todo') (sym now_met) (subst (λ l. IsReached program k (set met c true) l) (sym now_todo) (reached_one program k c f met todo left s t other there))

-- the function itself is to be looked at
pub itself_reached : (program : List FunctionNode) (k c : ℕ) (met : List Bool) (todo left : List ℕ) → IsReached program k met todo → IsTaken met todo left c → c ≡ k → true ≡ is_recursive program k
itself_reached program k c met todo left s t same = sym (reaches_within program k k (subst (λ x. Reaches program k x) same (s.reached c t.there)))

-- nothing is left
pub itself_not_reached : (program : List FunctionNode) (k : ℕ) (met : List Bool) (todo : List ℕ) → IsReached program k met todo → ((v : ℕ) → From 0 todo v → met_at met v ≡ true)
    → false ≡ is_recursive program k
itself_not_reached program k met todo s all = elim (le_or_lt (length program) k) [
  | inl past ↦ sym (no_calls program k (length program) k past)
  | inr below ↦
      let in_set : (v : ℕ) → (met_at met v ≡ true) ⊎ From 0 todo v → met_at met v ≡ true = λ v is. elim is [
        | inl before ↦ before
        | inr from ↦ all v from
      ] in
      sym (never_itself program (λ c. met_at met c ≡ true) (λ j is c calls. in_set c (s.closed j is c calls)) k (λ c calls. in_set c (s.first c calls))
      (λ is. false≢true (sym (s.apart below) ∙ is)) (length program))
]

-- a function that is not there
pub no_function : (fs : List TypedFunction) (k : ℕ) → length fs ≤ k → false ≡ is_recursive (map function_node fs) k
no_function fs k past =
    let many : length (map function_node fs) ≡ length fs = length-map fs function_node in
    sym (no_calls (map function_node fs) k (length (map function_node fs)) k (omega arith))

-- what a search begins with
pub search_for : (fs : List TypedFunction) (k : ℕ) (f : TypedFunction) (met : List Bool) (todo before calls : List ℕ) → slice_get fs k ≡ Some f → met ≡ replicate (length fs) false
    → todo ≡ before ++ calls → before ≡ [] → calls ≡ callees (function_node f) → IsReached (map function_node fs) k met todo
search_for fs k f met todo before calls there none is empty called =
    reached_first (map function_node fs) k (function_node f) met todo (length fs) (slice_get-map function_node fs k ∙ ap (option_map function_node) there) (sym (length-map fs function_node)) none
    (is ∙ ap (λ l. l ++ calls) empty ∙ ap (λ l. [] ++ l) called)

-- ---- the first function that calls itself

pub none_yet : (program : List FunctionNode) (j : ℕ) → j < 0 → is_recursive program j ≡ false
none_yet program j below = absurd (omega arith)

pub one_not : (program : List FunctionNode) (k : ℕ) → ((j : ℕ) → j < k → is_recursive program j ≡ false) → is_recursive program k ≡ false → (j : ℕ) → j < k + 1 → is_recursive program j ≡ false
one_not program k before here j below = elim (equal_or_not j k) [
  | inl same ↦ subst (λ x. is_recursive program x ≡ false) (sym same) here
  | inr other ↦ before j (omega (arith, other))
]

pub first_here : (program : List FunctionNode) (k found : ℕ) → IsRecursive program found → k < found → is_recursive program k ≡ true → ((j : ℕ) → j < k → is_recursive program j ≡ false)
    → IsFirstRecursive program k
first_here program k found is below here before = let inside = is.within in record { here = record { within = omega arith; calls = here }; none_before = before }

pub first_found : (program : List FunctionNode) (n found : ℕ) → IsRecursive program found → found ≤ n → ((j : ℕ) → j < n → is_recursive program j ≡ false) → IsFirstRecursive program found
first_found program n found is all before = record { here = is; none_before = λ j below. before j (omega arith) }
