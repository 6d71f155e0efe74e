-- Laws of spans: which bytes they have, and what a look-up finds in them.
use Rattle.std.proofs.Common.{◌≡◌, ℕ, zero, suc, ◌+◌, ◌-◌, ◌*◌, ◌/◌, ◌%◌, ◌<◌, ◌≤◌, ◌⊎◌, Bool, true, false, ◌&&◌, nat_eq, nat_le, nat_lt, List, [], ◌∷◌, ◌++◌, map, sum, slice_get, Option, None, Some, refl, ap, sym, subst, ◌∙◌, inl, inr, arith, eq-eqb, ne_eqb, le-leb, lt-ltb}
use Rattle.std.proofs.lemmas.Bool.{cases_eq, cases_lt, cases_Bool, and_from, and_parts, and_left, and_right, le-ltb, lt-leb, ltb-true, leb-true, eqb-true, both_ways}
use Rattle.std.proofs.lemmas.Option.{slice_get-map}
use Rattle.std.proofs.lemmas.List.Sums.{sum_by-cons}
use Rattle.vx_layout.specs.Addresses.{Span, Hit, has, one_further, hit_if, found, in_words, in_lines, spans_from, Apart, Within, is_word, is_part}

-- ---- the bytes of a span

pub has_byte : (s : Span) (k : ℕ) → k < s.size → has s (s.start + k) ≡ true
has_byte s k below = and_from _ _ (le-leb s.start (s.start + k) (omega arith)) (lt-ltb (s.start + k) (s.start + s.size) (omega arith))

pub has_from : (s : Span) (a : ℕ) → has s a ≡ true → s.start ≤ a
has_from s a h = leb-true s.start a (and_parts _ _ h).0

pub has_below : (s : Span) (a : ℕ) → has s a ≡ true → a < s.start + s.size
has_below s a h = ltb-true a (s.start + s.size) (and_parts (nat_le s.start a) _ h).1

pub has_not : (s : Span) (a : ℕ) → (a < s.start) ⊎ (s.start + s.size ≤ a) → has s a ≡ false
has_not s a (inl before) = and_left _ _ (lt-leb s.start a before)
has_not s a (inr behind) = and_right _ _ (le-ltb a (s.start + s.size) behind)

-- ---- look-ups

-- the spans behind the first are apart, too
later_apart : (s : Span) (spans : List Span) → Apart (s ∷ spans) → Apart spans
later_apart s spans apart i j t u a it ju ta ua = let e : suc i ≡ suc j = apart (suc i) (suc j) t u a it ju ta ua in omega arith

-- a byte of a span is found in it
pub found_hit : (spans : List Span) (i : ℕ) (s : Span) (k : ℕ) → Apart spans → slice_get spans i ≡ Some s → k < s.size
    → found spans (s.start + k) ≡ Some (record { number = i; byte = k })
found_hit [] i s k apart at below = absurd (cc)
found_hit (t ∷ spans) zero s k apart at below =
    let same : t ≡ s = cc in
    let here : has t (s.start + k) ≡ true = subst (λ (u : Span). has u (s.start + k) ≡ true) (sym same) (has_byte s k below) in
    let byte : s.start + k - t.start ≡ k = subst (λ (u : Span). s.start + k - u.start ≡ k) (sym same) (omega arith) in
    ap (λ (b : Bool). hit_if b (s.start + k - t.start) (found spans (s.start + k))) here
    ∙ ap (λ (n : ℕ). Some (record { number = 0; byte = n })) byte
found_hit (t ∷ spans) (suc i) s k apart at below =
    let differ : has t (s.start + k) ≡ false = elim (cases_Bool (has t (s.start + k))) [
      | inl hit ↦ let e : zero ≡ suc i = apart zero (suc i) t s (s.start + k) refl at hit (has_byte s k below) in absurd (omega arith)
      | inr miss ↦ miss
    ] in
    ap (λ (b : Bool). hit_if b (s.start + k - t.start) (found spans (s.start + k))) differ
    ∙ ap one_further (found_hit spans i s k (later_apart t spans apart) at below)

-- a byte of none of the spans is not found
pub found_not : (spans : List Span) (a : ℕ) → ((i : ℕ) (s : Span) → slice_get spans i ≡ Some s → has s a ≡ false) → found spans a ≡ None
found_not [] a none = refl
found_not (t ∷ spans) a none =
    ap (λ (b : Bool). hit_if b (a - t.start) (found spans a)) (none zero t refl)
    ∙ ap one_further (found_not spans a (λ i s at. none (suc i) s at))

-- what is found has the byte
pub record IsHit (spans : List Span) (a : ℕ) (hit : Hit) : Type 0 where
  pub span : Span
  pub at : slice_get spans hit.number ≡ Some span
  pub byte : hit.byte < span.size
  pub address : span.start + hit.byte ≡ a

pub found_back : (spans : List Span) (a : ℕ) (hit : Hit) → found spans a ≡ Some hit → IsHit spans a hit
found_back [] a hit e = absurd (cc)
found_back (t ∷ spans) a hit e = by (has t a) (found_back spans a) refl e
  where
    here : (hit : Hit) → has t a ≡ true → Some (record { number = 0; byte = a - t.start }) ≡ Some hit → IsHit (t ∷ spans) a hit
    here hit inside e =
        let same : record { number = 0; byte = a - t.start } ≡ hit = cc in
        let from = has_from t a inside in
        let below = has_below t a inside in
        subst (IsHit (t ∷ spans) a) same (record { span = t; at = refl; byte = omega arith; address = omega arith })

    later : (o : Option Hit) → ((h : Hit) → o ≡ Some h → IsHit spans a h) → one_further o ≡ Some hit → IsHit (t ∷ spans) a hit
    later None each e = absurd (cc)
    later (Some h) each e =
        let same : record { number = suc h.number; byte = h.byte } ≡ hit = cc in
        let inner = each h refl in
        subst (IsHit (t ∷ spans) a) same (record { span = inner.span; at = inner.at; byte = inner.byte; address = inner.address })

    by : (b : Bool) → ((h : Hit) → found spans a ≡ Some h → IsHit spans a h) → has t a ≡ b → hit_if b (a - t.start) (found spans a) ≡ Some hit → IsHit (t ∷ spans) a hit
    by true each has_it e = here hit has_it e
    by false each has_not_it e = later (found spans a) each e

-- nothing is found outside of the range in which the spans lie
pub found_outside : (spans : List Span) (low high a : ℕ) → Within low high spans → (a < low) ⊎ (high ≤ a) → found spans a ≡ None
found_outside spans low high a within (inl before) = found_not spans a (λ i s at. let w = within i s at in has_not s a (inl (omega (arith, w.0))))
found_outside spans low high a within (inr behind) = found_not spans a (λ i s at. let w = within i s at in has_not s a (inr (omega (arith, w.1))))

-- ---- spans one after another

-- the bytes of some arrays, each rounded up to words
abbrev pub in_all : List ℕ → ℕ
in_all [] = 0
in_all (size ∷ sizes) = in_words size + in_all sizes

pub in_words-ge : (n : ℕ) → n ≤ in_words n
in_words-ge n = omega arith

pub in_lines-ge : (n : ℕ) → n ≤ in_lines n
in_lines-ge n = omega arith

-- each of the spans lies in the bytes that they take together
pub span_within : (start : ℕ) (sizes : List ℕ) (i : ℕ) (s : Span) → slice_get (spans_from start sizes) i ≡ Some s
    → (start ≤ s.start) × (s.start + in_words s.size ≤ start + in_all sizes)
span_within start [] i s at = absurd (cc)
span_within start (size ∷ sizes) zero s at =
    let same : record { start = start; size = size } ≡ s = cc in
    subst (λ (u : Span). (start ≤ u.start) × (u.start + in_words u.size ≤ start + (in_words size + in_all sizes))) same (omega arith, omega arith)
span_within start (size ∷ sizes) (suc i) s at =
    let later = span_within (start + in_words size) sizes i s at in
    (omega (arith, later.0), omega (arith, later.1))

-- no byte is in two of them
pub spans_apart : (start : ℕ) (sizes : List ℕ) → Apart (spans_from start sizes)
spans_apart start [] i j s t a is jt sa ta = absurd (cc)
spans_apart start (size ∷ sizes) zero zero s t a is jt sa ta = refl
spans_apart start (size ∷ sizes) zero (suc j) s t a is jt sa ta = absurd (first_apart start size sizes j s t a is jt sa ta)
  where
    first_apart : (start size : ℕ) (sizes : List ℕ) (j : ℕ) (s t : Span) (a : ℕ) → Some (record { start = start; size = size }) ≡ Some s
        → slice_get (spans_from (start + in_words size) sizes) j ≡ Some t → has s a ≡ true → has t a ≡ true → ⊥
    first_apart start size sizes j s t a is jt sa ta =
        let same : record { start = start; size = size } ≡ s = cc in
        let starts : start ≡ s.start = ap (λ (u : Span). u.start) same in
        let ends : size ≡ s.size = ap (λ (u : Span). u.size) same in
        let later = span_within (start + in_words size) sizes j t jt in
        let above = has_below s a sa in
        let below = has_from t a ta in
        omega (arith, later.0)
spans_apart start (size ∷ sizes) (suc i) zero s t a is jt sa ta = absurd (later_first start size sizes i s t a is jt sa ta)
  where
    later_first : (start size : ℕ) (sizes : List ℕ) (i : ℕ) (s t : Span) (a : ℕ) → slice_get (spans_from (start + in_words size) sizes) i ≡ Some s
        → Some (record { start = start; size = size }) ≡ Some t → has s a ≡ true → has t a ≡ true → ⊥
    later_first start size sizes i s t a is jt sa ta =
        let same : record { start = start; size = size } ≡ t = cc in
        let starts : start ≡ t.start = ap (λ (u : Span). u.start) same in
        let ends : size ≡ t.size = ap (λ (u : Span). u.size) same in
        let later = span_within (start + in_words size) sizes i s is in
        let above = has_below t a ta in
        let below = has_from s a sa in
        omega (arith, later.0)
spans_apart start (size ∷ sizes) (suc i) (suc j) s t a is jt sa ta =
    ap suc (spans_apart (start + in_words size) sizes i j s t a is jt sa ta)

-- an array has a span of its own size
pub record IsSpan (spans : List Span) (i size : ℕ) : Type 0 where
  pub span : Span
  pub at : slice_get spans i ≡ Some span
  pub sized : span.size ≡ size

pub span_of : (start : ℕ) (sizes : List ℕ) (i size : ℕ) → slice_get sizes i ≡ Some size → IsSpan (spans_from start sizes) i size
span_of start [] i size at = absurd (cc)
span_of start (n ∷ sizes) zero size at = let same : n ≡ size = cc in record { span = record { start = start; size = n }; at = refl; sized = same }
span_of start (n ∷ sizes) (suc i) size at =
    let later = span_of (start + in_words n) sizes i size at in
    record { span = later.span; at = later.at; sized = later.sized }

-- and begins at a multiple of 4
pub span_aligned : (start : ℕ) (sizes : List ℕ) (i : ℕ) (s : Span) → start % 4 ≡ 0 → slice_get (spans_from start sizes) i ≡ Some s → s.start % 4 ≡ 0
span_aligned start [] i s even at = absurd (cc)
span_aligned start (size ∷ sizes) zero s even at =
    let same : record { start = start; size = size } ≡ s = cc in
    subst (λ (u : Span). u.start % 4 ≡ 0) same even
span_aligned start (size ∷ sizes) (suc i) s even at = span_aligned (start + in_words size) sizes i s (omega arith) at

pub all_sum : (sizes : List ℕ) → in_all sizes ≡ sum (map in_words sizes)
all_sum [] = refl
all_sum (size ∷ sizes) =
    let e = all_sum sizes in
    let step : sum (map in_words (size ∷ sizes)) ≡ in_words size + sum (map in_words sizes) = sum_by-cons (λ (n : ℕ). n) (in_words size) (map in_words sizes) in
    omega arith
