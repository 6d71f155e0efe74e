-- Laws of the map of an accepted launch.
use Rattle.std.proofs.Common.{◌≡◌, ℕ, zero, suc, ◌+◌, ◌-◌, ◌*◌, ◌/◌, ◌%◌, ◌^◌, ◌<◌, ◌≤◌, ◌⊎◌, Bool, true, false, ◌&&◌, List, [], ◌∷◌, ◌++◌, length, map, sum, slice_get, Option, None, Some, refl, ap, sym, subst, ◌∙◌, inl, inr, arith}
use Rattle.std.specs.Option.{option_map}
use Rattle.std.proofs.lemmas.Bool.{cases_lt}
use Rattle.std.proofs.lemmas.Option.{slice_get-map}
use Rattle.item_acts.specs.declared.acts.Place.{Place}
use Rattle.item_acts.specs.declared.acts.Place.TheVariants.{Global, Local}
use Rattle.vx_layout.specs.Addresses.{Span, Map, Hit, IsMap, has, found, in_words, in_lines, spans_from, Apart, Within, arrays_start, frames_start, buffers_start, code_start, place_found, place_at, address_of, span_byte}
use Rattle.vx_layout.specs.Launching.{Plan, Accepted, local_sizes, map_of, buffer_at}
use Rattle.vx_layout.specs.Located.{Holds, HasBytes, bytes_on, size_of_span}
use Rattle.vx_layout.proofs.Spans.{has_byte, has_from, has_below, found_hit, found_not, found_back, found_outside, IsHit, in_all, in_words-ge, span_within, spans_apart, IsSpan, span_of, span_aligned, all_sum}

-- ---- the spans of buffers

-- a span of the map is that of a buffer
pub record IsBufferSpan (p : Plan) (i : ℕ) (s : Span) : Type 0 where
  pub span : Span
  pub at : slice_get p.buffers i ≡ Some span
  pub start : s.start ≡ buffers_start + span.start
  pub sized : s.size ≡ span.size

pub buffer_span : (p : Plan) (i : ℕ) (s : Span) → slice_get (map_of p).buffers i ≡ Some s → IsBufferSpan p i s
buffer_span p i s at = by (slice_get p.buffers i) refl (sym (slice_get-map buffer_at p.buffers i) ∙ at)
  where
    by : (o : Option Span) → slice_get p.buffers i ≡ o → option_map buffer_at o ≡ Some s → IsBufferSpan p i s
    by None e e' = absurd (cc)
    by (Some t) e e' =
        let same : buffer_at t ≡ s = cc in
        record { span = t; at = e; start = sym (ap (λ (u : Span). u.start) same); sized = sym (ap (λ (u : Span). u.size) same) }

pub buffer_in_map : (p : Plan) (i : ℕ) (s : Span) → slice_get p.buffers i ≡ Some s → slice_get (map_of p).buffers i ≡ Some (buffer_at s)
buffer_in_map p i s at = slice_get-map buffer_at p.buffers i ∙ ap (option_map buffer_at) at

-- a byte of the span is one of the buffer, further down
has_further : (s t : Span) (a : ℕ) → s.start ≡ buffers_start + t.start → s.size ≡ t.size → has s a ≡ true → has t (a - buffers_start) ≡ true
has_further s t a start sized inside =
    let from = has_from s a inside in
    let below = has_below s a inside in
    let e : t.start + (a - buffers_start - t.start) ≡ a - buffers_start = omega arith in
    subst (λ (b : ℕ). has t b ≡ true) e (has_byte t (a - buffers_start - t.start) (omega arith))

-- ---- the map

pub is_map : (p : Plan) → Accepted p → IsMap (map_of p)
is_map p ok = record {
  buffers_apart = λ i j s t a is jt sa ta.
      let si = buffer_span p i s is in
      let tj = buffer_span p j t jt in
      ok.buffers_apart i j si.span tj.span (a - buffers_start) (a - buffers_start) si.at tj.at
      (has_further s si.span a si.start si.sized sa) (has_further t tj.span a tj.start tj.sized ta) refl;
  locals_apart = spans_apart arrays_start (local_sizes p);
  buffers_in = λ i s is.
      let si = buffer_span p i s is in
      let start = si.start in
      let sized = si.sized in
      let end = ok.buffers_in i si.span si.at in
      let all = ok.shared in
      (omega arith, omega arith);
  locals_in = λ i s is.
      let within = span_within arrays_start (local_sizes p) i s is in
      let total = all_sum (local_sizes p) in
      let bytes = ok.local_bytes in
      (within.0, omega (arith, within.1));
}

-- ---- places

-- where a buffer has the byte
pub at_buffer : (m : Map) (group i k : ℕ) (s : Span) → IsMap m → slice_get m.buffers i ≡ Some s → k < s.size
    → place_at m group (s.start + k) ≡ Some (Global i k)
at_buffer m group i k s ok at below = ap (λ (o : Option Hit). place_found group o (found m.locals (s.start + k))) (found_hit m.buffers i s k ok.buffers_apart at below)

-- no buffer lies below the first address of buffers
no_buffer : (m : Map) (a : ℕ) → IsMap m → a < buffers_start → found m.buffers a ≡ None
no_buffer m a ok before = found_outside m.buffers buffers_start code_start a ok.buffers_in (inl before)

-- where a local array has it
pub at_local : (m : Map) (group i k : ℕ) (s : Span) → IsMap m → slice_get m.locals i ≡ Some s → k < s.size
    → place_at m group (s.start + k) ≡ Some (Local group i k)
at_local m group i k s ok at below =
    let within = ok.locals_in i s at in
    ap (λ (o : Option Hit). place_found group o (found m.locals (s.start + k))) (no_buffer m (s.start + k) ok (omega (arith, within.1)))
    ∙ ap (place_found group None) (found_hit m.locals i s k ok.locals_apart at below)

-- where no array has it
pub at_nothing : (m : Map) (group a : ℕ) → IsMap m → a < buffers_start → (a < arrays_start) ⊎ (frames_start ≤ a) → place_at m group a ≡ None
at_nothing m group a ok before outside =
    ap (λ (o : Option Hit). place_found group o (found m.locals a)) (no_buffer m a ok before)
    ∙ ap (place_found group None) (found_outside m.locals arrays_start frames_start a ok.locals_in outside)

-- what an address names, told by the array that has it
pub data Named (m : Map) (group a : ℕ) (q : Place) : Type 0 where
  OfBuffer : (hit : Hit) → IsHit m.buffers a hit → q ≡ Global hit.number hit.byte → Named m group a q
  OfLocal : (hit : Hit) → IsHit m.locals a hit → q ≡ Local group hit.number hit.byte → Named m group a q

pub named : (m : Map) (group a : ℕ) (q : Place) → place_at m group a ≡ Some q → Named m group a q
named m group a q e = by (found m.buffers a) (found m.locals a) (found_back m.buffers a) (found_back m.locals a) e
  where
    by : (x y : Option Hit) → ((hit : Hit) → x ≡ Some hit → IsHit m.buffers a hit) → ((hit : Hit) → y ≡ Some hit → IsHit m.locals a hit)
        → place_found group x y ≡ Some q → Named m group a q
    by (Some hit) y is_buffer is_local e = let same : Global hit.number hit.byte ≡ q = cc in OfBuffer hit (is_buffer hit refl) (sym same)
    by None (Some hit) is_buffer is_local e = let same : Local group hit.number hit.byte ≡ q = cc in OfLocal hit (is_local hit refl) (sym same)
    by None None is_buffer is_local e = absurd (cc)

-- ---- arrays of the launch

-- the span of a local array is of its size
pub local_sized : (start : ℕ) (sizes : List ℕ) (i : ℕ) (s : Span) → slice_get (spans_from start sizes) i ≡ Some s → slice_get sizes i ≡ Some s.size
local_sized start [] i s at = absurd (cc)
local_sized start (n ∷ sizes) zero s at =
    let same : record { start = start; size = n } ≡ s = cc in
    ap (λ (u : Span). Some u.size) same
local_sized start (n ∷ sizes) (suc i) s at = local_sized (start + in_words n) sizes i s at

-- an address that names a byte of an array: the array has it
pub has_place : (p : Plan) (group a : ℕ) (q : Place) → place_at (map_of p) group a ≡ Some q → HasBytes p group q 1
has_place p group a q e = by (named (map_of p) group a q e)
  where
    by : Named (map_of p) group a q → HasBytes p group q 1
    by (OfBuffer hit is same) =
        let b = buffer_span p hit.number is.span is.at in
        let sized = b.sized in
        let byte = is.byte in
        subst (λ (q : Place). HasBytes p group q 1) (sym same)
        (subst (λ (o : Option ℕ). Holds o hit.byte 1) (sym (ap size_of_span b.at)) (omega arith))
    by (OfLocal hit is same) =
        let byte = is.byte in
        subst (λ (q : Place). HasBytes p group q 1) (sym same)
        (refl, subst (λ (o : Option ℕ). Holds o hit.byte 1) (sym (local_sized arrays_start (local_sizes p) hit.number is.span is.at)) (omega arith))

-- and the byte has the address
pub has_address : (p : Plan) (group a : ℕ) (q : Place) → place_at (map_of p) group a ≡ Some q → address_of (map_of p) q ≡ Some a
has_address p group a q e = by (named (map_of p) group a q e)
  where
    by : Named (map_of p) group a q → address_of (map_of p) q ≡ Some a
    by (OfBuffer hit is same) =
        ap (address_of (map_of p)) same ∙ ap (λ (o : Option Span). span_byte o hit.byte) is.at ∙ ap Some is.address
    by (OfLocal hit is same) =
        ap (address_of (map_of p)) same ∙ ap (λ (o : Option Span). span_byte o hit.byte) is.at ∙ ap Some is.address

-- the array that has the bytes of a place
pub data Held (p : Plan) (group : ℕ) (q : Place) (n : ℕ) : Type 0 where
  InBuffer : (i byte : ℕ) (s : Span) → q ≡ Global i byte → slice_get (map_of p).buffers i ≡ Some s → byte + n ≤ s.size → Held p group q n
  InLocal : (i byte : ℕ) (s : Span) → q ≡ Local group i byte → slice_get (map_of p).locals i ≡ Some s → byte + n ≤ s.size → Held p group q n

pub held : (p : Plan) (group : ℕ) (q : Place) (n : ℕ) → HasBytes p group q n → Held p group q n
held p group (Global i byte) n h = by (slice_get p.buffers i) refl h
  where
    by : (o : Option Span) → slice_get p.buffers i ≡ o → Holds (size_of_span o) byte n → Held p group (Global i byte) n
    by None e h = absurd h
    by (Some s) e h = InBuffer i byte (buffer_at s) refl (buffer_in_map p i s e) h
held p group (Local group' i byte) n h = by (slice_get (local_sizes p) i) refl h.0 h.1
  where
    by : (o : Option ℕ) → slice_get (local_sizes p) i ≡ o → group' ≡ group → Holds o byte n → Held p group (Local group' i byte) n
    by None e same h = absurd h
    by (Some size) e same h =
        let span = span_of arrays_start (local_sizes p) i size e in
        let sized = span.sized in
        InLocal i byte span.span (ap (λ (g : ℕ). Local g i byte) same) span.at (omega arith)

-- each byte of an array has an address that names it
pub is_named : (p : Plan) → Accepted p → (group : ℕ) (q : Place) → HasBytes p group q 1
    → (a : ℕ) × (address_of (map_of p) q ≡ Some a) × (place_at (map_of p) group a ≡ Some q)
is_named p ok group q h = by (held p group q 1 h)
  where
    by : Held p group q 1 → (a : ℕ) × (address_of (map_of p) q ≡ Some a) × (place_at (map_of p) group a ≡ Some q)
    by (InBuffer i byte s same at fits) = (
      s.start + byte,
      ap (address_of (map_of p)) same ∙ ap (λ (o : Option Span). span_byte o byte) at,
      at_buffer (map_of p) group i byte s (is_map p ok) at (omega arith) ∙ ap Some (sym same),
    )
    by (InLocal i byte s same at fits) = (
      s.start + byte,
      ap (address_of (map_of p)) same ∙ ap (λ (o : Option Span). span_byte o byte) at,
      at_local (map_of p) group i byte s (is_map p ok) at (omega arith) ∙ ap Some (sym same),
    )

-- the bytes of a field stand one after another
pub is_run : (p : Plan) → Accepted p → (group a n k : ℕ) (q : Place) → place_at (map_of p) group a ≡ Some q → HasBytes p group q n → k < n
    → place_at (map_of p) group (a + k) ≡ Some (bytes_on q k)
is_run p ok group a n k q e h below = by (held p group q n h)
  where
    by : Held p group q n → place_at (map_of p) group (a + k) ≡ Some (bytes_on q k)
    by (InBuffer i byte s same at fits) =
        let named : Some a ≡ Some (s.start + byte) = sym (has_address p group a q e) ∙ ap (address_of (map_of p)) same ∙ ap (λ (o : Option Span). span_byte o byte) at in
        let first : a ≡ s.start + byte = cc in
        let here : s.start + (byte + k) ≡ a + k = omega arith in
        subst (λ (b : ℕ). place_at (map_of p) group b ≡ Some (bytes_on q k)) here
        (at_buffer (map_of p) group i (byte + k) s (is_map p ok) at (omega arith) ∙ ap (λ (q : Place). Some (bytes_on q k)) (sym same))
    by (InLocal i byte s same at fits) =
        let named : Some a ≡ Some (s.start + byte) = sym (has_address p group a q e) ∙ ap (address_of (map_of p)) same ∙ ap (λ (o : Option Span). span_byte o byte) at in
        let first : a ≡ s.start + byte = cc in
        let here : s.start + (byte + k) ≡ a + k = omega arith in
        subst (λ (b : ℕ). place_at (map_of p) group b ≡ Some (bytes_on q k)) here
        (at_local (map_of p) group i (byte + k) s (is_map p ok) at (omega arith) ∙ ap (λ (q : Place). Some (bytes_on q k)) (sym same))
