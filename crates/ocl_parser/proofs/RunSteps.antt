-- What a token leaves to the tokens behind it, and what is known of the whole.
use Rattle.std.proofs.Common.{◌≡◌, ◌⊎◌, inl, inr, ◌<◌, ◌≤◌, ◌+◌, refl, sym, ap, subst, ◌∙◌, arith, ℕ, suc, List, [], ◌∷◌, ◌++◌, map, reverse, length, get_or, take, drop, append_assoc, Some, None}
use Rattle.std.proofs.Math.Seq.{take-suc, take-length, drop-cons}
use Rattle.std.proofs.lemmas.List.{append-nil, map-append, take-append-drop}
use Rattle.ocl_ast.specs.Shapes.{function_tree}
use Rattle.ocl_ast.specs.Trees.{FunctionTree}
use Rattle.ocl_ast.specs.declared.units.Function.{Function}
use Rattle.ocl_tokens.specs.declared.tokens.Token.{Token}
use Rattle.ocl_tokens.specs.declared.tokens.TokenKind.TheVariants.{End}
use Rattle.ocl_parser.specs.Faults.{AreEnded, BeginNoFile, BeginSomeFile, BeginNoneWithin, BeginSomeWithin, IsFaultOf, IsRefused, IsRefusalOf, IsStep, IsCrowded, IsStop}
use Rattle.ocl_parser.specs.Limits.{AreWithin}
use Rattle.ocl_parser.specs.Rooms.{HasRoom}
use Rattle.ocl_parser.specs.Runs.{ended, go_on, run}
use Rattle.ocl_parser.specs.Units.{Derives}
use Rattle.ocl_parser.specs.UnitSteps.{UnitNext, Reads, Adds, Fails, unit_step}
use Rattle.ocl_parser.specs.declared.parsing.ParseFault.{ParseFault}
use Rattle.ocl_parser.specs.declared.parsing.ParseFault.TheVariants.{Unexpected, Subset, TooDeep, Memory}
use Rattle.ocl_parser.specs.declared.states.UnitFocus.{UnitFocus}
use Rattle.ocl_parser.specs.declared.states.UnitFocus.TheVariants.{Outside, AtEnd}
use Rattle.ocl_parser.proofs.Lists.{reverse_push}
use Rattle.ocl_parser.proofs.UnitComplete.{some_inj, unit_complete}
use Rattle.ocl_parser.proofs.UnitSound.{none_some}
use Rattle.ocl_parser.proofs.UnitOrder.{run_derives}
use Rattle.ocl_parser.proofs.EndSteps.{EndsFile, over}
use Rattle.ocl_parser.proofs.Closing.{Ends}
use Rattle.ocl_parser.proofs.FitLaws.{functions_within}
use Rattle.ocl_parser.proofs.Fits.{UnitFits, UnitNextFits, UnitRoom}
use Rattle.ocl_parser.proofs.UnitClosing.{CanBe, CanBeNext, unit_follows, unit_ends}
use Rattle.ocl_parser.proofs.UnitLimits.{RunFits, fits_room, unit_keeps, run_back}
use Rattle.ocl_parser.proofs.RefusalLaws.{refused_none}

-- what a token does, told by what the code does with it
pub step_reads : (n : UnitNext) (next : UnitFocus) (fs : List FunctionTree) → Reads next ≡ n → IsStep n next fs fs
step_reads n next fs e = subst (λ m. IsStep m next fs fs) e (refl, refl)

pub step_adds : (n : UnitNext) (fs : List Function) (f : Function) → Adds (function_tree f) ≡ n → IsStep n Outside (map function_tree fs) (map function_tree (fs ++ (f ∷ [])))
step_adds n fs f e =
    subst (λ m. IsStep m Outside (map function_tree fs) (map function_tree (fs ++ (f ∷ [])))) e (refl, map-append function_tree fs (f ∷ []))

-- a token with which no file goes on
pub stops_on : (t : Token) (n : UnitNext) (fault : ParseFault) → IsRefusalOf fault t → Fails ≡ n → (fault ≡ Memory) ⊎ IsStop fault t n
stops_on t n (Unexpected pos) r e = inr (r.0, r.1, sym e)
stops_on t n (Subset pos) r e = inr (r.0, r.1, sym e)
stops_on t n (TooDeep pos) r e = absurd r
stops_on t n Memory r e = absurd r

-- a token with which only files beyond the limits go on
pub too_deep : (t : Token) (n : UnitNext) (next : UnitFocus) → (HasRoom next → ⊥) → Reads next ≡ n → (TooDeep t.pos ≡ Memory) ⊎ IsStop (TooDeep t.pos) t n
too_deep t n next full e = inr (subst (λ m. IsStop (TooDeep t.pos) t m) e (refl, full))

-- The reader stands at this focus and behind these functions once it has read the tokens.
abbrev pub HasRead : List Token → UnitFocus → List FunctionTree → Type 0
HasRead front focus fs = (ts : List Token) → run Outside [] (front ++ ts) ≡ run focus fs ts

-- The file has ended where the last of the tokens is the end.
abbrev pub HasEnded : List Token → UnitFocus → Type 0
HasEnded front focus = (before : List Token) (last : Token) → front ≡ before ++ (last ∷ []) → last.kind ≡ End → focus ≡ AtEnd

last_same : (xs ys : List Token) (a b : Token) → xs ++ (a ∷ []) ≡ ys ++ (b ∷ []) → a ≡ b
last_same xs ys a b e = let h : a ∷ reverse xs ≡ b ∷ reverse ys = sym (reverse_push xs a) ∙ ap reverse e ∙ reverse_push ys b in cc

one_more : (tokens : List Token) (i : ℕ) (t : Token) → i < length tokens → t ≡ get_or tokens i t → take (i + 1) tokens ≡ take i tokens ++ (t ∷ [])
one_more tokens i t h is =
    let n : i + 1 ≡ suc i = omega arith in
    ap (λ k. take k tokens) n ∙ take-suc tokens i t h ∙ ap (λ x. take i tokens ++ (x ∷ [])) (sym is)

empty_not : (before : List Token) (last : Token) → [] ≡ before ++ (last ∷ []) → ⊥
empty_not [] last e = cc
empty_not (t ∷ ts) last e = cc

pub none_ended : (focus : UnitFocus) → HasEnded [] focus
none_ended focus = λ before last e k. absurd (empty_not before last e)

-- one token more
goes_run : (next : UnitFocus) (fs gs : List FunctionTree) (n : UnitNext) → IsStep n next fs gs → (ts : List Token) →
    go_on n fs (λ f all. run f all ts) ≡ run next gs ts
goes_run next fs gs (Reads f) s ts = ap (λ x. run x fs ts) (sym s.0) ∙ ap (λ all. run next all ts) (sym s.1)
goes_run next fs gs (Adds f) s ts = ap (λ x. run x (fs ++ (f ∷ [])) ts) (sym s.0) ∙ ap (λ all. run next all ts) (sym s.1)
goes_run next fs gs Fails s ts = absurd s

pub reads_more : (tokens : List Token) (i : ℕ) (t : Token) (focus next : UnitFocus) (fs gs : List FunctionTree) → i < length tokens → t ≡ get_or tokens i t →
    HasRead (take i tokens) focus fs → IsStep (unit_step t.kind t.pos focus) next fs gs → HasRead (take (i + 1) tokens) next gs
reads_more tokens i t focus next fs gs h is reads step =
    λ ts. ap (λ front. run Outside [] (front ++ ts)) (one_more tokens i t h is) ∙ ap (run Outside []) (append_assoc (take i tokens) (t ∷ []) ts) ∙ reads (t ∷ ts) ∙
    goes_run next fs gs (unit_step t.kind t.pos focus) step ts

end_step : (n : UnitNext) (next : UnitFocus) (fs gs : List FunctionTree) → IsStep n next fs gs → EndsFile n → next ≡ AtEnd
end_step (Reads f) next fs gs s h = s.0 ∙ h
end_step (Adds f) next fs gs s h = absurd h
end_step Fails next fs gs s h = absurd s

pub step_ends : (t : Token) (focus next : UnitFocus) (fs gs : List FunctionTree) → IsStep (unit_step t.kind t.pos focus) next fs gs → t.kind ≡ End → next ≡ AtEnd
step_ends t focus next fs gs s k = end_step (unit_step t.kind t.pos focus) next fs gs s (over t focus k)

can_step : (n : UnitNext) (next : UnitFocus) (fs gs : List FunctionTree) → IsStep n next fs gs → CanBeNext n → CanBe next
can_step (Reads f) next fs gs s c = subst CanBe (sym s.0) c
can_step (Adds f) next fs gs s c = subst CanBe (sym s.0) tt
can_step Fails next fs gs s c = absurd s

pub step_can : (t : Token) (focus next : UnitFocus) (fs gs : List FunctionTree) → IsStep (unit_step t.kind t.pos focus) next fs gs → CanBe focus → CanBe next
step_can t focus next fs gs s c = can_step (unit_step t.kind t.pos focus) next fs gs s (unit_follows t.kind t.pos focus c)

pub ends_more : (tokens : List Token) (i : ℕ) (t : Token) (next : UnitFocus) → i < length tokens → t ≡ get_or tokens i t → (t.kind ≡ End → next ≡ AtEnd) →
    HasEnded (take (i + 1) tokens) next
ends_more tokens i t next h is at =
    λ before last e k. at (ap (λ (x : Token). x.kind) (sym (last_same before (take i tokens) last t (sym e ∙ one_more tokens i t h is))) ∙ k)

can_room : (n : UnitNext) (next : UnitFocus) (fs gs : List FunctionTree) → IsStep n next fs gs → HasRoom next → UnitRoom n
can_room (Reads f) next fs gs s r = subst HasRoom s.0 r
can_room (Adds f) next fs gs s r = tt
can_room Fails next fs gs s r = absurd s

can_fit : (n : UnitNext) (next : UnitFocus) (fs gs : List FunctionTree) → IsStep n next fs gs → UnitNextFits n → AreWithin fs → RunFits next gs
can_fit (Reads f) next fs gs s x w = (subst UnitFits (sym s.0) x, subst AreWithin (sym s.1) w)
can_fit (Adds f) next fs gs s x w = (subst UnitFits (sym s.0) tt, subst AreWithin (sym s.1) (functions_within fs f w x))
can_fit Fails next fs gs s x w = absurd s

-- within the limits before a token, and where there is room for it also behind
pub step_fits : (t : Token) (focus next : UnitFocus) (fs gs : List FunctionTree) → IsStep (unit_step t.kind t.pos focus) next fs gs → CanBe focus → HasRoom next → RunFits focus fs →
    RunFits next gs
step_fits t focus next fs gs s c r x =
    let n : UnitNext = unit_step t.kind t.pos focus in
    can_fit n next fs gs s ((unit_keeps t.kind t.pos focus c).1 x.0 (can_room n next fs gs s r)) x.1

-- tokens behind which the reader stands go on to a file, and within the limits to one within them
begin_some : (front : List Token) (focus : UnitFocus) (fs : List FunctionTree) → HasRead front focus fs → CanBe focus → BeginSomeFile front
begin_some front focus fs reads c =
    let x : Ends focus fs = unit_ends focus fs c in
    (x.0, x.1, run_derives (front ++ x.0) x.1 (reads x.0 ∙ x.2))

begin_within : (front : List Token) (focus : UnitFocus) (fs : List FunctionTree) → HasRead front focus fs → CanBe focus → RunFits focus fs → BeginSomeWithin front
begin_within front focus fs reads c f =
    let x : Ends focus fs = unit_ends focus fs c in
    (x.0, x.1, run_derives (front ++ x.0) x.1 (reads x.0 ∙ x.2), x.3 f.0 f.1)

-- no file begins with tokens at which the reader stops
begin_none : (front : List Token) (t : Token) (focus : UnitFocus) (fs : List FunctionTree) → HasRead front focus fs → unit_step t.kind t.pos focus ≡ Fails →
    BeginNoFile (front ++ (t ∷ []))
begin_none front t focus fs reads stops =
    λ behind gs d.
    none_some (sym (ap (run Outside []) (append_assoc front (t ∷ []) behind) ∙ reads (t ∷ behind) ∙ ap (λ n. go_on n fs (λ f all. run f all behind)) stops) ∙
    unit_complete ((front ++ (t ∷ [])) ++ behind) gs d)

-- with a token behind which there is no room, a file goes on, but none within the limits
begin_with : (front : List Token) (t : Token) (fs : List FunctionTree) (n : UnitNext) → IsCrowded n → CanBeNext n →
    ((ts : List Token) → run Outside [] (front ++ (t ∷ ts)) ≡ go_on n fs (λ f all. run f all ts)) → BeginSomeFile (front ++ (t ∷ []))
begin_with front t fs (Reads f) full c reads =
    begin_some (front ++ (t ∷ [])) f fs (λ ts. ap (run Outside []) (append_assoc front (t ∷ []) ts) ∙ reads ts) c
begin_with front t fs (Adds f) full c reads = absurd full
begin_with front t fs Fails full c reads = absurd full

none_fits : (ts : List Token) (fs gs : List FunctionTree) (n : UnitNext) → IsCrowded n → CanBeNext n → AreWithin gs → go_on n fs (λ f all. run f all ts) ≡ Some gs → ⊥
none_fits ts fs gs (Reads f) full c w e = full (fits_room f (run_back ts gs w f fs c e).0)
none_fits ts fs gs (Adds f) full c w e = absurd full
none_fits ts fs gs Fails full c w e = absurd full

begin_beyond : (front : List Token) (t : Token) (focus : UnitFocus) (fs : List FunctionTree) → HasRead front focus fs → CanBe focus → IsCrowded (unit_step t.kind t.pos focus) →
    BeginNoneWithin (front ++ (t ∷ []))
begin_beyond front t focus fs reads c full =
    λ behind gs d w.
    let tokens : List Token = (front ++ (t ∷ [])) ++ behind in
    let e : go_on (unit_step t.kind t.pos focus) fs (λ f all. run f all behind) ≡ Some gs
    = sym (ap (run Outside []) (append_assoc front (t ∷ []) behind) ∙ reads (t ∷ behind)) ∙ unit_complete tokens gs d in
    none_fits behind fs gs (unit_step t.kind t.pos focus) full (unit_follows t.kind t.pos focus c) w e

why_refused : (fault : ParseFault) (front : List Token) (t : Token) (focus : UnitFocus) (fs : List FunctionTree) → HasRead front focus fs → CanBe focus →
    IsStop fault t (unit_step t.kind t.pos focus) → IsFaultOf fault front t
why_refused (Unexpected pos) front t focus fs reads c s = (s.0, s.1, begin_none front t focus fs reads s.2)
why_refused (Subset pos) front t focus fs reads c s = (s.0, s.1, begin_none front t focus fs reads s.2)
why_refused (TooDeep pos) front t focus fs reads c s =
    (s.0, begin_with front t fs (unit_step t.kind t.pos focus) s.1 (unit_follows t.kind t.pos focus c) (λ ts. reads (t ∷ ts)), begin_beyond front t focus fs reads c s.1)
why_refused Memory front t focus fs reads c s = absurd s

refused_at : (tokens : List Token) (i : ℕ) (t : Token) (focus : UnitFocus) (fs : List FunctionTree) (fault : ParseFault) → i < length tokens → t ≡ get_or tokens i t →
    HasRead (take i tokens) focus fs → CanBe focus → RunFits focus fs → IsStop fault t (unit_step t.kind t.pos focus) → IsRefused fault tokens
refused_at tokens i t focus fs fault h is reads c f stop = record {
  before = take i tokens;
  token = t;
  behind = drop (suc i) tokens;
  whole = sym (take-append-drop i tokens) ∙ ap (λ x. take i tokens ++ x) (drop-cons tokens i t h ∙ ap (λ x. x ∷ drop (suc i) tokens) (sym is));
  goes_on = begin_within (take i tokens) focus fs reads c f;
  why = why_refused fault (take i tokens) t focus fs reads c stop;
}

-- The reader stops for want of memory, or since the tokens are refused.
pub stops_refused : (tokens : List Token) (i : ℕ) (t : Token) (focus : UnitFocus) (fs : List FunctionTree) (fault : ParseFault) → i < length tokens → t ≡ get_or tokens i t →
    HasRead (take i tokens) focus fs → CanBe focus → RunFits focus fs → (fault ≡ Memory) ⊎ IsStop fault t (unit_step t.kind t.pos focus) →
    (fault ≡ Memory) ⊎ (AreEnded tokens → IsRefused fault tokens)
stops_refused tokens i t focus fs fault h is reads c f stop =
    elim stop [
      | inl memory ↦ inl memory
      | inr s ↦ inr (λ _. refused_at tokens i t focus fs fault h is reads c f s)
    ]

-- It stops at no text within the limits but for memory.
pub stops_memory : (tokens : List Token) (i : ℕ) (t : Token) (focus : UnitFocus) (fs : List FunctionTree) (fault : ParseFault) → i < length tokens → t ≡ get_or tokens i t →
    HasRead (take i tokens) focus fs → CanBe focus → RunFits focus fs → (fault ≡ Memory) ⊎ IsStop fault t (unit_step t.kind t.pos focus) →
    (gs : List FunctionTree) → Derives tokens gs → AreWithin gs → fault ≡ Memory
stops_memory tokens i t focus fs fault h is reads c f stop gs d w =
    elim stop [
      | inl memory ↦ memory
      | inr s ↦ absurd (refused_none tokens fault (refused_at tokens i t focus fs fault h is reads c f s) gs d w)
    ]

-- all tokens
all_tokens : (tokens : List Token) (i : ℕ) → length tokens ≤ i → i ≤ length tokens → take i tokens ≡ tokens
all_tokens tokens i low high = let e : i ≡ length tokens = omega arith in ap (λ k. take k tokens) e ∙ take-length tokens

pub never_unended : (tokens : List Token) (i : ℕ) (focus : UnitFocus) → length tokens ≤ i → i ≤ length tokens → HasEnded (take i tokens) focus →
    ((fs : List FunctionTree) → ended focus fs ≡ None) → AreEnded tokens → ⊥
never_unended tokens i focus low high at over e =
    none_some (sym (over []) ∙ ap (λ f. ended f []) (at e.0 e.1 (all_tokens tokens i low high ∙ e.2) e.3))

pub read_whole : (tokens : List Token) (i : ℕ) (focus : UnitFocus) (fs : List FunctionTree) → length tokens ≤ i → i ≤ length tokens → HasRead (take i tokens) focus fs →
    ended focus fs ≡ Some fs → run Outside [] tokens ≡ Some fs
read_whole tokens i focus fs low high reads e =
    ap (run Outside []) (sym (append-nil tokens) ∙ ap (λ front. front ++ []) (sym (all_tokens tokens i low high))) ∙ reads [] ∙ e

pub read_is : (tokens : List Token) (gs : List FunctionTree) → run Outside [] tokens ≡ Some gs → (fs : List FunctionTree) → Derives tokens fs → gs ≡ fs
read_is tokens gs e fs d = some_inj (sym e ∙ unit_complete tokens fs d)

-- tokens that do not end a file are no text of one
pub no_text : (tokens : List Token) (i : ℕ) (focus : UnitFocus) (fs : List FunctionTree) → length tokens ≤ i → i ≤ length tokens → HasRead (take i tokens) focus fs →
    ended focus fs ≡ None → (gs : List FunctionTree) → Derives tokens gs → ⊥
no_text tokens i focus fs low high reads e gs d =
    none_some (sym (ap (run Outside []) (sym (append-nil tokens) ∙ ap (λ front. front ++ []) (sym (all_tokens tokens i low high))) ∙ reads [] ∙ e) ∙ unit_complete tokens gs d)
