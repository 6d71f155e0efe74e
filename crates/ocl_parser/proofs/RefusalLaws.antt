-- Tokens are refused in one way, and those of a file within the limits never.
use Rattle.std.proofs.Common.{◌≡◌, ◌⊎◌, inl, inr, refl, sym, ap, subst, ◌∙◌, List, [], ◌∷◌, ◌++◌, append_assoc, true≢false}
use Rattle.ocl_ast.specs.Trees.{FunctionTree}
use Rattle.ocl_tokens.specs.declared.tokens.Token.{Token}
use Rattle.ocl_parser.specs.Faults.{BeginNoneWithin, BeginSomeWithin, IsFaultOf, IsRefused}
use Rattle.ocl_parser.specs.Limits.{AreWithin}
use Rattle.ocl_parser.specs.Units.{Derives}
use Rattle.ocl_parser.specs.declared.parsing.ParseFault.{ParseFault}
use Rattle.ocl_parser.specs.declared.parsing.ParseFault.TheVariants.{Unexpected, Subset, TooDeep, Memory}

-- tokens that begin with others and one more
abbrev GoesPast : List Token → Token → List Token → Type 0
GoesPast front t longer = (more : List Token) × (longer ≡ (front ++ (t ∷ [])) ++ more)

cons_same : (u v : Token) (a b : List Token) → u ≡ v → a ≡ b → u ∷ a ≡ v ∷ b
cons_same u v a b h e = cc

-- one list in two parts each
places : (a b : List Token) (s t : Token) (x y : List Token) → a ++ (s ∷ x) ≡ b ++ (t ∷ y) → ((a ≡ b) × (s ≡ t)) ⊎ (GoesPast a s b ⊎ GoesPast b t a)
places [] [] s t x y e = let h : s ≡ t = cc in inl (refl, h)
places [] (u ∷ b) s t x y e = let h : u ≡ s = cc in inr (inl (b, ap (λ v. v ∷ b) h))
places (u ∷ a) [] s t x y e = let h : u ≡ t = cc in inr (inr (a, ap (λ v. v ∷ a) h))
places (u ∷ a) (v ∷ b) s t x y e =
    let h : u ≡ v = cc in
    let tails : a ++ (s ∷ x) ≡ b ++ (t ∷ y) = cc in
    elim (places a b s t x y tails) [
      | inl same ↦ inl (cons_same u v a b h same.0, same.1)
      | inr past ↦ elim past [
        | inl p ↦ inr (inl (p.0, cons_same v u b ((a ++ (s ∷ [])) ++ p.0) (sym h) p.1))
        | inr p ↦ inr (inr (p.0, cons_same u v a ((b ++ (t ∷ [])) ++ p.0) h p.1))
      ]
    ]

-- No file within the limits goes on with a token that is refused.
none_within : (fault : ParseFault) (before : List Token) (t : Token) → IsFaultOf fault before t → BeginNoneWithin (before ++ (t ∷ []))
none_within (Unexpected pos) before t f = λ behind fs d w. f.2 behind fs d
none_within (Subset pos) before t f = λ behind fs d w. f.2 behind fs d
none_within (TooDeep pos) before t f = f.2
none_within Memory before t f = absurd f

never_past : (fault : ParseFault) (before longer : List Token) (t : Token) → IsFaultOf fault before t → GoesPast before t longer → BeginSomeWithin longer → ⊥
never_past fault before longer t f p b =
    let e : longer ++ b.0 ≡ (before ++ (t ∷ [])) ++ (p.0 ++ b.0) = ap (λ ts. ts ++ b.0) p.1 ∙ append_assoc (before ++ (t ∷ [])) p.0 b.0 in
    none_within fault before t f (p.0 ++ b.0) b.1 (subst (λ ts. Derives ts b.1) e b.2) b.3

-- two faults of one token
same_fault : (one other : ParseFault) (before : List Token) (t : Token) → IsFaultOf one before t → IsFaultOf other before t → one ≡ other
same_fault (Unexpected p) (Unexpected q) before t f g = ap Unexpected (f.0 ∙ sym g.0)
same_fault (Subset p) (Subset q) before t f g = ap Subset (f.0 ∙ sym g.0)
same_fault (TooDeep p) (TooDeep q) before t f g = ap TooDeep (f.0 ∙ sym g.0)
same_fault (Unexpected p) (Subset q) before t f g = absurd (true≢false (sym g.1 ∙ f.1))
same_fault (Subset p) (Unexpected q) before t f g = absurd (true≢false (sym f.1 ∙ g.1))
same_fault (Unexpected p) (TooDeep q) before t f g = absurd (f.2 g.1.0 g.1.1 g.1.2)
same_fault (Subset p) (TooDeep q) before t f g = absurd (f.2 g.1.0 g.1.1 g.1.2)
same_fault (TooDeep p) (Unexpected q) before t f g = absurd (g.2 f.1.0 f.1.1 f.1.2)
same_fault (TooDeep p) (Subset q) before t f g = absurd (g.2 f.1.0 f.1.1 f.1.2)
same_fault Memory other before t f g = absurd f
same_fault one Memory before t f g = absurd g

at_place : (one other : ParseFault) (a b : List Token) (s t : Token) → IsFaultOf one a s → IsFaultOf other b t → (a ≡ b) × (s ≡ t) → one ≡ other
at_place one other a b s t f g h =
    same_fault one other b t (subst (λ x. IsFaultOf one b x) h.1 (subst (λ front. IsFaultOf one front s) h.0 f)) g

pub refused_once : (tokens : List Token) (one other : ParseFault) (r : IsRefused one tokens) (q : IsRefused other tokens) → one ≡ other
refused_once tokens one other r q =
    elim (places r.before q.before r.token q.token r.behind q.behind (sym r.whole ∙ q.whole)) [
      | inl h ↦ at_place one other r.before q.before r.token q.token r.why q.why h
      | inr past ↦ elim past [
        | inl p ↦ absurd (never_past one r.before q.before r.token r.why p q.goes_on)
        | inr p ↦ absurd (never_past other q.before r.before q.token q.why p r.goes_on)
      ]
    ]

pub refused_none : (tokens : List Token) (fault : ParseFault) (r : IsRefused fault tokens) (fs : List FunctionTree) → Derives tokens fs → AreWithin fs → ⊥
refused_none tokens fault r fs d w =
    let e : tokens ≡ (r.before ++ (r.token ∷ [])) ++ r.behind = r.whole ∙ sym (append_assoc r.before (r.token ∷ []) r.behind) in
    none_within fault r.before r.token r.why r.behind fs (subst (λ ts. Derives ts fs) e d) w
