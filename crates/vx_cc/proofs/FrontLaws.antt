-- From stage to stage of the front.
use Rattle.std.proofs.Common.{◌≡◌, ◌⊎◌, ℕ, zero, suc, ◌≤◌, List, [], ◌∷◌, length, refl, ap, subst, inl, inr, arith}
use Rattle.std.specs.Prelude.{Result, Ok, Err, IfOk}
use Rattle.ocl_ast.specs.Trees.{FunctionTree}
use Rattle.ocl_lex.specs.Events.{Event, Show, Use, Stop, within, with_front}
use Rattle.ocl_lex.specs.Lines.{tokens_of}
use Rattle.ocl_lex.specs.Spans.{StandIn}
use Rattle.ocl_lex.specs.declared.faults.LexFault.{LexFault}
use Rattle.ocl_lex.specs.declared.faults.LexFault.TheVariants as lex
use Rattle.ocl_parser.specs.Faults.{AreEnded, IsRefused}
use Rattle.ocl_parser.specs.declared.parsing.ParseFault.{ParseFault}
use Rattle.ocl_parser.specs.declared.parsing.ParseFault.TheVariants as parse
use Rattle.ocl_tokens.specs.declared.tokens.Token.{Token}
use Rattle.ocl_types.specs.Functions.{program_of}
use Rattle.ocl_types.specs.declared.faults.TypeFault.{TypeFault}
use Rattle.ocl_types.specs.declared.faults.TypeFault.TheVariants as types
use Rattle.vx_cc.specs.Faults.{lex_fault, parse_fault, type_fault, no_memory}
use Rattle.vx_cc.specs.Fronts.{Reads, FrontOf, BadTokens, BadTree, BadTypes}

-- ---- tokens

-- tokens in front of others
fronted : (t : Token) (r : Result (List Token) LexFault) (tokens : List Token) → with_front (t ∷ []) r ≡ Ok tokens → (rest : List Token) × (r ≡ Ok rest) × (t ∷ rest ≡ tokens)
fronted t (Ok rest) tokens e = (rest, refl, cc)
fronted t (Err f) tokens e = absurd cc

few_within : (n : ℕ) (events : List Event) (tokens : List Token) → within n events ≡ Ok tokens → length tokens ≤ n
unfolding within
few_within n [] tokens e = let none : [] ≡ tokens = cc in subst (λ (ts : List Token). length ts ≤ n) none (omega arith)
few_within n (Stop f ∷ events) tokens e = absurd cc
few_within zero (Show t ∷ events) tokens e = absurd cc
few_within (suc n) (Show t ∷ events) tokens e =
    let f = fronted t (within n events) tokens e in
    let fewer = few_within n events f.0 f.1 in
    subst (λ (ts : List Token). length ts ≤ suc n) f.2 (omega (arith, fewer))
few_within zero (Use pos ∷ events) tokens e = absurd cc
few_within (suc n) (Use pos ∷ events) tokens e = let fewer = few_within n events tokens e in omega (arith, fewer)

-- a text has at most 1,048,576 tokens
pub few_tokens : (bytes : List ℕ) (tokens : List Token) → tokens_of bytes ≡ Ok tokens → length tokens ≤ 1048576
unfolding tokens_of
few_tokens bytes tokens e = few_within _ _ tokens e

-- and the last is its end
pub are_ended : (bytes : List ℕ) (tokens : List Token) → StandIn bytes tokens → AreEnded tokens
are_ended bytes tokens (before, is, order) = (before, _, is, refl)

-- ---- faults

pub bad_tokens : (bytes : List ℕ) (fault : LexFault) → (fault ≡ lex.Memory) ⊎ (tokens_of bytes ≡ Err fault) → (lex_fault fault ≡ no_memory) ⊎ FrontOf bytes (Err (lex_fault fault))
bad_tokens bytes fault (inl e) = inl (ap lex_fault e)
bad_tokens bytes fault (inr e) = inr (BadTokens fault e)

pub bad_tree : (tokens : List Token) (fault : ParseFault) → AreEnded tokens → (fault ≡ parse.Memory) ⊎ (AreEnded tokens → IsRefused fault tokens)
    → (parse_fault fault ≡ no_memory) ⊎ ((bytes : List ℕ) → tokens_of bytes ≡ Ok tokens → FrontOf bytes (Err (parse_fault fault)))
bad_tree tokens fault ended (inl e) = inl (ap parse_fault e)
bad_tree tokens fault ended (inr refused) = inr (λ bytes lexed. BadTree tokens fault lexed (refused ended))

pub bad_types : (functions : List FunctionTree) (fault : TypeFault) → (fault ≡ types.Memory) ⊎ (program_of functions ≡ Err fault)
    → (type_fault fault ≡ no_memory) ⊎ ((bytes : List ℕ) → Reads bytes functions → FrontOf bytes (Err (type_fault fault)))
bad_types functions fault (inl e) = inl (ap type_fault e)
bad_types functions fault (inr e) = inr (λ bytes reads. BadTypes functions fault reads e)

-- ---- results

-- what is known of a value says more of it
pub ok_map : {T E : Type 0} (r : Result T E) (P Q : T → Type 0) → ((t : T) → P t → Q t) → IfOk r P → IfOk r Q
ok_map (Ok t) P Q f h = f t h
ok_map (Err e) P Q f h = tt
