-- The bytes of a kernel file come to one thing.
use Rattle.std.proofs.Common.{◌≡◌, ℕ, List, ap, subst, ◌∙◌}
use Rattle.std.specs.Prelude.{Result, Ok, Err}
use Rattle.ocl_ast.specs.Trees.{FunctionTree}
use Rattle.ocl_lex.specs.Lines.{tokens_of}
use Rattle.ocl_lex.specs.declared.faults.LexFault.{LexFault}
use Rattle.ocl_parser.specs.Faults.{IsRefused}
use Rattle.ocl_parser.specs.Units.{Derives}
use Rattle.ocl_parser.specs.declared.parsing.ParseFault.{ParseFault}
use Rattle.ocl_parser.proofs.RefusalLaws.{refused_once, refused_none}
use Rattle.ocl_parser.proofs.UnitComplete.{one_file}
use Rattle.ocl_program.specs.Nodes.{FunctionNode}
use Rattle.ocl_tokens.specs.declared.tokens.Token.{Token}
use Rattle.ocl_types.specs.Functions.{program_of}
use Rattle.ocl_types.specs.declared.faults.TypeFault.{TypeFault}
use Rattle.vx_cc.specs.declared.faults.SourceFault.{SourceFault}
use Rattle.vx_cc.specs.Faults.{lex_fault, parse_fault, type_fault}
use Rattle.vx_cc.specs.Fronts.{Reads, FrontOf, BadTokens, BadTree, BadTypes, HasProgram}

oks_same : {X E : Type 0} (r : Result X E) (x y : X) → r ≡ Ok x → r ≡ Ok y → x ≡ y
oks_same r x y e f = cc

errs_same : {X E : Type 0} (r : Result X E) (x y : E) → r ≡ Err x → r ≡ Err y → x ≡ y
errs_same r x y e f = cc

ok_err : {X E : Type 0} (r : Result X E) (x : X) (y : E) → r ≡ Ok x → r ≡ Err y → ⊥
ok_err r x y e f = cc

module _ (bytes : List ℕ) where
  one_reading : (fs gs : List FunctionTree) → Reads bytes fs → Reads bytes gs → fs ≡ gs
  one_reading fs gs r s =
      let same : s.tokens ≡ r.tokens = oks_same (tokens_of bytes) s.tokens r.tokens s.lexed r.lexed in
      one_file r.tokens fs gs r.derives (subst (λ ts. Derives ts gs) same s.derives)

  -- what is refused is not read
  not_read : (tokens : List Token) (fault : ParseFault) (fs : List FunctionTree) → tokens_of bytes ≡ Ok tokens → IsRefused fault tokens → Reads bytes fs → ⊥
  not_read tokens fault fs lexed refused r =
      let same : r.tokens ≡ tokens = oks_same (tokens_of bytes) r.tokens tokens r.lexed lexed in
      refused_none tokens fault refused fs (subst (λ ts. Derives ts fs) same r.derives) r.within

  -- two readings have one typing
  typed_same : (fs gs : List FunctionTree) (r : Result (List FunctionNode) TypeFault) → Reads bytes fs → Reads bytes gs → program_of gs ≡ r → program_of fs ≡ r
  typed_same fs gs r h h' e = ap program_of (one_reading fs gs h h') ∙ e

  pub one_front : (r s : Result (List FunctionNode) SourceFault) → FrontOf bytes r → FrontOf bytes s → r ≡ s
  one_front r s (BadTokens f e) (BadTokens g e') = ap (λ (x : LexFault). Err (lex_fault x)) (errs_same (tokens_of bytes) f g e e')
  one_front r s (BadTokens f e) (BadTree ts g e' refused) = absurd (ok_err (tokens_of bytes) ts f e' e)
  one_front r s (BadTokens f e) (BadTypes gs g reads e') = absurd (ok_err (tokens_of bytes) reads.tokens f reads.lexed e)
  one_front r s (BadTokens f e) (HasProgram gs p reads e') = absurd (ok_err (tokens_of bytes) reads.tokens f reads.lexed e)
  one_front r s (BadTree ts f e refused) (BadTokens g e') = absurd (ok_err (tokens_of bytes) ts g e e')
  one_front r s (BadTree ts f e refused) (BadTree ts' g e' refused') =
      let same : ts' ≡ ts = oks_same (tokens_of bytes) ts' ts e' e in
      ap (λ (x : ParseFault). Err (parse_fault x)) (refused_once ts f g refused (subst (λ x. IsRefused g x) same refused'))
  one_front r s (BadTree ts f e refused) (BadTypes gs g reads e') = absurd (not_read ts f gs e refused reads)
  one_front r s (BadTree ts f e refused) (HasProgram gs p reads e') = absurd (not_read ts f gs e refused reads)
  one_front r s (BadTypes fs f reads e) (BadTokens g e') = absurd (ok_err (tokens_of bytes) reads.tokens g reads.lexed e')
  one_front r s (BadTypes fs f reads e) (BadTree ts g e' refused) = absurd (not_read ts g fs e' refused reads)
  one_front r s (BadTypes fs f reads e) (BadTypes gs g reads' e') =
      ap (λ (x : TypeFault). Err (type_fault x)) (errs_same (program_of fs) f g e (typed_same fs gs (Err g) reads reads' e'))
  one_front r s (BadTypes fs f reads e) (HasProgram gs p reads' e') = absurd (ok_err (program_of fs) p f (typed_same fs gs (Ok p) reads reads' e') e)
  one_front r s (HasProgram fs p reads e) (BadTokens g e') = absurd (ok_err (tokens_of bytes) reads.tokens g reads.lexed e')
  one_front r s (HasProgram fs p reads e) (BadTree ts g e' refused) = absurd (not_read ts g fs e' refused reads)
  one_front r s (HasProgram fs p reads e) (BadTypes gs g reads' e') = absurd (ok_err (program_of fs) p g e (typed_same fs gs (Err g) reads reads' e'))
  one_front r s (HasProgram fs p reads e) (HasProgram gs q reads' e') = ap Ok (oks_same (program_of fs) p q e (typed_same fs gs (Ok q) reads reads' e'))
