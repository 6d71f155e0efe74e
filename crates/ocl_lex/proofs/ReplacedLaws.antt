-- What a replacement shows, without counting how deep replacements stand.
use Rattle.std.proofs.Common.{◌≡◌, ℕ, zero, suc, ◌<◌, ◌≤◌, Bool, true, List, [], ◌∷◌, length, Option, Some, None, refl, sym, ap, subst, ◌∙◌, arith}
use Rattle.std.proofs.Math.Path.{fun_ext}
use Rattle.std.specs.List.{flat_map}
use Rattle.std.specs.Str.{bytes_eq}
use Rattle.ocl_lex.specs.declared.parts.Lexeme.{Lexeme}
use Rattle.ocl_lex.specs.declared.parts.Lexeme.TheVariants as part
use Rattle.ocl_lex.specs.declared.pieces.Piece.{Piece}
use Rattle.ocl_lex.specs.Events.{Show, Use}
use Rattle.ocl_lex.specs.Macros.{Macros, found, replaced, replacement_of, shows, without}
use Rattle.ocl_lex.specs.Parts.{name_of, token_at}
use Rattle.ocl_lex.proofs.TableLaws.{by_test}

pub by_option : {A : Type 0} {P : Type 0} (o : Option A) → (o ≡ None → P) → ((x : A) → o ≡ Some x → P) → P
by_option None none some = none refl
by_option (Some x) none some = some x refl

-- without a name that is not there, and without one that is
not_longer : (name : List ℕ) (macros : Macros) → length (without name macros) ≤ length macros
not_longer name [] = omega arith
not_longer name (m ∷ macros) = by_test (bytes_eq name m.0)
    (λ t. rw t (let rest : length (without name macros) ≤ length macros = not_longer name macros in omega arith))
    (λ t. rw t (let rest : length (without name macros) ≤ length macros = not_longer name macros in omega arith))

pub shorter : (name : List ℕ) (macros : Macros) (body : List Lexeme) → replacement_of name macros ≡ Some body → length (without name macros) < length macros
shorter name [] body h = cc
shorter name (m ∷ macros) body h = by_test (bytes_eq name m.0)
    (λ t. rw t (let rest : length (without name macros) ≤ length macros = not_longer name macros in omega arith))
    (λ t. rw t (let rest : length (without name macros) < length macros = shorter name macros body (rw t at h) in omega arith))

found_name : (text : List ℕ) (macros : Macros) (p : Lexeme) (body : List Lexeme) → found text macros p ≡ Some body → replacement_of (name_of text p) macros ≡ Some body
found_name text macros (part.Name start end) body h = h
found_name text macros (part.Number value unsigned) body h = cc
found_name text macros (part.Mark m) body h = cc

none_found : (text : List ℕ) (p : Lexeme) → found text [] p ≡ None
none_found text (part.Name start end) = refl
none_found text (part.Number value unsigned) = refl
none_found text (part.Mark m) = refl

step_found : (text : List ℕ) (n : ℕ) (macros : Macros) (made : Bool) (at : Piece) (p : Lexeme) (body : List Lexeme) → found text macros p ≡ Some body
    → shows text (suc n) macros made at p ≡ Use at.pos ∷ flat_map (shows text n (without (name_of text p) macros) true at) body
unfolding shows
step_found text n macros made at p body h = rw h refl

step_plain : (text : List ℕ) (n : ℕ) (macros : Macros) (made : Bool) (at : Piece) (p : Lexeme) → found text macros p ≡ None
    → shows text n macros made at p ≡ Show (token_at text made at p) ∷ []
unfolding shows
step_plain text zero macros made at p h = refl
step_plain text (suc n) macros made at p h = rw h refl

no_macros : (macros : Macros) → length macros ≤ 0 → macros ≡ []
no_macros [] h = refl
no_macros (m ∷ macros) h = absurd (omega arith)

-- enough depth is enough
pub enough : (text : List ℕ) (n k : ℕ) (macros : Macros) (made : Bool) (at : Piece) (p : Lexeme) → length macros ≤ n → length macros ≤ k
    → shows text n macros made at p ≡ shows text k macros made at p
enough text zero k macros made at p below_n below_k =
    let none : found text macros p ≡ None = subst (λ ms. found text ms p ≡ None) (sym (no_macros macros below_n)) (none_found text p) in
    step_plain text zero macros made at p none ∙ sym (step_plain text k macros made at p none)
enough text (suc n) zero macros made at p below_n below_k =
    let none : found text macros p ≡ None = subst (λ ms. found text ms p ≡ None) (sym (no_macros macros below_k)) (none_found text p) in
    step_plain text (suc n) macros made at p none ∙ sym (step_plain text zero macros made at p none)
enough text (suc n) (suc k) macros made at p below_n below_k = by_option (found text macros p)
    (λ none. step_plain text (suc n) macros made at p none ∙ sym (step_plain text (suc k) macros made at p none))
    (λ body some.
    let less : length (without (name_of text p) macros) < length macros = shorter (name_of text p) macros body (found_name text macros p body some) in
    let in_n : length (without (name_of text p) macros) ≤ n = omega arith in
    let in_k : length (without (name_of text p) macros) ≤ k = omega arith in
    let same : shows text n (without (name_of text p) macros) true at ≡ shows text k (without (name_of text p) macros) true at =
    fun_ext (λ q. enough text n k (without (name_of text p) macros) true at q in_n in_k) in
    step_found text n macros made at p body some ∙ ap (λ g. Use at.pos ∷ flat_map g body) same ∙ sym (step_found text k macros made at p body some))

pub replaced_plain : (text : List ℕ) (macros : Macros) (made : Bool) (at : Piece) (p : Lexeme) → found text macros p ≡ None
    → replaced text macros made at p ≡ Show (token_at text made at p) ∷ []
replaced_plain text macros made at p none = step_plain text (length macros) macros made at p none

pub replaced_found : (text : List ℕ) (macros : Macros) (made : Bool) (at : Piece) (p : Lexeme) (body : List Lexeme) → found text macros p ≡ Some body
    → replaced text macros made at p ≡ Use at.pos ∷ flat_map (replaced text (without (name_of text p) macros) true at) body
replaced_found text macros made at p body some =
    let less : length (without (name_of text p) macros) < length macros = shorter (name_of text p) macros body (found_name text macros p body some) in
    let one : shows text (length macros) macros made at p ≡ shows text (suc (length macros)) macros made at p = enough text (length macros) (suc (length macros)) macros made at p (omega arith) (omega arith) in
    let same : shows text (length macros) (without (name_of text p) macros) true at ≡ replaced text (without (name_of text p) macros) true at =
    fun_ext (λ q. enough text (length macros) (length (without (name_of text p) macros)) (without (name_of text p) macros) true at q (omega arith) (omega arith)) in
    one ∙ step_found text (length macros) macros made at p body some ∙ ap (λ g. Use at.pos ∷ flat_map g body) same
