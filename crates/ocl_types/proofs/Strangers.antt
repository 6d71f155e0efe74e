-- The first argument of a wrong kind, among those that are left at a place.
use Rattle.std.proofs.Common.{◌≡◌, ℕ, zero, suc, ◌+◌, ◌<◌, ◌≤◌, Bool, true, false, not, cond, List, [], ◌∷◌, map, zip, find, length, drop, get_or, slice_get, Option, None, Some, option_map, refl, sym, ap, ◌∙◌, arith}
use Rattle.vx_base.specs.declared.types.Pos.{Pos}
use Rattle.ocl_ast.specs.declared.units.Param.{Param}
use Rattle.ocl_types.specs.declared.names.Given.{Given}
use Rattle.ocl_types.specs.Exprs.{first_stranger, first_not_word, given_pos, is_of_kind, is_word}

suc_is : (i : ℕ) → suc i ≡ i + 1
suc_is i = omega arith

found_from : {A : Type 0} (xs : List A) (i : ℕ) (x : A) → slice_get xs i ≡ Some x → drop i xs ≡ x ∷ drop (suc i) xs
found_from [] i x is = cc
found_from (y ∷ ys) zero x is = let e : y ≡ x = cc in ap (λ z. z ∷ ys) e
found_from (y ∷ ys) (suc i) x is = found_from ys i x is

missing_from : {A : Type 0} (xs : List A) (i : ℕ) → slice_get xs i ≡ None → drop i xs ≡ []
missing_from [] zero is = refl
missing_from [] (suc i) is = refl
missing_from (y ∷ ys) zero is = cc
missing_from (y ∷ ys) (suc i) is = missing_from ys i is

left_from : {A : Type 0} (xs : List A) (i : ℕ) (x : A) → i < length xs → x ≡ get_or xs i x → drop i xs ≡ x ∷ drop (suc i) xs
left_from [] i x within is = absurd (omega arith)
left_from (y ∷ ys) zero x within is = ap (λ z. z ∷ ys) (sym is)
left_from (y ∷ ys) (suc i) x within is = left_from ys i x (omega arith) is

behind : {A : Type 0} (xs : List A) (i : ℕ) → length xs ≤ i → drop i xs ≡ []
behind [] zero past = refl
behind [] (suc i) past = refl
behind (y ∷ ys) zero past = absurd (omega arith)
behind (y ∷ ys) (suc i) past = behind ys i (omega arith)

abbrev pair_pos : Param × Given → Pos
pair_pos pair = given_pos pair.1

abbrev strange : Param × Given → Bool
strange pair = not (is_of_kind pair.0.kind pair.1)

-- what is left at a place of both lists
both_left : (params : List Param) (given : List Given) (i : ℕ) (p : Param) (g : Given) → slice_get params i ≡ Some p → i < length given → g ≡ get_or given i g →
    first_stranger (drop i params) (drop i given) ≡ option_map pair_pos (cond (not (is_of_kind p.kind g)) (Some (p, g)) (find strange (zip (drop (i + 1) params) (drop (i + 1) given))))
both_left params given i p g found within is =
    ap (λ ps. first_stranger ps (drop i given)) (found_from params i p found ∙ ap (λ j. p ∷ drop j params) (suc_is i)) ∙
    ap (λ gs. first_stranger (p ∷ drop (i + 1) params) gs) (left_from given i g within is ∙ ap (λ j. g ∷ drop j given) (suc_is i))

pub stranger_here : (params : List Param) (given : List Given) (i : ℕ) (p : Param) (g : Given) (whole : Option Pos) → slice_get params i ≡ Some p → i < length given → g ≡ get_or given i g →
    is_of_kind p.kind g ≡ false → first_stranger (drop i params) (drop i given) ≡ whole → whole ≡ Some (given_pos g)
stranger_here params given i p g whole found within is strange_is known =
    sym known ∙ both_left params given i p g found within is ∙
    ap (λ b. option_map pair_pos (cond (not b) (Some (p, g)) (find strange (zip (drop (i + 1) params) (drop (i + 1) given))))) strange_is

pub no_stranger_here : (params : List Param) (given : List Given) (i : ℕ) (p : Param) (g : Given) (whole : Option Pos) → slice_get params i ≡ Some p → i < length given → g ≡ get_or given i g →
    is_of_kind p.kind g ≡ true → first_stranger (drop i params) (drop i given) ≡ whole → first_stranger (drop (i + 1) params) (drop (i + 1) given) ≡ whole
no_stranger_here params given i p g whole found within is fits known =
    sym (ap (λ b. option_map pair_pos (cond (not b) (Some (p, g)) (find strange (zip (drop (i + 1) params) (drop (i + 1) given))))) fits) ∙
    sym (both_left params given i p g found within is) ∙ known

pub no_param : (params : List Param) (given : List Given) (i : ℕ) (whole : Option Pos) → slice_get params i ≡ None → first_stranger (drop i params) (drop i given) ≡ whole → whole ≡ None
no_param params given i whole missing known = sym known ∙ ap (λ ps. first_stranger ps (drop i given)) (missing_from params i missing)

zip_none : (ps : List Param) → first_stranger ps [] ≡ None
zip_none [] = refl
zip_none (p ∷ ps) = refl

pub none_given : (params : List Param) (given : List Given) (i : ℕ) (whole : Option Pos) → length given ≤ i → first_stranger (drop i params) (drop i given) ≡ whole → whole ≡ None
none_given params given i whole past known = sym known ∙ ap (λ gs. first_stranger (drop i params) gs) (behind given i past) ∙ zip_none (drop i params)

one_left : (given : List Given) (i : ℕ) (g : Given) → i < length given → g ≡ get_or given i g →
    first_not_word (drop i given) ≡ option_map given_pos (cond (not (is_word g)) (Some g) (find (λ (h : Given). not (is_word h)) (drop (i + 1) given)))
one_left given i g within is = ap first_not_word (left_from given i g within is ∙ ap (λ j. g ∷ drop j given) (suc_is i))

pub no_word_here : (given : List Given) (i : ℕ) (g : Given) (whole : Option Pos) → i < length given → g ≡ get_or given i g → is_word g ≡ false → first_not_word (drop i given) ≡ whole → whole ≡ Some (given_pos g)
no_word_here given i g whole within is other known =
    sym known ∙ one_left given i g within is ∙ ap (λ b. option_map given_pos (cond (not b) (Some g) (find (λ (h : Given). not (is_word h)) (drop (i + 1) given)))) other

pub word_here : (given : List Given) (i : ℕ) (g : Given) (whole : Option Pos) → i < length given → g ≡ get_or given i g → is_word g ≡ true → first_not_word (drop i given) ≡ whole → first_not_word (drop (i + 1) given) ≡ whole
word_here given i g whole within is word known =
    sym (ap (λ b. option_map given_pos (cond (not b) (Some g) (find (λ (h : Given). not (is_word h)) (drop (i + 1) given)))) word) ∙ sym (one_left given i g within is) ∙ known

pub no_more_words : (given : List Given) (i : ℕ) (whole : Option Pos) → length given ≤ i → first_not_word (drop i given) ≡ whole → whole ≡ None
no_more_words given i whole past known = sym known ∙ ap first_not_word (behind given i past)
