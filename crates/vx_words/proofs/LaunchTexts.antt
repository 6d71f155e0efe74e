-- The text of a launch behind `do=`, cut at its slashes.
use Rattle.std.proofs.Common.{◌≡◌, ℕ, ◌<◌, ◌≤◌, ◌^◌, List, ◌∷◌, ◌++◌, refl, sym, ap, ◌∙◌, subst, arith, append_assoc}
use Rattle.std.specs.Prelude.{codes}
use Rattle.std.specs.Fmt.{decimal}
use Rattle.std.specs.Str.Parse.{AllDigits, digits_value}
use Rattle.std.proofs.lemmas.List.{append_cancel_left}
use Rattle.std.proofs.lemmas.Fmt.{digits_decimal}
use Rattle.std.proofs.lemmas.Str.Parse.{IsNumeralModel, numerals_by_value, tells_digits, not_in_digits}
use Rattle.vx_words.specs.Names.{IsName}
use Rattle.vx_words.specs.WordForms.{Lacks, CutsAt}
use Rattle.vx_words.proofs.Texts.{lacks_by_place, lacks_not, cut_same, name_cut}

own : IsNumeralModel (AllDigits 10) (digits_value 10)
own = numerals_by_value (AllDigits 10) tells_digits

pub decimal_lacks_slash : (n : ℕ) → n < 2 ^ 64 → Lacks 47 (decimal n)
decimal_lacks_slash n l = lacks_by_place 47 (decimal n) (not_in_digits own (decimal n) 47 (digits_decimal own n l) (λ r. omega (arith, r.0)))

-- the text of a launch with these parts
abbrev pub IsLaunchText : List ℕ → List ℕ → ℕ → List ℕ → Type 0
IsLaunchText text entry items arguments = text ≡ entry ++ codes "/" ++ decimal items ++ codes "/" ++ decimal items ++ arguments

module _ (text entry arguments : List ℕ) (items : ℕ) (name : IsName entry) (few : items ≤ 32) (spelled : IsLaunchText text entry items arguments) where
  pub regrouped : text ≡ entry ++ 47 ∷ (decimal items ++ 47 ∷ (decimal items ++ arguments))
  regrouped = spelled ∙ simp append_assoc

  pub launch_has_slash : Lacks 47 text → ⊥
  launch_has_slash lacks = lacks_not 47 entry _ (subst (Lacks 47) regrouped lacks)

  module _ (front back : List ℕ) (cuts : CutsAt 47 text front back) where
    first : (front ≡ entry) × (back ≡ decimal items ++ 47 ∷ (decimal items ++ arguments))
    first = name_cut 47 text front back entry _ refl cuts name regrouped

    pub launch_front : front ≡ entry
    launch_front = first.0

    pub launch_has_two : Lacks 47 back → ⊥
    launch_has_two lacks = lacks_not 47 (decimal items) _ (subst (Lacks 47) first.1 lacks)

    module _ (count rest : List ℕ) (cuts' : CutsAt 47 back count rest) where
      second : (count ≡ decimal items) × (rest ≡ decimal items ++ arguments)
      second = cut_same 47 count rest (decimal items) _ cuts'.1 (decimal_lacks_slash items (omega arith)) (sym cuts'.0 ∙ first.1)

      pub launch_count : count ≡ decimal items
      launch_count = second.0

      pub launch_again : rest ≡ count ++ arguments
      launch_again = second.1 ∙ ap (λ (l : List ℕ). l ++ arguments) (sym second.0)

      pub launch_arguments : (behind : List ℕ) → rest ≡ count ++ behind → behind ≡ arguments
      launch_arguments behind e = append_cancel_left count behind arguments (sym e ∙ launch_again)
