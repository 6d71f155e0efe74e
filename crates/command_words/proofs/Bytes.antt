-- Which bytes names and numbers lack.
use Rattle.std.proofs.Common.{◌≡◌, ◌≢◌, ℕ, suc, zero, ◌<◌, Bool, true, false, ◌&&◌, ◌||◌, eqb, List, [], ◌∷◌, length, get_or, inl, inr, refl, sym, ap, ◌∙◌, arith}
use Rattle.std.specs.List.{list_all, AllByRecursion}
use Rattle.std.specs.Char.{is_ascii_digit}
use Rattle.std.specs.Str.{all_ascii_digits, bytes_eq}
use Rattle.std.proofs.lemmas.Bool.{and_parts, cases_Bool, false≢true, ne_eqb}
use Rattle.std.proofs.lemmas.Slice.Eq.{bytes_eq-Decides}
use Rattle.decimal_text.specs.Numerals.{leads_well, is_decimal}
use Rattle.decimal_text.proofs.DecimalTexts.{all_digits}
use Rattle.command_words.specs.Names.{begins_name, is_digit, is_name_byte, is_name}

-- where all bytes pass a test, one that does not pass stands nowhere
pub all_lack : (test : ℕ → Bool) (byte : ℕ) (text : List ℕ) → test byte ≡ false → list_all test text ≡ true → (i : ℕ) → i < length text → get_or text i 0 ≢ byte
all_lack test byte [] out h i l = absurd (omega (arith, l))
all_lack test byte (c ∷ cs) out h zero l = λ e. false≢true (sym out ∙ ap test (sym e) ∙ (and_parts (test c) (list_all test cs) h).0)
all_lack test byte (c ∷ cs) out h (suc i) l = all_lack test byte cs out (and_parts (test c) (list_all test cs) h).1 i (omega (arith, l))

pub all_apart : (test : ℕ → Bool) (byte : ℕ) (text : List ℕ) → test byte ≡ false → list_all test text ≡ true → AllByRecursion (λ b. eqb b byte ≡ false) text
all_apart test byte [] out h = tt
all_apart test byte (c ∷ cs) out h =
    let p = and_parts (test c) (list_all test cs) h in
    (ne_eqb c byte (λ e. false≢true (sym out ∙ ap test (sym e) ∙ p.0)), all_apart test byte cs out p.1)

pub name_all : (text : List ℕ) → is_name text ≡ true → list_all is_name_byte text ≡ true
name_all [] h = refl
name_all (c ∷ cs) h =
    let p = and_parts (begins_name c) (list_all is_name_byte cs) h in
    ap (λ (b : Bool). (b || is_digit c) && list_all is_name_byte cs) p.0 ∙ p.1

pub decimal_all : (text : List ℕ) → is_decimal text ≡ true → list_all is_ascii_digit text ≡ true
decimal_all text h = all_digits text ∙ (and_parts (leads_well text) (all_ascii_digits text) h).1

pub name_lacks : (byte : ℕ) (text : List ℕ) → is_name_byte byte ≡ false → is_name text ≡ true → (i : ℕ) → i < length text → get_or text i 0 ≢ byte
name_lacks byte text out h = all_lack is_name_byte byte text out (name_all text h)

pub decimal_lacks : (byte : ℕ) (text : List ℕ) → is_ascii_digit byte ≡ false → is_decimal text ≡ true → (i : ℕ) → i < length text → get_or text i 0 ≢ byte
decimal_lacks byte text out h = all_lack is_ascii_digit byte text out (decimal_all text h)

-- no digit begins a name
digit_begins_none : (c : ℕ) → is_ascii_digit c ≡ true → begins_name c ≡ true → ⊥
digit_begins_none c d b = grind (arith, d, b)

pub decimal_no_name : (text : List ℕ) → is_decimal text ≡ true → is_name text ≡ false
decimal_no_name [] h = refl
decimal_no_name (c ∷ cs) h =
    elim (cases_Bool (is_name (c ∷ cs))) [
      | inl yes' ↦ absurd (digit_begins_none c
          (and_parts (is_ascii_digit c) (list_all is_ascii_digit cs) (decimal_all (c ∷ cs) h)).0
          (and_parts (begins_name c) (list_all is_name_byte cs) yes').0)
      | inr none ↦ none
    ]

-- a text that is no number is not the same as one
pub decimal_apart : (text other : List ℕ) → is_decimal text ≡ true → is_decimal other ≡ false → bytes_eq text other ≡ false
decimal_apart text other h out =
    elim (cases_Bool (bytes_eq text other)) [
      | inl same ↦ absurd (false≢true (sym out ∙ ap is_decimal (sym ((bytes_eq-Decides text other).0 same)) ∙ h))
      | inr differ ↦ differ
    ]

pub and_false : (b : Bool) → (b && false) ≡ false
and_false true = refl
and_false false = refl
