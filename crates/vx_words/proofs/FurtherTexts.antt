-- The words behind the file, told apart by their fronts.
use Rattle.std.proofs.Common.{◌≡◌, ℕ, ◌≤◌, List, [], ◌∷◌, ◌++◌, get_or, drop, arith, refl, sym, ap, ◌∙◌}
use Rattle.std.specs.Prelude.{codes}
use Rattle.std.specs.List.{AllByRecursion}
use Rattle.vx_words.specs.declared.further.DoWord.{DoWord}
use Rattle.vx_words.specs.Names.{IsName}
use Rattle.std.proofs.Common.{eqb}
use Rattle.std.specs.List.{join_with_byte, slice_split}
use Rattle.std.specs.Fmt.{decimal}
use Rattle.std.proofs.lemmas.Fmt.{decimal_injective}
use Rattle.std.proofs.lemmas.List.{append_assoc}
use Rattle.vx_words.specs.declared.run_words.BufFrom.{BufFrom}
use Rattle.vx_words.specs.declared.run_words.BufFrom.TheVariants.{File, Zero}
use Rattle.vx_words.specs.declared.run_words.BufWord.{BufWord}
use Rattle.vx_words.specs.Words.{Further, Buffer, Launch, Show, word_text, origin_text, arguments_text, IsOrigin}
use Rattle.vx_words.specs.WordForms.{IsFurther, CutsAt}
use Rattle.vx_words.proofs.Texts.{name_lacks, buffer_cut, slice_split-join_with_byte}
use Rattle.vx_words.proofs.LaunchTexts.{IsLaunchText, launch_front, launch_count, launch_arguments, regrouped, decimal_lacks_slash}

abbrev pub head_of : List ℕ → ℕ
head_of l = get_or l 0 0

-- the text of a launch behind `do=`
abbrev pub IsDoText : List ℕ → DoWord → Type 0
IsDoText rest d = IsName d.entry × (1 ≤ d.items) × (d.items ≤ 32) × AllByRecursion IsName d.names × IsLaunchText rest d.entry d.items (arguments_text d.names)

-- where no launch is spelled behind `do=`, the word is none
pub not_launch : (word rest : List ℕ) → word ≡ codes "do=" ++ rest → ((d : DoWord) → IsDoText rest d → ⊥) → (f : Further) → IsFurther f → word ≡ word_text f → ⊥
not_launch word rest e none (Buffer b) h spelled =
    let heads : ◌≡◌ {A = ℕ} 100 98 = ap head_of (sym e ∙ spelled) in
    absurd (omega arith)
not_launch word rest e none (Launch entry items names) h spelled =
    let t : IsLaunchText rest entry items (arguments_text names) = ap (drop 3) (sym e ∙ spelled) in
    none (record { entry = entry; items = items; names = names }) (h.0, h.1, h.2, h.3, t)
not_launch word rest e none (Show name) h spelled =
    let heads : ◌≡◌ {A = ℕ} 100 115 = ap head_of (sym e ∙ spelled) in
    absurd (omega arith)

origin_same : (f g : BufFrom) → IsOrigin f → IsOrigin g → origin_text f ≡ origin_text g → f ≡ g
origin_same (File p) (File q) h k e = ap (λ (l : List ℕ). File l) (ap (drop 3) e)
origin_same (File p) (Zero n) h k e = let heads : ◌≡◌ {A = ℕ} 105 122 = ap head_of e in absurd (omega arith)
origin_same (Zero m) (File q) h k e = let heads : ◌≡◌ {A = ℕ} 122 105 = ap head_of e in absurd (omega arith)
origin_same (Zero m) (Zero n) h k e =
    let texts : decimal m ≡ decimal n = ap (drop 5) e in
    ap (λ (l : ℕ). Zero l) (decimal_injective m n (omega arith) (omega arith) texts)

arguments_same : (xs ys : List (List ℕ)) → AllByRecursion IsName xs → AllByRecursion IsName ys → arguments_text xs ≡ arguments_text ys → xs ≡ ys
arguments_same [] [] h k e = refl
arguments_same [] (y ∷ ys) h k e = let heads : ◌≡◌ {A = ℕ} 0 47 = ap head_of e in absurd (omega arith)
arguments_same (x ∷ xs) [] h k e = let heads : ◌≡◌ {A = ℕ} 47 0 = ap head_of e in absurd (omega arith)
arguments_same (x ∷ xs) (y ∷ ys) h k e =
    let texts : join_with_byte 44 (x ∷ xs) ≡ join_with_byte 44 (y ∷ ys) = ap (drop 1) e in
    sym (slice_split-join_with_byte (x ∷ xs) h (λ n. cc)) ∙ ap (slice_split (λ b. eqb b 44)) texts ∙ slice_split-join_with_byte (y ∷ ys) k (λ n. cc)

buffer_same : (b d : BufWord) → IsFurther (Buffer b) → IsFurther (Buffer d) → word_text (Buffer b) ≡ word_text (Buffer d) → Buffer b ≡ Buffer d
buffer_same b d h k e =
    let texts : b.name ++ codes ":int:" ++ origin_text b.from ≡ d.name ++ codes ":int:" ++ origin_text d.from = ap (drop 4) e in
    let cuts : CutsAt 58 (b.name ++ codes ":int:" ++ origin_text b.from) b.name (codes "int:" ++ origin_text b.from) = (append_assoc b.name (codes ":int:") (origin_text b.from), name_lacks 58 b.name refl h.0) in
    let parts = buffer_cut _ b.name (codes "int:" ++ origin_text b.from) d.name (origin_text d.from) cuts k.0 texts in
    let names : b.name ≡ d.name = parts.0 in
    let froms : b.from ≡ d.from = origin_same b.from d.from h.1 k.1 (ap (drop 4) parts.1) in
    let one : Buffer b ≡ Buffer (record { name = d.name; from = b.from }) = ap (λ (n : List ℕ). Buffer (record { name = n; from = b.from })) names in
    one ∙ ap (λ (f : BufFrom). Buffer (record { name = d.name; from = f })) froms

launch_same : (entry : List ℕ) (items : ℕ) (names : List (List ℕ)) (entry' : List ℕ) (items' : ℕ) (names' : List (List ℕ)) → IsFurther (Launch entry items names) → IsFurther (Launch entry' items' names') → word_text (Launch entry items names) ≡ word_text (Launch entry' items' names') → Launch entry items names ≡ Launch entry' items' names'
launch_same entry items names entry' items' names' h k e =
    let text = entry ++ codes "/" ++ decimal items ++ codes "/" ++ decimal items ++ arguments_text names in
    let texts : IsLaunchText text entry' items' (arguments_text names') = ap (drop 3) e in
    let back = decimal items ++ 47 ∷ (decimal items ++ arguments_text names) in
    let cuts : CutsAt 47 text entry back = (regrouped text entry (arguments_text names) items h.0 h.2 refl, name_lacks 47 entry refl h.0) in
    let rest = decimal items ++ arguments_text names in
    let cuts' : CutsAt 47 back (decimal items) rest = (refl, decimal_lacks_slash items (omega (arith, h.2))) in
    let entries : entry ≡ entry' = launch_front text entry' (arguments_text names') items' k.0 k.2 texts entry back cuts in
    let counts : decimal items ≡ decimal items' = launch_count text entry' (arguments_text names') items' k.0 k.2 texts entry back cuts (decimal items) rest cuts' in
    let numbers : items ≡ items' = decimal_injective items items' (omega (arith, h.2)) (omega (arith, k.2)) counts in
    let arguments = launch_arguments text entry' (arguments_text names') items' k.0 k.2 texts entry back cuts (decimal items) rest cuts' (arguments_text names) refl in
    let same : names ≡ names' = arguments_same names names' h.3 k.3 arguments in
    cc

-- a word is written for one thing
pub word_same : (f g : Further) → IsFurther f → IsFurther g → word_text f ≡ word_text g → f ≡ g
word_same (Buffer b) (Buffer d) h k e = buffer_same b d h k e
word_same (Launch entry items names) (Launch entry' items' names') h k e = launch_same entry items names entry' items' names' h k e
word_same (Show n) (Show m) h k e = ap (λ (l : List ℕ). Show l) (ap (drop 5) e)
word_same (Buffer b) (Launch entry items names) h k e = let heads : ◌≡◌ {A = ℕ} 98 100 = ap head_of e in absurd (omega arith)
word_same (Buffer b) (Show n) h k e = let heads : ◌≡◌ {A = ℕ} 98 115 = ap head_of e in absurd (omega arith)
word_same (Launch entry items names) (Buffer b) h k e = let heads : ◌≡◌ {A = ℕ} 100 98 = ap head_of e in absurd (omega arith)
word_same (Launch entry items names) (Show n) h k e = let heads : ◌≡◌ {A = ℕ} 100 115 = ap head_of e in absurd (omega arith)
word_same (Show n) (Buffer b) h k e = let heads : ◌≡◌ {A = ℕ} 115 98 = ap head_of e in absurd (omega arith)
word_same (Show n) (Launch entry items names) h k e = let heads : ◌≡◌ {A = ℕ} 115 100 = ap head_of e in absurd (omega arith)
