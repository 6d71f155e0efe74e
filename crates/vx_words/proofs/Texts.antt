-- Texts that are cut at a byte, and names, which lack the bytes at which words are cut.
use Rattle.std.proofs.Common.{◌≡◌, ◌≢◌, ℕ, suc, ◌<◌, ◌≤◌, ◌^◌, ◌-◌, take, drop, Bool, eqb, true, false, ◌&&◌, ◌||◌, subst, List, [], ◌∷◌, ◌++◌, length, get_or, refl, sym, ap, ◌∙◌, arith, append_assoc}
use Rattle.std.proofs.lemmas.Bool.{and_parts, false≢true, ne_eqb}
use Rattle.std.specs.List.{All, AllByRecursion, list_all, join_with_byte, slice_split}
use Rattle.std.proofs.lemmas.List.Elements.{All-nil, All-cons}
use Rattle.std.proofs.lemmas.List.Splits.{slice_split_none, slice_split_at, length-slice_split}
use Rattle.std.specs.Prelude.{codes}
use Rattle.std.specs.Fmt.{decimal}
use Rattle.std.proofs.lemmas.List.{take_all}
use Rattle.std.proofs.lemmas.Fmt.{decimal_injective}
use Rattle.vx_words.specs.Names.{begins_name, is_digit, is_name_byte, is_name, IsName}
use Rattle.vx_words.specs.WordForms.{Lacks, CutsAt}

-- where each byte stands in the list, none of them is this one
pub lacks_by_place : (byte : ℕ) (text : List ℕ) → ((i : ℕ) → i < length text → get_or text i 0 ≢ byte) → Lacks byte text
lacks_by_place byte [] h = tt
lacks_by_place byte (c ∷ cs) h = (h 0 (omega arith), lacks_by_place byte cs (λ i l. h (suc i) (omega arith)))

-- a text is cut at the first place of a byte in one way
pub cut_same : (byte : ℕ) (front back front' back' : List ℕ) → Lacks byte front → Lacks byte front' → front ++ byte ∷ back ≡ front' ++ byte ∷ back' → (front ≡ front') × (back ≡ back')
cut_same byte [] back [] back' l l' e = (refl, cc)
cut_same byte [] back (c ∷ cs) back' l l' e = let h : c ≡ byte = cc in absurd (l'.0 h)
cut_same byte (c ∷ cs) back [] back' l l' e = let h : c ≡ byte = cc in absurd (l.0 h)
cut_same byte (c ∷ cs) back (d ∷ ds) back' l l' e =
    let h : c ≡ d = cc in
    let t : cs ++ byte ∷ back ≡ ds ++ byte ∷ back' = cc in
    let p = cut_same byte cs back ds back' l.1 l'.1 t in
    (cc, p.1)

-- a text with the byte in it does not lack it
pub lacks_not : (byte : ℕ) (front back : List ℕ) → Lacks byte (front ++ byte ∷ back) → ⊥
lacks_not byte [] back l = l.0 refl
lacks_not byte (c ∷ cs) back l = lacks_not byte cs back l.1

name_bytes_lack : (byte : ℕ) (cs : List ℕ) → is_name_byte byte ≡ false → list_all is_name_byte cs ≡ true → Lacks byte cs
name_bytes_lack byte [] out h = tt
name_bytes_lack byte (c ∷ cs) out h =
    let p = and_parts (is_name_byte c) (list_all is_name_byte cs) h in
    (λ e. false≢true (sym out ∙ ap is_name_byte (sym e) ∙ p.0), name_bytes_lack byte cs out p.1)

-- a name lacks each byte that may not stand in one
pub name_lacks : (byte : ℕ) (name : List ℕ) → is_name_byte byte ≡ false → IsName name → Lacks byte name
name_lacks byte [] out h = tt
name_lacks byte (c ∷ cs) out h =
    let p = and_parts (begins_name c) (list_all is_name_byte cs) h in
    (λ e. false≢true (sym out ∙ ap is_name_byte (sym e) ∙ ap (λ b. b || is_digit c) p.0), name_bytes_lack byte cs out p.1)

-- where a text is cut at a byte behind a name, the front is the name
pub name_cut : (byte : ℕ) (text front back name rest : List ℕ) → is_name_byte byte ≡ false → CutsAt byte text front back → IsName name → text ≡ name ++ byte ∷ rest → (front ≡ name) × (back ≡ rest)
name_cut byte text front back name rest out cuts h e = cut_same byte front back name rest cuts.1 (name_lacks byte name out h) (sym cuts.0 ∙ e)

-- a number is spelled in one way
pub number_same : (text : List ℕ) (m n : ℕ) → m < 2 ^ 32 → n < 2 ^ 32 → text ≡ decimal m → text ≡ decimal n → m ≡ n
number_same text m n l l' e e' = decimal_injective m n (omega arith) (omega arith) (sym e ∙ e')

-- the text of a buffer behind `buf=`, cut at its first colon
pub buffer_text : (text name origin : List ℕ) → text ≡ name ++ codes ":int:" ++ origin → text ≡ name ++ 58 ∷ (codes "int:" ++ origin)
buffer_text text name origin e = e ∙ append_assoc name (codes ":int:") origin

pub buffer_cut : (text front back name origin : List ℕ) → CutsAt 58 text front back → IsName name → text ≡ name ++ codes ":int:" ++ origin → (front ≡ name) × (back ≡ codes "int:" ++ origin)
buffer_cut text front back name origin cuts h e = name_cut 58 text front back name (codes "int:" ++ origin) refl cuts h (buffer_text text name origin e)

-- and what it lacks
pub buffer_lacks_not : (text name origin : List ℕ) → Lacks 58 text → text ≡ name ++ codes ":int:" ++ origin → ⊥
buffer_lacks_not text name origin lacks e = lacks_not 58 name (codes "int:" ++ origin) (subst (Lacks 58) (buffer_text text name origin e) lacks)

-- the test of a name, byte by byte
pub is_name-first_rest : (text : List ℕ) (rest : Bool) → 1 ≤ length text → begins_name (get_or text 0 0) ≡ true → rest ≡ list_all is_name_byte (take (length text - 1) (drop 1 text)) → rest ≡ is_name text
is_name-first_rest [] rest l b e = absurd (omega arith)
is_name-first_rest (c ∷ cs) rest l b e =
    let t : take (length (c ∷ cs) - 1) cs ≡ cs = take_all (length (c ∷ cs) - 1) cs (omega arith) in
    e ∙ ap (list_all is_name_byte) t ∙ ap (λ x. x && list_all is_name_byte cs) (sym b)

lacks_commas : (name : List ℕ) → Lacks 44 name → All (λ b. eqb b 44 ≡ false) name
lacks_commas [] l = All-nil (λ b. eqb b 44 ≡ false)
lacks_commas (c ∷ cs) l = All-cons (λ b. eqb b 44 ≡ false) c cs (ne_eqb c 44 l.0) (lacks_commas cs l.1)

-- names with commas between them are the parts of their text
pub slice_split-join_with_byte : (names : List (List ℕ)) → AllByRecursion IsName names → names ≢ [] → slice_split (λ b. eqb b 44) (join_with_byte 44 names) ≡ names
slice_split-join_with_byte [] h some = absurd (some refl)
slice_split-join_with_byte (n ∷ []) h some = slice_split_none (λ b. eqb b 44) n (lacks_commas n (name_lacks 44 n refl h.0))
slice_split-join_with_byte (n ∷ m ∷ ns) h some =
    slice_split_at (λ b. eqb b 44) n 44 (join_with_byte 44 (m ∷ ns)) (lacks_commas n (name_lacks 44 n refl h.0)) refl
    ∙ ap (λ (l : List (List ℕ)). n ∷ l) (slice_split-join_with_byte (m ∷ ns) h.1 (λ e. cc))

-- the parts of a text are some
pub slice_split-some : (text : List ℕ) → slice_split (λ b. eqb b 44) text ≢ []
slice_split-some text e =
    let l = length-slice_split (λ b. eqb b 44) text in
    let h : length (slice_split (λ b. eqb b 44) text) ≡ 0 = ap length e in
    omega (arith, l, h)
