-- Replacements opened and closed at the end of a list of them.
use Rattle.std.proofs.Common.{◌≡◌, ℕ, ◌+◌, ◌-◌, ◌<◌, suc, Option, Some, take, Bool, true, false, List, [], ◌∷◌, ◌++◌, length, None, refl, sym, ap, subst, ◌∙◌, arith, append_assoc, append-nil, true≢false}
use Rattle.std.specs.Prelude.{slice_get, if◌then◌else◌}
use Rattle.std.specs.Borrow.{Bor}
use Rattle.std.specs.Option.{is_some, option_to_list}
use Rattle.std.specs.Str.{bytes_eq}
use Rattle.indexmap.specs.IndexMap.{insert_entry, set_value_at}
use Rattle.std.proofs.lemmas.List.{length-append}
use Rattle.std.proofs.Math.Seq.{take-append_seam}
use Rattle.std.proofs.lemmas.Slice.Eq.{bytes_eq-Decides}
use Rattle.ocl_lex.specs.declared.parts.Lexeme.{Lexeme}
use Rattle.ocl_lex.specs.declared.pieces.Piece.{Piece}
use Rattle.ocl_lex.specs.Events.{Event}
use Rattle.ocl_lex.specs.Frames.{Frames, inner_events, is_open, pending, seen}
use Rattle.ocl_lex.specs.declared.parts.Lexeme.TheVariants as part
use Rattle.ocl_lex.specs.Macros.{Macros, found, replaced, replacement_of, without}
use Rattle.ocl_lex.specs.Parts.{between, name_of}
use Rattle.ocl_lex.proofs.TableLaws.{by_test}

pub seen_push : (macros : Macros) (frames : Frames) (f : Bor (List ℕ) × Bor (List Lexeme)) → seen macros (frames ++ f ∷ []) ≡ without f.0.now (seen macros frames)
seen_push macros [] f = refl
seen_push macros (g ∷ frames) f = seen_push (without g.0.now macros) frames f

pub pending_push : (text : List ℕ) (at : Piece) (macros : Macros) (frames : Frames) (f : Bor (List ℕ) × Bor (List Lexeme))
    → pending text at macros (frames ++ f ∷ []) ≡ inner_events text at (without f.0.now (seen macros frames)) f.1.now ++ pending text at macros frames
pending_push text at macros [] f = sym (append-nil (inner_events text at (without f.0.now macros) f.1.now))
pending_push text at macros (g ∷ frames) f =
    let outer : Macros = without g.0.now macros in
    let inner : List Event = inner_events text at (without f.0.now (seen outer frames)) f.1.now in
    ap (λ l. l ++ inner_events text at (without g.0.now macros) g.1.now) (pending_push text at (without g.0.now macros) frames f)
    ∙ append_assoc (inner_events text at (without f.0.now (seen (without g.0.now macros) frames)) f.1.now) (pending text at (without g.0.now macros) frames) (inner_events text at (without g.0.now macros) g.1.now)

-- names decide
same_names : (a b : List ℕ) → bytes_eq a b ≡ true → a ≡ b
same_names a b h = (bytes_eq-Decides a b).0 h

-- a look-up in macros without a name
other_name : (name hidden : List ℕ) (macros : Macros) → bytes_eq name hidden ≡ false → replacement_of name (without hidden macros) ≡ replacement_of name macros
other_name name hidden [] differ = refl
other_name name hidden (m ∷ macros) differ = by_test (bytes_eq hidden m.0)
    (λ t.
    let here : hidden ≡ m.0 = same_names hidden m.0 t in
    let not_it : bytes_eq name m.0 ≡ false = subst (λ k. bytes_eq name k ≡ false) here differ in
    rw t (rw not_it (other_name name hidden macros differ)))
    (λ t. rw t (by_test (bytes_eq name m.0)
    (λ s. rw s refl)
    (λ s. rw s (other_name name hidden macros differ))))

hidden_name : (name hidden : List ℕ) (macros : Macros) → bytes_eq name hidden ≡ true → replacement_of name (without hidden macros) ≡ None
hidden_name name hidden [] same = refl
hidden_name name hidden (m ∷ macros) same = by_test (bytes_eq hidden m.0)
    (λ t. rw t (hidden_name name hidden macros same))
    (λ t.
    let it : name ≡ hidden = same_names name hidden same in
    let not_it : bytes_eq name m.0 ≡ false = subst (λ k. bytes_eq k m.0 ≡ false) (sym it) t in
    rw t (rw not_it (hidden_name name hidden macros same)))

none_in : (name : List ℕ) (macros : Macros) (frames : Frames) → replacement_of name macros ≡ None → replacement_of name (seen macros frames) ≡ None
none_in name macros [] none = none
none_in name macros (f ∷ frames) none = by_test (bytes_eq name f.0.now)
    (λ t. none_in name (without f.0.now macros) frames (hidden_name name f.0.now macros t))
    (λ t. none_in name (without f.0.now macros) frames (other_name name f.0.now macros t ∙ none))

pub seen_closed : (name : List ℕ) (macros : Macros) (frames : Frames) → is_open name frames ≡ false → replacement_of name (seen macros frames) ≡ replacement_of name macros
seen_closed name macros [] closed = refl
seen_closed name macros (f ∷ frames) closed = by_test (bytes_eq name f.0.now)
    (λ t. absurd (true≢false (rw t at closed)))
    (λ t. seen_closed name (without f.0.now macros) frames (rw t at closed) ∙ other_name name f.0.now macros t)

pub seen_open : (name : List ℕ) (macros : Macros) (frames : Frames) → is_open name frames ≡ true → replacement_of name (seen macros frames) ≡ None
seen_open name macros [] open_there = absurd (true≢false (sym open_there))
seen_open name macros (f ∷ frames) open_there = by_test (bytes_eq name f.0.now)
    (λ t. none_in name (without f.0.now macros) frames (hidden_name name f.0.now macros t))
    (λ t. seen_open name (without f.0.now macros) frames (rw t at open_there))

-- the same of a part that is a name
pub found_named : (text : List ℕ) (macros : Macros) (p : Lexeme) (start end : ℕ) (name : List ℕ) → p ≡ part.Name start end → name ≡ between text start end
    → found text macros p ≡ replacement_of name macros
found_named text macros p start end name is spelled = ap (found text macros) is ∙ ap (λ n. replacement_of n macros) (sym spelled)

pub named_by : (text : List ℕ) (p : Lexeme) (start end : ℕ) (name : List ℕ) → p ≡ part.Name start end → name ≡ between text start end → name ≡ name_of text p
named_by text p start end name is spelled = spelled ∙ sym (ap (name_of text) is)

pub found_open : (text : List ℕ) (macros : Macros) (frames : Frames) (p : Lexeme) (start end : ℕ) (name : List ℕ) → p ≡ part.Name start end
    → name ≡ between text start end → is_open name frames ≡ true → found text (seen macros frames) p ≡ None
found_open text macros frames p start end name is spelled there = found_named text (seen macros frames) p start end name is spelled ∙ seen_open name macros frames there

pub found_closed : (text : List ℕ) (macros : Macros) (frames : Frames) (p : Lexeme) (start end : ℕ) (name : List ℕ) → p ≡ part.Name start end
    → name ≡ between text start end → is_open name frames ≡ false → found text (seen macros frames) p ≡ replacement_of name macros
found_closed text macros frames p start end name is spelled closed = found_named text (seen macros frames) p start end name is spelled ∙ seen_closed name macros frames closed

abbrev pub same_frame : Bor (List ℕ) → Bor (List ℕ) → Bool
same_frame x y = bytes_eq x.now y.now

-- a replacement that is not open yet is opened inside the others
pub opened_at_end : (name : Bor (List ℕ)) (body : Bor (List Lexeme)) (frames : Frames) → is_open name.now frames ≡ false
    → insert_entry same_frame frames name body ≡ frames ++ (name, body) ∷ []
opened_at_end name body [] closed = refl
opened_at_end name body (f ∷ frames) closed = by_test (bytes_eq name.now f.0.now)
    (λ t. absurd (true≢false (rw t at closed)))
    (λ t. rw t (ap (λ rest. f ∷ rest) (opened_at_end name body frames (rw t at closed))))

empty : {A : Type 0} (xs : List A) → length xs ≡ 0 → xs ≡ []
empty [] h = refl
empty (x ∷ xs) h = absurd (omega arith)

-- the innermost replacement is at its end
pub pending_close : (text : List ℕ) (at : Piece) (macros : Macros) (old frames : Frames) (f : Bor (List ℕ) × Bor (List Lexeme)) → old ≡ frames ++ f ∷ []
    → length f.1.now ≡ 0 → pending text at macros old ≡ pending text at macros frames
pending_close text at macros old frames f split none =
    let last : f.1.now ≡ [] = empty f.1.now none in
    ap (pending text at macros) split ∙ pending_push text at macros frames f
    ∙ ap (λ l. inner_events text at (without f.0.now (seen macros frames)) l ++ pending text at macros frames) last

-- the innermost replacement goes on by a part
pub pending_part : (text : List ℕ) (at : Piece) (macros : Macros) (old frames opened : Frames) (name : Bor (List ℕ)) (parts rest : Bor (List Lexeme)) (p : Lexeme)
    → old ≡ frames ++ (name, parts) ∷ [] → parts.now ≡ p ∷ rest.now → opened ≡ frames ++ (name, rest) ∷ []
    → pending text at macros old ≡ replaced text (seen macros opened) true at p ++ pending text at macros opened
pending_part text at macros old frames opened name parts rest p split first pushed =
    let inner : Macros = without name.now (seen macros frames) in
    let one : pending text at macros old ≡ inner_events text at (without name.now (seen macros frames)) parts.now ++ pending text at macros frames =
    ap (pending text at macros) split ∙ pending_push text at macros frames (name, parts) in
    let two : inner_events text at (without name.now (seen macros frames)) parts.now ≡ replaced text (without name.now (seen macros frames)) true at p ++ inner_events text at (without name.now (seen macros frames)) rest.now =
    ap (inner_events text at (without name.now (seen macros frames))) first in
    let three : pending text at macros opened ≡ inner_events text at (without name.now (seen macros frames)) rest.now ++ pending text at macros frames =
    ap (pending text at macros) pushed ∙ pending_push text at macros frames (name, rest) in
    let four : seen macros opened ≡ without name.now (seen macros frames) = ap (seen macros) pushed ∙ seen_push macros frames (name, rest) in
    one ∙ ap (λ l. l ++ pending text at macros frames) two
    ∙ append_assoc (replaced text (without name.now (seen macros frames)) true at p) (inner_events text at (without name.now (seen macros frames)) rest.now) (pending text at macros frames)
    ∙ ap (λ l. replaced text (without name.now (seen macros frames)) true at p ++ l) (sym three)
    ∙ ap (λ ms. replaced text ms true at p ++ pending text at macros opened) (sym four)

-- ---- the last of a list

same_front : {A : Type 0} (xs ys : List A) (x y : A) → xs ++ x ∷ [] ≡ ys ++ y ∷ [] → xs ≡ ys
same_front xs ys x y e =
    let one : length (xs ++ x ∷ []) ≡ length xs + 1 = length-append xs (x ∷ []) in
    let two : length (ys ++ y ∷ []) ≡ length ys + 1 = length-append ys (y ∷ []) in
    let len : length xs ≡ length ys = omega (arith, ap length e) in
    sym (take-append_seam xs (x ∷ [])) ∙ ap (take (length xs)) e ∙ ap (λ n. take n (ys ++ y ∷ [])) len ∙ take-append_seam ys (y ∷ [])

pub closes_last : (old new outer : Frames) (f : Bor (List ℕ) × Bor (List Lexeme)) (popped : Option (Bor (List ℕ) × Bor (List Lexeme)))
    → old ≡ outer ++ f ∷ [] → old ≡ new ++ option_to_list popped → length new + (if is_some popped then 1 else 0) ≡ length old → (0 < length old → is_some popped ≡ true) → outer ≡ new
closes_last old new outer f (Some g) split pops len found = same_front outer new f g (sym split ∙ pops)
closes_last old new outer f None split pops len found =
    let more : 0 < length old = omega (arith, ap length split, length-append outer (f ∷ [])) in
    absurd (true≢false (sym (found more)))

set_at_end : (outer : Frames) (name : Bor (List ℕ)) (parts rest : Bor (List Lexeme)) → set_value_at (outer ++ (name, parts) ∷ []) (length outer) rest ≡ outer ++ (name, rest) ∷ []
set_at_end [] name parts rest = refl
set_at_end (f ∷ outer) name parts rest = ap (λ l. f ∷ l) (set_at_end outer name parts rest)

pub left_at_end : (old outer : Frames) (name : Bor (List ℕ)) (parts rest : Bor (List Lexeme)) → old ≡ outer ++ (name, parts) ∷ []
    → set_value_at old (length old - 1) rest ≡ outer ++ (name, rest) ∷ []
left_at_end old outer name parts rest split =
    let len : length old - 1 ≡ length outer = omega (arith, ap length split, length-append outer ((name, parts) ∷ [])) in
    ap (λ n. set_value_at old n rest) len ∙ ap (λ l. set_value_at l (length outer) rest) split ∙ set_at_end outer name parts rest

pub last_of : (frames : Frames) (name : Bor (List ℕ)) (parts : Bor (List Lexeme)) → Some (name, parts) ≡ slice_get frames (length frames - 1)
    → (outer : Frames) × (n : Bor (List ℕ)) × (frames ≡ outer ++ (n, parts) ∷ [])
last_of [] name parts h = cc
last_of (f ∷ []) name parts h =
    let here : Some (name, parts) ≡ Some f = h in
    let same : f ≡ (name, parts) = cc in
    ([], name, ap (λ g. g ∷ []) same)
last_of (f ∷ g ∷ frames) name parts h =
    let len : length (f ∷ g ∷ frames) - 1 ≡ suc (length (g ∷ frames) - 1) = omega arith in
    let more : Some (name, parts) ≡ slice_get (g ∷ frames) (length (g ∷ frames) - 1) = h ∙ ap (slice_get (f ∷ g ∷ frames)) len in
    let rest : (outer : Frames) × (n : Bor (List ℕ)) × (g ∷ frames ≡ outer ++ (n, parts) ∷ []) = last_of (g ∷ frames) name parts more in
    (f ∷ rest.0, rest.1, ap (λ l. f ∷ l) rest.2)
