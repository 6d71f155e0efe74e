-- Pieces stand in order, and say where they stand.
use Rattle.std.proofs.Common.{◌≡◌, ℕ, zero, suc, ◌+◌, ◌-◌, ◌<◌, ◌≤◌, Bool, true, false, if◌then◌else◌, List, [], ◌∷◌, ◌++◌, length, drop, take, Option, Some, None, refl, sym, ap, subst, ◌∙◌, arith, append_assoc}
use Rattle.std.specs.Prelude.{◌==◌, slice_index, nat_eq, ⊤}
use Rattle.std.specs.List.{find, prefix_len, starts_with}
use Rattle.std.specs.Option.{option_map}
use Rattle.std.proofs.lemmas.List.{length-drop, length-take, length-append}
use Rattle.std.proofs.Math.Seq.{drop-append_seam, take-append_seam}
use Rattle.std.proofs.lemmas.Slice.Eq.{bytes_eq-Decides}
use Rattle.ocl_tokens.specs.declared.marks.Mark.{Mark}
use Rattle.ocl_lex.specs.declared.pieces.Front.{Front}
use Rattle.ocl_lex.specs.declared.pieces.Piece.{Piece}
use Rattle.ocl_lex.specs.declared.pieces.PieceKind.{PieceKind}
use Rattle.ocl_lex.specs.declared.pieces.PieceKind.TheVariants as kind
use Rattle.ocl_lex.specs.declared.pieces.Cursor.{Cursor}
use Rattle.ocl_lex.specs.Bytes.{is_feed, is_in_line, is_in_name, is_in_number}
use Rattle.ocl_lex.specs.Lines.{place_behind}
use Rattle.ocl_lex.specs.Marks.{all_marks, mark_at, spelling_of}
use Rattle.ocl_lex.specs.Pieces.{after, begins, closes, closing_len, comment_at, comment_of, cuts, first_place, front, is_shown, mark_front, piece_at, pieces_of, shown_pieces, text_of}
use Rattle.ocl_lex.specs.Spans.{pos_at}
use Rattle.ocl_lex.proofs.Comments.{within_text}
use Rattle.ocl_lex.proofs.Cuts.{none_left}
use Rattle.ocl_lex.proofs.Prefixes.{whole_prefix}
use Rattle.ocl_lex.proofs.ReplacedLaws.{by_option}
use Rattle.ocl_lex.proofs.TableLaws.{by_test}

-- ---- what begins at a place

-- a front that is no longer than some bytes, and that is spelled there if it is a punctuator
pub record Fits (bytes : List ℕ) (f : Front) : Type 0 where
  pub len : f.len ≤ length bytes
  pub mark : (m : Mark) → f.kind ≡ kind.Mark m → (f.len ≡ length (spelling_of m)) × (take f.len bytes ≡ spelling_of m)

-- the end of a comment has two bytes, and lies within
closing_within : (bytes : List ℕ) (n : ℕ) → closing_len bytes ≡ Some n → (2 ≤ n) × (n ≤ length bytes)
unfolding closing_len
closing_within [] n h = cc
closing_within (c ∷ rest) n h = by_test (closes (c ∷ rest))
    (λ t.
    let two : Some 2 ≡ Some n = sym (rw t refl) ∙ h in
    let same : 2 ≡ n = cc in
    let room : 0 + 2 ≤ length (c ∷ rest) = within_text (c ∷ rest) 0 t in
    (omega arith, omega arith))
    (λ t. by_option (closing_len rest)
    (λ none.
    let no_end : None ≡ Some n = sym (rw t (ap (λ o. option_map (λ k. k + 1) o) none)) ∙ h in
    cc)
    (λ k some.
    let more : Some (k + 1) ≡ Some n = sym (rw t (ap (λ o. option_map (λ j. j + 1) o) some)) ∙ h in
    let same : k + 1 ≡ n = cc in
    let inner : (2 ≤ k) × (k ≤ length rest) = closing_within rest k some in
    (omega arith, omega arith)))

choose : (bytes : List ℕ) (b : Bool) (x y : Front) → Fits bytes x → Fits bytes y → Fits bytes (if b then x else y)
choose bytes true x y fits_x fits_y = fits_x
choose bytes false x y fits_x fits_y = fits_y

fits_plain : (bytes : List ℕ) (k : PieceKind) (n : ℕ) → n ≤ length bytes → ((m : Mark) → k ≡ kind.Mark m → ⊥) → Fits bytes (front k n)
fits_plain bytes k n within plain = record { len = within; mark = λ m e. absurd (plain m e) }

found_passes : {A : Type 0} (p : A → Bool) (xs : List A) (x : A) → find p xs ≡ Some x → p x ≡ true
found_passes p [] x h = cc
found_passes p (y ∷ ys) x h = by_test (p y)
    (λ t.
    let here : Some y ≡ Some x = sym (rw t refl) ∙ h in
    let same : y ≡ x = cc in
    subst (λ z. p z ≡ true) same t)
    (λ t. found_passes p ys x (sym (rw t refl) ∙ h))

fits_mark : (bytes : List ℕ) (found : Option Mark) → mark_at bytes ≡ found → 0 < length bytes → Fits bytes (mark_front found)
unfolding mark_at
fits_mark bytes None h some = fits_plain bytes kind.Bad 1 (omega arith) (λ m e. cc)
fits_mark bytes (Some m) h some =
    let passes : starts_with nat_eq bytes (spelling_of m) ≡ true = found_passes (λ k. starts_with nat_eq bytes (spelling_of k)) all_marks m h in
    let same : spelling_of m ≡ take (length (spelling_of m)) bytes = (bytes_eq-Decides (spelling_of m) (take (length (spelling_of m)) bytes)).0 passes in
    record {
      len = omega (arith, ap length same, length-take (length (spelling_of m)) bytes);
      mark = λ k e. (let one : m ≡ k = cc in (ap (λ j. length (spelling_of j)) one, sym same ∙ ap spelling_of one));
    }

fits_comment : (bytes : List ℕ) → Fits bytes (comment_at bytes)
fits_comment bytes = choose bytes (slice_index bytes 1 == 47) (front kind.Blank (prefix_len is_in_line bytes)) (comment_of (length bytes) (closing_len (drop 2 bytes)))
    (fits_plain bytes kind.Blank (prefix_len is_in_line bytes) (whole_prefix is_in_line bytes) (λ m e. cc))
    (by_option (closing_len (drop 2 bytes))
    (λ none. subst (λ o. Fits bytes (comment_of (length bytes) o)) (sym none) (fits_plain bytes kind.OpenComment (length bytes) (omega arith) (λ m e. cc)))
    (λ n ends.
    let within : (2 ≤ n) × (n ≤ length (drop 2 bytes)) = closing_within (drop 2 bytes) n ends in
    let room : n + 2 ≤ length bytes = omega (arith, length-drop 2 bytes) in
    subst (λ o. Fits bytes (comment_of (length bytes) o)) (sym ends) (fits_plain bytes kind.Blank (n + 2) room (λ m e. cc))))

begins_fits : (bytes : List ℕ) → 0 < length bytes → Fits bytes (begins bytes)
unfolding begins
begins_fits bytes some =
    choose bytes _ _ _ (fits_plain bytes kind.Feed 1 (omega arith) (λ m e. cc))
    (choose bytes _ _ _ (fits_plain bytes kind.Blank 1 (omega arith) (λ m e. cc))
    (choose bytes _ _ _ (fits_plain bytes kind.Name (prefix_len is_in_name bytes) (whole_prefix is_in_name bytes) (λ m e. cc))
    (choose bytes _ _ _ (fits_plain bytes kind.Number (prefix_len is_in_number bytes) (whole_prefix is_in_number bytes) (λ m e. cc))
    (choose bytes _ _ _ (fits_plain bytes kind.Hash 1 (omega arith) (λ m e. cc))
    (choose bytes _ _ _ (fits_comment bytes) (fits_mark bytes (mark_at bytes) refl some))))))

-- ---- where pieces stand

pub record IsPlaced (text : List ℕ) (p : Piece) : Type 0 where
  pub ordered : p.start ≤ p.end
  pub within : p.end ≤ length text
  pub pos : p.pos ≡ pos_at text p.start
  pub spelled : (m : Mark) → p.kind ≡ kind.Mark m → spelling_of m ≡ text_of text p

abbrev pub Placed : List ℕ → ℕ → List Piece → Type 0
Placed text from [] = ⊤
Placed text from (p ∷ pieces) = IsPlaced text p × (from ≤ p.start) × Placed text p.end pieces

pub earlier : (text : List ℕ) (j k : ℕ) (pieces : List Piece) → j ≤ k → Placed text k pieces → Placed text j pieces
earlier text j k [] less h = tt
earlier text j k (p ∷ pieces) less (placed, behind, rest) = (placed, omega arith, rest)

place_behind_more : (p : Cursor) (xs : List ℕ) (c : ℕ) → place_behind p (xs ++ c ∷ []) ≡ after c (place_behind p xs)
place_behind_more p [] c = refl
place_behind_more p (x ∷ xs) c = place_behind_more (after x p) xs c

after_at : (c : ℕ) (p : Cursor) → (after c p).at ≡ p.at + 1
after_at c p = by_test (is_feed c) (λ t. rw t refl) (λ t. rw t refl)

first_placed : (text before rest : List ℕ) (place : Cursor) → text ≡ before ++ rest → 0 < length rest → place ≡ place_behind first_place before → place.at ≡ length before
    → IsPlaced text (piece_at place (begins rest))
first_placed text before rest place split some here at =
    let fits : Fits rest (begins rest) = begins_fits rest some in
    let len : length text ≡ length before + length rest = ap length split ∙ length-append before rest in
    let front_part : take place.at text ≡ before = ap (take place.at) split ∙ ap (λ n. take n (before ++ rest)) at ∙ take-append_seam before rest in
    let back_part : drop place.at text ≡ rest = ap (drop place.at) split ∙ ap (λ n. drop n (before ++ rest)) at ∙ drop-append_seam before rest in
    let short : (place.at + (begins rest).len) - place.at ≡ (begins rest).len = omega arith in
    record {
      ordered = omega arith;
      within = omega (arith, fits.len);
      pos = ap (λ q. q.pos) here ∙ ap (λ l. (place_behind first_place l).pos) (sym front_part);
      spelled = λ m e. sym ((fits.mark m e).1) ∙ ap (λ l. take (begins rest).len l) (sym back_part) ∙ ap (λ n. take n (drop place.at text)) (sym short);
    }

cuts_placed : (text before rest : List ℕ) (covered : ℕ) (place : Cursor) → text ≡ before ++ rest → place ≡ place_behind first_place before → place.at ≡ length before
    → Placed text (place.at + covered) (cuts covered place rest)
unfolding cuts
cuts_placed text before [] covered place split here at = subst (λ l. Placed text (place.at + covered) l) (sym (none_left covered place)) tt
cuts_placed text before (c ∷ rest) zero place split here at =
    let one : text ≡ (before ++ c ∷ []) ++ rest = split ∙ sym (append_assoc before (c ∷ []) rest) in
    let there : after c place ≡ place_behind first_place (before ++ c ∷ []) = ap (after c) here ∙ sym (place_behind_more first_place before c) in
    let next : (after c place).at ≡ length (before ++ c ∷ []) = after_at c place ∙ (omega (arith, length-append before (c ∷ []))) in
    let more : Placed text ((after c place).at + ((begins (c ∷ rest)).len - 1)) (cuts ((begins (c ∷ rest)).len - 1) (after c place) rest) =
    cuts_placed text (before ++ c ∷ []) rest ((begins (c ∷ rest)).len - 1) (after c place) one there next in (
      first_placed text before (c ∷ rest) place split (omega arith) here at,
      omega arith,
      earlier text (place.at + (begins (c ∷ rest)).len) ((after c place).at + ((begins (c ∷ rest)).len - 1)) (cuts ((begins (c ∷ rest)).len - 1) (after c place) rest)
          (omega (arith, after_at c place)) more,
    )
cuts_placed text before (c ∷ rest) (suc covered) place split here at =
    let one : text ≡ (before ++ c ∷ []) ++ rest = split ∙ sym (append_assoc before (c ∷ []) rest) in
    let there : after c place ≡ place_behind first_place (before ++ c ∷ []) = ap (after c) here ∙ sym (place_behind_more first_place before c) in
    let next : (after c place).at ≡ length (before ++ c ∷ []) = after_at c place ∙ (omega (arith, length-append before (c ∷ []))) in
    let same : (after c place).at + covered ≡ place.at + suc covered = omega (arith, after_at c place) in
    subst (λ k. Placed text k (cuts covered (after c place) rest)) same (cuts_placed text (before ++ c ∷ []) rest covered (after c place) one there next)

-- without blanks
shown_placed : (text : List ℕ) (from : ℕ) (pieces : List Piece) → Placed text from pieces → Placed text from (shown_pieces pieces)
shown_placed text from [] h = tt
shown_placed text from (p ∷ pieces) (placed, behind, rest) = by_test (is_shown p.kind)
    (λ t. rw t (placed, behind, shown_placed text p.end pieces rest))
    (λ t.
    let before : from ≤ p.end = omega (arith, placed.ordered) in
    rw t (earlier text from p.end (shown_pieces pieces) before (shown_placed text p.end pieces rest)))

pub pieces_placed : (text : List ℕ) → Placed text 0 (pieces_of text)
pieces_placed text = shown_placed text 0 (cuts 0 first_place text) (cuts_placed text [] text 0 first_place refl refl refl)
