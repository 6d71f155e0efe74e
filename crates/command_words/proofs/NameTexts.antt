-- Names, byte by byte.
use Rattle.std.proofs.Common.{◌≡◌, ℕ, ◌≤◌, ◌-◌, take, drop, Bool, true, ◌&&◌, List, [], ◌∷◌, length, get_or, sym, ap, ◌∙◌, arith}
use Rattle.std.specs.List.{list_all}
use Rattle.std.proofs.lemmas.List.{take_all}
use Rattle.command_words.specs.Names.{begins_name, is_name_byte, is_name}

-- the test of a name, by its first byte and the others
pub is_name-first_rest : (text : List ℕ) (rest : Bool) → 1 ≤ length text → begins_name (get_or text 0 0) ≡ true → rest ≡ list_all is_name_byte (take (length text - 1) (drop 1 text)) → rest ≡ is_name text
is_name-first_rest [] rest l b e = absurd (omega arith)
is_name-first_rest (c ∷ cs) rest l b e =
    let t : take (length (c ∷ cs) - 1) cs ≡ cs = take_all (length (c ∷ cs) - 1) cs (omega arith) in
    e ∙ ap (list_all is_name_byte) t ∙ ap (λ x. x && list_all is_name_byte cs) (sym b)
