use Rattle.std.proofs.Common.{◌≡◌, ℕ, ◌+◌, ◌-◌, List, ◌++◌, length, take, drop, Some, append_assoc, ap, sym, subst, ◌∙◌}
use Rattle.std.proofs.lemmas.List.{take_rest}
use Rattle.std.proofs.Math.Seq.{take-add}
use Rattle.std.specs.Prelude.{Option}
use Rattle.vx_world.specs.Writing.{Appends}

-- what is appended in two steps is appended
pub Appends-append : (before between now : Option (List ℕ)) (first second : List ℕ) → Appends before between first → Appends between now second → Appends before now (first ++ second)
Appends-append before between now first second one two = λ all told. two (all ++ first) (one all told) ∙ ap Some (append_assoc all first second)

-- a text of which this many bytes are done goes on by a count, as a slice of the rest shows it
take-rest : (text : List ℕ) (done count : ℕ) → take done text ++ take count (take (length text - done) (drop done text)) ≡ take (done + count) text
take-rest text done count = ap (λ rest. take done text ++ take count rest) (take_rest text done) ∙ sym (take-add done count text)

-- The step of a loop that writes a text: this many bytes are done, and a write of the rest took a count more.
pub Appends-rest : (before between now : Option (List ℕ)) (text : List ℕ) (done count : ℕ) → Appends before between (take done text) → Appends between now (take count (take (length text - done) (drop done text))) → Appends before now (take (done + count) text)
Appends-rest before between now text done count one two =
    subst (λ bytes. Appends before now bytes) (take-rest text done count) (Appends-append before between now (take done text) (take count (take (length text - done) (drop done text))) one two)
