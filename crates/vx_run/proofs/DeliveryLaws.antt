use Rattle.std.proofs.Common.{◌≡◌, ℕ, ◌+◌, ◌-◌, ◌≤◌, List, ◌++◌, length, take, drop, Some, ap, sym, ◌∙◌, append_assoc, arith, length-drop}
use Rattle.std.specs.Prelude.{Option}
use Rattle.std.proofs.Math.Seq.{take-add}
use Rattle.std.proofs.lemmas.List.{take_all}
use Rattle.vx_world.specs.Writing.{Appends}

-- two pieces of a text that are appended one after another are appended together
pub Appends-more : (before mid now : Option (List ℕ)) (text : List ℕ) (at count : ℕ) → at + count ≤ length text →
    Appends before mid (take at text) → Appends mid now (take count (take (length text - at) (drop at text))) → Appends before now (take (at + count) text)
Appends-more before mid now text at count h a b =
    let rest : take (length text - at) (drop at text) ≡ drop at text = take_all _ (drop at text) (omega (arith, length-drop at text)) in
    let joined : take at text ++ take count (take (length text - at) (drop at text)) ≡ take (at + count) text =
    ap (λ l. take at text ++ take count l) rest ∙ sym (take-add at count text) in
    λ x e. b (x ++ take at text) (a x e) ∙ ap Some (append_assoc x (take at text) (take count (take (length text - at) (drop at text))) ∙ ap (λ l. x ++ l) joined)
