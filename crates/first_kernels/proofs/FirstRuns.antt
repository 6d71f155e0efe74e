-- A run of the code of a kernel leaves what the kernel's assignments do.
use Rattle.std.proofs.Common.{◌≡◌, ℕ, zero, suc, ◌+◌, ◌*◌, ◌<◌, ◌≤◌, List, length, get_or, replicate, Result, refl, ap, sym, ◌∙◌, subst, arith}
use Rattle.std.specs.Result.{IsOk}
use Rattle.std.proofs.lemmas.List.{get_or-replicate, length-replicate}
use Rattle.vx_base.proofs.FieldLaws.{field_of-word}
use Rattle.vx_isa.specs.declared.instr.Instr.{Instr}
use Rattle.first_kernels.specs.declared.warp.Lane.{Lane}
use Rattle.first_kernels.specs.declared.warp.WarpFault.{WarpFault}
use Rattle.first_kernels.specs.FirstTree.{Form}
use Rattle.first_kernels.specs.First.{array_of}
use Rattle.first_kernels.specs.FirstValues.{words_after, IsLaunchable}
use Rattle.first_kernels.specs.FirstMemory.{stride, element_at, HasRun}
use Rattle.first_kernels.specs.FirstLane.{Alone, Ends}
use Rattle.first_kernels.specs.FirstCode.{starts, IsCodeOf}
use Rattle.first_kernels.specs.FirstWarp.{idle, StandsAs, EndTogether}
use Rattle.first_kernels.proofs.FirstTogether.{chosen}

-- registers that are all 0
zeros : (n r : ℕ) → ◌≡◌ {A = ℕ} (get_or (replicate n 0) r 0) 0
zeros zero r = refl
zeros (suc n) zero = refl
zeros (suc n) (suc r) = zeros n r

-- an idle lane stands as one that starts with the words of its elements
idle_stands : (items buffers lane : ℕ) (memory : List ℕ) → StandsAs items buffers lane idle.registers memory (starts (element_at memory items lane))
idle_stands items buffers lane memory = record { values = zeros 32; elements = λ b is_buffer. refl }

pub ran : (k : Form) (arguments : List ℕ) (items buffers : ℕ) (code : List Instr) (lanes lanes' : List Lane) (memory memory' : List ℕ) (result : Result Unit WarpFault) →
    IsLaunchable k arguments items buffers → buffers ≤ 16 → IsCodeOf k arguments items code → lanes ≡ replicate items idle →
    length memory ≡ buffers * stride items → ((b : ℕ) → get_or memory b 0 < 256) → length memory' ≡ length memory →
    EndTogether code lanes memory result lanes' memory' → IsOk result × HasRun k arguments items buffers memory memory'
ran k arguments items buffers code lanes lanes' memory memory' result launchable few is_code are_idle room bytes same_length together =
    let before : ℕ → Alone = λ lane. starts (element_at memory items lane) in
    let P : ℕ → Alone → Type 0 = λ lane m. Ends items buffers lane code (before lane) m × (m.words ≡ words_after (array_of arguments) lane k.assignments (element_at memory items lane)) in
    let each : (lane : ℕ) → lane < items → (m : Alone) × P lane m =
    λ lane below.
    let to = is_code buffers lane (element_at memory items lane) few launchable.within below (λ b. field_of-word memory (b * stride items + 4 * lane) 4 (omega arith) bytes) in
    (to.0, (to.1, to.2)) in
    let after = chosen items P (before 0) each in
    let S : ℕ → Lane → Type 0 = λ lane l. StandsAs items buffers lane l.registers memory (before lane) in
    let ends = together items buffers before after.0
    (record { some = launchable.items_some; one_each = ap length are_idle ∙ length-replicate items idle; whole = room })
    (λ lane below.
    let here : get_or lanes lane idle ≡ idle = ap (λ (ls : List Lane). get_or ls lane idle) are_idle ∙ get_or-replicate items lane idle idle below in
    subst (S lane) (sym here) (idle_stands items buffers lane memory))
    (λ lane below. (after.1 lane below).0) in (
      ends.0,
      record {
        same_length = same_length;
        elements = λ buffer item is_buffer is_item.
            (ends.1 item is_item).elements buffer is_buffer ∙ ap (λ (f : ℕ → ℕ). f buffer) (after.1 item is_item).1;
      },
    )
