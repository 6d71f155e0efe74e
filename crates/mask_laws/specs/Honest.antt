-- When what the lanes of a warp read of arrays of constants is the same for all that read at one address. It is all that the law of a warp asks
-- of answers; `Opened.antt` says what gives it.
use Rattle.std.specs.Prelude.{◌≡◌, ℕ, Bool, true, List, [], ◌∷◌}
use Rattle.kir.specs.Machine.{value}
use Rattle.kir.specs.Trees.{Operand, KirCode}
use Rattle.vx_isa.specs.Warps.{has_lane}
use Rattle.vcode.specs.Code.{VOp, Fetch}
use Rattle.simt_lowering.specs.Lowered.{kernel_code}
use Rattle.warp_code.specs.Warps.{Crew, VWarp, warp_step}
use Rattle.mask_laws.specs.Labels.{kernel_spots, spot_in}

-- active lanes that read at one address get one answer, where an element of an array of constants is read
abbrev pub AnswersAgree : Bool → VWarp → (ℕ → ℕ) → Operand → Type 0
AnswersAgree shared w answers a =
    shared ≡ true → (l l' : ℕ) → has_lane w.mask l ≡ true → has_lane w.mask l' ≡ true → value (w.lanes l).registers a ≡ value (w.lanes l').registers a → answers l ≡ answers l'

abbrev pub IsHonest : Bool → VOp → VWarp → (ℕ → ℕ) → Type 0
IsHonest shared (Fetch d elem a) w answers = AnswersAgree shared w answers a
IsHonest shared op w answers = Unit {0}

-- the same of the answers to one step of a kernel, and to each step of a run
abbrev pub IsHonestStep : (ℕ → Bool) → KirCode → VWarp → (ℕ → ℕ) → Type 0
IsHonestStep marks code w answers = IsHonest (spot_in (kernel_spots marks code) w.place).shared (spot_in (kernel_spots marks code) w.place).op w answers

abbrev pub IsHonestRun : (ℕ → Bool) → KirCode → Crew → VWarp → List (ℕ → ℕ) → Type 0
IsHonestRun marks code k w [] = Unit {0}
IsHonestRun marks code k w (answers ∷ later) = IsHonestStep marks code w answers × IsHonestRun marks code k (warp_step k (kernel_code marks code) answers w).warp later
