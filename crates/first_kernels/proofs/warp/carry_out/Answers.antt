use Rattle.std.proofs.Common.{◌≡◌, ℕ, List, Result, Ok, Err, ap, MatchResult}
use Rattle.first_kernels.specs.declared.warp.WarpFault.{WarpFault}
use Rattle.first_kernels.specs.FirstWarp.{with_memory}
use Rattle.first_kernels.proofs.warp.carry_out.Goals as goal

-- what becomes of memory tells what becomes of a lane and memory
climbs : (result : Result Unit WarpFault) (s : Result (List ℕ) WarpFault) (registers memory : List ℕ) →
    MatchResult result (λ _. s ≡ Ok memory) (λ fault. s ≡ Err fault) →
    MatchResult result (λ _. with_memory registers s ≡ Ok (record { registers = registers; memory = memory })) (λ fault. with_memory registers s ≡ Err fault)
climbs (Ok x) s registers memory tells = ap (with_memory registers) tells
climbs (Err x) s registers memory tells = ap (with_memory registers) tells

pub returns-in-Store-clause-left : goal.returns-in-Store-clause-left
returns-in-Store-clause-left c = rw c.in-Store.is (climbs c.store.result _ c.args.lane.now.registers c.store.new.memory c.store.ensures.left)
