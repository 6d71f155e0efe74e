use Rattle.launch_order.specs.Moves.{KnowsSafe}
use Rattle.launch_order.proofs.MoveHonesty.{moves_give_events, all_honest, all_moves_safe}
use Rattle.launch_order.proofs.move_laws.moves_give_events.Goals as goal

pub returns-clause-known : goal.returns-clause-known
returns-clause-known c = λ l holds address constant given final opening cores moves ends core_of map keeps bytes goes.
    moves_give_events (KnowsSafe l holds given core_of) l holds address constant given final opening cores moves ends core_of map keeps bytes goes

pub returns-clause-honest : goal.returns-clause-honest
returns-clause-honest c = λ l holds address constant given final opening cores moves ends core_of map keeps bytes goes.
    all_honest (KnowsSafe l holds given core_of) l holds address constant given final opening cores moves ends core_of map keeps bytes goes

pub returns-clause-safe : goal.returns-clause-safe
returns-clause-safe c = λ l holds address constant given final opening cores moves ends core_of map keeps bytes goes.
    all_moves_safe (KnowsSafe l holds given core_of) l holds address constant given final opening cores moves ends core_of map keeps bytes goes
