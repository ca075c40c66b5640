use Rattle.queue_histories.proofs.Rooms.{all_placed, different_placed, team_placed}
use Rattle.queue_histories.proofs.laws.never_refused_law.Goals as goal

pub returns-clause-counted : goal.returns-clause-counted
returns-clause-counted c = λ q log puts room legal. all_placed q log puts room legal

pub returns-clause-different : goal.returns-clause-different
returns-clause-different c =
    λ g m q log is_open puts differ legal. different_placed g m q log is_open puts differ legal

pub returns-clause-team : goal.returns-clause-team
returns-clause-team c =
    λ g m team log within_room legal. team_placed g m team log within_room legal
