-- Turns of the fill part one after another: the worker keeps its place and the hand its objects (`fills_then`).
use Rattle.std.proofs.Common.{◌≡◌, ap, refl, ◌∙◌}
use Rattle.query_core.specs.Working.{IsOf, Working}
use Rattle.live_query.specs.FillHands.{FillKept}
use Rattle.live_query.specs.Knowing.{FillsOn}
use Rattle.live_query.specs.Searchers.{with_hand}
use Rattle.live_query.specs.declared.searcher.Searcher.{Searcher}

-- a searcher that let its hand go and took another has that one
pub hand_taken : {W H K : Type 0} (s : Searcher W H) {rest : Searcher W (Unit {0})} {t : Searcher W K} {h k : K}
    → rest ≡ with_hand s tt → t ≡ with_hand rest h → h ≡ k → t ≡ with_hand s k
hand_taken {W} {H} {K} s {rest} {t} {h} go take is =
    take ∙ ap (λ (r : Searcher W (Unit {0})). with_hand r h) go ∙ ap (λ (z : K). with_hand s z) is

-- a worker is where it is
pub same_place : (w : Working) → IsOf w.question w.index w.queues w.number w
same_place w = record { question = refl; index = refl; number = refl; queues = refl }

-- a place that is kept twice is kept
pub place_on : (w v u : Working) → IsOf w.question w.index w.queues w.number v → IsOf v.question v.index v.queues v.number u
    → IsOf w.question w.index w.queues w.number u
place_on w v u first second = record {
  question = second.question ∙ first.question;
  index = second.index ∙ first.index;
  number = second.number ∙ first.number;
  queues = second.queues ∙ first.queues;
}

pub fills_stays : (w : Working) (h : FillKept) → FillsOn w h w h
fills_stays w h = record { place = same_place w; roots = refl; own = λ own. own; best = refl; floor = refl }

pub fills_then : (w v u : Working) (h k m : FillKept) → FillsOn w h v k → FillsOn v k u m → FillsOn w h u m
fills_then w v u h k m first second = record {
  place = place_on w v u first.place second.place;
  roots = second.roots ∙ first.roots;
  own = λ own. second.own (first.own own);
  best = second.best ∙ first.best;
  floor = second.floor ∙ first.floor;
}
