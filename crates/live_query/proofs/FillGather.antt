-- From searchers that have filled and the closed claims to the records of their calls (`all_filled`); and what searchers know
-- as they open (`all_serving`, `all_knowing`).
use Rattle.std.proofs.Common.{◌≡◌, ℕ, zero, suc, ◌<◌, List, None, Some, All, true, false, length, map, replicate, refl, sym, ap, ◌∙◌, subst, arith}
use Rattle.std.specs.Prelude.{slice_get, slice_index_or}
use Rattle.std.proofs.lemmas.Bool.{true≢false}
use Rattle.std.proofs.lemmas.List.{length-map, length-replicate}
use Rattle.std.proofs.lemmas.Option.{none-some, same_Some}
use mathlib.Core.List.{map-map}
use Rattle.list_totals.specs.Standing.{In}
use Rattle.claim_word.specs.Passes.{EachDrawnOnce, Pass}
use Rattle.best_word.specs.Passes.{Best}
use Rattle.subtree_build.specs.Index.{IndexParts}
use Rattle.search_machine.specs.Ground.{Fits, Ground}
use Rattle.search_machine.specs.Workers.{fills}
use Rattle.search_machine.specs.OwnRecord.{RecordedWorker}
use Rattle.search_machine.specs.Stands.{StandsFor}
use Rattle.search_machine.proofs.Places.{get_map, get_some}
use Rattle.search_task.specs.Questions.{Question, last_of}
use Rattle.query_core.specs.Turning.{search_of}
use Rattle.live_query.specs.Knowing.{FillKnows, FillServes, FillsOn}
use Rattle.live_query.specs.RootClaims.{DrawTied, Drawn, IsOwn, Roots, group_count}
use Rattle.live_query.specs.Parts.{AllFilled, Between, Filling, HasFilled, IsOpen, Opens, Resting, filling, resting}
use Rattle.live_query.proofs.Openers.{filled_ended, fits_one, moved, one, opener, opener_drawn, opener_floor, opener_own, opener_runs, opener_stands, opener_tied, opener_word, search_at}
use Rattle.live_query.proofs.Places.{Chosen, all_at, all_map, by_place, choose, map_at}
use Rattle.live_query.proofs.RootGather.{given_all, given_once}

-- no leaf of fresh marks is marked
no_fresh_mark : (n l : ℕ) → slice_get (replicate n false) l ≡ Some true → ⊥
no_fresh_mark zero l e = none-some true e
no_fresh_mark (suc n) zero e = true≢false (sym (same_Some false true e))
no_fresh_mark (suc n) (suc l) e = no_fresh_mark n l e

module _ (a : Question) (ix : IndexParts) (m : ℕ) (roots : Roots) (best : Best) (some : 0 < m) (team : List Between)
    (opens : Opens a ix m roots best team) where
  abbrev g : Ground
  g = one a ix m roots best some team opens

  -- a searcher with its hand
  abbrev fills_as : Between → Filling
  fills_as = filling roots m (length ix.leaves)

  module _ (i : ℕ) (c : Between) (o : IsOpen a ix m roots best i c) where
    opens_serving : FillServes c.worker (fills_as c).hand
    opens_serving = record {
      fits = subst (λ (g : Ground). Fits g) (sym (search_at a ix m i c.worker o.place)) (fits_one a ix m roots best some team opens);
      roots = opens.count ∙ sym (ap (λ ix. length ix.roots) o.place.index);
      size = opens.size;
      one_each = subst (λ ix. length ix.nodes ≡ length ix.roots) (sym o.place.index) opens.searches.index.one_node_each;
      floor = opener_floor a ix m roots best some team opens i c o ∙ sym (ap last_of o.place.question);
      queues = sym o.place.queues;
      marks = length-replicate (length ix.leaves) false ∙ sym (ap (λ ix. length ix.leaves) o.place.index);
    }

    opens_knowing : FillKnows c.worker (fills_as c).hand
    opens_knowing = record {
      running = opener_runs a ix m roots best some team opens i c o;
      member = opener a ix m roots best some team opens i;
      shows = o.shows;
      stands = opener_stands a ix m roots best some team opens i c o;
      tied = record {
        drawn = opener_drawn a ix m roots best some team opens i c o;
        word = opener_tied a ix m roots best some team opens i c o;
        marks = record {
          placed = λ p n. absurd n;
          marked = λ l e. absurd (no_fresh_mark (length ix.leaves) l e);
          put = λ l w. absurd w.1;
        };
        pops = refl;
      };
    }

  -- what all know as they open
  pub all_serving : (cells : List Filling) → cells ≡ map fills_as team → All (λ (c : Filling). FillServes c.worker c.hand) cells
  all_serving cells is =
      all_map (λ (c : Filling). FillServes c.worker c.hand) fills_as team cells is
      (λ i c at. opens_serving i c (opens.each i c at))

  pub all_knowing : (cells : List Filling) → cells ≡ map fills_as team → All (λ (c : Filling). FillKnows c.worker c.hand) cells
  all_knowing cells is =
      all_map (λ (c : Filling). FillKnows c.worker c.hand) fills_as team cells is
      (λ i c at. opens_knowing i c (opens.each i c at))

  abbrev On : Filling → Filling → Type 0
  On x y = FillsOn x.worker x.hand y.worker y.hand

  module _ (before cells : List Filling)
      (is : before ≡ map fills_as team) (len : length cells ≡ length before)
      (on : (i : ℕ) (d : Filling) → i < length before → On (slice_index_or before i d) (slice_index_or cells i d)) where
    -- a searcher that has filled, with what it was
    record Was (i : ℕ) (y : Filling) : Type 0 where
      from : Between
      opened : IsOpen a ix m roots best i from
      goes : On (fills_as from) y

    was : (i : ℕ) (y : Filling) → slice_get cells i ≡ Some y → Was i y
    was i y at =
        let r = by_place On before cells len on i y at in
        let s = get_map fills_as team i r.from (ap (λ l. slice_get l i) (sym is) ∙ r.at) in
        record { from = s.0; opened = opens.each i s.0 s.1; goes = subst (λ x. On x y) (sym s.2) r.on }

    -- the draws of each are still of the root children
    own_at : (i : ℕ) (y : Filling) → slice_get cells i ≡ Some y → IsOwn y.hand.roots y.hand.drawn
    own_at i y at = let w = was i y at in w.goes.own (opener_own a ix m roots best some team opens i w.from w.opened)

    pub own_passes : (passes : List Pass) → passes ≡ map (λ (c : Filling). c.hand.drawn.pass) cells
        → All (λ (p : Pass). p.claims ≡ roots.counter) passes
    own_passes passes are =
        all_map (λ (p : Pass). p.claims ≡ roots.counter) (λ (c : Filling). c.hand.drawn.pass) cells passes are
        (λ i y at. (own_at i y at).claims ∙ ap (λ (r : Roots). r.counter) (was i y at).goes.roots)

    module _ (passes : List Pass) (are : passes ≡ map (λ (c : Filling). c.hand.drawn.pass) cells)
        (knows : All (λ (c : Filling). FillKnows c.worker c.hand) cells)
        (filled : All (λ (c : Filling). fills c.worker.phase ≡ false) cells)
        (drawn : EachDrawnOnce (group_count roots.size roots.count) passes) where
      -- a searcher with the record of its calls
      record Known (i : ℕ) (x : RecordedWorker) : Type 0 where
        cell : Filling
        at : slice_get cells i ≡ Some cell
        tied : DrawTied roots cell.hand.drawn x.own.claims
        ended : In None x.own.claims
        has : HasFilled a ix m best i (resting cell) x

      known : (i : ℕ) → i < length cells → (x : RecordedWorker) × Known i x
      known i low =
          let y = get_some cells i low in
          let k = all_at (λ (c : Filling). FillKnows c.worker c.hand) cells i y.0 knows y.1 in
          let done = all_at (λ (c : Filling). fills c.worker.phase ≡ false) cells i y.0 filled y.1 in
          let w = was i y.0 y.1 in
          let place = moved a ix m i w.from.worker y.0.worker w.opened.place w.goes.place in (
            k.member,
            record {
              cell = y.0;
              at = y.1;
              tied = subst (λ (r : Roots). DrawTied r y.0.hand.drawn k.member.own.claims) w.goes.roots k.tied.drawn;
              ended = filled_ended (search_of y.0.worker 1) y.0.worker.number k.member k.stands (ap fills k.shows.phase ∙ done);
              has = record {
                place = place;
                filled = done;
                running = k.running;
                word = w.goes.best ∙ opener_word a ix m roots best some team opens i w.from w.opened;
                floor = w.goes.floor ∙ opener_floor a ix m roots best some team opens i w.from w.opened;
                shows = k.shows;
                stands = subst (λ (j : ℕ). StandsFor g j k.member) place.number
                    (subst (λ (h : Ground). StandsFor h y.0.worker.number k.member)
                    (search_at a ix m i y.0.worker place) k.stands);
                hand = y.0.hand;
                rests = refl;
                tied = k.tied;
              };
            },
          )

      all : Chosen (length cells) Known
      all = choose (length cells) Known known

      abbrev draws : List Drawn
      draws = map (λ (c : Filling). c.hand.drawn) cells

      pub all_filled : (rested : List Resting) → rested ≡ map resting cells → AllFilled a ix m best rested
      all_filled rested rests = record {
        searches = opens.searches;
        some = some;
        start = opens.start;
        records = all.items;
        count = all.count ∙ sym (length-map cells resting) ∙ ap (λ l. length l) (sym rests);
        each = λ i c x at_c at_x.
            let k = all.each i x at_x in
            let there : Some (resting k.cell) ≡ Some c
            = sym (map_at resting cells i k.cell k.at) ∙ ap (λ l. slice_get l i) (sym rests) ∙ at_c in
            subst (λ c. HasFilled a ix m best i c x) (same_Some (resting k.cell) c there) k.has;
        once = given_once roots opens.size draws all.items count tied ended passes passes_are drawn;
        all_claimed = λ i x n at_x none low.
            given_all roots opens.size draws all.items count tied ended passes passes_are drawn i x n at_x
            (let nodes = opens.searches.index.one_node_each in let c = opens.count in omega arith);
      }
        where
          count : length all.items ≡ length draws
          count = all.count ∙ sym (length-map cells (λ (c : Filling). c.hand.drawn))

          tied : (i : ℕ) (d : Drawn) (x : RecordedWorker) → slice_get draws i ≡ Some d → slice_get all.items i ≡ Some x
              → DrawTied roots d x.own.claims
          tied i d x at_d at_x =
              let k = all.each i x at_x in
              subst (λ (d : Drawn). DrawTied roots d x.own.claims)
              (same_Some k.cell.hand.drawn d (sym (map_at (λ (c : Filling). c.hand.drawn) cells i k.cell k.at) ∙ at_d)) k.tied

          ended : (i : ℕ) (x : RecordedWorker) → slice_get all.items i ≡ Some x → In None x.own.claims
          ended i x at = (all.each i x at).ended

          passes_are : passes ≡ map (λ (d : Drawn). d.pass) draws
          passes_are = are ∙ sym (map-map (λ (d : Drawn). d.pass) (λ (c : Filling). c.hand.drawn) cells)
