use Rattle.std.proofs.Common.{◌≡◌, ◌<◌, List, length, map, sym, ap, ◌∙◌, subst, ℕ, arith}
use Rattle.std.specs.Prelude.{Some, slice_get}
use Rattle.std.proofs.lemmas.List.{length-map}
use Rattle.subtree_build.specs.Outline.{leaf_numbers}
use Rattle.subtree_build.specs.Start.{node_at}
use Rattle.query_core.specs.Walks.{Walked}
use Rattle.query_core.specs.Working.{Working}
use Rattle.query_core.proofs.TurnLaws.{claim_shows, root_there, stays, turned}
use Rattle.query_core.proofs.worker.Worker.claim.Goals as goal

pub returns-in-Some : goal.returns-in-Some
returns-in-Some g c =
    let inside = c.self.inside in
    let kept = c.self.invariant.0 in
    let root = c.in-Some.root in
    let real : root < length inside.search.index.nodes =
    omega (
      arith,
      c.in-Some.ensures.bound,
      subst (λ w. g.S.Shared.roots c.args.hand.now ≡ length w.index.roots)
          (sym c.self.view_is) c.requires.roots,
      kept.searched.index.one_node_each,
    ) in
    let left : c.begin.new.self.leaves ≡ leaf_numbers (node_at inside.search.index root) =
    ap (λ (w : Walked). w.leaves) c.begin.ensures
    ∙ ap (λ ix. leaf_numbers (node_at ix root)) kept.walk_index in
    let there : slice_get (map leaf_numbers inside.search.index.nodes) root ≡ Some c.begin.new.self.leaves =
    root_there inside.search.index.nodes root real ∙ ap (λ (ls : List ℕ). Some ls) (sym left) in
    record {
      turns = turned g.S.Shared.did c.args.hand.now c.claim.new.self _ c.args.self.now _ _ _ c.self.view_is c.requires.phase
          (λ workers m shows. c.in-Some.ensures.did)
          (λ workers. subst (λ (n : ℕ). root < n) (sym (length-map inside.search.index.nodes leaf_numbers)) real)
          tt
          (λ workers m shows. claim_shows workers _ m root c.begin.new.self.leaves inside.start shows there kept.start_is);
      place = stays _ c.args.self.now _ _ c.self.view_is;
      shares = ap (λ (o : Working). o.shares) c.self.view_is;
      hand = (c.claim.ensures.floor, c.claim.ensures.roots);
    }
