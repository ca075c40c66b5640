-- The next root child stands behind the others, or is none.
use Rattle.std.proofs.Common.{ℕ, ◌+◌, ◌-◌, ◌^◌, ◌≤◌, List, [], ◌∷◌, ◌++◌, drop, sym, ◌∙◌, subst, arith}
use Rattle.std.proofs.Math.Nat.{pow-le-pow_right}
use Rattle.subtree_build.specs.declared.node.Node.{Node}
use Rattle.saved_index.specs.Reading.{roots_in}
use Rattle.saved_index.specs.declared.error.IndexFault.TheVariants.{NotIndex}
use Rattle.saved_index.proofs.NodesRead.{err_again}
use Rattle.saved_index.proofs.RootsRead.{AreRootsTold, one_root_more, no_root, no_root_node, node_behind, short_root, low_root, high_root, all_roots}
use Rattle.saved_index.proofs.roots.read_roots.Goals as goal
use Rattle.saved_index.proofs.roots.read_roots.Goals.{then-root-least-via-then-root-least, then-root-least-via-else-root-least+then-root-segments}

-- few segments have few roots
most_roots : (w : ℕ) → w ≤ 16 → 2 ^ w ≤ 2 ^ 16
most_roots w few = pow-le-pow_right {n = 2} (omega arith) {i = w} {j = 16} few

pub returns-in_default-clause-refused : goal.returns-in_default-clause-refused
returns-in_default-clause-refused c = λ refused.
    let r = c.loop-i.read in
    let rest = drop r.at c.args.bytes.now in
    no_root _ r.roots.items r.nodes.items r.lists c.args.many c.loop-i._i c.loop-i.least c.args.segments c.args.count rest
    c.loop-i-test.true c.loop-i.invariant.told (short_root c.loop-i.least c.args.segments rest c.in_default.ensures.none)

pub returns-then-root-least-clause-refused : goal.returns-then-root-least-clause-refused
returns-then-root-least-clause-refused c = λ refused.
    let r = c.loop-i.read in
    let rest = drop r.at c.args.bytes.now in
    let least = c.loop-i.least in
    let n = c.in-Some.root in
    let most = most_roots c.args.segments c.requires.few_segments in
    let is = c.in-Some.ensures.some.1 in
    no_root _ r.roots.items r.nodes.items r.lists c.args.many c.loop-i._i least c.args.segments c.args.count rest
    c.loop-i-test.true c.loop-i.invariant.told
    (elim c.then-root-least.branch [
      | then-root-least-via-then-root-least w ↦ low_root least c.args.segments n rest is (omega arith)
      | then-root-least-via-else-root-least+then-root-segments w ↦ high_root least c.args.segments n rest is (omega (arith, most))
    ])

pub returns-clause-read : goal.returns-clause-read
returns-clause-read c =
    let r = c.loop-i.read in
    all_roots _ r.roots.items r.nodes.items r.lists c.args.many c.loop-i._i c.loop-i.least c.args.segments c.args.count r.at
    c.args.bytes.now (omega arith) c.loop-i.invariant.told c.loop-i.invariant.within c.loop-i.invariant.fewer

pub returns-in-Err-clause-refused : goal.returns-in-Err-clause-refused
returns-in-Err-clause-refused c = λ refused.
    let r = c.loop-i.read in
    let told = c.in-Some.ensures.some in
    let most = most_roots c.args.segments c.requires.few_segments in
    let same = node_behind c.args.count c.args.segments c.in-Some.root r.at c.of_root-word.result c.args.bytes.now c.of_root-word.ensures in
    no_root_node _ r.roots.items r.nodes.items r.lists c.args.many c.loop-i._i c.loop-i.least c.args.segments c.args.count
    c.in-Some.root (drop r.at c.args.bytes.now) c.loop-i-test.true c.loop-i.invariant.told told.0 told.1 (omega arith) (omega (arith, most))
    (sym same ∙ c.in-Err.ensures.refused (err_again c.in-Err.e NotIndex refused))

pub loop-i-preserved : goal.loop-i-preserved
loop-i-preserved c =
    let r = c.loop-i.read in
    let bytes = c.args.bytes.now in
    let w = c.args.segments in
    let count = c.args.count in
    let root = c.in-Some.root in
    let told = c.in-Some.ensures.some in
    let most = most_roots w c.requires.few_segments in
    let same = node_behind count w root r.at c.of_root-word.result bytes c.of_root-word.ensures in
    let read = c.in-Ok.ensures.read in
    let node = c.in-Ok.node in
    let after = c.read_node.new.lists in
    let all = roots_in c.args.many 0 w count (drop c.args.from bytes) in
    let left = c.args.many - (c.loop-i._i + 1) in
    let R : List ℕ → Type 0 = λ rs. AreRootsTold all rs c.push-in-loop-i.new.self.items after left (root + 1) w count (drop node.at bytes) in
    let N : List Node → Type 0 = λ ns. AreRootsTold all (r.roots.items ++ root ∷ []) ns after left (root + 1) w count (drop node.at bytes) in
    record {
      told = subst R (sym c.in_ok-push.ensures.items) (subst N (sym c.in_ok-push-2.ensures.items)
          (one_root_more all r.roots.items r.nodes.items r.lists after c.args.many c.loop-i._i c.loop-i.least w count root
          (r.at + 4) node.at bytes (drop r.at bytes) node.node _ c.loop-i-test.true c.loop-i.invariant.told told.0 told.1 (omega arith)
          (omega (arith, most)) same read));
      within = read.within;
      fewer = omega (arith, read.fewer, c.loop-i.invariant.fewer);
    }
