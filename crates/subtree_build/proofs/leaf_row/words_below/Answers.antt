-- The next node's words stand behind the others.
use Rattle.std.proofs.Common.{◌≡◌, ◌^◌, ◌<◌, List, ◌++◌, length, get_or, Some, sym, ap, ◌∙◌, subst, arith, length-append}
use Rattle.std.proofs.lemmas.Option.{slice_get-get_or}
use Rattle.isax_word.specs.declared.word.Part.{Part}
use Rattle.isax_word.specs.Word.{one_bit_word}
use Rattle.subtree_build.specs.Assembly.{CanStand, leaf_words}
use Rattle.subtree_build.specs.Outline.{outline}
use Rattle.subtree_build.proofs.LeafSteps.{words_step, firsts_step}
use Rattle.subtree_build.proofs.leaf_row.words_below.Goals as goal

-- the words so far are some of all, which are few
few : (words rest all : List (List Part)) → words ++ rest ≡ all → length all < 2 ^ 32 → length words < 2 ^ 32
few words rest all whole less = omega (arith, ap length whole, length-append words rest)

pub overflow_cast-first : goal.overflow_cast-first
overflow_cast-first c =
    let less : length c.loop-i.words.items < 2 ^ 32 = few _ _ _ c.loop-i.invariant.words c.requires.few in
    omega (arith, c.len-first.ensures, c.loop-i.words.ok.0)

pub overflow_cast-count : goal.overflow_cast-count
overflow_cast-count c =
    let less : length c.loop-i.words.items < 2 ^ 32 = few _ _ _ c.loop-i.invariant.words c.requires.few in
    omega (arith, c.len-count.ensures, c.loop-i.words.ok.0)

pub of_root-word-requires-clause-bits : goal.of_root-word-requires-clause-bits
of_root-word-requires-clause-bits c = c.requires.roots c.loop-i.i 0 (omega (arith, c.loop-i-test.true, c.requires.one_each))

pub put_words-requires : goal.put_words-requires
put_words-requires c =
    let node = c.index-nodes-i.result in
    let found = slice_get-get_or c.args.nodes.now c.loop-i.i node c.loop-i-test.true ∙ ap Some (sym c.index-nodes-i.is) in
    subst (λ (word : List Part). CanStand word (outline node)) (sym c.of_root-word.ensures) (c.requires.stand c.loop-i.i node found)

pub loop-i-preserved : goal.loop-i-preserved
loop-i-preserved c =
    let w = c.args.segments in
    let roots = c.args.roots.now in
    let nodes = c.args.nodes.now in
    let i = c.loop-i.i in
    let node = c.index-nodes-i.result in
    let now = c.put_words.new.words.items in
    let put : now ≡ c.loop-i.words.items ++ leaf_words (one_bit_word (get_or roots i 0) w) (outline node)
    = c.in_ok-put_words.ensures
    ∙ ap (λ (word : List Part). c.loop-i.words.items ++ leaf_words word (outline node)) c.of_root-word.ensures in
    record {
      words = words_step w roots nodes i node c.loop-i.words.items now (omega (arith, c.requires.one_each)) c.loop-i-test.true
          c.index-nodes-i.is put c.loop-i.invariant.words;
      firsts = firsts_step w roots nodes i node c.loop-i.words.items now c.loop-i.firsts.items c.push.new.self.items
          c.len-first.result c.loop-i-test.true c.index-nodes-i.is put
          (omega (arith, c.len-first.ensures, c.loop-i.words.ok.0)) c.in_ok-push.ensures.items
          c.loop-i.invariant.firsts;
    }
