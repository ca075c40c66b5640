-- The pass of the next portion reads its word.
use Rattle.std.proofs.Common.{◌≡◌, ◌≤◌, ◌<◌, ℕ, List, Some, length, sym, ap, ◌∙◌, subst, ⊎_elim, arith}
use Rattle.std.specs.Prelude.{slice_get}
use Rattle.std.proofs.lemmas.Bool.{cases_eq}
use Rattle.std.proofs.lemmas.Option.{slice_get-get_or, slice_get_within}
use Rattle.best_word.specs.Passes.{Best, Pass}
use Rattle.query_core.specs.Portions.{Limited, portion_last}
use Rattle.query_core.proofs.LimitsKept.{left_more, limits_same, limits_set, read_more}
use Rattle.query_core.proofs.limits.Limits.most.Goals as goal

pub read-requires : goal.read-requires
read-requires c =
    let words : c.self.inside.words.now ≡ c.args.self.now.words = ap (λ (l : Limited). l.words) c.self.view_is in
    let portion = c.loop-portion.portion in
    let passes = c.loop-portion.self-inside.passes.items in
    let g = c.requires.limits.0 in
    let are = c.loop-portion.invariant.limits g c.requires.limits.1 in
    let low : portion < length c.self.inside.words.now = c.loop-portion-test.true in
    let many : length c.self.inside.words.now ≡ length c.args.self.now.words = ap (λ (bs : List Best). length bs) words in
    let at_word : slice_get c.args.self.now.words portion ≡ Some c.index-words-portion.result
    = ap (λ (bs : List Best). slice_get bs portion) (sym words)
    ∙ slice_get-get_or c.self.inside.words.now portion c.index-words-portion.result low ∙ ap Some (sym c.index-words-portion.is) in
    let at_pass : slice_get passes portion ≡ Some c.index_mut.result.now
    = slice_get-get_or passes portion c.index_mut.result.now (omega (arith, low, many, are.words, are.passes))
    ∙ ap Some (sym c.index_mut.ensures.value) in
    (are.each portion c.index-words-portion.result c.index_mut.result.now at_word at_pass).0

pub loop-portion-preserved : goal.loop-portion-preserved
loop-portion-preserved c =
    let words : c.self.inside.words.now ≡ c.args.self.now.words = ap (λ (l : Limited). l.words) c.self.view_is in
    let portion = c.loop-portion.portion in
    let passes = c.loop-portion.self-inside.passes.items in
    let p : Pass = c.index_mut.result.now in
    let low : portion < length c.self.inside.words.now = c.loop-portion-test.true in
    let many : length c.self.inside.words.now ≡ length c.args.self.now.words = ap (λ (bs : List Best). length bs) words in
    let at_word : slice_get c.args.self.now.words portion ≡ Some c.index-words-portion.result
    = ap (λ (bs : List Best). slice_get bs portion) (sym words)
    ∙ slice_get-get_or c.self.inside.words.now portion c.index-words-portion.result low ∙ ap Some (sym c.index-words-portion.is) in
    let first = c.loop-portion.invariant.limits c.requires.limits.0 c.requires.limits.1 in
    let at_first : slice_get passes portion ≡ Some p
    = slice_get-get_or passes portion p (omega (arith, low, many, first.words, first.passes)) ∙ ap Some (sym c.index_mut.ensures.value) in
    record {
      words = c.loop-portion.invariant.words;
      home = c.loop-portion.invariant.home;
      offered = c.loop-portion.invariant.offered;
      read = read_more c.args.self.now.passes passes portion c.read.result p c.read.new.pass at_first c.read.ensures.trace
          c.loop-portion.invariant.left c.loop-portion.most c.max-most.result (omega (arith, c.max-most.ensures))
          (omega (arith, c.max-most.ensures)) c.loop-portion.invariant.read;
      left = left_more c.args.self.now.passes passes portion c.read.result p c.read.new.pass at_first c.read.ensures.trace
          c.loop-portion.invariant.left;
      limits = λ g all.
          let are = c.loop-portion.invariant.limits g all in
          let at_pass : slice_get passes portion ≡ Some p
          = slice_get-get_or passes portion p (omega (arith, low, many, are.words, are.passes))
          ∙ ap Some (sym c.index_mut.ensures.value) in
          limits_set g c.args.self.now passes portion p c.read.new.pass are at_pass
          (ap (λ (q : Pass). q.best) c.read.ensures.trace) (ap (λ (q : Pass). q.floor) c.read.ensures.trace);
      most = λ g all n below.
          let are = c.loop-portion.invariant.limits g all in
          let at_pass : slice_get passes portion ≡ Some p
          = slice_get-get_or passes portion p (omega (arith, low, many, are.words, are.passes))
          ∙ ap Some (sym c.index_mut.ensures.value) in
          let is : p.floor ≡ portion_last g portion = (are.each portion c.index-words-portion.result p at_word at_pass).1 in
          ⊎_elim
          (λ (new : n ≡ portion).
          subst (λ (m : ℕ). portion_last g m ≤ c.max-most.result) (sym new)
          (omega (arith, is, c.read.ensures.range.0, c.max-most.ensures)))
          (λ (old : n ≡ portion → ⊥).
          let was = c.loop-portion.invariant.most g all n (omega arith) in
          omega (arith, was, c.max-most.ensures))
          (cases_eq n portion);
    }

pub returns : goal.returns
returns c =
    let was = c.loop-portion.invariant in
    let many : length c.self.inside.words.now ≡ length c.args.self.now.words
    = ap (λ (l : Limited). length l.words) c.self.view_is in
    record {
      read = λ g all. record {
        limits = limits_same g c.args.self.now _ was.words was.home.0 (was.limits g all);
        home = was.home.0;
        at_home = was.home.1;
        offered = was.offered;
        reads = λ n p at.
            was.read n (omega (arith, slice_get_within c.args.self.now.passes n p at, all.words, all.passes, many, c.loop-portion-test.false)) p at;
        most = λ n below. was.most g all n (omega (arith, below, all.words, many, c.loop-portion-test.false));
      };
    }
