-- The next worker has the next pass and the last word that is left, both fresh.
use Rattle.std.proofs.Common.{◌≡◌, ℕ, List, [], ◌∷◌, ◌++◌, All, length, refl, sym, ap, ◌∙◌, subst, append_assoc, length-append, arith}
use Rattle.std.specs.Vec.Iter.{into_iter_items}
use Rattle.std.proofs.lemmas.List.{get_or_append_left, get_or_at, get_or_push}
use Rattle.std.proofs.lemmas.List.Elements.{All-push}
use Rattle.claim_word.specs.Passes.{Claim, Pass, fresh_pass}
use Rattle.best_word.specs.Passes.{Pass as Word, fresh_pass as fresh_word}
use Rattle.list_team.specs.Searchers.{IsFresh}
use Rattle.list_team.specs.declared.searcher.Searcher.{Searcher}
use Rattle.list_team.proofs.team.hire.Goals as goal

-- what stands behind those that were taken is as fresh as all of them
fresh_behind : (claims : Claim) (done rest all : List Pass) (pass : Pass) → done ++ pass ∷ rest ≡ all
    → All (λ p. p ≡ fresh_pass claims) all → pass ≡ fresh_pass claims
fresh_behind claims done rest all pass whole fresh =
    let P : List Pass → Type 0 = λ ps. All (λ p. p ≡ fresh_pass claims) ps in
    sym (get_or_at done pass rest pass (length done) refl)
    ∙ subst P (sym whole) fresh (length done) pass (omega (arith, length-append done (pass ∷ rest)))

pub loop-pass-preserved : goal.loop-pass-preserved
loop-pass-preserved c =
    let was = c.loop-pass.invariant in
    let done = c.loop-pass.yielded in
    let pass = c.in-Some.pass in
    let whole : done ++ pass ∷ into_iter_items c.next.new.self ≡ c.args.passes.items
    = ap (λ xs. done ++ xs) (sym c.in-Some.ensures.steps.0) ∙ was.whole in
    let claims = c.args.claims.now in
    let best = c.args.best.now in
    let words = c.in-Some-pop.ensures.items in
    let left = c.pop.new.self.items in
    let word = c.in-Some-pop.word in
    let W : ℕ → List Word → Type 0 = λ floor ws. All (λ w. w ≡ fresh_word best floor) ws in
    record {
      whole = append_assoc done (pass ∷ []) (into_iter_items c.next.new.self) ∙ whole;
      len = omega (arith, c.push_reserved.ensures.len, was.len, length-append done (pass ∷ []));
      left = omega (
        arith,
        was.left,
        length-append done (pass ∷ []),
        c.in-Some-pop.ensures.len,
        ap length words,
        length-append left (word ∷ []),
        c.pop.new.self.ok.0,
        c.loop-pass.words.ok.0,
      );
      room = omega (arith, c.push_reserved.ensures.capacity, was.room);
      words = λ floor all n d inside.
          sym (get_or_append_left left (word ∷ []) d n inside)
          ∙ subst (W floor) words (was.words floor all) n d (omega (arith, inside, length-append left (word ∷ [])));
      fresh = λ floor all.
          let all_words : W floor (left ++ word ∷ []) = subst (W floor) words (was.words floor all) in
          let word_fresh : word ≡ fresh_word best floor
          = sym (get_or_push left word word (length left) refl)
          ∙ all_words (length left) word (omega (arith, length-append left (word ∷ []))) in
          subst (λ (ws : List Searcher). All (IsFresh claims best floor c.args.k) ws) (sym c.push_reserved.ensures.items)
          (All-push (IsFresh claims best floor c.args.k) c.loop-pass.team.items _ (was.fresh floor all)
          (record {
            pass = fresh_behind claims done _ _ pass whole c.requires.passes;
            word = word_fresh;
            list = c.in_ok-list.ensures;
          }));
    }
