-- The next share has the next pass, and nothing found.
use Rattle.std.proofs.Common.{◌≡◌, List, [], ◌∷◌, ◌++◌, All, length, refl, subst, sym, ap, ◌∙◌, append_assoc, length-append, arith}
use Rattle.std.specs.Vec.Iter.{into_iter_items}
use Rattle.std.proofs.lemmas.List.{get_or_at}
use Rattle.std.proofs.lemmas.List.Elements.{All-push}
use Rattle.claim_word.specs.Passes.{Claim, Pass, fresh_pass}
use Rattle.search_run.specs.Batches.{IsFresh}
use Rattle.search_run.proofs.dealing.shares.Goals as goal

pub loop-pass-preserved : goal.loop-pass-preserved
loop-pass-preserved c =
    let was = c.loop-pass.invariant in
    let done : List Pass = c.loop-pass.yielded in
    let pass : Pass = c.in-Some.pass in
    let rest = into_iter_items c.next.new.self in
    let whole : done ++ pass ∷ rest ≡ c.args.passes.items
    = ap (λ (l : List Pass). done ++ l) (sym c.in-Some.ensures.steps.0) ∙ was.whole in
    record {
      whole = append_assoc done (pass ∷ []) rest ∙ whole;
      len = omega (arith, c.push_reserved.ensures.len, was.len, length-append done (pass ∷ []));
      room = omega (arith, c.push_reserved.ensures.capacity, was.room);
      fresh = λ (claims : Claim) all.
          let own : pass ≡ fresh_pass claims
          = sym (get_or_at done pass rest pass (length done) refl)
          ∙ subst (All (λ (p : Pass). p ≡ fresh_pass claims)) (sym whole) all (length done) pass
          (omega (arith, length-append done (pass ∷ rest))) in
          subst (All (IsFresh claims)) (sym c.push_reserved.ensures.items)
          (All-push (IsFresh claims) c.loop-pass.shares.items _ (was.fresh claims all)
          (record { pass = own; found = c.new-found.ensures.items }));
    }
