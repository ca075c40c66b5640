-- One reader's pass more.
use Rattle.std.proofs.Common.{◌≡◌, ◌++◌, ◌∷◌, [], List, length, sym, ap, ◌∙◌, append_assoc, length-append, arith}
use Rattle.std.proofs.lemmas.List.{length-map, map-append}
use Rattle.std.specs.Vec.Iter.{into_iter_items}
use Rattle.live_collection.specs.declared.live.Reader.{Reader}
use Rattle.live_collection.specs.Steps.{LivePass}
use Rattle.live_collection.proofs.closing.all_passes.Goals as goal

pub push_reserved-requires-in-loop-reader : goal.push_reserved-requires-in-loop-reader
push_reserved-requires-in-loop-reader c =
    let was = c.loop-reader.invariant in
    let done = c.loop-reader.yielded in
    let rest = into_iter_items c.next.new.self in
    let whole : done ++ c.in-Some.reader ∷ rest ≡ c.args.readers.items
    = ap (λ (rs : List Reader). done ++ rs) (sym c.in-Some.ensures.steps.0) ∙ was.whole in
    let l = length-append done (c.in-Some.reader ∷ rest) in
    let n = ap length whole in
    let p = ap length was.passes in
    let m = length-map done (λ (r : Reader). r.pass) in
    let room = was.room in
    let own = c.loop-reader.passes.ok.0 in
    omega arith

pub loop-reader-preserved : goal.loop-reader-preserved
loop-reader-preserved c =
    let was = c.loop-reader.invariant in
    let done = c.loop-reader.yielded in
    let reader : Reader = c.in-Some.reader in
    let rest = into_iter_items c.next.new.self in
    let whole : done ++ reader ∷ rest ≡ c.args.readers.items
    = ap (λ (rs : List Reader). done ++ rs) (sym c.in-Some.ensures.steps.0) ∙ was.whole in record {
      whole = append_assoc done (reader ∷ []) rest ∙ whole;
      passes = c.push_reserved-in-loop-reader.ensures.items
          ∙ ap (λ (ps : List LivePass). ps ++ reader.pass ∷ []) was.passes
          ∙ ap (λ (ps : List LivePass). c.args.writer.pass ∷ ps) (sym (map-append (λ (r : Reader). r.pass) done (reader ∷ [])));
      room = (let r = was.room in let p = c.push_reserved-in-loop-reader.ensures.capacity in omega arith);
    }
