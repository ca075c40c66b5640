use Rattle.std.proofs.Common.{rules, ◌≡◌, ◌+◌, ◌^◌, ap, sym, ◌∙◌, subst, length, take, get_or, length-append, arith}
use Rattle.std.specs.List.{flat_map}
use Rattle.live_collection.specs.Sides.{points_of}
use Rattle.live_run.specs.Replies.{IsAskedText}
use Rattle.live_run.specs.Dialogues.{batches_seen}
use Rattle.live_run.specs.Texts.{file_queries}
use Rattle.live_run.specs.declared.group.QueryFile.{QueryFile}
use Rattle.live_run.proofs.Asked.{file_fits, file_more, queries_more}
use Rattle.live_run.proofs.Askings.{file_size}
use Rattle.live_run.proofs.answering.answer_all.Goals as goal

pub answer_file-requires-clause-numbers : goal.answer_file-requires-clause-numbers
answer_file-requires-clause-numbers g c =
    file_fits c.args.askings.now c.loop-file.file-index c.file-item.result c.args.first c.loop-file.next (2 ^ 64)
    (search (rules, c.file-item.is)) c.loop-file-test.true c.requires.numbers c.loop-file.invariant.next

pub overflow_add-next : goal.overflow_add-next
overflow_add-next g c =
    let fits = file_fits c.args.askings.now c.loop-file.file-index c.file-item.result c.args.first c.loop-file.next (2 ^ 64)
    (search (rules, c.file-item.is)) c.loop-file-test.true c.requires.numbers c.loop-file.invariant.next in
    let e = c.from-next.ensures in
    let m = c.count.ensures.count in
    omega arith

pub loop-file-preserved : goal.loop-file-preserved
loop-file-preserved g c =
    let inv = c.loop-file.invariant in
    let f = c.file-item.result in
    let fs = c.args.askings.now in
    let i = c.loop-file.file-index in
    let n = points_of c.args.live.now in
    let same : f ≡ get_or fs i f = search (rules, c.file-item.is) in
    let made = c.in_ok-answer_file.ensures in
    let later = batches_seen c.loop-file.reader in
    let last = batches_seen c.answer_file.new.reader in
    let told = subst (λ (x : QueryFile). IsAskedText n c.loop-file.next later (file_queries x) made.text.0 last) same made.text.1 in
    let l = ap length (queries_more fs i f c.loop-file-test.true) in
    let s = file_size f in
    let e = ap (λ (x : QueryFile). length (file_queries x)) same in
    let a = length-append (flat_map file_queries (take i fs)) (file_queries (get_or fs i f)) in
    let at = inv.next in
    let count = c.from-next.ensures in
    let size = c.count.ensures.count in
    record {
      reader = made.reader.0;
      number = made.reader.1 ∙ inv.number;
      told = subst (λ t. IsAskedText n c.args.first (batches_seen c.args.reader.now)
          (flat_map file_queries (take (i + 1) fs)) t last) (sym made.text.2)
          (file_more n c.args.first c.loop-file.next (batches_seen c.args.reader.now) later last fs i f c.loop-file.text.items
          made.text.0 c.loop-file-test.true inv.next inv.told told);
      next = omega arith;
    }
