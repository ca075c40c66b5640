-- The bytes that were read, where known, are those that were left.
use Rattle.std.proofs.Common.{◌≡◌, ◌≤◌, List, ℕ, length, ap, ◌∙◌, arith}
use Rattle.std.specs.Prelude.{IfSome}
use Rattle.std.proofs.lemmas.Option.{IfSome_then}
use Rattle.std.proofs.lemmas.Result.{IfErr-weaker}
use Rattle.saved_index.specs.Loading.{Explains, Leaves, Refuses}
use Rattle.saved_index.proofs.Refusals.{ends_read, explains_refused, leaves_refused}
use Rattle.saved_index.proofs.loading.load_with.Goals as goal

pub returns-clause-refused : goal.returns-clause-refused
returns-clause-refused g c =
    let all = g.R.Rows.collection c.args.rows.now in
    let before = g.F.Files.left c.args.files.now in
    let bytes = c.as_slice.result.now in
    let are : IfSome before (λ rest. bytes ≡ rest)
    = IfSome_then before c.in-Ok.ensures.whole.1 (λ rest same. c.as_slice.ensures.value ∙ same) in
    IfErr-weaker c.load_bytes.result (Refuses all bytes) (Explains all before)
    (λ e refuses. explains_refused all before bytes e are refuses) c.load_bytes.ensures.refused

pub returns-clause-left : goal.returns-clause-left
returns-clause-left g c =
    let all = g.R.Rows.collection c.args.rows.now in
    let before = g.F.Files.left c.args.files.now in
    let now = g.F.Files.left c.read_all.new.files in
    let bytes = c.as_slice.result.now in
    let short : length bytes ≤ 1073741824
    = omega (arith, c.in-Ok.ensures.whole.0, ap (λ (bs : List ℕ). length bs) c.as_slice.ensures.value) in
    IfErr-weaker c.load_bytes.result (Refuses all bytes) (Leaves before now)
    (λ e refuses. leaves_refused all before now bytes e short c.in-Ok.ensures.whole.2 refuses) c.load_bytes.ensures.refused

pub returns-clause-files : goal.returns-clause-files
returns-clause-files g c =
    let all = g.R.Rows.collection c.args.rows.now in
    let bytes = c.as_slice.result.now in
    let short : length bytes ≤ 1073741824
    = omega (arith, c.in-Ok.ensures.whole.0, ap (λ (bs : List ℕ). length bs) c.as_slice.ensures.value) in
    let read = ends_read all bytes c.load_bytes.result short c.load_bytes.ensures.refused in
    record {
      failed = λ is. absurd (read is);
      stays_open = λ other. c.in-Ok.ensures.stays_open (λ is. cc);
      kept = c.in-Ok.ensures.kept;
      counts = c.in-Ok.ensures.counts;
      sure = λ reliable. let stays = c.in-Ok.ensures.reliable reliable in (read, stays.1, stays.2);
    }
