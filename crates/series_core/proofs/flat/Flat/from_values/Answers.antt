use Rattle.std.proofs.Common.{sym, ap, ◌∙◌, ◌≡◌, length, vec_len}
use Rattle.series_core.proofs.RowsOf.{is_collection}
use Rattle.series_core.proofs.flat.Flat.from_values.Goals as goal

pub invariant_of-result : goal.invariant_of-result
invariant_of-result c =
    let size : length c.args.values.items ≡ vec_len c.args.values =
    sym (ap length c.deref.ensures.value) ∙ c.deref.ensures.len in
    record {
      some_point = c.requires.some_point;
      length_limit = c.requires.length_limit;
      count_limit = rw c.len.ensures c.requires.count_limit;
      size = rw (size, c.len.ensures) (sym c.requires.whole);
      values_limit = rw size c.requires.values_limit;
      each = rw (← c.deref.ensures.value) c.values_fit.ensures;
    }

pub returns-clause-sound : goal.returns-clause-sound
returns-clause-sound c = is_collection c.args.length _ c.args.values.items (invariant_of-result c)
