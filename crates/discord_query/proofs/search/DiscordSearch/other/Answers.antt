-- Of the two nearest to a series one at most is the series itself.
use Rattle.std.proofs.Common.{◌≡◌, [], take, sym, ap, ◌∙◌}
use Rattle.std.specs.List.{filter}
use Rattle.std.proofs.lemmas.Option.{get_or_from_slice_get}
use Rattle.series_core.specs.Answer.{answer}
use Rattle.search_task.specs.Questions.{Question}
use Rattle.subtree_build.specs.Members.{series_at}
use Rattle.discord_query.specs.Discords.{is_other}
use Rattle.discord_query.proofs.Others.{other_of_two}
use Rattle.discord_query.proofs.search.DiscordSearch.other.Goals as goal

pub returns : goal.returns
returns g c =
    let all = g.R.Rows.collection c.args.self.now.rows.now in
    let s = c.args.number in
    let row : series_at all s ≡ c.row.result.now
    = get_or_from_slice_get all.series s c.row.result.now [] c.row.ensures in
    let given : c.as_slice.result.now ≡ answer all (series_at all s) 2
    = c.as_slice.ensures.value ∙ (c.nearest.view_is ∙ (c.in_ok-nearest.ensures
    ∙ (ap (λ (t : Question). answer t.collection t.query t.k) c.new-task.ensures
    ∙ ap (λ q. answer all q 2) (sym row)))) in
    c.first_but.ensures ∙ (ap (λ l. take 1 (filter (is_other s) l)) given ∙ other_of_two all s)
