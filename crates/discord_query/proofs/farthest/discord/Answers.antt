-- The k farthest are series, and each with its nearest other is a discord.
use Rattle.std.proofs.Common.{◌≡◌, ap, sym, ◌∙◌, subst}
use Rattle.std.specs.List.{flat_map}
use Rattle.std.proofs.lemmas.Result.{IfOk-weaker}
use Rattle.discord_query.specs.Discords.{discords, discords_of}
use Rattle.discord_query.specs.Searches.{AreSeries}
use Rattle.discord_query.proofs.Together.{top_series}
use Rattle.discord_query.proofs.farthest.discord.Goals as goal

pub named-requires-clause-inside : goal.named-requires-clause-inside
named-requires-clause-inside g c =
    let all = g.R.Rows.collection c.args.rows.now in
    subst (AreSeries all) (sym (c.pairs.ensures.pairs ∙ c.in_ok-farthest.ensures)) (top_series all c.args.k)

pub returns : goal.returns
returns g c =
    let all = g.R.Rows.collection c.args.rows.now in
    let farthest = c.pairs.ensures.pairs ∙ c.in_ok-farthest.ensures in
    IfOk-weaker c.named.result (λ ds. ds ≡ flat_map (λ p. discords_of all p.number) c.pairs.result.now)
    (λ ds. ds ≡ discords all c.args.k)
    (λ ds e. e ∙ ap (flat_map (λ p. discords_of all p.number)) farthest) c.named.ensures
