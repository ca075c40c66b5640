use Rattle.std.proofs.Common.{rules, ◌≡◌, ◌++◌, ◌<◌, [], ap, arith, get_or, length}
use Rattle.discord_query.specs.declared.discords.Discord.{Discord}
use Rattle.run_traffic.proofs.Ranked.{ranked_step}
use Rattle.search_run.specs.DiscordLines.{discord_line}
use Rattle.search_run.proofs.output.discords.discord_text.Goals as goal

pub loop-discord-preserved : goal.loop-discord-preserved
loop-discord-preserved c =
    let before = c.loop-discord.invariant in
    let same : c.deref-discord-items.result.now ≡ c.args.discords.now = search rules in
    let low : c.loop-discord.discord-index < length c.args.discords.now
    = omega (arith, c.loop-discord-test.true, ap length same) in
    let none : Discord = record { number = 0; distance = 0; neighbour = 0 } in
    let discord : Discord = get_or c.args.discords.now c.loop-discord.discord-index none in
    let pushed : c.push_line.new.text.items ≡ c.loop-discord.text.items ++ discord_line c.loop-discord.rank discord
    = search (rules, c.in_ok-push_line.ensures) in
    record {
      rank = omega (arith, before.rank);
      text = ranked_step discord_line [] c.loop-discord.text.items _ c.loop-discord.rank c.loop-discord.discord-index
          c.args.discords.now none low before.rank before.text pushed;
    }
