use Rattle.std.proofs.Common.{◌≡◌, ◌+◌, take}
use Rattle.search_run.specs.DiscordLines.{discord_lines}
use Rattle.search_run.proofs.output.discords.discord_text.Given as goal

abbrev pub invariant-loop-discord : goal.invariant-loop-discord
invariant-loop-discord l = record {
  rank : l.rank ≡ l.discord-index + 1;
  text : l.text.items ≡ discord_lines 1 (take l.discord-index l.discords);
}
