-- The text of discords: a line each, with its rank, its number, its distance and its neighbour.
use Rattle.std.specs.Prelude.{ℕ, List, [], ◌∷◌, ◌++◌, decimal}
use Rattle.discord_query.specs.declared.discords.Discord.{Discord}
use Rattle.run_traffic.specs.Lines.{ranked}

-- the line of the discord of rank r
abbrev pub discord_line : ℕ → Discord → List ℕ
discord_line r d =
    decimal r ++ 32 ∷ decimal d.number ++ 32 ∷ decimal d.distance ++ 32 ∷ decimal d.neighbour ++ 10 ∷ []

-- the lines of these discords, the first of them of rank r
abbrev pub discord_lines : ℕ → List Discord → List ℕ
discord_lines r ds = ranked discord_line r ds
