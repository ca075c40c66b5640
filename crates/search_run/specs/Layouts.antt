-- How series become words, by the options of a command.
use Rattle.std.specs.Prelude.{ℕ, min, Option, None, Some}
use Rattle.breakpoints.specs.declared.table.Table.{Table}
use Rattle.isax_word.specs.declared.layout.Layout.{Layout}
use Rattle.search_limits.specs.declared.numbers.TheConstants.{MOST_SEGMENTS}
use Rattle.command_words.specs.declared.options.Options.{Options}
use Rattle.subtree_build.specs.declared.settings.Settings.{Settings}
use Rattle.segment_sums.specs.Division.{division_of}

-- how many segments a series of n values has: as many as were asked for, or as many as there may be
abbrev pub segments_of : ℕ → Option ℕ → ℕ
segments_of n None = min n MOST_SEGMENTS
segments_of n (Some w) = w

-- the layout of series of n values, with these segments, by this table
abbrev pub layout_of : ℕ → Option ℕ → Table → Layout
layout_of n segments table = record { cuts = division_of n (segments_of n segments); table = table }

-- the settings of a tree of series of n values, under these options
abbrev pub settings_of : ℕ → Options → Settings
settings_of n o = record { layout = layout_of n o.segments o.table; leaf_size = o.leaf }
