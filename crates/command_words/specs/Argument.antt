-- A command as a list of its arguments, as `clap` reads it. No argument has a rule on another.
use Rattle.std.specs.Prelude.{true, List, [], Some, map}
use Rattle.clap.specs.Words.{App, Rule, Text, new_rule}
use Rattle.clap.specs.Simple.{new_shape}
use Rattle.clap.specs.declared.builder.action.ArgAction.TheVariants.{Set, SetTrue}
use Rattle.command_words.specs.declared.argument.Argument.{Argument}
use Rattle.command_words.specs.declared.argument.Argument.TheVariants.{Positional, Valued, Flag}

-- a word at its place, which has to be there
abbrev pub positional : Text → Rule
positional name = record (new_rule name) { required = true; action = Some Set }

-- an option with one value, as `--name value` or `--name=value`
abbrev pub valued : Text → Rule
valued name = record (new_rule name) { long = Some name; action = Some Set }

-- an option without a value, as `--name`
abbrev pub flag : Text → Rule
flag name = record (new_rule name) { long = Some name; action = Some SetTrue }

-- the rule by which `clap` reads an argument
abbrev pub rule_for : Argument → Rule
rule_for (Positional name) = positional name.now
rule_for (Valued name) = valued name.now
rule_for (Flag name) = flag name.now

-- the command of this name with these rules and no others
abbrev pub app_with : Text → List Rule → App
app_with name rules = record { top = record (new_shape name) { rules = rules }; subs = [] }

-- the command of this name with these arguments and no others
abbrev pub app_of_arguments : Text → List Argument → App
app_of_arguments name arguments = app_with name (map rule_for arguments)
