-- The names of the commands, the arguments of each, and what `clap` finds in words by one of them.
use Rattle.std.specs.Prelude.{Bool, List, [], ◌∷◌, Option, Some, None, codes, if◌then◌else◌}
use Rattle.std.specs.List.{list_any}
use Rattle.std.specs.Str.{bytes_eq}
use Rattle.clap.specs.Words.{App, Kinds, Row, Rule, Text, fault_of, matches_of}
use Rattle.command_words.specs.Argument.{app_with, flag, positional, valued}
use Rattle.command_words.specs.declared.name.CommandName.{CommandName}
use Rattle.command_words.specs.declared.name.CommandName.TheVariants.{Nearest, Range, Verify, Trial}
use Rattle.command_words.specs.declared.name.CommandName.TheVariants.{Convert, Save}
use Rattle.command_words.specs.declared.name.CommandName.TheVariants.{Windows, Discord}

-- the word that names a command
abbrev pub text_of : CommandName → Text
text_of Nearest = codes "nearest"
text_of Range = codes "range"
text_of Verify = codes "verify"
text_of Trial = codes "trial"
text_of Convert = codes "convert"
text_of Save = codes "save"
text_of Windows = codes "windows"
text_of Discord = codes "discord"

-- the command that a word names
abbrev pub named_by : Text → Option CommandName
named_by text = if bytes_eq text (codes "nearest") then Some Nearest
    else (if bytes_eq text (codes "range") then Some Range
    else (if bytes_eq text (codes "verify") then Some Verify
    else (if bytes_eq text (codes "trial") then Some Trial
    else (if bytes_eq text (codes "convert") then Some Convert
    else (if bytes_eq text (codes "save") then Some Save
    else (if bytes_eq text (codes "windows") then Some Windows
    else (if bytes_eq text (codes "discord") then Some Discord else None)))))))

-- the rules for the arguments of a command: first its words in their order, then its options
abbrev pub rules_of : CommandName → List Rule
rules_of Nearest = positional (codes "DATA") ∷ positional (codes "QUERIES") ∷ valued (codes "k")
    ∷ valued (codes "segments") ∷ valued (codes "leaf") ∷ valued (codes "workers")
    ∷ valued (codes "queues") ∷ valued (codes "breaks") ∷ valued (codes "raw")
    ∷ valued (codes "index") ∷ flag (codes "certificate") ∷ flag (codes "sealed") ∷ []
rules_of Range = positional (codes "DATA") ∷ positional (codes "QUERIES")
    ∷ positional (codes "RADIUS") ∷ valued (codes "segments") ∷ valued (codes "leaf")
    ∷ valued (codes "workers") ∷ valued (codes "breaks") ∷ valued (codes "raw") ∷ []
rules_of Verify = positional (codes "DATA") ∷ positional (codes "QUERIES")
    ∷ positional (codes "CERTIFICATE") ∷ valued (codes "k") ∷ valued (codes "segments")
    ∷ valued (codes "breaks") ∷ valued (codes "raw") ∷ []
rules_of Trial = positional (codes "SEED") ∷ positional (codes "COUNT")
    ∷ positional (codes "LENGTH") ∷ positional (codes "QUERIES") ∷ valued (codes "k")
    ∷ valued (codes "segments") ∷ valued (codes "leaf") ∷ valued (codes "workers")
    ∷ valued (codes "queues") ∷ valued (codes "breaks") ∷ flag (codes "sealed") ∷ []
rules_of Convert = positional (codes "DATA") ∷ valued (codes "raw") ∷ []
rules_of Save = positional (codes "DATA") ∷ valued (codes "segments") ∷ valued (codes "leaf")
    ∷ valued (codes "workers") ∷ valued (codes "breaks") ∷ valued (codes "raw") ∷ []
rules_of Windows = positional (codes "SERIES") ∷ positional (codes "QUERIES")
    ∷ positional (codes "STEP") ∷ valued (codes "k") ∷ valued (codes "segments")
    ∷ valued (codes "leaf") ∷ valued (codes "workers") ∷ valued (codes "queues")
    ∷ valued (codes "breaks") ∷ flag (codes "sealed") ∷ valued (codes "raw")
    ∷ valued (codes "apart") ∷ []
rules_of Discord = positional (codes "DATA") ∷ valued (codes "k") ∷ valued (codes "segments")
    ∷ valued (codes "leaf") ∷ valued (codes "workers") ∷ valued (codes "breaks")
    ∷ valued (codes "raw") ∷ []

-- whether the command has an argument of this name
abbrev pub has_argument : CommandName → Text → Bool
has_argument name argument = list_any (λ rule. bytes_eq rule.id argument) (rules_of name)

-- what `clap` reads of a command
unfoldable pub app_for : CommandName → App
app_for name = app_with (text_of name) (rules_of name)

-- why `clap` refuses words, the first of which stands for the program: nothing where it takes them
unfoldable pub faults_of : CommandName → List Text → Kinds
faults_of name words = fault_of (app_for name) words

-- the matches of words that it takes: for each argument that was used its values
unfoldable pub rows_of_words : CommandName → List Text → List Row
rows_of_words name words = matches_of (app_for name) words
