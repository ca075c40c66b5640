-- Rows of words that have no settings, and of what `clap` takes, computed from the definitions.
use Rattle.std.proofs.Common.{◌≡◌, ◌++◌, List, [], ◌∷◌}
use Rattle.std.proofs.Common.{codes, map, refl}
use Rattle.std.specs.Prelude.{replicate}
use Rattle.clap.specs.Words.{Text}
use Rattle.clap.proofs.OnLiterals.{clap_on_literals}
use Rattle.clap.specs.declared.error.kind.ErrorKind.TheVariants as kind
use Rattle.command_words.specs.CommandName.{app_for, faults_of, rows_of_words}
use Rattle.command_words.specs.declared.name.CommandName.TheVariants as name
use Rattle.command_words.proofs.Named.{HasNoSettings}
use Rattle.command_words.proofs.NoSettings.{NoneHasSettings, bad_radius, faulty}
use Rattle.command_words.proofs.NoSettings.{unnamed, unread_options}

-- `nearest A Q` and what follows
abbrev pub nearest : List Text → List Text
nearest more = codes "nearest" ∷ codes "A" ∷ codes "Q" ∷ more

-- no words
no_words : HasNoSettings []
no_words = unnamed [] refl

-- `neerest A Q` names no command
unknown_command : HasNoSettings (codes "neerest" ∷ codes "A" ∷ codes "Q" ∷ [])
unknown_command = unnamed _ refl

-- the empty word names no command
empty_command : HasNoSettings ([] ∷ [])
empty_command = unnamed _ refl

-- the words `--help` and `-h` name no command
help_alone : HasNoSettings (codes "--help" ∷ []) × HasNoSettings (codes "-h" ∷ [])
help_alone = (unnamed _ refl, unnamed _ refl)

-- `nearest A` wants one word more
one_word_short : HasNoSettings (codes "nearest" ∷ codes "A" ∷ [])
unfolding clap_on_literals app_for faults_of
one_word_short = faulty name.Nearest _ refl kind.MissingRequiredArgument refl

-- `nearest A Q B` has one word too many
one_word_long : HasNoSettings (nearest (codes "B" ∷ []))
unfolding clap_on_literals app_for faults_of
one_word_long = faulty name.Nearest _ refl kind.UnknownArgument refl

-- `--k 0` and `--k 1025` are beyond the limits, and `--k 03` and `--k +3` are not well spelled
bad_k : NoneHasSettings nearest (map (λ n. codes "--k" ∷ n ∷ [])
    (codes "0" ∷ codes "1025" ∷ codes "03" ∷ codes "+3" ∷ []))
unfolding clap_on_literals app_for rows_of_words
bad_k = unread_options name.Nearest _ _ (λ _. refl) refl

-- `--k 2 --k 2` gives an option twice
k_twice : HasNoSettings
    (nearest (codes "--k" ∷ codes "2" ∷ codes "--k" ∷ codes "2" ∷ []))
unfolding clap_on_literals app_for faults_of
k_twice = faulty name.Nearest _ refl kind.ArgumentConflict refl

-- `--frobnicate` is no option
unknown_option : HasNoSettings (nearest (codes "--frobnicate" ∷ []))
unfolding clap_on_literals app_for faults_of
unknown_option = faulty name.Nearest _ refl kind.UnknownArgument refl

-- a radius of 281474976710657 is above the limits
radius_too_great : HasNoSettings
    (codes "range" ∷ codes "A" ∷ codes "Q" ∷ codes "281474976710657" ∷ [])
unfolding clap_on_literals app_for rows_of_words
radius_too_great = bad_radius _ refl refl

-- `--help` and `-h` after a command
help : HasNoSettings (nearest (codes "--help" ∷ [])) × HasNoSettings (nearest (codes "-h" ∷ []))
unfolding clap_on_literals app_for faults_of
help = (
  faulty name.Nearest _ refl kind.DisplayHelp refl,
  faulty name.Nearest _ refl kind.DisplayHelp refl,
)

-- `--k=3` is as `--k 3`
k_with_equals : rows_of_words name.Nearest (nearest (codes "--k=3" ∷ []))
    ≡ rows_of_words name.Nearest (nearest (codes "--k" ∷ codes "3" ∷ []))
unfolding clap_on_literals app_for rows_of_words
k_with_equals = refl

-- the options of `nearest`, each given once
abbrev options : List (List Text)
options = (codes "--k" ∷ codes "2" ∷ []) ∷ (codes "--segments=2" ∷ [])
    ∷ (codes "--leaf" ∷ codes "2" ∷ []) ∷ (codes "--workers=2" ∷ [])
    ∷ (codes "--queues" ∷ codes "2" ∷ []) ∷ (codes "--breaks=bent" ∷ [])
    ∷ (codes "--raw" ∷ codes "2" ∷ []) ∷ (codes "--index=I" ∷ [])
    ∷ (codes "--certificate" ∷ []) ∷ (codes "--sealed" ∷ []) ∷ []

-- each option of `nearest` is taken once
taken_once : map (λ o. faults_of name.Nearest (nearest o)) options ≡ replicate 10 []
unfolding clap_on_literals app_for faults_of
taken_once = refl

-- each option of `nearest` is refused twice
refused_twice : map (λ o. faults_of name.Nearest (nearest (o ++ o))) options
    ≡ replicate 10 (kind.ArgumentConflict ∷ [])
unfolding clap_on_literals app_for faults_of
refused_twice = refl
