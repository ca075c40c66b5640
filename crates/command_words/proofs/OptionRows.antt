-- Rows of options: what each command takes, what it refuses, and options without a value.
use Rattle.std.proofs.Common.{◌≡◌, ◌++◌, List, [], ◌∷◌, codes, map, refl}
use Rattle.std.specs.List.{list_any}
use Rattle.std.specs.Prelude.{if◌then◌else◌, replicate}
use Rattle.std.specs.Str.{bytes_eq}
use Rattle.clap.specs.Words.{Text}
use Rattle.clap.proofs.OnLiterals.{clap_on_literals}
use Rattle.clap.specs.declared.error.kind.ErrorKind.TheVariants as kind
use Rattle.command_words.specs.CommandName.{app_for, faults_of, text_of}
use Rattle.command_words.specs.declared.name.CommandName.{CommandName}
use Rattle.command_words.specs.declared.name.CommandName.TheVariants as name
use Rattle.command_words.proofs.Rows.{nearest}

-- `windows S Q 1` and what follows
abbrev windows : List Text → List Text
windows more = codes "windows" ∷ codes "S" ∷ codes "Q" ∷ codes "1" ∷ more

-- each option of a command, given once
abbrev options : List Text
options = codes "--k=2" ∷ codes "--segments=2" ∷ codes "--leaf=2" ∷ codes "--workers=2"
    ∷ codes "--queues=2" ∷ codes "--breaks=flat" ∷ codes "--raw=2" ∷ codes "--index=2"
    ∷ codes "--certificate" ∷ codes "--sealed" ∷ codes "--apart=2" ∷ []

-- after these words the command takes each of its own options, and refuses each other as unknown
abbrev TakesItsOwn : CommandName → List Text → List Text → Type 0
TakesItsOwn name words own =
    map (λ o. faults_of name (text_of name ∷ words ++ o ∷ [])) options
    ≡ map (λ o. if list_any (bytes_eq o) own then [] else kind.UnknownArgument ∷ []) options

-- each command takes its own options, and no other
takes_its_own :
    TakesItsOwn name.Nearest (codes "A" ∷ codes "Q" ∷ [])
    (codes "--k=2" ∷ codes "--segments=2" ∷ codes "--leaf=2" ∷ codes "--workers=2"
    ∷ codes "--queues=2" ∷ codes "--breaks=flat" ∷ codes "--raw=2" ∷ codes "--index=2"
    ∷ codes "--certificate" ∷ codes "--sealed" ∷ [])
    × TakesItsOwn name.Range (codes "A" ∷ codes "Q" ∷ codes "5" ∷ [])
    (codes "--segments=2" ∷ codes "--leaf=2" ∷ codes "--workers=2" ∷ codes "--breaks=flat"
    ∷ codes "--raw=2" ∷ [])
    × TakesItsOwn name.Verify (codes "A" ∷ codes "Q" ∷ codes "C" ∷ [])
    (codes "--k=2" ∷ codes "--segments=2" ∷ codes "--breaks=flat" ∷ codes "--raw=2" ∷ [])
    × TakesItsOwn name.Trial (codes "1" ∷ codes "2" ∷ codes "3" ∷ codes "4" ∷ [])
    (codes "--k=2" ∷ codes "--segments=2" ∷ codes "--leaf=2" ∷ codes "--workers=2"
    ∷ codes "--queues=2" ∷ codes "--breaks=flat" ∷ codes "--sealed" ∷ [])
    × TakesItsOwn name.Convert (codes "A" ∷ []) (codes "--raw=2" ∷ [])
    × TakesItsOwn name.Save (codes "A" ∷ [])
    (codes "--segments=2" ∷ codes "--leaf=2" ∷ codes "--workers=2" ∷ codes "--breaks=flat"
    ∷ codes "--raw=2" ∷ [])
    × TakesItsOwn name.Windows (codes "S" ∷ codes "Q" ∷ codes "1" ∷ [])
    (codes "--k=2" ∷ codes "--segments=2" ∷ codes "--leaf=2" ∷ codes "--workers=2"
    ∷ codes "--queues=2" ∷ codes "--breaks=flat" ∷ codes "--raw=2" ∷ codes "--sealed"
    ∷ codes "--apart=2" ∷ [])
    × TakesItsOwn name.Discord (codes "A" ∷ [])
    (codes "--k=2" ∷ codes "--segments=2" ∷ codes "--leaf=2" ∷ codes "--workers=2"
    ∷ codes "--breaks=flat" ∷ codes "--raw=2" ∷ [])
unfolding clap_on_literals app_for faults_of
takes_its_own = (refl, refl, refl, refl, refl, refl, refl, refl)

-- each valued option of `nearest` has to have its value
without_a_value : map (λ o. faults_of name.Nearest (nearest (o ∷ [])))
    (codes "--k" ∷ codes "--segments" ∷ codes "--leaf" ∷ codes "--workers" ∷ codes "--queues"
    ∷ codes "--breaks" ∷ codes "--raw" ∷ codes "--index" ∷ [])
    ≡ replicate 8 (kind.InvalidValue ∷ [])
unfolding clap_on_literals app_for faults_of
without_a_value = refl

-- a flag takes no value, not even `true`
flag_with_a_value : map (λ o. faults_of name.Nearest (nearest (o ∷ [])))
    (codes "--sealed=true" ∷ codes "--certificate=" ∷ [])
    ≡ replicate 2 (kind.TooManyValues ∷ [])
unfolding clap_on_literals app_for faults_of
flag_with_a_value = refl

-- no shorter form of an option, no letter, no version and no help by another name
other_forms : map (λ o. faults_of name.Nearest (nearest (o ∷ [])))
    (codes "--seg=2" ∷ codes "-k" ∷ codes "-k2" ∷ codes "--version" ∷ codes "-V" ∷ codes "--K=2"
    ∷ codes "--bré" ∷ codes "help" ∷ [])
    ≡ replicate 8 (kind.UnknownArgument ∷ [])
unfolding clap_on_literals app_for faults_of
other_forms = refl

-- `--apart` of `windows` is refused twice, and without a value
apart_misused :
    (faults_of name.Windows (windows (codes "--apart=2" ∷ codes "--apart" ∷ codes "2" ∷ []))
    ≡ kind.ArgumentConflict ∷ [])
    × (faults_of name.Windows (windows (codes "--apart" ∷ [])) ≡ kind.InvalidValue ∷ [])
unfolding clap_on_literals app_for faults_of
apart_misused = (refl, refl)
