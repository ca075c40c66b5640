-- Words have one command as their settings at most.
use Rattle.std.proofs.Common.{◌≡◌, ◌∙◌, List, Option, Some, subst, sym}
use Rattle.clap.specs.Words.{Row, Text}
use Rattle.command_words.specs.CommandName.{rows_of_words}
use Rattle.command_words.specs.Options.{HasOptions}
use Rattle.command_words.specs.Settings.{Fits, HasSettings, name_of}
use Rattle.command_words.specs.declared.command.Command.{Command}
use Rattle.command_words.specs.declared.command.Command.TheVariants.{Nearest, Range, Verify, Trial}
use Rattle.command_words.specs.declared.command.Command.TheVariants.{Convert, Save}
use Rattle.command_words.specs.declared.command.Command.TheVariants.{Windows, Discord}
use Rattle.command_words.specs.declared.options.Options.{Options}
use Rattle.command_words.proofs.Names.{name_is_found}

-- an option holds one value
once : {X : Type 0} {o : Option X} {x y : X} → o ≡ Some x → o ≡ Some y → x ≡ y
once p q = cc

-- matches have one list of options at most
options_once : {rows : List Row} {o p : Options} → HasOptions rows o → HasOptions rows p → o ≡ p
options_once h g = λ i. record {
  k = once h.k g.k i;
  segments = once h.segments g.segments i;
  leaf = once h.leaf g.leaf i;
  workers = once h.workers g.workers i;
  queues = once h.queues g.queues i;
  table = once h.table g.table i;
  raw = once h.raw g.raw i;
  certificate = (sym h.certificate ∙ g.certificate) i;
  sealed = (sym h.sealed ∙ g.sealed) i;
  index = (sym h.index ∙ g.index) i;
  apart = once h.apart g.apart i;
}

-- matches fit one command of a name at most
fits_once : (rows : List Row) (c d : Command) → name_of c ≡ name_of d
    → Fits rows c → Fits rows d → c ≡ d
fits_once rows (Nearest a b o) (Nearest a' b' o') e h g = λ i.
    Nearest (once h.words.0 g.words.0 i) (once h.words.1 g.words.1 i)
    (options_once h.options g.options i)
fits_once rows (Range a b r o) (Range a' b' r' o') e h g = λ i.
    Range (once h.words.0 g.words.0 i) (once h.words.1 g.words.1 i)
    (once h.words.2 g.words.2 i) (options_once h.options g.options i)
fits_once rows (Verify a b r o) (Verify a' b' r' o') e h g = λ i.
    Verify (once h.words.0 g.words.0 i) (once h.words.1 g.words.1 i)
    (once h.words.2 g.words.2 i) (options_once h.options g.options i)
fits_once rows (Trial a b r q o) (Trial a' b' r' q' o') e h g = λ i.
    Trial (once h.words.0 g.words.0 i) (once h.words.1 g.words.1 i)
    (once h.words.2 g.words.2 i) (once h.words.3 g.words.3 i)
    (options_once h.options g.options i)
fits_once rows (Convert a o) (Convert a' o') e h g = λ i.
    Convert (once h.words g.words i) (options_once h.options g.options i)
fits_once rows (Save a o) (Save a' o') e h g = λ i.
    Save (once h.words g.words i) (options_once h.options g.options i)
fits_once rows (Windows a b r o) (Windows a' b' r' o') e h g = λ i.
    Windows (once h.words.0 g.words.0 i) (once h.words.1 g.words.1 i)
    (once h.words.2 g.words.2 i) (options_once h.options g.options i)
fits_once rows (Discord a o) (Discord a' o') e h g = λ i.
    Discord (once h.words g.words i) (options_once h.options g.options i)
fits_once rows c d e h g = absurd (cc)

-- the settings of a list of words are one value
pub one_command : (words : List Text) (c d : Command)
    → HasSettings words c → HasSettings words d → c ≡ d
one_command words c d h g =
    let same : name_of c ≡ name_of d =
    once (name_is_found _ _ h.named) (name_is_found _ _ g.named) in
    fits_once (rows_of_words (name_of c) words) c d same h.fits
    (subst (λ n. Fits (rows_of_words n words) d) (sym same) g.fits)
