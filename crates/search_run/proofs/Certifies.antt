-- What `nearest` wrote with certificates holds for its files (`answers_certify`); where nothing was done there is nothing to
-- show (`only_done`).
use Rattle.std.proofs.Common.{◌≡◌, ℕ, List, Option, refl, subst}
use Rattle.outside.specs.Files.{Held}
use Rattle.command_words.specs.Absence.{IndexStandsAlone}
use Rattle.command_words.specs.Limits.{KeepsLimits}
use Rattle.command_words.specs.Settings.{options_of}
use Rattle.command_words.specs.declared.command.Command.{Command}
use Rattle.command_words.specs.declared.command.Command.TheVariants.{Nearest, Range, Verify, Trial, Convert, Save, Windows, Discord}
use Rattle.search_run.specs.Ends.{Answers, NoCommand}
use Rattle.search_run.specs.Traffic.{Reading, Writing}
use Rattle.search_run.specs.Verified.{Certifies}
use Rattle.search_run.proofs.Verified.{texts_sound}
use Rattle.search_run.specs.declared.status.Status.{Status}
use Rattle.search_run.specs.declared.status.Status.TheVariants.{Done, Usage, Missing, ReadFault, Format, Mismatch, Settings, WriteFault, Memory, Invalid, Index}

-- what did not end well, or is no search for the nearest, has nothing to certify
pub only_done : (held : Option Held) (command : Command) (writing : Writing) (status : Status) → (status ≡ Done → ⊥)
    → Certifies held command writing status
only_done held (Nearest series queries o) writing Done other = absurd (other refl)
only_done held (Nearest series queries o) writing Usage other = tt
only_done held (Nearest series queries o) writing (Missing w) other = tt
only_done held (Nearest series queries o) writing (ReadFault w) other = tt
only_done held (Nearest series queries o) writing (Format w e) other = tt
only_done held (Nearest series queries o) writing (Mismatch a b) other = tt
only_done held (Nearest series queries o) writing (Settings w n) other = tt
only_done held (Nearest series queries o) writing WriteFault other = tt
only_done held (Nearest series queries o) writing Memory other = tt
only_done held (Nearest series queries o) writing (Invalid e) other = tt
only_done held (Nearest series queries o) writing (Index e) other = tt
only_done held (Range series queries radius o) writing status other = tt
only_done held (Verify series queries certificate o) writing status other = tt
only_done held (Trial seed count length queries o) writing status other = tt
only_done held (Convert series o) writing status other = tt
only_done held (Save series o) writing status other = tt
only_done held (Windows series queries step o) writing status other = tt
only_done held (Discord series o) writing status other = tt

-- words that have no command end as Usage or Memory
pub none_done : (words : List (List ℕ)) (status : Status) → NoCommand words status → status ≡ Done → ⊥
none_done words status none is = subst (NoCommand words) is none

-- what a command wrote
pub answers_certify : (reading : Reading) (writing : Writing) (command : Command) (status : Status) → KeepsLimits command
    → IndexStandsAlone (options_of command) → Answers reading writing command status
    → Certifies reading.held command writing status
answers_certify reading writing (Nearest series queries o) Done limits alone x = λ certificate. (
  x.0,
  x.2,
  texts_sound reading.held series queries o o x.0
      (record { limits = limits.options; alone = alone; certificate = certificate; writes = x.1 })
      (record { k = refl; segments = refl; table = refl; raw = refl }),
)
answers_certify reading writing (Nearest series queries o) Usage limits alone x = tt
answers_certify reading writing (Nearest series queries o) (Missing w) limits alone x = tt
answers_certify reading writing (Nearest series queries o) (ReadFault w) limits alone x = tt
answers_certify reading writing (Nearest series queries o) (Format w e) limits alone x = tt
answers_certify reading writing (Nearest series queries o) (Mismatch a b) limits alone x = tt
answers_certify reading writing (Nearest series queries o) (Settings w n) limits alone x = tt
answers_certify reading writing (Nearest series queries o) WriteFault limits alone x = tt
answers_certify reading writing (Nearest series queries o) Memory limits alone x = tt
answers_certify reading writing (Nearest series queries o) (Invalid e) limits alone x = tt
answers_certify reading writing (Nearest series queries o) (Index e) limits alone x = tt
answers_certify reading writing (Range series queries radius o) status limits alone x = tt
answers_certify reading writing (Verify series queries certificate o) status limits alone x = tt
answers_certify reading writing (Trial seed count length queries o) status limits alone x = tt
answers_certify reading writing (Convert series o) status limits alone x = tt
answers_certify reading writing (Save series o) status limits alone x = tt
answers_certify reading writing (Windows series queries step o) status limits alone x = tt
answers_certify reading writing (Discord series o) status limits alone x = tt
