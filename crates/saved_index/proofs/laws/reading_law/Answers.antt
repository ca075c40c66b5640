-- What is read has the bytes as its text, and a text is read again.
use Rattle.std.proofs.Common.{ap, ◌∙◌}
use Rattle.series_file.proofs.Numbers.{are_bytes}
use Rattle.saved_index.specs.Reading.{saved_in}
use Rattle.saved_index.proofs.Again.{saved_again}
use Rattle.saved_index.proofs.SoundWhole.{saved_sound}
use Rattle.saved_index.proofs.laws.reading_law.Goals as goal

pub returns : goal.returns
returns c = λ bytes s each. (
  saved_sound bytes s (are_bytes bytes each),
  λ of. ap saved_in of.spelled ∙ saved_again s of.sound,
)
