use Rattle.search_run.proofs.Verified.{texts_faultless, texts_sound}
use Rattle.search_run.proofs.laws.certificate_law.Goals as goal

pub returns-clause-sound : goal.returns-clause-sound
returns-clause-sound c = texts_sound

pub returns-clause-faultless : goal.returns-clause-faultless
returns-clause-faultless c = texts_faultless
