use Rattle.live_script.proofs.Same.{same_script}
use Rattle.live_script.proofs.laws.one_script_law.Goals as goal

pub returns : goal.returns
returns c bytes script other is also = same_script bytes script other is also
