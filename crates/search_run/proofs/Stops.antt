-- What stops the writing of pieces is a failed write or want of memory, and nothing else (`by_stop`).
use Rattle.std.proofs.Common.{ℕ, List}
use Rattle.std.specs.Prelude.{ℤ}
use Rattle.search_run.specs.Stops.{Stops}
use Rattle.search_run.specs.Traffic.{Writing}
use Rattle.search_run.specs.declared.status.Status.{Status}
use Rattle.search_run.specs.declared.status.Status.TheVariants.{WriteFault, Memory}

-- what follows from both is so wherever pieces stopped
pub by_stop : (P : ℕ → List ℤ → List ℕ → Type 0) (qs : List (List ℤ)) (writing : Writing) (IsSo : Status → Type 0)
    → (Stops P qs writing WriteFault → IsSo WriteFault) → (Stops P qs writing Memory → IsSo Memory)
    → (stop : Status) → Stops P qs writing stop → IsSo stop
by_stop P qs writing IsSo failed left WriteFault x = failed x
by_stop P qs writing IsSo failed left Memory x = left x
by_stop P qs writing IsSo failed left stop x = absurd x
