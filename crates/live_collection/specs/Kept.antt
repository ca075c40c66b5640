-- How an object's fields stand for the plain object, and what its fields keep.
use Rattle.std.specs.Prelude.{◌≤◌, length, All}
use Rattle.live_collection.specs.declared.object.LiveObject.TheInside.{Inside}
use Rattle.series_core.specs.declared.rows.TheConstants.{MAX_COUNT}
use Rattle.live_collection.specs.declared.object.TheConstants.{MAX_BATCHES}
use Rattle.live_collection.specs.PlainLive.{PlainLive}

abbrev pub plain : Inside → PlainLive
plain o = record { points = o.points; batches = o.batches; series = o.series; lists = o.lists.items }

-- no list has more parts than batches stand, and the limits are kept
pub record IsKept (o : Inside) : Type 0 where
  pub batches : o.batches ≤ MAX_BATCHES
  pub series : o.series ≤ MAX_COUNT
  pub lists : All (λ l. length l ≤ o.batches) o.lists.items
