-- What an option holds where it was not given: the value for absence.
use Rattle.std.specs.Prelude.{◌≡◌, IfSome, false, None, codes}
use Rattle.breakpoints.specs.declared.table.Table.TheVariants.{Flat}
use Rattle.command_words.specs.CommandName.{has_argument}
use Rattle.command_words.specs.declared.limits.TheConstants.{USUAL_LEAF, USUAL_QUEUES, USUAL_WORKERS}
use Rattle.command_words.specs.declared.name.CommandName.{CommandName}
use Rattle.command_words.specs.declared.options.Options.{Options}

-- each option that the command does not have holds its value for absence
pub record HoldsAbsence (name : CommandName) (o : Options) : Type 0 where
  pub k : has_argument name (codes "k") ≡ false → o.k ≡ 1
  pub segments : has_argument name (codes "segments") ≡ false → o.segments ≡ None
  pub leaf : has_argument name (codes "leaf") ≡ false → o.leaf ≡ USUAL_LEAF
  pub workers : has_argument name (codes "workers") ≡ false → o.workers ≡ USUAL_WORKERS
  pub queues : has_argument name (codes "queues") ≡ false → o.queues ≡ USUAL_QUEUES
  pub table : has_argument name (codes "breaks") ≡ false → o.table ≡ Flat
  pub raw : has_argument name (codes "raw") ≡ false → o.raw ≡ None
  pub certificate : has_argument name (codes "certificate") ≡ false → o.certificate ≡ false
  pub sealed : has_argument name (codes "sealed") ≡ false → o.sealed ≡ false
  pub index : has_argument name (codes "index") ≡ false → o.index ≡ None
  pub apart : has_argument name (codes "apart") ≡ false → o.apart ≡ 1

-- where an index is named, the options that a saved index has settled hold their values for
-- absence, and no certificate is asked for
abbrev pub IndexStandsAlone : Options → Type 0
IndexStandsAlone o = IfSome o.index (λ _. (o.segments ≡ None) × (o.leaf ≡ USUAL_LEAF)
    × (o.table ≡ Flat) × (o.certificate ≡ false))
