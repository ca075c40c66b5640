-- What refuses two files refuses whatever comes behind them (`loads_refused`), and so do their lengths (`alike_refused`,
-- `files_refused`).
use Rattle.std.proofs.Common.{ℕ, List, inl, inr, ⊎_elim}
use Rattle.command_words.specs.declared.options.Options.{Options}
use Rattle.series_file.specs.declared.error.Form.{Form}
use Rattle.series_file.specs.declared.error.Loaded.{Loaded}
use Rattle.search_run.specs.Commands.{alike_plan, plan_over}
use Rattle.search_run.specs.Loads.{form_of}
use Rattle.search_run.specs.Pairs.{files_plan, lengths_plan}
use Rattle.search_run.specs.Plans.{Plan, Load, Compare, Divide, Write, Refuses}
use Rattle.search_run.specs.Traffic.{Reading}
use Rattle.search_run.specs.declared.status.Status.{Status}
use Rattle.search_run.specs.declared.status.Which.TheVariants.{Series, Queries}

-- what refuses two files with what follows refuses them with whatever is refused where that is
pub loads_refused : (reading : Reading) (series queries : List ℕ) (first second : Form) (A B : Loaded → Loaded → Plan)
    (status : Status) → ((x y : Loaded) → Refuses reading (A x y) status → Refuses reading (B x y) status)
    → Refuses reading (Load Series series first (λ x. Load Queries queries second (λ y. A x y))) status
    → Refuses reading (Load Series series first (λ x. Load Queries queries second (λ y. B x y))) status
loads_refused reading series queries first second A B status behind =
    ⊎_elim (λ x. inl x) (λ x. inr (
      x.0,
      x.1,
      ⊎_elim (λ y. inl y) (λ y. inr (y.0, y.1, behind x.0 y.0 y.2)) x.2,
    ))

-- what refuses two files and the lengths of their series refuses whatever comes behind them
pub alike_refused : (reading : Reading) (series queries : List ℕ) (o : Options) (then_ : Loaded → Loaded → Plan)
    (status : Status) → Refuses reading (lengths_plan series queries o) status
    → Refuses reading (alike_plan series queries o then_) status
alike_refused reading series queries o then_ status =
    loads_refused reading series queries (form_of o.raw) (form_of o.raw)
    (λ x y. Compare x.rows.points y.rows.points (Write (λ _. ⊥)))
    (λ x y. Compare x.rows.points y.rows.points (then_ x y)) status
    (λ x y. ⊎_elim (λ z. inl z) (λ z. absurd z.1))

-- what refuses two files, the lengths and the asked segments refuses whatever comes behind them
pub files_refused : (reading : Reading) (series queries : List ℕ) (o : Options) (then_ : Loaded → Loaded → Plan)
    (status : Status) → Refuses reading (files_plan series queries o) status
    → Refuses reading (plan_over series queries o then_) status
files_refused reading series queries o then_ status =
    loads_refused reading series queries (form_of o.raw) (form_of o.raw)
    (λ x y. Compare x.rows.points y.rows.points (Divide o.segments x.rows.points (Write (λ _. ⊥))))
    (λ x y. Compare x.rows.points y.rows.points (Divide o.segments x.rows.points (then_ x y))) status
    (λ x y. ⊎_elim (λ z. inl z) (λ z. inr (z.0, ⊎_elim (λ v. inl v) (λ v. absurd v.1) z.1)))
