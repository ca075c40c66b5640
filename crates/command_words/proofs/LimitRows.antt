-- Rows of limits: for each option and number the least and the greatest, and what lies one beyond.
use Rattle.std.proofs.Common.{List, [], ◌∷◌, arith, codes, map, refl}
use Rattle.clap.specs.Words.{Text}
use Rattle.clap.proofs.OnLiterals.{clap_on_literals}
use Rattle.command_words.specs.CommandName.{app_for, rows_of_words}
use Rattle.command_words.specs.declared.name.CommandName.TheVariants as name
use Rattle.command_words.proofs.Named.{HasNoSettings}
use Rattle.command_words.proofs.NoSettings.{NoneHasSettings, not_both, stray, too_many_values}
use Rattle.command_words.proofs.NoSettings.{too_many_windows, unfit_trial, unfit_windows}
use Rattle.command_words.proofs.NoSettings.{unread_options}
use Rattle.command_words.proofs.Rows.{nearest}

-- `windows S Q`, then a step and what follows
abbrev windows : List Text → List Text
windows more = codes "windows" ∷ codes "S" ∷ codes "Q" ∷ more

-- `trial` and what follows
abbrev trial : List Text → List Text
trial more = codes "trial" ∷ more

-- each option of `nearest` below and above its limits
options_beyond : NoneHasSettings nearest (map (λ o. o ∷ [])
    (codes "--k=0" ∷ codes "--k=1025" ∷ codes "--segments=0" ∷ codes "--segments=17"
    ∷ codes "--leaf=0" ∷ codes "--leaf=65536" ∷ codes "--workers=0" ∷ codes "--workers=65"
    ∷ codes "--queues=0" ∷ codes "--queues=65" ∷ codes "--raw=0" ∷ codes "--raw=65537" ∷ []))
unfolding clap_on_literals app_for rows_of_words
options_beyond = unread_options name.Nearest _ _ (λ _. refl) refl

-- `--apart` below and above its limits
apart_beyond : NoneHasSettings windows
    ((codes "1" ∷ codes "--apart=0" ∷ []) ∷ (codes "1" ∷ codes "--apart=513" ∷ []) ∷ [])
unfolding clap_on_literals app_for rows_of_words
apart_beyond = unread_options name.Windows _ _ (λ _. refl) refl

-- a step below and above its limits
step_beyond : HasNoSettings (windows (codes "0" ∷ []))
    × HasNoSettings (windows (codes "16777217" ∷ []))
unfolding clap_on_literals app_for rows_of_words
step_beyond = (
  unfit_windows _ refl (λ _ _ _ _ h _. not_both _ _ refl h.2),
  unfit_windows _ refl (λ _ _ _ _ h _. not_both _ _ refl h.2),
)

-- more windows than may be needed: 342 * 3 + 1, and 1023 * 3 + 1
windows_beyond : HasNoSettings (windows (codes "1" ∷ codes "--k=343" ∷ codes "--apart=2" ∷ []))
    × HasNoSettings (windows (codes "1" ∷ codes "--k=1024" ∷ codes "--apart=2" ∷ []))
unfolding clap_on_literals app_for rows_of_words
windows_beyond = (
  unfit_windows _ refl
      (λ _ _ _ o h g. too_many_windows 343 2 o g.k g.apart h.3 (omega arith)),
  unfit_windows _ refl
      (λ _ _ _ o h g. too_many_windows 1024 2 o g.k g.apart h.3 (omega arith)),
)

-- each number of a trial above its limits, and a length below them
trial_beyond :
    HasNoSettings (trial (codes "18446744073709551616" ∷ codes "1" ∷ codes "1" ∷ codes "1" ∷ []))
    × HasNoSettings (trial (codes "0" ∷ codes "16777217" ∷ codes "1" ∷ codes "1" ∷ []))
    × HasNoSettings (trial (codes "0" ∷ codes "1" ∷ codes "0" ∷ codes "1" ∷ []))
    × HasNoSettings (trial (codes "0" ∷ codes "1" ∷ codes "65537" ∷ codes "1" ∷ []))
    × HasNoSettings (trial (codes "0" ∷ codes "1" ∷ codes "1" ∷ codes "1001" ∷ []))
unfolding clap_on_literals app_for rows_of_words
trial_beyond = (
  unfit_trial _ refl (λ _ _ _ _ _ h. not_both _ _ refl h.0),
  unfit_trial _ refl (λ _ _ _ _ _ h. not_both _ _ refl h.1),
  unfit_trial _ refl (λ _ _ _ _ _ h. not_both _ _ refl h.2),
  unfit_trial _ refl (λ _ _ _ _ _ h. not_both _ _ refl h.2),
  unfit_trial _ refl (λ _ _ _ _ _ h. not_both _ _ refl h.3),
)

-- a trial of 16777216 walks of 9 values each has too many values in all
trial_too_large :
    HasNoSettings (trial (codes "0" ∷ codes "16777216" ∷ codes "9" ∷ codes "0" ∷ []))
unfolding clap_on_literals app_for rows_of_words
trial_too_large = unfit_trial _ refl
    (λ _ count length _ _ h. too_many_values 16777216 9 count length h.1 h.2 h.4 (omega arith))

-- names of breakpoints that are none, or spelled otherwise, and a number with other characters than
-- digits, one of many digits, and none at all
other_spellings : NoneHasSettings nearest (map (λ o. o ∷ [])
    (codes "--breaks=round" ∷ codes "--breaks=Flat" ∷ codes "--k=3k" ∷ codes "--k=1_0"
    ∷ codes "--k=99999999999999999999999" ∷ codes "--k=-3" ∷ codes "--k=" ∷ []))
unfolding clap_on_literals app_for rows_of_words
other_spellings = unread_options name.Nearest _ _ (λ _. refl) refl

-- an index beside each of the four that may not stand with it
index_beside : HasNoSettings (nearest (codes "--index=I" ∷ codes "--segments=2" ∷ []))
    × HasNoSettings (nearest (codes "--leaf=1000" ∷ codes "--index=I" ∷ []))
    × HasNoSettings (nearest (codes "--index=I" ∷ codes "--breaks=flat" ∷ []))
    × HasNoSettings (nearest (codes "--certificate" ∷ codes "--index=I" ∷ []))
unfolding clap_on_literals app_for rows_of_words
index_beside = (stray _ refl refl, stray _ refl refl, stray _ refl refl, stray _ refl refl)
