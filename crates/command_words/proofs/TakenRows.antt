-- Rows of words that have settings, each written out: values for absence, limits and odd names.
use Rattle.std.proofs.Common.{◌≡◌, ℕ, Bool, List, [], ◌∷◌, Option, Some, None, ap, arith, codes}
use Rattle.std.proofs.Common.{false, refl, true}
use Rattle.std.specs.Prelude.{slice_get}
use Rattle.clap.specs.Words.{Row, Text, first_of}
use Rattle.clap.proofs.OnLiterals.{clap_on_literals}
use Rattle.breakpoints.specs.declared.table.Table.{Table}
use Rattle.breakpoints.specs.declared.table.Table.TheVariants.{Flat, Bent}
use Rattle.command_words.specs.CommandName.{app_for, faults_of, rows_of_words, text_of}
use Rattle.command_words.specs.Options.{is_set, number_if, number_or, table_named}
use Rattle.command_words.specs.Settings.{HasSettings, HasWords, name_of, options_of}
use Rattle.command_words.specs.declared.command.Command.{Command}
use Rattle.command_words.specs.declared.command.Command.TheVariants.{Nearest, Range, Trial, Windows}
use Rattle.command_words.specs.declared.options.Options.{Options}

-- the options where none was given
abbrev absent : Options
absent = record {
  k = 1;
  segments = None;
  leaf = 1000;
  workers = 4;
  queues = 2;
  table = Flat;
  raw = None;
  certificate = false;
  sealed = false;
  index = None;
  apart = 1;
}

-- the greatest options of `nearest`
abbrev greatest : Options
greatest = record absent {
  k = 1024;
  segments = Some 16;
  leaf = 65535;
  workers = 64;
  queues = 64;
  table = Bent;
  raw = Some 65536;
  certificate = true;
  sealed = true;
}

-- the least options of `nearest`
abbrev least : Options
least = record absent { segments = Some 1; leaf = 1; workers = 1; queues = 1; raw = Some 1 }

-- what the matches say of each option
abbrev said : List Row → Option ℕ × Option (Option ℕ) × Option ℕ × Option ℕ × Option ℕ × Option Table
    × Option (Option ℕ) × Bool × Bool × Option Text × Option ℕ
said rows = (
  number_or 1 1024 1 (first_of (codes "k") rows),
  number_if 1 16 (first_of (codes "segments") rows),
  number_or 1 65535 1000 (first_of (codes "leaf") rows),
  number_or 1 64 4 (first_of (codes "workers") rows),
  number_or 1 64 2 (first_of (codes "queues") rows),
  table_named (first_of (codes "breaks") rows),
  number_if 1 65536 (first_of (codes "raw") rows),
  is_set (first_of (codes "certificate") rows),
  is_set (first_of (codes "sealed") rows),
  first_of (codes "index") rows,
  number_or 1 512 1 (first_of (codes "apart") rows),
)

-- what matches with these options say
abbrev says : Options → Option ℕ × Option (Option ℕ) × Option ℕ × Option ℕ × Option ℕ × Option Table
    × Option (Option ℕ) × Bool × Bool × Option Text × Option ℕ
says o = (
  Some o.k,
  Some o.segments,
  Some o.leaf,
  Some o.workers,
  Some o.queues,
  Some o.table,
  Some o.raw,
  o.certificate,
  o.sealed,
  o.index,
  Some o.apart,
)

-- words have the settings of a command, where all that is computed of them is what it holds
read_as : (words : List Text) (c : Command) → slice_get words 0 ≡ Some (text_of (name_of c))
    → faults_of (name_of c) words ≡ [] → HasWords (rows_of_words (name_of c) words) c
    → said (rows_of_words (name_of c) words) ≡ says (options_of c) → HasSettings words c
read_as words c named taken before same = record {
  named = named;
  taken = taken;
  fits = record {
    words = before;
    options = record {
      k = ap (λ s. s.0) same;
      segments = ap (λ s. s.1) same;
      leaf = ap (λ s. s.2) same;
      workers = ap (λ s. s.3) same;
      queues = ap (λ s. s.4) same;
      table = ap (λ s. s.5) same;
      raw = ap (λ s. s.6) same;
      certificate = ap (λ s. s.7) same;
      sealed = ap (λ s. s.8) same;
      index = ap (λ s. s.9) same;
      apart = ap (λ s. s.10) same;
    };
  };
}

-- `nearest A Q` has every value for absence
nearest_alone : HasSettings (codes "nearest" ∷ codes "A" ∷ codes "Q" ∷ [])
    (Nearest (codes "A") (codes "Q") absent)
unfolding clap_on_literals app_for faults_of rows_of_words
nearest_alone = read_as _ _ refl refl (refl, refl, refl) refl

-- `nearest` with each option at its least, some with `=`
nearest_least : HasSettings
    (codes "nearest" ∷ codes "--k=1" ∷ codes "A" ∷ codes "--segments" ∷ codes "1"
    ∷ codes "--leaf=1" ∷ codes "Q" ∷ codes "--workers" ∷ codes "1" ∷ codes "--queues=1"
    ∷ codes "--breaks" ∷ codes "flat" ∷ codes "--raw=1" ∷ [])
    (Nearest (codes "A") (codes "Q") least)
unfolding clap_on_literals app_for faults_of rows_of_words
nearest_least = read_as _ _ refl refl (refl, refl, refl) refl

-- `nearest` with each option at its greatest
nearest_greatest : HasSettings
    (codes "nearest" ∷ codes "A" ∷ codes "Q" ∷ codes "--sealed" ∷ codes "--k" ∷ codes "1024"
    ∷ codes "--segments=16" ∷ codes "--leaf" ∷ codes "65535" ∷ codes "--workers=64"
    ∷ codes "--queues" ∷ codes "64" ∷ codes "--breaks=bent" ∷ codes "--raw" ∷ codes "65536"
    ∷ codes "--certificate" ∷ [])
    (Nearest (codes "A") (codes "Q") greatest)
unfolding clap_on_literals app_for faults_of rows_of_words
nearest_greatest = read_as _ _ refl refl (refl, refl, refl) refl

-- an index beside options that may stand with it
nearest_by_index : HasSettings
    (codes "nearest" ∷ codes "A" ∷ codes "Q" ∷ codes "--index" ∷ codes "I" ∷ codes "--k=3"
    ∷ codes "--workers=2" ∷ codes "--sealed" ∷ [])
    (Nearest (codes "A") (codes "Q")
    (record absent { k = 3; workers = 2; sealed = true; index = Some (codes "I") }))
unfolding clap_on_literals app_for faults_of rows_of_words
nearest_by_index = read_as _ _ refl refl (refl, refl, refl) refl

-- names that are not ASCII, and after `--` names that begin with `-`
nearest_by_odd_names : HasSettings
    (codes "nearest" ∷ codes "--index=é" ∷ codes "--" ∷ codes "-A" ∷ codes "--k" ∷ [])
    (Nearest (codes "-A") (codes "--k") (record absent { index = Some (codes "é") }))
unfolding clap_on_literals app_for faults_of rows_of_words
nearest_by_odd_names = read_as _ _ refl refl (refl, refl, refl) refl

-- the greatest radius
range_greatest : HasSettings
    (codes "range" ∷ codes "A" ∷ codes "Q" ∷ codes "281474976710656" ∷ [])
    (Range (codes "A") (codes "Q") 281474976710656 absent)
unfolding clap_on_literals app_for faults_of rows_of_words
range_greatest = read_as _ _ refl refl (refl, refl, refl) refl

-- the greatest numbers of a trial, of 134217728 values in all
trial_greatest : HasSettings
    (codes "trial" ∷ codes "18446744073709551615" ∷ codes "16777216" ∷ codes "8" ∷ codes "1000"
    ∷ [])
    (Trial 18446744073709551615 16777216 8 1000 absent)
unfolding clap_on_literals app_for faults_of rows_of_words
trial_greatest = read_as _ _ refl refl (refl, refl, refl, refl, omega arith) refl

-- the least numbers of a trial
trial_least : HasSettings
    (codes "trial" ∷ codes "0" ∷ codes "0" ∷ codes "1" ∷ codes "0" ∷ [])
    (Trial 0 0 1 0 absent)
unfolding clap_on_literals app_for faults_of rows_of_words
trial_least = read_as _ _ refl refl (refl, refl, refl, refl, omega arith) refl

-- as many windows as may be needed: 341 * 3 + 1 = 1024
windows_greatest : HasSettings
    (codes "windows" ∷ codes "S" ∷ codes "Q" ∷ codes "16777216" ∷ codes "--k=342"
    ∷ codes "--apart=2" ∷ [])
    (Windows (codes "S") (codes "Q") 16777216 (record absent { k = 342; apart = 2 }))
unfolding clap_on_literals app_for faults_of rows_of_words
windows_greatest = read_as _ _ refl refl (refl, refl, refl, omega arith) refl

-- the least step, with the greatest `--apart`
windows_least : HasSettings
    (codes "windows" ∷ codes "S" ∷ codes "Q" ∷ codes "1" ∷ codes "--apart" ∷ codes "512" ∷ [])
    (Windows (codes "S") (codes "Q") 1 (record absent { apart = 512 }))
unfolding clap_on_literals app_for faults_of rows_of_words
windows_least = read_as _ _ refl refl (refl, refl, refl, omega arith) refl
