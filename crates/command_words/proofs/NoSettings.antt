-- How words come to have no settings: by the first word, by `clap`, a number or a further rule.
use Rattle.std.proofs.Common.{◌≡◌, ◌∙◌, ◌+◌, ◌-◌, ◌*◌, ◌<◌, ◌≤◌, ℕ, Bool, false, true}
use Rattle.std.proofs.Common.{List, [], ◌∷◌, Option, Some, None, arith, codes}
use Rattle.std.proofs.Common.{option_and_then, refl, sym}
use Rattle.std.specs.List.{AllByRecursion, list_any}
use Rattle.std.specs.Prelude.{◌&&◌, is_some, slice_get}
use Rattle.std.proofs.lemmas.Bool.{or_parts}
use Rattle.clap.specs.Words.{Row, Text, first_of}
use Rattle.clap.specs.declared.error.ErrorKind.{ErrorKind}
use Rattle.command_words.specs.CommandName.{faults_of, named_by, rows_of_words}
use Rattle.command_words.specs.Options.{HasOptions, number_at, number_if, number_or, table_named}
use Rattle.command_words.specs.Options.{windows_needed}
use Rattle.command_words.specs.Settings.{Fits, HasWords, has_stray_option, name_of, options_of}
use Rattle.command_words.specs.declared.command.Command.{Command}
use Rattle.command_words.specs.declared.command.Command.TheVariants.{Nearest, Range, Trial, Windows}
use Rattle.command_words.specs.declared.name.CommandName.{CommandName}
use Rattle.command_words.specs.declared.name.CommandName.TheVariants as name
use Rattle.command_words.specs.declared.options.Options.{Options}
use Rattle.command_words.proofs.Named.{HasNoSettings, refused_words, unfit_rows}
use Rattle.command_words.proofs.Names.{name_is_found}

-- an option is not nothing and something
pub not_both : {X : Type 0} (o : Option X) (x : X) → o ≡ None → o ≡ Some x → ⊥
not_both o x none some = absurd (cc)

-- words whose first names no command have no settings
pub unnamed : (words : List Text) → option_and_then named_by (slice_get words 0) ≡ None
    → HasNoSettings words
unnamed words none c h = not_both _ _ none (name_is_found _ _ h.named)

-- whether each option is one that a command can hold
abbrev pub reads_options : List Row → Bool
reads_options rows = is_some (number_or 1 1024 1 (first_of (codes "k") rows))
    && (is_some (number_if 1 16 (first_of (codes "segments") rows))
    && (is_some (number_or 1 65535 1000 (first_of (codes "leaf") rows))
    && (is_some (number_or 1 64 4 (first_of (codes "workers") rows))
    && (is_some (number_or 1 64 2 (first_of (codes "queues") rows))
    && (is_some (table_named (first_of (codes "breaks") rows))
    && (is_some (number_if 1 65536 (first_of (codes "raw") rows))
    && is_some (number_or 1 512 1 (first_of (codes "apart") rows))))))))

module _ (name : CommandName) (words : List Text)
    (found : option_and_then named_by (slice_get words 0) ≡ Some name) where
  -- words that `clap` refuses have no settings
  pub faulty : (kind : ErrorKind) → faults_of name words ≡ kind ∷ [] → HasNoSettings words
  faulty kind fault = refused_words words name found
      (λ none. let bad : kind ∷ [] ≡ [] = sym fault ∙ none in absurd (cc))

  -- words without options have no settings
  no_options : ((o : Options) → HasOptions (rows_of_words name words) o → ⊥)
      → HasNoSettings words
  no_options unfit =
      unfit_rows words name found _ refl (λ c is h. unfit (options_of c) h.options)

  -- an option that no command can hold leaves no settings
  pub unread_option : reads_options (rows_of_words name words) ≡ false → HasNoSettings words
  unread_option bad = no_options (λ o h.
      let read : reads_options (rows_of_words name words) ≡ true =
      rw (h.k, h.segments, h.leaf, h.workers, h.queues, h.table, h.raw, h.apart) refl in
      absurd (cc))

-- none of these words has settings, after what stands before them
pub record NoneHasSettings (before : List Text → List Text) (rest : List (List Text)) : Type 0 where
  pub each : AllByRecursion (λ more. HasNoSettings (before more)) rest

-- words have no settings where each list of them has an option that no command can hold
pub unread_options : (name : CommandName) (before : List Text → List Text) (rest : List (List Text))
    → ((more : List Text) → option_and_then named_by (slice_get (before more) 0) ≡ Some name)
    → list_any (λ more. reads_options (rows_of_words name (before more))) rest ≡ false
    → NoneHasSettings before rest
unread_options name before rest found bad = record { each = go rest bad }
  where
    -- the same, list by list
    go : (rest : List (List Text))
        → list_any (λ more. reads_options (rows_of_words name (before more))) rest ≡ false
        → AllByRecursion (λ more. HasNoSettings (before more)) rest
    go [] bad = tt
    go (more ∷ rest) bad =
        let parts = or_parts _ _ bad in
        (unread_option name (before more) (found more) parts.0, go rest parts.1)

-- a stray option beside an index leaves no settings
pub stray : (words : List Text)
    → option_and_then named_by (slice_get words 0) ≡ Some name.Nearest
    → has_stray_option (rows_of_words name.Nearest words) ≡ true → HasNoSettings words
stray words found bad = unfit_rows words name.Nearest found _ refl go
  where
    -- no command fits such matches
    go : (c : Command) → name_of c ≡ name.Nearest → Fits (rows_of_words name.Nearest words) c → ⊥
    go (Nearest a b o) is h = let no = h.words.2 in absurd (cc)
    go c is h = absurd (cc)

-- a bad RADIUS leaves no settings
pub bad_radius : (words : List Text)
    → option_and_then named_by (slice_get words 0) ≡ Some name.Range
    → number_at 0 281474976710656 (first_of (codes "RADIUS") (rows_of_words name.Range words))
    ≡ None
    → HasNoSettings words
bad_radius words found bad = unfit_rows words name.Range found _ refl go
  where
    -- no command fits such matches
    go : (c : Command) → name_of c ≡ name.Range → Fits (rows_of_words name.Range words) c → ⊥
    go (Range a b r o) is h = not_both _ _ bad h.words.2
    go c is h = absurd (cc)

-- a trial of such words that fits none leaves no settings
pub unfit_trial : (words : List Text)
    → option_and_then named_by (slice_get words 0) ≡ Some name.Trial
    → ((seed count length queries : ℕ) (o : Options)
    → HasWords (rows_of_words name.Trial words) (Trial seed count length queries o) → ⊥)
    → HasNoSettings words
unfit_trial words found unfit = unfit_rows words name.Trial found _ refl go
  where
    -- no command fits such matches
    go : (c : Command) → name_of c ≡ name.Trial → Fits (rows_of_words name.Trial words) c → ⊥
    go (Trial seed count length queries o) is h = unfit seed count length queries o h.words
    go c is h = absurd (cc)

-- windows of such words that fit none leave no settings
pub unfit_windows : (words : List Text)
    → option_and_then named_by (slice_get words 0) ≡ Some name.Windows
    → ((series queries : Text) (step : ℕ) (o : Options)
    → HasWords (rows_of_words name.Windows words) (Windows series queries step o)
    → HasOptions (rows_of_words name.Windows words) o → ⊥)
    → HasNoSettings words
unfit_windows words found unfit = unfit_rows words name.Windows found _ refl go
  where
    -- no command fits such matches
    go : (c : Command) → name_of c ≡ name.Windows
        → Fits (rows_of_words name.Windows words) c → ⊥
    go (Windows series queries step o) is h = unfit series queries step o h.words h.options
    go c is h = absurd (cc)

-- a trial of too many values in all does not keep its limit
pub too_many_values : (n m count length : ℕ) → Some n ≡ Some count → Some m ≡ Some length
    → count * length ≤ 134217728 → 134217728 < n * m → ⊥
too_many_values n m count length is has few many =
    let c : n ≡ count = cc in
    let l : m ≡ length = cc in
    let small : n * m ≤ 134217728 = rw (c, l) few in
    omega arith

-- windows of which too many are needed do not keep their limit
pub too_many_windows : (k apart : ℕ) (o : Options) → Some k ≡ Some o.k → Some apart ≡ Some o.apart
    → windows_needed o ≤ 1024 → 1024 < (k - 1) * (2 * apart - 1) + 1 → ⊥
too_many_windows k apart o is has few many =
    let a : k ≡ o.k = cc in
    let b : apart ≡ o.apart = cc in
    let small : (k - 1) * (2 * apart - 1) + 1 ≤ 1024 = rw (a, b) few in
    omega arith
