-- An option that a command does not have was not given, and holds its value for absence.
use Rattle.std.proofs.Common.{ℕ, ◌≡◌, ◌∙◌, ◌++◌, Bool, false}
use Rattle.std.proofs.Common.{List, [], ◌∷◌, Option, Some, None, refl, ap, codes, sym}
use Rattle.std.specs.List.{list_any}
use Rattle.std.specs.Str.{bytes_eq}
use Rattle.clap.specs.Walk.{Rule, Text, first_of}
use Rattle.clap.specs.Simple.{argument_words, built, help_rule, names_of}
use Rattle.breakpoints.specs.declared.table.Table.{Table}
use Rattle.breakpoints.specs.declared.table.Table.TheVariants.{Flat}
use Rattle.command_words.specs.Absence.{HoldsAbsence}
use Rattle.command_words.specs.CommandName.{app_for, has_argument, rows_of_words, rules_of}
use Rattle.command_words.specs.Options.{HasOptions, is_set, number_if, number_or, table_named}
use Rattle.command_words.specs.declared.name.CommandName.{CommandName}
use Rattle.command_words.specs.declared.name.CommandName.TheVariants as name
use Rattle.command_words.specs.declared.options.Options.{Options}
use Rattle.command_words.proofs.OtherRows.{neither}
use Rattle.command_words.proofs.OtherWalk.{not_found}

-- whether a rule has this name
abbrev has_id : Text → List Rule → Bool
has_id id rules = list_any (λ a. bytes_eq a.id id) rules

-- `clap` adds the rule of `--help` and no other
ids_are : (n : CommandName) (id : Text)
    → has_id id (built (app_for n)).top.rules ≡ has_id id (rules_of n ++ help_rule ∷ [])
unfolding app_for
ids_are name.Nearest id = refl
ids_are name.Range id = refl
ids_are name.Verify id = refl
ids_are name.Trial id = refl
ids_are name.Convert id = refl
ids_are name.Save id = refl
ids_are name.Windows id = refl
ids_are name.Discord id = refl

-- one rule more, of another name, adds no name
one_more : (id : Text) (rules : List Rule) (a : Rule)
    → has_id id rules ≡ false → bytes_eq a.id id ≡ false → has_id id (rules ++ a ∷ []) ≡ false
one_more id [] a none other = rw other refl
one_more id (r ∷ rules) a none other =
    let parts = neither (bytes_eq r.id id) (has_id id rules) none in
    rw parts.0 (one_more id rules a parts.1 other)

-- a number that was not given holds its value for absence
pub number_absent : (least most otherwise n : ℕ) (given : Option Text) → given ≡ None
    → number_or least most otherwise given ≡ Some n → n ≡ otherwise
number_absent least most otherwise n given none is =
    let found : Some otherwise ≡ Some n = ap (number_or least most otherwise) (sym none) ∙ is in
    cc

-- a number that has no such value is None where it was not given
pub no_number : (least most : ℕ) (n : Option ℕ) (given : Option Text) → given ≡ None
    → number_if least most given ≡ Some n → n ≡ None
no_number least most n given none is =
    let found : Some None ≡ Some n = ap (number_if least most) (sym none) ∙ is in
    cc

-- a table that was not named is the flat one
pub flat_unnamed : (t : Table) (given : Option Text) → given ≡ None
    → table_named given ≡ Some t → t ≡ Flat
flat_unnamed t given none is =
    let found : Some Flat ≡ Some t = ap table_named (sym none) ∙ is in
    cc

-- a flag that was not given is not set
not_set : (b : Bool) (given : Option Text) → given ≡ None → is_set given ≡ b → b ≡ false
not_set b given none is = sym is ∙ ap is_set none

module _ (name : CommandName) (words : List Text) where
  -- an option that the command does not have was not given
  absent : (id : Text) → bytes_eq help_rule.id id ≡ false → has_argument name id ≡ false
      → first_of id (rows_of_words name words) ≡ None
  unfolding rows_of_words
  absent id other none =
      let app = built (app_for name) in
      let missing = ids_are name id ∙ one_more id (rules_of name) help_rule none other in
      not_found id app.top.rules (names_of app) missing (argument_words (app_for name) words)

  -- each option that the command does not have holds its value for absence
  pub holds_absence : (o : Options) → HasOptions (rows_of_words name words) o → HoldsAbsence name o
  holds_absence o h = record {
    k = λ e. number_absent 1 1024 1 o.k _ (absent (codes "k") refl e) h.k;
    segments = λ e. no_number 1 16 o.segments _ (absent (codes "segments") refl e) h.segments;
    leaf = λ e. number_absent 1 65535 1000 o.leaf _ (absent (codes "leaf") refl e) h.leaf;
    workers = λ e. number_absent 1 64 4 o.workers _ (absent (codes "workers") refl e) h.workers;
    queues = λ e. number_absent 1 64 2 o.queues _ (absent (codes "queues") refl e) h.queues;
    table = λ e. flat_unnamed o.table _ (absent (codes "breaks") refl e) h.table;
    raw = λ e. no_number 1 65536 o.raw _ (absent (codes "raw") refl e) h.raw;
    certificate = λ e. not_set o.certificate _ (absent (codes "certificate") refl e) h.certificate;
    sealed = λ e. not_set o.sealed _ (absent (codes "sealed") refl e) h.sealed;
    index = λ e. sym h.index ∙ absent (codes "index") refl e;
    apart = λ e. number_absent 1 512 1 o.apart _ (absent (codes "apart") refl e) h.apart;
  }
