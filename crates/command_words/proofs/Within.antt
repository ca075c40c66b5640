-- What the settings hold is within its limits.
use Rattle.std.proofs.Common.{◌≡◌, ◌∙◌, ℕ, List, Option, Some, None, ap, arith, option_map, refl}
use Rattle.std.specs.Prelude.{IfSome, codes}
use Rattle.std.proofs.lemmas.Grind.{common_steps}
use Rattle.clap.specs.Words.{Row, Text, first_of}
use Rattle.command_words.specs.Limits.{IsWithin, KeepsLimits, OptionsKeepLimits, WordsKeepLimits}
use Rattle.command_words.specs.Number.{number_within}
use Rattle.command_words.specs.Options.{HasOptions, number_at, number_if, number_or}
use Rattle.command_words.specs.Settings.{Fits, HasWords, options_of}
use Rattle.command_words.specs.declared.command.Command.{Command}
use Rattle.command_words.specs.declared.command.Command.TheVariants.{Nearest, Range, Verify, Trial}
use Rattle.command_words.specs.declared.command.Command.TheVariants.{Convert, Save}
use Rattle.command_words.specs.declared.command.Command.TheVariants.{Windows, Discord}
use Rattle.command_words.specs.declared.options.Options.{Options}

-- a number that was read is within its limits
in_within : (least most : ℕ) (t : Text) (n : ℕ)
    → number_within least most t ≡ Some n → IsWithin least most n
in_within least most t n is = grind (arith, common_steps)

-- a number at a place is within its limits
at_within : (least most : ℕ) (given : Option Text) (n : ℕ)
    → number_at least most given ≡ Some n → IsWithin least most n
at_within least most None n is = absurd (cc)
at_within least most (Some t) n is = in_within least most t n is

-- the number of an option is within limits that its value for absence keeps
or_within : (least most absent : ℕ) (given : Option Text) (n : ℕ)
    → IsWithin least most absent → number_or least most absent given ≡ Some n
    → IsWithin least most n
or_within least most absent None n fits is = let same : absent ≡ n = cc in rw (← same) fits
or_within least most absent (Some t) n fits is = in_within least most t n is

-- the number of an option is within its limits where it was given
if_within : (least most : ℕ) (given : Option Text) (n : Option ℕ)
    → number_if least most given ≡ Some n → IfSome n (IsWithin least most)
if_within least most None None is = tt
if_within least most None (Some n) is = absurd (cc)
if_within least most (Some t) None is = tt
if_within least most (Some t) (Some n) is = go (number_within least most t) refl is
  where
    -- the same, with what was read by itself
    go : (o : Option ℕ) → number_within least most t ≡ o
        → option_map (λ m. Some m) o ≡ Some (Some n) → IsWithin least most n
    go None is e = absurd (cc)
    go (Some m) is e = let same : m ≡ n = cc in in_within least most t n (is ∙ ap Some same)

module _ (rows : List Row) where
  -- options that the matches have are within their limits
  pub options_within : (o : Options) → HasOptions rows o → OptionsKeepLimits o
  options_within o h = record {
    k = or_within 1 1024 1 (first_of (codes "k") rows) o.k (omega arith, omega arith) h.k;
    segments = if_within 1 16 (first_of (codes "segments") rows) o.segments h.segments;
    leaf = or_within 1 65535 1000 (first_of (codes "leaf") rows) o.leaf
        (omega arith, omega arith) h.leaf;
    workers = or_within 1 64 4 (first_of (codes "workers") rows) o.workers
        (omega arith, omega arith) h.workers;
    queues = or_within 1 64 2 (first_of (codes "queues") rows) o.queues
        (omega arith, omega arith) h.queues;
    raw = if_within 1 65536 (first_of (codes "raw") rows) o.raw h.raw;
    apart = or_within 1 512 1 (first_of (codes "apart") rows) o.apart
        (omega arith, omega arith) h.apart;
  }

  -- numbers that the matches have before the options are within their limits
  words_within : (c : Command) → HasWords rows c → WordsKeepLimits c
  words_within (Nearest series queries o) h = tt
  words_within (Range series queries radius o) h =
      (at_within 0 281474976710656 (first_of (codes "RADIUS") rows) radius h.2).1
  words_within (Verify series queries certificate o) h = tt
  words_within (Trial seed count length queries o) h = (
    (at_within 0 16777216 (first_of (codes "COUNT") rows) count h.1).1,
    at_within 1 65536 (first_of (codes "LENGTH") rows) length h.2,
    (at_within 0 1000 (first_of (codes "QUERIES") rows) queries h.3).1,
    h.4,
  )
  words_within (Convert series o) h = tt
  words_within (Save series o) h = tt
  words_within (Windows series queries step o) h =
      (at_within 1 16777216 (first_of (codes "STEP") rows) step h.2, h.3)
  words_within (Discord series o) h = tt

  -- a command that the matches fit keeps its limits
  pub fits_within : (c : Command) → Fits rows c → KeepsLimits c
  fits_within c h = record {
    words = words_within c h.words;
    options = options_within (options_of c) h.options;
  }
