-- Right pieces of `nearest`: there is one for each query (`answers_exist`, `certified_exists`).
use Rattle.std.proofs.Common.{ℕ, ◌++◌, List, refl, subst, ◌∙◌, arith}
use Rattle.std.specs.Prelude.{ℤ}
use Rattle.command_words.specs.Limits.{OptionsKeepLimits}
use Rattle.command_words.specs.declared.options.Options.{Options}
use Rattle.series_core.specs.Answer.{answer}
use Rattle.series_core.specs.Collection.{IsCollection, IsSeries}
use Rattle.series_core.specs.declared.pair.Pair.{Pair}
use Rattle.series_file.specs.declared.error.Loaded.{Loaded}
use Rattle.subtree_build.specs.declared.settings.Settings.{Settings}
use Rattle.search_task.specs.Questions.{CanBeSearched, Question}
use Rattle.certificate.specs.Printed.{IsCertificate}
use Rattle.search_run.specs.Finding.{IsSearchBase}
use Rattle.search_run.specs.Nearests.{IsCertifiedPiece, question_of}
use Rattle.search_run.specs.Texts.{IsAnswerPiece, query_text}
use Rattle.search_run.proofs.Certifying.{certificate_exists}
use Rattle.search_run.proofs.Searching.{HasPieces}
use Rattle.search_run.specs.declared.commands.search.SearchBase.{SearchBase}

-- there is a piece of whatever is found
pub answers_exist : (o : Options) (found : Loaded → List ℤ → List Pair)
    → HasPieces o (λ x. IsAnswerPiece x.labels (found x))
answers_exist o found base over sound i q asked = (query_text base.series.labels i (found base.series q), refl)

-- the question by the settings of a tree
abbrev pub asked_by : SearchBase → Options → Settings → List ℤ → Question
asked_by base o settings q =
    record { collection = base.series.rows; query = q; k = o.k; layout = settings.layout }

-- the tree can be searched for it
pub can_be_searched : (o : Options) → OptionsKeepLimits o → (base : SearchBase) → IsSearchBase o base
    → IsCollection base.series.rows → (q : List ℤ) → IsSeries base.series.rows.points q
    → CanBeSearched (asked_by base o base.tree.settings q) base.tree.index
can_be_searched o limits base over sound q asked = record {
  question = record {
    collection = sound;
    some_rank = omega (arith, limits.k.0);
    few_ranks = omega (arith, limits.k.1);
    cuts = over.cuts;
    points = over.searched.length;
    query = asked.points ∙ over.searched.length;
    values = asked.values;
  };
  index = over.index;
  fits = over.searched.fits;
}

-- what certifies by the settings of the tree certifies by those of the options
pub by_options : (o : Options) (base : SearchBase) → IsSearchBase o base → (q : List ℤ) (lines : List ℕ)
    → IsCertificate (asked_by base o base.tree.settings q) base.tree.settings.leaf_size o.queues lines
    → IsCertificate (question_of base.series o q) o.leaf o.queues lines
by_options o base over q lines =
    subst (λ (s : Settings). IsCertificate (asked_by base o s q) s.leaf_size o.queues lines) over.settings

-- there is a piece with a certificate
pub certified_exists : (o : Options) → OptionsKeepLimits o → HasPieces o (IsCertifiedPiece o)
certified_exists o limits base over sound i q asked =
    let found = certificate_exists (asked_by base o base.tree.settings q) base.tree.settings.leaf_size o.queues
    base.tree.index (can_be_searched o limits base over sound q asked) (omega (arith, limits.queues.0)) over.built in (
      query_text base.series.labels i (answer base.series.rows q o.k) ++ found.0,
      (found.0, by_options o base over q found.0 found.1, refl),
    )
