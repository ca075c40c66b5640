-- The full words of all series, in lists.
use Rattle.std.specs.Prelude.{◌≡◌, ℕ, zero, suc, ◌+◌, ◌*◌, ◌<◌, ◌≤◌, All, List, [], ◌∷◌, length, min}
use Rattle.series_core.specs.Collection.{Collection}
use Rattle.isax_word.specs.declared.layout.Layout.{Layout}
use Rattle.isax_word.specs.declared.member.Member.{Member}
use Rattle.saved_index.specs.declared.words.SeriesWords.{SeriesWords}
use Rattle.saved_index.specs.Membership.{words_between}

-- where the list behind one of `each` words from a number on begins
abbrev pub next_from : Collection → ℕ → ℕ → ℕ
next_from c each from = min (from + each) (length c.series)

-- a list of `each` words from a number on, and so many lists behind it
abbrev pub word_lists : Collection → Layout → ℕ → ℕ → ℕ → List (List (List ℕ))
word_lists c layout each zero from = words_between c layout from (next_from c each from) ∷ []
word_lists c layout each (suc behind) from =
    words_between c layout from (next_from c each from) ∷ word_lists c layout each behind (next_from c each from)

-- the lists have the words of all series
pub record HasWords (c : Collection) (layout : Layout) (w : SeriesWords) : Type 0 where
  pub behind : ℕ
  pub some : 1 ≤ w.each
  pub lists_are : w.lists.items ≡ word_lists c layout w.each behind 0
  pub enough : length c.series ≤ (behind + 1) * w.each

-- and each member is a series
pub record HasWordsFor (c : Collection) (layout : Layout) (w : SeriesWords) (members : List Member) : Type 0 where
  pub words : HasWords c layout w
  pub series : All (λ m. m.number < length c.series) members
