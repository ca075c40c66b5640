-- Queries as they are swept: the members of all leaves are scanned, one after another, into the list of each.
use Rattle.std.specs.Prelude.{◌≡◌, ℕ, ◌<◌, ◌≤◌, Bool, false, IsSome, List, [], flat_map, slice_index, take}
use Rattle.isax_word.specs.declared.member.Member.{Member}
use Rattle.series_core.specs.Collection.{Collection}
use Rattle.series_core.specs.Distance.{squared_distance}
use Rattle.subtree_build.specs.Index.{IndexParts}
use Rattle.subtree_build.specs.Members.{numbers_of, series_at}
use Rattle.search_task.specs.Questions.{CanBeSearched, last_of}
use Rattle.search_task.specs.Scanning.{AreScanned, MayAdd}
use Rattle.group_answer.specs.Asking.{question_of}
use Rattle.group_answer.specs.declared.asked.Asked.{Asked}
use Rattle.group_answer.specs.declared.chosen.Chosen.{Chosen}
use Rattle.group_answer.specs.declared.swept.Swept.{Swept}
use Rattle.group_answer.specs.declared.four.Four.{Four}

-- the members of all leaves, leaf after leaf
abbrev pub members_of : IndexParts → List Member
members_of ix = flat_map (λ x. x.members) ix.leaves

-- the number of the member at a place
abbrev pub number_at : IndexParts → ℕ → ℕ
number_at ix place = slice_index (numbers_of (members_of ix)) place

-- a query that may be swept: its task asks what it asks, the index can be searched for that and has codes, and its limit is not below its
-- last distance
pub record IsChosen {R : Type 0} (collection : R → Collection) (a : Asked R) (c : Chosen R) : Type 0 where
  pub question : c.task ≡ question_of collection a c.number
  pub searched : CanBeSearched c.task a.index.now
  pub enough : last_of c.task ≤ c.limit
  pub coded : IsSome a.index.now.codes

-- a query whose list has met the first members, so many
pub record IsSwept {R : Type 0} (collection : R → Collection) (a : Asked R) (met : ℕ) (s : Swept R) : Type 0 where
  pub chosen : IsChosen collection a s.chosen.now
  pub list : MayAdd s.chosen.now.task s.chosen.now.limit s.list s.most
  pub pairs : AreScanned s.chosen.now.task s.chosen.now.limit (numbers_of (take met (members_of a.index.now))) [] s.list.pairs

-- where it is not near, the member at a place is farther than may be
abbrev pub IsFarther : {R : Type 0} → IndexParts → ℕ → Bool → Swept R → Type 0
IsFarther ix place near s =
    near ≡ false → s.most < squared_distance (series_at s.chosen.now.task.collection (number_at ix place)) s.chosen.now.task.query

-- four queries, each of which has met the first members, so many
pub record AreSwept {R : Type 0} (collection : R → Collection) (a : Asked R) (met : ℕ) (f : Four R) : Type 0 where
  pub first : IsSwept collection a met f.a
  pub second : IsSwept collection a met f.b
  pub third : IsSwept collection a met f.c
  pub fourth : IsSwept collection a met f.d
