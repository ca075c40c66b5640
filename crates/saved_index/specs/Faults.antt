-- What the bytes of a saved index have against a collection: the first refusal, in their order.
use Rattle.std.specs.Prelude.{ℕ, ◌==◌, ◌&&◌, ◌||◌, not, nat_eq, nat_lt, Bool, false, true, List, [], ◌∷◌, ◌++◌, length, Option, Some, None, find, option_map, if◌then◌else◌}
use Rattle.std.specs.List.{list_all, list_any, range_with_len}
use Rattle.list_totals.specs.Totals.{total, times}
use Rattle.segment_sums.specs.Division.{division_of}
use Rattle.series_core.specs.Collection.{Collection}
use Rattle.isax_word.specs.declared.layout.Layout.{Layout}
use Rattle.isax_word.specs.declared.word.Part.{Part}
use Rattle.isax_word.specs.FullWord.{full_word}
use Rattle.isax_word.specs.Word.{child_word, one_bit_word, word_contains}
use Rattle.subtree_build.specs.Members.{series_at}
use Rattle.subtree_build.specs.Tree.{Tree, absent, leaf, split}
use Rattle.saved_index.specs.declared.error.IndexFault.{IndexFault}
use Rattle.saved_index.specs.declared.error.IndexFault.TheVariants.{NotIndex, Length, Count, Unfit, TooLong}
use Rattle.saved_index.specs.Reading.{saved_in}
use Rattle.saved_index.specs.Saved.{Header, Saved}
use Rattle.search_limits.specs.declared.numbers.TheConstants.{MOST_TEXT_BYTES}

-- a leaf as it is saved, with its word
pub record WordedLeaf : Type 0 where
  pub word : List Part
  pub numbers : List ℕ

-- the leaves below a node of a word, in order
abbrev pub worded : List Part → Tree (List ℕ) → List WordedLeaf
worded word absent = []
worded word (leaf numbers) = record { word = word; numbers = numbers } ∷ []
worded word (split j low high) = worded (child_word word j false) low ++ worded (child_word word j true) high

-- the leaves below root children, in order
abbrev pub all_worded : ℕ → List ℕ → List (Tree (List ℕ)) → List WordedLeaf
all_worded segments [] nodes = []
all_worded segments (root ∷ roots) [] = []
all_worded segments (root ∷ roots) (t ∷ nodes) = worded (one_bit_word root segments) t ++ all_worded segments roots nodes

-- the leaves of what is saved
abbrev pub saved_leaves : Saved → List WordedLeaf
saved_leaves s = all_worded s.header.segments s.roots s.nodes

-- the layout of what is saved
abbrev pub layout_for : Header → Layout
layout_for h = record { cuts = division_of h.points h.segments; table = h.table }

-- whether the word of a leaf contains the full word of series i, where the series is one of its members
abbrev pub suits : Collection → Layout → ℕ → WordedLeaf → Bool
suits c layout i x = not (list_any (nat_eq i) x.numbers) || word_contains x.word (full_word layout (series_at c i))

-- whether series i is a member of exactly one leaf, once, and that leaf's word contains its full word
abbrev pub is_fit : Collection → Saved → ℕ → Bool
is_fit c s i =
    (total (λ x. times i x.numbers) (saved_leaves s) == 1) && list_all (suits c (layout_for s.header) i) (saved_leaves s)

-- the least series number that does not fit
abbrev pub first_unfit : Collection → Saved → Option ℕ
first_unfit c s = find (λ i. not (is_fit c s i)) (range_with_len 0 s.header.count)

-- what an index that was read has against a collection
abbrev pub fault_of : Collection → Option Saved → Option IndexFault
fault_of c None = Some NotIndex
fault_of c (Some s) =
    if not (s.header.points == c.points) then Some (Length s.header.points c.points) else
    (if not (s.header.count == length c.series) then Some (Count s.header.count (length c.series)) else
    option_map Unfit (first_unfit c s))

-- what bytes have against a collection
abbrev pub index_fault : List ℕ → Collection → Option IndexFault
index_fault bytes c = if nat_lt MOST_TEXT_BYTES (length bytes) then Some TooLong else fault_of c (saved_in bytes)
