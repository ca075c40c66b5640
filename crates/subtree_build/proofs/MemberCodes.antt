-- The codes of members in one row: no more values are coded than a series has (`coded_few`), each member has as many blocks (`length_codes`),
-- cut by the places of leaves the codes are those of the leaves (`codes_are_own`), and those of a leaf of an index that fits and has codes are
-- those of its members (`codes_of_leaf`), one by one (`codes_of_one`); so tables of members are tables (`mean_table_is`, `code_table_is`).
use Rattle.std.proofs.Common.{◌≡◌, ℕ, ◌+◌, ◌-◌, ◌*◌, ◌<◌, ◌≤◌, Bool, true, false, cond, ℤ, List, [], ◌∷◌, ◌++◌, length, take, drop, map, get_or, refl, sym, ap, ◌∙◌, subst, arith, All}
use Rattle.std.specs.Prelude.{IfSome, None, Option, Some, is_some, ltb, slice_index_or}
use Rattle.std.proofs.lemmas.Bool.{false≢true}
use Rattle.std.proofs.lemmas.List.{get_or-map, length-map, length-take-le}
use Rattle.std.proofs.lemmas.List.Elements.{All-drop, All-get_or}
use Rattle.series_core.specs.Collection.{Collection, IsCollection}
use Rattle.series_core.specs.declared.rows.TheConstants.{MAX_VALUES}
use Rattle.row_codes.specs.Rows.{Block, block_count, row_codes}
use Rattle.row_codes.proofs.Below.{have_squares}
use Rattle.isax_word.specs.declared.layout.Layout.{Layout}
use Rattle.isax_word.specs.declared.member.Member.{Member}
use Rattle.subtree_build.specs.declared.leaf.LeafPlace.{LeafPlace}
use Rattle.subtree_build.specs.declared.tables.Tables.{Tables}
use Rattle.subtree_build.specs.Fits.{Fits}
use Rattle.subtree_build.specs.Index.{IndexParts, leaf_at, no_leaf}
use Rattle.subtree_build.specs.Means.{all_codes, coded_points, coded_values, codes_at, codes_of_member, leaf_codes, means_of}
use Rattle.subtree_build.specs.Members.{series_at}
use Rattle.subtree_build.specs.Places.{leaves_seen, codes_seen, AreTablesOf, IsCodeTable, IsMeanTable}
use Rattle.subtree_build.proofs.Flattened.{length_pieces, drop_pieces, take_pieces, first_piece, drop_at, piece_push}
use Rattle.subtree_build.proofs.OfCollection.{IsReal}
use Rattle.subtree_build.proofs.SideBySide.{IsPart, element, own_row, part_long, series_long}

-- no more values are coded than a series has
pub coded_few : (c : Collection) → coded_points c ≤ c.points
coded_few c = few (ltb MAX_VALUES (length c.series * c.points)) c.points
  where
    few : (none : Bool) (n : ℕ) → cond none 0 (coded_values n) ≤ n
    few true n = omega arith
    few false n = omega arith

module _ (c : Collection) (sound : IsCollection c) where
  abbrev n : ℕ
  n = block_count (coded_points c)

  -- a member has as many blocks as a row of which so many values are coded
  codes_long : (m : Member) → IsReal c m → length (codes_of_member c m) ≡ n
  codes_long m real =
      let few = coded_few c in
      let long = series_long c m.number sound real in
      (have_squares (take (coded_points c) (series_at c m.number))).count
      ∙ ap block_count (length-take-le (coded_points c) (series_at c m.number) (omega (arith, few, long)))

  -- so all members have as many blocks as there are members, times the blocks of each
  pub length_codes : (members : List Member) → All (IsReal c) members
      → length (all_codes c members) ≡ length members * block_count (coded_points c)
  length_codes members real = length_pieces (codes_of_member c) n (IsReal c) codes_long members real

  -- the codes of all members, cut by places, are those of the leaves at the places
  pub codes_are_own : (members : List Member) (codes : List Block) (places : List LeafPlace) → All (IsReal c) members
      → codes ≡ all_codes c members
      → codes_seen (block_count (coded_points c)) codes places ≡ map (leaf_codes c) (leaves_seen members places)
  codes_are_own members codes [] real are = refl
  codes_are_own members codes (p ∷ places) real are =
      let count = p.end - p.first in
      let here : take (count * n) (drop (p.first * n) codes) ≡ all_codes c (take count (drop p.first members))
      = ap (λ (cs : List Block). take (count * n) (drop (p.first * n) cs)) are
      ∙ ap (take (count * n)) (drop_pieces (codes_of_member c) n (IsReal c) codes_long p.first members real)
      ∙ take_pieces (codes_of_member c) n (IsReal c) codes_long count (drop p.first members)
      (All-drop (IsReal c) p.first members real) in
      let rest = codes_are_own members codes places real are in
      λ i. here i ∷ rest i

  -- the codes of each member stand behind those of the members before it
  pub codes_of_one : (members : List Member) (i : ℕ) (m : Member) → All (IsReal c) members → i < length members
      → m ≡ get_or members i m
      → take (block_count (coded_points c)) (drop (i * block_count (coded_points c)) (all_codes c members))
      ≡ codes_of_member c m
  codes_of_one members i m real inside item =
      ap (take n) (drop_pieces (codes_of_member c) n (IsReal c) codes_long i members real)
      ∙ ap (λ (ms : List Member). take n (all_codes c ms)) (drop_at members i m inside item)
      ∙ first_piece (codes_of_member c) n (IsReal c) codes_long m (drop (i + 1) members)
      (subst (IsReal c) (sym item) (All-get_or (IsReal c) members i m inside real))

  -- the table of the members' means is a table beside them
  pub mean_table_is : (layout : Layout) (members : List Member) (places : List LeafPlace) (t : Tables)
      → AreTablesOf c layout members places t → IsMeanTable members places t.means
  mean_table_is layout members places t are = record {
    means_each = ap (λ (ms : List (List ℕ)). length ms) are.means ∙ length-map members (means_of c layout);
    boxes_are = are.boxes;
  }

  -- and so is that of their codes
  pub code_table_is : (layout : Layout) (members : List Member) (places : List LeafPlace) (t : Tables) → All (IsReal c) members
      → AreTablesOf c layout members places t → IsCodeTable members t.codes
  code_table_is layout members places t real are =
      let few : coded_points c ≤ 65536 = omega (arith, coded_few c, sound.length_limit) in
      record {
        few_blocks = subst (λ k. k ≤ 256) (sym are.blocks) (few_blocks (coded_points c) few);
        codes_each = ap (λ (cs : List Block). length cs) are.codes ∙ length_codes members real
            ∙ ap (λ k. length members * k) (sym are.blocks);
      }
    where
      few_blocks : (n : ℕ) → n ≤ 65536 → block_count n ≤ 256
      few_blocks n few = omega (arith, few)

-- of a row that is a part of the values of all, so many values are coded as it has at least
pub coded_row : (c : Collection) (members : List Member) (values : List ℤ) (i l n : ℕ) → IsPart c members values i l
    → n ≡ coded_points c → (n ≤ l) × (length (take n (take (i * l + l - i * l) (drop (i * l) values))) ≡ n)
coded_row c members values i l n is coded =
    let few : n ≤ l = omega (arith, coded, coded_few c, is.long) in
    let long = part_long c members values i l is in
    (few, length-take-le n (take (i * l + l - i * l) (drop (i * l) values)) (omega (arith, few, long)))

-- with one member more, whose row is a part of the values of all, the codes of its row stand behind the others
pub codes_push : (c : Collection) (members : List Member) (values : List ℤ) (i l n : ℕ) (front own : List Block)
    → IsPart c members values i l → n ≡ coded_points c → front ≡ all_codes c (take i members)
    → own ≡ row_codes (take n (take (i * l + l - i * l) (drop (i * l) values)))
    → front ++ own ≡ all_codes c (take (i + 1) members)
codes_push c members values i l n front own is coded are is_own =
    let some = element members i is.inside in
    piece_push (codes_of_member c) members i some.0 front own is.inside some.1 are
    (is_own
    ∙ ap (λ k. row_codes (take k (take (i * l + l - i * l) (drop (i * l) values)))) coded
    ∙ ap (λ (xs : List ℤ). row_codes (take (coded_points c) xs)) (own_row c members values i l is some.0 some.1))

-- codes that there are, for one leaf
own_at : (own : List (List Block)) (codes : Option (List (List Block))) (l : ℕ) → IfSome codes (λ cs. cs ≡ own)
    → is_some codes ≡ true → codes_at codes l ≡ slice_index_or own l []
own_at own None l are some = absurd (false≢true some)
own_at own (Some cs) l are some = ap (λ (xs : List (List Block)). slice_index_or xs l []) are

-- the codes of a leaf of an index that fits are those of its members' series, where there are codes
pub codes_of_leaf : (c : Collection) (layout : Layout) (ix : IndexParts) (l : ℕ) → Fits c layout ix
    → is_some ix.codes ≡ true → l < length ix.leaves → codes_at ix.codes l ≡ all_codes c (leaf_at ix.leaves l).members
codes_of_leaf c layout ix l fits some real =
    own_at (map (leaf_codes c) ix.leaves) ix.codes l fits.own_codes some
    ∙ get_or-map (leaf_codes c) ix.leaves l no_leaf [] real
