-- What was loaded of bytes that are the text of an index over series of a collection's length and count: the parts make an index
-- (`makes`), whose members are series with their own words (`series`, `words_long`), and whose tree fits (`tree_is_fit`), with their means
-- too (`with_means_fits`), or else the bytes have that against it (`unfit`). Whatever stands beside a tree that fits, it is an index for
-- the collection (`is_for`), has the bytes as its text (`is_text_for`), and can be saved again (`saves`).
use Rattle.std.proofs.Common.{◌≡◌, ℕ, ◌<◌, ◌≤◌, List, length, map, get_or, Bool, None, Some, sym, ap, ◌∙◌, subst, arith, Fits as FitsIn, w8, All}
use Rattle.std.specs.Prelude.{flat_map, option_map, slice_index}
use Rattle.std.proofs.lemmas.List.{length-map}
use Rattle.series_core.specs.Collection.{Collection}
use Rattle.series_file.proofs.Numbers.{AreBytes}
use Rattle.segment_sums.specs.Division.{IsDivision}
use Rattle.isax_word.specs.declared.layout.Layout.{Layout}
use Rattle.subtree_build.specs.declared.leaf.TreeLeaf.{TreeLeaf}
use Rattle.subtree_build.specs.declared.node.Node.{Node}
use Rattle.subtree_build.specs.declared.settings.Settings.{Settings}
use Rattle.subtree_build.specs.Assembly.{HasMeansOf, IsOfParts, MakeIndex}
use Rattle.subtree_build.specs.Fits.{Fits, MembersAreSeries}
use Rattle.subtree_build.specs.Index.{IndexParts, IsIndex}
use Rattle.subtree_build.specs.Members.{numbers_of}
use Rattle.subtree_build.specs.Outline.{outline}
use Rattle.subtree_build.specs.Tree.{Tree, all_numbered, leaves_of}
use Rattle.subtree_build.proofs.Assembled.{other_means}
use Rattle.subtree_build.proofs.Fitting.{bare_fits}
use Rattle.saved_index.specs.declared.error.IndexFault.TheVariants.{Unfit}
use Rattle.saved_index.specs.declared.reading.Spelled.{Spelled}
use Rattle.saved_index.specs.Fields.{header_of}
use Rattle.saved_index.specs.Faults.{first_unfit, index_fault, layout_for, saved_leaves}
use Rattle.saved_index.specs.IndexText.{CanSave, HasSaved, IndexText, header_for}
use Rattle.saved_index.specs.Loading.{IsLoadedFor, IsSavedFor, IsTextFor, StandsBeside}
use Rattle.saved_index.specs.Membership.{first_unfit_of, members_in_lists, words_of}
use Rattle.saved_index.specs.Saved.{AreNumbers, Header, IsHeader, IsTextOf}
use Rattle.saved_index.proofs.Below.{AreBelow, all_below, all_numbers}
use Rattle.saved_index.proofs.Fitted.{fits_by_weight, tree_by_weight}
use Rattle.saved_index.proofs.LeavesTold.{leaves_told, worded_leaf}
use Rattle.saved_index.proofs.MakesIndex.{read_makes_index}
use Rattle.saved_index.proofs.NoFault.{text_has_no_fault}
use Rattle.saved_index.proofs.Refusals.{short_fault, unfit_fault}
use Rattle.saved_index.proofs.SoundWhole.{saved_sound}
use Rattle.saved_index.proofs.TextTold.{text_told}
use Rattle.saved_index.proofs.Weights.{unfit_by_weight}
use Rattle.saved_index.proofs.Wording.{are_series, each_leaf, have_segments, have_words, lists_back}

-- an index has the tree of another
pub record HasTreeOf (before after : IndexParts) : Type 0 where
  pub segments : after.segments ≡ before.segments
  pub roots : after.roots ≡ before.roots
  pub nodes : after.nodes ≡ before.nodes
  pub leaves : after.leaves ≡ before.leaves

-- what is saved is over series of the collection's length and count
module _ (c : Collection) (bytes : List ℕ) (r : Spelled) (each : (i : ℕ) → FitsIn w8 (slice_index bytes i))
    (read : IsSavedFor c bytes r) where
  are : AreBytes bytes
  are k = omega (arith, each k)

  is_text : IsTextOf bytes read.read.saved
  is_text = saved_sound bytes read.read.saved are read.read.is

  points : read.read.saved.header.points ≡ c.points
  points = ap (λ (h : Header). h.points) read.read.header ∙ read.points

  many : read.read.saved.header.count ≡ length c.series
  many = ap (λ (h : Header). h.count) read.read.header ∙ read.count

  -- the header keeps its limits
  pub limits : IsHeader (header_of r.fields)
  limits = subst IsHeader read.read.header is_text.sound.header

  -- the parts make an index
  pub makes : MakeIndex r.fields.segments r.found.roots.items r.found.nodes.items (length r.found.lists)
  makes = read_makes_index bytes r are read.read

  -- the numbers are those of series
  pub series_below : All (AreBelow (length c.series)) r.found.lists
  series_below =
      let s = read.read.saved in
      let Lists : List (List ℕ) → Type 0 = λ ls. All (AreBelow (length c.series)) ls in
      let Count : ℕ → Type 0 = λ n. All (AreBelow n) (flat_map (λ (t : Tree (List ℕ)). leaves_of t) s.nodes) in
      subst Lists (sym read.read.lists_are)
      (subst Count many (all_below s.header.segments s.header.count s.roots s.nodes is_text.sound.nodes))

  -- an index was put together of the parts, with the settings of the header
  module _ (settings : Settings) (layout_is : settings.layout ≡ layout_for (header_of r.fields))
      (size_is : settings.leaf_size ≡ r.fields.leaf_size) (ix : IndexParts) (is : IsIndex ix)
      (parts : IsOfParts settings.layout.cuts.segments r.found.roots.items r.found.nodes.items
      (members_in_lists (words_of c settings.layout) r.found.lists) ix) where
    layout_saved : settings.layout ≡ layout_for read.read.saved.header
    layout_saved = layout_is ∙ ap layout_for (sym read.read.header)

    nodes_are : map outline ix.nodes ≡ all_numbered 0 read.read.saved.nodes
    nodes_are = ap (λ (ns : List Node). map outline ns) parts.nodes ∙ read.read.nodes_are

    numbers_are : map (λ (x : TreeLeaf). numbers_of x.members) ix.leaves
        ≡ flat_map (λ (t : Tree (List ℕ)). leaves_of t) read.read.saved.nodes
    numbers_are =
        lists_back c settings.layout r.found.lists ix.leaves parts.members ∙ read.read.lists_are

    leaves_are : map worded_leaf ix.leaves ≡ saved_leaves read.read.saved
    leaves_are =
        leaves_told ix read.read.saved is (parts.segments ∙ ap (λ (l : Layout). l.cuts.segments) layout_saved)
        (parts.roots ∙ sym read.read.roots) nodes_are numbers_are

    -- its members are series
    pub series : All (λ (x : TreeLeaf). All (λ m. m.number < length c.series) x.members) ix.leaves
    series = are_series c settings.layout r.found.lists ix.leaves parts.members series_below

    -- each of its leaves can be saved
    saved_leaves_are : All (HasSaved (length c.series)) ix.leaves
    saved_leaves_are k d inside =
        let s = read.read.saved in
        let Lists : List (List ℕ) → Type 0 = λ ls. All (AreNumbers s.header.count) ls in
        let numbers = subst Lists (sym numbers_are)
        (all_numbers s.header.segments s.header.count s.roots s.nodes is_text.sound.nodes) in
        let own = each_leaf (AreNumbers s.header.count) (λ (x : TreeLeaf). numbers_of x.members) ix.leaves numbers k d inside in
        let long : length (numbers_of (get_or ix.leaves k d).members) ≡ length (get_or ix.leaves k d).members
        = length-map (get_or ix.leaves k d).members (λ m. m.number) in
        record {
          some = omega (arith, own.some, long);
          ascend = own.ascend;
          below = series k d inside;
        }

    own : All (MembersAreSeries c settings.layout) ix.leaves
    own = have_words c settings.layout r.found.lists ix.leaves parts.members series_below

    -- whose words are as long as its own
    pub words_long : All (λ (x : TreeLeaf). All (λ m. length m.full ≡ ix.segments) x.members) ix.leaves
    words_long =
        let Long : ℕ → Type 0 = λ n. All (λ (x : TreeLeaf). All (λ m. length m.full ≡ n) x.members) ix.leaves in
        subst Long (sym parts.segments)
        (have_segments c settings.layout r.found.lists ix.leaves parts.members series_below)

    -- the bytes have against the collection that a series does not fit
    pub unfit : (n count : ℕ) → length bytes ≤ 1073741824 → count ≡ length c.series → Some n ≡ first_unfit_of ix.leaves count
        → index_fault bytes c ≡ Some (Unfit n)
    unfit n count short all found =
        let s = read.read.saved in
        let Own : Layout → Type 0 = λ l. All (MembersAreSeries c l) ix.leaves in
        let first : first_unfit c s ≡ Some n
        = unfit_by_weight c s ix.leaves (subst Own layout_saved own) leaves_are
        ∙ ap (first_unfit_of ix.leaves) (many ∙ sym all)
        ∙ sym found in
        short_fault bytes c (Some s) short read.read.is
        ∙ unfit_fault c s points many
        ∙ ap (option_map (λ i. Unfit i)) first

    -- no series of the collection is found that does not fit
    module _ (count : ℕ) (all : count ≡ length c.series) (none : None ≡ first_unfit_of ix.leaves count) where
      none_unfit : first_unfit_of ix.leaves (length c.series) ≡ None
      none_unfit = ap (first_unfit_of ix.leaves) (sym all) ∙ sym none

      -- so its tree fits
      pub tree_is_fit : Fits c settings.layout ix
      tree_is_fit =
          bare_fits c settings.layout ix (tree_by_weight c settings.layout ix parts.segments own series none_unfit) parts.no_means
          parts.no_codes

      -- and it does with the means of its members' series
      pub with_means_fits : (jx : IndexParts) → HasMeansOf c settings.layout ix jx → Fits c settings.layout jx
      with_means_fits jx means = fits_by_weight c settings.layout ix jx parts.segments own series none_unfit means

    -- the same tree that fits, whatever stands beside it
    module _ (jx : IndexParts) (tree : HasTreeOf ix jx) (fits : Fits c settings.layout jx) where
      js : IsIndex jx
      js = subst IsIndex same (other_means ix jx.means jx.codes is)
        where
          same : record ix { means = jx.means; codes = jx.codes } ≡ jx
          same i = record {
            segments = sym tree.segments i;
            roots = sym tree.roots i;
            nodes = sym tree.nodes i;
            leaves = sym tree.leaves i;
            means = jx.means;
            codes = jx.codes;
          }

      length_is : c.points ≡ settings.layout.cuts.row_length
      length_is = sym points ∙ sym (ap (λ (l : Layout). l.cuts.row_length) layout_saved)

      cuts : IsDivision settings.layout.cuts
      cuts =
          let h = is_text.sound.header in
          let P : Layout → Type 0 = λ l. IsDivision l.cuts in
          subst P (sym layout_saved) (record {
            some_segments = h.some_segments;
            few_segments = h.few_segments;
            no_empty_segment = h.no_empty_segment;
            short_row = h.length_limit;
          })

      -- it is an index for the collection
      pub is_for : (tables : Bool) → StandsBeside tables jx → IsLoadedFor tables c (record { settings = settings; index = jx })
      is_for tables beside = record {
        fits = fits;
        length = length_is;
        cuts = cuts;
        is_index = js;
        beside = beside;
        some_leaf_size = omega (arith, size_is, limits.some_leaf_size);
        leaf_size_limit = omega (arith, size_is, limits.leaf_size_limit);
      }

      -- it can be saved again
      pub saves : CanSave settings (length c.series) jx
      saves =
          let P : List TreeLeaf → Type 0 = λ ls. All (HasSaved (length c.series)) ls in
          record {
            segments = tree.segments ∙ parts.segments;
            count_limit = omega (arith, is_text.sound.header.count_limit, many);
            some_leaf_size = omega (arith, size_is, limits.some_leaf_size);
            leaf_size_limit = omega (arith, size_is, limits.leaf_size_limit);
            leaves = subst P (sym tree.leaves) saved_leaves_are;
          }

      header_is : header_for settings (length c.series) ≡ read.read.saved.header
      header_is i = record {
        segments = (layout_saved i).cuts.segments;
        table = (layout_saved i).table;
        points = (layout_saved i).cuts.row_length;
        count = sym many i;
        leaf_size = size_saved i;
      }
        where
          size_saved : settings.leaf_size ≡ read.read.saved.header.leaf_size
          size_saved = size_is ∙ ap (λ (h : Header). h.leaf_size) (sym read.read.header)

      text_is : IndexText bytes settings (length c.series) jx
      text_is =
          text_told bytes read.read.saved settings (length c.series) jx is_text header_is
          (tree.roots ∙ parts.roots ∙ sym read.read.roots)
          (ap (λ (ns : List Node). map outline ns) tree.nodes ∙ nodes_are)
          (ap (map (λ (x : TreeLeaf). numbers_of x.members)) tree.leaves ∙ numbers_are)

      -- whose text is the bytes
      pub is_text_for : length bytes ≤ 1073741824 → IsTextFor c (record { settings = settings; index = jx }) bytes
      is_text_for short = record {
        no_fault = text_has_no_fault c bytes settings jx (record { division = cuts; index = js; fits = fits })
            (sym length_is) text_is short;
        text = text_is;
      }
