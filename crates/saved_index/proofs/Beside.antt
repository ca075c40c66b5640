-- Words that are made beside the reading of a text are for its layout (`layout_told`). They can be given to its members (`can_be_given`), and
-- then each of these has its own (`is_worded`).
use Rattle.std.proofs.Common.{◌≡◌, ◌∙◌, ◌<◌, ℕ, List, All, length, map, sym, ap, subst, arith}
use Rattle.std.specs.Vec.{with_items}
use Rattle.std.proofs.lemmas.List.{length-map, with_items_is}
use Rattle.series_core.specs.Collection.{Collection}
use Rattle.isax_word.specs.declared.layout.Layout.{Layout}
use Rattle.isax_word.specs.declared.member.Member.{Member}
use Rattle.subtree_build.specs.Members.{with_own_word}
use Rattle.saved_index.specs.declared.framing.Framed.{Framed}
use Rattle.saved_index.specs.declared.words.SeriesWords.{SeriesWords}
use Rattle.saved_index.specs.Faults.{layout_for}
use Rattle.saved_index.specs.Framing.{IsFrameFor, IsFramed, IsWorded}
use Rattle.saved_index.specs.Reading.{header_at}
use Rattle.saved_index.specs.Words.{HasWords, HasWordsFor}
use Rattle.saved_index.proofs.SoundWhole.{header_told}

module _ (c : Collection) (bytes : List ℕ) (f : Framed) (is : IsFramed c bytes f) where
  -- the layout is that of the header with which the bytes begin
  pub layout_told : layout_for (header_at bytes) ≡ f.settings.layout
  layout_told =
      let read = is.parts.saved.read in
      sym (is.parts.layout ∙ ap layout_for (sym read.header ∙ header_told bytes read.saved read.is))

  -- the members, as a slice shows them, can be given words
  pub can_be_given : (layout : Layout) (words : SeriesWords) (shown : List Member) → shown ≡ f.members.items → HasWords c layout words
      → HasWordsFor c layout words shown
  can_be_given layout words shown same has = record {
    words = has;
    series = subst (All (λ (m : Member). m.number < length c.series)) (sym same) is.can.series;
  }

  -- and have their own when they are
  pub is_worded : (layout : Layout) (shown given : List Member) → layout ≡ f.settings.layout → shown ≡ f.members.items
      → given ≡ map (with_own_word c layout) shown
      → IsWorded c bytes (record { settings = f.settings; frame = f.frame; members = with_items f.members given })
  is_worded layout shown given own same are =
      let mine : given ≡ map (with_own_word c f.settings.layout) f.members.items
      = are ∙ ap (λ (l : Layout). map (with_own_word c l) shown) own ∙ ap (map (with_own_word c f.settings.layout)) same in
      let long : length given ≡ length f.members.items
      = ap (λ (ms : List Member). length ms) mine ∙ length-map f.members.items (with_own_word c f.settings.layout) in
      let there : (with_items f.members given).items ≡ given = with_items_is f.members given (omega (arith, long, f.members.ok.0)) in
      let many : length f.members.items ≡ length (with_items f.members given).items
      = sym (ap (λ (ms : List Member). length ms) there ∙ long) in
      record {
        spelled = is.spelled;
        parts = subst (IsFrameFor c bytes is.spelled f.settings f.frame) many is.parts;
        members = there ∙ mine ∙ is.own;
      }
