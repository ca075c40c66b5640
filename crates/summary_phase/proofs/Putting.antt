-- One member more is put into the buffers: they hold the members of one number more.
use Rattle.std.proofs.Common.{◌≡◌, ℕ, ℤ, ◌+◌, ◌<◌, ◌≤◌, List, [], ◌∷◌, ◌++◌, Some, length, get_or, set, sym, ap, ◌∙◌, append_assoc}
use Rattle.std.specs.Prelude.{slice_get}
use Rattle.series_core.specs.Collection.{Collection}
use Rattle.isax_word.specs.declared.layout.Layout.{Layout}
use Rattle.isax_word.specs.FullWord.{full_word, root_number}
use Rattle.summary_phase.specs.Chunks.{members_between}
use Rattle.summary_phase.specs.Members.{members_of}
use Rattle.summary_phase.specs.Roots.{by_root}
use Rattle.isax_word.specs.declared.member.Member.{Member}
use Rattle.summary_phase.proofs.Pieces.{between_more}
use Rattle.summary_phase.proofs.Roots.{by_root-push}

-- the member of a number and a full word
member : ℕ → List ℕ → Member
member number full = record { number = number; full = full }

-- a member that is put behind those of its root
pub put_more : (layout : Layout) (c : Collection) (start number : ℕ) (row : List ℤ)
    (before : List Member) (roots root : ℕ) (full : List ℕ) (buffers written : List (List Member))
    → start ≤ number → number < length c.series → slice_get c.series number ≡ Some row
    → full ≡ full_word layout row → root ≡ root_number full → root < roots
    → buffers ≡ by_root roots (before ++ members_between (members_of layout c) start number)
    → written
    ≡ set buffers root
    (get_or buffers root [] ++ record { number = number; full = full } ∷ [])
    → written ≡ by_root roots (before ++ members_between (members_of layout c) start (number + 1))
unfolding member
put_more layout c start number row before roots root full buffers written from low is word root_is
    below was put =
    let ms = members_of layout c in
    let had = before ++ members_between ms start number in
    let m = member number full in
    put ∙ ap (λ b. set b root (get_or b root [] ++ m ∷ [])) was
    ∙ by_root-push roots had m root (sym root_is) below
    ∙ ap (by_root roots)
    (append_assoc before (members_between ms start number) (m ∷ [])
    ∙ ap (λ f. before ++ (members_between ms start number ++ member number f ∷ [])) word
    ∙ ap (λ l. before ++ l) (sym (between_more layout c start number row from low is)))
