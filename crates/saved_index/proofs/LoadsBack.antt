-- What is saved of an index that fits a collection is loaded back over it (`loads_back`).
use Rattle.std.proofs.Common.{◌≡◌, ℕ, ◌≤◌, arith, List, length, Some, None, refl, inl, inr}
use Rattle.std.specs.Prelude.{◌⊎◌}
use Rattle.series_core.specs.Collection.{Collection}
use Rattle.subtree_build.specs.declared.settings.Settings.{Settings}
use Rattle.subtree_build.specs.Index.{IndexParts}
use Rattle.saved_index.specs.declared.error.IndexFault.{IndexFault}
use Rattle.saved_index.specs.declared.error.IndexFault.TheVariants.{NotIndex, Length, Count, Unfit, TooLong, ReadFault, NoMemory}
use Rattle.saved_index.specs.Faults.{index_fault}
use Rattle.saved_index.specs.IndexText.{IndexText, saved_of}
use Rattle.saved_index.specs.Laws.{IsIndexOf, LoadsBack}
use Rattle.saved_index.specs.Loading.{Explains}
use Rattle.saved_index.proofs.Again.{one_text}
use Rattle.saved_index.proofs.NoFault.{text_has_no_fault}
use Rattle.saved_index.proofs.OfSaved.{same_index}

-- what has no fault has none of these
no_such : (bytes : List ℕ) (c : Collection) (e : IndexFault) → index_fault bytes c ≡ None → index_fault bytes c ≡ Some e
    → (e ≡ ReadFault) ⊎ (e ≡ NoMemory)
no_such bytes c e none some = grind (arith, none, some)

-- where bytes have no fault, a refusal is a failed read or want of memory
left_to_refuse : (bytes : List ℕ) (c : Collection) (e : IndexFault) → index_fault bytes c ≡ None → Explains c (Some bytes) e
    → (e ≡ ReadFault) ⊎ (e ≡ NoMemory)
left_to_refuse bytes c ReadFault none explained = inl refl
left_to_refuse bytes c NoMemory none explained = inr refl
left_to_refuse bytes c TooLong none explained = no_such bytes c TooLong none explained
left_to_refuse bytes c NotIndex none explained = no_such bytes c NotIndex none explained
left_to_refuse bytes c (Length n m) none explained = no_such bytes c (Length n m) none explained
left_to_refuse bytes c (Count n m) none explained = no_such bytes c (Count n m) none explained
left_to_refuse bytes c (Unfit i) none explained = no_such bytes c (Unfit i) none explained

pub loads_back : (c : Collection) (bytes : List ℕ) (settings : Settings) (ix : IndexParts) → IsIndexOf c settings ix
    → settings.layout.cuts.row_length ≡ c.points → IndexText bytes settings (length c.series) ix → length bytes ≤ 1073741824
    → LoadsBack c bytes settings ix
loads_back c bytes settings ix of points text short = record {
  same = λ tables back is was.
      let count = length c.series in
      same_index c settings back.settings count count ix back.index of
      (record { division = is.cuts; index = is.is_index; fits = is.fits })
      (one_text bytes (saved_of settings count ix) (saved_of back.settings count back.index) text was.text);
  refused = λ e explained. left_to_refuse bytes c e (text_has_no_fault c bytes settings ix of points text short) explained;
}
