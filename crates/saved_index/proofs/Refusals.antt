-- What bytes have against a collection, refusal by refusal, and what a refusal of bytes says of the file that they were read from
-- (`explains_refused`, `leaves_refused`).
use Rattle.std.proofs.Common.{◌≡◌, ℕ, ◌<◌, ◌≤◌, List, length, Option, Some, None, refl, sym, ap, ◌∙◌, subst, ⊎_elim, inl, inr}
use Rattle.std.specs.Prelude.{Result, Ok, Err, IfErr, ◌==◌, ◌≢◌, ◌⊎◌, ⊤, not, nat_lt, option_map, IfSome}
use Rattle.std.specs.Io.KnownBytes.{IsAtEnd}
use Rattle.std.proofs.lemmas.Bool.{cond_both, cond-true, cond-false, eq-eqb, ne_eqb, lt-ltb, le-ltb, not_from_true, not_from_false}
use Rattle.std.proofs.lemmas.Option.{IfSome_then}
use Rattle.series_core.specs.Collection.{Collection}
use Rattle.saved_index.specs.declared.error.IndexFault.{IndexFault}
use Rattle.saved_index.specs.declared.error.IndexFault.TheVariants.{NotIndex, Length, Count, Unfit, TooLong, ReadFault, NoMemory}
use Rattle.saved_index.specs.declared.loading.LoadedIndex.{LoadedIndex}
use Rattle.saved_index.specs.Faults.{fault_of, first_unfit, index_fault}
use Rattle.saved_index.specs.Loading.{Explains, Leaves, Refuses}
use Rattle.saved_index.specs.Reading.{saved_in}
use Rattle.saved_index.specs.Saved.{Saved}

-- more bytes than a saved index may have
pub too_long : (bytes : List ℕ) (c : Collection) → 1073741824 < length bytes → index_fault bytes c ≡ Some TooLong
too_long bytes c long =
    cond-true (nat_lt 1073741824 (length bytes)) (Some TooLong) (fault_of c (saved_in bytes))
    (lt-ltb 1073741824 (length bytes) long)

-- bytes that are not too long have what they are the text of against the collection
pub short_fault : (bytes : List ℕ) (c : Collection) (o : Option Saved) → length bytes ≤ 1073741824 → saved_in bytes ≡ o
    → index_fault bytes c ≡ fault_of c o
short_fault bytes c o short is =
    cond-false (nat_lt 1073741824 (length bytes)) (Some TooLong) (fault_of c (saved_in bytes))
    (le-ltb 1073741824 (length bytes) short)
    ∙ ap (fault_of c) is

pub length_fault : (c : Collection) (s : Saved) → s.header.points ≢ c.points
    → fault_of c (Some s) ≡ Some (Length s.header.points c.points)
length_fault c s other =
    cond-true (not (s.header.points == c.points)) _ _ (not_from_false (s.header.points == c.points) (ne_eqb s.header.points c.points other))

pub count_fault : (c : Collection) (s : Saved) → s.header.points ≡ c.points → s.header.count ≢ length c.series
    → fault_of c (Some s) ≡ Some (Count s.header.count (length c.series))
count_fault c s same other =
    cond-false (not (s.header.points == c.points)) _ _ (not_from_true (s.header.points == c.points) (eq-eqb s.header.points c.points same))
    ∙ cond-true (not (s.header.count == length c.series)) _ _
    (not_from_false (s.header.count == length c.series) (ne_eqb s.header.count (length c.series) other))

pub unfit_fault : (c : Collection) (s : Saved) → s.header.points ≡ c.points → s.header.count ≡ length c.series
    → fault_of c (Some s) ≡ option_map Unfit (first_unfit c s)
unfit_fault c s same many =
    cond-false (not (s.header.points == c.points)) _ _ (not_from_true (s.header.points == c.points) (eq-eqb s.header.points c.points same))
    ∙ cond-false (not (s.header.count == length c.series)) _ _
    (not_from_true (s.header.count == length c.series) (eq-eqb s.header.count (length c.series) many))

-- what is no text is refused as that, and else memory ran out
pub not_index : (bytes : List ℕ) (c : Collection) (e : IndexFault) → length bytes ≤ 1073741824
    → (e ≡ NotIndex → saved_in bytes ≡ None) → (e ≡ NotIndex) ⊎ (e ≡ NoMemory) → Refuses c bytes e
not_index bytes c e short refused is =
    ⊎_elim (λ same. inr (short_fault bytes c None short (refused same) ∙ ap Some (sym same))) (λ left. inl left) is

-- the bytes that were read, where known, have no other fault
told : (c : Collection) (before : Option (List ℕ)) (bytes : List ℕ) (e : IndexFault) → IfSome before (λ rest. bytes ≡ rest)
    → index_fault bytes c ≡ Some e → IfSome before (λ rest. index_fault rest c ≡ Some e)
told c before bytes e are fault =
    IfSome_then before are (λ rest same. ap (λ (bs : List ℕ). index_fault bs c) (sym same) ∙ fault)

pub explains_refused : (c : Collection) (before : Option (List ℕ)) (bytes : List ℕ) (e : IndexFault)
    → IfSome before (λ rest. bytes ≡ rest) → Refuses c bytes e → Explains c before e
explains_refused c before bytes NotIndex are refuses =
    ⊎_elim (λ left. cc) (λ fault. told c before bytes NotIndex are fault) refuses
explains_refused c before bytes (Length a b) are refuses =
    ⊎_elim (λ left. cc) (λ fault. told c before bytes (Length a b) are fault) refuses
explains_refused c before bytes (Count a b) are refuses =
    ⊎_elim (λ left. cc) (λ fault. told c before bytes (Count a b) are fault) refuses
explains_refused c before bytes (Unfit i) are refuses =
    ⊎_elim (λ left. cc) (λ fault. told c before bytes (Unfit i) are fault) refuses
explains_refused c before bytes TooLong are refuses =
    ⊎_elim (λ left. cc) (λ fault. told c before bytes TooLong are fault) refuses
explains_refused c before bytes ReadFault are refuses = tt
explains_refused c before bytes NoMemory are refuses = tt

-- a refusal of bytes that are not too long
abbrev pub IsOfShort : IndexFault → Type 0
IsOfShort TooLong = ⊥
IsOfShort ReadFault = ⊥
IsOfShort NoMemory = ⊥
IsOfShort e = ⊤

unfit_kind : (o : Option ℕ) → IfSome (option_map Unfit o) IsOfShort
unfit_kind None = tt
unfit_kind (Some i) = tt

fault_kind : (c : Collection) (o : Option Saved) → IfSome (fault_of c o) IsOfShort
fault_kind c None = tt
fault_kind c (Some s) =
    let P : Option IndexFault → Type 0 = λ o. IfSome o IsOfShort in
    cond_both (not (s.header.points == c.points)) (Some (Length s.header.points c.points)) _ P (λ _. tt)
    (λ _. cond_both (not (s.header.count == length c.series)) (Some (Count s.header.count (length c.series))) _ P (λ _. tt)
    (λ _. unfit_kind (first_unfit c s)))

short_kind : (c : Collection) (bytes : List ℕ) (e : IndexFault) → length bytes ≤ 1073741824 → index_fault bytes c ≡ Some e
    → IsOfShort e
short_kind c bytes e short is =
    let P : Option IndexFault → Type 0 = λ o. IfSome o IsOfShort in
    subst P is (subst P (sym (short_fault bytes c (saved_in bytes) short refl)) (fault_kind c (saved_in bytes)))

-- no read failed where bytes that were read are refused
pub no_read_fault : (c : Collection) (bytes : List ℕ) (e : IndexFault) → length bytes ≤ 1073741824 → Refuses c bytes e
    → e ≢ ReadFault
no_read_fault c bytes e short refuses same =
    ⊎_elim (λ left. absurd (not_both (sym same ∙ left)))
    (λ fault. subst IsOfShort same (short_kind c bytes e short fault)) refuses
  where
    not_both : ◌≡◌ {A = IndexFault} ReadFault NoMemory → ⊥
    not_both is = cc

-- all bytes were read where they are refused
pub leaves_refused : (c : Collection) (before now : Option (List ℕ)) (bytes : List ℕ) (e : IndexFault)
    → length bytes ≤ 1073741824 → IsAtEnd now → Refuses c bytes e → Leaves before now e
leaves_refused c before now bytes NotIndex short end refuses = end
leaves_refused c before now bytes (Length a b) short end refuses = end
leaves_refused c before now bytes (Count a b) short end refuses = end
leaves_refused c before now bytes (Unfit i) short end refuses = end
leaves_refused c before now bytes TooLong short end refuses =
    ⊎_elim (λ left. absurd (not_both left)) (λ fault. absurd (short_kind c bytes TooLong short fault)) refuses
  where
    not_both : ◌≡◌ {A = IndexFault} TooLong NoMemory → ⊥
    not_both is = cc
leaves_refused c before now bytes ReadFault short end refuses = tt
leaves_refused c before now bytes NoMemory short end refuses = inr end

-- the same of what loading the bytes answers
pub ends_read : (c : Collection) (bytes : List ℕ) (r : Result LoadedIndex IndexFault) → length bytes ≤ 1073741824
    → IfErr r (Refuses c bytes) → r ≢ Err ReadFault
ends_read c bytes (Ok x) short refuses is = cc
ends_read c bytes (Err e) short refuses is =
    let same : e ≡ ReadFault = cc in
    no_read_fault c bytes e short refuses same
