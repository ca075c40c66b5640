-- Fields that are read: each is what the text began with.
use Rattle.std.proofs.Common.{◌≡◌, ℕ, zero, suc, ◌-◌, ◌^◌, List, [], ◌∷◌, ◌++◌, length, Option, Some, None, refl, sym, ap, subst, ◌∙◌, append_assoc, arith}
use Rattle.std.specs.Prelude.{decimal}
use Rattle.std.specs.List.{AllByRecursion}
use Rattle.std.proofs.lemmas.Option.{same_Some}
use Rattle.isax_word.specs.declared.word.Part.{Part}
use Rattle.series_core.specs.declared.queue_words.Entry.{Entry}
use Rattle.certificate.specs.Spelling.{entries_text, part_text, parts_text}
use Rattle.certificate.specs.Grammar.{IsEntry}
use Rattle.certificate.specs.Fields.{after, behind, number_at, entry_at, entries_at, part_at, parts_at}
use Rattle.certificate.proofs.Binding.{bind_then}
use Rattle.certificate.proofs.Fronts.{after_takes}
use Rattle.certificate.proofs.NumberTexts.{number_takes}

-- an entry
pub entry_takes : (text rest : List ℕ) (e : Entry) → entry_at text ≡ Some (e, rest)
    → (text ≡ decimal e.bound ++ (58 ∷ (decimal e.leaf ++ rest))) × IsEntry e
unfolding entry_at
entry_takes text rest e read =
    bind_then (number_at (2 ^ 64 - 1) text) _ (e, rest) read (λ bound bound_is read1.
    bind_then (after (58 ∷ []) bound.1) _ (e, rest) read1 (λ colon colon_is read2.
    bind_then (number_at (2 ^ 32 - 1) colon) _ (e, rest) read2 (λ leaf leaf_is read3.
    let first = number_takes (2 ^ 64 - 1) text bound.1 bound.0 (omega arith) bound_is in
    let middle = after_takes (58 ∷ []) bound.1 colon colon_is in
    let second = number_takes (2 ^ 32 - 1) colon leaf.1 leaf.0 (omega arith) leaf_is in
    subst (λ (x : Entry × List ℕ). (text ≡ decimal x.0.bound ++ (58 ∷ (decimal x.0.leaf ++ x.1))) × IsEntry x.0)
    (same_Some _ (e, rest) read3) (
      first.0 ∙ ap (λ (t : List ℕ). decimal bound.0 ++ t) (middle ∙ ap (λ (t : List ℕ). 58 ∷ t) second.0),
      record { leaf = omega (arith, second.1); bound = omega (arith, first.1) },
    ))))

-- a front that was there, or was not
behind_then : {X G : Type 0} (o : Option (List ℕ)) (otherwise : X) (next : List ℕ → Option X) (y : X)
    → behind o otherwise next ≡ Some y → (o ≡ None → otherwise ≡ y → G)
    → ((rest : List ℕ) → o ≡ Some rest → next rest ≡ Some y → G) → G
behind_then None otherwise next y read end more = end refl (same_Some otherwise y read)
behind_then (Some rest) otherwise next y read end more = more rest refl read

-- entries, each behind a space
pub entries_take : (n : ℕ) (text rest : List ℕ) (es : List Entry) → entries_at n text ≡ Some (es, rest)
    → (text ≡ entries_text es ++ rest) × AllByRecursion IsEntry es
unfolding entries_at
entries_take zero text rest es read =
    subst (λ (x : List Entry × List ℕ). (text ≡ entries_text x.0 ++ x.1) × AllByRecursion IsEntry x.0)
    (same_Some ([], text) (es, rest) read) (refl, tt)
entries_take (suc n) text rest es read =
    behind_then (after (32 ∷ []) text) ([], text) _ (es, rest) read
    (λ none same.
    subst (λ (x : List Entry × List ℕ). (text ≡ entries_text x.0 ++ x.1) × AllByRecursion IsEntry x.0) same (refl, tt))
    (λ next next_is read1.
    bind_then (entry_at next) _ (es, rest) read1 (λ first first_is read2.
    bind_then (entries_at n first.1) _ (es, rest) read2 (λ others others_are read3.
    let space = after_takes (32 ∷ []) text next next_is in
    let one = entry_takes next first.1 first.0 first_is in
    let more = entries_take n first.1 others.1 others.0 others_are in
    let e = first.0 in
    subst (λ (x : List Entry × List ℕ). (text ≡ entries_text x.0 ++ x.1) × AllByRecursion IsEntry x.0)
    (same_Some _ (es, rest) read3) (
      space ∙ ap (λ (t : List ℕ). 32 ∷ t)
          (one.0 ∙ ap (λ (t : List ℕ). decimal e.bound ++ (58 ∷ (decimal e.leaf ++ t))) more.0
          ∙ ap (λ (t : List ℕ). decimal e.bound ++ (58 ∷ t)) (sym (append_assoc (decimal e.leaf) (entries_text others.0) others.1))
          ∙ sym (append_assoc (decimal e.bound) (58 ∷ (decimal e.leaf ++ entries_text others.0)) others.1)),
      (one.1, more.1),
    ))))

-- a part of a word
pub part_takes : (text rest : List ℕ) (p : Part) → part_at text ≡ Some (p, rest) → text ≡ part_text p ++ rest
unfolding part_at
part_takes text rest p read =
    bind_then (number_at 255 text) _ (p, rest) read (λ prefix prefix_is read1.
    bind_then (after (58 ∷ []) prefix.1) _ (p, rest) read1 (λ colon colon_is read2.
    bind_then (number_at 255 colon) _ (p, rest) read2 (λ bits bits_is read3.
    let first = number_takes 255 text prefix.1 prefix.0 (omega arith) prefix_is in
    let middle = after_takes (58 ∷ []) prefix.1 colon colon_is in
    let second = number_takes 255 colon bits.1 bits.0 (omega arith) bits_is in
    subst (λ (x : Part × List ℕ). text ≡ part_text x.0 ++ x.1) (same_Some _ (p, rest) read3)
    (first.0 ∙ ap (λ (t : List ℕ). decimal prefix.0 ++ t) (middle ∙ ap (λ (t : List ℕ). 58 ∷ t) second.0)
    ∙ sym (append_assoc (decimal prefix.0) (58 ∷ decimal bits.0) bits.1)))))

-- n further parts
pub parts_take : (n : ℕ) (text rest : List ℕ) (ps : List Part) → parts_at n text ≡ Some (ps, rest)
    → (text ≡ parts_text ps ++ rest) × (length ps ≡ n)
unfolding parts_at
parts_take zero text rest ps read =
    subst (λ (x : List Part × List ℕ). (text ≡ parts_text x.0 ++ x.1) × (length x.0 ≡ 0))
    (same_Some ([], text) (ps, rest) read) (refl, refl)
parts_take (suc n) text rest ps read =
    bind_then (after (44 ∷ []) text) _ (ps, rest) read (λ comma comma_is read1.
    bind_then (part_at comma) _ (ps, rest) read1 (λ first first_is read2.
    bind_then (parts_at n first.1) _ (ps, rest) read2 (λ others others_are read3.
    let front = after_takes (44 ∷ []) text comma comma_is in
    let one = part_takes comma first.1 first.0 first_is in
    let more = parts_take n first.1 others.1 others.0 others_are in
    subst (λ (x : List Part × List ℕ). (text ≡ parts_text x.0 ++ x.1) × (length x.0 ≡ suc n))
    (same_Some _ (ps, rest) read3) (
      front ∙ ap (λ (t : List ℕ). 44 ∷ t)
          (one ∙ ap (λ (t : List ℕ). part_text first.0 ++ t) more.0
          ∙ sym (append_assoc (part_text first.0) (parts_text others.0) others.1)),
      ap suc more.1,
    ))))
