-- Items that are read one behind another: what is read so far, and what is left to read.
use Rattle.std.proofs.Common.{◌≡◌, ℕ, zero, suc, List, [], ◌∷◌, ◌++◌, Option, Some, None, sym, ap, ◌∙◌, refl, append_assoc, append-nil}
use Rattle.isax_word.specs.declared.word.Part.{Part}
use Rattle.series_core.specs.declared.queue_words.Entry.{Entry}
use Rattle.certificate.specs.Fields.{◌>>=◌, after, behind, with_front, entry_at, entries_at, part_at, parts_at}

-- items before items before what is read
pub with_fronts : {X : Type 0} (xs ys : List X) (read : Option (List X × List ℕ))
    → with_front xs (with_front ys read) ≡ with_front (xs ++ ys) read
with_fronts xs ys None = refl
with_fronts xs ys (Some x) = ap (λ zs. Some (zs, x.1)) (sym (append_assoc xs ys x.0))

-- nothing before what is read
pub with_none : {X : Type 0} (read : Option (List X × List ℕ)) → with_front [] read ≡ read
with_none None = refl
with_none (Some x) = refl

-- one more entry is read
pub entries_more : (n : ℕ) (front : List Entry) (text next rest : List ℕ) (e : Entry)
    → after (32 ∷ []) text ≡ Some next → entry_at next ≡ Some (e, rest)
    → with_front front (entries_at (suc n) text) ≡ with_front (front ++ e ∷ []) (entries_at n rest)
unfolding entries_at
entries_more n front text next rest e space entry =
    ap (λ o. with_front front (behind o ([], text)
    (λ r. entry_at r >>= λ entry. with_front (entry.0 ∷ []) (entries_at n entry.1)))) space
    ∙ ap (λ o. with_front front (o >>= λ entry. with_front (entry.0 ∷ []) (entries_at n entry.1))) entry
    ∙ with_fronts front (e ∷ []) (entries_at n rest)

-- a space with no entry behind it
pub entries_bad : (n : ℕ) (front : List Entry) (text next : List ℕ)
    → after (32 ∷ []) text ≡ Some next → entry_at next ≡ None → with_front front (entries_at (suc n) text) ≡ None
unfolding entries_at
entries_bad n front text next space entry =
    ap (λ o. with_front front (behind o ([], text)
    (λ r. entry_at r >>= λ entry. with_front (entry.0 ∷ []) (entries_at n entry.1)))) space
    ∙ ap (λ o. with_front front (o >>= λ entry. with_front (entry.0 ∷ []) (entries_at n entry.1))) entry

-- no space: the entries end
pub entries_end : (n : ℕ) (front : List Entry) (text : List ℕ) → after (32 ∷ []) text ≡ None
    → with_front front (entries_at n text) ≡ Some (front, text)
unfolding entries_at
entries_end zero front text none = ap (λ es. Some (es, text)) (append-nil front)
entries_end (suc n) front text none =
    ap (λ o. with_front front (behind o ([], text)
    (λ r. entry_at r >>= λ entry. with_front (entry.0 ∷ []) (entries_at n entry.1)))) none
    ∙ ap (λ es. Some (es, text)) (append-nil front)

-- no more entries are to be read
pub entries_none : (front : List Entry) (text : List ℕ) → with_front front (entries_at zero text) ≡ Some (front, text)
unfolding entries_at
entries_none front text = ap (λ es. Some (es, text)) (append-nil front)

-- one more part is read
pub parts_more : (n : ℕ) (front : List Part) (text next rest : List ℕ) (p : Part)
    → after (44 ∷ []) text ≡ Some next → part_at next ≡ Some (p, rest)
    → with_front front (parts_at (suc n) text) ≡ with_front (front ++ p ∷ []) (parts_at n rest)
unfolding parts_at
parts_more n front text next rest p comma part =
    ap (λ o. with_front front (o >>= λ r. part_at r >>= λ x. with_front (x.0 ∷ []) (parts_at n x.1))) comma
    ∙ ap (λ o. with_front front (o >>= λ x. with_front (x.0 ∷ []) (parts_at n x.1))) part
    ∙ with_fronts front (p ∷ []) (parts_at n rest)

-- no comma where one has to stand
pub parts_stop : (n : ℕ) (front : List Part) (text : List ℕ) → after (44 ∷ []) text ≡ None
    → with_front front (parts_at (suc n) text) ≡ None
unfolding parts_at
parts_stop n front text comma =
    ap (λ o. with_front front (o >>= λ r. part_at r >>= λ x. with_front (x.0 ∷ []) (parts_at n x.1))) comma

-- no part behind a comma
pub parts_bad : (n : ℕ) (front : List Part) (text next : List ℕ)
    → after (44 ∷ []) text ≡ Some next → part_at next ≡ None → with_front front (parts_at (suc n) text) ≡ None
unfolding parts_at
parts_bad n front text next comma part =
    ap (λ o. with_front front (o >>= λ r. part_at r >>= λ x. with_front (x.0 ∷ []) (parts_at n x.1))) comma
    ∙ ap (λ o. with_front front (o >>= λ x. with_front (x.0 ∷ []) (parts_at n x.1))) part

-- no more parts are to be read
pub parts_none : (front : List Part) (text : List ℕ) → with_front front (parts_at zero text) ≡ Some (front, text)
unfolding parts_at
parts_none front text = ap (λ ps. Some (ps, text)) (append-nil front)
