-- Members by root: one more member goes behind those of its root, and changes no other.
use Rattle.std.proofs.Common.{◌≡◌, ◌≢◌, ℕ, ◌<◌, true, false, List, [], ◌∷◌, ◌++◌, cond, length, get_or, set, replicate, sym, ap, ◌∙◌, ⊎_elim, append-nil, arith}
use Rattle.std.proofs.lemmas.Bool.{cases_eq}
use Rattle.std.proofs.lemmas.Bool.Decides.{nat_tests}
use Rattle.std.proofs.lemmas.List.{ext_get_or, length-set, get_or-set_same, get_or-set_other, get_or-replicate, length-replicate}
use Rattle.std.proofs.lemmas.List.Elements.{filter-append}
use Rattle.std.proofs.lemmas.List.FromFn.{length-map-range_with_len, get_or-map-range_with_len}
use Rattle.isax_word.specs.FullWord.{root_number}
use Rattle.summary_phase.specs.Roots.{has_root, of_root, by_root}
use Rattle.isax_word.specs.declared.member.Member.{Member}

-- there is one list for each root
pub length-by_root : (roots : ℕ) (ms : List Member) → length (by_root roots ms) ≡ roots
length-by_root roots ms = length-map-range_with_len (of_root ms) 0 roots

-- the list of a root holds its members
pub get_or-by_root : (roots : ℕ) (ms : List Member) (r : ℕ) (d : List Member) → r < roots
    → get_or (by_root roots ms) r d ≡ of_root ms r
get_or-by_root roots ms r d low =
    get_or-map-range_with_len (of_root ms) 0 roots r r d low (omega arith)

-- of no member there is none in any list
pub by_root-none : (roots : ℕ) → by_root roots [] ≡ replicate roots []
by_root-none roots =
    ext_get_or [] (by_root roots []) (replicate roots [])
    (length-by_root roots [] ∙ sym (length-replicate roots []))
    (λ r low.
    let below : r < roots = omega (arith, length-by_root roots []) in
    get_or-by_root roots [] r [] below ∙ sym (get_or-replicate roots r [] [] below))

-- a member of this root goes behind the members of the root
of_root-same : (ms : List Member) (m : Member) (r : ℕ) → root_number m.full ≡ r
    → of_root (ms ++ m ∷ []) r ≡ of_root ms r ++ m ∷ []
of_root-same ms m r is =
    let yes : has_root r m ≡ true = grind (arith, nat_tests) in
    filter-append (has_root r) ms (m ∷ [])
    ∙ ap (λ b. of_root ms r ++ cond b (m ∷ []) []) yes

-- a member of another root changes nothing
of_root-other : (ms : List Member) (m : Member) (r : ℕ) → root_number m.full ≢ r
    → of_root (ms ++ m ∷ []) r ≡ of_root ms r
of_root-other ms m r not_is =
    let no : has_root r m ≡ false = grind (arith, nat_tests) in
    filter-append (has_root r) ms (m ∷ [])
    ∙ ap (λ b. of_root ms r ++ cond b (m ∷ []) []) no
    ∙ append-nil (of_root ms r)

-- one more member is put behind those of its root
pub by_root-push : (roots : ℕ) (ms : List Member) (m : Member) (r : ℕ) → root_number m.full ≡ r
    → r < roots
    → set (by_root roots ms) r (get_or (by_root roots ms) r [] ++ m ∷ [])
    ≡ by_root roots (ms ++ m ∷ [])
by_root-push roots ms m r is low =
    let lists = by_root roots ms in
    let more = ms ++ m ∷ [] in
    let written = set lists r (get_or lists r [] ++ m ∷ []) in
    let long : length written ≡ roots =
    length-set lists r (get_or lists r [] ++ m ∷ []) ∙ length-by_root roots ms in
    ext_get_or [] written (by_root roots more) (long ∙ sym (length-by_root roots more))
    (λ k inside.
    let below : k < roots = omega (arith, long) in
    ⊎_elim
    (λ (same : k ≡ r).
    let here : get_or written r [] ≡ get_or lists r [] ++ m ∷ [] =
    get_or-set_same lists r _ [] (omega (arith, length-by_root roots ms)) in
    ap (λ j. get_or written j []) same ∙ here
    ∙ ap (λ l. l ++ m ∷ []) (get_or-by_root roots ms r [] low)
    ∙ sym (of_root-same ms m r is)
    ∙ sym (get_or-by_root roots more r [] low)
    ∙ ap (λ j. get_or (by_root roots more) j []) (sym same))
    (λ (other : k ≢ r).
    get_or-set_other lists r k _ [] other
    ∙ get_or-by_root roots ms k [] below
    ∙ sym (of_root-other ms m k (λ e. other (sym e ∙ is)))
    ∙ sym (get_or-by_root roots more k [] below))
    (cases_eq k r))
