-- Members that get their words one after another: one member more (`own_step`, `own_word`), and those that have none yet (`own_there`).
use Rattle.std.proofs.Common.{◌≡◌, ◌∙◌, ℕ, zero, suc, ◌+◌, ◌<◌, List, [], ◌∷◌, ◌++◌, length, map, take, drop, get_or, slice_set, refl, ap, arith}
use Rattle.series_core.specs.Collection.{Collection}
use Rattle.isax_word.specs.declared.layout.Layout.{Layout}
use Rattle.isax_word.specs.declared.member.Member.{Member}
use Rattle.isax_word.specs.FullWord.{full_word}
use Rattle.subtree_build.specs.Members.{series_at, with_own_word}

-- a member of a number, with the word of the series of that number
pub own_word : (c : Collection) (layout : Layout) (m : Member) (n : ℕ) (full : List ℕ) → n ≡ m.number
    → full ≡ full_word layout (series_at c m.number) → record { number = n; full = full } ≡ with_own_word c layout m
own_word c layout m n full number word =
    ap (λ (k : ℕ). let x : Member = record { number = k; full = full } in x) number
    ∙ ap (λ (w : List ℕ). let x : Member = record { number = m.number; full = w } in x) word

-- the next member is as it was
pub own_there : (f : Member → Member) (old : List Member) (i : ℕ) (d : Member) → i < length old
    → get_or (map f (take i old) ++ drop i old) i d ≡ get_or old i d
own_there f [] i d inside = absurd (omega (arith, inside))
own_there f (m ∷ old) zero d inside = refl
own_there f (m ∷ old) (suc i) d inside = own_there f old i d (omega (arith, inside))

-- and gets its word
next_own : (f : Member → Member) (old : List Member) (i : ℕ) (m x : Member) → i < length old → m ≡ get_or old i m → x ≡ f m
    → slice_set (map f (take i old) ++ drop i old) i x ≡ map f (take (suc i) old) ++ drop (suc i) old
next_own f [] i m x inside item is = absurd (omega (arith, inside))
next_own f (o ∷ old) zero m x inside item is = ap (λ (y : Member). y ∷ old) (is ∙ ap f item)
next_own f (o ∷ old) (suc i) m x inside item is = ap (λ (ys : List Member). f o ∷ ys) (next_own f old i m x (omega (arith, inside)) item is)

pub own_step : (f : Member → Member) (old now : List Member) (i : ℕ) (m x : Member) → i < length old → m ≡ get_or old i m
    → x ≡ f m → now ≡ map f (take i old) ++ drop i old
    → slice_set now i x ≡ map f (take (i + 1) old) ++ drop (i + 1) old
own_step f old now i m x inside item is was =
    let next : suc i ≡ i + 1 = omega arith in
    ap (λ (ms : List Member). slice_set ms i x) was
    ∙ next_own f old i m x inside item is
    ∙ ap (λ n. map f (take n old) ++ drop n old) next
