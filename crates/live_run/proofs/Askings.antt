-- The files of askings, one more behind the others; and how many queries they have.
use Rattle.std.proofs.Common.{◌≡◌, ℕ, suc, ◌+◌, ◌*◌, ◌<◌, ◌≤◌, List, [], ◌∷◌, ◌++◌, All, length, take, drop, get_or, refl, sym, ap, ◌∙◌, subst, length-append, arith}
use Rattle.std.specs.List.{AllZip, AllByRecursion, flat_map}
use Rattle.std.specs.Prelude.{Option, Some, ℤ}
use Rattle.std.proofs.lemmas.List.{drop_more, length-map, take-append-drop, take_more}
use Rattle.std.proofs.lemmas.List.Elements.{All-from_recursion, All-head, All-push, All-tail}
use Rattle.outside.specs.Files.{Held}
use Rattle.live_script.specs.Grammar.{IsAsking}
use Rattle.live_script.specs.declared.script.Asking.{Asking}
use Rattle.live_run.specs.Groups.{HoldAskings, HoldsAsking, RefusesAskings}
use Rattle.live_run.specs.Loads.{RefusesFitting}
use Rattle.run_traffic.specs.Traffic.{EndsReading, Reading}
use Rattle.live_run.specs.declared.status.LiveStatus.{LiveStatus}
use Rattle.live_run.specs.Replies.{CanAsk}
use Rattle.live_run.specs.Texts.{file_queries}
use Rattle.live_run.specs.declared.group.QueryFile.{QueryFile}

module _ {A B : Type 0} (R : A → B → Type 0) where
  -- one pair more at the end
  pub zip_push : (xs : List A) (ys : List B) (x : A) (y : B) → AllZip R xs ys → R x y → AllZip R (xs ++ x ∷ []) (ys ++ y ∷ [])
  zip_push [] [] x y all r = (r, tt)
  zip_push [] (z ∷ ys) x y all r = absurd all
  zip_push (z ∷ xs) [] x y all r = absurd all
  zip_push (z ∷ xs) (w ∷ ys) x y all r = (all.0, zip_push xs ys x y all.1 r)

  -- there are as many of both
  pub zip_length : (xs : List A) (ys : List B) → AllZip R xs ys → length xs ≡ length ys
  zip_length [] [] all = refl
  zip_length [] (z ∷ ys) all = absurd all
  zip_length (z ∷ xs) [] all = absurd all
  zip_length (z ∷ xs) (w ∷ ys) all = ap suc (zip_length xs ys all.1)

-- a file has as many queries as series
pub file_size : (f : QueryFile) → length (file_queries f) ≡ length f.queries.series
file_size f = length-map f.queries.series (λ (v : List ℤ). record { values = v; k = f.k })

-- files have no more queries than this
pub queries_few : (n : ℕ) (fs : List QueryFile) → All (CanAsk n) fs
    → length (flat_map file_queries fs) ≤ 16777216 * length fs
queries_few n [] all = omega arith
queries_few n (f ∷ fs) all =
    let first = (All-head (CanAsk n) f fs all).few in
    let rest = queries_few n fs (All-tail (CanAsk n) f fs all) in
    let l = length-append (file_queries f) (flat_map file_queries fs) in
    let s = file_size f in
    omega arith

-- one file more behind the others
pub can_more : (n : ℕ) (fs gs : List QueryFile) (f : QueryFile) → gs ≡ fs ++ f ∷ [] → All (CanAsk n) fs → CanAsk n f → All (CanAsk n) gs
can_more n fs gs f e all can = subst (All (CanAsk n)) (sym e) (All-push (CanAsk n) fs f all can)

-- the askings of a group are right
pub asking_at : (askings : List Asking) (i : ℕ) (d : Asking) → AllByRecursion IsAsking askings → i < length askings
    → IsAsking (get_or askings i d)
asking_at askings i d all low = All-from_recursion IsAsking askings all i d low

-- an asking whose file does not serve is the first such
pub askings_refused : (whole part : Reading) (n : ℕ) (askings : List Asking) (i : ℕ) (d : Asking) (files : List QueryFile)
    (status : LiveStatus) → i < length askings → EndsReading whole part
    → HoldAskings part.held n (take i askings) files
    → RefusesFitting whole (Some n) (get_or askings i d).queries status → RefusesAskings whole n askings status
askings_refused whole part n askings i d files status low ends passed refused = record {
  done = take i askings;
  asking = get_or askings i d;
  rest = drop (i + 1) askings;
  all = sym (take-append-drop i askings) ∙ ap (λ l. take i askings ++ l) (drop_more askings i d low);
  files = files;
  passed = subst (λ held. HoldAskings held n (take i askings) files) ends.held passed;
  refused = refused;
}

-- the files of one asking more
pub askings_more : (held : Option Held) (n : ℕ) (askings : List Asking) (i : ℕ) (d : Asking) (files later : List QueryFile)
    (f : QueryFile) → i < length askings → later ≡ files ++ f ∷ [] → HoldAskings held n (take i askings) files
    → HoldsAsking held n (get_or askings i d) f → HoldAskings held n (take (i + 1) askings) later
askings_more held n askings i d files later f low e passed holds =
    subst (HoldAskings held n (take (i + 1) askings)) (sym e)
    (subst (λ as_. HoldAskings held n as_ (files ++ f ∷ [])) (sym (take_more askings i d low))
    (zip_push (HoldsAsking held n) (take i askings) files (get_or askings i d) f passed holds))
