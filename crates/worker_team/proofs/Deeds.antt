-- Each worker of a team that was dismissed did its work: one thing made for each pass (`each_did`), and what that says of
-- all passes and of all that was made.
use Rattle.std.proofs.Common.{◌≡◌, List, [], ◌∷◌, ◌++◌, Option, Some, None, IfSome, get_or, map, drop, refl, ap, ◌∙◌, sym, subst, arith, All}
use Rattle.std.specs.List.{flat_map}
use Rattle.std.proofs.lemmas.List.Elements.{All-nil, All-cons, All-head, All-tail}
use Rattle.claim_word.specs.Passes.{Pass}
use Rattle.worker_team.specs.declared.worker.TeamWorker.{TeamWorker}
use Rattle.worker_team.specs.Deeds.{EachDid}

module _ {M : Type 0} (Did : Pass → M → Type 0) where
  -- what holds of the pass of each worker and what it made holds of the passes and what was made, in order
  pub each_did : (team : List (TeamWorker M)) (passes : List Pass) (made : List M)
      → All (λ w. IfSome w.made (Did w.pass)) team
      → passes ≡ map (λ w. w.pass) team
      → map (λ m. Some m) made ≡ map (λ w. w.made) team
      → EachDid Did passes made
  each_did team passes made done are made_are =
      subst (λ ps. EachDid Did ps made) (sym are) (by_each team made done made_are)
    where
      by_each : (team : List (TeamWorker M)) (made : List M)
          → All (λ w. IfSome w.made (Did w.pass)) team
          → map (λ m. Some m) made ≡ map (λ w. w.made) team
          → EachDid Did (map (λ w. w.pass) team) made
      by_each [] [] done are = tt
      by_each [] (m ∷ made) done are = absurd (grind arith)
      by_each (w ∷ team) [] done are = absurd (grind arith)
      by_each (w ∷ team) (m ∷ made) done are =
          let P : Option M → Type 0 = λ o. IfSome o (Did w.pass) in
          let D : TeamWorker M → Type 0 = λ x. IfSome x.made (Did x.pass) in
          let first : Some m ≡ w.made = ap (λ (l : List (Option M)). get_or l 0 None) are in (
            subst P (sym first) (All-head D w team done),
            by_each team made (All-tail D w team done) (ap (λ (l : List (Option M)). drop 1 l) are),
          )

  -- what holds of each pass that did something and of what it made holds of all passes and of all that was made
  both_have : (P : Pass → Type 0) (Q : M → Type 0) → ((p : Pass) (m : M) → Did p m → P p × Q m)
      → (passes : List Pass) (made : List M) → EachDid Did passes made → All P passes × All Q made
  both_have P Q gives [] [] did = (All-nil P, All-nil Q)
  both_have P Q gives [] (m ∷ made) did = absurd did
  both_have P Q gives (p ∷ passes) [] did = absurd did
  both_have P Q gives (p ∷ passes) (m ∷ made) did =
      let first = gives p m did.0 in
      let rest = both_have P Q gives passes made did.1 in
      (All-cons P p passes first.0 rest.0, All-cons Q m made first.1 rest.1)

  -- what holds of each pass that did something holds of all passes
  pub passes_have : (P : Pass → Type 0) → ((p : Pass) (m : M) → Did p m → P p)
      → (passes : List Pass) (made : List M) → EachDid Did passes made → All P passes
  passes_have P gives passes made did =
      (both_have P (λ _. Unit {0}) (λ p m d. (gives p m d, tt)) passes made did).0

  -- pieces of what was made are the pieces of the passes, where those of each are
  pub same_pieces_made : {X : Type 0} (f : M → List X) (g : Pass → List X)
      → ((p : Pass) (m : M) → Did p m → f m ≡ g p)
      → (passes : List Pass) (made : List M) → EachDid Did passes made
      → flat_map f made ≡ flat_map g passes
  same_pieces_made f g same [] [] did = refl
  same_pieces_made f g same [] (m ∷ made) did = absurd did
  same_pieces_made f g same (p ∷ passes) [] did = absurd did
  same_pieces_made f g same (p ∷ passes) (m ∷ made) did =
      ap (λ l. l ++ flat_map f made) (same p m did.0)
      ∙ ap (λ l. g p ++ l) (same_pieces_made f g same passes made did.1)

  -- what was made is what each pass is to make
  pub made_is : (f : Pass → M) → ((p : Pass) (m : M) → Did p m → m ≡ f p)
      → (passes : List Pass) (made : List M) → EachDid Did passes made → made ≡ map f passes
  made_is f same [] [] did = refl
  made_is f same [] (m ∷ made) did = absurd did
  made_is f same (p ∷ passes) [] did = absurd did
  made_is f same (p ∷ passes) (m ∷ made) did =
      ap (λ x. x ∷ made) (same p m did.0)
      ∙ ap (λ l. f p ∷ l) (made_is f same passes made did.1)
