-- Rows that have no entry of an id stay so while `clap` uses arguments of other ids.
use Rattle.std.proofs.Common.{◌≡◌, ◌||◌, ◌+◌, ◌++◌, ℕ, Bool, true, false}
use Rattle.std.proofs.Common.{List, [], ◌∷◌, Option, Some, None, refl, true≢false, min}
use Rattle.std.specs.Prelude.{find, fold, if◌then◌else◌}
use Rattle.std.specs.List.{list_any}
use Rattle.std.specs.Str.{bytes_eq}
use Rattle.clap.specs.Walk.{Row, Rule, Text, action_of, at_row, count_of, counted, default_rows}
use Rattle.clap.specs.Walk.{first_of, has_row, more_values, new_count, reading_by, used, used_as}
use Rattle.clap.specs.Walk.{values_or_missing, with_count, with_default, with_values, without}
use Rattle.clap.specs.declared.builder.action.ArgAction.{ArgAction}
use Rattle.clap.specs.declared.builder.action.ArgAction.TheVariants.{Set, Append, SetTrue}
use Rattle.clap.specs.declared.builder.action.ArgAction.TheVariants.{SetFalse, Count}
use Rattle.clap.specs.declared.builder.value_parser.Reading.{Reading}
use Rattle.clap.specs.declared.parser.matches.ValueSource.{ValueSource}
use Rattle.clap.specs.declared.parser.matches.ValueSource.TheVariants.{CommandLine, DefaultValue}

-- neither of two tests holds where their `or` does not
pub neither : (a b : Bool) → (a || b) ≡ false → (a ≡ false) × (b ≡ false)
neither true b e = absurd (true≢false e)
neither false b e = (refl, e)

-- what holds of both branches holds of the choice
pub either : {X : Type 0} (P : X → Type 0) (b : Bool) (x y : X) → P x → P y → P (if b then x else y)
either P true x y p q = p
either P false x y p q = q

module _ (id : Text) where
  -- the rows have no entry of the id
  abbrev pub Lacks : List Row → Type 0
  Lacks rows = has_row id rows ≡ false

  -- rows joined lack what both lack
  lacks_both : (xs ys : List Row) → Lacks xs → Lacks ys → Lacks (xs ++ ys)
  lacks_both [] ys p q = q
  lacks_both (x ∷ xs) ys p q =
      let parts = neither (bytes_eq x.id id) (has_row id xs) p in
      rw parts.0 (lacks_both xs ys parts.1 q)

  -- a change of the row of another id leaves the id lacking
  at_row_lacks : (key : Text) (change : Row → List Row) (missing rows : List Row)
      → ((r : Row) → bytes_eq r.id id ≡ false → Lacks (change r)) → Lacks missing → Lacks rows
      → Lacks (at_row key change missing rows)
  at_row_lacks key change missing [] keeps m p = m
  at_row_lacks key change missing (r ∷ rs) keeps m p =
      let parts = neither (bytes_eq r.id id) (has_row id rs) p in
      let rest : Lacks (at_row key change missing rs) =
      at_row_lacks key change missing rs keeps m parts.1 in
      either Lacks (bytes_eq r.id key) (change r ++ rs) (r ∷ at_row key change missing rs)
      (lacks_both (change r) rs (keeps r parts.0) parts.1) (rw parts.0 rest)

  -- values for another id leave it lacking
  values_lacks : (key : Text) (how : Reading) (s : ValueSource) (values : List Text)
      (rows : List Row)
      → bytes_eq key id ≡ false → Lacks rows → Lacks (with_values key how s values rows)
  values_lacks key how s values rows other p =
      at_row_lacks key (more_values s values) _ rows (λ r e. rw e refl) (rw other refl) p

  -- a count for another id leaves it lacking
  count_lacks : (key : Text) (how : Reading) (s : ValueSource) (n : ℕ) (rows : List Row)
      → bytes_eq key id ≡ false → Lacks rows → Lacks (with_count key how s n rows)
  count_lacks key how s n rows other p =
      at_row_lacks key (new_count s n) _ rows (λ r e. rw e refl) (rw other refl) p

  -- rows taken out leave it lacking
  without_lacks : (key : Text) (rows : List Row) → Lacks rows → Lacks (without key rows)
  without_lacks key rows p = at_row_lacks key (λ _. []) [] rows (λ r e. refl) refl p

  -- a count that grows for another id leaves it lacking
  counted_lacks : (key : Text) (how : Reading) (values : List Text) (rows : List Row)
      → bytes_eq key id ≡ false → Lacks rows → Lacks (counted key how values rows)
  counted_lacks key how [] rows other p =
      count_lacks key how CommandLine (min (count_of key rows + 1) 255) (without key rows) other
      (without_lacks key rows p)
  counted_lacks key how (v ∷ vs) rows other p =
      values_lacks key how CommandLine (v ∷ vs) (without key rows) other (without_lacks key rows p)

  -- an argument of another id that is used in any way leaves it lacking
  used_as_lacks : (x : ArgAction) (key : Text) (how : Reading) (values : List Text)
      (rows : List Row)
      → bytes_eq key id ≡ false → Lacks rows → Lacks (used_as x key how values rows)
  used_as_lacks Set key how values rows other p =
      values_lacks key how CommandLine values (without key rows) other (without_lacks key rows p)
  used_as_lacks SetTrue key how values rows other p =
      values_lacks key how CommandLine values (without key rows) other (without_lacks key rows p)
  used_as_lacks SetFalse key how values rows other p =
      values_lacks key how CommandLine values (without key rows) other (without_lacks key rows p)
  used_as_lacks Append key how values rows other p =
      values_lacks key how CommandLine values rows other p
  used_as_lacks Count key how values rows other p = counted_lacks key how values rows other p
  used_as_lacks _ key how values rows other p = p

  -- an argument of another id that is used leaves it lacking
  pub used_lacks : (a : Rule) (values : List Text) (rows : List Row) → bytes_eq a.id id ≡ false
      → Lacks rows
      → Lacks (used a values rows)
  used_lacks a values rows other p =
      used_as_lacks (action_of a) a.id (reading_by a) (values_or_missing a values) rows other p

  -- nothing is found of an id that is lacking
  pub first_lacks : (rows : List Row) → Lacks rows → first_of id rows ≡ None
  first_lacks [] p = refl
  first_lacks (r ∷ rs) p =
      let parts = neither (bytes_eq r.id id) (has_row id rs) p in
      rw parts.0 (first_lacks rs parts.1)

  -- the rule that was found, if any, has another id
  abbrev pub Other : Option Rule → Type 0
  Other None = Unit {0}
  Other (Some a) = bytes_eq a.id id ≡ false

  -- a rule that is found has another id where all have
  pub find_other : (q : Rule → Bool) (rules : List Rule)
      → list_any (λ a. bytes_eq a.id id) rules ≡ false → Other (find q rules)
  find_other q [] e = tt
  find_other q (a ∷ rest) e =
      let parts = neither (bytes_eq a.id id) (list_any (λ b. bytes_eq b.id id) rest) e in
      either Other (q a) (Some a) (find q rest) parts.0 (find_other q rest parts.1)

  -- a default of another id leaves it lacking
  default_lacks : (a : Rule) (values : List Text) (rows : List Row) → bytes_eq a.id id ≡ false
      → Lacks rows
      → Lacks (default_rows a.id (reading_by a) values rows)
  default_lacks a [] rows other p = p
  default_lacks a (v ∷ vs) rows other p =
      values_lacks a.id (reading_by a) DefaultValue (v ∷ vs) rows other p

  -- the defaults of arguments of other ids leave it lacking
  pub defaults_lack : (rules : List Rule) (rows : List Row)
      → list_any (λ a. bytes_eq a.id id) rules ≡ false → Lacks rows
      → Lacks (fold with_default rows rules)
  defaults_lack [] rows e p = p
  defaults_lack (a ∷ rest) rows e p =
      let parts = neither (bytes_eq a.id id) (list_any (λ b. bytes_eq b.id id) rest) e in
      defaults_lack rest (with_default rows a) parts.1
      (either Lacks (has_row a.id rows) rows (default_rows a.id (reading_by a) a.defaults rows) p
      (default_lacks a a.defaults rows parts.0 p))
