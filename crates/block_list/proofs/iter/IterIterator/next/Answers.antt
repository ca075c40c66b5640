-- The walk stands at an item, where there is one (`standing`): it is the first of what is left.
use Rattle.std.proofs.Common.{◌≡◌, ◌+◌, ◌<◌, ◌∙◌, Option, Some, List, subst, sym, ap, arith}
use Rattle.std.proofs.lemmas.Option.{none-some}
use Rattle.block_list.specs.declared.block.Block.{Block}
use Rattle.block_list.specs.Blocks.{flat, has_some, Tells, IsWithin}
use Rattle.block_list.specs.declared.iter.Iter.TheInside.{Inside}
use Rattle.block_list.proofs.Rows.{Entered, Entered-inside, Entered-next, Entered-item}
use Rattle.block_list.proofs.iter.IterIterator.next.Given as given
use Rattle.block_list.proofs.iter.IterIterator.next.Goals as goal
use Rattle.block_list.proofs.iter.IterIterator.next.Goals.{then-self+else-not-self, else-self, In-Some, In_default}

-- a walk that stands at an item, and knows whether blocks follow
abbrev Stands : {T : Type 0} → List T → Inside T → Type 0
Stands left s =
    Entered left s.items s.at s.used (flat s.walk.items) × (s.more ≡ has_some s.walk.items) × Tells s.walk.items

-- so it does here
standing : (g : given.Over) (c : In-Some g) → Stands c.args.self.now c.if-self.self-inside
standing g c =
    let was = c.self.inside in
    let P : Inside g.row.T.Denot → Type 0 = λ s. Stands c.args.self.now s in
    elim c.if-self.branch [
      | then-self+else-not-self w ↦
          let told = subst (λ (bs : List (Block g.row.T.Denot)). Tells bs) w.step-block.ensures c.self.invariant.2 in
          subst P (sym w.self-inside-is) (
            Entered-next c.args.self.now was.items was.at was.used was.walk.items _ _ w.if-self.true (sym c.self.view_is) w.step-block.ensures,
            told.0,
            told.1,
          )
      | else-self w ↦ subst P (sym w.self-inside-is) (
        Entered-inside c.args.self.now was.items was.at was.used (flat was.walk.items) c.self.invariant.0 w.if-self.false (sym c.self.view_is),
        c.self.invariant.1,
        c.self.invariant.2,
      )
    ]

-- and the item lies within the block
within : (g : given.Over) (c : In-Some g)
    → (c.if-self.self-inside.at < c.if-self.self-inside.used) × IsWithin (Some c.in-Some.items) c.if-self.self-inside.at c.if-self.self-inside.used
within g c =
    let entered = (standing g c).0 in
    let now = c.if-self.self-inside in
    (entered.more, subst (λ (o : Option (List g.row.T.Denot)). IsWithin o now.at now.used) c.in-Some.is entered.within)

pub bounds-items-self-inside : goal.bounds-items-self-inside
bounds-items-self-inside g c =
    let is = within g (goal.at.bounds-items-self-inside g c).In-Some in
    omega (arith, is.0, is.1.1, is.1.2)

pub overflow_add-self : goal.overflow_add-self
overflow_add-self g c =
    let is = within g (goal.at.overflow_add-self g c).In-Some in
    omega (arith, is.0, is.1.1, is.1.2)

pub invariant_of-self-2 : goal.invariant_of-self-2
invariant_of-self-2 g c =
    let here = (goal.at.invariant_of-self-2 g c).In-Some in
    let is = within g here in
    let stands = standing g here in
    let now = c.if-self.self-inside in (
      subst (λ (o : Option (List g.row.T.Denot)). IsWithin o (now.at + 1) now.used) (sym c.in-Some.is) (omega (arith, is.0), is.1.1, is.1.2),
      stands.1,
      stands.2,
    )

pub returns-clause-steps : goal.returns-clause-steps
returns-clause-steps g c =
    let now = c.if-self.self-inside in
    Entered-item _ now.items now.at now.used (flat now.walk.items) c.in-Some.items _
    (standing g (goal.at.returns-clause-steps g c).In-Some).0 c.in-Some.is

-- behind a test that did not say so, some block is there
never : (g : given.Over) (c : In_default g) → ⊥
never g c =
    let was = c.self.inside in
    elim c.if-self.branch [
      | then-self+else-not-self w ↦ none-some _ (sym c.in_default.is ∙ ap (λ (s : Inside g.row.T.Denot). s.items) w.self-inside-is)
      | else-self w ↦ w.if-self.false (subst (λ (o : Option (List g.row.T.Denot)). IsWithin o was.at was.used)
          (ap (λ (s : Inside g.row.T.Denot). s.items) (sym w.self-inside-is) ∙ c.in_default.is) c.self.invariant.0)
    ]

pub invariant_of-self : goal.invariant_of-self
invariant_of-self g c = absurd (never g c)

pub returns-in_default-clause-steps : goal.returns-in_default-clause-steps
returns-in_default-clause-steps g c = absurd (never g c)

pub returns-in_default-clause-goes : goal.returns-in_default-clause-goes
returns-in_default-clause-goes g c = absurd (never g c)
