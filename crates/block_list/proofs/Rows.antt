-- Rows of blocks: what a write in the last block changes, and what stands behind a row that another is linked to.
use Rattle.std.proofs.Common.{◌≡◌, ℕ, zero, suc, ◌+◌, ◌<◌, ◌≤◌, List, [], ◌∷◌, ◌++◌, length, take, drop, Option, Some, None, true, false, ap, sym, ◌∙◌, refl, arith, get_or, get_or-take, append_assoc, subst}
use Rattle.std.proofs.Math.ListN.{set, drop_of_length-le}
use Rattle.std.proofs.Math.Seq.{drop-cons}
use Rattle.std.proofs.lemmas.List.{length-take}
use Rattle.block_list.specs.declared.block.Block.{Block}
use Rattle.block_list.specs.Blocks.{block_items, flat, has_some, Tells, left_in, IsWithin}

module _ {T : Type 0} where
  -- nothing behind changes nothing
  pub append-none : (xs : List T) → xs ++ [] ≡ xs
  append-none [] = refl
  append-none (x ∷ xs) = ap (λ ys. x ∷ ys) (append-none xs)

  -- the items of two rows
  pub flat-append : (bs cs : List (Block T)) → flat (bs ++ cs) ≡ flat bs ++ flat cs
  flat-append [] cs = refl
  flat-append (b ∷ bs) cs =
      ap (λ xs. block_items b ++ xs) (flat-append bs cs) ∙ sym (append_assoc (block_items b) (flat bs) (flat cs))

  -- a block in a block's place leaves as many
  has_some-set : (bs : List (Block T)) (i : ℕ) (b : Block T) → has_some (set bs i b) ≡ has_some bs
  has_some-set [] i b = refl
  has_some-set (x ∷ bs) zero b = refl
  has_some-set (x ∷ bs) (suc i) b = refl

  -- a row with others behind has a block
  has_some-append : (bs cs : List (Block T)) → has_some bs ≡ true → has_some (bs ++ cs) ≡ true
  has_some-append [] cs e = cc
  has_some-append (b ∷ bs) cs e = refl

  -- a row that is not empty has a block
  pub has_some-positive : (bs : List (Block T)) → 0 < length bs → has_some bs ≡ true
  has_some-positive [] e = absurd (omega arith)
  has_some-positive (b ∷ bs) e = refl

  -- what is written behind the items of the last block stands behind all items
  pub flat-set_last : (bs : List (Block T)) (i : ℕ) (b old : Block T) (xs : List T) → suc i ≡ length bs
      → old ≡ get_or bs i old
      → block_items b ≡ block_items old ++ xs → flat (set bs i b) ≡ flat bs ++ xs
  flat-set_last [] i b old xs last is_old written = absurd (omega arith)
  flat-set_last (x ∷ []) zero b old xs last is_old written =
      append-none (block_items b) ∙ written ∙ ap (λ c. block_items c ++ xs) is_old
      ∙ ap (λ ys. ys ++ xs) (sym (append-none (block_items x)))
  flat-set_last (x ∷ []) (suc i) b old xs last is_old written = absurd (omega arith)
  flat-set_last (x ∷ y ∷ bs) zero b old xs last is_old written = absurd (omega arith)
  flat-set_last (x ∷ y ∷ bs) (suc i) b old xs last is_old written =
      ap (λ ys. block_items x ++ ys) (flat-set_last (y ∷ bs) i b old xs (omega arith) is_old written)
      ∙ sym (append_assoc (block_items x) (flat (y ∷ bs)) xs)

  -- a last block with the same items changes none
  pub flat-set_same : (bs : List (Block T)) (i : ℕ) (b old : Block T) → suc i ≡ length bs → old ≡ get_or bs i old
      → block_items b ≡ block_items old → flat (set bs i b) ≡ flat bs
  flat-set_same bs i b old last is_old same =
      flat-set_last bs i b old [] last is_old (same ∙ sym (append-none (block_items old))) ∙ append-none (flat bs)

  -- the items of a row whose last block was changed but for its items, and of the row behind it
  pub flat-link : (bs : List (Block T)) (i : ℕ) (b old : Block T) (cs : List (Block T)) → suc i ≡ length bs
      → old ≡ get_or bs i old
      → block_items b ≡ block_items old → flat (set bs i b ++ cs) ≡ flat bs ++ flat cs
  flat-link bs i b old cs last is_old same =
      flat-append (set bs i b) cs ∙ ap (λ xs. xs ++ flat cs) (flat-set_same bs i b old last is_old same)

  -- no block, no item
  pub flat-none : (bs : List (Block T)) → has_some bs ≡ false → flat bs ≡ []
  flat-none [] e = refl
  flat-none (b ∷ bs) e = cc

  -- a block that was walked through has nothing left
  pub left_in-through : (items : Option (List T)) (at used : ℕ) → at ≡ used → left_in items at used ≡ []
  left_in-through None at used same = refl
  left_in-through (Some items) at used same =
      drop_of_length-le (take used items) (omega (arith, length-take used items))

  -- the next item, and what is left behind it
  pub left_in-next : (items : List T) (at used : ℕ) (d : T) → at < used → used ≤ length items
      → left_in (Some items) at used ≡ get_or items at d ∷ left_in (Some items) (at + 1) used
  left_in-next items at used d more within =
      let here : at < length (take used items) = omega (arith, length-take used items) in
      let next : at + 1 ≡ suc at = omega arith in
      drop-cons (take used items) at d here
      ∙ ap (λ x. x ∷ drop (suc at) (take used items)) (get_or-take used items at d more)
      ∙ ap (λ n. get_or items at d ∷ drop n (take used items)) (sym next)

  -- a last block that still says that none follows
  pub Tells-set_last : (bs : List (Block T)) (i : ℕ) (b old : Block T) → suc i ≡ length bs → old ≡ get_or bs i old
      → b.more ≡ old.more → Tells bs → Tells (set bs i b)
  Tells-set_last [] i b old last is_old same tells = tt
  Tells-set_last (x ∷ []) zero b old last is_old same tells = (same ∙ ap (λ c. c.more) is_old ∙ tells.0, tt)
  Tells-set_last (x ∷ []) (suc i) b old last is_old same tells = absurd (omega arith)
  Tells-set_last (x ∷ y ∷ bs) zero b old last is_old same tells = absurd (omega arith)
  Tells-set_last (x ∷ y ∷ bs) (suc i) b old last is_old same tells =
      (tells.0 ∙ sym (has_some-set (y ∷ bs) i b), Tells-set_last (y ∷ bs) i b old (omega arith) is_old same tells.1)

  -- a last block that says that another follows, before others
  pub Tells-link : (bs : List (Block T)) (i : ℕ) (b : Block T) (cs : List (Block T)) → suc i ≡ length bs
      → b.more ≡ true
      → 0 < length cs → Tells bs → Tells cs → Tells (set bs i b ++ cs)
  Tells-link [] i b cs last more some tells others = absurd (omega arith)
  Tells-link (x ∷ []) zero b cs last more some tells others = (more ∙ sym (has_some-positive cs some), others)
  Tells-link (x ∷ []) (suc i) b cs last more some tells others = absurd (omega arith)
  Tells-link (x ∷ y ∷ bs) zero b cs last more some tells others = absurd (omega arith)
  Tells-link (x ∷ y ∷ bs) (suc i) b cs last more some tells others = (
    tells.0 ∙ sym (has_some-append (set (y ∷ bs) i b) cs (has_some-set (y ∷ bs) i b)),
    Tells-link (y ∷ bs) i b cs (omega arith) more some tells.1 others,
  )

-- a walk that stands at an item: what is left is the rest of its block, and what is behind
pub record Entered {T : Type 0} (left : List T) (items : Option (List T)) (at used : ℕ)
    (behind : List T) : Type 0 where
  pub more : at < used
  pub within : IsWithin items at used
  pub is_left : left ≡ left_in items at used ++ behind

module _ {T : Type 0} where
  -- a walk that isn't through its block stands at an item
  pub Entered-inside : (left : List T) (items : Option (List T)) (at used : ℕ) (behind : List T)
      → IsWithin items at used
      → (at ≡ used → ⊥) → left ≡ left_in items at used ++ behind → Entered left items at used behind
  Entered-inside left None at used behind within inside is_left = absurd (inside within)
  Entered-inside left (Some items) at used behind within inside is_left =
      record { more = omega (arith, within.0, inside); within = within; is_left = is_left }

  -- a walk that is through its block stands at the first item of the next
  pub Entered-next : (left : List T) (items : Option (List T)) (at used : ℕ)
      (behind : List (Block T)) (b : Block T) (rest : List (Block T))
      → at ≡ used → left ≡ left_in items at used ++ flat behind → behind ≡ b ∷ rest
      → Entered left (Some b.items) 0 b.used (flat rest)
  Entered-next left items at used behind b rest through is_left next = record {
    more = b.some;
    within = (omega arith, b.within, b.sized);
    is_left = is_left ∙ ap (λ xs. xs ++ flat behind) (left_in-through items at used through) ∙ ap flat next;
  }

  -- it is the first of what is left
  pub Entered-item : (left : List T) (items : Option (List T)) (at used : ℕ) (behind xs : List T) (d : T)
      → Entered left items at used behind
      → items ≡ Some xs → left ≡ get_or xs at d ∷ (left_in items (at + 1) used ++ behind)
  Entered-item left items at used behind xs d entered is =
      let P : Option (List T) → Type 0 = λ o. IsWithin o at used in
      let within = subst P is entered.within in
      entered.is_left
      ∙ ap (λ o. left_in o at used ++ behind) is
      ∙ ap (λ ys. ys ++ behind) (left_in-next xs at used d entered.more within.1)
      ∙ ap (λ o. get_or xs at d ∷ (left_in o (at + 1) used ++ behind)) (sym is)
