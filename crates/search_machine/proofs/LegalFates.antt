-- In a legal outcome each leaf has the one fate that the start and the lines leave it.
use Rattle.std.proofs.Common.{Some, ap, arith, refl, ℕ, ⊎_elim, ◌<◌, ◌∙◌, ◌≡◌, ◌≢◌}
use Rattle.std.proofs.lemmas.Bool.{cases_eq}
use Rattle.std.specs.Prelude.{slice_get}
use Rattle.search_machine.specs.declared.outcome.Fate.{Fate}
use Rattle.search_machine.specs.declared.outcome.Fate.TheVariants.{Bound as BoundFate, Late as LateFate, Queue as QueueFate, Start as StartFate}
use Rattle.search_machine.specs.declared.outcome.Outcome.{Outcome}
use Rattle.search_machine.specs.declared.outcome.QueueLine.{QueueLine}
use Rattle.search_machine.specs.Ground.{Ground}
use Rattle.search_machine.specs.Legal.{FateRight, InLine, Legal, in_lines}
use Rattle.search_machine.specs.Basics.{entered}
use Rattle.search_machine.proofs.Ending.{entered_some}
use Rattle.search_machine.proofs.Places.{get_some, total_at, total_two}

module _ (g : Ground) (o : Outcome) (legal : Legal g o) where
  -- a leaf that stands in a line is not the start leaf
  in_line_other : (m l : ℕ) → InLine o m l → g.start ≢ Some l
  in_line_other m l h start =
      let r = entered_some l h.line.taken h.there in
      (legal.entries m h.line h.at r.0 r.1).other (start ∙ ap (λ (n : ℕ). Some n) r.2)

  -- a leaf that stands in a line stands in the lines
  in_line_some : (m l : ℕ) → InLine o m l → in_lines l o.lines ≡ 0 → ⊥
  in_line_some m l h none =
      let part = total_at (λ (line : QueueLine). entered l line.taken) o.lines m h.line h.at in
      let here = h.there in
      omega arith

  -- it stands in no other
  same_line : (m n l : ℕ) → InLine o m l → InLine o n l → n ≡ m
  same_line m n l h k = ⊎_elim
      (λ (same : n ≡ m). same)
      (λ (ne : n ≡ m → ⊥).
      let two = total_two
      (λ (line : QueueLine). entered l line.taken) o.lines n m k.line h.line k.at h.at ne
      k.there h.there in
      let most = legal.once l in
      absurd (omega arith))
      (cases_eq n m)

  -- a fate that is right for the start leaf is Start
  start_right : (l : ℕ) (f : Fate) → FateRight g o l f → g.start ≡ Some l → f ≡ StartFate
  start_right l StartFate right start = refl
  start_right l (QueueFate m) right start = absurd (in_line_other m l right.0 start)
  start_right l (LateFate i) right start = absurd (right.0.0 start)
  start_right l (BoundFate b) right start = absurd (right.0.0 start)

  -- a fate that is right for a leaf in line m is Queue m
  queue_right : (m l : ℕ) (f : Fate) → FateRight g o l f → InLine o m l → f ≡ QueueFate m
  queue_right m l StartFate right there = absurd (in_line_other m l there right)
  queue_right m l (QueueFate n) right there = ap QueueFate (same_line m n l there right.0)
  queue_right m l (LateFate i) right there = absurd (in_line_some m l there right.0.1)
  queue_right m l (BoundFate b) right there = absurd (in_line_some m l there right.0.1)

  -- the start leaf has the fate Start
  pub start_fate : (l : ℕ) → l < g.leaves → g.start ≡ Some l → slice_get o.fates l ≡ Some StartFate
  start_fate l low start =
      let count = legal.fate_count in
      let f = get_some o.fates l (omega arith) in
      f.1 ∙ ap (λ (x : Fate). Some x) (start_right l f.0 (legal.fates l f.0 f.1) start)

  -- a leaf in line m has the fate Queue m
  pub queue_fate : (m l : ℕ) → l < g.leaves → InLine o m l
      → slice_get o.fates l ≡ Some (QueueFate m)
  queue_fate m l low there =
      let count = legal.fate_count in
      let f = get_some o.fates l (omega arith) in
      f.1 ∙ ap (λ (x : Fate). Some x) (queue_right m l f.0 (legal.fates l f.0 f.1) there)
