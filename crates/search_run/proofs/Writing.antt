-- Writing piece by piece: what was written are the pieces so far, and nothing else was done.
use Rattle.std.proofs.Common.{◌≡◌, ℕ, ◌+◌, ◌≤◌, ◌<◌, ⊎_elim, Bool, true, false, subst, List, [], ◌++◌, length, take, Option, ap, sym, ◌∙◌, arith, length-append}
use Rattle.std.specs.Io.KnownBytes.{append_known}
use Rattle.std.proofs.Math.Seq.{take-append-add}
use Rattle.std.proofs.lemmas.List.{take_all, take-append-le}
use Rattle.std.proofs.lemmas.Bool.{cases_lt}
use Rattle.outside.specs.Sink.{AppendsPrefix}
use Rattle.outside.specs.declared.sink.Sink.{Ghosts as SinkOf}
use Rattle.run_traffic.proofs.Appending.{append_known-append, append_known-nil}

-- this was written since the first state, and no more was taken of what is sure than that
pub record Going {S : Type 0} (sink : SinkOf S) (first now : S) (done : List ℕ) : Type 0 where
  pub appended : sink.written now ≡ append_known (sink.written first) done
  pub counts : sink.faults first ≤ sink.faults now
  pub spent : sink.sure first ≤ sink.sure now + length done

-- at first nothing was written
pub Going-start : {S : Type 0} (sink : SinkOf S) (first : S) → Going sink first first []
Going-start sink first = record {
  appended = append_known-nil (sink.written first);
  counts = omega arith;
  spent = omega arith;
}

-- one more piece was written whole
pub Going-next : {S : Type 0} {sink : SinkOf S} {first now next : S} {done : List ℕ} (piece : List ℕ)
    → Going sink first now done
    → sink.written next ≡ append_known (sink.written now) piece → sink.faults now ≤ sink.faults next
    → sink.sure now ≤ sink.sure next + length piece → Going sink first next (done ++ piece)
Going-next {sink = sink} {first = first} {done = done} piece before wrote counted spent = record {
  appended = wrote ∙ ap (λ known. append_known known piece) before.appended
      ∙ append_known-append (sink.written first) done piece;
  counts = omega (arith, before.counts);
  spent = omega (arith, before.spent, length-append done piece);
}

-- the pieces were written, and so a prefix of them
pub Going-prefix : {S : Type 0} {sink : SinkOf S} {first now : S} {done : List ℕ} → Going sink first now done
    → AppendsPrefix (sink.written first) done (sink.written now)
Going-prefix {sink = sink} {first = first} {done = done} before = (
  length done,
  omega arith,
  before.appended ∙ ap (append_known (sink.written first)) (sym (take_all (length done) done (omega arith))),
)

-- where the next piece was written in part, a prefix of all pieces with it was written
pub Going-stopped : {S : Type 0} {sink : SinkOf S} {first now next : S} {done : List ℕ} (piece : List ℕ)
    → Going sink first now done → AppendsPrefix (sink.written now) piece (sink.written next)
    → AppendsPrefix (sink.written first) (done ++ piece) (sink.written next)
Going-stopped {sink = sink} {first = first} {done = done} piece before part = (
  length done + part.0,
  omega (arith, part.1, length-append done piece),
  part.2 ∙ ap (λ known. append_known known (take part.0 piece)) before.appended
      ∙ append_known-append (sink.written first) done (take part.0 piece)
      ∙ ap (append_known (sink.written first)) (sym (take-append-add done piece part.0)),
)

-- where the next piece is not sure to be taken, neither are all pieces with it
pub Going-short : {S : Type 0} {sink : SinkOf S} {first now : S} {done : List ℕ} (piece : List ℕ)
    → Going sink first now done → (length piece ≤ sink.sure now → ⊥) → sink.sure first < length (done ++ piece)
Going-short {sink = sink} {first = first} {now = now} {done = done} piece before short =
    ⊎_elim
    (λ (less : sink.sure now < length piece). omega (arith, before.spent, less, length-append done piece))
    (λ (enough : length piece ≤ sink.sure now). absurd (short enough))
    (cases_lt (sink.sure now) (length piece))

-- false is not true
pub false_is_not_true : false ≡ true → ⊥
false_is_not_true e = subst IsFalse e tt
  where
    IsFalse : Bool → Type 0
    IsFalse false = Unit {0}
    IsFalse true = ⊥

-- a prefix of a text is a prefix of a longer one
pub prefix_longer : (before now : Option (List ℕ)) (text rest : List ℕ) → AppendsPrefix before text now
    → AppendsPrefix before (text ++ rest) now
prefix_longer before now text rest part = (
  part.0,
  omega (arith, part.1, length-append text rest),
  part.2 ∙ ap (append_known before) (sym (take-append-le part.0 text rest part.1)),
)
