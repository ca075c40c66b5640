-- Work that goes by a plan did so (`Serves`) where a step refused (`refused_serves`), where memory ran out before anything was written
-- (`memory_serves`), where its pieces were not all written (`stopped_serves`) and where a text was (`done_serves`).
use Rattle.std.proofs.Common.{◌≡◌, ◌≢◌, ℕ, List, Bool, Option, None, inl, ap, refl, subst, sym, ◌∙◌}
use Rattle.std.specs.Prelude.{ℤ, Result, Ok, Err, IsErrAnd}
use Rattle.std.specs.Io.KnownBytes.{append_known}
use Rattle.outside.specs.declared.files.Files.{Ghosts as FilesOf}
use Rattle.outside.specs.declared.sink.Sink.{Ghosts as SinkOf}
use Rattle.command_words.specs.declared.command.Command.{Command}
use Rattle.command_words.specs.declared.options.Options.{Options}
use Rattle.search_run.specs.Commands.{nearest_by, nearest_plan, pieces_by, plan_of}
use Rattle.search_run.specs.Ends.{Follows, ended}
use Rattle.search_run.specs.Plans.{Plan, Refuses, Writes}
use Rattle.search_run.specs.Serves.{Serves}
use Rattle.search_run.specs.Stops.{Stops}
use Rattle.search_run.specs.Texts.{IsTextOf}
use Rattle.search_run.specs.Traffic.{read_from, wrote_to}
use Rattle.search_run.proofs.Stopped.{refused_ends, stop_reads_nothing, stopped_ends}
use Rattle.search_run.specs.declared.status.Status.{Status}
use Rattle.search_run.specs.declared.status.Status.TheVariants.{Memory, ReadFault}
use Rattle.search_run.specs.declared.status.Which.{Which}

-- this status as the error of a call
abbrev pub err_of : (X : Type 0) → Status → Result X Status
err_of X status = Err status

-- a call that gave this status tells of no failed read
abbrev pub ReadsWell : (X : Type 0) → Status → Type 0
ReadsWell X status = (w : Which) → err_of X status ≢ err_of X (ReadFault w)

-- the error that was given, or this status where there is none
error_in : Status → Result (Unit {0}) Status → Status
error_in other (Ok u) = other
error_in other (Err s) = s

-- what was given is the status
given_is : (given : Result (Unit {0}) Status) (status told : Status) → IsErrAnd given (λ s. s ≡ status)
    → given ≡ err_of (Unit {0}) told → status ≡ told
unfolding error_in
given_is (Ok u) status told is gave = absurd is
given_is (Err s) status told is gave = sym is ∙ ap (error_in status) gave

-- the status of a step that refused, with nothing written
pub refused_serves : {F S : Type 0} (X : Type 0) (files : FilesOf F) (sink : SinkOf S) (plan : Plan) (old new : F) (out : S)
    (status : Status) (given : Result (Unit {0}) Status) → IsErrAnd given (λ s. s ≡ status)
    → Refuses (read_from files old new) plan status → files.held new ≡ files.held old
    → (files.reliable old → ReadsWell X status) → Serves files sink plan old new out out given
refused_serves X files sink plan old new out status given is refused kept reliable = record {
  answers = refused_ends (read_from files old new) plan (wrote_to sink out out) status given is refused refl;
  kept = kept;
  reliable = λ sound w reads. reliable sound w (ap (err_of X) (given_is given status (ReadFault w) is reads));
}

-- memory ran out, with nothing written
pub memory_serves : {F S : Type 0} (files : FilesOf F) (sink : SinkOf S) (plan : Plan) (old new : F) (out : S)
    (given : Result (Unit {0}) Status) → IsErrAnd given (λ s. s ≡ Memory) → files.held new ≡ files.held old
    → Serves files sink plan old new out out given
memory_serves files sink plan old new out given is kept = record {
  answers = by_given given is;
  kept = kept;
  reliable = λ sound w reads. no_read w (given_is given Memory (ReadFault w) is reads);
}
  where
    by_given : (given : Result (Unit {0}) Status) → IsErrAnd given (λ s. s ≡ Memory)
        → Follows plan (read_from files old new) (wrote_to sink out out) (ended given)
    by_given (Ok u) is = absurd is
    by_given (Err s) is = subst (Follows plan (read_from files old new) (wrote_to sink out out)) (sym is) (inl refl)

    no_read : (w : Which) → Memory ≡ ReadFault w → ⊥
    no_read w is = cc

-- pieces that were not all written, where each query has a piece
pub stopped_serves : {F S : Type 0} (files : FilesOf F) (sink : SinkOf S) (plan : Plan) (old new : F) (before now : S)
    (P : ℕ → List ℤ → List ℕ → Type 0) → ((i : ℕ) (q : List ℤ) → (piece : List ℕ) × P i q piece)
    → (qs : List (List ℤ)) → ((text : List ℕ) → IsTextOf P qs text → Writes (files.held old) plan text)
    → (stop : Status) (given : Result (Unit {0}) Status) → IsErrAnd given (λ s. s ≡ stop)
    → Stops P qs (wrote_to sink before now) stop → files.held new ≡ files.held old
    → Serves files sink plan old new before now given
stopped_serves files sink plan old new before now P each qs right stop given is stopped kept = record {
  answers = stopped_ends P each qs (read_from files old new) plan (wrote_to sink before now) right stop given is stopped;
  kept = kept;
  reliable = λ sound w. stop_reads_nothing P qs (wrote_to sink before now) given stop w stopped is;
}

-- work that gave no status
abbrev pub given_done : Result (Unit {0}) Status
given_done = Ok tt

-- a right text that was written whole
pub done_serves : {F S : Type 0} (files : FilesOf F) (sink : SinkOf S) (plan : Plan) (old new : F) (before now : S)
    (text : List ℕ) → Writes (files.held old) plan text → sink.written now ≡ append_known (sink.written before) text
    → files.held new ≡ files.held old → Serves files sink plan old new before now given_done
done_serves files sink plan old new before now text right wrote kept = record {
  answers = (text, right, wrote);
  kept = kept;
  reliable = λ sound w reads. no_error w reads;
}
  where
    no_error : (w : Which) → given_done ≡ err_of (Unit {0}) (ReadFault w) → ⊥
    no_error w is = cc

-- what was done for a command was done for the same by another name
pub serves_as : {F S : Type 0} {files : FilesOf F} {sink : SinkOf S} {old new : F} {before now : S}
    {given : Result (Unit {0}) Status} (command same : Command) → command ≡ same
    → Serves files sink (plan_of same) old new before now given → Serves files sink (plan_of command) old new before now given
serves_as {files = files} {sink = sink} {old = old} {new = new} {before = before} {now = now} {given = given} command same is =
    subst (λ c. Serves files sink (plan_of c) old new before now given) (sym is)

-- a search over the index that its options name, or over none, is the one that they ask for
pub nearest_serves : {F S : Type 0} {files : FilesOf F} {sink : SinkOf S} {old new : F} {before now : S}
    {given : Result (Unit {0}) Status} (series queries : List ℕ) (o : Options) (index : Option (List ℕ)) → o.index ≡ index
    → Serves files sink (nearest_by index series queries o) old new before now given
    → Serves files sink (nearest_plan series queries o) old new before now given
nearest_serves {files = files} {sink = sink} {old = old} {new = new} {before = before} {now = now} {given = given}
    series queries o index is =
    subst (λ i. Serves files sink (nearest_by i series queries o) old new before now given) (sym is)

-- and over none, one with certificates or without is the one that they ask for
pub pieces_serves : {F S : Type 0} {files : FilesOf F} {sink : SinkOf S} {old new : F} {before now : S}
    {given : Result (Unit {0}) Status} (series queries : List ℕ) (o : Options) (flag : Bool) → o.certificate ≡ flag
    → Serves files sink (pieces_by flag series queries o) old new before now given
    → Serves files sink (nearest_by None series queries o) old new before now given
pieces_serves {files = files} {sink = sink} {old = old} {new = new} {before = before} {now = now} {given = given}
    series queries o flag is =
    subst (λ f. Serves files sink (pieces_by f series queries o) old new before now given) (sym is)

-- the status of work that tells of no failed read is none
pub never_read : (given : Result (Unit {0}) Status) (status : Status) (w : Which) → status ≡ ended given
    → given ≢ err_of (Unit {0}) (ReadFault w) → status ≢ ReadFault w
never_read (Ok u) status w is well reads = cc
never_read (Err s) status w is well reads = well (ap (err_of (Unit {0})) (sym is ∙ reads))
