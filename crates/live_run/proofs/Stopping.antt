-- What is known of a run behind some of its groups, and how it ends there.
use Rattle.std.proofs.Common.{◌≡◌, ℕ, ◌+◌, ◌<◌, ◌≤◌, inl, inr, List, [], ◌∷◌, ◌++◌, length, map, take, drop, get_or, Option, None, Some, refl, sym, ap, ◌∙◌, subst, append_assoc, append-nil, length-append, arith}
use Rattle.std.specs.Prelude.{ℤ}
use Rattle.std.specs.List.{flat_map}
use Rattle.std.proofs.lemmas.List.{length-map, map-append, take-append-drop, take_more}
use Rattle.std.proofs.lemmas.List.Concat.{flat_map-append}
use Rattle.outside.specs.Files.{Held}
use Rattle.series_core.specs.Collection.{Collection}
use Rattle.live_collection.specs.declared.batch.Batch.{Batch}
use Rattle.live_collection.specs.Histories.{series_of}
use Rattle.live_script.specs.Grammar.{group_lines, script_lines}
use Rattle.live_script.specs.declared.script.Group.{Group}
use Rattle.live_script.specs.declared.script.NamedFile.{NamedFile}
use Rattle.live_run.specs.Ends.{GroupsEnd, Taken}
use Rattle.live_run.specs.Groups.{AllPass, HasRoom, HoldsGroup, Passes, RefusesGroup, StopsAt, want_of}
use Rattle.live_run.specs.Loads.{FitsLength, RefusesFitting}
use Rattle.live_run.specs.Dialogues.{AreBatchesOf, HasTaken, IsTextOfGroup, RefusesBatch, Stands, Takes, batches_of, length_of, scene_of}
use Rattle.live_run.specs.Texts.{IsQueriesText, IsScriptText, Scene, all_queries, all_series, queries_of, scene}
use Rattle.run_traffic.specs.Traffic.{Appended, Reading, Writing}
use Rattle.live_run.specs.declared.group.Contents.{Contents}
use Rattle.live_run.specs.declared.dialogue.Dialogue.{Dialogue}
use Rattle.live_run.specs.declared.status.LiveStatus.{LiveStatus}
use Rattle.live_run.specs.declared.status.LiveStatus.TheVariants.{Done, Usage, Missing, ReadFault, Format, Mismatch, WriteFault, Memory, Script, Full}
use Rattle.live_run.proofs.Texts.{queries_more, script_more}

-- one group more passes behind the others
pub pass_more : (held : Option Held) (ahead : List Contents) (gs : List Group) (cs : List Contents) (g : Group) (c : Contents)
    → AllPass held ahead gs cs → Passes held (ahead ++ cs) g c → AllPass held ahead (gs ++ g ∷ []) (cs ++ c ∷ [])
pass_more held ahead [] [] g c all next = (subst (λ l. Passes held l g c) (append-nil ahead) next, tt)
pass_more held ahead [] (d ∷ cs) g c all next = absurd all
pass_more held ahead (h ∷ gs) [] g c all next = absurd all
pass_more held ahead (h ∷ gs) (d ∷ cs) g c all next = (
  all.0,
  pass_more held (ahead ++ d ∷ []) gs cs g c all.1 (subst (λ l. Passes held l g c) (sym (append_assoc ahead (d ∷ []) cs)) next),
)

-- batches with the same series have the same series in all
by_collections : (bs : List Batch) → series_of bs ≡ flat_map (λ (x : Collection). x.series) (map (λ (b : Batch). b.series) bs)
by_collections [] = refl
by_collections (b ∷ bs) = ap (λ l. b.series.series ++ l) (by_collections bs)

of_groups : (cs : List Contents) → all_series cs ≡ flat_map (λ (x : Collection). x.series) (map (λ (c : Contents). c.batch) cs)
of_groups [] = refl
of_groups (c ∷ cs) = ap (λ l. c.batch.series ++ l) (of_groups cs)

pub same_series : (cs : List Contents) (bs : List Batch) → AreBatchesOf cs bs → series_of bs ≡ all_series cs
same_series cs bs are =
    by_collections bs ∙ ap (flat_map (λ (x : Collection). x.series)) are ∙ sym (of_groups cs)

pub same_count : (cs : List Contents) (bs : List Batch) → AreBatchesOf cs bs → length bs ≡ length cs
same_count cs bs are =
    sym (length-map bs (λ (b : Batch). b.series)) ∙ ap length are ∙ length-map cs (λ (c : Contents). c.batch)

-- the batch of one group more
batches_more : (cs : List Contents) (bs : List Batch) (c : Contents) (b : Batch) → AreBatchesOf cs bs → b.series ≡ c.batch
    → AreBatchesOf (cs ++ c ∷ []) (bs ++ b ∷ [])
batches_more cs bs c b are same =
    map-append (λ (x : Batch). x.series) bs (b ∷ [])
    ∙ ap (λ l. l ++ b.series ∷ []) are
    ∙ ap (λ (x : Collection). map (λ (d : Contents). d.batch) cs ++ x ∷ []) same
    ∙ sym (map-append (λ (d : Contents). d.batch) cs (c ∷ []))

-- the length that a dialogue has is the one that is wanted
pub wanted : (cs : List Contents) (dialogue : Option Dialogue) → Stands cs dialogue → length_of dialogue ≡ want_of cs
wanted [] None stands = refl
wanted [] (Some s) stands = absurd stands
wanted (c ∷ cs) None stands = absurd stands
wanted (c ∷ cs) (Some s) stands = ap (λ n. Some n) stands.1

-- the dialogue that took one group more
pub taken_more : (cs : List Contents) (c : Contents) (s next : Dialogue) → HasTaken cs s → Takes s c next → HasTaken (cs ++ c ∷ []) next
taken_more cs c s next has takes = record {
  dialogue = takes.dialogue;
  batches = subst (AreBatchesOf (cs ++ c ∷ [])) (sym takes.batches)
      (batches_more cs (batches_of s.writer) c takes.batch has.batches takes.series);
  asked = takes.asked ∙ ap (λ n. n + length (queries_of c)) has.asked
      ∙ sym (ap length (queries_more cs c) ∙ length-append (all_queries cs) (queries_of c));
}

pub stands_more : (cs : List Contents) (c : Contents) (s next : Dialogue) → HasTaken cs s → s.points ≡ c.batch.points
    → FitsLength (want_of cs) c.batch.points → Takes s c next → Stands (cs ++ c ∷ []) (Some next)
stands_more [] c s next has points fits takes = (taken_more [] c s next has takes, takes.points ∙ points)
stands_more (d ∷ cs) c s next has points fits takes =
    (taken_more (d ∷ cs) c s next has takes, takes.points ∙ points ∙ fits)

-- there was room for the batch that was taken
pub took_room : (cs : List Contents) (c : Contents) (s next : Dialogue) → HasTaken cs s → Takes s c next → HasRoom cs c
took_room cs c s next has takes =
    let bs = batches_of s.writer in
    let l : length (batches_of next.writer) ≡ length bs + 1
    = ap length takes.batches ∙ length-append bs (takes.batch ∷ []) in
    let n = same_count cs bs has.batches in
    let more : series_of (batches_of next.writer) ≡ series_of bs ++ (takes.batch.series.series ++ [])
    = ap series_of takes.batches ∙ flat_map-append (λ (b : Batch). b.series.series) bs (takes.batch ∷ []) in
    let m : length (series_of (batches_of next.writer)) ≡ length (series_of bs) + length takes.batch.series.series
    = ap length more ∙ length-append (series_of bs) (takes.batch.series.series ++ [])
    ∙ ap (λ l. length (series_of bs) + length l) (append-nil takes.batch.series.series) in
    let e : length (series_of bs) ≡ length (all_series cs) = ap length (same_series cs bs has.batches) in
    let d : length takes.batch.series.series ≡ length c.batch.series = ap (λ (x : Collection). length x.series) takes.series in
    let f = takes.few in
    let t = takes.fits in record {
      batches = omega arith;
      series = omega arith;
    }

-- the text of the group that was taken stands behind that of the others
pub text_more : (cs : List Contents) (c : Contents) (s : Dialogue) (text piece : List ℕ) → HasTaken cs s → s.points ≡ c.batch.points
    → IsScriptText cs text → IsTextOfGroup s c piece → IsScriptText (cs ++ c ∷ []) (text ++ piece)
text_more cs c s text piece has points told (last, is) =
    let e = same_series cs (batches_of s.writer) has.batches in
    let at : (n : ℕ) (l : List (List ℤ)) → Scene = λ n l. record {
      points = n;
      series = l ++ c.batch.series;
      before = length l;
      after = length l + length c.batch.series;
    } in
    let same : scene_of s c.batch ≡ scene (all_series cs ++ c.batch.series) cs c
    = ap (λ n. at n (series_of (batches_of s.writer))) points ∙ ap (at c.batch.points) e in
    let here = subst (λ n. IsQueriesText (scene_of s c.batch) n (scene_of s c.batch).before (queries_of c) piece last) has.asked is in
    script_more cs c text piece last told
    (subst (λ (x : Scene). IsQueriesText x (length (all_queries cs)) x.before (queries_of c) piece last) same here)

-- what refuses a batch stops the run at its group
pub refused_stops : (reading : Reading) (cs : List Contents) (g : Group) (gs : List Group) (c : Contents) (s : Dialogue)
    (status : LiveStatus) → HasTaken cs s → HoldsGroup reading.held (want_of cs) g c → RefusesBatch s c.batch status
    → StopsAt reading cs (g ∷ gs) status
refused_stops reading cs g gs c s Memory has holds refused = tt
refused_stops reading cs g gs c s (Full b t) has holds refused =
    let l = refused.0 ∙ same_count cs (batches_of s.writer) has.batches in
    let n = refused.1 ∙ ap length (same_series cs (batches_of s.writer) has.batches) in
    inr (c, holds, (l, n, refused.2))
refused_stops reading cs g gs c s Done has holds refused = absurd refused
refused_stops reading cs g gs c s Usage has holds refused = absurd refused
refused_stops reading cs g gs c s (Missing l) has holds refused = absurd refused
refused_stops reading cs g gs c s (ReadFault l) has holds refused = absurd refused
refused_stops reading cs g gs c s (Format l e) has holds refused = absurd refused
refused_stops reading cs g gs c s (Mismatch l a b) has holds refused = absurd refused
refused_stops reading cs g gs c s WriteFault has holds refused = absurd refused
refused_stops reading cs g gs c s (Script at) has holds refused = absurd refused

-- a status of a run that has taken a group, or all of them: a failed write, or the end
abbrev IsLater : LiveStatus → Type 0
IsLater Done = Unit {0}
IsLater WriteFault = Unit {0}
IsLater status = ⊥

-- no file is refused so, and no group
no_file : (reading : Reading) (want : Option ℕ) (file : NamedFile) (status : LiveStatus) → IsLater status
    → RefusesFitting reading want file status → ⊥
no_file reading want file Done later (inl x) = x
no_file reading None file Done later (inr x) = x.2
no_file reading (Some w) file Done later (inr x) = x.2
no_file reading want file WriteFault later (inl x) = x
no_file reading None file WriteFault later (inr x) = x.2
no_file reading (Some w) file WriteFault later (inr x) = x.2
no_file reading want file status later x = absurd later

no_group : (reading : Reading) (want : Option ℕ) (g : Group) (status : LiveStatus) → IsLater status
    → RefusesGroup reading want g status → ⊥
no_group reading want g status later (inl x) = no_file reading want g.batch status later x
no_group reading want g status later (inr (rows, holds, fits, x)) =
    no_file reading (Some rows.points) x.asking.queries status later x.refused

-- so it stops no run before a group is taken
no_stop : (reading : Reading) (cs : List Contents) (rest : List Group) (status : LiveStatus) → IsLater status
    → StopsAt reading cs rest status → ⊥
no_stop reading cs [] Done later x = x
no_stop reading cs (g ∷ gs) Done later (inl x) = no_group reading (want_of cs) g Done later x
no_stop reading cs (g ∷ gs) Done later (inr x) = x.2
no_stop reading cs [] WriteFault later x = x
no_stop reading cs (g ∷ gs) WriteFault later (inl x) = no_group reading (want_of cs) g WriteFault later x
no_stop reading cs (g ∷ gs) WriteFault later (inr x) = x.2
no_stop reading cs rest status later x = absurd later

-- a run ends where a group is not taken
pub stops_end : (reading : Reading) (writing : Writing) (groups : List Group) (status : LiveStatus) (taken : Taken reading.held groups)
    → StopsAt reading taken.contents taken.rest status → Appended writing taken.text → GroupsEnd reading writing groups status
stops_end reading writing groups Done taken stops wrote = absurd (no_stop reading taken.contents taken.rest Done tt stops)
stops_end reading writing groups WriteFault taken stops wrote =
    absurd (no_stop reading taken.contents taken.rest WriteFault tt stops)
stops_end reading writing groups Usage taken stops wrote = (taken, stops, wrote)
stops_end reading writing groups (Missing l) taken stops wrote = (taken, stops, wrote)
stops_end reading writing groups (ReadFault l) taken stops wrote = (taken, stops, wrote)
stops_end reading writing groups (Format l e) taken stops wrote = (taken, stops, wrote)
stops_end reading writing groups (Mismatch l a b) taken stops wrote = (taken, stops, wrote)
stops_end reading writing groups Memory taken stops wrote = (taken, stops, wrote)
stops_end reading writing groups (Script at) taken stops wrote = (taken, stops, wrote)
stops_end reading writing groups (Full b t) taken stops wrote = (taken, stops, wrote)

-- the lines of the first groups
pub lines_more : (gs : List Group) (i : ℕ) (d : Group) → i < length gs
    → length (script_lines (take (i + 1) gs)) ≡ length (script_lines (take i gs)) + length (group_lines (get_or gs i d))
lines_more gs i d low =
    ap (λ l. length (script_lines l)) (take_more gs i d low)
    ∙ ap length (flat_map-append group_lines (take i gs) (get_or gs i d ∷ []))
    ∙ length-append (script_lines (take i gs)) (group_lines (get_or gs i d) ++ [])
    ∙ ap (λ l. length (script_lines (take i gs)) + length l) (append-nil (group_lines (get_or gs i d)))

pub lines_within : (gs : List Group) (i : ℕ) → length (script_lines (take i gs)) ≤ length (script_lines gs)
lines_within gs i =
    let e : length (script_lines gs) ≡ length (script_lines (take i gs)) + length (script_lines (drop i gs))
    = ap (λ l. length (script_lines l)) (sym (take-append-drop i gs))
    ∙ ap length (flat_map-append group_lines (take i gs) (drop i gs))
    ∙ length-append (script_lines (take i gs)) (script_lines (drop i gs)) in
    omega arith

-- the same batches have the same series
pub same_batches : (cs ds : List Contents) → map (λ (c : Contents). c.batch) cs ≡ map (λ (c : Contents). c.batch) ds
    → all_series cs ≡ all_series ds
same_batches cs ds e = of_groups cs ∙ ap (flat_map (λ (x : Collection). x.series)) e ∙ sym (of_groups ds)

-- a group whose files do not serve stops the run
pub refuses_stops : (reading : Reading) (ahead : List Contents) (g : Group) (gs : List Group) (status : LiveStatus)
    → RefusesGroup reading (want_of ahead) g status → StopsAt reading ahead (g ∷ gs) status
refuses_stops reading ahead g gs Memory x = tt
refuses_stops reading ahead g gs Done x = inl x
refuses_stops reading ahead g gs Usage x = inl x
refuses_stops reading ahead g gs (Missing l) x = inl x
refuses_stops reading ahead g gs (ReadFault l) x = inl x
refuses_stops reading ahead g gs (Format l e) x = inl x
refuses_stops reading ahead g gs (Mismatch l a b) x = inl x
refuses_stops reading ahead g gs WriteFault x = inl x
refuses_stops reading ahead g gs (Script at) x = inl x
refuses_stops reading ahead g gs (Full b t) x = inl x
