-- What is known of a run behind some groups: what their files held, the dialogue that took them, and the text of them, which
-- was written.
use Rattle.std.proofs.Common.{◌≡◌, ℕ, ◌+◌, ◌*◌, ◌<◌, ◌≤◌, ◌^◌, List, [], ◌∷◌, ◌++◌, All, length, take, drop, get_or, Option, Some, refl, sym, ap, ◌∙◌, subst, length-append, arith}
use Rattle.std.specs.Prelude.{Result, Ok, Err, IsErrAnd}
use Rattle.std.specs.Io.KnownBytes.{append_known}
use Rattle.std.proofs.lemmas.List.{drop_more, length-map, take-append-drop, take_more}
use Rattle.outside.specs.Count.{Rose}
use Rattle.outside.specs.Files.{Held}
use Rattle.outside.specs.Sink.{AppendsPrefix}
use Rattle.live_script.specs.Grammar.{asking_line, group_lines, script_lines}
use Rattle.live_script.specs.declared.script.Group.{Group}
use Rattle.live_run.specs.Ends.{GroupsEnd, Taken, ended}
use Rattle.live_run.specs.Groups.{AllPass, HoldsAsking, HoldsGroup, StopsAt, want_of}
use Rattle.live_run.specs.Loads.{FitsLength, most_bytes}
use Rattle.live_run.specs.Replies.{CanAsk}
use Rattle.live_run.specs.Dialogues.{HasTaken, IsTextOfGroup, Stands, Takes, length_of}
use Rattle.live_run.specs.Texts.{IsScriptText, all_queries, queries_of}
use Rattle.run_traffic.specs.Traffic.{Reading, Writing}
use Rattle.run_traffic.proofs.Appending.{append_known-append}
use Rattle.live_run.specs.declared.group.Contents.{Contents}
use Rattle.live_run.specs.declared.dialogue.Dialogue.{Dialogue}
use Rattle.live_run.specs.declared.status.LiveStatus.{LiveStatus}
use Rattle.live_run.specs.declared.status.LiveStatus.TheVariants.{WriteFault}
use Rattle.live_run.proofs.Askings.{queries_few, zip_length}
use Rattle.live_run.proofs.Stopping.{lines_more, lines_within, pass_more, stands_more, stops_end, text_more, took_room, wanted}
use Rattle.live_run.proofs.Texts.{queries_more}

pub record IsBehind (held : Option Held) (done : List Group) (dialogue : Option Dialogue) (before now : Option (List ℕ)) : Type 0 where
  pub contents : List Contents
  pub passed : AllPass held [] done contents
  pub stands : Stands contents dialogue
  pub text : List ℕ
  pub told : IsScriptText contents text
  pub wrote : now ≡ append_known before text
  pub few : length (all_queries contents) ≤ 16777216 * length (script_lines done)

-- the groups taken, where others are left
abbrev pub taken_of : (held whole : Option Held) → held ≡ whole → (groups : List Group) (i : ℕ) (dialogue : Option Dialogue)
    (before now : Option (List ℕ)) → IsBehind held (take i groups) dialogue before now → Taken whole groups
taken_of held whole same groups i dialogue before now behind = record {
  done = take i groups;
  rest = drop i groups;
  all = sym (take-append-drop i groups);
  contents = behind.contents;
  passed = subst (λ h. AllPass h [] (take i groups) behind.contents) same behind.passed;
  text = behind.text;
  told = behind.told;
}

-- the run ends where the next group is not taken
pub behind_stops : (reading : Reading) (writing : Writing) (held : Option Held) → held ≡ reading.held → (groups : List Group)
    (i : ℕ) (d : Group) (dialogue : Option Dialogue) (now : Option (List ℕ)) (status : LiveStatus) → i < length groups
    → (behind : IsBehind held (take i groups) dialogue writing.before now)
    → ((rest : List Group) → StopsAt reading behind.contents (get_or groups i d ∷ rest) status)
    → writing.now ≡ now → GroupsEnd reading writing groups status
behind_stops reading writing held e groups i d dialogue now status low behind stops same =
    stops_end reading writing groups status (taken_of held reading.held e groups i dialogue writing.before now behind)
    (subst (λ gs. StopsAt reading behind.contents gs status) (sym (drop_more groups i d low)) (stops (drop (i + 1) groups)))
    (same ∙ behind.wrote)

-- a group was loaded behind others, and this dialogue has taken those
pub record IsNext (held : Option Held) (cs : List Contents) (g : Group) (c : Contents) (s : Dialogue) : Type 0 where
  pub has : HasTaken cs s
  pub points : s.points ≡ c.batch.points
  pub holds : HoldsGroup held (want_of cs) g c

-- so it is of the group of a list that is loaded, and of the dialogue that has begun
pub next_at : {held now : Option Held} {want : Option ℕ} {c : Contents} {n : ℕ} {s : Dialogue} (cs : List Contents)
    (dialogue : Option Dialogue) (groups : List Group) (i : ℕ) (g : Group) → g ≡ get_or groups i g → now ≡ held
    → want ≡ length_of dialogue → n ≡ c.batch.points → Stands cs dialogue → HoldsGroup now want g c
    → ((ds : List Contents) → Stands ds dialogue → FitsLength (length_of dialogue) n → HasTaken ds s × (s.points ≡ n))
    → IsNext held cs (get_or groups i g) c s
next_at {held} {now} {want} {c} {n} {s} cs dialogue groups i g same kept wants length stands had begun =
    let fits = subst (λ w. FitsLength w n) wants (subst (FitsLength want) (sym length) had.points) in
    let taken = begun cs stands fits in
    record {
      has = taken.0;
      points = taken.1 ∙ length;
      holds = subst (λ (x : Group). HoldsGroup held (want_of cs) x c) same
          (subst (λ w. HoldsGroup held w g c) (wants ∙ wanted cs dialogue stands)
          (subst (λ h. HoldsGroup h want g c) kept had));
    }

-- what is so of the status of work that failed with it is so of its end
pub by_status : (P : LiveStatus → Type 0) (given : Result (Unit {0}) LiveStatus) (status : LiveStatus)
    → IsErrAnd given (λ s. s ≡ status) → P status → P (ended given)
by_status P (Ok u) status is p = absurd is
by_status P (Err s) status is p = subst P (sym is) p

-- the lines of a group are one more than its askings
group_size : (g : Group) → length (group_lines g) ≡ 1 + length g.askings
group_size g = let l = length-map g.askings asking_line in omega arith

-- a group has no more queries than this for each of its lines
contents_few : (held : Option Held) (want : Option ℕ) (g : Group) (c : Contents) (n : ℕ) → HoldsGroup held want g c
    → All (CanAsk n) c.askings.items → length (queries_of c) ≤ 16777216 * length (group_lines g)
contents_few held want g c n holds askable =
    let f = queries_few n c.askings.items askable in
    let z = zip_length (HoldsAsking held c.batch.points) g.askings c.askings.items holds.askings in
    let s = group_size g in
    omega arith

-- how many queries have been asked behind a group, and that they are few
pub asked_few : (groups : List Group) (i : ℕ) (d : Group) (cs : List Contents) (c : Contents) (held : Option Held) (want : Option ℕ)
    (n : ℕ) → i < length groups → length (script_lines groups) ≤ most_bytes
    → length (all_queries cs) ≤ 16777216 * length (script_lines (take i groups))
    → HoldsGroup held want (get_or groups i d) c → All (CanAsk n) c.askings.items
    → length (all_queries cs) + length (queries_of c) < 2 ^ 64
asked_few groups i d cs c held want n low most few holds askable =
    let f = contents_few held want (get_or groups i d) c n holds askable in
    let m = lines_more groups i d low in
    let w = lines_within groups (i + 1) in
    omega arith

-- one group more
pub behind_more : (held : Option Held) (groups : List Group) (i : ℕ) (d : Group) (dialogue : Option Dialogue) (s next : Dialogue)
    (c : Contents) (n : ℕ) (piece : List ℕ) (before now later : Option (List ℕ)) → i < length groups
    → (behind : IsBehind held (take i groups) dialogue before now)
    → HasTaken behind.contents s → s.points ≡ c.batch.points
    → HoldsGroup held (want_of behind.contents) (get_or groups i d) c → All (CanAsk n) c.askings.items
    → Takes s c next → IsTextOfGroup s c piece → later ≡ append_known now piece
    → IsBehind held (take (i + 1) groups) (Some next) before later
behind_more held groups i d dialogue s next c n piece before now later low behind has points holds askable takes is wrote =
    let cs = behind.contents in
    let gs = take_more groups i d low in
    let room = took_room cs c s next has takes in
    let q = ap length (queries_more cs c) in
    let l = length-append (all_queries cs) (queries_of c) in
    let f = contents_few held (want_of cs) (get_or groups i d) c n holds askable in
    let m = lines_more groups i d low in
    let b = behind.few in record {
      contents = cs ++ c ∷ [];
      passed = subst (λ l. AllPass held [] l (cs ++ c ∷ [])) (sym gs)
          (pass_more held [] (take i groups) cs (get_or groups i d) c behind.passed (record { holds = holds; room = room }));
      stands = stands_more cs c s next has points holds.points takes;
      text = behind.text ++ piece;
      told = text_more cs c s behind.text piece has points behind.told is;
      wrote = wrote ∙ ap (λ known. append_known known piece) behind.wrote ∙ append_known-append before behind.text piece;
      few = omega arith;
    }

-- the run ends where a text is not written to its end
pub behind_fault : (reading : Reading) (writing : Writing) (held : Option Held) → held ≡ reading.held → (groups : List Group)
    (i : ℕ) (d : Group) (dialogue : Option Dialogue) (s next : Dialogue) (c : Contents) (piece : List ℕ) (now : Option (List ℕ))
    → i < length groups → (behind : IsBehind held (take i groups) dialogue writing.before now)
    → HasTaken behind.contents s → s.points ≡ c.batch.points
    → HoldsGroup held (want_of behind.contents) (get_or groups i d) c
    → Takes s c next → IsTextOfGroup s c piece → AppendsPrefix now piece writing.now → Rose writing.faults writing.later
    → GroupsEnd reading writing groups WriteFault
behind_fault reading writing held e groups i d dialogue s next c piece now low behind has points holds takes is (k, within, wrote) rose = (
  taken_of held reading.held e groups i dialogue writing.before now behind,
  behind.text ++ take k piece,
  record {
    group = get_or groups i d;
    rest = drop (i + 1) groups;
    next = drop_more groups i d low;
    contents = c;
    holds = subst (λ h. HoldsGroup h (want_of behind.contents) (get_or groups i d) c) e holds;
    room = took_room behind.contents c s next has takes;
    piece = piece;
    told = text_more behind.contents c s behind.text piece has points behind.told is;
    count = k;
    within = within;
    wrote = refl;
  },
  wrote ∙ ap (λ known. append_known known (take k piece)) behind.wrote
      ∙ append_known-append writing.before behind.text (take k piece),
  rose,
)
