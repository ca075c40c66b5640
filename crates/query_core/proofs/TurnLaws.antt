-- Turns of a code's worker, one lemma a phase: from what the hand did to what the machine's worker becomes (`turned`).
use Rattle.std.proofs.Common.{◌≡◌, ℕ, ◌<◌, ◌≤◌, List, [], ◌∷◌, Bool, true, false, cond, not, length, map, min, refl, sym, ap, ◌∙◌, subst, arith}
use Rattle.std.specs.Prelude.{Option, None, Some, nat_lt, ◌&&◌, slice_get, slice_index_or}
use Rattle.std.proofs.Math.Bool.{and-false}
use Rattle.std.proofs.lemmas.Bool.{cond-true, cond-false, le-leb, lt-ltb}
use Rattle.std.proofs.lemmas.List.{length-map, get_or-map}
use Rattle.std.proofs.lemmas.Option.{slice_get-get_or}
use Rattle.series_core.specs.declared.distance.TheConstants.{NONE}
use Rattle.lower_bound.specs.Bound.{View}
use Rattle.subtree_build.specs.declared.node.Node.{Node, Leaf}
use Rattle.subtree_build.specs.Index.{IndexParts}
use Rattle.subtree_build.specs.Outline.{leaf_numbers}
use Rattle.subtree_build.specs.Start.{start_leaf_of}
use Rattle.search_machine.specs.declared.calls.Call.{Call}
use Rattle.search_machine.specs.declared.calls.Call.TheVariants.{Read}
use Rattle.search_machine.specs.declared.calls.Reply.{Reply}
use Rattle.search_machine.specs.declared.calls.Reply.TheVariants.{Claimed, Offered, PopTold, PutTold, Seen}
use Rattle.search_machine.specs.declared.phase.Phase.{Phase}
use Rattle.search_machine.specs.declared.phase.Phase.TheVariants.{Aim, Claim, Give, Look, Pop}
use Rattle.search_machine.specs.declared.phase.Onward.{Onward}
use Rattle.search_machine.specs.declared.phase.Onward.TheVariants.{Look as ToLook}
use Rattle.search_machine.specs.Calls.{call_in}
use Rattle.search_machine.specs.Ground.{Ground}
use Rattle.search_machine.specs.Workers.{Worker, after_claim, after_late, after_look, in_phase, is_new, onward, scanned_by, skip, stopped, without, after_reply, leaves_below}
use Rattle.search_task.specs.Questions.{last_of, leaf_bound, view_in}
use Rattle.search_machine.specs.Replies.{ReplyFits}
use Rattle.query_core.specs.Turning.{Acts, Lowers, ReplyNotLow, TurnsBy, search_of, taken_by}
use Rattle.query_core.specs.Walks.{Advances}
use Rattle.query_core.specs.Working.{IsOf, Working, Shows, is_marked}

-- a reply is no lower than itself
pub lowers_itself : (reply : Reply) → Lowers reply reply
lowers_itself (Seen v) = omega arith
lowers_itself (Claimed o) = refl
lowers_itself (Offered v) = refl
lowers_itself (PutTold told) = refl
lowers_itself (PopTold told) = refl

-- a turn of a worker in this phase
pub turned_here : {H : Type 0} (did : H → Call → Reply → H → Type 0) (before after_it : H) (w v : Working)
    (reply : Reply) (phase : Phase) → w.phase ≡ phase
    → ((workers : ℕ) (m : Worker) → Shows w m
    → did before (call_in (search_of w workers) w.number m phase) reply after_it)
    → ((workers : ℕ) → ReplyFits (search_of w workers) reply) → ReplyNotLow (last_of w.question) reply
    → ((workers : ℕ) (m : Worker) → Shows w m → Shows v (after_reply (search_of w workers) m phase reply))
    → TurnsBy did before after_it w v reply reply
turned_here did before after_it w v reply phase is called fits not_low next = record {
  called = λ workers x shows.
      subst (λ p. did before (call_in (search_of w workers) w.number x.worker p) reply after_it)
      (sym (shows.phase ∙ is)) (called workers x.worker shows);
  lowers = lowers_itself reply;
  exact = λ alone. refl;
  fits = fits;
  not_low = not_low;
  next = λ workers x shows.
      subst (λ p. Shows v (after_reply (search_of w workers) x.worker p reply)) (sym (shows.phase ∙ is))
      (next workers x.worker shows);
}

-- the same of a worker that is seen as another one
pub turned : {H : Type 0} (did : H → Call → Reply → H → Type 0) (before after_it : H) (w old v : Working)
    (reply : Reply) (phase : Phase) → w ≡ old → old.phase ≡ phase
    → ((workers : ℕ) (m : Worker) → Shows w m
    → did before (call_in (search_of w workers) w.number m phase) reply after_it)
    → ((workers : ℕ) → ReplyFits (search_of w workers) reply) → ReplyNotLow (last_of w.question) reply
    → ((workers : ℕ) (m : Worker) → Shows w m → Shows v (after_reply (search_of w workers) m phase reply))
    → TurnsBy did before after_it old v reply reply
turned did before after_it w old v reply phase same is called fits not_low next =
    subst (λ (o : Working). TurnsBy did before after_it o v reply reply) same
    (turned_here did before after_it w v reply phase (ap (λ (o : Working). o.phase) same ∙ is) called fits
    not_low next)

-- a worker that is seen as another one keeps its place in another phase with another rest
pub stays : (w old : Working) (phase : Phase) (rest : List ℕ) → w ≡ old
    → IsOf old.question old.index old.queues old.number (record w { phase = phase; rest = rest })
stays w old phase rest same = record {
  question = ap (λ (o : Working). o.question) same;
  index = ap (λ (o : Working). o.index) same;
  number = ap (λ (o : Working). o.number) same;
  queues = ap (λ (o : Working). o.queues) same;
}

-- the leaves below a root child that there is
pub root_there : (nodes : List Node) (root : ℕ) → root < length nodes
    → slice_get (map leaf_numbers nodes) root ≡ Some (leaf_numbers (slice_index_or nodes root (Leaf 0)))
root_there nodes root real =
    slice_get-get_or (map leaf_numbers nodes) root []
    (subst (λ (n : ℕ). root < n) (sym (length-map nodes leaf_numbers)) real)
    ∙ ap (λ (ls : List ℕ). Some ls) (get_or-map leaf_numbers nodes root (Leaf 0) [] real)

-- after a claim the rest is what the walk below the root child has to come to
pub claim_shows : (workers : ℕ) (w : Working) (m : Worker) (root : ℕ) (ls : List ℕ) (start : Option ℕ)
    → Shows w m → slice_get (map leaf_numbers w.index.nodes) root ≡ Some ls
    → start ≡ start_leaf_of (view_in w.question) w.index
    → Shows (record w { phase = Look; rest = without start ls })
    (after_claim (search_of w workers) m (leaves_below (search_of w workers) (Some root)))
claim_shows workers w m root ls start shows there is =
    subst (λ (o : Option (List ℕ)). Shows (record w { phase = Look; rest = without start ls })
    (after_claim (search_of w workers) m o)) (sym there)
    (record {
      phase = refl;
      rest = ap (λ (s : Option ℕ). without s ls) (sym is);
      list = shows.list;
      marks = shows.marks;
    })

-- nothing is left without the start leaf where nothing is left
pub none_without : (start : Option ℕ) → without start [] ≡ []
none_without None = refl
none_without (Some l) = refl

-- the phase after a look: the leaf that it came to is given, and where it came to none the worker claims
abbrev pub phase_after_look : Option ℕ → Phase
phase_after_look None = Claim
phase_after_look (Some n) = Give n

-- after a look the rest is what the walk left
pub look_shows : (g : Ground) (w : Working) (m : Worker) (start : Option ℕ) (v : ℕ) (before left : List ℕ) (told : Option ℕ)
    → Shows w m → w.rest ≡ without start before → Advances g start v before left told
    → Shows (record w { phase = phase_after_look told; rest = without start left }) (after_look g m v)
look_shows g w m start v before left None shows rest moved =
    let none : skip g v m.rest ≡ [] = ap (skip g v) (shows.rest ∙ rest) ∙ moved.0 in
    let nothing : without start left ≡ [] = ap (without start) moved.1 ∙ none_without start in
    record {
      phase = ap (λ (ls : List ℕ). (stopped m ls).phase) none;
      rest = ap (λ (ls : List ℕ). (stopped m ls).rest) none ∙ sym nothing;
      list = ap (λ (ls : List ℕ). (stopped m ls).list) none ∙ shows.list;
      marks = λ l inside. ap (λ (ls : List ℕ). is_new l (stopped m ls)) none ∙ shows.marks l inside;
    }
look_shows g w m start v before left (Some n) shows rest moved =
    let some : skip g v m.rest ≡ n ∷ without start left = ap (skip g v) (shows.rest ∙ rest) ∙ moved in
    record {
      phase = ap (λ (ls : List ℕ). (stopped m ls).phase) some;
      rest = ap (λ (ls : List ℕ). (stopped m ls).rest) some;
      list = ap (λ (ls : List ℕ). (stopped m ls).list) some ∙ shows.list;
      marks = λ l inside. ap (λ (ls : List ℕ). is_new l (stopped m ls)) some ∙ shows.marks l inside;
    }

-- a look: the limit is read, the walk goes on, and the worker becomes what the walk came to
pub looked : {H : Type 0} (floor roots : H → ℕ) (did : H → Call → Reply → H → Type 0) (told : Option ℕ) (before now : H)
    (w old : Working) (limit most : ℕ) (start : Option ℕ) (leaves left : List ℕ) (view : View) (ix : IndexParts)
    → w ≡ old → old.phase ≡ Look → floor before ≡ last_of old.question → floor before ≤ limit
    → did before Read (Seen limit) now → (floor now ≡ floor before) × (roots now ≡ roots before)
    → w.rest ≡ without start leaves → view ≡ view_in w.question → ix ≡ w.index → most ≡ limit
    → ((g : Ground) → g.bound ≡ leaf_bound view ix → Advances g start most leaves left told)
    → Acts floor roots did before now old (record w { phase = phase_after_look told; rest = without start left }) (Seen limit) (Seen limit)
looked floor roots did told before now w old limit most start leaves left view ix same is own low did_it kept rest seen over
    limited moved =
    let last : floor before ≡ last_of w.question =
    subst (λ (o : Working). floor before ≡ last_of o.question) (sym same) own in
    let bounds : leaf_bound (view_in w.question) w.index ≡ leaf_bound view ix =
    ap (λ (v : View). leaf_bound v w.index) (sym seen) ∙ ap (leaf_bound view) (sym over) in
    record {
      turns = turned did before now w old _ (Seen limit) Look same is
          (λ workers m shows. did_it)
          (λ workers. tt)
          (omega (arith, low, last))
          (λ workers m shows.
          look_shows (search_of w workers) w m start limit leaves left told shows rest
          (subst (λ (n : ℕ). Advances (search_of w workers) start n leaves left told) limited
          (moved (search_of w workers) bounds)));
      place = stays w old _ _ same;
      shares = ap (λ (o : Working). o.shares) same;
      hand = kept;
    }

-- an aim: the limit is read, and the worker pops with it or with what it knows where that is less
pub aimed : {H : Type 0} (floor roots : H → ℕ) (did : H → Call → Reply → H → Type 0) (before now : H) (w old : Working)
    (place seen most limit : ℕ) → w ≡ old → old.phase ≡ Aim place → floor before ≡ last_of old.question → floor before ≤ seen
    → last_of old.question ≤ most → (old.shares ≡ false → most ≡ NONE) → seen ≤ NONE → limit ≡ min seen most
    → did before Read (Seen seen) now → (floor now ≡ floor before) × (roots now ≡ roots before)
    → Acts floor roots did before now old (record w { phase = Pop place limit }) (Seen seen) (Seen limit)
aimed floor roots did before now w old place seen most limit same is own low known none small less did_it kept = record {
  turns = record {
    called = λ workers x shows.
        subst (λ (p : Phase). did before (call_in (search_of old workers) old.number x.worker p) (Seen seen) now) (sym (shows.phase ∙ is))
        did_it;
    lowers = omega (arith, less);
    exact = λ alone. let all = none alone in ap Seen (let e : limit ≡ seen = omega (arith, less, all, small) in e);
    fits = λ workers. tt;
    not_low = omega (arith, own, low, known, less);
    next = λ workers x shows.
        subst (λ (p : Phase). Shows (record w { phase = Pop place limit }) (after_reply (search_of old workers) x.worker p (Seen limit)))
        (sym (shows.phase ∙ is)) (record {
          phase = refl;
          rest = shows.rest ∙ ap (λ (o : Working). o.rest) (sym same);
          list = shows.list ∙ ap (λ (o : Working). o.list) (sym same);
          marks = subst (λ (o : Working). (l : ℕ) → l < length o.marks → is_new l x.worker ≡ not (is_marked o.marks l)) (sym same) shows.marks;
        });
  };
  place = stays w old _ _ same;
  shares = ap (λ (o : Working). o.shares) same;
  hand = kept;
}

-- a leaf without a mark is taken by a scan
pub taken_new : (g : Ground) (w : Working) (m : Worker) (l v : ℕ) (next : Onward) → Shows w m
    → l < length w.marks → nat_lt l g.leaves ≡ true → is_marked w.marks l ≡ false
    → taken_by g m l v next ≡ scanned_by g m l v next
taken_new g w m l v next shows inside real unmarked =
    let new : is_new l m ≡ true = shows.marks l inside ∙ ap not unmarked in
    ap (λ (b : Bool). cond (b && nat_lt l g.leaves) (scanned_by g m l v next) (in_phase (onward next) m)) new
    ∙ cond-true _ _ _ real

-- a number that is no leaf is passed over
pub taken_none : (g : Ground) (m : Worker) (l v : ℕ) (next : Onward) → nat_lt l g.leaves ≡ false
    → taken_by g m l v next ≡ in_phase (onward next) m
taken_none g m l v next none =
    ap (λ (b : Bool). cond (is_new l m && b) (scanned_by g m l v next) (in_phase (onward next) m)) none
    ∙ cond-false _ _ _ (and-false (is_new l m))

-- a late leaf whose bound is not above the limit is taken
pub late_taken : (g : Ground) (m : Worker) (l v : ℕ) → l < g.leaves → g.bound l ≤ v
    → after_late g m l v ≡ taken_by g m l v ToLook
late_taken g m l v real near =
    ap (λ (b : Bool). cond (is_new l m && b) (scanned_by g m l v ToLook) (in_phase Look m))
    (le-leb (g.bound l) v near ∙ sym (lt-ltb l g.leaves real))
