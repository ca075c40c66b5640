-- How a script is read line by line: what is read so far, what is left, and which line is the first fault.
use Rattle.std.proofs.Common.{◌≡◌, ℕ, ◌+◌, ◌<◌, ◌≤◌, List, [], ◌∷◌, ◌++◌, length, true, refl, sym, ap, subst, ◌∙◌, ⊎_elim, arith}
use Rattle.std.specs.List.{AllByRecursion, range_with_len}
use Rattle.std.proofs.lemmas.Bool.{cases_lt}
use Rattle.std.proofs.lemmas.List.{append-nil, length-append, length_push, map-id, nil_from_length}
use Rattle.std.proofs.lemmas.List.FromFn.{map-range_with_len_more}
use Rattle.live_script.specs.declared.script.Group.{Group}
use Rattle.live_script.specs.Lines.{lacks, IsCut, append_line, Appends, Asks}
use Rattle.live_script.specs.Grammar.{IsGroup, IsScript, IsFault, AddsLine, NoneFollows, script_lines, script_numbers, script_text, lines_text}
use Rattle.live_script.proofs.Cuts.{lacks_not, same_cut}
use Rattle.live_script.proofs.LineLists.{AreLines, IsLine, all_middle, text_cons, text_push, text_size, same_lines, script_are_lines, script_one_line}

-- the first `at` lines are read, as these groups, and the rest is left
pub record Walk (bytes rest : List ℕ) (at : ℕ) (groups : List Group) : Type 0 where
  pub right : AllByRecursion IsGroup groups
  pub numbers : script_numbers groups ≡ range_with_len 1 at
  pub size : length (script_lines groups) ≡ at
  pub text : bytes ≡ script_text groups ++ rest

-- nothing is read
pub walk_begins : (bytes : List ℕ) → Walk bytes bytes 0 []
walk_begins bytes = record { right = tt; numbers = refl; size = refl; text = refl }

-- one more number
more_numbers : (at : ℕ) → range_with_len 1 (at + 1) ≡ range_with_len 1 at ++ ((at + 1) ∷ [])
more_numbers at =
    sym (map-id (range_with_len 1 (at + 1)))
    ∙ map-range_with_len_more (λ n. n) 1 at (at + 1) (omega arith)
    ∙ ap (λ (ns : List ℕ). ns ++ ((at + 1) ∷ [])) (map-id (range_with_len 1 at))

-- one more line is read
pub walk_on : (bytes rest line behind : List ℕ) (at : ℕ) (before after : List Group) → Walk bytes rest at before
    → IsCut 10 rest line behind → AddsLine (at + 1) line before after → Walk bytes behind (at + 1) after
walk_on bytes rest line behind at before after walk is adds = record {
  right = adds.right walk.right;
  numbers =
      adds.numbers ∙ ap (λ (ns : List ℕ). ns ++ ((at + 1) ∷ [])) walk.numbers ∙ sym (more_numbers at);
  size =
      ap length adds.lines ∙ length_push (script_lines before) line ∙ ap (λ n. n + 1) walk.size;
  text =
      walk.text
      ∙ ap (λ (t : List ℕ). script_text before ++ t) is.joined
      ∙ sym (text_push (script_lines before) line behind)
      ∙ ap (λ (lines : List (List ℕ)). lines_text lines ++ behind) (sym adds.lines);
}

-- there are no more lines than bytes
pub walk_fits : (bytes rest : List ℕ) (at : ℕ) (groups : List Group) → Walk bytes rest at groups
    → at + length rest ≤ length bytes
walk_fits bytes rest at groups walk =
    let whole = ap length walk.text in
    let both = length-append (script_text groups) rest in
    let some = text_size (script_lines groups) in
    let size = walk.size in
    omega arith

-- where nothing is left, what is read is the script
pub walk_ends : (bytes rest : List ℕ) (at : ℕ) (groups : List Group) → Walk bytes rest at groups → length rest ≡ 0
    → IsScript bytes groups
walk_ends bytes rest at groups walk none = record {
  right = walk.right;
  numbers = walk.numbers ∙ ap (range_with_len 1) (sym walk.size);
  text =
      walk.text
      ∙ ap (λ (t : List ℕ). script_text groups ++ t) (nil_from_length rest none)
      ∙ append-nil (script_text groups);
}

-- no line that may stand behind the groups is the first of the rest
abbrev pub Stops : List ℕ → List Group → Type 0
Stops rest groups =
    (line behind : List ℕ) → lacks 10 line ≡ true → rest ≡ line ++ (10 ∷ behind) → NoneFollows line groups

-- a rest without a line feed has no line
pub stops_unended : (rest : List ℕ) (groups : List Group) → lacks 10 rest ≡ true → Stops rest groups
stops_unended rest groups lacking line behind one is =
    absurd (lacks_not 10 line behind (ap (lacks 10) (sym is) ∙ lacking))

-- a first line that may not stand behind the groups stops them
pub stops_here : (rest line behind : List ℕ) (groups : List Group) → IsCut 10 rest line behind → NoneFollows line groups
    → Stops rest groups
stops_here rest line behind groups cut none other more one is =
    let same = same_cut 10 line other behind more cut.first one (sym cut.joined ∙ is) in
    subst (λ (l : List ℕ). NoneFollows l groups) same.0 none

-- a line of another script that begins with the same lines may stand behind them
follows_not : (groups other : List Group) (line : List ℕ) (more : List (List ℕ)) → AllByRecursion IsGroup other
    → script_lines other ≡ script_lines groups ++ (line ∷ more) → NoneFollows line groups → ⊥
follows_not [] [] line more right same none = absurd cc
follows_not [] (g ∷ other) line more right same none =
    let first : append_line g.batch.name ≡ line = cc in
    none.appends g.batch.name (record { right = right.0.name; text = sym first })
follows_not (g ∷ groups) other line more right same none =
    ⊎_elim
    (λ (batch : (name : List ℕ) × Appends line name). none.appends batch.0 batch.1)
    (λ (asked : (name : List ℕ) × (k : ℕ) × Asks line name k). none.asks (omega arith) asked.0 asked.1 asked.2)
    (all_middle IsLine (script_lines (g ∷ groups)) more line
    (subst (AllByRecursion IsLine) same (script_are_lines other right)))

-- where the groups are stopped, no script of more lines begins the bytes
no_longer : (bytes rest more : List ℕ) (at : ℕ) (groups other : List Group) → Walk bytes rest at groups
    → Stops rest groups → AllByRecursion IsGroup other → bytes ≡ script_text other ++ more
    → at < length (script_lines other) → ⊥
no_longer bytes rest more at groups other walk stops right text longer =
    let size = walk.size in
    let both = same_lines (script_lines groups) (script_lines other) rest more (script_one_line groups walk.right)
    (script_one_line other right) (sym walk.text ∙ text) (omega arith) in
    next both.0 both.1 both.2
  where
    next : (zs : List (List ℕ)) → script_lines other ≡ script_lines groups ++ zs → rest ≡ lines_text zs ++ more → ⊥
    next [] is left =
        let same = ap length (is ∙ append-nil (script_lines groups)) in
        let size = walk.size in
        absurd (omega arith)
    next (z ∷ zs) is left =
        follows_not groups other z zs right is
        (stops z (lines_text zs ++ more)
        (all_middle (λ line. lacks 10 line ≡ true) (script_lines groups) zs z
        (subst AreLines is (script_one_line other right)))
        (left ∙ text_cons z zs more))

-- where something is left behind the groups, no script of as few lines is the whole
no_shorter : (bytes rest : List ℕ) (at : ℕ) (groups other : List Group) → Walk bytes rest at groups → 0 < length rest
    → IsScript bytes other → length (script_lines other) ≤ at → ⊥
no_shorter bytes rest at groups other walk some is few =
    let size = walk.size in
    let both = same_lines (script_lines other) (script_lines groups) [] rest (script_one_line other is.right)
    (script_one_line groups walk.right) (append-nil (script_text other) ∙ sym is.text ∙ walk.text) (omega arith) in
    let left = ap length both.2 in
    let parts = length-append (lines_text both.0) rest in
    absurd (omega arith)

-- where something is left and the groups are stopped, the next line is the first fault
pub walk_stops : (bytes rest : List ℕ) (at : ℕ) (groups : List Group) → Walk bytes rest at groups → 0 < length rest
    → Stops rest groups → IsFault bytes (at + 1)
walk_stops bytes rest at groups walk some stops = record {
  before = record {
    groups = groups;
    rest = rest;
    right = walk.right;
    size = walk.size ∙ omega arith;
    text = walk.text;
  };
  here = λ begins.
      let size = begins.size in
      no_longer bytes rest begins.rest at groups begins.groups walk stops begins.right begins.text (omega arith);
  more = λ other is.
      ⊎_elim
      (λ (longer : at < length (script_lines other)).
      no_longer bytes rest [] at groups other walk stops is.right
      (is.text ∙ sym (append-nil (script_text other))) longer)
      (λ (few : length (script_lines other) ≤ at). no_shorter bytes rest at groups other walk some is few)
      (cases_lt at (length (script_lines other)));
}
