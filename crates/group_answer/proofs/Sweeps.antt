-- Queries as they are swept: each member is met by its code (`codes_for_view`, `far_of_several`) or measured (`met_more`); a query that has
-- met all members has its answer (`answer_swept`).
use Rattle.std.proofs.Common.{◌≡◌, ◌∙◌, ◌+◌, ◌*◌, ◌<◌, ◌≤◌, Bool, false, ℕ, ℤ, List, [], ◌∷◌, ◌++◌, ap, get_or, length, refl, subst, sym, take, drop, arith}
use Rattle.std.specs.Prelude.{None, Option, Some, flat_map, is_some, leb, option_map, slice_index_or, true}
use Rattle.std.specs.Borrow.{Bor}
use Rattle.std.proofs.lemmas.List.{get_or_default, get_or-map, map_more, take_all}
use Rattle.std.proofs.lemmas.List.Elements.{All-get_or}
use Rattle.std.proofs.lemmas.Bool.{false≢true, leb-false}
use Rattle.std.proofs.lemmas.Option.{none-some}
use Rattle.isax_word.specs.declared.member.Member.{Member}
use Rattle.row_codes.specs.Bound.{AreCodesFor, code_bound, each_within}
use Rattle.row_codes.specs.Rows.{Block, block_count}
use Rattle.series_core.specs.Answer.{answer}
use Rattle.series_core.specs.Best.{Best}
use Rattle.series_core.specs.Collection.{Collection}
use Rattle.series_core.specs.Distance.{squared_distance}
use Rattle.subtree_build.specs.Index.{IndexParts}
use Rattle.subtree_build.specs.Means.{codes_of_member, coded_points}
use Rattle.subtree_build.specs.Members.{numbers_of, series_at}
use Rattle.search_machine.specs.Ground.{last, scan}
use Rattle.search_task.specs.Questions.{IsMemberOf, Question, coded_query, search_over}
use Rattle.search_task.specs.Scanning.{AreCoded, IsScannedOne, MayAdd}
use Rattle.search_task.proofs.CodeRows.{all_are_members, all_coded, codes_are_below, codes_at_one, codes_fit, codes_within, each_met}
use Rattle.search_task.proofs.Meeting.{IsScanning, meet_far, member_of, one_scanned}
use Rattle.search_task.proofs.OfIndex.{answer_is, last_is, search_fits}
use Rattle.nearest_answer.proofs.Nearest.{answer_scanned}
use Rattle.group_answer.specs.Asking.{answer_to}
use Rattle.group_answer.specs.Sweeping.{IsChosen, IsFarther, IsSwept, members_of, number_at}
use Rattle.group_answer.specs.declared.asked.Asked.{Asked}
use Rattle.group_answer.specs.declared.chosen.Chosen.{Chosen}
use Rattle.group_answer.specs.declared.swept.Swept.{Swept}

-- what is made of what is there is there too
pub none_there : {X Y A : Type 0} (f : X → Y) (o : Option X) → None ≡ option_map f o → is_some o ≡ true → A
none_there f None is some = absurd (false≢true some)
none_there f (Some x) is some = absurd (none-some (f x) is)

-- the number of the member at a place, as it is read there
pub number_is : (ix : IndexParts) (i : ℕ) (members : List Member) (m : Member) → members ≡ members_of ix
    → i < length (members_of ix) → m ≡ get_or members i m → number_at ix i ≡ (get_or members i m).number
number_is ix i members m lent inside item =
    get_or-map (λ (x : Member). x.number) (members_of ix) i m 0 inside
    ∙ ap (λ (ms : List Member). (get_or ms i m).number) (sym lent)

module _ {R : Type 0} (collection : R → Collection) (a : Asked R) where
  -- these are the codes of all members, leaf after leaf
  abbrev AreAllCodes : List Block → Type 0
  AreAllCodes codes = Some codes ≡ option_map (flat_map (λ (cs : List Block). cs)) a.index.now.codes

  module _ (c : Chosen R) (is : IsChosen collection a c) (i : ℕ) (inside : i < length (members_of a.index.now)) where
    -- the member at a place
    abbrev pub member_there : Member
    member_there = get_or (members_of a.index.now) i (member_of c.task 0)

    number_there : number_at a.index.now i ≡ member_there.number
    number_there = get_or-map (λ (m : Member). m.number) (members_of a.index.now) i (member_of c.task 0) 0 inside

    -- it is a series of what is asked
    is_member : IsMemberOf c.task member_there
    is_member =
        All-get_or (IsMemberOf c.task) (members_of a.index.now) i (member_of c.task 0) inside
        (all_are_members c.task a.index.now is.searched)

    -- and its number is there
    pub number_real : number_at a.index.now i < length c.task.collection.series
    number_real = subst (λ (n : ℕ). n < length c.task.collection.series) (sym number_there) is_member.series

    module _ (n : ℕ) (codes own : List Block) (blocks : n ≡ block_count (coded_points (collection a.rows.now)))
        (lent : AreAllCodes codes) where
      own_blocks : n ≡ block_count (coded_points c.task.collection)
      own_blocks = blocks ∙ ap (λ (q : Question). block_count (coded_points q.collection)) (sym is.question)

      coded : AreCoded c.task (members_of a.index.now) codes
      coded = all_coded c.task a.index.now (members_of a.index.now) codes is.searched refl lent

      -- the codes of a member lie within those of all
      pub own_within : i * n + n ≤ length codes
      own_within = codes_within c.task (members_of a.index.now) codes n i is.searched.question coded own_blocks inside

      own_codes : own ≡ take n (drop (i * n) codes) → own ≡ codes_of_member c.task.collection member_there
      own_codes taken =
          codes_at_one c.task (members_of a.index.now) codes n i is.searched.question coded own_blocks inside own member_there
          (get_or_default (members_of a.index.now) i (member_of c.task 0) member_there inside) taken

      -- they are codes for the query
      pub are_codes : own ≡ take n (drop (i * n) codes) → AreCodesFor (length (coded_query c.task.collection c.task.query)) own
      are_codes taken =
          subst (λ (bs : List Block). AreCodesFor (length (coded_query c.task.collection c.task.query)) bs) (sym (own_codes taken))
          (codes_fit c.task member_there is.searched.question is_member.series)

      -- and where their bound is above the most that may be, the member is farther
      pub far_by_codes : own ≡ take n (drop (i * n) codes) → (near : Bool) (most : ℕ)
          → near ≡ leb (code_bound (coded_query c.task.collection c.task.query) own) most → near ≡ false
          → most < squared_distance (series_at c.task.collection (number_at a.index.now i)) c.task.query
      far_by_codes taken near most is_near none =
          let bound = code_bound (coded_query c.task.collection c.task.query) in
          let above : most < bound own = leb-false (bound own) most (sym is_near ∙ none) in
          let same : bound own ≡ bound (codes_of_member c.task.collection member_there) = ap bound (own_codes taken) in
          let low = codes_are_below c.task member_there is.searched.question is_member.series in
          subst (λ (s : ℕ). most < squared_distance (series_at c.task.collection s) c.task.query) (sym number_there)
          (omega (arith, above, same, low))

  -- the codes of the member at a place, of which there are so many
  pub record IsPlace (i n : ℕ) (codes own : List Block) : Type 0 where
    pub inside : i < length (members_of a.index.now)
    pub blocks : n ≡ block_count (coded_points (collection a.rows.now))
    pub lent : AreAllCodes codes
    pub taken : own ≡ take n (drop (i * n) codes)

  module _ {i n : ℕ} {codes own : List Block} (place : IsPlace i n codes own) (s : Swept R) (was : IsSwept collection a i s)
      (chosen : Bor (Chosen R)) (same : s.chosen ≡ chosen) (view : List ℤ)
      (seen : view ≡ coded_query chosen.now.task.collection chosen.now.task.query) where
    view_is : view ≡ coded_query s.chosen.now.task.collection s.chosen.now.task.query
    view_is = seen ∙ ap (λ (c : Bor (Chosen R)). coded_query c.now.task.collection c.now.task.query) (sym same)

    -- they are codes for a query as it is seen
    pub codes_for_view : AreCodesFor (length view) own
    codes_for_view =
        subst (λ (v : List ℤ). AreCodesFor (length v) own) (sym view_is)
        (are_codes s.chosen.now was.chosen i place.inside n codes own place.blocks place.lent place.taken)

    -- and where their bound is above its limit, the member is farther
    far_for_view : (near : Bool) → near ≡ leb (code_bound view own) s.most → IsFarther a.index.now i near s
    far_for_view near is_near none =
        far_by_codes s.chosen.now was.chosen i place.inside n codes own place.blocks place.lent place.taken near s.most
        (is_near ∙ ap (λ (v : List ℤ). leb (code_bound v own) s.most) view_is) none

    -- and so where several are tested at once, of which it is the one at this place
    pub far_of_several : (at : ℕ) (views : List (List ℤ)) {tests : List Bool} {limits mosts : List ℕ}
        → tests ≡ each_within own limits views → limits ≡ mosts
        → slice_index_or (each_within own mosts views) at false ≡ leb (code_bound view own) s.most
        → IsFarther a.index.now i (slice_index_or tests at false) s
    far_of_several at views {tests} {limits} {mosts} tested same its =
        far_for_view (slice_index_or tests at false)
        (ap (λ (bs : List Bool). slice_index_or bs at false) (tested ∙ ap (λ (ls : List ℕ). each_within own ls views) same) ∙ its)

  module _ (s : Swept R) (i : ℕ) (inside : i < length (members_of a.index.now)) (was : IsSwept collection a i s) where
    private_numbers : numbers_of (take (i + 1) (members_of a.index.now))
        ≡ numbers_of (take i (members_of a.index.now)) ++ number_at a.index.now i ∷ []
    private_numbers =
        map_more (λ (m : Member). m.number) (members_of a.index.now) i (member_of s.chosen.now.task 0) inside
        ∙ ap (λ (n : ℕ). numbers_of (take i (members_of a.index.now)) ++ n ∷ [])
        (sym (number_there s.chosen.now was.chosen i inside))

    -- the member at the next place is met
    pub met_more : (best : Best) (most : ℕ) → MayAdd s.chosen.now.task s.chosen.now.limit best most
        → IsScannedOne s.chosen.now.task s.chosen.now.limit (number_at a.index.now i) s.list.pairs best.pairs
        → IsSwept collection a (i + 1) (record { chosen = s.chosen; most = most; list = best })
    met_more best most list step =
        let q = s.chosen.now.task in
        let limit = s.chosen.now.limit in
        let next = one_scanned {a = q} {limit = limit} {before = s.list} {after = best} (number_at a.index.now i)
        (record { list = was.list; pairs = was.pairs }) list step in
        let all : IsScanning q limit (numbers_of (take (i + 1) (members_of a.index.now))) [] best most
        = subst (λ (ns : List ℕ). IsScanning q limit ns [] best most) (sym private_numbers) next in
        record { chosen = was.chosen; list = all.list; pairs = all.pairs }

    -- and passed over where it is farther
    pub met_far : s.most < squared_distance (series_at s.chosen.now.task.collection (number_at a.index.now i)) s.chosen.now.task.query
        → IsSwept collection a (i + 1) s
    met_far far =
        let c = s.chosen.now in
        let m = member_there c was.chosen i inside in
        let there = number_there c was.chosen i inside in
        let same = subst (λ (n : ℕ). s.most < squared_distance (series_at c.task.collection n) c.task.query) there far in
        met_more s.list s.most was.list
        (subst (λ (n : ℕ). IsScannedOne c.task c.limit n s.list.pairs s.list.pairs) (sym there)
        (meet_far c.task m s.list c.limit s.most was.chosen.searched.question (is_member c was.chosen i inside) was.list same))

  -- a query that has met all members has its answer
  pub answer_swept : (s : Swept R) → IsSwept collection a (length (members_of a.index.now)) s
      → s.list.pairs ≡ answer_to collection a s.chosen.now.number
  answer_swept s was =
      let c = s.chosen.now in
      let ix = a.index.now in
      let ground = search_over c.task ix 1 1 in
      let fits = search_fits c.task ix 1 1 was.chosen.searched (omega arith) (omega arith) in
      let enough : last ground ≤ c.limit = omega (arith, last_is c.task ix 1 1 was.chosen.searched.question, was.chosen.enough) in
      was.pairs ix 1 1
      ∙ ap (λ (ms : List Member). scan ground c.limit (numbers_of ms) [])
      (take_all (length (members_of ix)) (members_of ix) (omega arith))
      ∙ answer_scanned ground fits c.limit (numbers_of (members_of ix)) enough
      (each_met c.task.collection c.task.layout ix was.chosen.searched.fits)
      ∙ answer_is c.task ix 1 1
      ∙ ap (λ (q : Question). answer q.collection q.query q.k) was.chosen.question
