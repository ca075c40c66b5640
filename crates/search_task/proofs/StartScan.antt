-- What the scan of the start leaf makes: the list with which worker 0 opens (`opening_is`), and the start (`start_is`).
use Rattle.std.proofs.Common.{◌≡◌, ℕ, ◌-◌, List, [], sym, ap, ◌∙◌, arith}
use Rattle.std.specs.Prelude.{Some}
use Rattle.std.specs.Option.{option_map}
use Rattle.series_core.specs.Best.{Best}
use Rattle.series_core.specs.Order.{distance_at}
use Rattle.series_core.specs.declared.distance.TheConstants.{NONE}
use Rattle.series_core.specs.declared.pair.Pair.{Pair}
use Rattle.subtree_build.specs.Index.{IndexParts, leaf_at}
use Rattle.subtree_build.specs.Members.{numbers_of}
use Rattle.isax_word.specs.declared.member.Member.{Member}
use Rattle.search_machine.specs.declared.outcome.Start.{Start}
use Rattle.search_machine.specs.Ground.{opening, opening_of, scan, start_limit}
use Rattle.search_machine.specs.Basics.{start_of}
use Rattle.search_task.specs.Questions.{Question, CanBeSearched, search_over}
use Rattle.search_task.proofs.OfIndex.{search_fits}
use Rattle.search_machine.proofs.Scans.{opening_scan}

-- the list after the scan of the start leaf with no limit
pub opening_is : (a : Question) (ix : IndexParts) (l : ℕ) (members : List Member) (empty list : Best)
    → CanBeSearched a ix → (search_over a ix 1 1).start ≡ Some l
    → members ≡ (leaf_at ix.leaves l).members → empty ≡ record { k = a.k; pairs = [] }
    → list.k ≡ a.k
    → list.pairs ≡ scan (search_over a ix 1 1) NONE (numbers_of members) empty.pairs
    → list ≡ record { k = a.k; pairs = opening (search_over a ix 1 1) }
opening_is a ix l members empty list searched start lent none wanted scanned =
    let g = search_over a ix 1 1 in
    let fits = search_fits a ix 1 1 searched (omega arith) (omega arith) in
    let pairs : list.pairs ≡ opening g =
    scanned
    ∙ ap (λ (b : Best). scan g NONE (numbers_of members) b.pairs) none
    ∙ ap (λ (ms : List Member). scan g NONE (numbers_of ms) []) lent
    ∙ opening_scan g fits l (fits.start_real l start)
    ∙ ap (opening_of g) (sym start) in
    ap (λ n. record { k = n; pairs = list.pairs }) wanted
    ∙ ap (λ (ps : List Pair). record { k = a.k; pairs = ps }) pairs

-- the start leaf with the distance of the list's k-th pair
pub start_is : (a : Question) (ix : IndexParts) (l limit : ℕ) (list : Best)
    → (search_over a ix 1 1).start ≡ Some l
    → list ≡ record { k = a.k; pairs = opening (search_over a ix 1 1) }
    → limit ≡ distance_at (list.k - 1) list.pairs
    → Some (record { leaf = l; limit = limit }) ≡ start_of (search_over a ix 1 1)
start_is a ix l limit list start opened worst_is =
    let g = search_over a ix 1 1 in
    let least : limit ≡ start_limit g =
    worst_is ∙ ap (λ (b : Best). distance_at (b.k - 1) b.pairs) opened in
    let with : ℕ → Start = λ n. record { leaf = l; limit = n } in
    ap (λ n. Some (with n)) least
    ∙ ap (option_map (λ (m : ℕ). record { leaf = m; limit = start_limit g })) (sym start)
