-- Blocks that certify the answers to queries may be spelled and fail no test (`certificates_hold`).
use Rattle.std.proofs.Common.{◌≡◌, ℕ, zero, suc, ◌≤◌, List, [], ◌∷◌, length, Some, None, refl, ap, ◌∙◌, subst, arith}
use Rattle.std.specs.Prelude.{ℤ, is_some, slice_get, slice_index_or}
use Rattle.std.proofs.lemmas.Option.{none-some, same_Some, slice_get_within}
use Rattle.certificate.specs.declared.block.Block.{Block}
use Rattle.certificate.specs.Certified.{Asked, CertifiesQuery, CertifyQueries, IsAsked}
use Rattle.certificate.specs.Grammar.{AreBlocks, IsBlock}
use Rattle.certificate.specs.Verdict.{query_refusal, verdict}
use Rattle.certificate.proofs.Certifying.{all_at, may_be_spelled}
use Rattle.certificate.proofs.PassingBlocks.{all_pass, certified_passes}
use Rattle.certificate.proofs.Whole.{verdict_blocks}

-- as many blocks as queries
as_many : (x : Asked) (leaf_size queues : ℕ) (qs : List (List ℤ)) (bs : List Block)
    → CertifyQueries x leaf_size queues qs bs → length bs ≡ length qs
as_many x leaf_size queues [] [] all = refl
as_many x leaf_size queues [] (b ∷ bs) all = absurd all
as_many x leaf_size queues (q ∷ qs) [] all = absurd all
as_many x leaf_size queues (q ∷ qs) (b ∷ bs) all = ap suc (as_many x leaf_size queues qs bs all.1)

-- each certifies the answers to its query
each_certifies : (x : Asked) (leaf_size queues : ℕ) (qs : List (List ℤ)) (bs : List Block)
    → CertifyQueries x leaf_size queues qs bs → (i : ℕ) (b : Block) → slice_get bs i ≡ Some b
    → CertifiesQuery x leaf_size queues (slice_index_or qs i []) b
each_certifies x leaf_size queues [] [] all i b here = absurd (none-some b here)
each_certifies x leaf_size queues [] (c ∷ bs) all i b here = absurd all
each_certifies x leaf_size queues (q ∷ qs) [] all i b here = absurd all
each_certifies x leaf_size queues (q ∷ qs) (c ∷ bs) all zero b here =
    subst (CertifiesQuery x leaf_size queues q) (same_Some c b here) all.0
each_certifies x leaf_size queues (q ∷ qs) (c ∷ bs) all (suc i) b here =
    each_certifies x leaf_size queues qs bs all.1 i b here

-- blocks that certify the answers to all queries may be spelled
pub blocks_spelled : (x : Asked) (leaf_size queues : ℕ) (bs : List Block) → IsAsked x → 1 ≤ queues → queues ≤ 64
    → CertifyQueries x leaf_size queues x.queries.series bs → AreBlocks x.layout.cuts.segments (is_some x.labels) bs
blocks_spelled x leaf_size queues bs asked some few all =
    all_at (IsBlock x.layout.cuts.segments (is_some x.labels)) bs (λ i b here.
    let low = slice_get_within bs i b here in
    may_be_spelled x leaf_size queues (slice_index_or x.queries.series i []) b asked
    (asked.queries.each i [] (omega (arith, low, as_many x leaf_size queues x.queries.series bs all)))
    some few (each_certifies x leaf_size queues x.queries.series bs all i b here))

-- and fail no test
pub blocks_pass : (x : Asked) (leaf_size queues : ℕ) (bs : List Block) → IsAsked x
    → CertifyQueries x leaf_size queues x.queries.series bs
    → verdict x.rows x.labels x.queries x.k x.layout bs ≡ None
blocks_pass x leaf_size queues bs asked all =
    verdict_blocks x.rows x.labels x.queries x.k x.layout bs (as_many x leaf_size queues x.queries.series bs all)
    ∙ all_pass (query_refusal x.rows x.labels x.queries x.k x.layout) bs (λ i b here.
    certified_passes x leaf_size queues (slice_index_or x.queries.series i []) i b asked
    (each_certifies x leaf_size queues x.queries.series bs all i b here))
