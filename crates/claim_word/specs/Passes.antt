-- What contracts see of claims and of a pass: the record of a pass is its own, and nothing of it is ever undone.
use Rattle.std.specs.Prelude.{◌≡◌, ℕ, ◌+◌, ◌≤◌, ◌<◌, List, [], ◌∷◌, ◌++◌, Bool, true, false, refl, ltb, All}
use Rattle.std.specs.Coded.{Coded, code_by, coded×, coded_ℕ, coded_list, coded_bool}
use Rattle.atomic_table.specs.Seated.{TableId, table_id_coded}
use Rattle.list_totals.specs.Totals.{total, times, once_below}
use Rattle.claim_word.specs.declared.rule.View.{View}
use Rattle.claim_word.specs.declared.rule.Terms.{Terms}

-- claims: the place of the counter, how many numbers there are, and how many passes
pub record Claim : Type 0 where
  pub table : TableId
  pub count : ℕ
  pub callers : ℕ

-- the claims at this place, with this count and `callers` passes
abbrev pub claim_of : TableId → ℕ → ℕ → Claim
claim_of table count callers = record { table = table; count = count; callers = callers }

-- how the logic stores claims
abbrev pub claim_code : Coded Claim
claim_code = code_by (TableId × (ℕ × ℕ)) (coded× table_id_coded (coded× coded_ℕ coded_ℕ))
    (λ c. (c.table, (c.count, c.callers))) (λ p. claim_of p.0 p.1.0 p.1.1) (λ _. refl)

-- a pass: whose it is, its draws in order, how many numbers all passes together had drawn after its last step,
-- and whether it has ended
pub record Pass : Type 0 where
  pub claims : Claim
  pub draws : List ℕ
  pub met : ℕ
  pub ended : Bool

-- how the logic stores a pass
abbrev pub pass_code : Coded Pass
pass_code = code_by (Claim × (List ℕ × (ℕ × Bool)))
    (coded× claim_code (coded× (coded_list coded_ℕ) (coded× coded_ℕ coded_bool)))
    (λ p. (p.claims, (p.draws, (p.met, p.ended))))
    (λ p. record { claims = p.0; draws = p.1.0; met = p.1.1.0; ended = p.1.1.1 })
    (λ _. refl)

-- a pass that has drawn nothing and has not ended
abbrev pub fresh_pass : Claim → Pass
fresh_pass c = record { claims = c; draws = []; met = 0; ended = false }

-- the pass after it drew n
abbrev pub drew : Pass → ℕ → Pass
drew p n = record p { draws = p.draws ++ n ∷ []; met = n + 1 }

-- the pass that a seat of this table with this record is
abbrev pub pass_of : TableId → View → Pass
pass_of t v = record {
  claims = claim_of t v.count v.callers;
  draws = v.draws;
  met = v.met;
  ended =
      ltb 0 v.ends;
}

-- the record of one pass
abbrev pub IsOnePass : View → Type 0
IsOnePass v = v.parts ≡ 1

-- the counter's table has one word, keeps these terms, and has some pass
abbrev pub IsClaim : TableId → Terms → ℕ → ℕ → Type 0
IsClaim t key count callers =
    (key ≡ record { count = count; callers = callers }) × (t.words ≡ 1) × (t.slots ≡ 0)
    × (0 < callers)

-- the draws of all passes together are the numbers below `drawn`, each once; as many were drawn at least as any
-- pass had met; and all were drawn where a pass has ended
pub record EachDrawnOnce (count : ℕ) (passes : List Pass) : Type 0 where
  pub drawn : ℕ
  pub bound : drawn ≤ count
  pub once : (x : ℕ) → total (λ p. times x p.draws) passes ≡ once_below x drawn
  pub met : All (λ p. p.met ≤ drawn) passes
  pub whole : All (λ p. p.ended ≡ true → drawn ≡ count) passes
