-- A team that is hired: its passes over a limit are fresh (`fresh_words`), and there is some worker (`some_hired`).
use Rattle.std.proofs.Common.{◌≡◌, ℕ, ◌<◌, ◌≤◌, List, All, length, refl, ap, subst, sym, arith}
use Rattle.std.specs.Prelude.{replicate, vec_len}
use Rattle.std.specs.Global.{Vec}
use Rattle.std.proofs.lemmas.List.{length-replicate}
use Rattle.std.proofs.lemmas.List.Elements.{All-replicate}
use Rattle.claim_word.specs.Passes.{Claim, Pass, fresh_pass}
use Rattle.best_word.specs.Passes.{Best as Limit, Pass as Word, fresh_pass as fresh_word}
use Rattle.list_team.specs.declared.searcher.Searcher.{Searcher}

-- as many passes over a limit as are dealt
pub fresh_words : {limit : Limit} {floor : ℕ} (n : ℕ) {words : List Word} → words ≡ replicate n (fresh_word limit floor)
    → All (λ w. w ≡ fresh_word limit floor) words
fresh_words {limit} {floor} n dealt =
    subst (λ (ws : List Word). All (λ w. w ≡ fresh_word limit floor) ws) (sym dealt)
    (All-replicate (λ (w : Word). w ≡ fresh_word limit floor) n (fresh_word limit floor) refl)

-- a team of as many workers as passes over what is drawn are dealt, as it is hired and as it is behind its work
pub some_hired : (claims : Claim) {n : ℕ} (passes : Vec Pass) (hired team : Vec Searcher)
    → passes.items ≡ replicate n (fresh_pass claims) → 1 ≤ n → vec_len hired ≡ vec_len passes → vec_len team ≡ vec_len hired
    → 0 < length team.items
some_hired claims {n} passes hired team dealt some as_many still = omega (
  arith,
  passes.ok.0,
  team.ok.0,
  ap length dealt,
  length-replicate n (fresh_pass claims),
  some,
  as_many,
  still,
)
