-- One word more.
use Rattle.std.proofs.Common.{◌≡◌, ◌∙◌, refl, ap, sym, arith, map, take}
use Rattle.std.specs.List.{range_with_len}
use Rattle.std.proofs.lemmas.List.{length-set, take_all}
use Rattle.row_codes.specs.Codes.{word_of}
use Rattle.row_codes.proofs.Packed.{front_more}
use Rattle.row_codes.proofs.coding.packed.Goals as goal

pub loop-j-preserved : goal.loop-j-preserved
loop-j-preserved c =
    let cs = c.args.codes.now in
    let long = c.loop-j.invariant.long in
    record {
      long = length-set c.loop-j.words c.loop-j.j (word_of cs c.loop-j.j) ∙ long;
      front = front_more (word_of cs) c.loop-j.words c.loop-j.j (word_of cs c.loop-j.j) (omega (arith, long, c.loop-j-test.true))
          c.loop-j.invariant.front refl;
    }

pub returns : goal.returns
returns c =
    let all : c.loop-j.j ≡ 64 = omega (arith, c.loop-j-test.false, c.loop-j.auto.j-end) in
    let ws = c.loop-j.words in
    sym (take_all 64 ws (omega (arith, c.loop-j.invariant.long))) ∙ ap (λ n. take n ws) (sym all) ∙ c.loop-j.invariant.front
    ∙ ap (λ n. map (word_of c.args.codes.now) (range_with_len 0 n)) all
