use Rattle.std.proofs.Common.{◌≡◌, ◌++◌, [], ◌∷◌, List, length, take, length-append, arith, ap, ◌∙◌}
use Rattle.isax_word.specs.declared.word.Part.{Part}
use Rattle.isax_word.specs.Word.{parts_of}
use Rattle.certificate.proofs.PartLists.{parts_push}
use Rattle.certificate.proofs.parts.Parts.push.Goals as goal

pub invariant_of-self : goal.invariant_of-self
invariant_of-self c =
    let before = parts_of (take c.self.inside.count c.self.inside.prefixes) (take c.self.inside.count c.self.inside.bits) in
    let same : length before ≡ length c.args.self.now = ap length c.self.view_is in
    let count : length before ≡ c.self.inside.count = c.self.invariant.1 in
    let more = parts_push c.self.inside.prefixes c.self.inside.bits c.self.inside.count c.args.part.prefix c.args.part.bits
    (omega (arith, c.self.told.0, c.requires)) (omega (arith, c.self.told.1, c.requires)) in
    (omega (arith, c.requires), ap length more ∙ length-append before (c.args.part ∷ []) ∙ omega arith)

pub returns : goal.returns
returns c =
    let before = parts_of (take c.self.inside.count c.self.inside.prefixes) (take c.self.inside.count c.self.inside.bits) in
    let same : length before ≡ length c.args.self.now = ap length c.self.view_is in
    let count : length before ≡ c.self.inside.count = c.self.invariant.1 in
    parts_push c.self.inside.prefixes c.self.inside.bits c.self.inside.count c.args.part.prefix c.args.part.bits
    (omega (arith, c.self.told.0, c.requires)) (omega (arith, c.self.told.1, c.requires))
    ∙ ap (λ (ps : List Part). ps ++ c.args.part ∷ []) c.self.view_is

pub bounds-self-inside-self-inside : goal.bounds-self-inside-self-inside
bounds-self-inside-self-inside c =
    let before = parts_of (take c.self.inside.count c.self.inside.prefixes) (take c.self.inside.count c.self.inside.bits) in
    let same : length before ≡ length c.args.self.now = ap length c.self.view_is in
    let count : length before ≡ c.self.inside.count = c.self.invariant.1 in
    omega (arith, c.self.told.0, c.requires)

pub bounds-self-inside-self-inside-2 : goal.bounds-self-inside-self-inside-2
bounds-self-inside-self-inside-2 c =
    let before = parts_of (take c.self.inside.count c.self.inside.prefixes) (take c.self.inside.count c.self.inside.bits) in
    let same : length before ≡ length c.args.self.now = ap length c.self.view_is in
    let count : length before ≡ c.self.inside.count = c.self.invariant.1 in
    omega (arith, c.self.told.1, c.requires)
