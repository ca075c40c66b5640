-- The tests of a header's bytes are those of its fields, behind those of the magic and the version.
use Rattle.std.proofs.Common.{◌≡◌, ◌-◌, ℕ, List, Bool, true, false, length, take, drop, sym, ap, ◌∙◌, arith, length-drop}
use Rattle.std.specs.Prelude.{not}
use Rattle.std.specs.Str.{bytes_eq}
use Rattle.std.proofs.lemmas.Bool.{cond-true}
use Rattle.std.proofs.lemmas.List.{take_all}
use Rattle.byteorder.specs.Endian.{little_number}
use Rattle.series_file.specs.Format.{magic}
use Rattle.series_file.specs.Faults.{field}
use Rattle.series_file.proofs.HeaderTests.{gives}
use Rattle.series_file.proofs.header.parse.Goals as goal
use Rattle.series_file.proofs.header.parse.Goals.{After-read_u32-last}

-- the number in front of all bytes from a place on is the field there
field_is : (place n : ℕ) (bytes : List ℕ)
    → little_number n (take (length bytes - place) (drop place bytes)) ≡ field place n bytes
field_is place n bytes =
    ap (λ xs. little_number n xs) (take_all (length bytes - place) (drop place bytes) (omega (arith, length-drop place bytes)))

-- a test that does not fail holds
holds : (b : Bool) → not b ≡ false → b ≡ true
holds b passed = grind arith

pub returns-then-ne-clause-exact : goal.returns-then-ne-clause-exact
returns-then-ne-clause-exact c =
    cond-true (not (bytes_eq (take 4 c.args.bytes.now) magic)) _ _ (sym c.ne.ensures ∙ c.if-ne.true)

-- what was read are the fields, behind the magic
fields : (c : After-read_u32-last)
    → let bytes = c.args.bytes.now in
    (bytes_eq (take 4 bytes) magic ≡ true) × (c.read_u16-version.result ≡ field 4 2 bytes) × (c.read_u16-narrow.result ≡ field 6 2 bytes)
    × (c.read_u32-middle.result ≡ field 8 4 bytes) × (c.read_u32-last.result ≡ field 12 4 bytes)
fields c =
    let bytes = c.args.bytes.now in (
      holds _ (sym c.ne.ensures ∙ c.if-ne.false),
      c.read_u16-version.ensures ∙ field_is 4 2 bytes,
      c.read_u16-narrow.ensures ∙ field_is 6 2 bytes,
      c.read_u32-middle.ensures ∙ field_is 8 4 bytes,
      c.read_u32-last.ensures ∙ field_is 12 4 bytes,
    )

pub returns-in-1-clause-exact : goal.returns-in-1-clause-exact
returns-in-1-clause-exact c =
    let is = fields (goal.at.returns-in-1-clause-exact c).After-read_u32-last in
    gives _ _ _ _ _ 1 _ _ _ _ is.0 (sym is.1 ∙ c.in-1.is) (sym (c.from.ensures ∙ is.2)) (sym is.3) (sym is.4) c.test.ensures

pub returns-in-2-clause-exact : goal.returns-in-2-clause-exact
returns-in-2-clause-exact c =
    let is = fields (goal.at.returns-in-2-clause-exact c).After-read_u32-last in
    gives _ _ _ _ _ 2 _ _ _ _ is.0 (sym is.1 ∙ c.in-2.is) (sym (c.from-in-2.ensures ∙ is.2)) (sym is.3) (sym is.4) c.test-in-2.ensures
