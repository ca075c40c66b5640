-- A certificate has one fault at most (`one_fault`), and none where it holds (`holds_without`).
use Rattle.std.proofs.Common.{◌≡◌, ℕ, ◌<◌, ◌≤◌, ◌^◌, List, length, Bool, sym, ap, refl, ◌∙◌, arith, ⊎_elim}
use Rattle.std.proofs.lemmas.Bool.{cases_lt}
use Rattle.std.proofs.lemmas.Option.{none-some, same_Some}
use Rattle.certificate.specs.Grammar.{IsFaultAt, Spells, lines_of}
use Rattle.certificate.specs.Spelling.{file_lines}
use Rattle.certificate.specs.Reading.{blocks_read, nothing_read}
use Rattle.certificate.specs.declared.block.Block.{Block}
use Rattle.certificate.specs.declared.error.Reject.{Reject}
use Rattle.certificate.proofs.FileLines.{file_text_lines}
use Rattle.certificate.proofs.Running.{run}
use Rattle.certificate.proofs.Walks.{fault_alone}
use Rattle.certificate.proofs.WholeRuns.{file_run}
use Rattle.search_run.specs.Certificates.{IsFault, IsValid, Subject, verdict_of}
use Rattle.search_run.specs.declared.status.CertFault.{CertFault}
use Rattle.search_run.specs.declared.status.CertFault.TheVariants.{Line, TooLong, Rejected}

-- the lines of bytes that spell blocks are those of the blocks
lines_spelled : (s : ℕ) (l : Bool) (bytes : List ℕ) (bs : List Block) → length bytes < 2 ^ 64 → Spells s l bytes bs
    → lines_of bytes ≡ file_lines bs
lines_spelled s l bytes bs small spells =
    let size = ap length spells.text in
    ap lines_of spells.text ∙ file_text_lines s l bs (omega arith) spells.are_blocks

-- bytes spell one list of blocks
spells_once : (s : ℕ) (l : Bool) (bytes : List ℕ) (bs cs : List Block) → length bytes < 2 ^ 64
    → Spells s l bytes bs → Spells s l bytes cs → bs ≡ cs
spells_once s l bytes bs cs small first second =
    let a = file_run s l bs first.are_blocks in
    let b = file_run s l cs second.are_blocks in
    let lines : file_lines bs ≡ file_lines cs =
    sym (lines_spelled s l bytes bs small first) ∙ lines_spelled s l bytes cs small second in
    let last : a.last ≡ b.last = same_Some a.last b.last (sym a.read ∙ ap (run s l nothing_read) lines ∙ b.read) in
    sym a.blocks ∙ ap blocks_read last ∙ b.blocks

-- no line before a fault is a fault
not_before : (s : ℕ) (l : Bool) (bytes : List ℕ) (at later : ℕ) → IsFaultAt s l bytes at → IsFaultAt s l bytes later
    → at < later → ⊥
not_before s l bytes at later first second less =
    let within = second.last in first.here (omega arith) (second.before at less)

-- bytes have one line that is their fault
one_line : (s : ℕ) (l : Bool) (bytes : List ℕ) (at other : ℕ) → IsFaultAt s l bytes at → IsFaultAt s l bytes other
    → at ≡ other
one_line s l bytes at other first second =
    ⊎_elim
    (λ (less : at < other). absurd (not_before s l bytes at other first second less))
    (λ (most : other ≤ at).
    ⊎_elim
    (λ (less : other < at). absurd (not_before s l bytes other at second first less))
    (λ (least : at ≤ other). omega arith)
    (cases_lt other at))
    (cases_lt at other)

-- bytes have one fault
pub one_fault : (s : Subject) (bytes : List ℕ) (e f : CertFault) → IsFault s e bytes → IsFault s f bytes → e ≡ f
one_fault s bytes TooLong TooLong first second = refl
one_fault s bytes TooLong (Line at) first second = absurd (omega (arith, first, second.0))
one_fault s bytes TooLong (Rejected why) first second = absurd (omega (arith, first, second.0))
one_fault s bytes (Line at) TooLong first second = absurd (omega (arith, first.0, second))
one_fault s bytes (Rejected why) TooLong first second = absurd (omega (arith, first.0, second))
one_fault s bytes (Line at) (Line other) first second =
    ap (λ n. Line n) (one_line _ _ bytes at other first.1 second.1)
one_fault s bytes (Line at) (Rejected why) first second =
    absurd (fault_alone _ _ bytes at second.2.0 (omega (arith, first.0)) first.1 second.2.1)
one_fault s bytes (Rejected why) (Line at) first second =
    absurd (fault_alone _ _ bytes at first.2.0 (omega (arith, first.0)) second.1 first.2.1)
one_fault s bytes (Rejected why) (Rejected other) first second =
    let same = spells_once _ _ bytes first.2.0 second.2.0 (omega (arith, first.0)) first.2.1 second.2.1 in
    ap (λ (r : Reject). Rejected r)
    (same_Some why other (sym first.2.2 ∙ ap (verdict_of s) same ∙ second.2.2))

-- a certificate that holds has no fault
pub holds_without : (s : Subject) (bytes : List ℕ) (e : CertFault) → IsValid s bytes → IsFault s e bytes → ⊥
holds_without s bytes TooLong valid fault = omega (arith, valid.short, fault)
holds_without s bytes (Line at) valid fault =
    fault_alone _ _ bytes at valid.sound.blocks (omega (arith, valid.short)) fault.1 valid.sound.spelled
holds_without s bytes (Rejected why) valid fault =
    let same = spells_once _ _ bytes valid.sound.blocks fault.2.0 (omega (arith, valid.short)) valid.sound.spelled fault.2.1 in
    none-some why (sym valid.sound.passed ∙ ap (verdict_of s) same ∙ fault.2.2)
