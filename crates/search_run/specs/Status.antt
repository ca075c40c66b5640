-- The number of each status, and the line that tells it.
use Rattle.std.specs.Prelude.{ℕ, List, [], ◌∷◌, ◌++◌, codes, decimal}
use Rattle.certificate.specs.Spelling.{limit_text}
use Rattle.certificate.specs.declared.error.Reject.{Reject}
use Rattle.certificate.specs.declared.error.Reject.TheVariants as reject
use Rattle.series_file.specs.declared.error.FileError.{FileError}
use Rattle.series_file.specs.declared.error.FileError.TheVariants.{ShortHeader, Magic, Version, Length, Count, Reserved, TooLarge, Truncated, Trailing, Uneven, ReadFault as FileReadFault, NoMemory}
use Rattle.saved_index.specs.declared.error.IndexFault.{IndexFault}
use Rattle.saved_index.specs.declared.error.IndexFault.TheVariants as index
use Rattle.search_run.specs.declared.status.Which.{Which}
use Rattle.search_run.specs.declared.status.Which.TheVariants.{Series, Queries, Certificate, Index as IndexFile}
use Rattle.search_run.specs.declared.status.CertFault.{CertFault}
use Rattle.search_run.specs.declared.status.CertFault.TheVariants.{Line, TooLong, Rejected}
use Rattle.search_run.specs.declared.status.Status.{Status}
use Rattle.search_run.specs.declared.status.Status.TheVariants.{Done, Usage, Missing, ReadFault, Format, Mismatch, Settings, WriteFault, Memory, Invalid, Index}

-- the number that the program exits with
abbrev pub code_of : Status → ℕ
code_of Done = 0
code_of Usage = 2
code_of (Missing w) = 3
code_of (ReadFault w) = 4
code_of (Format w e) = 5
code_of (Mismatch a b) = 6
code_of (Settings w n) = 7
code_of WriteFault = 8
code_of Memory = 9
code_of (Invalid fault) = 10
code_of (Index fault) = 11

-- what a file is called in a line
abbrev pub file_word : Which → List ℕ
file_word Series = codes "data"
file_word Queries = codes "queries"
file_word Certificate = codes "certificate"
file_word IndexFile = codes "index"

-- what is wrong with a series file
abbrev pub file_cause : FileError → List ℕ
file_cause (ShortHeader a) = codes "header ends at byte " ++ decimal a
file_cause Magic = codes "not a series file"
file_cause (Version v) = codes "version " ++ decimal v
file_cause (Length n) = codes "length " ++ decimal n
file_cause (Count c) = codes "count " ++ decimal c
file_cause (Reserved r) = codes "reserved " ++ decimal r
file_cause (TooLarge t) = codes "too large " ++ decimal t
file_cause (Truncated at want) = codes "ends at byte " ++ decimal at ++ codes " of " ++ decimal want
file_cause (Trailing b) = codes "bytes after " ++ decimal b
file_cause (Uneven b) = decimal b ++ codes " bytes are no whole number of series"
file_cause FileReadFault = codes "read failed"
file_cause NoMemory = codes "out of memory"

-- a query and a number of it, each behind its word
abbrev pub query_part : ℕ → List ℕ → ℕ → List ℕ
query_part b word n = codes "query " ++ decimal b ++ word ++ decimal n

-- the bound that is said of a leaf
abbrev pub bound_part : ℕ → ℕ → ℕ → List ℕ
bound_part b l bound = query_part b (codes " leaf ") l ++ codes " bound " ++ decimal bound

-- which test a certificate fails; a last distance that stands for no last answer is reported as a word
abbrev pub reject_cause : Reject → List ℕ
reject_cause (reject.Blocks have want) = decimal have ++ codes " blocks for " ++ decimal want ++ codes " queries"
reject_cause (reject.Answers b r) = query_part b (codes " answer ") r
reject_cause (reject.Bound b l said real) = bound_part b l said ++ codes " is " ++ decimal real
reject_cause (reject.Low b l bound last) = bound_part b l bound ++ codes " is not above " ++ limit_text last
reject_cause (reject.Missed b number) = query_part b (codes " misses ") number
reject_cause reject.NoMemory = codes "out of memory"

-- why a certificate does not hold
abbrev pub certificate_cause : CertFault → List ℕ
certificate_cause (Line at) = codes "line " ++ decimal at
certificate_cause TooLong = codes "longer than 1073741824 bytes"
certificate_cause (Rejected why) = reject_cause why

-- two numbers of the same kind that differ, behind its word
abbrev pub differing : List ℕ → ℕ → ℕ → List ℕ
differing word have want = word ++ decimal have ++ codes " is not " ++ decimal want

-- what a saved index has against it over the series
abbrev pub index_cause : IndexFault → List ℕ
index_cause index.NotIndex = codes "not an index"
index_cause (index.Length have want) = differing (codes "length ") have want
index_cause (index.Count have want) = differing (codes "count ") have want
index_cause (index.Unfit s) = codes "series " ++ decimal s ++ codes " does not fit"
index_cause index.TooLong = codes "longer than 1073741824 bytes"
index_cause index.ReadFault = codes "read failed"
index_cause index.NoMemory = codes "out of memory"

-- why the run ended so
abbrev pub cause_of : Status → List ℕ
cause_of Done = []
cause_of Usage = codes "the words are not a command"
cause_of (Missing w) = file_word w ++ codes ": no such file"
cause_of (ReadFault w) = file_word w ++ codes ": read failed"
cause_of (Format w e) = file_word w ++ codes ": " ++ file_cause e
cause_of (Mismatch a b) = codes "lengths differ: " ++ decimal a ++ codes " and " ++ decimal b
cause_of (Settings w n) = decimal w ++ codes " segments are more than length " ++ decimal n
cause_of WriteFault = codes "write failed"
cause_of Memory = codes "out of memory"
cause_of (Invalid fault) = codes "certificate: " ++ certificate_cause fault
cause_of (Index fault) = codes "index: " ++ index_cause fault

-- the line that tells a status: nothing where the whole text was written
abbrev pub fault_line : Status → List ℕ
fault_line Done = []
fault_line s = codes "isearch: " ++ cause_of s ++ 10 ∷ []
