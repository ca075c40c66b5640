-- The word contains the full words of the members so far.
use Rattle.std.proofs.Common.{◌≡◌, ℕ, ◌<◌, true, get_or}
use Rattle.isax_word.specs.declared.member.Member.{Member}
use Rattle.isax_word.specs.Word.{word_contains}
use Rattle.saved_index.proofs.fitting.contains_members.Given as goal

abbrev pub invariant-loop-member : goal.invariant-loop-member
invariant-loop-member l = (k : ℕ) (d : Member) → k < l.member-index → word_contains l.word (get_or l.members k d).full ≡ true
