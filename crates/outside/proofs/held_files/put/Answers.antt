use Rattle.std.proofs.Common.{sym, ap, ◌∙◌}
use Rattle.std.specs.List.{position}
use Rattle.std.specs.String.{string_bytes}
use Rattle.outside.proofs.HeldLists.{held_under-set, held_under-push, name_at-set, name_at-push}
use Rattle.outside.proofs.held_files.put.Goals as goal

pub returns-in-Some-clause-held : goal.returns-in-Some-clause-held
returns-in-Some-clause-held c =
    held_under-set c.args.name.now c.args.files.now.items c.in-Some.place _ c.index_mut.result.now
    (ap (position _) (sym c.deref.ensures.value) ∙ sym c.place_of.ensures.first ∙ c.in-Some.is)
    (ap (λ file. string_bytes file.name) c.index_mut.ensures.value)

pub returns-in-Some-clause-names : goal.returns-in-Some-clause-names
returns-in-Some-clause-names c place within =
    name_at-set c.args.files.now.items c.in-Some.place _ c.index_mut.result.now
    (ap (λ file. string_bytes file.name) c.index_mut.ensures.value)
    place

pub returns-in_ok-push-in-None-clause-held : goal.returns-in_ok-push-in-None-clause-held
returns-in_ok-push-in-None-clause-held c asked =
    rw c.in_ok-push-in-None.ensures.items
    (held_under-push c.args.name.now c.args.files.now.items _
    (ap (position _) (sym c.deref.ensures.value) ∙ sym c.place_of.ensures.first ∙ c.in-None.is)
    c.in_ok-name-in-None.ensures.ok
    asked)

pub returns-in_ok-push-in-None-clause-names : goal.returns-in_ok-push-in-None-clause-names
returns-in_ok-push-in-None-clause-names c place within =
    rw c.in_ok-push-in-None.ensures.items (name_at-push c.args.files.now.items _ place within)
