use Rattle.std.proofs.Common.{◌≡◌, ◌<◌, length, subst, ℕ}
use Rattle.outside.proofs.HeldLists.{open_name-within}
use Rattle.outside.proofs.mem_files.MemFilesFiles.read.Goals as goal

pub invariant_of-self : goal.invariant_of-self
invariant_of-self c = record {
  some_cap = c.args.self.now.some_cap;
  among_held = λ x e. cc;
  blamed_held = λ x e.
      let same : c.in-Some.file.place ≡ x = cc in
      let P : ℕ → Type 0 = λ place. place < length c.args.self.now.files.items in
      subst P same (c.args.self.now.among_held c.in-Some.file c.in-Some.is).0;
}

pub returns-then-contains-clause-none_open : goal.returns-then-contains-clause-none_open
returns-then-contains-clause-none_open c none =
    let self = c.args.self.now in
    let among = self.among_held c.in-Some.file c.in-Some.is in
    absurd (open_name-within self.files.items self.opened c.in-Some.file c.in-Some.is among.0 none)

pub take_piece-count-requires : goal.take_piece-count-requires
take_piece-count-requires c =
    rw c.deref-2.ensures.value (c.args.self.now.among_held c.in-Some.file c.in-Some.is)
