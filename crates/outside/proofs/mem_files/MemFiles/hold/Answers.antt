use Rattle.std.proofs.Common.{arith}
use Rattle.outside.proofs.mem_files.MemFiles.hold.Goals as goal

pub invariant_of-self : goal.invariant_of-self
invariant_of-self c = record {
  some_cap = c.args.self.now.some_cap;
  among_held = λ x e. rw c.in_err-put.ensures.err (c.args.self.now.among_held x e);
  blamed_held = λ x e. rw c.in_err-put.ensures.err (c.args.self.now.blamed_held x e);
}

pub invariant_of-self-2 : goal.invariant_of-self-2
invariant_of-self-2 c = record {
  some_cap = c.args.self.now.some_cap;
  among_held = λ x e. cc;
  blamed_held = λ x e. omega (arith, c.args.self.now.blamed_held x e, c.in_ok-put.ensures.longer);
}
