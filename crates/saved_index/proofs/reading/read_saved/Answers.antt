-- The root children behind the header are all, where nothing is left.
use Rattle.std.proofs.Common.{refl, arith}
use Rattle.saved_index.proofs.WholeRead.{read_to_end, read_past}
use Rattle.saved_index.proofs.reading.read_saved.Goals as goal

pub returns-then-found-bytes-clause-refused : goal.returns-then-found-bytes-clause-refused
returns-then-found-bytes-clause-refused c = λ refused.
    let read = c.in-Ok.ensures.read in
    read_past c.args.bytes.now c.in-Some.fields c.in-Ok.found.roots.items read.trees c.in-Ok.found.at
    (c.in-Some.ensures.some.0 refl) c.in-Some.ensures.says c.in-Some.ensures.roots read.is (omega arith)

pub returns-clause-read : goal.returns-clause-read
returns-clause-read c =
    let read = c.in-Ok.ensures.read in
    record {
      saved = record {
        header = record {
          segments = c.in-Some.fields.segments;
          table = c.in-Some.fields.table;
          points = c.in-Some.fields.length;
          count = c.in-Some.fields.count;
          leaf_size = c.in-Some.fields.leaf_size;
        };
        roots = c.in-Ok.found.roots.items;
        nodes = read.trees;
      };
      is = read_to_end c.args.bytes.now c.in-Some.fields c.in-Ok.found.roots.items read.trees c.in-Ok.found.at
          (c.in-Some.ensures.some.0 refl) c.in-Some.ensures.says c.in-Some.ensures.roots read.is (omega arith);
      header = refl;
      roots = refl;
      nodes_are = read.nodes_are;
      lists_are = read.lists_are;
      few = omega (arith, read.fewer, read.within);
    }
