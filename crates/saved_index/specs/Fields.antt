-- The fields of a header as they are read.
use Rattle.saved_index.specs.declared.header.Fields.{Fields}
use Rattle.saved_index.specs.Saved.{Header}

-- the header of these fields
abbrev pub header_of : Fields → Header
header_of f = record {
  segments = f.segments;
  table = f.table;
  points = f.length;
  count = f.count;
  leaf_size = f.leaf_size;
}
