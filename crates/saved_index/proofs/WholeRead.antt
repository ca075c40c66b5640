-- A text read whole: to its end (`read_to_end`), or with bytes behind it (`read_past`).
use Rattle.std.proofs.Common.{◌≡◌, ℕ, ◌<◌, ◌≤◌, true, List, length, drop, Some, None, sym, ap, ◌∙◌}
use Rattle.std.proofs.lemmas.Bool.{cond-true}
use Rattle.std.proofs.lemmas.List.{drop_all}
use Rattle.byteorder.specs.Endian.{little_number}
use Rattle.subtree_build.specs.Tree.{Tree}
use Rattle.saved_index.specs.declared.header.Fields.{Fields}
use Rattle.saved_index.specs.Fields.{header_of}
use Rattle.saved_index.specs.Saved.{Header}
use Rattle.saved_index.specs.Reading.{Read, roots_in, has_header, header_at, roots_behind, at_end, whole, saved_in}
use Rattle.saved_index.proofs.NodesRead.{drop_byte}
use Rattle.saved_index.proofs.RootsRead.{Roots}

saved_from : (bytes : List ℕ) (f : Fields) (o : Read Roots) → has_header bytes ≡ true → header_of f ≡ header_at bytes
    → f.roots ≡ little_number 4 (drop 20 bytes) → roots_in f.roots 0 f.segments f.count (drop 24 bytes) ≡ o
    → saved_in bytes ≡ whole (header_of f) o
saved_from bytes f o has says roots_are is =
    cond-true (has_header bytes) (whole (header_at bytes) (roots_behind (header_at bytes) bytes)) None has
    ∙ ap (λ (h : Header). whole h (roots_behind h bytes)) (sym says)
    ∙ ap (λ k. whole (header_of f) (roots_in k 0 f.segments f.count (drop 24 bytes))) (sym roots_are)
    ∙ ap (whole (header_of f)) is

pub read_to_end : (bytes : List ℕ) (f : Fields) (roots : List ℕ) (trees : List (Tree (List ℕ))) (at : ℕ)
    → has_header bytes ≡ true → header_of f ≡ header_at bytes → f.roots ≡ little_number 4 (drop 20 bytes)
    → roots_in f.roots 0 f.segments f.count (drop 24 bytes) ≡ Some ((roots, trees), drop at bytes) → length bytes ≤ at
    → saved_in bytes ≡ Some (record { header = header_of f; roots = roots; nodes = trees })
read_to_end bytes f roots trees at has says roots_are is end =
    saved_from bytes f (Some ((roots, trees), drop at bytes)) has says roots_are is
    ∙ ap (at_end (header_of f) (roots, trees)) (drop_all at bytes end)

pub read_past : (bytes : List ℕ) (f : Fields) (roots : List ℕ) (trees : List (Tree (List ℕ))) (at : ℕ)
    → has_header bytes ≡ true → header_of f ≡ header_at bytes → f.roots ≡ little_number 4 (drop 20 bytes)
    → roots_in f.roots 0 f.segments f.count (drop 24 bytes) ≡ Some ((roots, trees), drop at bytes) → at < length bytes
    → saved_in bytes ≡ None
read_past bytes f roots trees at has says roots_are is past =
    saved_from bytes f (Some ((roots, trees), drop at bytes)) has says roots_are is
    ∙ ap (at_end (header_of f) (roots, trees)) (drop_byte bytes at past)
