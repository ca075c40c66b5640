-- A header that is read has its bytes as its text (`header_sound`), and so has the whole (`saved_sound`).
use Rattle.std.proofs.Common.{◌≡◌, ℕ, zero, suc, ◌+◌, ◌^◌, ◌≤◌, Bool, true, false, List, [], ◌∷◌, ◌++◌, length, take, drop, Some, None, refl, sym, ap, ◌∙◌, subst, arith, append-nil}
use Rattle.std.specs.Prelude.{◌&&◌, nat_le, slice_index}
use Rattle.std.specs.Str.{bytes_eq}
use Rattle.std.specs.Cmp.Lexicographic.{bytes_decides}
use Rattle.std.proofs.lemmas.Bool.{false≢true}
use Rattle.std.proofs.lemmas.Bool.Decides.{nat_tests}
use Rattle.std.proofs.lemmas.Option.{same_Some, none-some}
use Rattle.std.proofs.lemmas.List.{take-append-drop, drop-drop, length-drop}
use Rattle.byteorder.specs.Endian.{little_bytes, little_number}
use Rattle.subtree_build.specs.Assembly.{AreRoots}
use Rattle.subtree_build.specs.Tree.{Tree}
use Rattle.series_file.proofs.Numbers.{AreBytes, drop_bytes}
use Rattle.saved_index.specs.Saved.{Header, IsHeader, Saved, AreRootNodes, IsTextOf, header_text, roots_text, table_byte}
use Rattle.saved_index.specs.Reading.{Read, table_of, header_at, is_header, has_header, roots_behind, saved_in, at_end, whole}
use Rattle.saved_index.proofs.NodesRead.{drop_byte}
use Rattle.saved_index.proofs.Sound.{four_bytes, if_some, increase, below, roots_sound}

-- two tests that pass together pass
both_pass : (a b : Bool) → (a && b) ≡ true → (a ≡ true) × (b ≡ true)
both_pass true b is = (refl, is)
both_pass false b is = absurd (false≢true is)

-- a header that passes keeps its limits
header_kept : (h : Header) → is_header h ≡ true → IsHeader h
header_kept h passes = record {
  some_segments = grind (arith, nat_tests);
  few_segments = grind (arith, nat_tests);
  no_empty_segment = grind (arith, nat_tests);
  length_limit = grind (arith, nat_tests);
  count_limit = grind (arith, nat_tests);
  some_leaf_size = grind (arith, nat_tests);
  leaf_size_limit = grind (arith, nat_tests);
}

-- a table has its byte
table_told : (b : ℕ) → b ≤ 1 → table_byte (table_of b) ≡ b
table_told zero small = refl
table_told (suc zero) small = refl
table_told (suc (suc b)) small = absurd (omega arith)

-- the bytes from a place on begin with those of the number there
number_there : (bytes : List ℕ) (at : ℕ) → AreBytes bytes → at + 4 ≤ length bytes
    → drop at bytes ≡ little_bytes 4 (little_number 4 (drop at bytes)) ++ drop (at + 4) bytes
number_there bytes at each long =
    four_bytes (drop at bytes) (drop_bytes at bytes each) (omega (arith, length-drop at bytes, long))
    ∙ ap (λ bs. little_bytes 4 (little_number 4 (drop at bytes)) ++ bs) (drop-drop 4 at bytes)

-- a header was read from the front of these bytes
pub record IsHeaderOf (bytes : List ℕ) : Type 0 where
  pub long : 24 ≤ length bytes
  pub kept : IsHeader (header_at bytes)
  pub spelled : bytes ≡ header_text (header_at bytes) (little_number 4 (drop 20 bytes)) ++ drop 24 bytes

pub header_sound : (bytes : List ℕ) → AreBytes bytes → has_header bytes ≡ true → IsHeaderOf bytes
header_sound bytes each has =
    let h = header_at bytes in
    let one = both_pass (nat_le 24 (length bytes)) _ has in
    let first = one.0 in
    let two = both_pass (bytes_eq (take 6 bytes) (73 ∷ 83 ∷ 69 ∷ 88 ∷ 1 ∷ 0 ∷ [])) _ one.1 in
    let three = both_pass (nat_le (slice_index bytes 7) 1) (is_header h) two.1 in
    let third = three.0 in
    let long : 24 ≤ length bytes = grind (arith, nat_tests) in
    let small : slice_index bytes 7 ≤ 1 = grind (arith, nat_tests) in
    let front : take 6 bytes ≡ 73 ∷ 83 ∷ 69 ∷ 88 ∷ 1 ∷ 0 ∷ []
    = (bytes_decides (take 6 bytes) (73 ∷ 83 ∷ 69 ∷ 88 ∷ 1 ∷ 0 ∷ [])).0 two.0 in
    let k = little_number 4 (drop 20 bytes) in
    let last : drop 20 bytes ≡ little_bytes 4 k ++ drop 24 bytes = number_there bytes 20 each (omega (arith, long)) in
    let size : drop 16 bytes ≡ little_bytes 4 h.leaf_size ++ drop 20 bytes = number_there bytes 16 each (omega (arith, long)) in
    let count : drop 12 bytes ≡ little_bytes 4 h.count ++ drop 16 bytes = number_there bytes 12 each (omega (arith, long)) in
    let points : drop 8 bytes ≡ little_bytes 4 h.points ++ drop 12 bytes = number_there bytes 8 each (omega (arith, long)) in
    record {
      long = long;
      kept = header_kept h three.1;
      spelled =
          sym (take-append-drop 6 bytes)
          ∙ ap (λ bs. bs ++ drop 6 bytes) front
          ∙ ap (λ bs. 73 ∷ 83 ∷ 69 ∷ 88 ∷ 1 ∷ 0 ∷ bs) (drop_byte bytes 6 (omega (arith, long))
          ∙ ap (λ bs. h.segments ∷ bs) (drop_byte bytes 7 (omega (arith, long))
          ∙ ap (λ b. b ∷ drop 8 bytes) (sym (table_told (slice_index bytes 7) small))
          ∙ ap (λ bs. table_byte h.table ∷ bs) (points ∙ ap (λ bs. little_bytes 4 h.points ++ bs) (count
          ∙ ap (λ bs. little_bytes 4 h.count ++ bs) (size ∙ ap (λ bs. little_bytes 4 h.leaf_size ++ bs) last)))));
    }

-- what is read whole leaves nothing
whole_sound : (h : Header) (read : Read (List ℕ × List (Tree (List ℕ)))) (s : Saved) → whole h read ≡ Some s
    → (read ≡ Some ((s.roots, s.nodes), [])) × (s.header ≡ h)
whole_sound h None s is = absurd (none-some s is)
whole_sound h (Some p) s is = ending p.1 refl is
  where
    ending : (rest : List ℕ) → p.1 ≡ rest → at_end h p.0 rest ≡ Some s
        → (Some p ≡ Some ((s.roots, s.nodes), [])) × (s.header ≡ h)
    ending (b ∷ rest) same is = absurd (none-some s is)
    ending [] same is =
        let saved : record { header = h; roots = p.0.0; nodes = p.0.1 } ≡ s = same_Some _ s is in (
          λ i. Some (((saved i).roots, (saved i).nodes), same i),
          ap (λ (x : Saved). x.header) (sym saved),
        )

-- what bytes are read as has the header with which they begin
pub header_told : (bytes : List ℕ) (s : Saved) → saved_in bytes ≡ Some s → s.header ≡ header_at bytes
header_told bytes s is =
    let h = header_at bytes in
    (whole_sound h (roots_behind h bytes) s (if_some (has_header bytes) (whole h (roots_behind h bytes)) s is).1).1

-- what bytes are read as has them as its text
pub saved_sound : (bytes : List ℕ) (s : Saved) → AreBytes bytes → saved_in bytes ≡ Some s → IsTextOf bytes s
saved_sound bytes s each is =
    let h = header_at bytes in
    let tested = if_some (has_header bytes) (whole h (roots_behind h bytes)) s is in
    let head = header_sound bytes each tested.0 in
    let all = whole_sound h (roots_behind h bytes) s tested.1 in
    let k = little_number 4 (drop 20 bytes) in
    let read = roots_sound k 0 h.segments h.count (drop 24 bytes) s.roots s.nodes [] (drop_bytes 24 bytes each) all.0 in
    let same : h ≡ s.header = sym all.1 in
    let H : Header → Type 0 = λ x. IsHeader x in
    let R : Header → Type 0 = λ x. AreRoots x.segments s.roots in
    let N : Header → Type 0 = λ x. AreRootNodes x.segments x.count s.roots s.nodes in
    record {
      sound = record {
        header = subst H same head.kept;
        roots = subst R same (record {
          ascend = increase 0 (2 ^ h.segments) s.roots read.up;
          fit = below 0 (2 ^ h.segments) s.roots read.up;
        });
        nodes = subst N same read.are;
      };
      spelled =
          head.spelled
          ∙ ap (λ bs. header_text h k ++ bs) (read.spelled ∙ append-nil (roots_text s.roots s.nodes))
          ∙ ap (λ x. header_text x k ++ roots_text s.roots s.nodes) same
          ∙ ap (λ n. header_text s.header n ++ roots_text s.roots s.nodes) (sym read.many);
    }
