-- Reading a buffer full in pieces: what a part of the buffer took, the buffer has.
use Rattle.std.proofs.Common.{◌≡◌, ℕ, ◌+◌, ◌-◌, ◌≤◌, List, ◌++◌, length, take, ap, sym, ◌∙◌}
use Rattle.std.proofs.Math.Seq.{take-append-add}
use Rattle.std.proofs.lemmas.List.{take-append-le, length-take-le}
use borrow.Rule.Slice.PartMut.{put_mid, post_of}

-- the front of a buffer whose rest from a place on was written: what stood before the place, and then the new front
pub take-put_mid_front : (done count : ℕ) (buffer piece : List ℕ) → done ≤ length buffer
    → count ≤ length piece
    → take (done + count) (put_mid done (length buffer - done) buffer piece)
    ≡ take done buffer ++ take count piece
take-put_mid_front done count buffer piece within fits =
    ap (λ n. take (n + count) (take done buffer ++ rest)) (sym (length-take-le done buffer within))
    ∙ take-append-add (take done buffer) rest count
    ∙ ap (λ more. take done buffer ++ more)
    (take-append-le count piece (post_of done (length buffer - done) buffer) fits)
  where
    rest : List ℕ
    rest = piece ++ post_of done (length buffer - done) buffer
