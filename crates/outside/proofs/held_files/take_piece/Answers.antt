use Rattle.std.proofs.Common.{◌≡◌, ◌∙◌, ap, sym, length, arith, length-drop}
use Rattle.outside.proofs.HeldLists.{bytes_at-get_or, pieces_of-rest}
use Rattle.outside.specs.HeldFiles.{bytes_at}
use Rattle.outside.proofs.held_files.take_piece.Goals as goal

pub returns-clause-taken : goal.returns-clause-taken
returns-clause-taken c =
    let here : bytes_at c.args.files.now c.args.file.place ≡ c.deref.result.now =
    bytes_at-get_or c.args.files.now c.args.file.place c.index-files-file.result c.requires.0
    ∙ sym c.deref.ensures.value in
    pieces_of-rest _ c.deref.result.now c.args.file.taken c.min-count.result
    c.copy_from_slice.new.self
    _
    here
    c.copy_from_slice.ensures.after
    (omega (arith, length-drop c.args.file.taken c.deref.result.now))

pub returns-clause-among_held : goal.returns-clause-among_held
returns-clause-among_held c =
    let here : bytes_at c.args.files.now c.args.file.place ≡ c.deref.result.now =
    bytes_at-get_or c.args.files.now c.args.file.place c.index-files-file.result c.requires.0
    ∙ sym c.deref.ensures.value in
    let size = length-drop c.args.file.taken c.deref.result.now in
    (c.requires.0, omega (arith, ap length here, c.requires.1, size))
